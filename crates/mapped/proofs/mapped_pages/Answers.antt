-- `mapped_pages` meets its contract, by the laws of one turn. Assumes nothing.
use native.Mathlib.Omega.{arith}
use Rattle.area.proofs.Answers.{stops}
use Rattle.mapped.specs.Mapped.{mapped_rule}
use Rattle.mapped.proofs.Sum.{walk_refused, walk_accepted, sum_begins, sum_small, sum_goes_on, sum_ends}
use Rattle.mapped.proofs.mapped_pages.Goals as goal

pub loop-area-init : goal.loop-area-init
loop-area-init c = rw c.into_iter-area-iterator.ensures.into_iter_gives (sum_begins c.args.areas _ _ _ c.new-walk.ensures)

pub overflow_add-sum : goal.overflow_add-sum
overflow_add-sum c = omega (arith, c.pages_in-sum.ensures, sum_small c.loop-area.invariant _ _ c.in-Some.ensures.steps)

pub loop-area-preserved : goal.loop-area-preserved
loop-area-preserved c = rw c.pages_in-sum.ensures (sum_goes_on c.loop-area.invariant _ _ c.in-Some.ensures.steps)

pub returns-in_err-answer : goal.returns-in_err-answer
unfolding mapped_rule
returns-in_err-answer c =
    stops _ _ _ _ _ c.from_residual.ensures.1 (walk_refused _ c.args.areas _ _ c.new-walk.ensures _ c.in_err-answer.ensures)

pub returns : goal.returns
returns c = rw (sum_ends c.loop-area.invariant _ c.in-None.ensures.steps) (walk_accepted _ c.args.areas _ _ c.new-walk.ensures _ c.in_ok-answer.ensures)
