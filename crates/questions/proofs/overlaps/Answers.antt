-- `overlaps` meets its contract. Assumes nothing.
use native.Mathlib.Omega.{arith}
use mathlib.Core.Path.{sym}
use Rattle.area_list.proofs.Goodness.{tables_are}
use Rattle.area.proofs.Answers.{accepts, stops}
use Rattle.questions.specs.Question.{overlaps_rule}
use Rattle.questions.proofs.Answering.{range_is}
use Rattle.questions.proofs.overlaps.Goals as goal

pub returns-in_err-list : goal.returns-in_err-list
unfolding overlaps_rule
returns-in_err-list c = stops _ _ _ _ _ c.from_residual.ensures.1 c.in_err-list.ensures.answer

pub overflow_add-start : goal.overflow_add-start
overflow_add-start c = let range = range_is _ _ _ _ _ (sym c.in_ok-list.ensures.answer) in omega (arith, range, (tables_are _ _ _ range.tables).pages_few)

pub returns : goal.returns
unfolding overlaps_rule
returns c = rw (c.any_overlap.ensures, c.in_ok-list.ensures.list.0, c.in_ok-list.ensures.list.1) (accepts _ _ _ (sym c.in_ok-list.ensures.answer))
