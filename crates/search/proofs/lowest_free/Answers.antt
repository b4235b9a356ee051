-- `lowest_free` meets its contract: the pass begins at the lowest multiple of align, and each slot keeps it. Assumes nothing.
use native.Mathlib.Omega.{arith}
use mathlib.Core.Path.{◌∙◌, sym}
use Rattle.area_list.proofs.Goodness.{tables_are}
use Rattle.search.proofs.Search.{none_is}
use Rattle.search.proofs.Pass.{setting_of, pass_begins, pass_none, pass_found, pass_ends, pass_skips, pass_moves, end_small}
use Rattle.search.proofs.lowest_free.Goals as goal
use Rattle.search.proofs.lowest_free.Goals.{then-at-area, else-at-area}

pub overflow_mul-space : goal.overflow_mul-space
overflow_mul-space c = let t = tables_are _ _ _ c.requires.tables_good in omega (arith, t.pages_few)

pub returns-in_err-last : goal.returns-in_err-last
returns-in_err-last c =
    rw c.from_residual.ensures (sym (none_is _ _ (λ b f. c.in_err-last.ensures (omega (arith, f.below_high, f.inside)))))

pub returns-then-last-from : goal.returns-then-last-from
returns-then-last-from c = sym (none_is _ _ (λ b f. omega (arith, f.from_hint, f.from_low, f.below_high, f.inside)))

pub loop-slot-init : goal.loop-slot-init
loop-slot-init c =
    pass_begins _ _ _ (setting_of _ _ _ c.args.wanted _ c.requires.tables_good c.requires.legal_search (omega arith)) c.max-from.ensures
    c.align_up-at.ensures c.first_ending_past-slot.ensures

pub returns-then-last-at : goal.returns-then-last-at
returns-then-last-at c = pass_none c.loop-slot.invariant c.if-last-at.true

pub returns-then-at-wanted : goal.returns-then-at-wanted
returns-then-at-wanted c =
    pass_found c.loop-slot.invariant _ c.loop-slot-test.true c.at-area.ensures c.if-last-at.false c.if-at-wanted.true

pub align_up-at-requires-then-at-area-clause-align_bound : goal.align_up-at-requires-then-at-area-clause-align_bound
align_up-at-requires-then-at-area-clause-align_bound c = end_small c.loop-slot.invariant _ c.loop-slot-test.true c.at-area.ensures

pub loop-slot-preserved : goal.loop-slot-preserved
loop-slot-preserved c =
    elim c.if-at-area.branch [
      | then-at-area w ↦
          pass_moves c.loop-slot.invariant _ c.loop-slot-test.true c.at-area.ensures _ c.if-at-wanted.false w.if-at-area.true
          (w.at-is ∙ w.align_up-at-then-at-area.ensures)
      | else-at-area w ↦ pass_skips c.loop-slot.invariant _ c.loop-slot-test.true c.at-area.ensures _ w.if-at-area.false w.at-is
    ]

pub returns-then-last-at-2 : goal.returns-then-last-at-2
returns-then-last-at-2 c = pass_none c.loop-slot.invariant c.if-last-at-2.true

pub returns : goal.returns
returns c = pass_ends c.loop-slot.invariant c.if-last-at-2.false c.loop-slot-test.false
