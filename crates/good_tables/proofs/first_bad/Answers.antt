-- `first_bad` meets its contract: the row that is looked at is the first that breaks the rule, or leaves it to those after it.
-- Assumes nothing.
use native.Mathlib.Omega.{arith}
use mathlib.Core.Path.{◌∙◌, sym}
use Rattle.lists.proofs.Found.{found_at, found_end}
use Rattle.area_list.proofs.Goodness.{first_ends, bad_row, good_row_lem, count_fits}
use Rattle.good_tables.proofs.first_bad.Goals as goal

pub row_at-row-requires : goal.row_at-row-requires
row_at-row-requires c = omega (arith, count_fits _ _ c.requires.count_bound)

pub returns-then-not-good_after : goal.returns-then-not-good_after
returns-then-not-good_after c =
    found_at _ _ _
    (c.loop-slot.invariant ∙ bad_row _ _ _ _ _ _ c.loop-slot-test.true c.row_at-row.ensures (sym c.if-not-good_after.ensures))
    c.loop-slot-test.true

pub loop-slot-preserved : goal.loop-slot-preserved
loop-slot-preserved c =
    c.loop-slot.invariant ∙ good_row_lem _ _ _ _ _ _ c.loop-slot-test.true c.row_at-row.ensures (sym c.if-not-good_after.ensures)

pub returns : goal.returns
returns c = found_end _ _ (c.loop-slot.invariant ∙ first_ends _ _ _ _ _ c.loop-slot.auto.slot-end c.loop-slot-test.false)
