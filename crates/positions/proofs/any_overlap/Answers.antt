-- `any_overlap` meets its contract: the first area that ends past the start of the range decides. Assumes nothing.
use mathlib.Core.Path.{sym, ◌∙◌}
use borrow.Author.Tests.{le-ltb}
use Rattle.area_list.proofs.Rows.{length_rows}
use Rattle.area_list.proofs.Positions.{rows_rise}
use Rattle.area_list.proofs.Meets.{shares_nothing, any_no, none_past, first_decides}
use Rattle.positions.proofs.any_overlap.Goals as goal

pub returns-then-high-low : goal.returns-then-high-low
returns-then-high-low c = sym (any_no _ _ _ (λ i l. shares_nothing _ _ _ c.if-high-low.true))

pub returns-then-slot-areas : goal.returns-then-slot-areas
returns-then-slot-areas c =
    rw c.at.ensures
    (sym (first_decides _ _ _ _ c.first_ending_past-slot.ensures (rows_rise c.args.areas.sorted) c.if-high-low.false (rw length_rows c.if-slot-areas.true)))

pub returns-else-slot-areas : goal.returns-else-slot-areas
returns-else-slot-areas c =
    le-ltb _ _ c.if-slot-areas.false ∙ sym (none_past _ _ _ _ c.first_ending_past-slot.ensures (rw length_rows c.if-slot-areas.false))
