-- `cut_slot` meets its contract: the first area that ends past the address decides. Assumes nothing.
use native.Mathlib.Omega.{arith}
use mathlib.Core.Path.{◌∙◌, sym}
use Rattle.area_list.proofs.Rows.{length_rows}
use Rattle.area_list.proofs.Goodness.{tables_are}
use Rattle.protection.proofs.Splits.{none_past, starts_later, not_changed, split_here}
use Rattle.protection.proofs.cut_slot.Goals as goal

pub returns-then-areas-slot : goal.returns-then-areas-slot
returns-then-areas-slot c = sym (length_rows _ _)
    ∙ none_past _ _ _ _ _ c.first_ending_past-slot.ensures (rw length_rows c.if-areas-slot.true)

pub returns-then-address-area : goal.returns-then-address-area
returns-then-address-area c = sym (length_rows _ _)
    ∙ starts_later _ _ _ _ _ c.first_ending_past-slot.ensures (tables_are _ _ _ c.args.areas.good).ordered
    _ c.at-area.ensures (rw length_rows (omega arith)) c.if-address-area.true

pub returns-then-of-area : goal.returns-then-of-area
returns-then-of-area c = sym (length_rows _ _)
    ∙ not_changed _ _ _ _ _ c.first_ending_past-slot.ensures (tables_are _ _ _ c.args.areas.good).ordered
    _ c.at-area.ensures (rw length_rows (omega arith)) (sym c.of.ensures ∙ c.if-of-area.true)

pub returns : goal.returns
returns c = (
  omega arith,
  split_here _ _ _ _ _ c.first_ending_past-slot.ensures (tables_are _ _ _ c.args.areas.good).ordered
      _ c.at-area.ensures (rw length_rows (omega arith)) c.if-address-area.false (λ e. c.if-of-area.false (c.of.ensures ∙ e)),
)
