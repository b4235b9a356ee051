-- `first_holding` meets its contract: the first area that ends past the address decides. Assumes nothing.
use mathlib.Core.Path.{◌∙◌, sym}
use Rattle.lists.proofs.Found.{found_at, found_end}
use Rattle.area_list.proofs.Rows.{length_rows}
use Rattle.area_list.proofs.Positions.{rows_rise, holds_none, holds_at, holds_gap}
use Rattle.positions.proofs.first_holding.Goals as goal
use Rattle.positions.proofs.first_holding.Goals.{else-slot-areas-via-then-slot-areas+else-at-address, else-slot-areas-via-else-slot-areas}

pub returns-then-at-address : goal.returns-then-at-address
returns-then-at-address c =
    found_at _ _ _
    (sym (holds_at _ _ _ c.first_ending_past-slot.ensures (rw length_rows c.if-slot-areas.true) (rw (← c.at.ensures) c.if-at-address.true)))
    c.if-slot-areas.true

pub returns-else-slot-areas : goal.returns-else-slot-areas
returns-else-slot-areas c =
    found_end _ _
    (elim c.else-slot-areas.branch [
      | else-slot-areas-via-then-slot-areas+else-at-address w ↦
          sym (holds_gap _ _ _ c.first_ending_past-slot.ensures (rows_rise c.args.areas.sorted) (rw length_rows w.if-slot-areas.true)
          (rw (← w.at.ensures) w.if-at-address.false))
          ∙ length_rows _ _
      | else-slot-areas-via-else-slot-areas w ↦
          sym (holds_none _ _ _ c.first_ending_past-slot.ensures (rw length_rows w.if-slot-areas.false)) ∙ length_rows _ _
    ])
