-- `flag_inside` meets its contract. The invariant: the areas before the slot are as the whole list makes them, and those from the
-- slot on are still to be flagged. Assumes nothing.
use Rattle.area_list.proofs.Goodness.{tables_are}
use Rattle.area_list.proofs.Positions.{sorted}
use Rattle.protection.proofs.Flagging.{flagging_begins, flag_gap, flagging_goes_on, flagging_ends, flagging_stops}
use Rattle.protection.proofs.flag_inside.Goals as goal

pub invariant_of-entry : goal.invariant_of-entry
invariant_of-entry c = record { sorted = sorted (tables_are _ _ _ c.requires.tables_good) }

pub loop-slot-init : goal.loop-slot-init
loop-slot-init c = flagging_begins _ _ _ _ _ _ _ c.requires.tables_good c.first_ending_past-slot.ensures

pub invariant_of-list : goal.invariant_of-list
invariant_of-list c = record { sorted = sorted (tables_are _ _ _ c.loop-slot.invariant.good) }

pub returns-then-high-area : goal.returns-then-high-area
returns-then-high-area c = flagging_stops c.loop-slot.invariant _ c.at-area.ensures c.loop-slot-test.true c.if-high-area.true

pub splice-requires-clause-sorted_rows : goal.splice-requires-clause-sorted_rows
splice-requires-clause-sorted_rows c = sorted (tables_are _ _ _ c.loop-slot.invariant.good)

pub splice-requires-clause-gap : goal.splice-requires-clause-gap
splice-requires-clause-gap c = flag_gap _ _ _ c.loop-slot.invariant.good c.loop-slot-test.true

pub loop-slot-preserved : goal.loop-slot-preserved
loop-slot-preserved c = flagging_goes_on c.loop-slot.invariant c.requires.set_legal c.loop-slot-test.true _ _
    c.at-area.ensures
    c.flagged_area-new.ensures
    c.splice.ensures.1

pub returns-after-loop-slot : goal.returns-after-loop-slot
returns-after-loop-slot c = flagging_ends c.loop-slot.invariant c.loop-slot-test.false
