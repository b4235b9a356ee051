-- `flag_inside` meets its contract. The invariant: the areas before the slot are as the whole list makes them, and those from the
-- slot on are still to be flagged. Assumes nothing.
use Rattle.protection.proofs.Flagging.{Flagging}
use Rattle.protection.proofs.flag_inside.Given as goal

abbrev pub invariant-loop-slot : goal.invariant-loop-slot
invariant-loop-slot l = Flagging l.low l.high l.change.set l.change.clear l.count l.slot l.initial.areas l.areas
