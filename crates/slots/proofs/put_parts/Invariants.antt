-- `put_parts` meets its contract: the loop lays the areas down one after the other. Assumes nothing.
use Rattle.slots.proofs.Writes.{Laid}
use Rattle.slots.proofs.put_parts.Given as goal

abbrev pub invariant-loop-part : goal.invariant-loop-part
invariant-loop-part l = Laid l.initial.areas l.slot l.parts l.part-index l.next l.areas
