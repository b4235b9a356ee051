-- `put_parts` meets its contract: the loop lays the areas down one after the other. Assumes nothing.
use native.Mathlib.Omega.{arith}
use Rattle.slots.proofs.Writes.{laid_begins, laid_room, laid_some, laid_none, laid_ends}
use Rattle.slots.proofs.put_parts.Goals as goal
use Rattle.slots.proofs.put_parts.Goals.{in-Some, in_default}

pub loop-part-init : goal.loop-part-init
loop-part-init c = laid_begins _ _ _

pub put-requires : goal.put-requires
put-requires c = omega (arith, laid_room c.loop-part.invariant (omega arith) _ c.in-Some.is)

pub loop-part-preserved : goal.loop-part-preserved
loop-part-preserved c =
    elim c.match-part.branch [
      | in-Some w ↦ rw (w.next-is, w.areas-is)
          (laid_some c.loop-part.invariant (omega arith) _ w.in-Some.is (omega arith) w.put.ensures)
      | in_default w ↦ rw (w.next-is, w.areas-is) (laid_none c.loop-part.invariant (omega arith) w.in_default.is)
    ]

pub returns : goal.returns
returns c = laid_ends c.loop-part.invariant (omega arith)

pub overflow_add-next : goal.overflow_add-next
overflow_add-next c = omega (arith, laid_room c.loop-part.invariant (omega arith) _ c.in-Some.is)
