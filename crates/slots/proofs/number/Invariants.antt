-- `number` meets its contract: the loop has counted the areas of the parts that it has seen. Assumes nothing.
use Rattle.std.proofs.Common.{◌≡◌, length, take}
use Rattle.slots.specs.Splice.{parts_of}
use Rattle.slots.proofs.number.Given as goal

abbrev pub invariant-loop-part : goal.invariant-loop-part
invariant-loop-part l = l.number ≡ length (parts_of (take l.part-index l.parts))
