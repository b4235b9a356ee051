-- `take_bytes` meets its contract. Assumes nothing.
use Prim.Native.Nat.{◌+◌, ◌-◌}
use mathlib.Core.Path.{refl}
use native.Mathlib.Omega.{arith}
use lib.ListN.{length}
use Rattle.rules.specs.Change.{tables}
use Rattle.records.proofs.Feeding.{feeds_begin, feeds_on, feeds_end, next_part, room_on}
use Rattle.records.proofs.take_bytes.Goals as goal

pub loop-byte-init : goal.loop-byte-init
loop-byte-init c =
    record { feeds = feeds_begin _ c.args.input.now c.args.out.now; whole = c.told-bytes; part = c.requires.filled_lt_record_size; room = omega arith }

pub loop-byte-preserved : goal.loop-byte-preserved
loop-byte-preserved c =
    let room = room_on (tables c.loop-byte.areas c.loop-byte.pages c.loop-byte.fed.count) c.loop-byte.bytes c.loop-byte.fed.filled _
    (length c.args.input.now - (c.loop-byte.byte-index + 1)) c.loop-byte.invariant.whole c.loop-byte.invariant.part c.take_byte-fed.ensures.put c.take_byte-fed.ensures.filled_value in
    record {
      feeds = feeds_on c.loop-byte.invariant.feeds c.loop-byte-test.true _ refl _ c.take_byte-fed.ensures.bytes_after c.take_byte-fed.ensures.put;
      whole = omega arith;
      part = rw c.take_byte-fed.ensures.filled_value (next_part c.loop-byte.fed.filled);
      room = omega arith;
    }

pub returns : goal.returns
returns c = let end = feeds_end c.loop-byte.invariant.feeds (omega arith) in
    record { bytes_after = end.0; put = end.1; part_held = c.loop-byte.invariant.part }
