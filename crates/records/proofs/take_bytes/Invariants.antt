-- `take_bytes` meets its contract. Assumes nothing.
use mathlib.Core.Path.{◌≡◌}
use Prim.Native.Nat.{◌+◌, ◌-◌, ◌≤◌, ◌<◌}
use lib.ListN.{length, take}
use Rattle.rules.specs.Change.{tables}
use Rattle.requests.specs.Request.{record_size}
use Rattle.records.specs.Feed.{session, room_for}
use Rattle.records.proofs.Feeding.{Feeds}
use Rattle.records.proofs.take_bytes.Given as goal

abbrev pub invariant-loop-byte : goal.invariant-loop-byte
invariant-loop-byte l = record {
  feeds : Feeds (session (tables l.initial.areas l.initial.pages l.count) (take l.filled l.initial.bytes)) l.input l.initial.out
      (session (tables l.areas l.pages l.fed.count) (take l.fed.filled l.bytes)) l.out l.fed.written l.byte-index;
  whole : length l.bytes ≡ record_size;
  part : l.fed.filled < record_size;
  room : l.fed.written + room_for (l.fed.filled + (length l.input - l.byte-index)) ≤ length l.initial.out;
}
