-- `take_all` meets its contract: what is held of a record is no whole one, and the blocks so far, of a byte or more each, led to the
-- tables. Assumes nothing.
use Rattle.std.proofs.Common.{◌≡◌, ◌<◌, ◌≤◌, [], length, take}
use Rattle.requests.specs.Request.{record_size}
use Rattle.rules.specs.Change.{tables}
use Rattle.records.specs.Feed.{session}
use Rattle.stream.specs.Reading.{Runs}
use Rattle.stream.proofs.take_all.Given as goal

abbrev pub invariant-loop : goal.invariant-loop
invariant-loop g l = record {
  part : l.at.1.0 < record_size;
  whole : length l.bytes ≡ record_size;
  taken : (r : Runs (g.R.Read.remaining l.initial.reader) (g.R.Read.remaining l.reader)
      (session (tables l.initial.areas l.initial.pages 0) []) (session (tables l.areas l.pages l.at.0) (take l.at.1.0 l.bytes))) × (l.counter ≤ length r.0);
}
