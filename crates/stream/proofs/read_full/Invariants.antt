-- `read_full` ends: each turn fills a byte or more. What is filled are the bytes that the reader lost. Assumes nothing.
use Rattle.std.proofs.Common.{◌≡◌, ◌-◌, length}
use Rattle.stream.specs.Reading.{Fills}
use Rattle.stream.proofs.read_full.Given as goal

abbrev pub invariant-loop-done : goal.invariant-loop-done
invariant-loop-done g l =
    (length l.buf ≡ length l.initial.buf) × Fills (g.R.Read.remaining l.initial.reader) (g.R.Read.remaining l.reader) l.buf l.done

abbrev pub decreases-loop-done : goal.decreases-loop-done
decreases-loop-done g l = length l.initial.buf - l.done
