-- `put_all` meets its contract. The loop's invariant: the first numbers are written, and the place is the one after them.
-- Assumes nothing.
use Rattle.std.proofs.Common.{map}
use Rattle.dumps.proofs.Writing.{Lists}
use Rattle.dumps.proofs.put_all.Given as goal

abbrev pub invariant-loop-value : goal.invariant-loop-value
invariant-loop-value g l =
    let n = g.T.LittleEndian in
    Lists l.initial.out n.SIZE (map n.number l.values) l.out l.value-index
