-- `read_all` meets its contract. The loop's invariant: the first k numbers were read. Assumes nothing.
use Rattle.std.proofs.Common.{map}
use Rattle.audits.proofs.Reading.{Reads}
use Rattle.audits.proofs.read_all.Given as goal

abbrev pub invariant-loop-k : goal.invariant-loop-k
invariant-loop-k g l =
    let n = g.T.LittleEndian in
    Reads l.bytes l.at n.SIZE l.k (map n.number l.initial.numbers) (map n.number l.numbers)
