-- `read_all` meets its contract. The loop's invariant: the first k numbers were read. Assumes nothing.
use Rattle.std.proofs.Common.{arith}
use Rattle.std.proofs.lemmas.List.{length-map, map-set}
use Rattle.audits.proofs.Reading.{read_begins, read_on}
use Rattle.audits.proofs.read_all.Goals as goal

pub loop-k-init : goal.loop-k-init
loop-k-init g c = read_begins _ _ _ _

pub loop-k-preserved : goal.loop-k-preserved
loop-k-preserved g c =
    let n = g.T.LittleEndian in
    rw (map-set n.number c.loop-k.numbers c.loop-k.k c.read.result)
    (read_on c.loop-k.invariant _ (omega (arith, length-map c.loop-k.numbers n.number)) (rw c.SIZE.ensures at c.read.ensures))
