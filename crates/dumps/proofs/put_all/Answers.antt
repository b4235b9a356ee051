-- `put_all` meets its contract. The loop's invariant: the first numbers are written, and the place is the one after them.
-- Assumes nothing.
use Rattle.std.proofs.Common.{ap, sym, ◌∙◌, arith}
use Rattle.std.proofs.lemmas.List.{length-map, get_or-map}
use Rattle.dumps.proofs.Writing.{lists_begins, lists_on}
use Rattle.dumps.proofs.put_all.Goals as goal

pub loop-value-init : goal.loop-value-init
loop-value-init g c = lists_begins _ _ _ (omega arith)

pub loop-value-preserved : goal.loop-value-preserved
loop-value-preserved g c =
    let n = g.T.LittleEndian in
    let values = c.args.values.now in
    lists_on c.loop-value.invariant _ _ (omega (arith, length-map values n.number))
    (ap n.number c.value-item.is ∙ sym (get_or-map n.number values c.loop-value.value-index c.value-item.result 0 c.loop-value-test.true))
    c.put.ensures
