-- `put_areas` meets its contract. Assumes nothing.
use native.Mathlib.Omega.{arith}
use Rattle.area_list.proofs.Rows.{length_rows}
use Rattle.records.proofs.Finishing.{lists_begin, lists_on, lists_end}
use Rattle.records.proofs.put_areas.Goals as goal

pub loop-slot-init : goal.loop-slot-init
loop-slot-init c = lists_begin _ c.args.out.now c.args.at (omega arith)

pub put_line-place-requires : goal.put_line-place-requires
put_line-place-requires c = omega (arith, c.loop-slot.invariant.short, c.loop-slot.invariant.put.long)

pub loop-slot-preserved : goal.loop-slot-preserved
loop-slot-preserved c =
    lists_on c.loop-slot.invariant (rw (length_rows c.args.areas.words.now c.args.areas.count) c.loop-slot-test.true) c.at-area.result c.at-area.ensures
    c.put_line-place.ensures

pub returns : goal.returns
returns c = lists_end c.loop-slot.invariant (rw (length_rows c.args.areas.words.now c.args.areas.count) c.loop-slot-test.false)
