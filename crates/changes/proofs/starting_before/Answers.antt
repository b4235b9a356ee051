-- `starting_before` meets its contract. Assumes nothing.
use Rattle.area_list.specs.Layout.{rows}
use Rattle.area_list.proofs.Rows.{length_rows}
use Rattle.changes.proofs.Gaps.{none_before, starts_before}
use Rattle.changes.proofs.starting_before.Goals as goal

pub returns-then-areas-slot : goal.returns-then-areas-slot
returns-then-areas-slot c = none_before (rows c.args.areas.words.now c.args.areas.count) c.args.slot _ (rw length_rows c.if-areas-slot.true)

pub returns-then-area-address : goal.returns-then-area-address
returns-then-area-address c =
    starts_before (rows c.args.areas.words.now c.args.areas.count) c.args.slot _ (rw length_rows c.if-areas-slot.false)
    _ c.at-area.ensures c.if-area-address.true
