-- `put_areas` meets its contract. Assumes nothing.
use Rattle.area_list.specs.Layout.{rows}
use Rattle.records.proofs.Finishing.{Lists}
use Rattle.records.proofs.put_areas.Given as goal

abbrev pub invariant-loop-slot : goal.invariant-loop-slot
invariant-loop-slot l = Lists (rows l.areas.words.now l.areas.count) l.initial.out l.at l.out l.place l.slot
