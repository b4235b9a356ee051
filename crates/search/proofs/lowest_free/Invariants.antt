-- `lowest_free` meets its contract. The loop's invariant: nothing below the address that the pass has come to fits, and the areas
-- before the slot end no later. Assumes nothing.
use Rattle.area_list.specs.Layout.{rows}
use Rattle.area_list.specs.Good.{space_of}
use Rattle.search.specs.Free.{wanted_in}
use Rattle.search.proofs.Pass.{Pass}
use Rattle.search.proofs.lowest_free.Given as goal

abbrev pub invariant-loop-slot : goal.invariant-loop-slot
invariant-loop-slot l = Pass (rows l.areas.words.now l.areas.count) l.areas.count (wanted_in l.fn.wanted (space_of l.pages)) l.last l.at l.slot
