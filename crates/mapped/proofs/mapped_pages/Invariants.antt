-- `mapped_pages` meets its contract. The loop's invariant: the walk stays on the caller's words and counts as len says, and the sum
-- and what is left under areas from its slot on are all the pages under areas. Assumes nothing.
use Rattle.mapped.proofs.Sum.{Summing}
use Rattle.mapped.proofs.mapped_pages.Given as goal

abbrev pub invariant-loop-area : goal.invariant-loop-area
invariant-loop-area l = Summing l.areas l.pages l.count l.area-iterator l.sum
