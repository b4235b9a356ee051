-- `put` meets its contract: four stores side by side. Assumes nothing.
use native.Mathlib.Omega.{arith}
use lib.ListN.{length-set}
use Rattle.slots.proofs.Writes.{put_words}
use Rattle.slots.proofs.put.Goals as goal

pub bounds-areas-at-2 : goal.bounds-areas-at-2
bounds-areas-at-2 c = simp length-set (omega arith)

pub bounds-areas-at-3 : goal.bounds-areas-at-3
bounds-areas-at-3 c = simp length-set (omega arith)

pub bounds-areas-at-4 : goal.bounds-areas-at-4
bounds-areas-at-4 c = simp length-set (omega arith)

pub returns : goal.returns
returns c = put_words _ _ _ _ c.requires c.word_of.ensures
