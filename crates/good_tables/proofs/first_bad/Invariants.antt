-- `first_bad` meets its contract. The loop's invariant: the slots so far are good, and the first that breaks the rule is that of
-- the rows that are left, after an area that ended at before. Assumes nothing.
use Prim.Native.Nat.{◌+◌, ◌*◌, ◌-◌}
use mathlib.Core.Path.{◌≡◌}
use lib.ListN.{drop}
use Rattle.area_list.specs.Layout.{words_per_area}
use Rattle.area_list.specs.Good.{space_of, first_bad}
use Rattle.good_tables.proofs.first_bad.Given as goal

abbrev pub invariant-loop-slot : goal.invariant-loop-slot
invariant-loop-slot l = first_bad (space_of l.pages) 0 l.areas l.count ≡ l.slot + first_bad (space_of l.pages) l.before (drop (words_per_area * l.slot) l.areas) (l.count - l.slot)
