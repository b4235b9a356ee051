-- The changes on small lists, by one computed test: a cut in the middle, an insert after an area, a protect beside an area and one
-- that changes no flag. Assumes nothing.
use Prim.Native.Nat.{ℕ}
use mathlib.Core.Path.{◌≡◌, refl}
use mathlib.Core.Bool.{true}
use mathlib.Core.List.{List, [], ◌∷◌, flat_map}
use Rattle.lists.specs.Case.{Case, row, agree}
use Rattle.page_table.specs.declared.Backend.TheVariants.{Lazy}
use Rattle.area.specs.declared.Area.{Area}
use Rattle.area_list.specs.Layout.{word_of, words_of}
use Rattle.area_list.specs.Meet.{shares}
use Rattle.area_list.specs.Store.{flat}
use Rattle.effects.specs.Lists.{outside, cut, insert, new_flags, changes, protected, protect}

abbrev lazy_area : ℕ → ℕ → ℕ → Area
lazy_area start end flags = record { start = start; end = end; flags = flags; backend = Lazy }

abbrev examples : List Case
examples =
    row (flat (cut 0x2000 0x3000 (lazy_area 0x1000 0x4000 3 ∷ []))) (flat (lazy_area 0x1000 0x2000 3 ∷ lazy_area 0x3000 0x4000 3 ∷ []))
    ∷ row (flat (insert (lazy_area 0x3000 0x4000 3) (lazy_area 0x1000 0x2000 3 ∷ []))) (flat (lazy_area 0x1000 0x2000 3 ∷ lazy_area 0x3000 0x4000 3 ∷ []))
    ∷ row (flat (protect 0x2000 0x3000 0 2 (lazy_area 0x1000 0x2000 3 ∷ lazy_area 0x2000 0x3000 3 ∷ [])))
    (flat (lazy_area 0x1000 0x2000 3 ∷ lazy_area 0x2000 0x3000 1 ∷ []))
    ∷ row (flat (protect 0x2000 0x3000 3 0 (lazy_area 0x1000 0x4000 3 ∷ []))) (flat (lazy_area 0x1000 0x4000 3 ∷ []))
    ∷ []

pub examples_agree : agree examples ≡ true
unfolding flat_map agree flat words_of word_of shares outside cut insert new_flags changes protected protect
examples_agree = refl
