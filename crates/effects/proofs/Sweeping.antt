-- What a loop over the slots of a range has done to the pages so far: the effect of the whole list on the pages at entry is the
-- effect of the slots that are left on the pages now. Assumes nothing.
use Prim.Native.Nat.{ℕ, ◌+◌, ◌/◌, ◌≤◌, ◌<◌, min, max}
use mathlib.Core.Path.{◌≡◌, sym, ◌∙◌}
use mathlib.Core.List.{List, [], ◌∷◌}
use native.Mathlib.Omega.{arith}
use native.Mathlib.Numerals.{add-one}
use lib.ListN.{length, get_or, drop, drop_of_length-le}
use lib.Seq.{drop-cons}
use Rattle.lists.specs.Each.{within}
use Rattle.lists.proofs.Each.{length_within}
use Rattle.page_table.specs.Limits.{page_size}
use Rattle.area.specs.Area.{first_page, end_page, nothing}
use Rattle.area.specs.declared.Area.{Area}
use Rattle.area_list.proofs.Ordered.{Ordered, none_left, ordered_after}
use Rattle.effects.specs.Pages.{in_areas}
use Rattle.effects.proofs.Paging.{none_in, one_in}

pub record Swept (f : Area → ℕ → ℕ → ℕ) (list : List Area) (low high slot : ℕ) (pages₀ pages : List ℕ) : Type 0 where
  pub long : length pages ≡ length pages₀
  pub rest : in_areas f list low high pages₀ ≡ in_areas f (drop slot list) low high pages

-- the list from a slot on is the area there and the list from the next slot on
pub from_slot : (list : List Area) (slot : ℕ) → slot < length list → drop slot list ≡ get_or list slot nothing ∷ drop (slot + 1) list
from_slot list slot l = rw add-one (drop-cons list slot nothing l)

module _ {f : Area → ℕ → ℕ → ℕ} {space : ℕ} {list : List Area} {low high slot : ℕ} {pages₀ pages : List ℕ}
    (o : Ordered space 0 list) (s : Swept f list low high slot pages₀ pages) where
  -- one slot more
  pub sweep_goes_on : (a : Area) (first end : ℕ) → a ≡ get_or list slot nothing → slot < length list
      → first ≡ max low a.start / page_size → end ≡ min high a.end / page_size
      → Swept f list low high (slot + 1) pages₀ (within (f a) first end pages)
  sweep_goes_on a first end e l p q =
      record { long = length_within (f a) first end pages ∙ s.long; rest = s.rest ∙ next }
    where
      low_page : first ≡ max (low / page_size) (first_page a)
      low_page = p ∙ omega arith

      high_page : end ≡ min (high / page_size) (end_page a)
      high_page = q ∙ omega arith

      after : Ordered space a.end (drop (slot + 1) list)
      after = rw (e, add-one) (ordered_after o slot l)

      next : in_areas f (drop slot list) low high pages ≡ in_areas f (drop (slot + 1) list) low high (within (f a) first end pages)
      next = rw (from_slot list slot l, ← e, low_page, high_page) (one_in f a (drop (slot + 1) list) low high pages after)

  -- every slot from here on starts at or past the range's end, or there is none
  pub sweep_ends : length list ≤ slot → pages ≡ in_areas f list low high pages₀
  sweep_ends h = sym (s.rest ∙ rw (drop_of_length-le list h) (none_in f {space = space} {before = high} [] low high pages none_left (omega arith)))
