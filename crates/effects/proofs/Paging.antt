-- Laws of effects on pages by area: an area at a time, as the loops go. Assumes nothing.
use Prim.Native.Nat.{ℕ, ◌/◌, ◌≤◌, ◌<◌, min, max}
use mathlib.Core.Path.{◌≡◌, refl, sym, ap, ◌∙◌}
use mathlib.Core.List.{List, [], ◌∷◌}
use native.Mathlib.Omega.{arith}
use native.Mathlib.Decide.{dec_lt}
use lib.ListN.{length, get_or, drop}
use borrow.Author.Tests.{lt-ltb, le-ltb}
use Rattle.lists.specs.Each.{within}
use Rattle.lists.proofs.Each.{in_range_lem, before_range, after_range, place, length_within, within_in, within_before, within_after, within_is}
use Rattle.page_table.specs.Limits.{page_size}
use Rattle.area.specs.Area.{first_page, end_page, holds}
use Rattle.area.specs.declared.Area.{Area}
use Rattle.area_list.specs.Position.{first_where, ends_past}
use Rattle.area_list.proofs.Ordered.{Ordered, one_more}
use Rattle.effects.specs.Pages.{on_areas, in_areas}

-- ---- one page

module _ (f : Area → ℕ → ℕ → ℕ) where
  held : (a : Area) (xs : List Area) (page old : ℕ) → first_page a ≤ page → page < end_page a → on_areas f (a ∷ xs) page old ≡ f a page old
  unfolding on_areas holds
  held a xs page old s e = rw (in_range_lem (first_page a) (end_page a) page s e)

  not_yet : (a : Area) (xs : List Area) (page old : ℕ) → page < first_page a → on_areas f (a ∷ xs) page old ≡ on_areas f xs page old
  unfolding on_areas holds
  not_yet a xs page old h = rw (before_range (first_page a) (end_page a) page h)

  no_more : (a : Area) (xs : List Area) (page old : ℕ) → end_page a ≤ page → on_areas f (a ∷ xs) page old ≡ on_areas f xs page old
  unfolding on_areas holds
  no_more a xs page old h = rw (after_range (first_page a) (end_page a) page h)

  -- a page before all areas
  before_all : {space before : ℕ} (xs : List Area) (page old : ℕ) → Ordered space before xs → page < before / page_size → on_areas f xs page old ≡ old
  unfolding on_areas
  before_all [] page old o h = refl
  before_all (a ∷ xs) page old (one_more g b o) h =
      not_yet a xs page old (omega arith) ∙ before_all xs page old o (omega (arith, g.nonempty))

  -- ---- a range of pages

  -- nothing lies in the range
  pub none_in : {space before : ℕ} (xs : List Area) (low high : ℕ) (pages : List ℕ) → Ordered space before xs → high ≤ before → in_areas f xs low high pages ≡ pages
  none_in xs low high pages o h =
      sym (within_is (on_areas f xs) (low / page_size) (high / page_size) pages pages refl
      (λ k l a. refl)
      (λ k l a b. sym (before_all xs k (get_or pages k 0) o (omega arith)))
      (λ k l a. refl))

  -- an area that ends before the range
  pub skip_in : (a : Area) (xs : List Area) (low high : ℕ) (pages : List ℕ) → a.end ≤ low → in_areas f (a ∷ xs) low high pages ≡ in_areas f xs low high pages
  skip_in a xs low high pages h =
      within_is (on_areas f xs) (low / page_size) (high / page_size) pages (in_areas f (a ∷ xs) low high pages)
      (length_within (on_areas f (a ∷ xs)) (low / page_size) (high / page_size) pages)
      (λ k l c. within_before (on_areas f (a ∷ xs)) (low / page_size) (high / page_size) pages k l c)
      (λ k l c d. within_in (on_areas f (a ∷ xs)) (low / page_size) (high / page_size) pages k l c d ∙ no_more a xs k (get_or pages k 0) (omega arith))
      (λ k l c. within_after (on_areas f (a ∷ xs)) (low / page_size) (high / page_size) pages k l c)

  -- an area at a time
  module _ {space : ℕ} (a : Area) (xs : List Area) (low high : ℕ) (pages : List ℕ) (o : Ordered space a.end xs) where
    first_part : List ℕ
    first_part = within (f a) (max (low / page_size) (first_page a)) (min (high / page_size) (end_page a)) pages

    long : (k : ℕ) → k < length pages → k < length first_part
    unfolding first_part
    long k l = omega (arith, length_within (f a) (max (low / page_size) (first_page a)) (min (high / page_size) (end_page a)) pages)

    after_first : (k : ℕ) → k < length pages → low / page_size ≤ k → k < high / page_size
        → on_areas f xs k (get_or first_part k 0) ≡ on_areas f (a ∷ xs) k (get_or pages k 0)
    unfolding first_part
    after_first k l c d =
        place (first_page a) (end_page a) k
        (λ h. ap (on_areas f xs k) (within_before (f a) (max (low / page_size) (first_page a)) (min (high / page_size) (end_page a)) pages k l (omega arith))
        ∙ sym (not_yet a xs k (get_or pages k 0) h))
        (λ h m. before_all xs k (get_or first_part k 0) o m
        ∙ within_in (f a) (max (low / page_size) (first_page a)) (min (high / page_size) (end_page a)) pages k l (omega arith) (omega arith)
        ∙ sym (held a xs k (get_or pages k 0) h m))
        (λ h. ap (on_areas f xs k) (within_after (f a) (max (low / page_size) (first_page a)) (min (high / page_size) (end_page a)) pages k l (omega arith))
        ∙ sym (no_more a xs k (get_or pages k 0) h))

    pub one_in : in_areas f (a ∷ xs) low high pages
        ≡ in_areas f xs low high (within (f a) (max (low / page_size) (first_page a)) (min (high / page_size) (end_page a)) pages)
    unfolding first_part
    one_in =
        sym (within_is (on_areas f (a ∷ xs)) (low / page_size) (high / page_size) pages (in_areas f xs low high first_part)
        (length_within (on_areas f xs) (low / page_size) (high / page_size) first_part ∙ length_within (f a) (max (low / page_size) (first_page a)) (min (high / page_size) (end_page a)) pages)
        (λ k l c. within_before (on_areas f xs) (low / page_size) (high / page_size) first_part k (long k l) c
        ∙ within_before (f a) (max (low / page_size) (first_page a)) (min (high / page_size) (end_page a)) pages k l (omega arith))
        (λ k l c d. within_in (on_areas f xs) (low / page_size) (high / page_size) first_part k (long k l) c d ∙ after_first k l c d)
        (λ k l c. within_after (on_areas f xs) (low / page_size) (high / page_size) first_part k (long k l) c
        ∙ within_after (f a) (max (low / page_size) (first_page a)) (min (high / page_size) (end_page a)) pages k l (omega arith)))

  -- the areas that end at or before the range's start may be left out
  pub from_in : (xs : List Area) (low high : ℕ) (pages : List ℕ) → in_areas f xs low high pages ≡ in_areas f (drop (first_where (ends_past low) xs) xs) low high pages
  unfolding first_where ends_past
  from_in [] low high pages = refl
  from_in (a ∷ xs) low high pages =
      elim (dec_lt low a.end) [
        | yes h ↦ rw (lt-ltb low a.end h)
        | no h ↦ rw (le-ltb low a.end (omega arith)) (skip_in a xs low high pages (omega arith) ∙ from_in xs low high pages)
      ]
