-- Laws of new flags: when an area changes, and what that makes of its pages. Assumes nothing.
use Prim.Native.Nat.{ℕ, ◌/◌, min, max}
use mathlib.Core.Path.{◌≡◌, refl, sym, ◌∙◌}
use mathlib.Core.Bool.{true, false}
use mathlib.Core.List.{List}
use borrow.Author.Tests.{eq-eqb, ne_eqb}
use Rattle.lists.specs.Each.{within}
use Rattle.lists.proofs.Each.{length_within, within_in, within_before, within_after, within_is}
use Rattle.page_table.specs.Limits.{page_size}
use Rattle.page_writes.specs.Change.{reflags}
use Rattle.area.specs.declared.Area.{Area}
use Rattle.effects.specs.Lists.{new_flags, changes}
use Rattle.effects.specs.Pages.{protects_area}

module _ (set clear : ℕ) (a : Area) where
  pub changes_not : new_flags set clear a.flags ≡ a.flags → changes set clear a ≡ false
  unfolding changes
  changes_not e = rw (eq-eqb (new_flags set clear a.flags) a.flags e)

  pub changes_so : (new_flags set clear a.flags ≡ a.flags → ⊥) → changes set clear a ≡ true
  unfolding changes
  changes_so h = rw (ne_eqb (new_flags set clear a.flags) a.flags h)

  -- the pages of an area that does not change stay
  pub pages_same : (first end : ℕ) (pages : List ℕ) → new_flags set clear a.flags ≡ a.flags
      → pages ≡ within (protects_area set clear a) first end pages
  unfolding protects_area
  pages_same first end pages e =
      within_is (protects_area set clear a) first end pages pages refl
      (λ k l h. refl)
      (λ k l h m. sym (rw (changes_not e)))
      (λ k l h. refl)

  -- those of another are written anew
  anew : (first end : ℕ) (pages : List ℕ) (flags : ℕ) → flags ≡ new_flags set clear a.flags → (flags ≡ a.flags → ⊥)
      → within (reflags a.backend flags) first end pages ≡ within (protects_area set clear a) first end pages
  unfolding protects_area
  anew first end pages flags e h =
      let new : ℕ → ℕ → ℕ = reflags a.backend flags in
      within_is (protects_area set clear a) first end pages (within new first end pages)
      (length_within new first end pages)
      (λ k l m. within_before new first end pages k l m)
      (λ k l m n. within_in new first end pages k l m n ∙ rw (e, changes_so (λ s. h (e ∙ s))))
      (λ k l m. within_after new first end pages k l m)

  -- from the first to the last of its pages that lie in the range
  pub pages_anew : (low high : ℕ) (pages : List ℕ) {from upto flags : ℕ} {pages' : List ℕ} → from ≡ max low a.start → upto ≡ min high a.end
      → flags ≡ new_flags set clear a.flags → (flags ≡ a.flags → ⊥)
      → pages' ≡ within (reflags a.backend flags) (from / page_size) (upto / page_size) pages
      → pages' ≡ within (protects_area set clear a) (max low a.start / page_size) (min high a.end / page_size) pages
  pages_anew low high pages {from} {upto} {flags} p q e h w =
      w ∙ rw (← p, ← q) (anew (from / page_size) (upto / page_size) pages flags e h)
