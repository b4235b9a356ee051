-- Laws of the split at one end of the range: which area it splits, found by position, and what the list is after it.
-- Assumes nothing.
use Prim.Native.Nat.{ℕ, suc, ◌+◌, ◌≤◌, ◌<◌}
use mathlib.Core.Path.{◌≡◌, refl, ap, ◌∙◌}
use mathlib.Core.Bool.{false}
use mathlib.Core.List.{List, [], ◌∷◌, flat_map}
use native.Mathlib.Omega.{arith}
use native.Mathlib.Decide.{dec_lt}
use lib.ListN.{length, get_or}
use Rattle.lists.proofs.Every.{by_test}
use Rattle.area.specs.Area.{nothing}
use Rattle.area.specs.declared.Area.{Area}
use Rattle.area_list.specs.Position.{first_where, ends_past}
use Rattle.area_list.specs.Store.{spliced}
use Rattle.area_list.proofs.Ordered.{Ordered, one_more, apart}
use Rattle.area_list.proofs.Positions.{first_is, first_yes, first_no, ended, not_ended}
use Rattle.area_list.proofs.Stores.{length_spliced}
use Rattle.effects.specs.Lists.{new_flags}
use Rattle.effects.proofs.Protecting.{cuts_at, cuts_yes, cuts_after, cuts_before, cuts_same, cuts_end, halves, halved_yes, halved_no, split_at, split_cons}
use Rattle.flags.proofs.Flags.{changes_not, changes_so}

-- ---- the area that is split: only the first one that ends past the address can be it

module _ (set clear at : ℕ) (xs : List Area) (r : ℕ) (e : r ≡ first_where (ends_past at) xs) where
  pub none_past : length xs ≤ r → length xs ≡ first_where (cuts_at set clear at) xs
  none_past h =
      first_is (cuts_at set clear at) xs (length xs) (omega arith)
      (λ k l. cuts_before set clear at (get_or xs k nothing) (ended xs at r e k (omega arith)))
      (λ l. absurd (omega arith))

  module _ {space : ℕ} (o : Ordered space 0 xs) (a : Area) (here : a ≡ get_or xs r nothing) (l : r < length xs) where
    after : (k : ℕ) → r < k → k < length xs → cuts_at set clear at (get_or xs k nothing) ≡ false
    after k h m = cuts_after set clear at (get_or xs k nothing) (omega (arith, not_ended xs at r e l, apart o r k h m))

    not_cut : cuts_at set clear at a ≡ false → length xs ≡ first_where (cuts_at set clear at) xs
    not_cut c =
        first_is (cuts_at set clear at) xs (length xs) (omega arith)
        (λ k m. elim (dec_lt k r) [
          | yes h ↦ cuts_before set clear at (get_or xs k nothing) (ended xs at r e k h)
          | no h ↦ elim (dec_lt r k) [
            | yes n ↦ after k n m
            | no n ↦ let same : k ≡ r = omega arith in rw (same, ← here) c
          ]
        ])
        (λ m. absurd (omega arith))

    pub starts_later : at ≤ a.start → length xs ≡ first_where (cuts_at set clear at) xs
    starts_later h = not_cut (cuts_after set clear at a h)

    pub not_changed : new_flags set clear a.flags ≡ a.flags → length xs ≡ first_where (cuts_at set clear at) xs
    not_changed h = not_cut (cuts_same set clear at a (changes_not set clear a h))

    pub split_here : a.start < at → (new_flags set clear a.flags ≡ a.flags → ⊥) → r ≡ first_where (cuts_at set clear at) xs
    split_here s h =
        first_is (cuts_at set clear at) xs r (omega arith)
        (λ k m. cuts_before set clear at (get_or xs k nothing) (ended xs at r e k m))
        (λ m. rw (← here) (cuts_yes set clear at a s (rw here (not_ended xs at r e l)) (changes_so set clear a h)))

-- ---- the list after the split

module _ (set clear at : ℕ) where
  split_after : {space before : ℕ} (xs : List Area) → Ordered space before xs → at ≤ before → split_at set clear at xs ≡ xs
  unfolding split_at flat_map
  split_after [] o h = refl
  split_after (a ∷ xs) (one_more g b o) h =
      rw (halved_no set clear at a (cuts_after set clear at a (omega arith)), split_after xs o (omega (arith, g.nonempty)))

  pub split_none : (xs : List Area) → length xs ≤ first_where (cuts_at set clear at) xs → split_at set clear at xs ≡ xs
  unfolding split_at flat_map
  split_none [] h = refl
  split_none (a ∷ xs) h =
      by_test (cuts_at set clear at a)
      (λ c. let z : first_where (cuts_at set clear at) (a ∷ xs) ≡ 0 = first_yes (cuts_at set clear at) a xs c in absurd (omega arith))
      (λ c. let n : first_where (cuts_at set clear at) (a ∷ xs) ≡ suc (first_where (cuts_at set clear at) xs) = first_no (cuts_at set clear at) a xs c in
      rw (halved_no set clear at a c, split_none xs (omega arith)))

  pub split_one : {space before : ℕ} (xs : List Area) → Ordered space before xs → first_where (cuts_at set clear at) xs < length xs
      → split_at set clear at xs
      ≡ spliced xs (first_where (cuts_at set clear at) xs) (suc (first_where (cuts_at set clear at) xs)) (halves at (get_or xs (first_where (cuts_at set clear at) xs) nothing))
  split_one [] o h = absurd (omega arith)
  split_one (a ∷ xs) (one_more g b o) h =
      by_test (cuts_at set clear at a)
      (λ c. let end : at ≤ a.end = omega (arith, cuts_end set clear at a c) in
      rw (first_yes (cuts_at set clear at) a xs c, split_cons set clear at a xs, halved_yes set clear at a c, split_after xs o end))
      (λ c. let n : first_where (cuts_at set clear at) (a ∷ xs) ≡ suc (first_where (cuts_at set clear at) xs) = first_no (cuts_at set clear at) a xs c in
      rw (n, split_cons set clear at a xs, halved_no set clear at a c) (ap (λ (ys : List Area). a ∷ ys) (split_one xs o (omega arith))))

  -- it is one area longer where an area is split
  pub length_none : (xs : List Area) (i : ℕ) → i ≡ first_where (cuts_at set clear at) xs → length xs ≤ i → length (split_at set clear at xs) ≡ length xs
  length_none xs i e h = ap length (split_none xs (rw (← e) h))

  pub length_one : {space before : ℕ} (xs : List Area) → Ordered space before xs → (i : ℕ) → i ≡ first_where (cuts_at set clear at) xs → i < length xs
      → length (split_at set clear at xs) ≡ length xs + 1
  length_one xs o i e h =
      ap length (split_one xs o (rw (← e) h))
      ∙ rw (← e) (length_spliced xs i (suc i) (halves at (get_or xs i nothing)) (omega arith) (omega arith) ∙ omega arith)
