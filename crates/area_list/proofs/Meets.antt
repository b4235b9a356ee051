-- Laws of common addresses: the test is true exactly when there is one, and in a good list the first area that ends past the
-- range's start decides. Assumes nothing.
use Prim.Native.Nat.{ℕ, zero, suc, ◌≤◌, ◌<◌, min, max}
use mathlib.Core.Path.{◌≡◌, refl, sym, ◌∙◌}
use mathlib.Core.Bool.{true, false, or-true, true≢false}
use mathlib.Core.List.{List, [], ◌∷◌}
use native.Mathlib.Omega.{arith}
use native.Mathlib.Decide.{dec_lt}
use lib.Dec.{ltb}
use lib.ListN.{length, get_or}
use borrow.Author.Tests.{lt-ltb, le-ltb, ltb-true}
use Rattle.lists.proofs.Every.{refuted}
use Rattle.area.specs.Area.{nothing}
use Rattle.area.specs.declared.Area.{Area}
use Rattle.area_list.specs.Meet.{shares, shares_any}
use Rattle.area_list.specs.Position.{first_where, ends_past}
use Rattle.area_list.proofs.Positions.{Rises, ended, not_ended}

-- ---- one area

-- an address in both
pub record Common (low high : ℕ) (a : Area) (address : ℕ) : Type 0 where
  pub from : low ≤ address
  pub upto : address < high
  pub starts : a.start ≤ address
  pub ends : address < a.end

pub shares_common : (low high : ℕ) (a : Area) → shares low high a ≡ true → Common low high a (max low a.start)
unfolding shares
shares_common low high a e =
    let h : max low a.start < min high a.end = ltb-true (max low a.start) (min high a.end) e in
    record { from = omega arith; upto = omega arith; starts = omega arith; ends = omega arith }

pub common_shares : (low high : ℕ) (a : Area) (address : ℕ) → Common low high a address → shares low high a ≡ true
unfolding shares
common_shares low high a address c = lt-ltb (max low a.start) (min high a.end) (omega arith)

-- in terms of the ends
pub shares_yes : (low high : ℕ) (a : Area) → low < high → a.start < a.end → low < a.end → a.start < high → shares low high a ≡ true
unfolding shares
shares_yes low high a r n e s = lt-ltb (max low a.start) (min high a.end) (omega arith)

pub shares_before : (low high : ℕ) (a : Area) → a.end ≤ low → shares low high a ≡ false
unfolding shares
shares_before low high a h = le-ltb (max low a.start) (min high a.end) (omega arith)

pub shares_after : (low high : ℕ) (a : Area) → high ≤ a.start → shares low high a ≡ false
unfolding shares
shares_after low high a h = le-ltb (max low a.start) (min high a.end) (omega arith)

pub shares_nothing : (low high : ℕ) (a : Area) → high ≤ low → shares low high a ≡ false
unfolding shares
shares_nothing low high a h = le-ltb (max low a.start) (min high a.end) (omega arith)

-- ---- a list

-- one that shares is enough, and none is enough for no
pub any_yes : (low high : ℕ) (xs : List Area) (i : ℕ) → i < length xs → shares low high (get_or xs i nothing) ≡ true → shares_any low high xs ≡ true
unfolding shares_any
any_yes low high [] i h e = absurd (omega arith)
any_yes low high (a ∷ xs) zero h e = rw e
any_yes low high (a ∷ xs) (suc i) h e = rw (any_yes low high xs i (omega arith) e) (or-true (shares low high a))

pub any_no : (low high : ℕ) (xs : List Area) → ((i : ℕ) → i < length xs → shares low high (get_or xs i nothing) ≡ false) → shares_any low high xs ≡ false
unfolding shares_any
any_no low high [] h = refl
any_no low high (a ∷ xs) h = rw (h 0 (omega arith)) (any_no low high xs (λ i l. h (suc i) (omega arith)))

-- what no says of each area
pub no_shares : (low high : ℕ) (xs : List Area) → shares_any low high xs ≡ false → (i : ℕ) → i < length xs → shares low high (get_or xs i nothing) ≡ false
no_shares low high xs e i h = refuted (shares low high (get_or xs i nothing)) (λ y. true≢false (sym (any_yes low high xs i h y) ∙ e))

-- ---- the first area that ends past the range's start decides

module _ (low high : ℕ) (xs : List Area) (r : ℕ) (e : r ≡ first_where (ends_past low) xs) where
  pub none_past : length xs ≤ r → shares_any low high xs ≡ false
  none_past h = any_no low high xs (λ k l. shares_before low high (get_or xs k nothing) (ended xs low r e k (omega arith)))

  pub first_decides : Rises xs → low < high → r < length xs → shares_any low high xs ≡ ltb (get_or xs r nothing).start high
  first_decides rises n h =
      elim (dec_lt (get_or xs r nothing).start high) [
        | yes m ↦ any_yes low high xs r h (shares_yes low high (get_or xs r nothing) n (rises.nonempty r h) (not_ended xs low r e h) m)
            ∙ sym (lt-ltb (get_or xs r nothing).start high m)
        | no m ↦ any_no low high xs (λ k l. elim (dec_lt k r) [
          | yes b ↦ shares_before low high (get_or xs k nothing) (ended xs low r e k b)
          | no b ↦ shares_after low high (get_or xs k nothing) (omega (arith, rises.starts r k (omega arith) l))
        ])
            ∙ sym (le-ltb (get_or xs r nothing).start high (omega arith))
      ]
