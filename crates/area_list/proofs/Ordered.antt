-- Lists of good areas, each starting no earlier than the one before it ends. Assumes nothing.
use Prim.Native.Nat.{ℕ, zero, suc, ◌≤◌, ◌<◌}
use mathlib.Core.List.{List, [], ◌∷◌}
use mathlib.Core.Path.{◌≡◌, ap}
use native.Mathlib.Omega.{arith}
use native.Mathlib.Decide.{dec_lt}
use native.Mathlib.Nat.{le_of_eq, le_refl, le_trans}
use lib.ListN.{length, get_or, drop}
use Rattle.area.specs.Area.{nothing}
use Rattle.area.specs.declared.Area.{Area}
use Rattle.area.proofs.Areas.{Good}

pub data Ordered (space : ℕ) : ℕ → List Area → Type 0 where
  none_left : {before : ℕ} → Ordered space before []
  one_more : {before : ℕ} {a : Area} {xs : List Area} → Good space a → before ≤ a.start → Ordered space a.end xs → Ordered space before (a ∷ xs)

-- it may follow an earlier end
pub weaken : {space before before' : ℕ} {xs : List Area} → Ordered space before xs → before' ≤ before → Ordered space before' xs
weaken none_left h = none_left
weaken (one_more g b o) h = one_more g (le_trans h b) o

module _ {space : ℕ} where
  pub good_at : {before : ℕ} {xs : List Area} → Ordered space before xs → (i : ℕ) → i < length xs → Good space (get_or xs i nothing)
  good_at none_left i h = absurd (omega arith)
  good_at (one_more g b o) zero h = g
  good_at (one_more g b o) (suc i) h = good_at o i (omega arith)

  -- every area starts at or past what came before
  pub starts_past : {before : ℕ} {xs : List Area} → Ordered space before xs → (i : ℕ) → i < length xs → before ≤ (get_or xs i nothing).start
  starts_past none_left i h = absurd (omega arith)
  starts_past (one_more g b o) zero h = b
  starts_past (one_more {a = a} g b o) (suc i) h = let r = starts_past o i (omega arith) in omega (arith, g.nonempty)

  -- an area starts at or past the end of each one before it
  pub apart : {before : ℕ} {xs : List Area} → Ordered space before xs → (i j : ℕ) → i < j → j < length xs
      → (get_or xs i nothing).end ≤ (get_or xs j nothing).start
  apart none_left i j h l = absurd (omega arith)
  apart (one_more g b o) i zero h l = absurd (omega arith)
  apart (one_more g b o) zero (suc j) h l = starts_past o j (omega arith)
  apart (one_more g b o) (suc i) (suc j) h l = apart o i j (omega arith) (omega arith)

  -- so starts and ends rise
  module _ {before : ℕ} {xs : List Area} (o : Ordered space before xs) (i j : ℕ) (h : i ≤ j) (l : j < length xs) where
    pub starts_rise : (get_or xs i nothing).start ≤ (get_or xs j nothing).start
    starts_rise =
        elim (dec_lt i j) [
          | yes m ↦ omega (arith, apart o i j m l, (good_at o i (omega arith)).nonempty)
          | no m ↦ le_of_eq (ap (λ (k : ℕ). (get_or xs k nothing).start) (equal m))
        ]
      where
        equal : (i < j → ⊥) → i ≡ j
        equal m = omega arith

    pub ends_rise : (get_or xs i nothing).end ≤ (get_or xs j nothing).end
    ends_rise =
        elim (dec_lt i j) [
          | yes m ↦ omega (arith, apart o i j m l, (good_at o j l).nonempty)
          | no m ↦ le_of_eq (ap (λ (k : ℕ). (get_or xs k nothing).end) (equal m))
        ]
      where
        equal : (i < j → ⊥) → i ≡ j
        equal m = omega arith

  -- from any slot on, and after it
  pub ordered_from : {before : ℕ} {xs : List Area} → Ordered space before xs → (i : ℕ) → i < length xs → Ordered space (get_or xs i nothing).start (drop i xs)
  ordered_from none_left i h = absurd (omega arith)
  ordered_from (one_more {a = a} g b o) zero h = one_more g (le_refl a.start) o
  ordered_from (one_more g b o) (suc i) h = ordered_from o i (omega arith)

  pub ordered_after : {before : ℕ} {xs : List Area} → Ordered space before xs → (i : ℕ) → i < length xs → Ordered space (get_or xs i nothing).end (drop (suc i) xs)
  ordered_after none_left i h = absurd (omega arith)
  ordered_after (one_more g b o) zero h = o
  ordered_after (one_more g b o) (suc i) h = ordered_after o i (omega arith)
