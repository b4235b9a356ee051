-- Laws of `every` and `every_in`: what a test over a list or a range says of each part, and the other way round; of `some_of`, that
-- it is true exactly when some number passes; and of `lowest_of`, that it passes where some number does and nothing below it does.
-- Assumes nothing.
use Prim.Native.Nat.{ℕ, zero, suc, ◌+◌, ◌-◌, ◌≤◌, ◌<◌}
use mathlib.Core.Path.{◌≡◌, refl, sym, ap, ◌∙◌}
use mathlib.Core.Bool.{Bool, true, false, ◌&&◌, true≢false}
use mathlib.Core.List.{List, [], ◌∷◌}
use native.Mathlib.Omega.{arith}
use native.Mathlib.Decide.{ℕ_discrete}
use native.Mathlib.Numerals.{add-one}
use native.Mathlib.Nat.{sub-eq-zero_of_le}
use lib.ListN.{get_or}
use Rattle.lists.specs.Every.{every, every_of, every_in, lowest_of, some_of}

-- both parts of a test that holds, and one that holds because its parts do
pub and_left : (a b : Bool) → (a && b) ≡ true → a ≡ true
and_left true b e = refl
and_left false b e = e

pub and_right : (a b : Bool) → (a && b) ≡ true → b ≡ true
and_right true b e = e
and_right false true e = refl
and_right false false e = e

pub and_both : (a b : Bool) → a ≡ true → b ≡ true → (a && b) ≡ true
and_both a b p q = rw (p, q)

-- a test that cannot hold
pub refuted : (b : Bool) → (b ≡ true → ⊥) → b ≡ false
refuted true h = absurd (h refl)
refuted false h = refl

-- each test of a list that holds
pub every_at : (ts : List Bool) (i : ℕ) → every ts ≡ true → get_or ts i true ≡ true
unfolding every
every_at [] i e = refl
every_at (t ∷ ts) zero e = and_left t (every ts) e
every_at (t ∷ ts) (suc i) e = every_at ts i (and_right t (every ts) e)

-- ---- a range

-- no number is left to test
pub every_in_none : (p : ℕ → Bool) (first end : ℕ) → end ≤ first → every_in p first end ≡ true
unfolding every_in every_of
every_in_none p first end h = rw (sub-eq-zero_of_le h)

-- the first number, and then the rest
pub every_in_more : (p : ℕ → Bool) (first end : ℕ) → first < end → every_in p first end ≡ (p first && every_in p (first + 1) end)
unfolding every_in every_of
every_in_more p first end h =
    let n : end - first ≡ suc (end - (first + 1)) = omega arith in
    rw (n, add-one first)

module _ (p : ℕ → Bool) where
  of_at : (n first : ℕ) → every_of p first n ≡ true → (k : ℕ) → first ≤ k → k < first + n → p k ≡ true
  unfolding every_of
  of_at zero first e k a b = absurd (omega arith)
  of_at (suc n) first e k a b =
      elim (ℕ_discrete k first) [
        | yes q ↦ ap p q ∙ and_left (p first) (every_of p (suc first) n) e
        | no q ↦ of_at n (suc first) (and_right (p first) (every_of p (suc first) n) e) k (omega arith) (omega arith)
      ]

  all_of : (n first : ℕ) → ((k : ℕ) → first ≤ k → k < first + n → p k ≡ true) → every_of p first n ≡ true
  unfolding every_of
  all_of zero first h = refl
  all_of (suc n) first h =
      and_both (p first) (every_of p (suc first) n) (h first (omega arith) (omega arith)) (all_of n (suc first) (λ k a b. h k (omega arith) (omega arith)))

  -- a test that holds of the range holds of each number in it
  pub every_in_at : (first end : ℕ) → every_in p first end ≡ true → (k : ℕ) → first ≤ k → k < end → p k ≡ true
  unfolding every_in
  every_in_at first end e k a b = of_at (end - first) first e k a (omega arith)

  -- one that holds of each number in it holds of the range
  pub every_in_all : (first end : ℕ) → ((k : ℕ) → first ≤ k → k < end → p k ≡ true) → every_in p first end ≡ true
  unfolding every_in
  every_in_all first end h = all_of (end - first) first (λ k a b. h k a (omega arith))

-- ---- some number, and the lowest

-- the two ways that a test can go
pub by_test {ℓ} : {X : Type ℓ} (b : Bool) → (b ≡ true → X) → (b ≡ false → X) → X
by_test true t f = t refl
by_test false t f = f refl

-- a number among n from first on that passes
pub record Passing (p : ℕ → Bool) (first n : ℕ) : Type 0 where
  pub which : ℕ
  pub from : first ≤ which
  pub upto : which < first + n
  pub passes : p which ≡ true

module _ (p : ℕ → Bool) where
  -- the first of them passes, or it fails and another passes
  here : (n first : ℕ) → p first ≡ true → Passing p first (suc n)
  here n first e = record { which = first; from = omega arith; upto = omega arith; passes = e }

  later : (n first : ℕ) → Passing p (suc first) n → Passing p first (suc n)
  later n first w = record { which = w.which; from = omega arith; upto = omega arith; passes = w.passes }

  not_here : (n first : ℕ) → p first ≡ false → Passing p first (suc n) → Passing p (suc first) n
  not_here n first e w =
      elim (ℕ_discrete w.which first) [
        | yes q ↦ absurd (true≢false (sym w.passes ∙ ap p q ∙ e))
        | no q ↦ record { which = w.which; from = omega arith; upto = omega arith; passes = w.passes }
      ]

  pub some_yes : (n first : ℕ) → Passing p first n → some_of p first n ≡ true
  unfolding some_of
  some_yes zero first w = absurd (omega arith)
  some_yes (suc n) first w = by_test (p first) (λ e. rw e) (λ e. rw e (some_yes n (suc first) (not_here n first e w)))

  pub some_at : (n first : ℕ) → some_of p first n ≡ true → Passing p first n
  unfolding some_of
  some_at zero first t = absurd (true≢false (sym t))
  some_at (suc n) first t = by_test (p first) (here n first) (λ e. later n first (some_at n (suc first) (rw e at t)))

  -- every number below the lowest fails
  pub lowest_fails : (n first k : ℕ) → first ≤ k → k < lowest_of p first n → p k ≡ false
  unfolding lowest_of
  lowest_fails zero first k a b = absurd (omega arith)
  lowest_fails (suc n) first k a b =
      by_test (p first)
      (λ e. let b' : k < first = rw (e, lowest_of) at b in absurd (omega arith))
      (λ e. elim (ℕ_discrete k first) [ yes q ↦ ap p q ∙ e | no q ↦ lowest_fails n (suc first) k (omega arith) (rw (e, lowest_of) at b) ])

  -- where some number passes, the lowest does
  pub lowest_passes : (n first : ℕ) → Passing p first n → p (lowest_of p first n) ≡ true
  unfolding lowest_of
  lowest_passes zero first w = absurd (omega arith)
  lowest_passes (suc n) first w = by_test (p first) (λ e. rw (e, lowest_of) e) (λ e. rw (e, lowest_of) (lowest_passes n (suc first) (not_here n first e w)))
