-- Laws of the lowest number of a range that passes a test: how a loop over the range goes, and a range in two parts.
-- Assumes nothing.
use Prim.Native.Nat.{ℕ, zero, suc, ◌+◌, ◌-◌, ◌≤◌, ◌<◌}
use mathlib.Core.Path.{◌≡◌, refl, ◌∙◌}
use mathlib.Core.Bool.{Bool, true, false}
use native.Mathlib.Omega.{arith}
use native.Mathlib.Numerals.{add-one}
use Rattle.lists.specs.Every.{lowest_of}
use Rattle.lists.proofs.Every.{by_test}
use Rattle.agreement.specs.Agree.{lowest_in}

-- ---- a loop

module _ (p : ℕ → Bool) (first end : ℕ) where
  pub lowest_ends : end ≤ first → lowest_in p first end ≡ first
  unfolding lowest_of
  lowest_ends h = let z : end - first ≡ 0 = omega arith in rw z

  pub lowest_here : first < end → p first ≡ true → lowest_in p first end ≡ first
  unfolding lowest_of
  lowest_here h e = let n : end - first ≡ suc (end - (first + 1)) = omega arith in rw (n, e, lowest_of)

  pub lowest_later : first < end → p first ≡ false → lowest_in p first end ≡ lowest_in p (first + 1) end
  unfolding lowest_of
  lowest_later h e = let n : end - first ≡ suc (end - suc first) = omega arith in rw (n, add-one first, e, lowest_of)

-- ---- the same answers in the range

module _ (p q : ℕ → Bool) where
  same_of : (n first : ℕ) → ((k : ℕ) → first ≤ k → k < first + n → p k ≡ q k) → lowest_of p first n ≡ lowest_of q first n
  unfolding lowest_of
  same_of zero first same = refl
  same_of (suc n) first same =
      let s : p first ≡ q first = same first (omega arith) (omega arith) in
      by_test (q first)
      (λ y. rw (s, y, lowest_of))
      (λ y. rw (s, y, lowest_of) (same_of n (suc first) (λ k a b. same k (omega arith) (omega arith))))

  pub lowest_same : (first end : ℕ) → ((k : ℕ) → first ≤ k → k < end → p k ≡ q k) → lowest_in p first end ≡ lowest_in q first end
  lowest_same first end same = same_of (end - first) first (λ k a b. same k a (omega arith))

-- ---- a range in two parts, with the same answers in the first

module _ (p q : ℕ → Bool) where
  stops_of : (n m first : ℕ) → ((k : ℕ) → first ≤ k → k < first + n → p k ≡ q k) → lowest_of q first n < first + n
      → lowest_of p first (n + m) ≡ lowest_of q first n
  unfolding lowest_of
  stops_of zero m first same h = absurd (omega arith)
  stops_of (suc n) m first same h =
      let e : suc n + m ≡ suc (n + m) = omega arith in
      let s : p first ≡ q first = same first (omega arith) (omega arith) in
      by_test (q first)
      (λ y. rw (e, s, y, lowest_of))
      (λ y. let h' : lowest_of q (suc first) n < first + suc n = rw (y, lowest_of) at h in
      rw (e, s, y, lowest_of) (stops_of n m (suc first) (λ k a b. same k (omega arith) (omega arith)) (omega arith)))

  past_of : (n m first : ℕ) → ((k : ℕ) → first ≤ k → k < first + n → p k ≡ q k) → first + n ≤ lowest_of q first n
      → lowest_of p first (n + m) ≡ lowest_of p (first + n) m
  unfolding lowest_of
  past_of zero m first same h = let e : 0 + m ≡ m = omega arith in let f : first + 0 ≡ first = omega arith in rw (e, f)
  past_of (suc n) m first same h =
      let e : suc n + m ≡ suc (n + m) = omega arith in
      let f : first + suc n ≡ suc first + n = omega arith in
      let s : p first ≡ q first = same first (omega arith) (omega arith) in
      by_test (q first)
      (λ y. let h' : first + suc n ≤ first = rw (y, lowest_of) at h in absurd (omega arith))
      (λ y. let h' : first + suc n ≤ lowest_of q (suc first) n = rw (y, lowest_of) at h in
      rw (e, s, y, lowest_of, f) (past_of n m (suc first) (λ k a b. same k (omega arith) (omega arith)) (omega arith)))

  module _ (first middle end : ℕ) (a : first ≤ middle) (b : middle ≤ end) (same : (k : ℕ) → first ≤ k → k < middle → p k ≡ q k) where
    -- one in the first part is the lowest of all
    pub lowest_stops : (r : ℕ) → r ≡ lowest_in q first middle → r < middle → lowest_in p first end ≡ r
    lowest_stops r e h =
        let n : end - first ≡ (middle - first) + (end - middle) = omega arith in
        rw (n, e) (stops_of (middle - first) (end - middle) first (λ k c d. same k c (omega arith)) (omega arith))

    -- and where there is none, the second part decides
    pub lowest_past : (r : ℕ) → r ≡ lowest_in q first middle → middle ≤ r → lowest_in p first end ≡ lowest_in p middle end
    lowest_past r e h =
        let n : end - first ≡ (middle - first) + (end - middle) = omega arith in
        let m : first + (middle - first) ≡ middle = omega arith in
        rw n (past_of (middle - first) (end - middle) first (λ k c d. same k c (omega arith)) (omega arith) ∙ rw m)

-- ---- none, and one

module _ (p : ℕ → Bool) where
  none_of : (n first : ℕ) → ((k : ℕ) → first ≤ k → k < first + n → p k ≡ false) → lowest_of p first n ≡ first + n
  unfolding lowest_of
  none_of zero first h = omega arith
  none_of (suc n) first h =
      let e : p first ≡ false = h first (omega arith) (omega arith) in
      rw (e, lowest_of) (none_of n (suc first) (λ k a b. h k (omega arith) (omega arith)) ∙ omega arith)

  there_of : (n first : ℕ) → lowest_of p first n < first + n → p (lowest_of p first n) ≡ true
  unfolding lowest_of
  there_of zero first h = absurd (omega arith)
  there_of (suc n) first h =
      by_test (p first)
      (λ e. rw (e, lowest_of) e)
      (λ e. let h' : lowest_of p (suc first) n < first + suc n = rw (e, lowest_of) at h in
      rw (e, lowest_of) (there_of n (suc first) (omega arith)))

  module _ (end : ℕ) where
    pub lowest_none : ((k : ℕ) → k < end → p k ≡ false) → lowest_in p 0 end ≡ end
    lowest_none h = none_of (end - 0) 0 (λ k a b. h k (omega arith)) ∙ omega arith

    pub lowest_there : lowest_in p 0 end < end → p (lowest_in p 0 end) ≡ true
    lowest_there h = there_of (end - 0) 0 (omega arith)

    pub lowest_only : (k : ℕ) → k < end → ((j : ℕ) → j < k → p j ≡ false) → p k ≡ true → lowest_in p 0 end ≡ k
    lowest_only k h below e =
        lowest_past p p 0 k end (omega arith) (omega arith) (λ j a b. refl) (lowest_in p 0 k) refl
        (omega (arith, none_of (k - 0) 0 (λ j a b. below j (omega arith))))
        ∙ lowest_here p k end h e
