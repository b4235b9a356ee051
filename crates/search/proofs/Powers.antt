-- Laws of powers of two: the number before one masks what is left over, and a number that fits a u64 is one exactly when it has
-- no bit in common with the number before it, and exactly when one of its bits is set. Assumes nothing.
use Prim.Native.Nat.{ℕ, suc, ◌+◌, ◌-◌, ◌*◌, ◌/◌, ◌%◌, ◌^◌, ◌≤◌, ◌<◌}
use mathlib.Core.Path.{◌≡◌, sym, ◌∙◌}
use mathlib.Core.Bool.{true, true≢false}
use native.Mathlib.Omega.{arith}
use native.Mathlib.Decide.{dec_lt, ℕ_discrete}
use native.Mathlib.Nat.{pow-succ', mod_self}
use lib.Arith.{bin_ind}
use lib.Bits.{bit_and, and_step, and_self, and_mask}
use lib.Count.{ones_step, ones_cat, ones-le}
use lib.Pow.{pow_pos, pow_mono}
use lib.Dec.{eqb}
use borrow.Author.Tests.{eq-eqb, ne_eqb, eqb-true}
use Rattle.std.specs.Prelude.{count_ones}
use Rattle.std.proofs.lemmas.Nat.{zero_from_ones}
use Rattle.lists.proofs.Every.{by_test, some_yes, some_at}
use Rattle.search.specs.Free.{is_power_of_two}

pub record Power (n : ℕ) : Type 0 where
  pub exponent : ℕ
  pub is : n ≡ 2 ^ exponent

pub power_is : (n : ℕ) → is_power_of_two n ≡ true → Power n
unfolding is_power_of_two
power_is n e =
    let found = some_at (λ k. eqb n (2 ^ k)) 64 0 e in
    record { exponent = found.which; is = eqb-true n (2 ^ found.which) found.passes }

pub power_positive : {n : ℕ} → Power n → 0 < n
power_positive p = omega (arith, p.is, pow_pos p.exponent)

-- the number before it is the mask of what is left over by it
pub power_mask : (a : ℕ) {n : ℕ} → Power n → bit_and a (n - 1) ≡ a % n
power_mask a p = rw p.is (and_mask a p.exponent)

-- one that fits a u64 is found
is_power : (n : ℕ) → n < 2 ^ 64 → Power n → is_power_of_two n ≡ true
unfolding is_power_of_two
is_power n small p =
    some_yes (λ k. eqb n (2 ^ k)) 64 0
    (record { which = p.exponent; from = omega arith; upto = below; passes = eq-eqb n (2 ^ p.exponent) p.is })
  where
    below : p.exponent < 64
    below = elim (dec_lt p.exponent 64) [ yes h ↦ h | no h ↦ absurd (let m : 2 ^ 64 ≤ 2 ^ p.exponent = pow_mono {i = 64} {j = p.exponent} (omega arith) in omega (arith, p.is)) ]

-- ---- bits in common with the number before

-- a power of two has none
power_clears : {n : ℕ} → Power n → bit_and n (n - 1) ≡ 0
power_clears {n} p = power_mask n p ∙ mod_self n

-- and a number that has none is a power of two: an odd one has all its higher bits in common, and an even one what its half has
module _ (n : ℕ) (positive : 0 < n) (clear : bit_and n (n - 1) ≡ 0) where
  odd_power : n % 2 ≡ 1 → Power n
  odd_power odd =
      let same : (n - 1) / 2 ≡ n / 2 = omega arith in
      let higher : bit_and (n / 2) ((n - 1) / 2) ≡ n / 2 = rw same (and_self (n / 2)) in
      record { exponent = 0; is = omega (arith, and_step n (n - 1)) }

  even_power : n % 2 ≡ 0 → (0 < n / 2 → bit_and (n / 2) (n / 2 - 1) ≡ 0 → Power (n / 2)) → Power n
  even_power even half =
      let same : (n - 1) / 2 ≡ n / 2 - 1 = omega arith in
      let higher : bit_and (n / 2) (n / 2 - 1) ≡ 0 = rw (← same) (omega (arith, and_step n (n - 1))) in
      let p = half (omega arith) higher in
      record { exponent = suc p.exponent; is = omega (arith, p.is, pow-succ' 2 p.exponent) }

clears_power : (n : ℕ) → 0 < n → bit_and n (n - 1) ≡ 0 → Power n
clears_power =
    bin_ind (λ (n : ℕ). 0 < n → bit_and n (n - 1) ≡ 0 → Power n)
    (λ positive clear. absurd (omega arith))
    (λ n half positive clear. elim (ℕ_discrete (n % 2) 0) [
      | yes even ↦ even_power n positive clear even half
      | no odd ↦ odd_power n positive clear (omega arith)
    ])

pub power_by_bits : (n : ℕ) → n < 2 ^ 64 → (n ≡ 0 → ⊥) → eqb (bit_and n (n - 1)) 0 ≡ is_power_of_two n
power_by_bits n small positive =
    by_test (is_power_of_two n)
    (λ e. eq-eqb (bit_and n (n - 1)) 0 (power_clears (power_is n e)) ∙ sym e)
    (λ e. ne_eqb (bit_and n (n - 1)) 0 (λ z. true≢false (sym (is_power n small (clears_power n (omega arith) z)) ∙ e)) ∙ sym e)

-- ---- one bit

no_ones : count_ones 0 ≡ 0
no_ones = omega (arith, ones-le 0 0 (omega arith))

-- a power of two has one bit
power_one : {n : ℕ} → Power n → count_ones n ≡ 1
power_one {n} p =
    let e : n ≡ 1 * 2 ^ p.exponent + 0 = omega (arith, p.is) in
    rw e (omega (arith, ones_cat p.exponent 1 0 (pow_pos p.exponent), ones_step 1, no_ones))

-- and a number with one bit is a power of two: an odd one has no other, and an even one's half has it
one_power : (n : ℕ) → count_ones n ≡ 1 → Power n
one_power =
    bin_ind (λ (n : ℕ). count_ones n ≡ 1 → Power n)
    (λ one. absurd (omega (arith, no_ones)))
    (λ n half one. elim (ℕ_discrete (n % 2) 0) [
      | yes even ↦
          let p = half (omega (arith, ones_step n)) in
          record { exponent = suc p.exponent; is = omega (arith, p.is, pow-succ' 2 p.exponent) }
      | no odd ↦ record { exponent = 0; is = omega (arith, ones_step n, zero_from_ones (n / 2) (omega (arith, ones_step n))) }
    ])

-- the library's test of a number that fits a u64
pub power_by_ones : (n : ℕ) → n < 2 ^ 64 → eqb (count_ones n) 1 ≡ is_power_of_two n
power_by_ones n small =
    by_test (is_power_of_two n)
    (λ e. eq-eqb (count_ones n) 1 (power_one (power_is n e)) ∙ sym e)
    (λ e. ne_eqb (count_ones n) 1 (λ one. true≢false (sym (is_power n small (one_power n one)) ∙ e)) ∙ sym e)
