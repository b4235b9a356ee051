-- Laws of multiples: two of them are one step apart at least, and `up_to` is the lowest that is not below an address.
-- Assumes nothing.
use Prim.Native.Nat.{ℕ, zero, suc, ◌+◌, ◌-◌, ◌*◌, ◌/◌, ◌%◌, ◌≤◌, ◌<◌}
use mathlib.Core.Path.{◌≡◌}
use native.Mathlib.Omega.{arith}
use native.Mathlib.Decide.{dec_le}
use native.Mathlib.Nat.{le_trans, div-add-mod, div-zero, div-mul-le_self, le-div_iff_mul-le, mod-lt, mul-mod_right, mul-suc, mul-le-mul_left, lt_of_mul-lt-mul_left}
use Rattle.search.specs.Free.{up_to}

-- a multiple, written as one
pub as_product : (n a : ℕ) → a % n ≡ 0 → a ≡ n * (a / n)
as_product n a m = omega (arith, div-add-mod a n)

pub steps_apart : (n a b : ℕ) → a % n ≡ 0 → b % n ≡ 0 → a < b → a + n ≤ b
steps_apart n a b ma mb h =
    let p : a ≡ n * (a / n) = as_product n a ma in
    let q : b ≡ n * (b / n) = as_product n b mb in
    let less : a / n < b / n = lt_of_mul-lt-mul_left n (omega arith) in
    let step : n * suc (a / n) ≤ n * (b / n) = mul-le-mul_left n less in
    omega (arith, mul-suc n (a / n))

-- a lower number has no more steps below it
pub steps_rise : (n a b : ℕ) → a ≤ b → a / n ≤ b / n
steps_rise zero a b h = rw (div-zero a, div-zero b) (omega arith)
steps_rise (suc n) a b h = (le-div_iff_mul-le {k = suc n} (omega arith)).1 (le_trans (div-mul-le_self a (suc n)) h)

module _ (n address : ℕ) (positive : 0 < n) where
  pub up_multiple : up_to n address % n ≡ 0
  unfolding up_to
  up_multiple = mul-mod_right n ((address + (n - 1)) / n)

  pub up_from : address ≤ up_to n address
  unfolding up_to
  up_from = omega (arith, div-add-mod (address + (n - 1)) n, mod-lt (address + (n - 1)) positive)

  pub up_near : up_to n address < address + n
  unfolding up_to
  up_near = omega (arith, div-add-mod (address + (n - 1)) n)

  pub up_lowest : (a : ℕ) → a % n ≡ 0 → address ≤ a → up_to n address ≤ a
  up_lowest a m h =
      elim (dec_le (up_to n address) a)
      [ yes l ↦ l | no l ↦ absurd (omega (arith, up_near, steps_apart n a (up_to n address) m up_multiple (omega arith))) ]

  -- a multiple that is less than a step past the address
  pub up_is : (a : ℕ) → a % n ≡ 0 → address ≤ a → a < address + n → a ≡ up_to n address
  up_is a m h near =
      elim (dec_le a (up_to n address)) [
        | yes l ↦ omega (arith, up_lowest a m h)
        | no l ↦ absurd (omega (arith, up_from, steps_apart n (up_to n address) a up_multiple m (omega arith)))
      ]

  -- the next one after an address that is none
  pub up_past : (address % n ≡ 0 → ⊥) → address + (n - address % n) ≡ up_to n address
  up_past past =
      let split : n * (address / n) + address % n ≡ address = div-add-mod address n in
      let small : address % n < n = mod-lt address positive in
      let next : n * suc (address / n) ≡ n * (address / n) + n = mul-suc n (address / n) in
      let e : address + (n - address % n) ≡ n * suc (address / n) = omega arith in
      up_is (address + (n - address % n)) (rw e (mul-mod_right n (suc (address / n)))) (omega arith) (omega arith)
