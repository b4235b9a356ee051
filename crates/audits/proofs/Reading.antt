-- Laws of reading a dump: numbers one after the other. Assumes nothing.
use Prim.Native.Nat.{ℕ, zero, suc, ◌+◌, ◌*◌, ◌≤◌, ◌<◌}
use mathlib.Core.Path.{◌≡◌, refl, sym, ap, ◌∙◌}
use mathlib.Core.List.{List, [], ◌∷◌, ◌++◌}
use native.Mathlib.Omega.{arith}
use native.Mathlib.Nat.{mul-suc, mul-zero}
use native.Mathlib.Numerals.{add-one}
use lib.ListN.{length, take, set, length-set}
use lib.Seq.{take_all, take-suc-set}
use Rattle.little_endian.specs.Number.{number_at}
use Rattle.dumps.specs.Dump.{numbers_at}

module _ (bytes : List ℕ) (size : ℕ) where
  pub length_numbers : (n at : ℕ) → length (numbers_at bytes at size n) ≡ n
  unfolding numbers_at
  length_numbers zero at = refl
  length_numbers (suc n) at = ap suc (length_numbers n (at + size))

  -- one number more
  numbers_next : (n at : ℕ) → numbers_at bytes at size (suc n) ≡ numbers_at bytes at size n ++ (number_at bytes (at + size * n) size ∷ [])
  unfolding numbers_at
  numbers_next zero at = let e : at + size * 0 ≡ at = omega (arith, mul-zero size) in rw e
  numbers_next (suc n) at =
      let e : at + size + size * n ≡ at + size * suc n = omega (arith, mul-suc size n) in
      ap (λ (l : List ℕ). number_at bytes at size ∷ l) (numbers_next n (at + size) ∙ rw e)

-- the first k numbers of a list were read, and its length is as it was
pub record Reads (bytes : List ℕ) (at size k : ℕ) (ns₀ ns : List ℕ) : Type 0 where
  pub upto : k ≤ length ns
  pub long : length ns ≡ length ns₀
  pub done : take k ns ≡ numbers_at bytes at size k

pub read_begins : (bytes : List ℕ) (at size : ℕ) (ns : List ℕ) → Reads bytes at size 0 ns ns
unfolding numbers_at
read_begins bytes at size ns = record { upto = omega arith; long = refl; done = refl }

module _ {bytes : List ℕ} {at size k : ℕ} {ns₀ ns : List ℕ} (r : Reads bytes at size k ns₀ ns) where
  pub read_on : (n : ℕ) → k < length ns → n ≡ number_at bytes (at + size * k) size → Reads bytes at size (k + 1) ns₀ (set ns k n)
  read_on n more e =
      record {
        upto = omega (arith, length-set ns k n);
        long = length-set ns k n ∙ r.long;
        done = rw (add-one k, take-suc-set ns k n more, r.done, e) (sym (numbers_next bytes size k at));
      }

  pub read_ends : length ns ≤ k → ns ≡ numbers_at bytes at size (length ns₀)
  read_ends h =
      let e : k ≡ length ns₀ = omega (arith, r.upto, r.long) in
      sym (take_all k ns h) ∙ r.done ∙ rw e
