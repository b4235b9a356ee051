-- What a loop that goes over a range, one store a turn, has done so far: the invariant of every such loop.
-- Assumes nothing.
use Prim.Native.Nat.{ℕ, ◌+◌, ◌≤◌, ◌<◌, min, max}
use mathlib.Core.Path.{◌≡◌, refl, sym, ap, ◌∙◌}
use mathlib.Core.List.{List}
use native.Mathlib.Omega.{arith}
use lib.ListN.{length, get_or, set, length-set}
use Rattle.lists.specs.Each.{within}
use Rattle.lists.proofs.Each.{within_none, within_more, within_cut}

-- the loop runs over the numbers from first up to stop, and is at k: xs₀ became xs
pub record Sweep (f : ℕ → ℕ → ℕ) (first stop k : ℕ) (xs₀ xs : List ℕ) : Type 0 where
  pub from : first ≤ k
  pub upto : k ≤ max first stop
  pub long : length xs ≡ length xs₀
  pub done : xs ≡ within f first k xs₀

pub begins : (f : ℕ → ℕ → ℕ) (first stop : ℕ) (xs : List ℕ) → Sweep f first stop first xs xs
begins f first stop xs = record { from = omega arith; upto = omega arith; long = refl; done = sym (within_none f first first xs (omega arith)) }

module _ {f : ℕ → ℕ → ℕ} {first stop k : ℕ} {xs₀ xs : List ℕ} (s : Sweep f first stop k xs₀ xs) where
  pub goes_on : (v : ℕ) → k < stop → stop ≤ length xs₀ → v ≡ f k (get_or xs₀ k 0) → Sweep f first stop (k + 1) xs₀ (set xs k v)
  goes_on v more room e =
      record {
        from = omega arith;
        upto = omega arith;
        long = length-set xs k v ∙ s.long;
        done = ap (λ (ys : List ℕ). set ys k v) s.done ∙ within_more f first k xs₀ v s.from (omega arith) e;
      }

  pub ends : (end : ℕ) → stop ≤ k → stop ≡ min end (length xs₀) → xs ≡ within f first end xs₀
  ends end over e = s.done ∙ within_cut f first k end xs₀ (λ j l a. omega arith)
