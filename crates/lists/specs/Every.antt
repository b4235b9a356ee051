-- Tests over a list and over a range. Laws: `proofs/Every.antt`. Assumes nothing.
use Rattle.std.specs.Prelude.{ℕ, zero, suc, ◌-◌, Bool, true, false, ◌&&◌, ◌||◌, List, [], ◌∷◌}

-- every test of the list holds
unfoldable pub every : List Bool → Bool
every [] = true
every (t ∷ ts) = t && every ts

-- the test holds of n numbers from k on
unfoldable pub every_of : (ℕ → Bool) → ℕ → ℕ → Bool
every_of p k zero = true
every_of p k (suc n) = p k && every_of p (suc k) n

-- the test holds of every number of the range from first up to, and without, end
unfoldable pub every_in : (ℕ → Bool) → ℕ → ℕ → Bool
every_in p first end = every_of p first (end - first)

-- the first of n numbers from k on that passes the test, or the number after them
unfoldable pub lowest_of : (ℕ → Bool) → ℕ → ℕ → ℕ
lowest_of p k zero = k
lowest_of p k (suc n) = elim (p k) [ true ↦ k | false ↦ lowest_of p (suc k) n ]

-- the test holds of some of n numbers from k on
unfoldable pub some_of : (ℕ → Bool) → ℕ → ℕ → Bool
some_of p k zero = false
some_of p k (suc n) = p k || some_of p (suc k) n
