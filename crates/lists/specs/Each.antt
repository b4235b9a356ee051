-- Effects on a table, element by element: what each element becomes, from its number and what it was.
-- Laws: `proofs/Each.antt`. Assumes nothing.
use Rattle.std.specs.Prelude.{ℕ, suc, Bool, ◌&&◌, cond, List, [], ◌∷◌, leb, ltb}

-- every element x with number k becomes g k x
unfoldable pub each : (ℕ → ℕ → ℕ) → List ℕ → List ℕ
each g [] = []
each g (x ∷ xs) = g 0 x ∷ each (λ k. g (suc k)) xs

-- whether number k is in the range from first up to, and without, end
unfoldable pub in_range : ℕ → ℕ → ℕ → Bool
in_range first end k = leb first k && ltb k end

-- f on the numbers of a range, and nothing elsewhere
unfoldable pub only : (ℕ → ℕ → ℕ) → ℕ → ℕ → ℕ → ℕ → ℕ
only f first end k x = cond (in_range first end k) (f k x) x

-- f on every element whose number is in the range; all others stay
unfoldable pub within : (ℕ → ℕ → ℕ) → ℕ → ℕ → List ℕ → List ℕ
within f first end xs = each (only f first end) xs
