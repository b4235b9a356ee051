-- What a search answers: a place, or none. A rule that gives the lowest place gives the number of places where there is none.
-- Laws: `proofs/Found.antt`. Assumes nothing.
use Rattle.std.specs.Prelude.{ℕ, cond, ltb, Option, Some, None}

-- place k of n places; none where k is n, or more
unfoldable pub found_below : ℕ → ℕ → Option ℕ
found_below n k = cond (ltb k n) (Some k) None
