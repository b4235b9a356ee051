-- Writes to a run of words: what a table is after a list was laid over it. Laws: `proofs/Over.antt`. Assumes nothing.
use Rattle.std.specs.Prelude.{ℕ, ◌+◌, List, ◌++◌, length, take, drop}

-- xs laid over ws from place p on
unfoldable pub over : List ℕ → ℕ → List ℕ → List ℕ
over ws p xs = take p ws ++ (xs ++ drop (p + length xs) ws)
