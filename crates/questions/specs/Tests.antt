-- The tests that calls have in common, in the order of 01's table. Laws: `proofs/Answering.antt`. Assumes nothing.
use Rattle.std.specs.Prelude.{ℕ, ◌+◌, not, ◌&&◌, List, [], ◌∷◌, ltb, length}
use Rattle.area.specs.Answer.{Test, refuse, answer}
use Rattle.area.specs.Area.{aligned}
use Rattle.area_list.specs.Good.{space_of, good_tables}

-- 1, BadTables: "tables not good"
abbrev pub bad_tables : List ℕ → List ℕ → ℕ → Test
bad_tables areas pages count = refuse 1 (not (good_tables areas count (length pages)))

-- what a call without arguments tests
unfoldable pub tables_answer : List ℕ → List ℕ → ℕ → ℕ
tables_answer areas pages count = answer (bad_tables areas pages count ∷ [])

-- 2, NotAligned: "start or size of a range no multiple of 4,096"
abbrev pub not_aligned : ℕ → ℕ → Test
not_aligned start size = refuse 2 (not (aligned start && aligned size))

-- 3, InvalidParam: "start + size, as an exact sum, above the space"
abbrev pub past_space : List ℕ → ℕ → ℕ → Test
past_space pages start size = refuse 3 (ltb (space_of (length pages)) (start + size))

-- what every call on a range tests first
abbrev pub range_tests : List ℕ → List ℕ → ℕ → ℕ → ℕ → List Test
range_tests areas pages count start size = bad_tables areas pages count ∷ not_aligned start size ∷ past_space pages start size ∷ []

unfoldable pub range_answer : List ℕ → List ℕ → ℕ → ℕ → ℕ → ℕ
range_answer areas pages count start size = answer (range_tests areas pages count start size)
