-- 01's "Numbers to check by" for the changes, as rows: what the rules give, and what 01 says. 01 has 4,096 pages; the tables here have
-- 32, which hold the same areas, so that the test computes in seconds.
-- Their test is `proofs/Cases.antt`. Assumes nothing.
use Rattle.std.specs.Prelude.{ℕ, false, List, [], ◌∷◌, take, replicate}
use Rattle.lists.specs.Case.{Case, row}
use Rattle.page_table.specs.declared.Backend.TheVariants.{Lazy, Linear}
use Rattle.area.specs.Answer.{Reply}
use Rattle.rules.specs.Change.{Tables, map_rule, unmap_rule, protect_rule}

-- an answer, the count and the first words of the area table
abbrev pub shown : ℕ → Reply Tables → List ℕ
shown words r = r.answer ∷ r.value.count ∷ take words r.value.areas

-- the area 0x1000–0x4000, flags 3, lazy, alone in a table of so many words
abbrev pub alone : ℕ → Tables
alone words = (map_rule (replicate words 0) (replicate 32 0) 0 0x1000 0x3000 3 Lazy false).value

abbrev pub unmapped : Tables → ℕ → ℕ → Reply Tables
unmapped t start size = unmap_rule t.areas t.pages t.count start size

abbrev pub flagged : Tables → ℕ → ℕ → ℕ → ℕ → Reply Tables
flagged t start size set clear = protect_rule t.areas t.pages t.count start size set clear

unfoldable pub change_cases : List Case
change_cases =
    -- P3 linear, page 16 alone, delta 16,777,199: accepted
    row ((map_rule (replicate 16 0) (replicate 32 0) 0 0x10000 0x1000 3 (Linear 16777199) false).answer ∷ []) (0 ∷ [])
    -- P4 pages 16 and 17: refused 5
    ∷ row ((map_rule (replicate 16 0) (replicate 32 0) 0 0x10000 0x2000 3 (Linear 16777199) false).answer ∷ []) (5 ∷ [])
    -- P5 area 0x1000–0x4000, protect 0x2000 size 0: one area still
    ∷ row (shown 4 (flagged (alone 16) 0x2000 0 0 2)) (0 ∷ 1 ∷ 0x1000 ∷ 0x4000 ∷ 3 ∷ 0 ∷ [])
    -- P6 same, unmap 0x2000 size 0x1000: 0x1000–0x2000 and 0x3000–0x4000
    ∷ row (shown 8 (unmapped (alone 16) 0x2000 0x1000)) (0 ∷ 2 ∷ 0x1000 ∷ 0x2000 ∷ 3 ∷ 0 ∷ 0x3000 ∷ 0x4000 ∷ 3 ∷ 0 ∷ [])
    -- with capacity 1: refused 6
    ∷ row (shown 4 (unmapped (alone 4) 0x2000 0x1000)) (6 ∷ 1 ∷ 0x1000 ∷ 0x4000 ∷ 3 ∷ 0 ∷ [])
    -- P7 same, protect with unchanged flags, capacity 1: accepted
    ∷ row (shown 4 (flagged (alone 4) 0x2000 0x1000 3 0)) (0 ∷ 1 ∷ 0x1000 ∷ 0x4000 ∷ 3 ∷ 0 ∷ [])
    ∷ []
