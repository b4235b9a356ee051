-- 01's "Numbers to check by" for the search, as rows: what the rule gives, and what 01 says. The space has 4,096 pages.
-- Their test is `proofs/Cases.antt`. Assumes nothing.
use Rattle.std.specs.Prelude.{ℕ, ◌*◌, List, [], ◌∷◌}
use Rattle.lists.specs.Case.{Case, row}
use Rattle.page_table.specs.Limits.{page_size}
use Rattle.page_table.specs.declared.Backend.TheVariants.{Lazy}
use Rattle.area.specs.declared.Area.{Area}
use Rattle.search.specs.Free.{Ask, asked, FreeOutcome, free_rule}

-- an area from start up to end
abbrev span : ℕ → ℕ → Area
span start end = record { start = start; end = end; flags = 3; backend = Lazy }

-- hint, size, limit and align over 4,096 pages
abbrev ask : ℕ → ℕ → ℕ → ℕ → ℕ → Ask
ask hint size low high align = asked hint size low high align (page_size * 4096)

-- the answer's number and address
abbrev numbers : FreeOutcome → List ℕ
numbers o = o.answer ∷ o.at ∷ []

unfoldable pub search_cases : List Case
search_cases =
    -- S1 (P8) area 0x1000–0x4000, search hint 0, size 0x1000: 0
    row (numbers (free_rule (span 0x1000 0x4000 ∷ []) (ask 0 0x1000 0 0x1000000 0x1000))) (0 ∷ 0 ∷ [])
    -- Size 0x2000: 0x4000
    ∷ row (numbers (free_rule (span 0x1000 0x4000 ∷ []) (ask 0 0x2000 0 0x1000000 0x1000))) (0 ∷ 0x4000 ∷ [])
    -- S2 (P9) area 0x8000–0x9000, hint 0x1000, size 0x4000, limit 0x1000–0x3000: 7
    ∷ row (numbers (free_rule (span 0x8000 0x9000 ∷ []) (ask 0x1000 0x4000 0x1000 0x3000 0x1000))) (7 ∷ 0 ∷ [])
    -- S3 (P10) areas 0x3000–0x5000 and 0x6000–0x9000, hint 0x4000, size and align 0x4000, limit 0–0x20000: 0xC000
    ∷ row (numbers (free_rule (span 0x3000 0x5000 ∷ span 0x6000 0x9000 ∷ []) (ask 0x4000 0x4000 0 0x20000 0x4000))) (0 ∷ 0xC000 ∷ [])
    ∷ []
