-- 01's "Numbers to check by" for entries and frames, as rows: what the rules give, and what 01 says.
-- Their test is `proofs/Cases.antt`. Assumes nothing.
use Rattle.std.specs.Prelude.{◌-◌, ◌^◌, List, [], ◌∷◌}
use Rattle.lists.specs.Case.{Case, row, flag}
use Rattle.page_table.specs.Entry.{linear_frame, entry_of, frame_of}
use Rattle.page_table.specs.Frames.{frames_fit}
use Rattle.page_table.specs.declared.Backend.TheVariants.{Lazy, Linear}

unfoldable pub entry_cases : List Case
entry_cases =
    -- P1 lazy entry, flags 3: 51
    row (entry_of Lazy 3 0 ∷ []) (51 ∷ [])
    -- P2 linear page 5, delta 2^32 − 2, flags 3: frame 3, entry 787
    ∷ row (linear_frame 5 (2 ^ 32 - 2) ∷ entry_of (Linear (2 ^ 32 - 2)) 3 5 ∷ []) (3 ∷ 787 ∷ [])
    -- P3 linear, page 16 alone, delta 16,777,199: legal, frame 16,777,215
    ∷ row (flag (frames_fit 16 17 16777199) ∷ frame_of (entry_of (Linear 16777199) 3 16) ∷ []) (1 ∷ 16777215 ∷ [])
    -- P4 pages 16 and 17: not legal
    ∷ row (flag (frames_fit 16 18 16777199) ∷ []) (0 ∷ [])
    ∷ []
