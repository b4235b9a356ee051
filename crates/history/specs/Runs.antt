-- A run: fresh tables, and then calls, each given the tables and the count that the last one left. Assumes nothing.
use Rattle.std.specs.Prelude.{ℕ, cond, List, [], ◌∷◌, eqb, replicate}
use Rattle.rules.specs.Change.{Tables, tables}
use Rattle.rules.specs.Calls.{Call, called}

-- no areas and an all-zero page table of P pages, with an area table of so many words
abbrev pub fresh : ℕ → ℕ → Tables
fresh words p = tables (replicate words 0) (replicate p 0) 0

-- the tables after a sequence of calls, the latest first
unfoldable pub after : Tables → List Call → Tables
after t [] = t
after t (call ∷ earlier) = (called call (after t earlier)).value

-- the calls of the sequence that were accepted
unfoldable pub accepted : Tables → List Call → List Call
accepted t [] = []
accepted t (call ∷ earlier) =
    cond (eqb (called call (after t earlier)).answer 0) (call ∷ accepted t earlier) (accepted t earlier)
