-- `split_at` meets its contract: where no area is split the words stay, and where one is its halves take its slot.
-- Assumes nothing.
use native.Mathlib.Omega.{arith}
use Rattle.area_list.proofs.Goodness.{tables_are}
use Rattle.area_list.proofs.Positions.{sorted}
use Rattle.protection.proofs.Words.{no_split, split_gap, one_split}
use Rattle.protection.proofs.split_at.Goals as goal

pub returns-in_default : goal.returns-in_default
returns-in_default c = no_split _ _ _ _ _ c.requires.tables_good _ c.in_default.ensures (omega arith)

pub invariant_of-list : goal.invariant_of-list
invariant_of-list c = record { sorted = sorted (tables_are _ _ _ c.requires.tables_good) }

pub splice-requires-clause-sorted_rows : goal.splice-requires-clause-sorted_rows
splice-requires-clause-sorted_rows c = sorted (tables_are _ _ _ c.requires.tables_good)

pub splice-requires-clause-gap : goal.splice-requires-clause-gap
splice-requires-clause-gap c = split_gap _ _ _ _ _ c.requires.tables_good _ c.in-Some.ensures.1 c.in-Some.ensures.0
    c.requires.count_len_bound

pub returns : goal.returns
returns c = one_split _ _ _ _ _ c.requires.tables_good _ c.in-Some.ensures.1 c.in-Some.ensures.0
    _ _ _ c.at-area.ensures c.part-left.ensures c.part-right.ensures
    c.splice.ensures.0 c.splice.ensures.1
