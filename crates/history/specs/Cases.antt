-- 01's "Numbers to check by", P1 to P10, as rows of one table about the rules. Their test is `proofs/Cases.antt`. Assumes nothing.
use Rattle.std.specs.Prelude.{List, ◌++◌}
use Rattle.lists.specs.Case.{Case}
use Rattle.page_table.specs.Cases.{entry_cases}
use Rattle.search.specs.Cases.{search_cases}
use Rattle.rules.specs.Cases.{change_cases}

-- P1 to P4 on entries and frames; P3 to P7 on map, protect and unmap; P8 to P10 on search
unfoldable pub cases : List Case
cases = entry_cases ++ (change_cases ++ search_cases)
