-- 01's worked examples of the search, by one computed test. Assumes nothing.
use mathlib.Core.Path.{◌≡◌, refl}
use mathlib.Core.Bool.{true}
use Rattle.lists.specs.Case.{agree}
use Rattle.lists.specs.Every.{every, lowest_of}
use Rattle.area_list.specs.Meet.{shares, shares_any}
use Rattle.search.specs.Free.{is_free, lowest_free, free_rule}
use Rattle.search.specs.Cases.{search_cases}

pub search_cases_lem : agree search_cases ≡ true
unfolding agree every lowest_of shares shares_any is_free lowest_free free_rule search_cases
search_cases_lem = refl
