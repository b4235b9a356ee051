-- 01's worked examples under one statement: every row gives what 01 says. Each part is one computed test where its rules are.
-- Assumes nothing.
use mathlib.Core.Path.{◌≡◌}
use mathlib.Core.Bool.{true}
use mathlib.Core.List.{List, [], ◌∷◌, ◌++◌}
use Rattle.lists.specs.Case.{Case, same, agree}
use Rattle.lists.proofs.Every.{and_left, and_right}
use Rattle.page_table.specs.Cases.{entry_cases}
use Rattle.page_table.proofs.Cases.{entry_cases_lem}
use Rattle.search.specs.Cases.{search_cases}
use Rattle.search.proofs.Cases.{search_cases_lem}
use Rattle.rules.specs.Cases.{change_cases}
use Rattle.rules.proofs.Cases.{change_cases_lem}
use Rattle.history.specs.Cases.{cases}

agree_append : (xs ys : List Case) → agree xs ≡ true → agree ys ≡ true → agree (xs ++ ys) ≡ true
unfolding agree
agree_append [] ys e f = f
agree_append (c ∷ xs) ys e f =
    rw (and_left (same c.given c.said) (agree xs) e) (agree_append xs ys (and_right (same c.given c.said) (agree xs) e) f)

pub every_case : agree cases ≡ true
unfolding cases
every_case = agree_append entry_cases (change_cases ++ search_cases) entry_cases_lem (agree_append change_cases search_cases change_cases_lem search_cases_lem)
