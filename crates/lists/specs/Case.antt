-- Worked examples of document 01 as rows of one table: what the rules give beside what 01 says. A row holds numbers; all rows
-- together are one computed test. Assumes nothing.
use Rattle.std.specs.Prelude.{ℕ, Bool, true, false, ◌&&◌, cond, List, [], ◌∷◌, eqb}

pub record Case : Type 0 where
  pub given : List ℕ
  pub said : List ℕ

abbrev pub row : List ℕ → List ℕ → Case
row given said = record { given = given; said = said }

-- a yes or no as a number
unfoldable pub flag : Bool → ℕ
flag b = cond b 1 0

unfoldable pub same : List ℕ → List ℕ → Bool
same [] [] = true
same [] (y ∷ ys) = false
same (x ∷ xs) [] = false
same (x ∷ xs) (y ∷ ys) = eqb x y && same xs ys

-- every row gives what 01 says
unfoldable pub agree : List Case → Bool
unfolding same
agree [] = true
agree (c ∷ cs) = same c.given c.said && agree cs
