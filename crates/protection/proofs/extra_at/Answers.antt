-- `extra_at` meets its contract: where an area is split there is one more. Assumes nothing.
use native.Mathlib.Omega.{arith}
use mathlib.Core.Path.{◌∙◌}
use native.Mathlib.Nat.{add-zero}
use Rattle.area_list.proofs.Rows.{length_rows}
use Rattle.area_list.proofs.Goodness.{tables_are}
use Rattle.protection.proofs.Splits.{length_none, length_one}
use Rattle.protection.proofs.extra_at.Goals as goal

pub returns-in-Some : goal.returns-in-Some
returns-in-Some c = (
  length_one _ _ _ _ (tables_are _ _ _ c.args.areas.good).ordered _ c.in-Some.ensures.1 (rw length_rows c.in-Some.ensures.0) ∙ rw length_rows,
  omega arith,
)

pub returns-in-None : goal.returns-in-None
returns-in-None c = (
  length_none _ _ _ _ _ c.in-None.ensures (rw length_rows (omega arith)) ∙ rw (length_rows, add-zero),
  omega arith,
)
