-- `extra_areas` meets its contract: both ends of the range count. Assumes nothing.
use native.Mathlib.Omega.{arith}
use Rattle.area_list.proofs.Rows.{length_rows}
use Rattle.area_list.proofs.Goodness.{tables_are}
use Rattle.effects.proofs.Protecting.{length_protect}
use Rattle.protection.proofs.extra_areas.Goals as goal

pub returns : goal.returns
returns c =
    let all = length_protect _ _ c.args.change.set c.args.change.clear c.requires _
    (tables_are _ _ _ c.args.areas.good).ordered in
    (omega (arith, rw length_rows at all, c.extra_at-left.ensures.0, c.extra_at-right.ensures.0), omega arith)
