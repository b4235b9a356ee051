-- `table` meets its contract: of the rows that the words make, the first. Assumes nothing.
use native.Mathlib.Omega.{arith}
use mathlib.Core.Path.{ap, ◌∙◌}
use lib.ListN.{take}
use Rattle.area_list.proofs.Positions.{first_rows}
use Rattle.positions.proofs.table.Goals as goal

pub returns : goal.returns
returns c = ap (take c.args.areas.count) c.as_chunks.ensures.front ∙ first_rows _ _ _ (omega (arith, c.args.areas.sorted))
