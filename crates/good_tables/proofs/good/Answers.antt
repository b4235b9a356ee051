-- `good` meets its contract: with pages and count within their limits, the first area that breaks the rule decides. Assumes nothing.
use native.Mathlib.Omega.{arith}
use Rattle.area_list.proofs.Goodness.{none_decides}
use Rattle.good_tables.proofs.good.Goals as goal

pub returns : goal.returns
returns c = none_decides _ _ _ _ _ (omega arith) (omega (arith, c.capacity.ensures)) c.first_bad.ensures c.is_none.ensures
