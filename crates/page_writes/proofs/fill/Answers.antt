-- `fill` meets its contract: the loop is a `Sweep` of every change that the calls make. Assumes nothing.
use Rattle.std.proofs.Common.{arith}
use Rattle.lists.proofs.Sweep.{begins, goes_on, ends}
use Rattle.page_writes.proofs.fill.Goals as goal

pub loop-page-init : goal.loop-page-init
loop-page-init g c change makes = begins _ _ _ _

pub loop-page-preserved : goal.loop-page-preserved
loop-page-preserved g c change makes =
    goes_on (c.loop-page.invariant change makes) _ c.loop-page-test.true (omega arith)
    (makes _ _ _ (omega arith) c.entry.ensures)

pub returns : goal.returns
returns g c change makes = ends (c.loop-page.invariant change makes) _ c.loop-page-test.false c.min-page-end.ensures
