-- `read_full` meets its contract: a read in place fills the buffer on. Assumes nothing.
use Rattle.std.proofs.Common.{rules}
use Rattle.stream.proofs.Reading.{fills_more}
use Rattle.stream.proofs.read_full.Goals as goal

pub loop-done-preserved : goal.loop-done-preserved
loop-done-preserved g c = (
  search rules,
  fills_more _ _ _ _ _ _ _ c.loop-done.invariant.1 c.in_ok-n.n c.in_ok-n.ensures.bound.0 (search rules)
      c.in_ok-n.ensures.bytes.0,
)
