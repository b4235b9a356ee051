-- `Out::range` meets its contract. Assumes nothing.
use Rattle.lines.proofs.Lines.{writes_spaced}
use Rattle.lines.proofs.Out.range.Goals as goal

pub returns-clause-put : goal.returns-clause-put
returns-clause-put c = writes_spaced _ _ _ c.hex.ensures.put c.hex-2.ensures.put
