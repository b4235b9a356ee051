-- `put_cut` meets its contract. Assumes nothing.
use Rattle.records.proofs.Finishing.{no_cut, a_cut}
use Rattle.records.proofs.put_cut.Goals as goal

pub returns-then-filled-eq0 : goal.returns-then-filled-eq0
returns-then-filled-eq0 c = no_cut _ _ c.if-filled-eq0.true

pub returns : goal.returns
returns c = a_cut _ c.if-filled-eq0.false c.put_line.ensures
