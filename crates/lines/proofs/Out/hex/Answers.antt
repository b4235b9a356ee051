-- `Out::hex` meets its contract. Assumes nothing.
use Rattle.std.proofs.Common.{refl}
use native.Mathlib.Omega.{arith}
use Rattle.lines.proofs.Lines.{spells_begins, spells_on, spells_ends}
use Rattle.lines.proofs.Out.hex.Goals as goal

pub loop-k-init : goal.loop-k-init
loop-k-init c = (spells_begins c.args.self.now.bytes.now c.args.self.now.at c.args.digits c.args.value, refl, refl)

pub loop-k-preserved : goal.loop-k-preserved
loop-k-preserved c =
    let (spells, at, same) = c.loop-k.invariant in
    (rw at (spells_on spells _ (omega arith) c.requires _ c.digit.ensures), at, same)

pub returns-clause-put : goal.returns-clause-put
returns-clause-put c =
    let (spells, at, same) = c.loop-k.invariant in
    record { same = same; put = rw at (spells_ends spells c.requires (omega arith) _) }
