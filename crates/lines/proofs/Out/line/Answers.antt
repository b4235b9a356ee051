-- `Out::line` meets its contract: the texts that an arm puts, one after another, are the line. Assumes nothing.
use mathlib.Core.List.{append_assoc}
use mathlib.Core.Path.{◌≡◌}
use native.Mathlib.Omega.{arith}
use Rattle.area.specs.Answer.{number_of}
use Rattle.lines.specs.Line.{hex, line_bytes}
use Rattle.lines.proofs.Lines.{writes_then, number_digit}
use Rattle.lines.proofs.Out.line.Goals as goal

pub returns-in-No : goal.returns-in-No
unfolding hex line_bytes
returns-in-No c =
    let value : c.from.result ≡ number_of c.in-No.answer = omega (arith, c.from.ensures, c.number_of.ensures) in
    rw (c.in-No.is, number_digit c.in-No.answer, ← value) (writes_then c.put-in-No.ensures c.hex.ensures.put)

pub returns-in-In : goal.returns-in-In
unfolding line_bytes
returns-in-In c = rw c.in-In.is (writes_then c.put-in-In.ensures c.range.ensures.put)

pub returns-in-At : goal.returns-in-At
unfolding line_bytes
returns-in-At c = rw c.in-At.is (writes_then c.put-in-At.ensures c.hex-in-At.ensures.put)

pub returns-in-Area : goal.returns-in-Area
unfolding line_bytes
returns-in-Area c =
    rw (c.in-Area.is, ← c.from-in-Area.ensures)
    (writes_then c.put-in-Area.ensures (rw append_assoc at (writes_then c.range-in-Area.ensures.put c.hex-in-Area.ensures.put)))
