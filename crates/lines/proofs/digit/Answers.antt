-- `digit` meets its contract. Assumes nothing.
use native.Mathlib.Omega.{arith}
use borrow.Author.Tests.{lt-ltb, le-ltb}
use Rattle.lines.specs.Line.{digit}
use Rattle.lines.proofs.digit.Goals as goal

pub returns-then-value-lt10 : goal.returns-then-value-lt10
unfolding digit
returns-then-value-lt10 c = simp (lt-ltb _ _ c.if-value-lt10.true)

pub returns-else-value-lt10 : goal.returns-else-value-lt10
unfolding digit
returns-else-value-lt10 c = simp (le-ltb _ _ c.if-value-lt10.false) (omega arith)
