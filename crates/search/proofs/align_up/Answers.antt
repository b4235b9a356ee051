-- `align_up` meets its contract: the mask is the number before align, so what it keeps is what address is past a multiple.
-- Assumes nothing.
use native.Mathlib.Omega.{arith}
use mathlib.Core.Path.{sym, ◌∙◌}
use Rattle.search.proofs.Powers.{power_is, power_positive, power_mask}
use Rattle.search.proofs.Multiples.{up_is, up_past}
use Rattle.search.proofs.align_up.Goals as goal

pub overflow_sub-past : goal.overflow_sub-past
overflow_sub-past c = power_positive (power_is _ c.requires.align_power)

pub returns-then-past-eq0 : goal.returns-then-past-eq0
returns-then-past-eq0 c = let p = power_is _ c.requires.align_power in
    up_is _ _ (power_positive p) _ (sym (power_mask _ p) ∙ c.if-past-eq0.true) (omega arith) (omega (arith, power_positive p))

pub returns-else-past-eq0 : goal.returns-else-past-eq0
returns-else-past-eq0 c = let p = power_is _ c.requires.align_power in
    rw (power_mask _ p) (up_past _ _ (power_positive p) (λ z. c.if-past-eq0.false (power_mask _ p ∙ z)))
