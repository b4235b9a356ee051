-- `Area::good_in` meets its contract: each early answer contradicts one of the facts, and with all others known the frames
-- decide. Assumes nothing.
use mathlib.Core.Path.{◌∙◌, sym}
use native.Mathlib.Omega.{arith}
use Rattle.area.proofs.Areas.{not_good, frames_decide}
use Rattle.area.proofs.Area.good_in.Goals as goal

pub returns-then-self : goal.returns-then-self
returns-then-self c = sym (not_good _ _ (λ g. omega arith))

pub returns-then-space-self : goal.returns-then-space-self
returns-then-space-self c = sym (not_good _ _ (λ g. omega arith))

pub returns-then-self-ne0 : goal.returns-then-self-ne0
returns-then-self-ne0 c = sym (not_good _ _ (λ g. omega arith))

pub returns-then-self-ne0-2 : goal.returns-then-self-ne0-2
returns-then-self-ne0-2 c = sym (not_good _ _ (λ g. omega arith))

pub returns-then-self-gt-FLAGS : goal.returns-then-self-gt-FLAGS
returns-then-self-gt-FLAGS c = sym (not_good _ _ (λ g. omega arith))

pub returns : goal.returns
returns c = c.fits.ensures
    ∙ sym (frames_decide _ _ (omega arith) (omega arith) (omega arith) (omega arith) (omega arith))
