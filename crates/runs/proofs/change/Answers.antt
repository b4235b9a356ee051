-- `change` meets its contract. Assumes nothing.
use mathlib.Core.Path.{sym, ◌∙◌}
use Rattle.runs.specs.Step.{change_rule}
use Rattle.runs.proofs.Steps.{no_change}
use Rattle.runs.proofs.change.Goals as goal

pub returns-in-Map : goal.returns-in-Map
unfolding change_rule
returns-in-Map c = c.map.ensures ∙ sym (rw c.in-Map.is)

pub returns-in-Unmap : goal.returns-in-Unmap
unfolding change_rule
returns-in-Unmap c = c.unmap.ensures ∙ sym (rw c.in-Unmap.is)

pub returns-in-Protect : goal.returns-in-Protect
unfolding change_rule
returns-in-Protect c = c.protect.ensures ∙ sym (rw c.in-Protect.is)

pub returns-in-Clear : goal.returns-in-Clear
unfolding change_rule
returns-in-Clear c = c.clear.ensures ∙ sym (rw c.in-Clear.is)

pub returns-in_default : goal.returns-in_default
returns-in_default c = no_change _ _ c.in_default.not-Map c.in_default.not-Unmap c.in_default.not-Protect c.in_default.not-Clear
