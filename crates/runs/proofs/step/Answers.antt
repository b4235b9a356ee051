-- `step` meets its contract. Assumes nothing.
use mathlib.Core.Path.{ap, ◌∙◌}
use Rattle.runs.specs.Step.{run_rule, step_rule}
use Rattle.runs.proofs.step.Goals as goal

pub returns : goal.returns
unfolding step_rule
returns c = c.run.ensures ∙ ap (run_rule _) c.decode.ensures
