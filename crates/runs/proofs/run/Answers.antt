-- `run` meets its contract. Assumes nothing.
use mathlib.Core.Path.{◌∙◌}
use Rattle.lines.specs.Line.{line_bytes}
use Rattle.runs.proofs.Steps.{accepted_line, refused_line, result_spoken, two_steps}
use Rattle.runs.proofs.run.Goals as goal

pub returns-in-Ok : goal.returns-in-Ok
returns-in-Ok c = two_steps _ _ _ _ _ c.in-Ok.ensures (accepted_line (result_spoken _ _ c.unwrap_or_else.ensures ∙ c.ask.ensures))

pub returns-in-Err : goal.returns-in-Err
unfolding line_bytes
returns-in-Err c = two_steps _ _ _ _ _ c.in-Err.ensures (refused_line _ _)
