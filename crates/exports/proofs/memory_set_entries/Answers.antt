-- `memory_set_entries` meets its contract: an area that find gives does not end before it starts. Assumes nothing.
use native.Mathlib.Omega.{arith}
use mathlib.Core.Path.{ap, ◌∙◌}
use Rattle.std.specs.Result.{result_unwrap_or}
use Rattle.area.specs.Answer.{Reply}
use Rattle.area.specs.declared.Area.{Area}
use Rattle.exports.proofs.Numbers.{pages_ordered, value_of}
use Rattle.exports.proofs.memory_set_entries.Goals as goal

pub overflow_sub-number : goal.overflow_sub-number
overflow_sub-number c =
    let area = c.unwrap_or-area.ensures ∙ ap (result_unwrap_or c.find-holder.result) c.nothing.ensures
    ∙ value_of _ c.find-holder.result ∙ ap (λ (o : Reply Area). o.value) c.find-holder.ensures in
    omega (arith, pages_ordered _ _ _ _ _ area)
