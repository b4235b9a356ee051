-- `map_answer` meets its contract: what passing the range's tests tells. The laws on the function give each exit. Assumes nothing.
use native.Mathlib.Omega.{arith}
use Rattle.questions.proofs.Answering.{range_small}
use Rattle.rules.proofs.Changing.{range_accepted}
use Rattle.map.proofs.map_answer.Goals as goal

pub overflow_add-end : goal.overflow_add-end
overflow_add-end c = omega (arith, range_small (range_accepted _ _ _ _ _ c.in_ok-list.ensures.answer))
