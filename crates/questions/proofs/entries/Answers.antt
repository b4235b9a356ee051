-- `entries` meets its contract: an area that find gives lies in the space, and a refusal has no pages. Assumes nothing.
use native.Mathlib.Omega.{arith}
use mathlib.Core.Path.{refl}
use Rattle.questions.specs.Question.{entries_of, entries_rule}
use Rattle.questions.proofs.Questions.{found_inside, found_value, found_nothing}
use Rattle.questions.proofs.entries.Goals as goal

pub slice_bounds-result-count : goal.slice_bounds-result-count
slice_bounds-result-count c = omega (arith, found_inside _ _ _ _ _ c.find.ensures c.in-Ok.is)

pub slice_bounds-result-start : goal.slice_bounds-result-start
slice_bounds-result-start c = omega (arith, found_inside _ _ _ _ _ c.find.ensures c.in-Ok.is)

pub slice_bounds-result-end : goal.slice_bounds-result-end
slice_bounds-result-end c = omega (arith, found_inside _ _ _ _ _ c.find.ensures c.in-Ok.is)

pub returns-in-Ok : goal.returns-in-Ok
unfolding entries_rule entries_of
returns-in-Ok c = rw (found_value _ _ _ _ _ c.find.ensures c.in-Ok.is) refl

pub returns-in-Err : goal.returns-in-Err
unfolding entries_rule entries_of
returns-in-Err c = rw (found_nothing _ _ _ _ _ c.find.ensures c.in-Err.is) refl
