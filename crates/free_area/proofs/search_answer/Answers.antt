-- `search_answer` meets its contract: each answer is its test's, with all tests before it passed. Assumes nothing.
use native.Mathlib.Omega.{arith}
use mathlib.Core.Path.{◌∙◌, sym}
use Rattle.std.proofs.lemmas.Result.{err_from_is_err_and}
use Rattle.area.proofs.Answers.{refusal_some}
use Rattle.questions.proofs.Answering.{tables_passed}
use Rattle.questions.proofs.Questions.{search_first, align_no_power, align_small, size_zero, limit_turned, size_uneven, search_passes}
use Rattle.free_area.proofs.search_answer.Goals as goal

pub returns-in_err-list-clause-answer : goal.returns-in_err-list-clause-answer
returns-in_err-list-clause-answer c = let p = err_from_is_err_and c.from_residual.result c.from_residual.ensures.1 in
    rw (p.1, p.2) (search_first _ _ _ _ _ _ _ c.in_err-list.ensures.answer (refusal_some _))

pub returns-then-not-power_of_two-clause-answer : goal.returns-then-not-power_of_two-clause-answer
returns-then-not-power_of_two-clause-answer c = sym (align_no_power _ _ _ _ _ _ _ (tables_passed _ _ _ (sym c.in_ok-list.ensures.answer)) (sym c.power_of_two.ensures ∙ c.if-not-power_of_two.true))

pub returns-then-wanted-lt-PAGE-clause-answer : goal.returns-then-wanted-lt-PAGE-clause-answer
returns-then-wanted-lt-PAGE-clause-answer c = sym (align_small _ _ _ _ _ _ _ (tables_passed _ _ _ (sym c.in_ok-list.ensures.answer)) (sym c.power_of_two.ensures ∙ c.if-not-power_of_two.false) c.if-wanted-lt-PAGE.true)

pub returns-then-wanted-eq0-clause-answer : goal.returns-then-wanted-eq0-clause-answer
returns-then-wanted-eq0-clause-answer c = sym (size_zero _ _ _ _ _ _ _ (tables_passed _ _ _ (sym c.in_ok-list.ensures.answer)) (sym c.power_of_two.ensures ∙ c.if-not-power_of_two.false) (omega arith) c.if-wanted-eq0.true)

pub returns-then-wanted-clause-answer : goal.returns-then-wanted-clause-answer
returns-then-wanted-clause-answer c = sym (limit_turned _ _ _ _ _ _ _ (tables_passed _ _ _ (sym c.in_ok-list.ensures.answer)) (sym c.power_of_two.ensures ∙ c.if-not-power_of_two.false) (omega arith) c.if-wanted-eq0.false c.if-wanted.true)

pub returns-then-wanted-ne0-clause-answer : goal.returns-then-wanted-ne0-clause-answer
returns-then-wanted-ne0-clause-answer c = sym (size_uneven _ _ _ _ _ _ _ (tables_passed _ _ _ (sym c.in_ok-list.ensures.answer)) (sym c.power_of_two.ensures ∙ c.if-not-power_of_two.false) (omega arith) c.if-wanted-eq0.false (omega arith) c.if-wanted-ne0.true)

pub returns-clause-answer : goal.returns-clause-answer
returns-clause-answer c = sym (search_passes _ _ _ _ _ _ _ (tables_passed _ _ _ (sym c.in_ok-list.ensures.answer)) (sym c.power_of_two.ensures ∙ c.if-not-power_of_two.false) (omega arith) c.if-wanted-eq0.false (omega arith) (omega arith))
