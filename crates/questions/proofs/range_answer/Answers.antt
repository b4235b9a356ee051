-- `range_answer` meets its contract: each answer is its test's, with all tests before it passed. Assumes nothing.
use native.Mathlib.Omega.{arith}
use mathlib.Core.Path.{◌∙◌, sym}
use Rattle.std.proofs.lemmas.Result.{err_from_is_err_and}
use Rattle.area.proofs.Answers.{refusal_some}
use Rattle.area_list.proofs.Goodness.{tables_are}
use Rattle.questions.proofs.Answering.{tables_passed, range_first, start_unaligned, size_unaligned, range_past, range_inside}
use Rattle.questions.proofs.range_answer.Goals as goal

pub returns-in_err-list-clause-answer : goal.returns-in_err-list-clause-answer
returns-in_err-list-clause-answer c = let p = err_from_is_err_and c.from_residual.result c.from_residual.ensures.1 in
    rw (p.1, p.2) (c.in_err-list.ensures.answer ∙ range_first _ _ _ _ _ (λ z. refusal_some _ (c.in_err-list.ensures.answer ∙ z)))

pub returns-then-start-ne0-clause-answer : goal.returns-then-start-ne0-clause-answer
returns-then-start-ne0-clause-answer c = sym (start_unaligned _ _ _ _ _ (tables_passed _ _ _ (sym c.in_ok-list.ensures.answer)) c.if-start-ne0.true)

pub returns-then-size-ne0-clause-answer : goal.returns-then-size-ne0-clause-answer
returns-then-size-ne0-clause-answer c = sym (size_unaligned _ _ _ _ _ (tables_passed _ _ _ (sym c.in_ok-list.ensures.answer)) c.if-size-ne0.true)

pub overflow_mul-space : goal.overflow_mul-space
overflow_mul-space c = omega (arith, (tables_are _ _ _ (tables_passed _ _ _ (sym c.in_ok-list.ensures.answer))).pages_few)

pub returns-then-space-start-clause-answer : goal.returns-then-space-start-clause-answer
returns-then-space-start-clause-answer c = sym (range_past _ _ _ _ _ (tables_passed _ _ _ (sym c.in_ok-list.ensures.answer)) (omega arith) (omega arith) (omega arith))

pub returns-then-space-start-2-clause-answer : goal.returns-then-space-start-2-clause-answer
returns-then-space-start-2-clause-answer c = sym (range_past _ _ _ _ _ (tables_passed _ _ _ (sym c.in_ok-list.ensures.answer)) (omega arith) (omega arith) (omega arith))

pub returns-clause-answer : goal.returns-clause-answer
returns-clause-answer c = sym (range_inside _ _ _ _ _ (tables_passed _ _ _ (sym c.in_ok-list.ensures.answer)) (omega arith) (omega arith) (omega arith))
