-- `len` meets its contract. Assumes nothing.
use mathlib.Core.Path.{sym}
use Rattle.area.proofs.Answers.{accepts, stops}
use Rattle.questions.specs.Question.{len_rule}
use Rattle.questions.proofs.len.Goals as goal

pub returns-in_err-tables_answer : goal.returns-in_err-tables_answer
unfolding len_rule
returns-in_err-tables_answer c = stops _ _ _ _ _ c.from_residual.ensures.1 c.in_err-tables_answer.ensures.answer

pub returns : goal.returns
unfolding len_rule
returns c = accepts _ _ _ (sym c.in_ok-tables_answer.ensures.answer)
