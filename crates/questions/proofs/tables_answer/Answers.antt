-- `tables_answer` meets its contract. Assumes nothing.
use mathlib.Core.Path.{◌∙◌, sym}
use Rattle.area_list.proofs.Goodness.{tables_are}
use Rattle.area_list.proofs.Positions.{sorted}
use Rattle.questions.proofs.Answering.{tables_bad, tables_good}
use Rattle.questions.proofs.tables_answer.Goals as goal

pub returns-then-not-good-clause-answer : goal.returns-then-not-good-clause-answer
returns-then-not-good-clause-answer c = sym (tables_bad _ _ _ (sym c.good.ensures ∙ c.if-not-good.true))

pub invariant_of-result : goal.invariant_of-result
invariant_of-result c = record { sorted = sorted (tables_are _ _ _ (sym c.good.ensures ∙ c.if-not-good.false)) }

pub returns-clause-answer : goal.returns-clause-answer
returns-clause-answer c = sym (tables_good _ _ _ (sym c.good.ensures ∙ c.if-not-good.false))
