-- `find` meets its contract. Assumes nothing.
use native.Mathlib.Omega.{arith}
use mathlib.Core.Path.{refl, sym}
use Rattle.lists.proofs.Found.{some_slot, none_slot}
use Rattle.area.proofs.Answers.{stops, refusal_some}
use Rattle.questions.specs.Question.{find_rule}
use Rattle.questions.proofs.Answering.{tables_passed}
use Rattle.questions.proofs.Questions.{find_first, found_none, found_at}
use Rattle.questions.proofs.find.Goals as goal

pub returns-in_err-list : goal.returns-in_err-list
unfolding find_rule
returns-in_err-list c = stops _ _ _ _ _ c.from_residual.ensures.1 (find_first _ _ _ _ c.in_err-list.ensures.answer (refusal_some _))

pub at-requires : goal.at-requires
at-requires c = (some_slot _ _ _ c.in-Some.ensures).1

pub returns-in-Some : goal.returns-in-Some
returns-in-Some c =
    let l = c.in_ok-list.ensures.list in
    let place = some_slot _ _ _ c.in-Some.ensures in
    found_at _ _ _ _ (tables_passed _ _ _ (sym c.in_ok-list.ensures.answer)) c.in-Some.slot (rw (← l.0, ← l.1) place.0) c.at.result
    (rw (← l.0, ← l.1) c.at.ensures) (omega (arith, l.1, place.1))

pub returns-in-None : goal.returns-in-None
returns-in-None c =
    let l = c.in_ok-list.ensures.list in
    found_none _ _ _ _ (tables_passed _ _ _ (sym c.in_ok-list.ensures.answer)) _ refl _ refl (rw (← l.0, ← l.1) (none_slot _ _ c.in-None.ensures))
