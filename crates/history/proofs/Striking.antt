-- Refused calls and questions may be struck from a sequence: the tables are the same without them. Assumes nothing.
use mathlib.Core.Path.{◌≡◌, refl, sym, ap, ◌∙◌}
use mathlib.Core.Bool.{true, true≢false}
use mathlib.Core.List.{List, [], ◌∷◌}
use native.Mathlib.Decide.{ℕ_discrete}
use borrow.Author.Tests.{eq-eqb, ne_eqb}
use Rattle.lists.proofs.Every.{by_test}
use Rattle.rules.specs.Change.{Tables}
use Rattle.rules.specs.Calls.{Call, len_call, empty_call, overlaps_call, find_call, entries_call, search_call, map_call, unmap_call, clear_call, protect_call, called}
use Rattle.rules.proofs.Demands.{all_or_nothing}
use Rattle.history.specs.Runs.{after, accepted}
use Rattle.history.specs.Strike.{asks, without_questions}

-- a question keeps the tables
question_keeps : (c : Call) (t : Tables) → asks c ≡ true → (called c t).value ≡ t
unfolding called asks
question_keeps len_call t e = refl
question_keeps empty_call t e = refl
question_keeps (overlaps_call start size) t e = refl
question_keeps (find_call address) t e = refl
question_keeps (entries_call address) t e = refl
question_keeps (search_call hint size low high align) t e = refl
question_keeps (map_call start size flags backend replace) t e = absurd (true≢false (sym e))
question_keeps (unmap_call start size) t e = absurd (true≢false (sym e))
question_keeps clear_call t e = absurd (true≢false (sym e))
question_keeps (protect_call start size set clear) t e = absurd (true≢false (sym e))

module _ (t : Tables) where
  pub without_refused : (cs : List Call) → after t (accepted t cs) ≡ after t cs
  unfolding after accepted
  without_refused [] = refl
  without_refused (c ∷ cs) =
      elim (ℕ_discrete (called c (after t cs)).answer 0) [
        | yes z ↦ rw (eq-eqb (called c (after t cs)).answer 0 z) (ap (λ (u : Tables). (called c u).value) (without_refused cs))
        | no z ↦ rw (ne_eqb (called c (after t cs)).answer 0 z, (all_or_nothing c (after t cs)).refusal z) (without_refused cs)
      ]

  pub without_questions_lem : (cs : List Call) → after t (without_questions cs) ≡ after t cs
  unfolding after without_questions
  without_questions_lem [] = refl
  without_questions_lem (c ∷ cs) =
      by_test (asks c)
      (λ e. rw (e, question_keeps c (after t cs) e) (without_questions_lem cs))
      (λ e. rw e (ap (λ (u : Tables). (called c u).value) (without_questions_lem cs)))

  -- both
  pub only_changes : (cs : List Call) → after t (without_questions (accepted t cs)) ≡ after t cs
  only_changes cs = without_questions_lem (accepted t cs) ∙ without_refused cs
