-- `ask` meets its contract. Assumes nothing.
use mathlib.Core.Path.{sym, ap, ◌∙◌}
use Rattle.lines.specs.Line.{line_bytes}
use Rattle.runs.specs.Step.{answer_line, found_line, told_line, placed_line, asked_line}
use Rattle.runs.proofs.Steps.{asked_refused, change_ok}
use Rattle.runs.proofs.ask.Goals as goal

pub returns-in_err-area-in-Find : goal.returns-in_err-area-in-Find
unfolding asked_line
returns-in_err-area-in-Find c =
    asked_refused _ _ _ c.from_residual.ensures.1
    (ap found_line c.in_err-area-in-Find.ensures ∙ sym (rw c.in-Find.is))

pub returns-in_err-yes-in-Overlaps : goal.returns-in_err-yes-in-Overlaps
unfolding asked_line
returns-in_err-yes-in-Overlaps c =
    asked_refused _ _ _ c.from_residual-in_err-yes-in-Overlaps.ensures.1
    (ap told_line c.in_err-yes-in-Overlaps.ensures ∙ sym (rw c.in-Overlaps.is))

pub returns-in_err-at-in-Search : goal.returns-in_err-at-in-Search
unfolding asked_line
returns-in_err-at-in-Search c =
    asked_refused _ _ _ c.from_residual-in_err-at-in-Search.ensures.1
    (ap placed_line c.in_err-at-in-Search.ensures ∙ sym (rw c.in-Search.is))

pub returns-in_ok-area-in-Find : goal.returns-in_ok-area-in-Find
unfolding asked_line answer_line
returns-in_ok-area-in-Find c = ap found_line c.in_ok-area-in-Find.ensures ∙ sym (rw c.in-Find.is)

pub returns-in_ok-yes-in-Overlaps : goal.returns-in_ok-yes-in-Overlaps
unfolding asked_line answer_line
returns-in_ok-yes-in-Overlaps c =
    ap line_bytes c.overlap_line.ensures ∙ ap told_line c.in_ok-yes-in-Overlaps.ensures ∙ sym (rw c.in-Overlaps.is)

pub returns-in_ok-at-in-Search : goal.returns-in_ok-at-in-Search
unfolding asked_line answer_line
returns-in_ok-at-in-Search c = ap placed_line c.in_ok-at-in-Search.ensures ∙ sym (rw c.in-Search.is)

pub returns-in-Bad : goal.returns-in-Bad
unfolding asked_line
returns-in-Bad c = sym (rw c.in-Bad.is)

pub returns-in_default : goal.returns-in_default
returns-in_default c = change_ok _ _ c.in_default.not-Find c.in_default.not-Overlaps c.in_default.not-Search c.in_default.not-Bad
