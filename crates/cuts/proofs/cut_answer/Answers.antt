-- `cut_answer` meets its contract: each answer is its test's, with all tests before it passed. Assumes nothing.
use mathlib.Core.Path.{◌∙◌, sym}
use native.Mathlib.Omega.{arith}
use Rattle.cuts.proofs.Cuts.{cut_bad, cut_unaligned, cut_low, cut_high, cut_inside}
use Rattle.cuts.proofs.cut_answer.Goals as goal

pub returns-then-not-good_in : goal.returns-then-not-good_in
returns-then-not-good_in c = sym (cut_bad _ _ _ _ (sym c.good_in.ensures ∙ c.if-not-good_in.true))

pub returns-then-cut-ne0 : goal.returns-then-cut-ne0
returns-then-cut-ne0 c = sym (cut_unaligned _ _ _ _ ((sym c.good_in.ensures ∙ c.if-not-good_in.false)) c.if-cut-ne0.true)

pub returns-then-cut-low : goal.returns-then-cut-low
returns-then-cut-low c = sym (cut_low _ _ _ _ ((sym c.good_in.ensures ∙ c.if-not-good_in.false)) (omega arith) (omega arith))

pub returns-then-high-cut : goal.returns-then-high-cut
returns-then-high-cut c = sym (cut_high _ _ _ _ ((sym c.good_in.ensures ∙ c.if-not-good_in.false)) (omega arith) (omega arith))

pub returns : goal.returns
returns c = sym (cut_inside _ _ _ _ ((sym c.good_in.ensures ∙ c.if-not-good_in.false)) (omega arith) (omega arith) (omega arith))
