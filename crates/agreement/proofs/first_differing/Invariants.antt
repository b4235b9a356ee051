-- `first_differing` meets its contract. The loop's invariant: no page so far differs, so those that are left decide.
-- Assumes nothing.
use Rattle.std.proofs.Common.{◌≡◌, ℕ}
use Rattle.agreement.specs.Agree.{differs, lowest_in}
use Rattle.agreement.proofs.first_differing.Given as goal

abbrev pub invariant-loop-page : goal.invariant-loop-page
invariant-loop-page g l =
    (rule : ℕ → ℕ) → ((page entry : ℕ) → goal.F-post g l.says page entry → entry ≡ rule page)
    → lowest_in (differs rule l.pages) l.first l.end ≡ lowest_in (differs rule l.pages) l.page l.end
