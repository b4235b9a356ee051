-- `fill` meets its contract: the loop is a `Sweep` of every change that the calls make. Assumes nothing.
use Rattle.std.proofs.Common.{ℕ}
use Rattle.lists.proofs.Sweep.{Sweep}
use Rattle.page_writes.specs.Change.{Makes}
use Rattle.page_writes.proofs.fill.Given as goal

abbrev pub invariant-loop-page : goal.invariant-loop-page
invariant-loop-page g l =
    (change : ℕ → ℕ → ℕ) → Makes (goal.F-post g l.entry) l.end change → Sweep change l.first l.page-end l.page l.initial.pages l.pages
