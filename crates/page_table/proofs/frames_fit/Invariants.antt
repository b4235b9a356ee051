-- `frames_fit` meets its contract. The loop's invariant: the answer for the whole range is the answer for what is left of it.
-- Assumes nothing.
use Rattle.std.proofs.Common.{◌≡◌}
use Rattle.page_table.specs.Frames.{frames_fit}
use Rattle.page_table.proofs.frames_fit.Given as goal

abbrev pub invariant-loop-page : goal.invariant-loop-page
invariant-loop-page l = frames_fit l.first l.end l.delta ≡ frames_fit l.page l.end l.delta
