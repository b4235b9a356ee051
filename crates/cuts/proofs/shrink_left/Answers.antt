-- `shrink_left` meets its contract. Assumes nothing.
use mathlib.Core.Path.{refl}
use Rattle.std.proofs.lemmas.Result.{err_from_is_err_and}
use native.Mathlib.Omega.{arith}
use Rattle.cuts.proofs.Cuts.{shorter, left_accepted, left_stops, whole_is, cut_passes}
use Rattle.cuts.proofs.shrink_left.Goals as goal

pub returns-in_err-whole : goal.returns-in_err-whole
returns-in_err-whole c = let p = err_from_is_err_and c.from_residual.result c.from_residual.ensures.1 in rw (p.1, p.2) (left_stops _ _ _ _ c.size.ensures c.in_err-whole.ensures)

pub overflow_sub-start : goal.overflow_sub-start
overflow_sub-start c = rw (whole_is _ _ _ _ _ c.in_ok-whole.ensures) (omega (arith, shorter _ _ 0 _ c.size.ensures (cut_passes _ _ _ _ _ c.in_ok-whole.ensures) refl))

pub returns : goal.returns
returns c = rw (c.part.ensures, whole_is _ _ _ _ _ c.in_ok-whole.ensures)
    (left_accepted _ _ 0 _ c.size.ensures (cut_passes _ _ _ _ _ c.in_ok-whole.ensures) refl)
