-- `shrink_right` meets its contract. Assumes nothing.
use mathlib.Core.Path.{refl}
use Rattle.std.proofs.lemmas.Result.{err_from_is_err_and}
use native.Mathlib.Omega.{arith}
use Rattle.cuts.proofs.Cuts.{shorter, right_accepted, right_stops, whole_is, cut_passes}
use Rattle.cuts.proofs.shrink_right.Goals as goal

pub returns-in_err-whole : goal.returns-in_err-whole
returns-in_err-whole c = let p = err_from_is_err_and c.from_residual.result c.from_residual.ensures.1 in rw (p.1, p.2) (right_stops _ _ _ _ c.size.ensures c.in_err-whole.ensures)

pub overflow_add-end : goal.overflow_add-end
overflow_add-end c = rw (whole_is _ _ _ _ _ c.in_ok-whole.ensures) (omega (arith, shorter _ _ 0 _ c.size.ensures (cut_passes _ _ _ _ _ c.in_ok-whole.ensures) refl))

pub returns : goal.returns
returns c = rw (c.part.ensures, whole_is _ _ _ _ _ c.in_ok-whole.ensures)
    (right_accepted _ _ 0 _ c.size.ensures (cut_passes _ _ _ _ _ c.in_ok-whole.ensures) refl)
