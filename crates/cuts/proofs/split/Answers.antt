-- `split` meets its contract. Assumes nothing.
use mathlib.Core.Path.{refl}
use Rattle.std.proofs.lemmas.Result.{err_from_is_err_and}
use Rattle.cuts.proofs.Cuts.{split_accepted, split_stops, whole_is, cut_passes}
use Rattle.cuts.proofs.split.Goals as goal

pub returns-in_err-whole : goal.returns-in_err-whole
returns-in_err-whole c = let p = err_from_is_err_and c.from_residual.result c.from_residual.ensures.1 in rw (p.1, p.2) (split_stops _ _ _ c.in_err-whole.ensures)

pub returns : goal.returns
returns c = rw (c.part-left.ensures, c.part-right.ensures, whole_is _ _ _ _ _ c.in_ok-whole.ensures)
    (split_accepted _ _ 0 (cut_passes _ _ _ _ _ c.in_ok-whole.ensures) refl)
