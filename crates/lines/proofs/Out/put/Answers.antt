-- `Out::put` meets its contract. Assumes nothing.
use Rattle.std.proofs.Common.{refl}
use Rattle.lines.proofs.Lines.{put_part}
use Rattle.lines.proofs.Out.put.Goals as goal

pub returns : goal.returns
returns c = record { same = refl; put = put_part _ _ _ _ c.requires c.copy_from_slice.ensures.after }
