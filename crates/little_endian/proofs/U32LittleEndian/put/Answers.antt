-- `u32::put` meets its contract. Assumes nothing.
use Rattle.std.proofs.Common.{◌∙◌}
use Rattle.little_endian.proofs.Numbers.{bytes_low}
use Rattle.little_endian.proofs.U32LittleEndian.put.Goals as goal

pub returns : goal.returns
returns c = c.copy_from_slice.ensures.after ∙ c.to_le_bytes.ensures ∙ bytes_low 4 c.args.self
