-- `u32::from_bytes` meets its contract. Assumes nothing.
use Rattle.std.proofs.Common.{arith}
use Rattle.little_endian.proofs.Numbers.{number_four}
use Rattle.little_endian.proofs.U32LittleEndian.from_bytes.Goals as goal

pub returns : goal.returns
returns c = omega (arith, c.from_le_bytes.ensures, number_four c.args.b.now 0)
