-- `u64::from_bytes` meets its contract. Assumes nothing.
use Rattle.std.proofs.Common.{arith}
use Rattle.little_endian.proofs.Numbers.{number_four, number_eight}
use Rattle.little_endian.proofs.U64LittleEndian.from_bytes.Goals as goal

pub returns : goal.returns
returns c =
    let b = c.args.b.now in
    omega (arith, c.from_le_bytes.ensures, number_eight b 0, number_four b 0, number_four b 4)
