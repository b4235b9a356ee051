-- `read` meets its contract: the part has the number that lies at the place. Assumes nothing.
use Rattle.std.proofs.Common.{◌+◌, ◌-◌, ◌∙◌, add-zero, arith}
use Rattle.little_endian.proofs.Numbers.{number_part}
use Rattle.little_endian.proofs.read.Goals as goal

pub returns : goal.returns
returns g c =
    let n = g.T.LittleEndian.SIZE in
    c.from_bytes.ensures
    ∙ number_part c.args.bytes.now c.args.at (c.args.at + c.SIZE.result - c.args.at) 0 n (omega (arith, c.SIZE.ensures))
    ∙ rw (add-zero c.args.at)
