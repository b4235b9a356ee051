-- `put` meets its contract: the part of the buffer gives way to the number's bytes. Assumes nothing.
use Rattle.std.proofs.Common.{arith, refl}
use Rattle.little_endian.proofs.Numbers.{length_bytes}
use Rattle.dumps.proofs.Writing.{put_in_part}
use Rattle.dumps.proofs.put.Goals as goal

pub returns : goal.returns
returns g c =
    let n = g.T.LittleEndian in
    record {
      same = refl;
      put =
          put_in_part c.args.out.now.bytes.now c.args.out.now.at _ _ _ _ c.put.ensures
          (omega (arith, c.SIZE.ensures, length_bytes n.SIZE (n.number c.args.value))) (omega arith) (omega (arith, c.SIZE.ensures));
    }
