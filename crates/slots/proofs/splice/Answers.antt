-- `splice` meets its contract: three writes side by side are the list that goes in. Assumes nothing.
use native.Mathlib.Omega.{arith}
use Prim.Native.Nat.{◌+◌, ◌-◌, ◌*◌, ◌≤◌}
use mathlib.Core.Path.{refl}
use lib.ListN.{length}
use Rattle.area_list.specs.Layout.{capacity_of}
use Rattle.slots.specs.Splice.{parts_of}
use Rattle.slots.proofs.Writes.{splice_writes}
use Rattle.slots.proofs.splice.Goals as goal

pub move_words-requires : goal.move_words-requires
unfolding capacity_of
move_words-requires c = omega arith

pub put_parts-requires : goal.put_parts-requires
unfolding capacity_of
put_parts-requires c = omega arith

pub zero-requires : goal.zero-requires
unfolding capacity_of
zero-requires c = omega arith

pub returns : goal.returns
unfolding capacity_of
returns c =
    let put = parts_of c.args.parts.now in
    let next = c.args.low + length put in
    let after = next + (c.args.count - c.args.high) in
    let fits : 4 * after ≤ length c.args.areas.now = omega (arith, c.requires.gap) in (
      omega arith,
      splice_writes c.requires.sorted_rows c.args.low c.args.high put c.requires.gap.ordered c.requires.gap.inside next after refl refl fits
          (rw c.number.ensures.0 at c.move_words.ensures) c.put_parts.ensures (rw c.number.ensures.0 at c.zero.ensures),
    )
