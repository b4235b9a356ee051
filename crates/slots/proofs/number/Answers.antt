-- `number` meets its contract: each part that is there counts one. Assumes nothing.
use native.Mathlib.Omega.{arith}
use mathlib.Core.Path.{◌≡◌, sym, ap, ◌∙◌}
use lib.ListN.{length, get_or, take}
use lib.Seq.{take_all, length-take-le}
use borrow.Author.Rules.{rules}
use Prim.Native.Nat.{◌+◌, ◌≤◌}
use Rattle.std.specs.Prelude.{None}
use Rattle.std.specs.Int.{from_bool}
use Rattle.std.specs.Option.{is_some}
use Rattle.slots.specs.Splice.{parts_of}
use Rattle.slots.proofs.Writes.{few_parts, counted}
use Rattle.slots.proofs.number.Goals as goal

module _ (c : goal.After-from-number) where
  one : c.from-number.result ≡ from_bool (is_some (get_or c.args.parts.now c.loop-part.part-index None))
  one = c.from-number.ensures ∙ ap from_bool c.is_some.ensures

  more : c.loop-part.number + c.from-number.result ≡ length (parts_of (take (c.loop-part.part-index + 1) c.args.parts.now))
  more = rw (one, c.loop-part.invariant) (sym (counted c.args.parts.now c.loop-part.part-index c.loop-part-test.true))

pub overflow_add-number : goal.overflow_add-number
overflow_add-number c =
    let few = few_parts (take (c.loop-part.part-index + 1) c.args.parts.now) in
    let long = length-take-le (c.loop-part.part-index + 1) c.args.parts.now (omega (arith, c.loop-part-test.true)) in
    let below : c.loop-part.number + c.from-number.result ≤ length c.args.parts.now = omega (arith, more c, few, long) in
    search rules

pub loop-part-preserved : goal.loop-part-preserved
loop-part-preserved c = more c

pub returns : goal.returns
returns c =
    let all = take_all c.loop-part.part-index c.args.parts.now (omega arith) in
    let counted = rw all at c.loop-part.invariant in
    (counted, omega (arith, counted, few_parts c.args.parts.now))
