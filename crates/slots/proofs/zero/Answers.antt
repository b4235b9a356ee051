-- `zero` meets its contract. Assumes nothing.
use Prim.Native.Nat.{ℕ, ◌-◌}
use mathlib.Core.Path.{◌≡◌, sym, ap, ◌∙◌}
use native.Mathlib.Omega.{arith}
use lib.ListN.{length, take, drop, replicate, length-replicate, length-drop}
use lib.Seq.{length-take-le}
use Rattle.lists.proofs.Over.{over_nothing}
use Rattle.slots.proofs.Writes.{over_part}
use Rattle.slots.proofs.zero.Goals as goal

pub returns-then-from-end : goal.returns-then-from-end
returns-then-from-end c =
    let n : ℕ = c.args.end - c.args.from in
    let part = drop c.args.from c.args.areas.now in
    let long : length (take n part) ≡ n = length-take-le n part (omega (arith, length-drop c.args.from c.args.areas.now)) in
    over_part _ _ _ (replicate n 0) _
    (c.fill.ensures.after (λ y h. h) ∙ ap (λ (m : ℕ). replicate m 0) long)
    (sym (length-replicate n 0))

pub returns-else-from-end : goal.returns-else-from-end
returns-else-from-end c =
    let none : c.args.end - c.args.from ≡ 0 = omega arith in
    rw none (sym (over_nothing c.args.areas.now c.args.from))
