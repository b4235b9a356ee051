-- `entry::packed` meets its contract: three fields that do not meet, laid over each other, add up. Assumes nothing.
use Rattle.std.proofs.Common.{◌≡◌, ℕ, ◌+◌, ◌*◌, ◌/◌, ◌%◌, ◌^◌, ◌≤◌, Bool, true, false, cond, sym, refl, ◌∙◌, ap₂, arith}
use lib.Bits.{bit_and, bit_or, and_mask}
use Rattle.page_table.specs.Entry.{packed_of}
use Rattle.page_table.proofs.Masks.{or_field}
use Rattle.page_table.proofs.entry.packed.Goals as goal
use Rattle.page_table.proofs.entry.packed.Goals.{then-lazy, else-lazy}

-- kind is bits 4 and 5 together
packs : (flags frame kind : ℕ) (lazy : Bool) → kind ≡ cond lazy 3 1 * 2 ^ 4 →
    bit_or (bit_or (bit_and flags 15) kind) ((frame * 256) % 4294967296) ≡ packed_of flags lazy frame
unfolding packed_of
packs flags frame kind lazy e =
    let shifted : (frame * 256) % 4294967296 ≡ frame % 2 ^ 24 * 2 ^ 8 = omega arith in
    let weight : cond lazy 3 1 * 2 ^ 4 ≡ 2 ^ 4 + cond lazy (2 ^ 5) 0 =
    elim lazy as (λ (b : Bool). cond b 3 1 * 2 ^ 4 ≡ 2 ^ 4 + cond b (2 ^ 5) 0) [ true ↦ refl | false ↦ refl ] in
    let small : cond lazy (2 ^ 5) 0 ≤ 2 ^ 5 = elim lazy as (λ (b : Bool). cond b (2 ^ 5) 0 ≤ 2 ^ 5) [ true ↦ omega arith | false ↦ omega arith ] in
    let low : flags / 1 ≡ flags = omega arith in
    let high : frame / 1 ≡ frame = omega arith in
    let sum : flags % 16 + cond lazy 3 1 * 2 ^ 4 + frame % 2 ^ 24 * 2 ^ 8 ≡ packed_of flags lazy frame = rw (low, high, weight) (omega arith) in
    ap₂ bit_or (ap₂ bit_or (and_mask flags 4) e ∙ or_field (flags % 16) (cond lazy 3 1) 4 (omega arith)) shifted
    ∙ or_field (flags % 16 + cond lazy 3 1 * 2 ^ 4) (frame % 2 ^ 24) 8 (omega arith)
    ∙ sum

pub returns : goal.returns
returns c = packs _ _ _ _ (elim c.if-lazy.branch [ then-lazy w ↦ w.kind-is ∙ sym (rw w.if-lazy.true) | else-lazy w ↦ w.kind-is ∙ sym (rw w.if-lazy.false) ])
