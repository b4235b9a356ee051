-- Shifts and masks as arithmetic, each for every place and width. Assumes nothing.
use Rattle.std.proofs.Common.{◌≡◌, ℕ, zero, suc, ◌+◌, ◌-◌, ◌*◌, ◌/◌, ◌%◌, ◌^◌, ◌<◌, not, eqb, ap, ◌∙◌, mod-lt, add_comm, arith, pow_pos, eq-eqb, ne_eqb}
use lib.Bits.{bit_and, bit_or, and_high, or_shifted_r}

-- a field laid over lower bits is added to them
pub or_field : (b a k : ℕ) → b < 2 ^ k → bit_or b (a * 2 ^ k) ≡ b + a * 2 ^ k
or_field b a k h = or_shifted_r a k b h ∙ add_comm (a * 2 ^ k) b

-- a single bit times its weight is 0 exactly when the bit is not 1
bit_weight : (b w : ℕ) → b < 2 → zero < w → not (eqb (b * w) 0) ≡ eqb b 1
bit_weight zero w h p = ap not (eq-eqb (0 * w) 0 (omega arith))
bit_weight (suc zero) w h p = ap not (ne_eqb (1 * w) 0 (λ e. omega arith))
bit_weight (suc (suc b)) w h p = absurd (omega arith)

-- masking bit k tells whether it is set
pub bit_test : (n k : ℕ) → not (eqb (bit_and n (2 ^ (1 + k) - 2 ^ k)) 0) ≡ eqb (n / 2 ^ k % 2) 1
bit_test n k =
    ap (λ (m : ℕ). not (eqb m 0)) (and_high n 1 k)
    ∙ bit_weight (n / 2 ^ k % 2) (2 ^ k) (mod-lt (n / 2 ^ k) (omega arith)) (pow_pos k)
