-- Laws of entries: what was packed is taken apart again, a packed entry has bits 6 and 7 clear and is never 0, and what an
-- area's entry says of its page. Assumes nothing.
use Rattle.std.proofs.Common.{eqb, ◌≡◌, ℕ, ◌*◌, ◌^◌, ◌<◌, ◌≤◌, Bool, true, false, cond, sym, refl, ◌∙◌, arith, eq-eqb}
use Rattle.page_table.specs.Limits.{frame_limit, max_flags}
use Rattle.page_table.specs.Entry.{bits, packed_of, flags_of, is_mapped, is_lazy, frame_of, linear_frame, entry_of}
use Rattle.page_table.specs.declared.Backend.{Backend}
use Rattle.page_table.specs.declared.Backend.TheVariants.{Lazy, Linear}

module _ (flags : ℕ) (lazy : Bool) (frame : ℕ) where
  -- bit 5, by its weight
  weight : cond lazy (2 ^ 5) 0 ≡ 32 * cond lazy 1 0
  weight = elim lazy as (λ b. cond b (2 ^ 5) 0 ≡ 32 * cond b 1 0) [ true ↦ refl | false ↦ refl ]

  one : cond lazy 1 0 < 2
  one = elim lazy as (λ (b : Bool). cond b 1 0 < 2) [ true ↦ omega arith | false ↦ omega arith ]

  -- what was packed is taken apart again
  pub packed_flags : flags ≤ max_flags → flags_of (packed_of flags lazy frame) ≡ flags
  unfolding packed_of flags_of
  packed_flags h = omega (arith, weight, one)

  pub packed_mapped : is_mapped (packed_of flags lazy frame) ≡ true
  unfolding packed_of is_mapped
  packed_mapped = eq-eqb (bits 4 4 (packed_of flags lazy frame)) 1 (omega (arith, weight, one))

  lazy_bit : bits 5 5 (packed_of flags lazy frame) ≡ cond lazy 1 0
  unfolding packed_of
  lazy_bit = omega (arith, weight, one)

  pub packed_lazy : is_lazy (packed_of flags lazy frame) ≡ lazy
  unfolding is_lazy
  packed_lazy = rw lazy_bit (elim lazy as (λ (b : Bool). eqb (cond b 1 0) 1 ≡ b) [ true ↦ refl | false ↦ refl ])

  pub packed_frame : frame < frame_limit → frame_of (packed_of flags lazy frame) ≡ frame
  unfolding packed_of frame_of
  packed_frame h = omega (arith, weight, one)

  -- bits 6 and 7 are clear, and no entry is 0 or wider than 32 bits
  pub packed_clear : bits 6 7 (packed_of flags lazy frame) ≡ 0
  unfolding packed_of
  packed_clear = omega (arith, weight, one)

  pub packed_fits : packed_of flags lazy frame < 2 ^ 32
  unfolding packed_of
  packed_fits = omega (arith, weight, one)

  pub packed_nonzero : packed_of flags lazy frame ≡ 0 → ⊥
  unfolding packed_of
  packed_nonzero e = omega arith

-- ---- the entry that an area gives a page

-- it is a packed one
pub entry_packed : (backend : Backend) (flags page : ℕ)
    → (lazy : Bool) × ((frame : ℕ) × (entry_of backend flags page ≡ packed_of flags lazy frame))
unfolding entry_of
entry_packed Lazy flags page = (true, (0, refl))
entry_packed (Linear delta) flags page = (false, (linear_frame page delta, refl))

pub entry_flags : (backend : Backend) (flags page : ℕ) → flags ≤ max_flags → flags_of (entry_of backend flags page) ≡ flags
entry_flags backend flags page h = let (lazy, (frame, e)) = entry_packed backend flags page in rw e (packed_flags flags lazy frame h)

pub entry_mapped : (backend : Backend) (flags page : ℕ) → is_mapped (entry_of backend flags page) ≡ true
entry_mapped backend flags page = let (lazy, (frame, e)) = entry_packed backend flags page in rw e (packed_mapped flags lazy frame)

pub entry_nonzero : (backend : Backend) (flags page : ℕ) → entry_of backend flags page ≡ 0 → ⊥
entry_nonzero backend flags page z = let (lazy, (frame, e)) = entry_packed backend flags page in packed_nonzero flags lazy frame (sym e ∙ z)

-- 01: the frame is 0 for lazy, and the page's linear frame else
pub lazy_frame : (flags page : ℕ) → frame_of (entry_of Lazy flags page) ≡ 0
unfolding entry_of
lazy_frame flags page = packed_frame flags true 0 (omega arith)

pub linear_frame_lem : (delta flags page : ℕ) → linear_frame page delta < frame_limit
    → frame_of (entry_of (Linear delta) flags page) ≡ linear_frame page delta
unfolding entry_of
linear_frame_lem delta flags page h = packed_frame flags false (linear_frame page delta) h

pub lazy_lazy : (flags page : ℕ) → is_lazy (entry_of Lazy flags page) ≡ true
unfolding entry_of
lazy_lazy flags page = packed_lazy flags true 0

pub linear_lazy : (delta flags page : ℕ) → is_lazy (entry_of (Linear delta) flags page) ≡ false
unfolding entry_of
linear_lazy delta flags page = packed_lazy flags false (linear_frame page delta)
