-- What a page's entry is (01, "The two tables"): "bits 0 to 3 flags (1 read, 2 write, 4 execute, 8 user), bit 4 set, bit 5
-- set for lazy, bits 6 and 7 clear, and in bits 8 to 31 the 24-bit frame number, which is 0 for lazy".
-- Laws: `proofs/Packing.antt`. Assumes nothing.
use Rattle.std.specs.Prelude.{ℕ, ◌+◌, ◌-◌, ◌*◌, ◌/◌, ◌%◌, ◌^◌, Bool, cond, ◌==◌}
use Rattle.page_table.specs.declared.Backend.{Backend}
use Rattle.page_table.specs.declared.Backend.TheVariants.{Lazy, Linear}

-- the number in bits first to last of e
abbrev pub bits : ℕ → ℕ → ℕ → ℕ
bits first last e = e / 2 ^ first % 2 ^ (last + 1 - first)

-- an entry taken apart
unfoldable pub flags_of : ℕ → ℕ
flags_of e = bits 0 3 e

unfoldable pub is_mapped : ℕ → Bool
is_mapped e = bits 4 4 e == 1

unfoldable pub is_lazy : ℕ → Bool
is_lazy e = bits 5 5 e == 1

unfoldable pub frame_of : ℕ → ℕ
frame_of e = bits 8 31 e

-- an entry put together: four bits of flags, bit 4, bit 5 where lazy, 24 bits of frame
unfoldable pub packed_of : ℕ → Bool → ℕ → ℕ
packed_of flags lazy frame = bits 0 3 flags + 2 ^ 4 + cond lazy (2 ^ 5) 0 + bits 0 23 frame * 2 ^ 8

-- 01: "The linear frame of a page is the page number plus delta, wrapping at 2^32"
unfoldable pub linear_frame : ℕ → ℕ → ℕ
linear_frame page delta = (page + delta) % 2 ^ 32

-- the entry of a page in an area with this backend and these flags
unfoldable pub entry_of : Backend → ℕ → ℕ → ℕ
entry_of Lazy flags page = packed_of flags Bool.true 0
entry_of (Linear delta) flags page = packed_of flags Bool.false (linear_frame page delta)
