-- Which pages a backend has legal frames for (01: the linear frame "must be below 2^24").
-- Laws: `proofs/Frames.antt`. Assumes nothing.
use Rattle.std.specs.Prelude.{ℕ, Bool, true, nat_lt}
use Rattle.lists.specs.Every.{every_in}
use Rattle.page_table.specs.Limits.{frame_limit}
use Rattle.page_table.specs.Entry.{linear_frame}
use Rattle.page_table.specs.declared.Backend.{Backend}
use Rattle.page_table.specs.declared.Backend.TheVariants.{Lazy, Linear}

-- the linear frame of one page is legal
unfoldable pub frame_fits : ℕ → ℕ → Bool
frame_fits delta page = nat_lt (linear_frame page delta) frame_limit

-- every page from first up to end has a legal linear frame
unfoldable pub frames_fit : ℕ → ℕ → ℕ → Bool
frames_fit first end delta = every_in (frame_fits delta) first end

-- every page from first up to end has a legal frame
unfoldable pub backend_fits : Backend → ℕ → ℕ → Bool
backend_fits Lazy first end = true
backend_fits (Linear delta) first end = frames_fit first end delta
