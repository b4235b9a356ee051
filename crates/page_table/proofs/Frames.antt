-- Laws of the frames' test: what it says of each page, and how it goes page by page. Assumes nothing.
use Rattle.std.proofs.Common.{◌≡◌, ℕ, ◌+◌, ◌<◌, ◌≤◌, true, false, refl, arith, ltb-true, le-ltb, lt-ltb}
use Rattle.lists.proofs.Every.{every_in_none, every_in_more, every_in_at, every_in_all}
use Rattle.page_table.specs.Limits.{frame_limit}
use Rattle.page_table.specs.Entry.{linear_frame}
use Rattle.page_table.specs.Frames.{frame_fits, frames_fit, backend_fits}
use Rattle.page_table.specs.declared.Backend.{Backend}
use Rattle.page_table.specs.declared.Backend.TheVariants.{Lazy, Linear}

-- what the test says of a page of the range
pub frames_fit_lem : (first end delta : ℕ) → frames_fit first end delta ≡ true → (page : ℕ) → first ≤ page → page < end
    → linear_frame page delta < frame_limit
unfolding frames_fit frame_fits
frames_fit_lem first end delta e page a b =
    ltb-true (linear_frame page delta) frame_limit (every_in_at (frame_fits delta) first end e page a b)

-- it holds where every page's frame is legal
pub fit_frames : (first end delta : ℕ) → ((page : ℕ) → first ≤ page → page < end → linear_frame page delta < frame_limit)
    → frames_fit first end delta ≡ true
unfolding frames_fit frame_fits
fit_frames first end delta h =
    every_in_all (frame_fits delta) first end (λ page a b. lt-ltb (linear_frame page delta) frame_limit (h page a b))

-- a part of the range
pub fits_part : (backend : Backend) (first end first' end' : ℕ) → backend_fits backend first end ≡ true → first ≤ first' → end' ≤ end
    → backend_fits backend first' end' ≡ true
unfolding backend_fits
fits_part Lazy first end first' end' e a b = refl
fits_part (Linear delta) first end first' end' e a b =
    fit_frames first' end' delta (λ page c d. frames_fit_lem first end delta e page (omega arith) (omega arith))

-- ---- page by page

pub none_left : (page end delta : ℕ) → end ≤ page → frames_fit page end delta ≡ true
unfolding frames_fit
none_left page end delta h = every_in_none (frame_fits delta) page end h

module _ (page end delta : ℕ) (more : page < end) where
  pub one_fits : linear_frame page delta < frame_limit → frames_fit page end delta ≡ frames_fit (page + 1) end delta
  unfolding frames_fit frame_fits
  one_fits h = rw (every_in_more (frame_fits delta) page end more, lt-ltb (linear_frame page delta) frame_limit h)

  pub one_fails : frame_limit ≤ linear_frame page delta → frames_fit page end delta ≡ false
  unfolding frames_fit frame_fits
  one_fails h = rw (every_in_more (frame_fits delta) page end more, le-ltb (linear_frame page delta) frame_limit h)

pub ruleset page_by_page = (none_left, one_fits, one_fails)
