-- What protect's arguments are once they have been tested. Assumes nothing.
use Rattle.std.specs.Prelude.{ℕ, ◌%◌, ◌≤◌, ◌<◌, ◌≡◌}
use Rattle.page_table.specs.Limits.{page_size, max_flags}

-- a range of whole pages that is not empty, and flags to set and to clear
pub record ProtectRange (low high set clear : ℕ) : Type 0 where
  pub nonempty : low < high
  pub low_aligned : low % page_size ≡ 0
  pub high_aligned : high % page_size ≡ 0
  pub set_legal : set ≤ max_flags
  pub clear_legal : clear ≤ max_flags
