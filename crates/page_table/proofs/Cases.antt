-- 01's worked examples of entries and frames, by one computed test. Assumes nothing.
use Rattle.std.proofs.Common.{◌≡◌, true, refl}
use Rattle.lists.specs.Case.{agree, flag}
use Rattle.lists.specs.Every.{every_in, every_of}
use Rattle.page_table.specs.Entry.{packed_of, frame_of, linear_frame, entry_of}
use Rattle.page_table.specs.Frames.{frame_fits, frames_fit}
use Rattle.page_table.specs.Cases.{entry_cases}

pub entry_cases_lem : agree entry_cases ≡ true
unfolding agree flag every_in every_of packed_of frame_of linear_frame entry_of frame_fits frames_fit entry_cases
entry_cases_lem = refl
