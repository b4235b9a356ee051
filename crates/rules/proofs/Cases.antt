-- 01's worked examples of the changes, by one computed test. Assumes nothing.
use mathlib.Core.Path.{◌≡◌, refl}
use mathlib.Core.Bool.{true}
use mathlib.Core.List.{flat_map}
use Rattle.lists.specs.Case.{agree}
use Rattle.lists.specs.Every.{every, every_in, every_of}
use Rattle.lists.specs.Each.{in_range, only, each, within}
use Rattle.page_writes.specs.Change.{writes, wipes, reflags}
use Rattle.page_table.specs.Entry.{packed_of, linear_frame, entry_of}
use Rattle.page_table.specs.Frames.{frame_fits, frames_fit, backend_fits}
use Rattle.area.specs.Answer.{answer, reply_by}
use Rattle.area.specs.Area.{aligned, good_area, holds}
use Rattle.area_list.specs.Layout.{capacity_of, legal_word, backend_of, word_of, row_of, words_of, rows}
use Rattle.area_list.specs.Good.{good_row, good_rows, good_tables}
use Rattle.area_list.specs.Meet.{shares, shares_any}
use Rattle.area_list.specs.Store.{flat, store}
use Rattle.effects.specs.Lists.{outside, cut, insert, new_flags, changes, protected, protect}
use Rattle.effects.specs.Pages.{on_areas, cut_pages, map_pages, protects_area, protect_pages}
use Rattle.rules.specs.Change.{map_rule, unmap_rule, protect_rule}
use Rattle.rules.specs.Cases.{change_cases}

pub change_cases_lem : agree change_cases ≡ true
unfolding flat_map agree every every_in every_of in_range only each within writes wipes reflags packed_of linear_frame entry_of frame_fits frames_fit backend_fits answer reply_by aligned good_area holds capacity_of legal_word backend_of word_of row_of words_of rows good_row good_rows good_tables shares shares_any flat store outside cut insert new_flags changes protected protect on_areas cut_pages map_pages protects_area protect_pages map_rule unmap_rule protect_rule change_cases
change_cases_lem = refl
