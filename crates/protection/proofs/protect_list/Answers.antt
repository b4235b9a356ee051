-- `protect_list` meets its contract: the split at high, the split at low and the new flags make protect's list. Assumes nothing.
use Rattle.protection.proofs.Words.{first_fits, first_stored, second_fits, second_stored, all_stored}
use Rattle.protection.proofs.protect_list.Goals as goal

pub split_at-more-requires-clause-tables_good : goal.split_at-more-requires-clause-tables_good
split_at-more-requires-clause-tables_good c = c.requires.tables_good

pub split_at-more-requires-clause-count_len_bound : goal.split_at-more-requires-clause-count_len_bound
split_at-more-requires-clause-count_len_bound c = first_fits _ _ _ _ c.requires.protect_range _ _ c.requires.tables_good c.requires.count_len_bound

pub split_at-all-requires-clause-tables_good : goal.split_at-all-requires-clause-tables_good
split_at-all-requires-clause-tables_good c = (first_stored _ _ _ _ c.requires.protect_range _ _ c.requires.tables_good c.requires.count_len_bound c.split_at-more.ensures.0 c.split_at-more.ensures.1).good

pub split_at-all-requires-clause-count_len_bound : goal.split_at-all-requires-clause-count_len_bound
split_at-all-requires-clause-count_len_bound c = second_fits _ _ _ _ c.requires.protect_range _ _ c.requires.tables_good c.requires.count_len_bound c.split_at-more.ensures.0 c.split_at-more.ensures.1

pub flag_inside-requires-clause-tables_good : goal.flag_inside-requires-clause-tables_good
flag_inside-requires-clause-tables_good c = (second_stored _ _ _ _ c.requires.protect_range _ _ c.requires.tables_good c.requires.count_len_bound c.split_at-more.ensures.0 c.split_at-more.ensures.1
    c.split_at-all.ensures.0 c.split_at-all.ensures.1).good

pub flag_inside-requires-clause-set_legal : goal.flag_inside-requires-clause-set_legal
flag_inside-requires-clause-set_legal c = c.requires.protect_range.set_legal

pub returns : goal.returns
returns c = all_stored _ _ _ _ c.requires.protect_range _ _ c.requires.tables_good c.requires.count_len_bound c.split_at-more.ensures.0 c.split_at-more.ensures.1
    c.split_at-all.ensures.0 c.split_at-all.ensures.1 c.flag_inside.ensures
