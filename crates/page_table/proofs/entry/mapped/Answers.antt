-- `entry::mapped` meets its contract: the mask of bit 4 tells whether it is set. Assumes nothing.
use Rattle.page_table.specs.Entry.{is_mapped}
use Rattle.page_table.proofs.Masks.{bit_test}
use Rattle.page_table.proofs.entry.mapped.Goals as goal

pub returns : goal.returns
unfolding is_mapped
returns c = bit_test c.args.entry 4
