-- `entry::lazy` meets its contract: the mask of bit 5 tells whether it is set. Assumes nothing.
use Rattle.page_table.specs.Entry.{is_lazy}
use Rattle.page_table.proofs.Masks.{bit_test}
use Rattle.page_table.proofs.entry.lazy.Goals as goal

pub returns : goal.returns
unfolding is_lazy
returns c = bit_test c.args.entry 5
