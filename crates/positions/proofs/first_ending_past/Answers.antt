-- `first_ending_past` meets its contract: the ends of sorted rows rise, so they are parted where the search says. Assumes nothing.
use lib.Dec.{leb}
use Rattle.std.proofs.Common.{rules}
use Rattle.std.proofs.lemmas.List.Sorted.{IsPartitionedBy-leb, IsPartitionPoint-from_clause}
use Rattle.area_list.proofs.Positions.{end_in, ends_column, ending_is}
use Rattle.positions.proofs.first_ending_past.Goals as goal

pub returns : goal.returns
returns c =
    ending_is _ _ _ _ (rw c.table.ensures at c.partition_point.ensures.bound)
    (IsPartitionPoint-from_clause (λ row. leb (end_in row) c.args.address) _ _ (rw c.table.ensures at c.partition_point.ensures.partitioned)
    (IsPartitionedBy-leb end_in _ _ (ends_column _ _ c.args.areas.sorted)) (search rules))
