-- `first_starting_from` meets its contract: the starts of sorted rows rise, so they are parted where the search says. Assumes nothing.
use lib.Dec.{ltb}
use Rattle.std.proofs.Common.{rules}
use Rattle.std.proofs.lemmas.List.Sorted.{IsPartitionedBy-ltb, IsPartitionPoint-from_clause}
use Rattle.area_list.proofs.Positions.{start_in, starts_column, starting_is, starting_zero}
use Rattle.positions.proofs.first_starting_from.Goals as goal

pub returns-then-address-eq0 : goal.returns-then-address-eq0
returns-then-address-eq0 c = starting_zero _ _ _ c.if-address-eq0.true

pub returns : goal.returns
returns c =
    starting_is _ _ _ _ (rw c.table.ensures at c.partition_point.ensures.bound)
    (IsPartitionPoint-from_clause (λ row. ltb (start_in row) c.args.address) _ _ (rw c.table.ensures at c.partition_point.ensures.partitioned)
    (IsPartitionedBy-ltb start_in _ _ (starts_column _ _ c.args.areas.sorted)) (search rules))
