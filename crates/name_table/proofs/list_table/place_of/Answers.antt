use Rattle.std.proofs.Common.{Bool, arith, rules}
use Rattle.std.proofs.lemmas.List.Sorted.{IsPartitionPoint-from_clause}
use Rattle.std.specs.Prelude.{nat_lt}
use Rattle.registry_model.specs.Table.{Pair}
use Rattle.name_table.proofs.Places.{place_at, rising_parted}
use Rattle.name_table.proofs.list_table.place_of.Goals as goal

pub returns : goal.returns
returns c =
    let less : Pair → Bool = λ e. nat_lt e.name c.args.name.now in
    let parts = IsPartitionPoint-from_clause less c.args.pairs.now c.partition_point.result
    c.partition_point.ensures.partitioned
    (λ i j d le l. rising_parted c.args.name.now c.args.pairs.now c.requires i j d le l) (λ a r f called. search rules)
    in
    place_at c.args.name.now c.args.pairs.now c.partition_point.result c.partition_point.ensures.bound
    (λ k d l. parts.0 k d (omega arith) l) parts.1
