-- The owners of the cluster's names are on joined nodes.
use Rattle.std.proofs.Common.{true, ◌≡◌, List}
use Rattle.std.specs.Prelude.{Contains}
use Rattle.registry_model.specs.Process.{Nodes}
use Rattle.registry_model.specs.Table.{Pair}
use Rattle.registry_model.specs.History.{Entry, standing_of}
use Rattle.registry_model.specs.Legal.{IsLegal}
use Rattle.registry_model.proofs.Owners.{entry-Contains}
use Rattle.registry_model.proofs.Tables.{get_from_entry}
use Rattle.registry_model.proofs.OwnerNodes.{IsGood, IsGood-standing_of}

-- after every legal history
pub joined_owner : (cluster : Nodes) (h : List Entry) → IsLegal cluster h → (pair : Pair)
    → Contains (standing_of cluster h).registry.table pair
    → (standing_of cluster h).registry.joined pair.owner.node ≡ true
joined_owner cluster h l pair c =
    let good : IsGood (standing_of cluster h).registry = IsGood-standing_of cluster h l in
    good.joined_owners.owner pair.name pair.owner
    (get_from_entry pair.name (standing_of cluster h).registry.table pair
    (entry-Contains (standing_of cluster h).registry.table good.rises.table pair c))
