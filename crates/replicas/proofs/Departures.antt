-- The entries that write no table: what nodes show after a departure, a notice of one, and an exit.
use Rattle.std.proofs.Common.{ℕ, true, ◌≡◌, ap, ◌∙◌}
use Rattle.std.specs.Prelude.{not, ◌&&◌}
use Rattle.std.proofs.Math.Path.{ap₂}
use Rattle.registry_model.specs.Process.{Nodes, at}
use Rattle.registry_model.specs.Table.{Table, without}
use Rattle.registry_model.specs.Registry.{Registry, in_group, table_of, process_of, Replica, replica_of}
use Rattle.registry_model.specs.History.{Told, effect}
use Rattle.protocol_model.specs.Reading.{bereft}
use Rattle.registry_model.proofs.Updates.{at_same, at_other}
use Rattle.replicas.proofs.Mail.{members-at}
use Rattle.registry_model.proofs.Tables.{without-at}

-- what c shows where it was told that these have left
abbrev shown_less : Registry → ℕ → Nodes → Replica
shown_less r c gone = record {
  table = without gone (table_of r c);
  members =
      λ x. in_group r c x && not (gone x);
  told = gone;
  joined = r.joined c;
  notices = λ serial. r.notices (process_of c serial);
}

shown_less-at : (r : Registry) (n d : ℕ) → shown_less r n (at (r.told n) d true) ≡ bereft d (replica_of r n)
shown_less-at r n d =
    ap₂ (λ (t : Table) (m : Nodes). let v : Replica =
    record {
      table = t;
      members = m;
      told = at (r.told n) d true;
      joined = r.joined n;
      notices = λ serial. r.notices (process_of n serial);
    } in v)
    (without-at (r.told n) d (table_of r n)) (members-at (in_group r n) (r.told n) d)

-- a node that is told of a departure shows it
pub replica_of-told : (r : Registry) (n d : ℕ) → replica_of (effect (Told n d) r) n ≡ bereft d (replica_of r n)
replica_of-told r n d = ap (shown_less r n) (at_same r.told n (at (r.told n) d true)) ∙ shown_less-at r n d

-- and no other node does
pub replica_of-untold : (r : Registry) (n d c : ℕ) → (c ≡ n → ⊥) → replica_of (effect (Told n d) r) c ≡ replica_of r c
replica_of-untold r n d c ne = ap (shown_less r c) (at_other r.told n (at (r.told n) d true) c ne)
