-- What is settled changes the table alone.
use Rattle.std.proofs.Common.{◌≡◌, List, [], ◌∷◌, refl}
use Rattle.std.specs.Prelude.{fold}
use Rattle.registry_model.specs.Process.{Text}
use Rattle.registry_model.specs.Table.{Table, Put, Remove}
use Rattle.registry_model.specs.Registry.{Replica}
use Rattle.registry_model.specs.Settlement.{Settled}
use Rattle.protocol_model.specs.Node.{wrote}
use Rattle.protocol_model.specs.Reading.{wrote_all}

-- two replicas are alike but for their tables
pub record IsAsideTable (v u : Replica) : Type 0 where
  pub members : v.members ≡ u.members
  pub told : v.told ≡ u.told
  pub joined : v.joined ≡ u.joined
  pub notices : v.notices ≡ u.notices

-- names that are given away
puts-keep : (puts : Table) (v u : Replica) → IsAsideTable v u
    → IsAsideTable (fold (λ replica pair. wrote (Put pair) replica) v puts) u
puts-keep [] v u h = h
puts-keep (e ∷ puts) v u h = puts-keep puts (wrote (Put e) v) u (record {
  members = h.members;
  told = h.told;
  joined = h.joined;
  notices = h.notices;
})

-- names that nobody has
removes-keep : (xs : List Text) (v u : Replica) → IsAsideTable v u
    → IsAsideTable (fold (λ replica x. wrote (Remove x) replica) v xs) u
removes-keep [] v u h = h
removes-keep (x ∷ xs) v u h = removes-keep xs (wrote (Remove x) v) u (record {
  members = h.members;
  told = h.told;
  joined = h.joined;
  notices = h.notices;
})

-- writing what was settled
pub wrote_all-keeps : (settled : Settled) (v : Replica) → IsAsideTable (wrote_all settled v) v
wrote_all-keeps settled v = removes-keep settled.removes _ v
    (puts-keep settled.puts v v (record { members = refl; told = refl; joined = refl; notices = refl }))
