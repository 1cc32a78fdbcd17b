-- Which notices a process is sent.
-- p is a process, ns and ms are notices with those that they are for, gs notices, h is a history, r a registry, j a joiner, m its
-- contact, k the number of a call.
use Rattle.std.specs.Prelude.{ℕ, ◌≡◌, ◌<◌, ◌↔◌, Contains, AllPairs, List, [], ◌∷◌, ◌++◌}
use Rattle.registry_model.specs.Process.{Process, Nodes}
use Rattle.registry_model.specs.Call.{Joined}
use Rattle.registry_model.specs.Settlement.{Notice, Noted, notices_to}
use Rattle.registry_model.specs.SharedLaws.{IsSent}
use Rattle.registry_model.specs.Table.{Table}
use Rattle.registry_model.specs.Registry.{Registry, view}
use Rattle.registry_model.specs.History.{Entry, Join, registry_of}

-- What p gets of a list: of a notice for p that one, of one for another none, and of two lists what it gets of the first and then
-- what it gets of the second. So it gets each notice that is for p, in their order, and no other
pub record GetsItsOwn (p : Process) : Type 0 where
  pub none : notices_to p [] ≡ []
  pub own : (n : Noted) → n.process ≡ p → notices_to p (n ∷ []) ≡ n.notice ∷ []
  pub others : (n : Noted) → (n.process ≡ p → ⊥) → notices_to p (n ∷ []) ≡ []
  pub in_order : (ns ms : List Noted) → notices_to p (ns ++ ms) ≡ notices_to p ns ++ notices_to p ms

-- What p gets where a joiner's pairs are settled against the cluster's table: what it is sent, each notice once, rising by name
pub record GetsWhatIsSent (table pairs : Table) (p : Process) (gs : List Notice) : Type 0 where
  pub sent : (x : Notice) → Contains gs x ↔ IsSent table pairs p x
  pub rise : AllPairs (λ x y. x.name < y.name) gs

-- What an entry sends p: a join that is granted what p gets of the joiner's names against those that its contact sees, and an entry
-- that is no such join nothing
pub data SendsNotices (r : Registry) (p : Process) : Entry → List Notice → Type 0 where
  ByJoin : (j k m : ℕ) (gs : List Notice) → GetsWhatIsSent (view r m) (r.lone j) p gs → SendsNotices r p (Join j k m Joined) gs
  ByNone : (e : Entry) → ((j k m : ℕ) → e ≡ Join j k m Joined → ⊥) → SendsNotices r p e []

-- At first nobody was sent anything, and each entry adds behind it what it sends
pub record SendsInOrder (cluster : Nodes) (h : List Entry) : Type 0 where
  pub opens : (p : Process) → (registry_of cluster []).notices p ≡ []
  pub grow : (before later : List Entry) (e : Entry) (p : Process) → h ≡ before ++ e ∷ later →
      (gs : List Notice) × SendsNotices (registry_of cluster before) p e gs
      × ((registry_of cluster (before ++ e ∷ [])).notices p ≡ (registry_of cluster before).notices p ++ gs)
