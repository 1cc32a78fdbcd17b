-- Lock calls that name node names, in a world of named nodes.
use Rattle.std.proofs.Common.{ℕ, true, ◌≡◌, ◌≤◌, List, refl, sym, subst, arith}
use Rattle.std.specs.Prelude.{Contains, map}
use Rattle.std.proofs.lemmas.Bool.{false_from_ne_true}
use Rattle.registry_model.specs.Process.{Nodes}
use Rattle.protocol_model.specs.SharedLaws.{HasName, LacksName}
use Rattle.protocol_model.proofs.Meanings.{asks_members}
use Rattle.creations.specs.NodeNames.{NamedOpening, name_of, creation_of, nodes_of_name}
use Rattle.creations.specs.NamedWorld.{NamedWorld, after_events}
use Rattle.creations.specs.Restarts.{IsUp}
use Rattle.creations.specs.NamedCalls.{SomeNameIsNobodys, NamesMeanMembers, NamesAlwaysMeanMembers}
use Rattle.creations.proofs.Lists.{map-Contains, from_map}
use Rattle.creations.proofs.StartedLists.{in_first, first_has}
use Rattle.creations.proofs.Standing.{Sound, started_to}
use Rattle.creations.proofs.Always.{always}

module _ (o : NamedOpening) (xs : List ℕ) where
  abbrev names : List (List ℕ)
  names = map (nodes_of_name o) xs

  -- who is among the nodes of a name has it
  name_in : (x n : ℕ) → Contains (nodes_of_name o x) n → name_of o n ≡ x
  name_in x n i = (in_first o x o.last n (omega arith) i).0

  -- who is among the nodes of the names has one of them
  has_one : (n : ℕ) → HasName names n → Contains xs (name_of o n)
  has_one n (nodes, c, i) =
      let (x, k, e) : (x : ℕ) × Contains xs x × (nodes_of_name o x ≡ nodes) = from_map (nodes_of_name o) xs nodes c in
      subst (Contains xs) (sym (name_in x n (subst (λ (ns : List ℕ). Contains ns n) (sym e) i))) k

  -- and the other way round, where its creation is one
  one_has : (n : ℕ) → creation_of o n ≤ o.last → Contains xs (name_of o n) → HasName names n
  one_has n l c = (
    nodes_of_name o (name_of o n),
    map-Contains (nodes_of_name o) xs (name_of o n) c,
    first_has o (name_of o n) o.last n refl l,
  )

  module _ (w : NamedWorld) (S : Sound o w) (some : 1 ≤ o.last) (c : ℕ) (up : IsUp o w c) where
    abbrev members : Nodes
    members = (w.world.node c).replica.members

    -- a member's creation is one
    created : (n : ℕ) → members n ≡ true → creation_of o n ≤ o.last
    created n e =
        let a : creation_of o n ≤ w.present (name_of o n) = started_to o w n ((S.apart.inside c up.started).members n e) in
        let b : w.present (name_of o n) ≤ o.last = S.most (name_of o n) some in
        omega arith

    -- a name that is no member's
    nobodys : LacksName members names → SomeNameIsNobodys o w c xs
    nobodys (nodes, k, none) =
        let (x, i, e) : (x : ℕ) × Contains xs x × (nodes_of_name o x ≡ nodes) = from_map (nodes_of_name o) xs nodes k in (
          x,
          i,
          λ n m h. cc (
            m,
            none n (subst (λ (ns : List ℕ). Contains ns n) e (first_has o x o.last n h (created n m))),
          ),
        )

    lacks : SomeNameIsNobodys o w c xs → LacksName members names
    lacks (x, i, none) = (
      nodes_of_name o x,
      map-Contains (nodes_of_name o) xs x i,
      λ n k. false_from_ne_true (members n) (λ m. none n m (name_in x n k)),
    )

    mean : NamesMeanMembers o w c xs
    mean = record {
      asked = λ n. (
        λ e.
            let h : (members n ≡ true) × HasName names n = (asks_members.named members names n).0 e in
            (h.0, has_one n h.1),
        λ h. (asks_members.named members names n).1 (h.0, one_has n (created n h.0) h.1),
      );
      missed = (
        λ e. nobodys ((asks_members.misses (w.world.node c) names).0 e),
        λ h. (asks_members.misses (w.world.node c) names).1 (lacks h),
      );
    }

pub names_mean_members : NamesAlwaysMeanMembers
names_mean_members o es c xs some up = mean o xs (after_events o es) (always o es) some c up
