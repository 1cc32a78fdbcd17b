-- In a settled world no running node has a name of a process that is dead, or whose node has left.
use mathlib.Core.Logic.{◌⊎◌}
use Rattle.std.proofs.Common.{ℕ, Bool, true, false, ◌==◌, ◌≡◌, Option, Some, None, List, [], ◌∷◌, ◌++◌, refl, sym, ap, ◌∙◌, subst, inl, inr}
use Rattle.std.specs.Prelude.{not, ◌||◌, filter, Contains, if◌then◌else◌}
use Rattle.std.specs.List.{list_all, list_any}
use Rattle.std.proofs.lemmas.Bool.{eqb-true}
use Rattle.registry_model.specs.Process.{is_process}
use Rattle.registry_model.specs.Table.{Pair, Table, without, owns}
use Rattle.registry_model.specs.Registry.{Registry, Replica, replica_of}
use Rattle.registry_model.specs.History.{Hold, Standing, hold_at}
use Rattle.registry_model.proofs.Lists.{Contains-cases, Contains-nil, Contains-front, Contains-behind}
use Rattle.protocol_model.specs.Watch.{is_dead, least_owner, lesser}
use Rattle.protocol_model.specs.Node.{Op, Current, is_writing}
use Rattle.protocol_model.specs.Event.{is_joining}
use Rattle.protocol_model.specs.World.{Opening, in_world, in_cluster, World, left}
use Rattle.headline.proofs.Indices.{both, not_true}
use Rattle.headline.proofs.Invariants
use Rattle.headline.proofs.Invariants.{IsUp, Replicas, standing_at}
use Rattle.headline.proofs.Tokens.{Gate, Away, Knock, Wait, Turned, Entering, is_away, knocks, returns, admissions, jobs, asked_for, knocks_of, returns_of, queued_of, is_wait}
use Rattle.headline.proofs.States
use Rattle.leftovers.proofs.Grounds.{replicas}
use Rattle.leftovers.proofs.Rest.{WorkRests}
use Rattle.leftovers.proofs.Started.{Idle}
use Rattle.leftovers.proofs.Owners.{joined_owner}
use Rattle.leftovers.proofs.Families.{Whole, whole}
use Rattle.leftovers.proofs.Quiet.{rid, at_ease, registrars}
use Rattle.headline.proofs.Ids.{is_process_self}
use Rattle.headline.specs.Clauses.{world}
use Rattle.headline.specs.Worlds.{of_nodes, OfNodes, IsQuiet}
use Rattle.leftovers.specs.Leftovers.{DeparturesAreTold, NoNameOnADepartedNode, DeadOwnersOwnNothing}

pub departures_are_told : OfNodes DeparturesAreTold
departures_are_told o es c d quiet up gone = (rid o (world o es) (whole o es) quiet c d up gone).0

-- what is kept of a filtered list passes, and was there before
kept_of : {A : Type 0} (keep : A → Bool) (xs : List A) (x : A) → Contains (filter keep xs) x
    → (keep x ≡ true) × Contains xs x
kept_of keep [] x h = absurd (Contains-nil x h)
kept_of {A} keep (y ∷ xs) x h = go (keep y) refl h (kept_of keep xs x)
  where
    go : (b : Bool) → keep y ≡ b → Contains (if b then y ∷ filter keep xs else filter keep xs) x
        → (Contains (filter keep xs) x → (keep x ≡ true) × Contains xs x) → (keep x ≡ true) × Contains (y ∷ xs) x
    go true e k more = elim (Contains-cases y (filter keep xs) x k) [
      | inl i ↦ (subst (λ (z : A). keep z ≡ true) i e, subst (λ (z : A). Contains (y ∷ xs) z) i (Contains-front y xs))
      | inr d ↦ ((more d).0, Contains-behind y xs x (more d).1)
    ]
    go false e k more = ((more k).0, Contains-behind y xs x (more k).1)

all_at : {A : Type 0} (test : A → Bool) (xs : List A) (x : A) → list_all test xs ≡ true → Contains xs x
    → test x ≡ true
all_at test [] x h c = absurd (Contains-nil x c)
all_at {A} test (y ∷ xs) x h c =
    let parts : (test y ≡ true) × (list_all test xs ≡ true) = both (test y) (list_all test xs) h in
    elim (Contains-cases y xs x c) [
      | inl i ↦ subst (λ (z : A). test z ≡ true) i parts.0
      | inr d ↦ all_at test xs x parts.1 d
    ]

-- who has a name is found to own one
owner_found : (t : Table) (pair : Pair) → Contains t pair → owns pair.owner t ≡ true
owner_found [] pair c = absurd (Contains-nil pair c)
owner_found (e ∷ t) pair c = elim (Contains-cases e t pair c) [
  | inl i ↦ ap (λ (b : Bool). b || owns pair.owner t) (ap (λ (z : Pair). is_process z.owner pair.owner) i
      ∙ is_process_self pair.owner)
  | inr d ↦ more (is_process e.owner pair.owner) (owner_found t pair d)
]
  where
    more : (b : Bool) → owns pair.owner t ≡ true → (b || owns pair.owner t) ≡ true
    more true h = refl
    more false h = h

-- where no strike is owed no dead process owns a name
none_owed : (a : ℕ) (t : Table) (ds : List ℕ) → least_owner a t ds ≡ None → (s : ℕ)
    → list_any (λ d. d == s) ds ≡ true → owns (record { node = a; serial = s }) t ≡ false
none_owed a t [] h s e = cc e
none_owed a t (d ∷ ds) h s e = go (owns (record { node = a; serial = d }) t) refl h (none_owed a t ds)
  where
    go : (b : Bool) → owns (record { node = a; serial = d }) t ≡ b
        → (if b then Some (lesser d (least_owner a t ds)) else least_owner a t ds) ≡ None
        → (least_owner a t ds ≡ None → (s : ℕ) → list_any (λ d. d == s) ds ≡ true
        → owns (record { node = a; serial = s }) t ≡ false) → owns (record { node = a; serial = s }) t ≡ false
    go true k n more = cc n
    go false k n more = first (d == s) refl e
      where
        first : (b : Bool) → (d == s) ≡ b → (b || list_any (λ d. d == s) ds) ≡ true
            → owns (record { node = a; serial = s }) t ≡ false
        first true i q = ap (λ (x : ℕ). owns (record { node = a; serial = x }) t) (sym (eqb-true d s i)) ∙ k
        first false i q = more n s q

module _ (o : Opening) (w : World) (W : Whole o w) (Q : IsQuiet (of_nodes o) w) where
  R : Replicas o w
  R = replicas o w W.base

  abbrev s : Standing
  s = standing_at o w

  -- nothing holds
  free : (c : ℕ) → hold_at (standing_at o w) c ≡ None
  free c = go (hold_at (standing_at o w) c) refl
    where
      idle : (x : Current) → at_ease o w W Q x ≡ true → is_writing x ≡ true → ⊥
      idle (Current.Writing op t awaited reply) h k = cc h
      idle (Current.Asking op r) h k = cc h
      idle Current.Free h k = cc k
      idle (Current.Waiting op) h k = cc k
      idle (Current.Joining n m) h k = cc k

      go : (x : Option Hold) → hold_at (standing_at o w) c ≡ x → x ≡ None
      go None e = refl
      go (Some h) e =
          let writes : is_writing (w.node h.node).current ≡ true = States.holder_writes o w (replicas o w W.base) c h e in
          absurd (idle (w.node h.node).current
          (registrars o w W Q h.node ((replicas o w W.base).writers h.node writes)) writes)

  -- so each running node shows the registry
  shows : (c : ℕ) → IsUp o w c → (w.node c).replica ≡ replica_of (standing_at o w).registry c
  shows c up = States.shows_free o w (replicas o w W.base) c up (free c)

  -- no name of a process of a node that has left
  pub no_departed : (c : ℕ) → IsUp o w c → (pair : Pair) → Contains (w.node c).replica.table pair
      → left w pair.owner.node ≡ false
  no_departed c up pair listed = go (left w pair.owner.node) refl
    where
      untold : (w.node c).replica.told pair.owner.node ≡ false
      untold = ap (λ (v : Replica). v.told pair.owner.node) (shows c up)
          ∙ not_true ((standing_at o w).registry.told c pair.owner.node)
          (kept_of (λ (e : Pair). not ((standing_at o w).registry.told c e.owner.node)) _ pair
          (subst (λ (v : Replica). Contains v.table pair) (shows c up) listed)).0

      go : (b : Bool) → left w pair.owner.node ≡ b → b ≡ false
      go true e = cc ((rid o w W Q c pair.owner.node up e).0, untold)
      go false e = refl

  -- a name that a running node has stands at its owner's node, where that runs
  at_home : (c : ℕ) → IsUp o w c → (pair : Pair) → Contains (w.node c).replica.table pair → IsUp o w pair.owner.node
      → Contains (w.node pair.owner.node).replica.table pair
  at_home c up pair listed home = go ((standing_at o w).registry.joined c) refl
    where
      a : ℕ
      a = pair.owner.node

      r : Registry
      r = (standing_at o w).registry

      here : Contains (without ((standing_at o w).registry.told c)
          (if (standing_at o w).registry.joined c then (standing_at o w).registry.table
          else (standing_at o w).registry.lone c)) pair
      here = subst (λ (v : Replica). Contains v.table pair) (shows c up) listed

      untold : (standing_at o w).registry.told pair.owner.node pair.owner.node ≡ false
      untold = known ((w.node pair.owner.node).replica.told pair.owner.node) refl
        where
          same : (w.node pair.owner.node).replica.told pair.owner.node
              ≡ (standing_at o w).registry.told pair.owner.node pair.owner.node
          same = ap (λ (v : Replica). v.told pair.owner.node) (shows pair.owner.node home)

          known : (b : Bool) → (w.node pair.owner.node).replica.told pair.owner.node ≡ b
              → (standing_at o w).registry.told pair.owner.node pair.owner.node ≡ false
          known true e = cc (W.base.all.proper.told_left pair.owner.node pair.owner.node home.1 e, home.1)
          known false e = sym same ∙ e

      stays : (t : Table) → Contains t pair
          → Contains (without ((standing_at o w).registry.told pair.owner.node) t) pair
      stays [] k = absurd (Contains-nil pair k)
      stays (e ∷ t) k = keeps (not ((standing_at o w).registry.told pair.owner.node e.owner.node)) refl
          (Contains-cases e t pair k) (stays t)
        where
          keeps : (b : Bool) → not ((standing_at o w).registry.told pair.owner.node e.owner.node) ≡ b
              → (e ≡ pair) ⊎ Contains t pair
              → (Contains t pair → Contains (without ((standing_at o w).registry.told pair.owner.node) t) pair)
              → Contains (if b then e ∷ without ((standing_at o w).registry.told pair.owner.node) t
              else without ((standing_at o w).registry.told pair.owner.node) t) pair
          keeps true i (inl k) more = subst
              (λ (z : Pair). Contains (e ∷ without ((standing_at o w).registry.told pair.owner.node) t) z) k
              (Contains-front e (without ((standing_at o w).registry.told pair.owner.node) t))
          keeps true i (inr k) more =
              Contains-behind e (without ((standing_at o w).registry.told pair.owner.node) t) pair (more k)
          keeps false i (inl k) more = cc (
            sym (ap (λ (z : Pair).
                not ((standing_at o w).registry.told pair.owner.node z.owner.node)) k) ∙ i,
            ap not untold,
          )
          keeps false i (inr k) more = more k

      there : (b : Bool) → (standing_at o w).registry.joined pair.owner.node ≡ b
          → Contains (if b then (standing_at o w).registry.table else (standing_at o w).registry.lone pair.owner.node) pair
          → Contains (w.node pair.owner.node).replica.table pair
      there b e k = subst (λ (v : Replica). Contains v.table pair) (sym (shows pair.owner.node home))
          (subst (λ (t : Bool). Contains (without ((standing_at o w).registry.told pair.owner.node)
          (if t then (standing_at o w).registry.table else (standing_at o w).registry.lone pair.owner.node)) pair)
          (sym e) (stays (if b then (standing_at o w).registry.table
          else (standing_at o w).registry.lone pair.owner.node) k))

      go : (b : Bool) → (standing_at o w).registry.joined c ≡ b → Contains (w.node pair.owner.node).replica.table pair
      go true e =
          let listed_here : Contains (standing_at o w).registry.table pair = (kept_of
          (λ (z : Pair). not ((standing_at o w).registry.told c z.owner.node)) (standing_at o w).registry.table pair
          (subst (λ (t : Bool). Contains (without ((standing_at o w).registry.told c)
          (if t then (standing_at o w).registry.table else (standing_at o w).registry.lone c)) pair) e here)).1 in
          there true (joined_owner (in_cluster o) w.history (replicas o w W.base).legal pair listed_here) listed_here
      go false e =
          let listed_here : Contains ((standing_at o w).registry.lone c) pair = (kept_of
          (λ (z : Pair). not ((standing_at o w).registry.told c z.owner.node)) ((standing_at o w).registry.lone c) pair
          (subst (λ (t : Bool). Contains (without ((standing_at o w).registry.told c)
          (if t then (standing_at o w).registry.table else (standing_at o w).registry.lone c)) pair) e here)).1 in
          let own : pair.owner.node ≡ c = eqb-true pair.owner.node c
          (all_at (λ (z : Pair). z.owner.node == c) ((standing_at o w).registry.lone c) pair
          (States.lone_owners o w (replicas o w W.base) c e) listed_here) in
          subst (λ (x : ℕ). Contains (w.node x).replica.table pair) (sym own) listed

  -- and its owner's node is of the world
  pub owner_inside : (c : ℕ) → IsUp o w c → (pair : Pair) → Contains (w.node c).replica.table pair
      → in_world o pair.owner.node ≡ true
  owner_inside c up pair listed = go ((standing_at o w).registry.joined c) refl
    where
      there : (b : Bool) → (standing_at o w).registry.joined c ≡ b
          → Contains (if b then (standing_at o w).registry.table else (standing_at o w).registry.lone c) pair
      there b e = subst (λ (t : Bool). Contains (if t then (standing_at o w).registry.table
          else (standing_at o w).registry.lone c) pair) e
          (kept_of (λ (z : Pair). not ((standing_at o w).registry.told c z.owner.node)) _ pair
          (subst (λ (v : Replica). Contains v.table pair) (shows c up) listed)).1

      go : (b : Bool) → (standing_at o w).registry.joined c ≡ b → in_world o pair.owner.node ≡ true
      go true e = (replicas o w W.base).joined_inside pair.owner.node
          (joined_owner (in_cluster o) w.history (replicas o w W.base).legal pair (there true e))
      go false e = ap (in_world o) (eqb-true pair.owner.node c
          (all_at (λ (z : Pair). z.owner.node == c) ((standing_at o w).registry.lone c) pair
          (States.lone_owners o w (replicas o w W.base) c e) (there false e))) ∙ up.0

  -- where nobody waits for a retry, every registrar is free
  module _ (retried : (c : ℕ) (op : Op) → IsUp o w c → (w.node c).current ≡ Current.Waiting op → ⊥) where
    no_jobs : (m : ℕ) → IsUp o w m → (w.node m).replica.joined ≡ true → jobs (w.node m) ≡ []
    no_jobs m up joined = go (w.node m).current refl
      where
        none : (c : Current) → (w.node m).current ≡ c → asked_for c ≡ [] → (w.node m).queue ≡ []
            → jobs (w.node m) ≡ []
        none c e k q = ap (λ (x : Current). asked_for x ++ (w.node m).queue) e
            ∙ ap (λ (x : List Op). x ++ (w.node m).queue) k ∙ q

        go : (c : Current) → (w.node m).current ≡ c → jobs (w.node m) ≡ []
        go Current.Free e = none Current.Free e refl (W.started m e).queue
        go (Current.Waiting op) e = absurd (retried m op up e)
        go (Current.Asking op r) e = cc (ap (at_ease o w W Q) e, registrars o w W Q m up)
        go (Current.Writing op t awaited reply) e = cc (ap (at_ease o w W Q) e, registrars o w W Q m up)
        go (Current.Joining k c) e = cc (ap is_joining e, ((W.base.all.joins.once m).joined joined).0)

    no_joining : (j k m : ℕ) → IsUp o w j → (w.node j).current ≡ Current.Joining k m → ⊥
    no_joining j k m up e = absurd (go (left w m) refl)
      where
        inside : in_world o m ≡ true
        inside = subst (Invariants.IsProperCurrent o w) e (W.base.all.proper.currents j)

        untold : (w.node j).replica.told m ≡ false
        untold = subst (WorkRests o (w.node j).replica.told) e (W.rest j up.0).work

        by : IsUp o w m → (g : Gate) → W.families.knocked.gate j m ≡ g → ⊥
        by um Away i = cc (ap is_away i, W.families.knocked.open_gates j m k up um e)
        by um (Knock p) i = cc (sym (ap knocks (Q j m up.0 um)) ∙ W.families.knocked.gates.knock j m um.1
            ∙ ap knocks_of i)
        by um Turned i = cc (sym (ap returns (Q m j um.0 up)) ∙ W.families.knocked.gates.back j m up.1
            ∙ ap returns_of i)
        by um Entering i = cc (sym (ap returns (Q m j um.0 up)) ∙ W.families.knocked.gates.back j m up.1
            ∙ ap returns_of i)
        by um (Wait p) i = cc (sym (ap (admissions j) (no_jobs m um
            ((W.families.knocked.gates.facts j m).host (ap is_wait i))))
            ∙ W.families.knocked.gates.queued j m um.1 ∙ ap queued_of i)

        go : (b : Bool) → left w m ≡ b → ⊥
        go true h = cc ((rid o w W Q j m up h).0, untold)
        go false h = by (inside, h) (W.families.knocked.gate j m) refl

    -- so it owes no strike
    idle : (c : ℕ) → IsUp o w c → Idle c (w.node c)
    idle c up = go (w.node c).current refl
      where
        go : (x : Current) → (w.node c).current ≡ x → Idle c (w.node c)
        go Current.Free e = W.started c e
        go (Current.Waiting op) e = absurd (retried c op up e)
        go (Current.Asking op r) e = cc (ap (at_ease o w W Q) e, registrars o w W Q c up)
        go (Current.Writing op t awaited reply) e = cc (ap (at_ease o w W Q) e, registrars o w W Q c up)
        go (Current.Joining k m) e = absurd (no_joining c k m up e)

    pub no_dead : (c : ℕ) → IsUp o w c → (pair : Pair) → Contains (w.node c).replica.table pair
        → is_dead (w.node pair.owner.node).watch pair.owner.serial ≡ false
    no_dead c up pair listed = go (in_world o pair.owner.node) refl
        (is_dead (w.node pair.owner.node).watch pair.owner.serial) refl
      where
        go : (i : Bool) → in_world o pair.owner.node ≡ i → (d : Bool)
            → is_dead (w.node pair.owner.node).watch pair.owner.serial ≡ d → d ≡ false
        go i e false h = refl
        go false e true h = cc (sym (ap (λ (ds : List ℕ). list_any (λ d. d == pair.owner.serial) ds)
            (W.families.outside pair.owner.node e)) ∙ h)
        go true e true h =
            let home : IsUp o w pair.owner.node = (e, no_departed c up pair listed) in
            cc (
              none_owed pair.owner.node (w.node pair.owner.node).replica.table
                  (w.node pair.owner.node).watch.dead (idle pair.owner.node home).strikes pair.owner.serial h,
              owner_found (w.node pair.owner.node).replica.table pair (at_home c up pair listed home),
            )

pub no_name_on_a_departed_node : OfNodes NoNameOnADepartedNode
no_name_on_a_departed_node o es c quiet up pair listed = no_departed o (world o es) (whole o es) quiet c up pair listed

pub dead_owners_own_nothing : OfNodes DeadOwnersOwnNothing
dead_owners_own_nothing o es c settled up pair listed =
    ap (λ (b : Bool). b || is_dead ((world o es).node pair.owner.node).watch pair.owner.serial)
    (no_departed o (world o es) (whole o es) settled.quiet c up pair listed)
    ∙ no_dead o (world o es) (whole o es) settled.quiet settled.retried c up pair listed
