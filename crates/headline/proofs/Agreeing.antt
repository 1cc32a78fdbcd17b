-- What running nodes show of each other: one holder, one owner of each name, one table.
use Rattle.std.proofs.Common.{ℕ, Bool, true, false, ◌≡◌, Option, Some, None, ◌++◌, refl, sym, ap, ◌∙◌, subst}
use Rattle.std.specs.Prelude.{option_map, if◌then◌else◌}
use Rattle.std.proofs.lemmas.Bool.{eqb-true}
use Rattle.std.proofs.Math.Path.{fun_ext}
use Rattle.registry_model.specs.Process.{Nodes}
use Rattle.registry_model.specs.Table.{is_rising, without}
use Rattle.registry_model.specs.Registry.{Replica, replica_of}
use Rattle.registry_model.specs.History.{Hold, Standing, hold_at, is_hold_of, old, old_or}
use Rattle.registry_model.specs.HistoryLaws.{HasOneOwner, IsLeftOut}
use Rattle.registry_model.proofs.HistoryParts.{registry-standing_of}
use Rattle.registry_model.proofs.Holding.{Holds-standing_of, left_out-hold_at}
use Rattle.registry_model.proofs.Rising.{Rises, Rises-registry_of, is_rising-view, one_owner_of}
use Rattle.protocol_model.specs.Node.{is_writing}
use Rattle.protocol_model.specs.World.{Opening, in_cluster, World}
use Rattle.moves.proofs.Invariants.{IsUp, Replicas, replica, current, standing_at, is_behind, is_pending}
use Rattle.replicas.proofs.Legality.{Sound-standing_of, hold_at-joined}
use Rattle.replicas.proofs.Groups.{Groups, Groups-sound}
use Rattle.replicas.proofs.States
use Rattle.headline.specs.Clauses.{world}
use Rattle.headline.specs.Laws.{Runs, OneHolder, OneOwnerAtEach, JoinedAgree}
use Rattle.headline.proofs.Together.{replicas}
use Rattle.headline.proofs.Theorem.{whole}

module _ (o : Opening) (w : World) (R : Replicas o w) where
  abbrev pub now : Standing
  now = standing_at o w

  groups : Groups now.registry (hold_at now)
  groups = Groups-sound now (Sound-standing_of (in_cluster o) w.history R.legal)

  -- a node that shows that it is joined is joined
  pub joined_shown : (a : ℕ) → IsUp o w a → (replica o w a).joined ≡ true → now.registry.joined a ≡ true
  joined_shown a up joined = go (hold_at now a) refl (ap (λ (v : Replica). v.joined) (sym (R.facts a up)) ∙ joined)
    where
      go : (h : Option Hold) → hold_at now a ≡ h
          → (if is_behind o w a h then old_or now.registry h else now.registry).joined a ≡ true
          → now.registry.joined a ≡ true
      go None e j = both_ways (is_behind o w a None) j
        where
          both_ways : (b : Bool) → (if b then now.registry else now.registry).joined a ≡ true
              → now.registry.joined a ≡ true
          both_ways true j = j
          both_ways false j = j
      go (Some h) e j = late (is_behind o w a (Some h)) j
        where
          late : (b : Bool) → (if b then h.old else now.registry).joined a ≡ true → now.registry.joined a ≡ true
          late true j = (groups.within a h e).grows a j
          late false j = j

  -- a joined node that writes is the node of what holds in the cluster
  writer_holds : (a : ℕ) → now.registry.joined a ≡ true → is_writing (current o w a) ≡ true → is_hold_of a now.held
      ≡ true
  writer_holds a joined writes = ap (is_hold_of a) (sym (hold_at-joined now a joined)) ∙ R.holds a ∙ writes

  -- so two such nodes are one
  pub one_writer : (a b : ℕ) → now.registry.joined a ≡ true → now.registry.joined b ≡ true
      → is_writing (current o w a) ≡ true
      → is_writing (current o w b) ≡ true → a ≡ b
  one_writer a b ja jb wa wb = go now.held (writer_holds a ja wa) (writer_holds b jb wb)
    where
      go : (h : Option Hold) → is_hold_of a h ≡ true → is_hold_of b h ≡ true → a ≡ b
      go None x y = cc
      go (Some h) x y = sym (eqb-true h.node a x) ∙ eqb-true h.node b y

  -- the registry, with what holds or without it, is that of a history
  rises_now : Rises now.registry
  rises_now = subst Rises (sym (registry-standing_of (in_cluster o) w.history))
      (Rises-registry_of (in_cluster o) w.history)

  rises_old : (a : ℕ) → Rises (old now a)
  rises_old a = go (hold_at now a) refl
    where
      go : (h : Option Hold) → hold_at now a ≡ h → Rises (old_or now.registry h)
      go None e = rises_now
      go (Some h) e =
          let L : IsLeftOut (in_cluster o) w.history h = left_out-hold_at (in_cluster o) w.history now
          (Holds-standing_of (in_cluster o) w.history) a h e in
          subst Rises (sym L.old) (Rises-registry_of (in_cluster o) (L.before ++ L.later))

  -- at no running node a name has two owners
  pub one_owner_shown : (a : ℕ) → IsUp o w a → HasOneOwner (replica o w a).table
  one_owner_shown a up = one_owner_of (replica o w a).table
      (ap (λ (v : Replica). is_rising v.table) (R.facts a up)
      ∙ is_rising-view (if is_pending o w a then old now a else now.registry) (go (is_pending o w a)) a)
    where
      go : (b : Bool) → Rises (if b then old now a else now.registry)
      go true = rises_old a
      go false = rises_now

  -- while nothing holds in the cluster, joined nodes that were told of the same departures show one table
  pub one_table : (a b : ℕ) → IsUp o w a → IsUp o w b → now.registry.joined a ≡ true → now.registry.joined b ≡ true
      → now.held ≡ None
      → ((d : ℕ) → (replica o w a).told d ≡ (replica o w b).told d) → (replica o w a).table ≡ (replica o w b).table
  one_table a b ua ub ja jb none same =
      shows a ua ja ∙ ap (λ (gone : Nodes). without gone now.registry.table) (fun_ext same) ∙ sym (shows b ub jb)
    where
      free : (c : ℕ) → IsUp o w c → now.registry.joined c ≡ true → replica o w c ≡ replica_of now.registry c
      free c up joined = States.shows_free o w R c up (hold_at-joined now c joined ∙ none)

      shows : (c : ℕ) → IsUp o w c → now.registry.joined c ≡ true
          → (replica o w c).table ≡ without (replica o w c).told now.registry.table
      shows c up joined = ap (λ (v : Replica). v.table) (free c up joined)
          ∙ ap (λ (t : Bool). without (now.registry.told c) (if t then now.registry.table else now.registry.lone c))
          joined
          ∙ ap (λ (v : Replica). without v.told now.registry.table) (sym (free c up joined))

-- a node that runs
pub runs_up : (o : Opening) (w : World) (a : ℕ) → Runs o w a → IsUp o w a
runs_up o w a r = (r.inside, r.stays)

pub one_holder : OneHolder
one_holder o es a b ra rb ha hb =
    let R : Replicas o (world o es) = replicas o (world o es) (whole o es).kept in
    one_writer o (world o es) R a b (joined_shown o (world o es) R a (runs_up o (world o es) a ra.runs) ra.joined)
    (joined_shown o (world o es) R b (runs_up o (world o es) b rb.runs) rb.joined) ha hb

pub one_owner_at_each : OneOwnerAtEach
one_owner_at_each o es a r = one_owner_shown o (world o es) (replicas o (world o es) (whole o es).kept) a
    (runs_up o (world o es) a r)

pub joined_agree : JoinedAgree
joined_agree o es a b ra rb none same =
    let R : Replicas o (world o es) = replicas o (world o es) (whole o es).kept in
    let ua : IsUp o (world o es) a = runs_up o (world o es) a ra.runs in
    let ub : IsUp o (world o es) b = runs_up o (world o es) b rb.runs in
    one_table o (world o es) R a b ua ub (joined_shown o (world o es) R a ua ra.joined)
    (joined_shown o (world o es) R b ub rb.joined)
    (nothing (standing_at o (world o es)).held (sym (States.holder_is o (world o es) R) ∙ none)) same
  where
    nothing : (h : Option Hold) → option_map (λ (h : Hold). h.node) h ≡ None → h ≡ None
    nothing None e = refl
    nothing (Some h) e = cc
