-- Where locks and replicas meet: a round that is held meets no operation that holds in its group, and so its node
-- shows the registry.
use Rattle.std.proofs.Common.{ℕ, Bool, true, false, ◌==◌, ◌≡◌, Option, Some, None, refl, sym, ap, ◌∙◌}
use Rattle.std.specs.Prelude.{if◌then◌else◌, not}
use Rattle.std.proofs.lemmas.Bool.{and_from}
use Rattle.registry_model.specs.Registry.{Registry, Replica, replica_of}
use Rattle.registry_model.specs.History.{Hold, Standing, hold_at, old_or, standing_of}
use Rattle.protocol_model.specs.Round.{Round}
use Rattle.protocol_model.specs.Node.{Op, Current}
use Rattle.protocol_model.specs.Event.{is_joining}
use Rattle.protocol_model.specs.World.{Opening, in_cluster, World}
pub use Rattle.replicas.proofs.Known.{Known}
use Rattle.replicas.proofs.Known.{busy_writing, replicas_known}
use Rattle.replicas.proofs.States.{joined_now}
use Rattle.moves.proofs.Rules.{IsHeld}
use Rattle.moves.proofs.Invariants.{IsUp, Proper, Exclusive, JoinsKnown}
use Rattle.replicas.proofs.Soundness.{Sound}
use Rattle.replicas.proofs.Legality.{Sound-standing_of}
use Rattle.replicas.proofs.Groups.{Groups, Groups-sound}
use Rattle.replicas.proofs.Scenes.{doing_of, is_busy, Scene, scene_of, is_late, before}
use Rattle.replicas.proofs.Carrying.{holder_busy, holder_runs}

module _ (o : Opening) (w : World) (P : Proper o w) (X : Exclusive o w) (J : JoinsKnown o w) (I : Known o w) where
  -- what the history comes to
  abbrev pub standing : Standing
  standing = standing_of (in_cluster o) w.history

  -- the scene of the world
  abbrev pub scene : Scene
  scene = scene_of o w

  -- what the history alone says
  pub sound : Sound standing
  sound = Sound-standing_of (in_cluster o) w.history I.legal

  -- and what it says of groups
  pub groups : Groups standing.registry (hold_at standing)
  groups = Groups-sound standing sound

  -- who is told to have left has left
  pub untold : (a c : ℕ) → IsUp o w a → w.links.closed c ≡ false → (w.node a).replica.told c ≡ false
  untold a c up g = go ((w.node a).replica.told c) refl
    where
      go : (b : Bool) → (w.node a).replica.told c ≡ b → b ≡ false
      go true e = cc (P.told_left a c up.1 e, g)
      go false e = refl

  module _ (a : ℕ) (up : IsUp o w a) (op : Op) (r : Round) (held : IsHeld o.bound (w.node a) op r) where
    -- the node isn't joining, so it is as joined as the registry has it
    flag_now : (w.node a).replica.joined ≡ standing.registry.joined a
    flag_now = joined_now o w (replicas_known o w I) J a up (ap is_joining held.current)

    -- the node of what holds in the group is a member
    holder_member : (h : Hold) → hold_at standing a ≡ Some h → standing.registry.joined a ≡ true
        → (w.node a).replica.members h.node ≡ true
    holder_member h e j = ap (λ (v : Replica). v.members h.node) shown
        ∙ go (is_late o scene a (hold_at standing a)) refl
      where
        shown : (w.node a).replica ≡ replica_of (if is_late o scene a
            (hold_at standing a) then before o scene a else standing.registry) a
        shown = I.kept.facts a up

        nodes : (standing.registry.joined h.node ≡ true) × (h.old.joined h.node ≡ true)
        nodes = groups.joined a h e j

        not_told : (w.node a).replica.told h.node ≡ false
        not_told = untold a h.node up (holder_runs o scene I.kept groups a h e).1

        of : (q : Registry) → q.joined a ≡ true → q.joined h.node ≡ true → q.told a h.node ≡ false
            → (replica_of q a).members h.node ≡ true
        of q i k t = and_from _ _ (ap (λ (b : Bool). if b then q.joined h.node else h.node == a) i ∙ k) (ap not t)

        go : (b : Bool) → is_late o scene a (hold_at standing a) ≡ b
            → (replica_of (if b then before o scene a else standing.registry) a).members h.node ≡ true
        go true l =
            let s : (before o scene a).joined a ≡ standing.registry.joined a =
            ap (λ (b : Bool). (if b then before o scene a else standing.registry).joined a) (sym l)
            ∙ ap (λ (v : Replica). v.joined) (sym shown) ∙ flag_now in
            let t : (before o scene a).told a h.node ≡ false =
            ap (λ (b : Bool). (if b then before o scene a else standing.registry).told a h.node) (sym l)
            ∙ ap (λ (v : Replica). v.told h.node) (sym shown) ∙ not_told in
            of (before o scene a) (s ∙ j) (ap (λ (q : Option Hold). (old_or standing.registry q).joined h.node) e
            ∙ nodes.1) t
        go false l =
            let t : standing.registry.told a h.node ≡ false =
            ap (λ (b : Bool). (if b then before o scene a else standing.registry).told a h.node) (sym l)
            ∙ ap (λ (v : Replica). v.told h.node) (sym shown) ∙ not_told in
            of standing.registry j nodes.0 t

    -- no operation holds in the group
    pub nobody_holds : hold_at standing a ≡ None
    nobody_holds = go (hold_at standing a) refl
      where
        lone_case : (h : Hold) → hold_at standing a ≡ Some h → (b : Bool) → standing.registry.joined a ≡ b → ⊥
        lone_case h e true j = X.alone a h.node op r up (holder_runs o scene I.kept groups a h e) held
            (sym (busy_writing (w.node h.node).current) ∙ holder_busy o scene I.kept groups a h e)
            (holder_member h e j)
        lone_case h e false j =
            let busy : is_busy (doing_of (w.node a).current) ≡ true =
            ap (λ (x : ℕ). is_busy (doing_of (w.node x).current)) (sym (groups.lone a h e j).0)
            ∙ holder_busy o scene I.kept groups a h e in
            let idle : is_busy (doing_of (w.node a).current) ≡ false =
            ap (λ (c : Current). is_busy (doing_of c)) held.current in
            absurd (cc (busy, idle))

        go : (h : Option Hold) → hold_at standing a ≡ h → h ≡ None
        go None e = refl
        go (Some h) e = absurd (lone_case h e (standing.registry.joined a) refl)

    -- so the node shows the registry
    pub shows_now : (w.node a).replica ≡ replica_of standing.registry a
    shows_now = I.kept.facts a up ∙ ap (λ (h : Option Hold). replica_of
        (if is_late o scene a h then old_or standing.registry h else standing.registry) a) nobody_holds
