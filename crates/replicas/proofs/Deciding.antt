-- What a node knows whose round is held, and how a hold begins that changes the table of its group.
use Rattle.std.proofs.Common.{ℕ, Bool, true, false, ◌==◌, ◌≡◌, Option, Some, None, List, [], ◌∷◌, ◌++◌, refl, sym, ap, ◌∙◌, subst}
use Rattle.std.specs.Prelude.{if◌then◌else◌, not, ◌&&◌, fold, nat_lt, is_none}
use Rattle.std.proofs.Math.Path.{fun_ext}
use Rattle.std.proofs.lemmas.Bool.{eqb-true, and_from}
use Rattle.registry_model.specs.Process.{Process, Nodes, nodes_of, at}
use Rattle.registry_model.specs.Table.{Change, changed}
use Rattle.registry_model.specs.Call.{Reply}
use Rattle.registry_model.specs.Registry.{Registry, in_group, with_table, Replica, replica_of}
use Rattle.registry_model.specs.History.{Entry, effect, Hold, Standing, hold_at, set_hold, with_effect_on, with_effect, after}
use Rattle.registry_model.specs.Legal.{may_decide}
use Rattle.protocol_model.specs.Round.{Round}
use Rattle.protocol_model.specs.Letter.{Letter}
use Rattle.protocol_model.specs.Node.{Op}
use Rattle.protocol_model.specs.Turn.{Turn, Send, sent_to}
use Rattle.protocol_model.specs.World.{Opening, in_world, World}
use Rattle.moves.proofs.Indices.{both}
use Rattle.moves.proofs.Sends.{sent_to-all, to_each}
use Rattle.moves.proofs.Rules.{IsHeld}
use Rattle.moves.proofs.Invariants.{IsUp, Proper, Exclusive, JoinsKnown}
use Rattle.registry_model.proofs.Groups.{joined-with_table}
use Rattle.registry_model.proofs.Deaths.{dead_stays}
use Rattle.replicas.proofs.Writes.{replica_of-written, replica_of-unwritten, with_table-left}
use Rattle.registry_model.proofs.HistoryParts.{registry-after}
use Rattle.replicas.proofs.Histories.{hold_at-with_effect, hold_at-with, hold_at-without}
use Rattle.registry_model.proofs.Groups.{in_group-itself}
use Rattle.replicas.proofs.Groups.{apart_before}
use Rattle.replicas.proofs.Scenes.{Doing, Nothing, Carries, doing_of, struck_by, struck_of, mine, Scene, scene_of, IsEntryOf, Kept}
use Rattle.replicas.proofs.Steps.{at-itself, sent, past_now, stepped}
use Rattle.replicas.proofs.Begins.{Beginning, begun_hold, begun_scene, Kept-begun}
use Rattle.replicas.proofs.Bridge.{standing, sound, groups, untold, nobody_holds, shows_now}
use Rattle.replicas.proofs.Known.{Known}

-- scenes are told by their parts
pub same_scene : (S T : Scene) → S.registry ≡ T.registry → S.hold ≡ T.hold → S.gone ≡ T.gone → S.replica ≡ T.replica
    → S.doing ≡ T.doing
    → S.struck ≡ T.struck → S.dead ≡ T.dead → S.mail ≡ T.mail → S ≡ T
same_scene S T r h g v d k e m =
    ap (λ (x : Registry). record S { registry = x }) r
    ∙ ap (λ (x : ℕ → Option Hold). record S { registry = T.registry; hold = x }) h
    ∙ ap (λ (x : Nodes). record S { registry = T.registry; hold = T.hold; gone = x }) g
    ∙ ap (λ (x : ℕ → Replica). record S { registry = T.registry; hold = T.hold; gone = T.gone; replica = x }) v
    ∙ ap (λ (x : ℕ → Doing). record T { doing = x; struck = S.struck; dead = S.dead; mail = S.mail }) d
    ∙ ap (λ (x : ℕ → List Process). record T { struck = x; dead = S.dead; mail = S.mail }) k
    ∙ ap (λ (x : ℕ → List ℕ). record T { dead = x; mail = S.mail }) e
    ∙ ap (λ (x : ℕ → ℕ → List Letter). record T { mail = x }) m

-- what holds after an entry that begins to hold
module _ (s : Standing) (a : ℕ) (e : Entry) (begins : after s e
    ≡ set_hold a (Some (record { node = a; entry = e; old = s.registry })) (with_effect e s)) where
  -- it holds in its group, and what holds elsewhere is left as it was but for the entry
  pub hold_at-begun : ((c : ℕ) → in_group (effect e s.registry) a c ≡ false
      → (effect e s.registry).joined c ≡ s.registry.joined c)
      → (c : ℕ) → hold_at (after s e) c ≡ (if in_group (effect e s.registry) a c then Some
      (record { node = a; entry = e; old = s.registry }) else with_effect_on e (hold_at s c))
  hold_at-begun same c = ap (λ (t : Standing). hold_at t c) begins ∙ go (in_group (effect e s.registry) a c) refl
    where
      go : (b : Bool) → in_group (effect e s.registry) a c ≡ b
          → hold_at (set_hold a (Some (record { node = a; entry = e; old = s.registry })) (with_effect e s)) c
          ≡ (if b then Some (record { node = a; entry = e; old = s.registry }) else with_effect_on e (hold_at s c))
      go true g = hold_at-with a (Some (record { node = a; entry = e; old = s.registry })) (with_effect e s) c g
      go false g = hold_at-without a (Some (record { node = a; entry = e; old = s.registry })) (with_effect e s) c g
          ∙ hold_at-with_effect e s c (same c g)

module _ (o : Opening) (a : ℕ) (w : World) (u : Turn) (q : Registry) (group : Nodes) (e : Entry)
    (new : ℕ → List Letter) (op : Op) (awaited : Nodes) (reply : Option Reply) where
  -- the turn in which a hold begins
  pub stepped-begun : (fold after (past_now o a w) u.entries).registry ≡ q
      → ((c : ℕ) → hold_at (fold after (past_now o a w) u.entries) c
      ≡ (if group c then Some (begun_hold o (scene_of o w) a q group e new op awaited reply) else with_effect_on e
      (hold_at (past_now o a w) c)))
      → u.node.replica ≡ (w.node a).replica → doing_of u.node.current ≡ Carries op awaited reply
      → struck_by u.node.current ++ struck_of u.node.queue
      ≡ struck_by (w.node a).current ++ struck_of (w.node a).queue
      → u.node.watch.dead ≡ (w.node a).watch.dead → ((y : ℕ) → mine (sent_to y u.sends) ≡ new y)
      → stepped o a w u (sent a w.links.closed (λ y. mine (sent_to y u.sends)) (scene_of o w).mail)
      ≡ begun_scene o (scene_of o w) a q group e new op awaited reply
  stepped-begun r h v d k n m = same_scene
      (stepped o a w u (sent a w.links.closed (λ y. mine (sent_to y u.sends)) (scene_of o w).mail))
      (begun_scene o (scene_of o w) a q group e new op awaited reply)
      r (fun_ext h) refl (at-itself (scene_of o w).replica a u.node.replica v)
      (ap (at (scene_of o w).doing a) d) (at-itself (scene_of o w).struck a
      (struck_by u.node.current ++ struck_of u.node.queue) k)
      (at-itself (scene_of o w).dead a u.node.watch.dead n)
      (ap (λ (f : ℕ → List Letter). sent a w.links.closed f (scene_of o w).mail) (fun_ext m))

module _ (o : Opening) (w : World) (P : Proper o w) (X : Exclusive o w) (J : JoinsKnown o w) (I : Known o w) where
  abbrev s : Standing
  s = standing o w P X J I

  abbrev S : Scene
  S = scene_of o w

  -- a node that hasn't left may decide where nothing holds
  pub may_decide_now : (a : ℕ) → IsUp o w a → hold_at s a ≡ None → may_decide s a ≡ true
  may_decide_now a up none = and_from _ _ (ap is_none none) (ap not (I.kept.departed a ∙ up.1))

  module _ (a : ℕ) (up : IsUp o w a) (op : Op) (r : Round) (held : IsHeld o.bound (w.node a) op r) where
    abbrev members_now : Nodes
    members_now = (w.node a).replica.members

    -- the node shows the registry
    pub shown : (w.node a).replica ≡ replica_of s.registry a
    shown = shows_now o w P X J I a up op r held

    -- and nothing holds in its group
    pub free_now : hold_at s a ≡ None
    free_now = nobody_holds o w P X J I a up op r held

    -- the members are those of the group that haven't left
    pub is_member : (c : ℕ) → w.links.closed c ≡ false → in_group s.registry a c ≡ true → members_now c ≡ true
    is_member c g m = ap (λ (v : Replica). v.members c) shown
        ∙ and_from _ _ m (ap not (sym (ap (λ (v : Replica). v.told c) shown) ∙ untold o w P X J I a c up g))

    -- whoever is of another group is no member
    pub no_member : (c : ℕ) → in_group s.registry a c ≡ false → members_now c ≡ false
    no_member c m = ap (λ (v : Replica). v.members c) shown ∙ ap (λ (b : Bool). b && not (s.registry.told a c)) m

    -- all of the group are nodes of the world
    pub group_in_world : (c : ℕ) → in_group s.registry a c ≡ true → in_world o c ≡ true
    group_in_world c = go (s.registry.joined a)
      where
        go : (b : Bool) → (if b then s.registry.joined c else c == a) ≡ true → in_world o c ≡ true
        go true g = I.kept.joined_inside c g
        go false g = ap (in_world o) (eqb-true c a g) ∙ up.0

    -- which are below its bound
    pub group_below : (c : ℕ) → in_world o c ≡ true → nat_lt c o.bound ≡ true
    group_below c e = (both (nat_lt c o.bound) (o.nodes c) e).0

    -- an entry that changes the table of the group
    module _ (e : Entry) (ch : Change) (reply : Option Reply)
        (is : (r : Registry) → effect e r ≡ with_table a (changed ch) r) (entry : IsEntryOf a op reply e)
        (idle : doing_of (w.node a).current ≡ Nothing) where
      abbrev q : Registry
      q = effect e s.registry

      -- the group of the node
      abbrev pub written_group : Nodes
      written_group c = in_group q a c

      -- what each node is sent: the change, where it is a member
      abbrev pub applied : ℕ → List Letter
      applied c = if nat_lt c o.bound && members_now c then Letter.Apply ch ∷ [] else []

      same_joined : q.joined ≡ s.registry.joined
      same_joined = ap (λ (r : Registry). r.joined) (is s.registry) ∙ joined-with_table a (changed ch) s.registry

      same_group : (c : ℕ) → in_group q a c ≡ in_group s.registry a c
      same_group c = ap (λ (f : Nodes). if f a then f c else c == a) same_joined

      -- the entry leaves who is joined
      pub written_joined : (c : ℕ) → in_group q a c ≡ false → q.joined c ≡ s.registry.joined c
      written_joined c g = ap (λ (f : Nodes). f c) same_joined

      -- all that is asked of the beginning of a hold
      pub Beginning-written : Beginning o S a q written_group e applied op members_now reply
      Beginning-written = record {
        runs = up;
        idle = idle;
        left = λ d. ap (λ (r : Registry). r.left d) (is s.registry)
            ∙ ap (λ (f : Nodes). f d) (with_table-left s.registry a (changed ch));
        joined = λ c j. I.kept.joined_inside c (sym (ap (λ (f : Nodes). f c) same_joined) ∙ j);
        dead = dead_stays s.registry e;
        entry = entry;
        own = in_group-itself q a;
        free = λ c g. (groups o w P X J I).alike a c (sym (same_group c) ∙ g) ∙ free_now;
        written = λ c g m.
            let of_group : in_group s.registry a c ≡ true = sym (same_group c) ∙ m in
            let member : members_now c ≡ true = is_member c g of_group in
            let below : nat_lt c o.bound ≡ true = group_below c (group_in_world c of_group) in (
              record {
                letter = Letter.Apply ch;
                alone = ap (λ (b : Bool). if b then Letter.Apply ch ∷ [] else []) (and_from _ _ below member);
                carries = refl;
                kills = tt;
                leads = sym (ap (λ (r : Registry). replica_of r c) (is s.registry)
                    ∙ replica_of-written s.registry a ch c (sound o w P X J I).rises of_group);
              },
              member,
            );
        spared = λ c g m.
            let stranger : members_now c ≡ false = no_member c (sym (same_group c) ∙ m) in (
              ap (λ (b : Bool). if nat_lt c o.bound && b then Letter.Apply ch ∷ [] else []) stranger
                  ∙ none (nat_lt c o.bound),
              stranger,
            );
        apart = λ c m. ap (λ (r : Registry). replica_of r c) (is s.registry)
            ∙ replica_of-unwritten s.registry a (changed ch) c (sym (same_group c) ∙ m);
        apart_before = λ c h m k. ap (λ (r : Registry). replica_of r c) (is h.old)
            ∙ replica_of-unwritten h.old a (changed ch) c
            (apart_before s.registry (hold_at s) (groups o w P X J I) a c h k (sym (same_group c) ∙ m));
      }
        where
          none : (b : Bool) → (if b && false then Letter.Apply ch ∷ [] else []) ≡ []
          none true = refl
          none false = refl

      -- so the replicas are still those of the registry after a turn that does this
      pub Kept-written : (u : Turn) → after s e
          ≡ set_hold a (Some (record { node = a; entry = e; old = s.registry })) (with_effect e s)
          → u.entries ≡ e ∷ [] → u.node.replica ≡ (w.node a).replica
          → doing_of u.node.current ≡ Carries op members_now reply
          → struck_by u.node.current ++ struck_of u.node.queue
          ≡ struck_by (w.node a).current ++ struck_of (w.node a).queue
          → u.node.watch.dead ≡ (w.node a).watch.dead
          → u.sends ≡ to_each (nodes_of o.bound members_now) (Letter.Apply ch)
          → Kept o (stepped o a w u (sent a w.links.closed (λ y. mine (sent_to y u.sends)) S.mail))
      Kept-written u begins entries v d k n sends =
          subst (Kept o) (sym (stepped-begun o a w u q written_group e applied op members_now reply
          (ap (λ (es : List Entry). (fold after s es).registry) entries ∙ registry-after s e)
          (λ c. ap (λ (es : List Entry). hold_at (fold after s es) c) entries
          ∙ hold_at-begun s a e begins written_joined c)
          v d k n (λ y. ap (λ (ss : List Send). mine (sent_to y ss)) sends ∙ mine-applied y)))
          (Kept-begun o S a q written_group e applied op members_now reply I.kept Beginning-written)
        where
          mine-applied : (y : ℕ) → mine (sent_to y (to_each (nodes_of o.bound members_now) (Letter.Apply ch)))
              ≡ applied y
          mine-applied y = ap mine (sent_to-all o.bound members_now (Letter.Apply ch) y)
              ∙ go (nat_lt y o.bound && members_now y)
            where
              go : (b : Bool) → mine (if b then Letter.Apply ch ∷ [] else [])
                  ≡ (if b then Letter.Apply ch ∷ [] else [])
              go true = refl
              go false = refl
