-- In the steps of a node, what holds in its group stays its own: so a node that ends a step without writing leaves
-- its group free.
use Rattle.std.proofs.Common.{ℕ, Bool, true, false, ◌==◌, ◌≡◌, Option, Some, None, List, [], ◌∷◌, ◌++◌, refl, sym, ap, ◌∙◌, subst}
use Rattle.std.specs.Prelude.{if◌then◌else◌, fold}
use Rattle.std.specs.List.{list_all}
use Rattle.std.proofs.lemmas.Bool.{eq-eqb, eqb-true, and_parts, and_from}
use Rattle.registry_model.specs.Call.{Reply, Joined, is_grant}
use Rattle.registry_model.specs.Process.{Nodes}
use Rattle.registry_model.specs.Registry.{in_group}
use Rattle.registry_model.specs.History.{Entry, Name, Strike, Join, Done, Exit, Left, Told, Read, effect as effect_of, Hold, Standing, hold_at, is_hold_of, is_holding, set_hold, with_effect, after, standing_of}
use Rattle.protocol_model.specs.Node.{Op, Current, is_writing}
use Rattle.protocol_model.specs.Turn.{Turn, begun, enter}
use Rattle.protocol_model.specs.World.{Opening, in_cluster, World}
use Rattle.moves.proofs.Rules.{Rule, Grants, Denies, Strikes, Admits, Finishes, HearsAnswer, Judges, TakesBack, HearsLock, GivesUpLock, May, turn_by, effect}
use Rattle.protocol_model.specs.Course.{seen}
use Rattle.protocol_model.specs.Headline.{Shows, IsRunning}
use Rattle.moves.proofs.Invariants.{standing_at, Proper, Exclusive, Replicas, JoinsKnown}
use Rattle.replicas.proofs.States.{group_shows}
use Rattle.replicas.proofs.Keeps.{replicas_keeps}
use Rattle.replicas.proofs.Histories.{hold_at-with_effect, hold_at-with, hold_at-without, after-granted, after-denied, after-read}
use Rattle.registry_model.proofs.Holding.{with_effect_on-some}
use Rattle.replicas.proofs.Soundness.{the_hold}
use Rattle.registry_model.proofs.Groups.{in_group-itself}
use Rattle.replicas.proofs.Finishing.{answer_op-parts}
use Rattle.replicas.proofs.Calm.{is_calm, calm_turn}
use Rattle.replicas.proofs.Scenes.{struck_by, struck_of, scene_of, AreStruck}
use Rattle.replicas.proofs.Steps.{past_now, standing_of-effect}
use Rattle.replicas.proofs.Known.{Known, replicas_known}

-- what holds in the group of a, if anything, is an operation of a
abbrev pub IsOwn : ℕ → Standing → Type 0
IsOwn a s = (h : Hold) → hold_at s a ≡ Some h → h.node ≡ a

-- an operation that begins to hold with this entry is one of a
abbrev pub is_by : ℕ → Entry → Bool
is_by a (Name n k call reply) = n == a
is_by a (Strike p) = p.node == a
is_by a (Join j k m Joined) = m == a
is_by a _ = true

own_begun : (a n : ℕ) (e : Entry) (s : Standing) → n ≡ a
    → IsOwn a (set_hold n (Some (record { node = n; entry = e; old = s.registry })) (with_effect e s))
own_begun a n e s i h k = subst (λ (n : ℕ). hold_at
    (set_hold n (Some (record { node = n; entry = e; old = s.registry })) (with_effect e s)) a ≡ Some h → h.node ≡ a)
    (sym i)
    (λ k. sym (ap (λ (x : Option Hold). (the_hold h x).node)
    (sym (hold_at-with a (Some (record { node = a; entry = e; old = s.registry })) (with_effect e s) a
    (in_group-itself (effect_of e s.registry) a)) ∙ k))) k

own_pushed : (a : ℕ) (e : Entry) (s : Standing) → (effect_of e s.registry).joined a ≡ s.registry.joined a → IsOwn a s
    → IsOwn a (with_effect e s)
own_pushed a e s j own h k = let x : (g : Hold) × (hold_at s a ≡ Some g)
    × (record g { old = effect_of e g.old } ≡ h) =
    with_effect_on-some e (hold_at s a) h (sym (hold_at-with_effect e s a j) ∙ k) in
    sym (ap (λ (y : Hold). y.node) x.2) ∙ own x.0 x.1

own_after : (a : ℕ) (s : Standing) (e : Entry) → is_by a e ≡ true → IsOwn a s → IsOwn a (after s e)
own_after a s (Name n k call reply) i own = go (is_grant reply) refl
  where
    go : (b : Bool) → is_grant reply ≡ b → IsOwn a (after s (Name n k call reply))
    go true g = subst (IsOwn a) (sym (after-granted s n k call reply g))
        (own_begun a n (Name n k call reply) s (eqb-true n a i))
    go false g = subst (IsOwn a) (sym (after-denied s n k call reply g)) own
own_after a s (Strike p) i own = own_begun a p.node (Strike p) s (eqb-true p.node a i)
own_after a s (Join j k m Joined) i own = own_begun a m (Join j k m Joined) s (eqb-true m a i)
own_after a s (Join j k m reply) i own = own_pushed a (Join j k m reply) s refl own
own_after a s (Done n) i own = go (is_holding s n)
  where
    done : (b : Bool) → in_group s.registry n a ≡ b → IsOwn a (set_hold n None s)
    done true g h k = cc (hold_at-with n None s a g, k)
    done false g h k = own h (sym (hold_at-without n None s a g) ∙ k)

    go : (b : Bool) → IsOwn a (if b then set_hold n None s else s)
    go true = done (in_group s.registry n a) refl
    go false = own
own_after a s (Exit p) i own = own_pushed a (Exit p) s refl own
own_after a s (Left d) i own = own_pushed a (Left d) s refl own
own_after a s (Told n d) i own = own_pushed a (Told n d) s refl own
own_after a s (Read n look reply) i own = subst (IsOwn a) (sym (after-read s n look reply)) own

own_fold : (a : ℕ) (es : List Entry) (s : Standing) → list_all (is_by a) es ≡ true → IsOwn a s
    → IsOwn a (fold after s es)
own_fold a [] s i own = own
own_fold a (e ∷ es) s i own =
    let parts : (is_by a e ≡ true) × (list_all (is_by a) es ≡ true) =
    and_parts (is_by a e) (list_all (is_by a) es) i in
    own_fold a es (after s e) parts.1 (own_after a s e parts.0 own)

module _ (o : Opening) (a : ℕ) (w : World) (I : Known o w) where
  -- whatever node a enters begins no operation of another
  entries_by : (r : Rule) → is_calm r ≡ false → May o a w r → list_all (is_by a) (turn_by o a w r).entries ≡ true
  entries_by (Grants k call r) c m = and_from _ _ (eq-eqb a a refl) refl
  entries_by (Denies k call r) c m = and_from _ _ (eq-eqb a a refl) refl
  entries_by (Strikes p r) c m = and_from _ _
      (eq-eqb p.node a
      (subst (λ (x : Current). AreStruck o (scene_of o w) a (struck_by x ++ struck_of (w.node a).queue))
      m.tested.current (I.kept.struck a)).0.0) refl
  entries_by (Admits j pairs r) c m = and_from _ _ (eq-eqb a a refl) refl
  entries_by (Finishes op asked awaited reply) c m =
      ap (λ (u : Turn). list_all (is_by a) u.entries)
      (answer_op-parts o.bound a op reply (enter (Done a) (begun (w.node a))))
  entries_by (HearsAnswer f id granted op r) c m = cc
  entries_by (Judges f id p) c m = cc
  entries_by (TakesBack f id p ack) c m = cc
  entries_by (HearsLock f id granted d r) c m = cc
  entries_by (GivesUpLock d r granted) c m = cc
  entries_by _ c m = refl

  -- what holds in the group of a node stays its own in its steps
  pub own_keeps : (r : Rule) → May o a w r → IsOwn a (past_now o a w)
      → IsOwn a (standing_of (in_cluster o) (effect o a r w).history)
  own_keeps r m own = subst (IsOwn a) (sym (standing_of-effect o a w r)) (go (is_calm r) refl)
    where
      go : (b : Bool) → is_calm r ≡ b → IsOwn a (fold after (past_now o a w) (turn_by o a w r).entries)
      go true e = subst (IsOwn a) (sym (calm_turn o a w r e m).standing) own
      go false e = own_fold a (turn_by o a w r).entries (past_now o a w) (entries_by r e m) own

-- what a node writes is its own
pub own_writes : (o : Opening) (w : World) (a : ℕ) → Replicas o w → is_writing (w.node a).current ≡ true
    → IsOwn a (standing_at o w)
own_writes o w a R e h k = eqb-true h.node a (ap (is_hold_of a) (sym k) ∙ R.holds a ∙ e)

-- where an operation is done every running node of its group has carried it out
pub written : (o : Opening) (w : World) (P : Proper o w) (X : Exclusive o w) (J : JoinsKnown o w) (I : Known o w)
    (a : ℕ)
    (op : Op) (asked awaited : Nodes) (reply : Option Reply) → May o a w (Finishes op asked awaited reply)
    → (c : ℕ) → in_group (standing_at o (effect o a (Finishes op asked awaited reply) w)).registry a c ≡ true
    → IsRunning o (standing_at o (effect o a (Finishes op asked awaited reply) w)) c
    → Shows (standing_at o (effect o a (Finishes op asked awaited reply) w)).registry c
    (seen o (effect o a (Finishes op asked awaited reply) w))
written o w P X J I a op asked awaited reply m =
    group_shows o (effect o a (Finishes op asked awaited reply) w)
    (replicas_keeps o a w (Finishes op asked awaited reply) P X J I m) a
    (own_keeps o a w I (Finishes op asked awaited reply) m
    (own_writes o w a (replicas_known o w I) (ap is_writing m.tested.0)))
    (ap (λ (b : Bool). is_writing
    (if b then (turn_by o a w (Finishes op asked awaited reply)).node else w.node a).current) (eq-eqb a a refl))
