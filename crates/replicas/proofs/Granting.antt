-- The rules by which a name call is granted, and a dead process is struck.
use Rattle.std.proofs.Common.{ℕ, Bool, true, ◌≡◌, Some, None, ◌++◌, refl, sym, ap, ◌∙◌, subst}
use Rattle.std.specs.Prelude.{if◌then◌else◌}
use Rattle.std.proofs.lemmas.Bool.{and_from}
use Rattle.std.proofs.lemmas.Slice.Eq.{bytes_eq-Decides}
use Rattle.registry_model.specs.Process.{Process}
use Rattle.registry_model.specs.Table.{StrikeOwner, changed}
use Rattle.registry_model.specs.Call.{NameCall, Reply, Pid, Names, Notices, is_reply, change_of, reply_to}
use Rattle.registry_model.specs.Registry.{with_table, view, members, Replica}
use Rattle.registry_model.specs.History.{Name, Strike, Standing, set_hold, with_effect}
use Rattle.registry_model.specs.Legal.{is_legal, may_decide}
use Rattle.protocol_model.specs.Round.{Round}
use Rattle.protocol_model.specs.Node.{Op, Current}
use Rattle.protocol_model.specs.World.{Opening, in_cluster, World}
use Rattle.moves.proofs.Rules.{Grants, Strikes, IsHeld, May, turn_by, effect}
use Rattle.moves.proofs.Invariants.{IsUp, Proper, Exclusive, JoinsKnown}
use Rattle.registry_model.proofs.Lists.{is_process-same, are_notices-same}
use Rattle.replicas.proofs.Histories.{IsLegal-append, after-granted}
use Rattle.replicas.proofs.Scenes.{doing_of, struck_by, struck_of, scene_of, AreStruck, Kept}
use Rattle.replicas.proofs.Steps.{scene_of-effect}
use Rattle.replicas.proofs.Bridge.{standing}
use Rattle.replicas.proofs.Known.{Known}
use Rattle.replicas.proofs.Deciding.{may_decide_now, shown, free_now, Kept-written}

-- a reply is itself
pub is_reply-same : (x : Reply) → is_reply x x ≡ true
is_reply-same (Pid p) = is_process-same p
is_reply-same (Names xs) = (bytes_eq-Decides xs xs).1 refl
is_reply-same (Notices fs) = are_notices-same fs
is_reply-same _ = refl

module _ (o : Opening) (w : World) (P : Proper o w) (X : Exclusive o w) (J : JoinsKnown o w) (I : Known o w) where
  abbrev s : Standing
  s = standing o w P X J I

  -- the reply that a held round gives is the one that the registry gives
  pub legal_reply : (a : ℕ) (up : IsUp o w a) (op : Op) (r : Round) → IsHeld o.bound (w.node a) op r
      → (k : ℕ) (call : NameCall)
      → is_legal s (Name a k call (reply_to (w.node a).replica.members (w.node a).replica.table call)) ≡ true
  legal_reply a up op r held k call = and_from _ _
      (may_decide_now o w P X J I a up (free_now o w P X J I a up op r held))
      (ap (λ (v : Replica). is_reply (reply_to v.members v.table call)
      (reply_to (members s.registry a) (view s.registry a) call)) (shown o w P X J I a up op r held)
      ∙ is_reply-same (reply_to (members s.registry a) (view s.registry a) call))

  module _ (a : ℕ) where
    -- a granted name call
    pub Known-granted : (k : ℕ) (call : NameCall) (r : Round) → May o a w (Grants k call r)
        → Known o (effect o a (Grants k call r) w)
    Known-granted k call r m =
        let up : IsUp o w a = (m.inside, m.running) in
        let held : IsHeld o.bound (w.node a) (Op.Name k call) r = m.tested.0 in
        let reply : Reply = reply_to (w.node a).replica.members (w.node a).replica.table call in
        record {
          legal = IsLegal-append (in_cluster o) w.history (Name a k call reply) I.legal
              (legal_reply a up (Op.Name k call) r held k call);
          kept = subst (Kept o) (sym (scene_of-effect o a w (Grants k call r) refl))
              (Kept-written o w P X J I a up (Op.Name k call) r held (Name a k call reply) (change_of call)
              (Some reply)
              (λ x. ap (λ (b : Bool). if b then with_table a (changed (change_of call)) x else x) m.tested.1)
              (refl, m.tested.1) (ap doing_of held.current)
              (turn_by o a w (Grants k call r)) (after-granted s a k call reply m.tested.1)
              refl refl refl (sym (ap (λ (c : Current). struck_by c ++ struck_of (w.node a).queue) held.current)) refl
              refl);
        }

    -- a strike
    pub Known-struck : (p : Process) (r : Round) → May o a w (Strikes p r) → Known o (effect o a (Strikes p r) w)
    Known-struck p r m = go same
      where
        up : IsUp o w a
        up = (m.inside, m.running)

        held : IsHeld o.bound (w.node a) (Op.Strike p) r
        held = m.tested

        owed : (p.node ≡ a) × (s.registry.dead p ≡ true)
        owed = (subst (λ (c : Current). AreStruck o (scene_of o w) a (struck_by c ++ struck_of (w.node a).queue))
            held.current (I.kept.struck a)).0

        same : p.node ≡ a
        same = owed.0

        go : p.node ≡ a → Known o (effect o a (Strikes p r) w)
        go i = record {
          legal = IsLegal-append (in_cluster o) w.history (Strike p) I.legal
              (and_from _ _ (ap (may_decide s) i ∙ may_decide_now o w P X J I a up
              (free_now o w P X J I a up (Op.Strike p) r held)) owed.1);
          kept = subst (Kept o) (sym (scene_of-effect o a w (Strikes p r) refl))
              (Kept-written o w P X J I a up (Op.Strike p) r held (Strike p) (StrikeOwner p) None
              (λ x. ap (λ (n : ℕ). with_table n (changed (StrikeOwner p)) x) i) (refl, i) (ap doing_of held.current)
              (turn_by o a w (Strikes p r))
              (ap (λ (n : ℕ). set_hold n (Some (record { node = n; entry = Strike p; old = s.registry }))
              (with_effect (Strike p) s)) i)
              refl refl refl (sym (ap (λ (c : Current). struck_by c ++ struck_of (w.node a).queue) held.current)) refl
              refl);
        }
