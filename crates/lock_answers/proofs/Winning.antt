-- Where a chain of rules that goes on with open calls answers `true` to a try, it has asked somebody who is a member.
use Rattle.std.proofs.Common.{ℕ, Bool, true, false, ◌==◌, ◌≡◌, ◌<◌, Some, List, [], ◌∷◌, refl, sym, ap, ◌∙◌, subst, inl, inr}
use Rattle.std.specs.Prelude.{not, ◌&&◌, ◌||◌, if◌then◌else◌}
use Rattle.std.specs.List.{list_all}
use Rattle.std.proofs.lemmas.List.Folds.{list_any-append}
use Rattle.std.proofs.lemmas.Bool.{eqb-true}
use Rattle.registry_model.specs.Process.{Process, Nodes}
use Rattle.registry_model.specs.Call.{True}
use Rattle.registry_model.specs.Registry.{Replica}
use Rattle.protocol_model.specs.Round.{Round, is_empty, asked, granted, is_held, Held, GiveBack, ending}
use Rattle.protocol_model.specs.Letter.{is_id}
use Rattle.protocol_model.specs.Node.{Node, LockPhase, LockCall, call_of}
use Rattle.protocol_model.specs.Event.{is_waiting_call}
use Rattle.protocol_model.specs.ClientLocks.{Try}
use Rattle.protocol_model.specs.World.{Opening, World}
use Rattle.protocol_model.proofs.Ids.{is_id_self}
use Rattle.registry_model.proofs.Updates.{at_same}
use Rattle.moves.proofs.Indices.{both, some_of, not_true}
use Rattle.moves.proofs.Rules
use Rattle.moves.proofs.Rules.{Rule, IsOpen}
use Rattle.walk.proofs.ChainKinds.{Hearing, suits}
use Rattle.walk.proofs.Killing.{admitted-members}
use Rattle.walk.proofs.Orders.{effect-node, ordered_keeps}
use Rattle.leftovers.proofs.RoundNumbers.{is_tried}
use Rattle.leftovers.proofs.Calls.{home_of_call}
use Rattle.leftovers.proofs.Clients.{call_at}
use Rattle.leftovers.proofs.Growing.{Replying, replying_keeps}
use Rattle.leftovers.proofs.Answering.{is_true, any_true, not_true_answers}
use Rattle.leftovers.proofs.Ongoing.{is_deleting, tried_in}
use Rattle.leftovers.proofs.Tries.{IsTryOf, Fits, fits_chain}
use Rattle.leftovers.proofs.Grounds.{Base, base_keeps, wide}
use Rattle.leftovers.proofs.Parts.{replica_by, parts}
use Rattle.leftovers.proofs.Near.{Near, NearIn, is_near, near_keeps}
use Rattle.lock_answers.proofs.Clear.{ClearIn, Clear, granted_asked, is_notice, clear_keeps}

-- a round that is held has a grant of a node that isn't down
pub held_some : (n : ℕ) (members : Nodes) (r : Round) → ending n members r ≡ Held
    → (x : ℕ) × (x < n) × (granted r x ≡ true)
held_some n members r e = some_of n (granted r) (not_true (is_empty n (granted r))
    (both _ (not (is_empty n (granted r))) (go (is_held n members r) e)).1)
  where
    go : (b : Bool) → (if b then Held else GiveBack (granted r)) ≡ Held → b ≡ true
    go true h = refl
    go false h = cc

-- an open call that asks by this round is a try, and not one that waits
pub asks_by : (s : Try) (c : LockCall) (r : Round) (x : ℕ) → IsTryOf s c → c.phase ≡ LockPhase.Asking r
    → asked r x ≡ true → s.asks x ≡ true
asks_by s c r x T e h = elim T.asks [
  | inl waits ↦ absurd (cc (ap is_waiting_call e, waits))
  | inr same ↦ (both (is_id s.id c.id) (s.asks x) (sym (same c.id x) ∙ tried)).1
]
  where
    tried : is_tried c.id x c ≡ true
    tried = ap (tried_in c.id c.id x) e ∙ rw (is_id_self c.id, h) refl

-- what is known of a world on the way
pub record Ground (o : Opening) (w : World) : Type 0 where
  pub base : Base o w
  pub near : Near w
  pub clear : Clear w
  pub replying : Replying w

-- no notice is read
abbrev pub are_quiet : List Rule → Bool
are_quiet rs = list_all (λ r. not (is_notice r)) rs

module _ (o : Opening) (a : ℕ) where
  ground_keeps : (w : World) (r : Rule) → is_notice r ≡ false → Rules.May o a w r → Ground o w
      → Ground o (Rules.effect o a r w)
  ground_keeps w r quiet m G = record {
    base = base_keeps o a w r G.base m;
    near = near_keeps o a w G.base r m G.near;
    clear = clear_keeps o a w G.base r quiet m G.near G.clear;
    replying = replying_keeps o a w r m G.replying;
  }

  -- members stay, but for those whose departure is told
  member_by : (w : World) → Ground o w → (r : Rule) → is_notice r ≡ false → Rules.May o a w r → (x : ℕ)
      → (w.node a).replica.members x ≡ true → (replica_by a r (w.node a).replica).members x ≡ true
  member_by w G (Rules.IsTold f) q m x h = cc
  member_by w G (Rules.IsAdmitted f j settled) q m x h = admitted-members a j settled (w.node a).replica x h
  member_by w G (Rules.IsWelcomed f k members pairs told fate) q m x h =
      wide o w G.base f a k members pairs told fate m.front.1.0 m.inside m.running m.tested.0 m.tested.1 m.front.1.1 x
      h
  member_by w G r q m x h = h

  member_rule : (w : World) → Ground o w → (r : Rule) → is_notice r ≡ false → Rules.May o a w r → (x : ℕ)
      → (w.node a).replica.members x ≡ true → ((Rules.effect o a r w).node a).replica.members x ≡ true
  member_rule w G r q m x h = ap (λ (f : ℕ → Node). (f a).replica.members x) (effect-node o a r w)
      ∙ ap (λ (n : Node). n.replica.members x) (at_same w.node a (Rules.turn_by o a w r).node)
      ∙ ap (λ (v : Replica). v.members x) (parts o a w r).replica ∙ member_by w G r q m x h

  -- and behind a chain of such rules
  pub ground_chain : (rs : List Rule) (w : World) → are_quiet rs ≡ true → Rules.MayAll o a rs w → Ground o w
      → Ground o (Rules.effects o a rs w)
  ground_chain [] w q m G = G
  ground_chain (r ∷ rs) w q m G =
      let parts_q : (not (is_notice r) ≡ true) × (are_quiet rs ≡ true) = both (not (is_notice r)) (are_quiet rs) q in
      ground_chain rs (Rules.effect o a r w) parts_q.1 m.1 (ground_keeps w r (not_true (is_notice r) parts_q.0) m.0 G)

  members_chain : (rs : List Rule) (w : World) → Ground o w → are_quiet rs ≡ true → Rules.MayAll o a rs w → (x : ℕ)
      → (w.node a).replica.members x ≡ true → ((Rules.effects o a rs w).node a).replica.members x ≡ true
  members_chain [] w G q m x h = h
  members_chain (r ∷ rs) w G q m x h =
      let parts_q : (not (is_notice r) ≡ true) × (are_quiet rs ≡ true) = both (not (is_notice r)) (are_quiet rs) q in
      let still : is_notice r ≡ false = not_true (is_notice r) parts_q.0 in
      members_chain rs (Rules.effect o a r w) (ground_keeps w r still m.0 G) parts_q.1 m.1 x
      (member_rule w G r still m.0 x h)

  -- a member of node a, which is one that the try asks
  abbrev pub AsksMember : World → Try → Type 0
  AsksMember w s = (x : ℕ) × (s.asks x ≡ true) × ((w.node a).replica.members x ≡ true)

  module _ (p : Process) (s : Try) (home : p.node ≡ a) where
    -- the open call that has the number of the try is its call
    pub own_call : (w : World) → Ground o w → Fits w p (Some s) → (c : LockCall) (now : LockPhase)
        → IsOpen (w.node a) c now → c.number ≡ s.number → (is_deleting c.phase ≡ false) × IsTryOf s c
    own_call w G F c now e n =
        let here : c.holder.node ≡ a = home_of_call a c.holder (w.node a).calls c (G.base.ordered a) e.call in
        let found : call_at w c.holder ≡ Some c = ap (λ (i : ℕ). call_of c.holder (w.node i).calls) here ∙ e.call in
        let only : (c.holder ≡ p) × (is_deleting c.phase ≡ false) =
        F.alone s refl c.holder c (here ∙ sym home) found n in
        let known : (t : Try) × ((Some s ≡ Some t) × IsTryOf t c) =
        F.own c (subst (λ (q : Process). call_at w q ≡ Some c) only.0 found) only.1 in
        let same : s ≡ known.0 = cc known.1.0 in
        (only.1, subst (λ (t : Try). IsTryOf t c) (sym same) known.1.1)

    -- a call that is won
    won_here : (w : World) → Ground o w → Fits w p (Some s) → (c : LockCall) (r : Round)
        → Rules.May o a w (Rules.WinsLock c r) → c.number ≡ s.number → AsksMember w s
    won_here w G F c r m n = (x.0, asks_by s c r x.0 T m.tested.0.phase asks, member)
      where
        x : (x : ℕ) × (x < o.bound) × (granted r x ≡ true)
        x = held_some o.bound (asked r) r m.tested.2

        T : IsTryOf s c
        T = (own_call w G F c (LockPhase.Asking r) m.tested.0 n).1

        asks : asked r x.0 ≡ true
        asks = granted_asked r x.0 x.2

        near : is_near (w.node a).replica x.0 ≡ true
        near = subst (NearIn (w.node a).replica) m.tested.0.phase (G.near a c.holder c m.tested.0.call) x.0 asks

        clear : (w.node a).replica.told x.0 ≡ true → ⊥
        clear h = cc (
          subst (ClearIn (w.node a).replica.told) m.tested.0.phase (G.clear a c.holder c m.tested.0.call) x.0 h,
          x.2,
        )

        member : (w.node a).replica.members x.0 ≡ true
        member = go ((w.node a).replica.members x.0) ((w.node a).replica.told x.0) clear near
          where
            go : (m t : Bool) → (t ≡ true → ⊥) → (m || t) ≡ true → m ≡ true
            go true t f h = refl
            go false true f h = absurd (f refl)
            go false false f h = cc

    -- a deletion has another number
    deleted : (w : World) → Ground o w → Fits w p (Some s) → (c : LockCall) (owing : Nodes)
        → IsOpen (w.node a) c (LockPhase.Deleting owing)
        → any_true p.node s.number (record { node = a; number = c.number; reply = True } ∷ []) ≡ true → AsksMember w s
    deleted w G F c owing open_call e = go (a == p.node) (c.number == s.number) refl e
      where
        go : (b n : Bool) → (c.number == s.number) ≡ n → (((b && n) && true) || false) ≡ true → AsksMember w s
        go true true i k = absurd (cc (
          (own_call w G F c (LockPhase.Deleting owing) open_call (eqb-true c.number s.number i)).0,
          ap is_deleting open_call.phase,
        ))
        go true false i k = cc
        go false n i k = cc

    -- the answer of one rule
    by_rule : (w : World) → Ground o w → Fits w p (Some s) → (r : Rule) → suits Hearing r ≡ true → Rules.May o a w r
        → any_true p.node s.number (Rules.turn_by o a w r).answers ≡ true → AsksMember w s
    by_rule w G F (Rules.WinsLock c r) h m e =
        won_here w G F c r m (numbers (a == p.node) (c.number == s.number) refl e)
      where
        numbers : (b n : Bool) → (c.number == s.number) ≡ n → (((b && n) && true) || false) ≡ true
            → c.number ≡ s.number
        numbers true true i k = eqb-true c.number s.number i
        numbers true false i k = cc
        numbers false n i k = cc
    by_rule w G F (Rules.EndsDeletion f c owing) h m e = deleted w G F c owing m.tested.1 e
    by_rule w G F (Rules.EndsDeletionDown d c owing) h m e = deleted w G F c owing m.tested.1 e
    by_rule w G F (Rules.DeletesNothing c) h m e = cc
    by_rule w G F r h m e = cc (not_true_answers o a w p.node s.number r refl m G.replying, e)

    -- and of a chain
    pub chain_won : (rs : List Rule) (w : World) → Ground o w → Fits w p (Some s) → list_all (suits Hearing) rs ≡ true
        → are_quiet rs ≡ true → Rules.MayAll o a rs w → any_true p.node s.number (Rules.answers_by o a rs w) ≡ true
        → AsksMember (Rules.effects o a rs w) s
    chain_won [] w G F h q m e = cc
    chain_won (r ∷ rs) w G F h q m e = go (any_true p.node s.number (Rules.turn_by o a w r).answers) refl
        (sym (list_any-append (is_true p.node s.number) (Rules.turn_by o a w r).answers
        (Rules.answers_by o a rs (Rules.effect o a r w))) ∙ e) (chain_won rs (Rules.effect o a r w))
      where
        After : Type 0
        After = Ground o (Rules.effect o a r w) → Fits (Rules.effect o a r w) p (Some s)
            → list_all (suits Hearing) rs ≡ true → are_quiet rs ≡ true → Rules.MayAll o a rs (Rules.effect o a r w)
            → any_true p.node s.number (Rules.answers_by o a rs (Rules.effect o a r w)) ≡ true
            → AsksMember (Rules.effects o a rs (Rules.effect o a r w)) s

        parts_h : (suits Hearing r ≡ true) × (list_all (suits Hearing) rs ≡ true)
        parts_h = both (suits Hearing r) (list_all (suits Hearing) rs) h

        parts_q : (not (is_notice r) ≡ true) × (are_quiet rs ≡ true)
        parts_q = both (not (is_notice r)) (are_quiet rs) q

        still : is_notice r ≡ false
        still = not_true (is_notice r) parts_q.0

        next : Ground o (Rules.effect o a r w)
        next = ground_keeps w r still m.0 G

        go : (b : Bool) → any_true p.node s.number (Rules.turn_by o a w r).answers ≡ b
            → (b || any_true p.node s.number (Rules.answers_by o a rs (Rules.effect o a r w))) ≡ true
            → After → AsksMember (Rules.effects o a (r ∷ rs) w) s
        go true i k more =
            let one : AsksMember w s = by_rule w G F r parts_h.0 m.0 i in
            (one.0, one.1, members_chain (r ∷ rs) w G q m one.0 one.2)
        go false i k more = more next
            (fits_chain o a (ordered_keeps o) (r ∷ []) w G.base.num p (Some s) (rw parts_h.0 refl) (m.0, tt)
            G.base.ordered G.replying F) parts_h.1 parts_q.1 m.1 k
