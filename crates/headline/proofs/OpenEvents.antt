-- Behind every list of events each accepted lock call is answered or open, where its process isn't dead.
use Rattle.std.proofs.Common.{ℕ, zero, suc, Bool, true, false, ◌==◌, ◌≡◌, ◌+◌, ◌-◌, ◌<◌, Some, None, List, [], ◌∷◌, ◌++◌, length, refl, sym, ap, ◌∙◌, subst, inl, inr, arith}
use mathlib.Core.Logic.{◌⊎◌}
use Rattle.std.specs.Prelude.{◌&&◌, if◌then◌else◌, Contains}
use Rattle.std.specs.List.{slice_get}
use Rattle.std.proofs.lemmas.Bool.{ne_eqb}
use Rattle.std.proofs.lemmas.List.{append-nil, append_assoc}
use Rattle.std.proofs.lemmas.List.Elements.{Contains-append_right}
use Rattle.std.proofs.lemmas.Grind.{flat_map-append}
use Rattle.registry_model.specs.Process.{Process}
use Rattle.registry_model.specs.Call.{Reply, True, False}
use Rattle.registry_model.proofs.Lists.{Contains-front}
use Rattle.registry_model.proofs.Updates.{by_test, at_same}
use Rattle.protocol_model.specs.Node.{Node, LockPhase, LockCall, Times, call_of, put_call, targets}
use Rattle.protocol_model.specs.Round.{begin}
use Rattle.protocol_model.specs.Client.{in_phase, new_call}
use Rattle.protocol_model.specs.Event.{Call, Event, Answer}
use Rattle.protocol_model.specs.Turn.{Turn}
use Rattle.protocol_model.specs.Fit.{is_numbered, calls_in}
use Rattle.protocol_model.specs.Answers.{answer_to, holder_in, calls_at}
use Rattle.protocol_model.specs.World.{Opening, World, WorldEvent, At, Deliver, place, opening_world, refusal, turn_of, accepted}
use Rattle.protocol_model.specs.Course.{Played, played, answers_of}
use Rattle.protocol_model.proofs.Waiting.{accepted-node}
use Rattle.moves.proofs.Rules
use Rattle.moves.proofs.Rules.{Rule}
use Rattle.walk.proofs.Calls.{call_of-put_call}
use Rattle.walk.proofs.Orders.{ordered_keeps}
use Rattle.walk.proofs.Walk.{OrderedWalk, InOrder, walked_in_order}
use Rattle.fitting.proofs.Chains
use Rattle.fitting.proofs.Replies.{answers_given}
use Rattle.fitting.proofs.Theorem
use Rattle.headline.specs.Clauses.{events, world}
use Rattle.headline.proofs.Together.{Whole, whole_opens, widens}
use Rattle.headline.proofs.Story.{ground}
use Rattle.headline.proofs.Callers.{IsCalledBy, calls_push}
use Rattle.headline.proofs.OpenCalls.{Stands, Answered, Waits, stands_more, stands_chain, node_behind}

-- what is found in one list behind another is found in one of them
slice_get-split : {A : Type 0} (xs ys : List A) (i : ℕ) (x : A) → slice_get (xs ++ ys) i ≡ Some x
    → (slice_get xs i ≡ Some x) ⊎ ((j : ℕ) × (slice_get ys j ≡ Some x) × (i ≡ length xs + j))
slice_get-split [] ys i x e = inr (i, e, omega arith)
slice_get-split (y ∷ xs) ys zero x e = inl e
slice_get-split (y ∷ xs) ys (suc i) x e = elim (slice_get-split xs ys i x e) [
  | inl f ↦ inl f
  | inr f ↦ inr (f.0, f.1, omega (arith, f.2))
]

-- a list of one item at most
only_one : {A : Type 0} (b : Bool) (y x : A) (j : ℕ) → slice_get (if b then y ∷ [] else []) j ≡ Some x
    → (y ≡ x) × (j ≡ 0)
only_one true y x zero e = (cc e, refl)
only_one true y x (suc j) e = cc
only_one false y x j e = cc

-- so stands each accepted lock call
abbrev pub AllStand : World → List Played → Type 0
AllStand w ps = (a : ℕ) (p : Process) (k : ℕ) → 0 < k → IsCalledBy (calls_at a ps) k p
    → Stands a p k (answers_of ps) (w.node a)

module _ (o : Opening) (w : World) (ps : List Played) (W : Whole o w)
    (count : (a : ℕ) → (w.node a).last_call ≡ length (calls_at a ps)) where
  -- how call k of q stands at the place of an event behind it
  abbrev After : WorldEvent → Process → ℕ → Type 0
  After x q k = Stands (place x) q k (answers_of ps ++ (turn_of o w x).answers) ((accepted o w x).node (place x))

  -- how it stands behind the chain of an event
  abbrev Behind : WorldEvent → List Rule → Process → ℕ → Type 0
  Behind x rs q k = Stands (place x) q k (answers_of ps ++ Rules.answers_by o (place x) rs w)
      ((Rules.effects o (place x) rs w).node (place x))

  by_walk : (x : WorldEvent) (H : OrderedWalk o w x) (q : Process) (k : ℕ)
      → Behind x (Rules.first_by o (place x) w x ++ H.walk.rest) q k → After x q k
  by_walk x H q k S =
      subst (λ (v : World). Stands (place x) q k (answers_of ps ++ (turn_of o w x).answers) (v.node (place x))) H.walk.world
      (subst (λ (ss : List Answer). Stands (place x) q k (answers_of ps ++ ss)
      ((Rules.effects o (place x) (Rules.first_by o (place x) w x ++ H.walk.rest) w).node (place x))) H.walk.answers S)

  -- a call of before
  old : (x : WorldEvent) (H : OrderedWalk o w x) (q : Process) (k : ℕ)
      → Stands (place x) q k (answers_of ps) (w.node (place x)) → After x q k
  old x H q k S = by_walk x H q k (stands_chain o (place x) q k (Rules.first_by o (place x) w x ++ H.walk.rest) w
      (answers_of ps) W.ordered H.walk.may S)

  -- a new one, call k of a, of q: the rule s begins it
  module _ (a : ℕ) (q : Process) (k : ℕ) where
    abbrev v : World
    v = Rules.effect o a Rules.CallsLock w

    abbrev Begun : Rule → Type 0
    Begun s = Stands a q k (answers_of ps ++ (Rules.turn_by o a v s).answers) (Rules.turn_by o a v s).node

    on : (s : Rule) (later : List Rule) → Rules.MayAll o a (Rules.CallsLock ∷ s ∷ later) w → Begun s
        → Stands a q k (answers_of ps ++ Rules.answers_by o a (Rules.CallsLock ∷ s ∷ later) w)
        ((Rules.effects o a (Rules.CallsLock ∷ s ∷ later) w).node a)
    on s later m B =
        subst (λ (ss : List Answer). Stands a q k ss ((Rules.effects o a later (Rules.effect o a s v)).node a))
        (append_assoc (answers_of ps) (Rules.turn_by o a v s).answers
        (Rules.answers_by o a later (Rules.effect o a s v)))
        (stands_chain o a q k later (Rules.effect o a s v) (answers_of ps ++ (Rules.turn_by o a v s).answers)
        (ordered_keeps o a v s (ordered_keeps o a w Rules.CallsLock W.ordered m.0) m.1.0) m.1.1
        (subst (Stands a q k (answers_of ps ++ (Rules.turn_by o a v s).answers)) (sym (node_behind o a v s)) B))

    -- it is open
    opens : (s : Rule) (c : LockCall) → (Rules.turn_by o a v s).node.calls ≡ put_call c (v.node a).calls
        → c.holder ≡ q → c.number ≡ k → Begun s
    opens s c calls holder number = Waits c (ap (call_of q) calls
        ∙ subst (λ (p : Process). call_of p (put_call c (v.node a).calls) ≡ Some c) holder
        (call_of-put_call c (v.node a).calls)) number

    -- or it is answered at once
    ends : (s : Rule) (c : LockCall) (reply : Reply)
        → (Rules.turn_by o a v s).answers ≡ answer_to a c.number reply ∷ [] → c.number ≡ k → Begun s
    ends s c reply answers number = Answered (answer_to a c.number reply)
        (Contains-append_right (answers_of ps) (Rules.turn_by o a v s).answers (answer_to a c.number reply)
        (subst (λ (ss : List Answer). Contains ss (answer_to a c.number reply)) (sym answers)
        (Contains-front (answer_to a c.number reply) []))) refl number

  -- a lock call takes its number and begins
  fresh : (a : ℕ) (call : Call) (q : Process) (k : ℕ) (H : OrderedWalk o w (At a (Event.Calling call)))
      → holder_in call ≡ Some q → (w.node a).last_call + 1 ≡ k → After (At a (Event.Calling call)) q k
  fresh a (Call.SetLock p r z target times) q k H of number = by_walk x H q k
      (subst Goal (sym h.1.1.0) (elim h.1.1.1 [
        | inl e ↦ subst (λ (s : Rule). Goal (s ∷ h.1.0)) (sym e) (λ m. on a q k (Rules.AsksLock new) h.1.0 m
            (opens a q k (Rules.AsksLock new)
            (in_phase (LockPhase.Asking (begin o.bound (targets ((v a q k).node a).replica.members target))) new) refl
            (cc of) number))
        | inr e ↦ subst (λ (s : Rule). Goal (s ∷ h.1.0)) (sym e) (λ m. on a q k (Rules.FailsLock new) h.1.0 m
            (ends a q k (Rules.FailsLock new) new False refl number))
      ]) H.walk.may)
    where
      x : WorldEvent
      x = At a (Event.Calling (Call.SetLock p r z target times))

      new : LockCall
      new = new_call o.bound a ((w.node a).last_call + 1) p r z target times

      h : InOrder o w x H.walk.rest
      h = H.in_order

      Goal : List Rule → Type 0
      Goal rs = Rules.MayAll o a (Rules.CallsLock ∷ rs) w → Behind x (Rules.CallsLock ∷ rs) q k
  fresh a (Call.DelLock p r z target) q k H of number = by_walk x H q k
      (subst Goal (sym h.1.1.0) (elim h.1.1.1 [
        | inl e ↦ subst (λ (s : Rule). Goal (s ∷ h.1.0)) (sym e) (λ m. on a q k (Rules.DeletesLock new) h.1.0 m
            (opens a q k (Rules.DeletesLock new)
            (in_phase (LockPhase.Deleting (targets ((v a q k).node a).replica.members target)) new) refl (cc of)
            number))
        | inr e ↦ subst (λ (s : Rule). Goal (s ∷ h.1.0)) (sym e) (λ m. on a q k (Rules.DeletesNothing new) h.1.0 m
            (ends a q k (Rules.DeletesNothing new) new True refl number))
      ]) H.walk.may)
    where
      x : WorldEvent
      x = At a (Event.Calling (Call.DelLock p r z target))

      new : LockCall
      new = new_call o.bound a ((w.node a).last_call + 1) p r z target (Times 0)

      h : InOrder o w x H.walk.rest
      h = H.in_order

      Goal : List Rule → Type 0
      Goal rs = Rules.MayAll o a (Rules.CallsLock ∷ rs) w → Behind x (Rules.CallsLock ∷ rs) q k
  fresh a Call.Spawn q k H of number = cc
  fresh a (Call.LookUp look) q k H of number = cc
  fresh a (Call.OnName c) q k H of number = cc
  fresh a (Call.JoinBy m) q k H of number = cc

  -- the call that an event accepts
  newly : (x : WorldEvent) → OrderedWalk o w x → (q : Process) (k j : ℕ) (call : Call)
      → slice_get (calls_in (place x) (played o w x)) j ≡ Some call → holder_in call ≡ Some q
      → k - 1 ≡ length (calls_at (place x) ps) + j → 0 < k → After x q k
  newly (At a (Event.Calling c)) H q k j call i of n pos =
      let one : (c ≡ call) × (j ≡ 0) = only_one ((a == a) && is_numbered c) c call j i in
      fresh a c q k H (ap holder_in one.0 ∙ of) (omega (arith, n, one.1, count a, pos))
  newly (At a Event.Retry) H q k j call i of n pos = cc
  newly (At a (Event.Exiting p)) H q k j call i of n pos = cc
  newly (At a Event.Leave) H q k j call i of n pos = cc
  newly (Deliver f t) H q k j call i of n pos = cc

  -- other nodes accept nothing
  elsewhere : (x : WorldEvent) (b : ℕ) → (b ≡ place x → ⊥) → calls_in b (played o w x) ≡ []
  elsewhere (At a (Event.Calling c)) b ne =
      ap (λ (t : Bool). if t && is_numbered c then c ∷ [] else []) (ne_eqb a b (λ e. ne (sym e)))
  elsewhere (At a Event.Retry) b ne = refl
  elsewhere (At a (Event.Exiting p)) b ne = refl
  elsewhere (At a Event.Leave) b ne = refl
  elsewhere (Deliver f t) b ne = refl

  -- each accepted event keeps it
  all_keep : (e : WorldEvent) → refusal o w e ≡ None → AllStand w ps → AllStand (accepted o w e) (ps ++ played o w e ∷ [])
  all_keep e is S b q k pos C =
      subst (λ (ss : List Answer). Stands b q k ss ((accepted o w e).node b)) (sym answers)
      (subst (λ (f : ℕ → Node). Stands b q k (answers_of ps ++ u.answers) (f b)) (sym (accepted-node o w e))
      (by_test (place e) (λ b t. IsCalledBy (calls_at b ps ++ calls_in b p) k q
      → Stands b q k (answers_of ps ++ u.answers) (if t then u.node else w.node b)) here there b
      (subst (λ (cs : List Call). IsCalledBy cs k q) (calls_push b ps p) C)))
    where
      p : Played
      p = played o w e

      u : Turn
      u = turn_of o w e

      H : OrderedWalk o w e
      H = walked_in_order o w e W.ordered (widens o w W.kept W.once) is

      answers : answers_of (ps ++ p ∷ []) ≡ answers_of ps ++ u.answers
      answers = flat_map-append (λ (q : Played). q.answers) ps (p ∷ [])
          ∙ ap (λ (l : List Answer). answers_of ps ++ l) (append-nil p.answers ∙ answers_given o w e is)

      here : IsCalledBy (calls_at (place e) ps ++ calls_in (place e) p) k q
          → Stands (place e) q k (answers_of ps ++ u.answers) u.node
      here I = subst (Stands (place e) q k (answers_of ps ++ u.answers))
          (ap (λ (f : ℕ → Node). f (place e)) (accepted-node o w e) ∙ at_same w.node (place e) u.node)
          (elim (slice_get-split (calls_at (place e) ps) (calls_in (place e) p) (k - 1) I.0 I.1) [
            | inl f ↦ old e H q k (S (place e) q k pos (I.0, f, I.2))
            | inr f ↦ newly e H q k f.0 I.0 f.1 I.2 f.2 pos
          ])

      there : (b : ℕ) → (b ≡ place e → ⊥) → IsCalledBy (calls_at b ps ++ calls_in b p) k q
          → Stands b q k (answers_of ps ++ u.answers) (w.node b)
      there b ne I = stands_more b q k (answers_of ps) u.answers (w.node b) (S b q k pos
          (subst (λ (cs : List Call). IsCalledBy cs k q)
          (ap (λ (cs : List Call). calls_at b ps ++ cs) (elsewhere e b ne) ∙ append-nil (calls_at b ps)) I))

-- what is kept along a course
record Told (o : Opening) (w : World) (ps : List Played) : Type 0 where
  kept : Theorem.Kept o w ps
  stand : AllStand w ps

-- so it is after every list of events
pub all_stand : (o : Opening) (es : List WorldEvent) → AllStand (world o es) (events o es)
all_stand o es = told.stand
  where
    told : Told o (world o es) (events o es)
    told = Chains.course_keeps o (Whole o) (ground o) (Told o)
        (λ w e ps W is T. record {
          kept = Theorem.kept_on o (Whole o) (ground o) (whole_opens o) [] w e ps W is T.kept;
          stand = all_keep o w ps W T.kept.book.count e is T.stand;
        })
        es (opening_world o) [] (whole_opens o)
        (record { kept = Theorem.kept_run o (Whole o) (ground o) (whole_opens o) []; stand = λ a p k pos I. cc I.1 })
