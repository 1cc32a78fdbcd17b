-- An accepted lock call is answered, or is open still, where its process isn't dead: each rule keeps this.
use Rattle.std.proofs.Common.{ℕ, Bool, true, false, ◌==◌, ◌≡◌, Option, Some, None, List, [], ◌∷◌, ◌++◌, refl, sym, ap, ◌∙◌, subst, inl, inr}
use mathlib.Core.Logic.{◌⊎◌}
use Rattle.std.specs.Prelude.{◌||◌, if◌then◌else◌, Contains}
use Rattle.std.specs.List.{list_any}
use Rattle.std.proofs.lemmas.Bool.{eq-eqb}
use Rattle.std.proofs.lemmas.List.{append_assoc}
use Rattle.std.proofs.lemmas.List.Elements.{Contains-append_left, Contains-append_right}
use Rattle.std.proofs.lemmas.List.Folds.{list_any-append}
use Rattle.registry_model.specs.Process.{Process, is_process, at}
use Rattle.registry_model.specs.Call.{Reply, True, False}
use Rattle.registry_model.specs.History.{Entry}
use Rattle.registry_model.proofs.Lists.{Contains-front}
use Rattle.registry_model.proofs.Updates.{at_same}
use Rattle.protocol_model.specs.Letter.{Letter, Global}
use Rattle.protocol_model.specs.LockTable.{is_free_for}
use Rattle.protocol_model.specs.Round.{begin, answer, down}
use Rattle.protocol_model.specs.Watch.{is_dead}
use Rattle.protocol_model.specs.Node.{Node, LockPhase, LockCall, call_of, put_call, drop_call, targets}
use Rattle.protocol_model.specs.Event.{Answer}
use Rattle.protocol_model.specs.Turn.{Turn, begun, keep_call, enter}
use Rattle.protocol_model.specs.Registrar.{registrar}
use Rattle.protocol_model.specs.Client.{in_phase, close_call, give_lock, is_spent}
use Rattle.protocol_model.specs.Answers.{answer_to}
use Rattle.protocol_model.specs.World.{Opening, World, join_number}
use Rattle.moves.proofs.Rules
use Rattle.moves.proofs.Rules.{Rule, IsNew, IsRetried, IsOpen, Ordered}
use Rattle.walk.proofs.Orders.{effect-node, ordered_keeps}
use Rattle.client_locks.proofs.Calls.{call_of-put, call_of-drop, home_of_call}
use Rattle.client_locks.proofs.Growing.{node_answer_op, same_judge, same_take_back, same_ask_rest, dead_grows}
use Rattle.client_locks.proofs.Ids.{is_process_same}
use Rattle.client_locks.proofs.Numbering.{beginner_home}

-- the node behind a rule is that of the rule's turn
pub node_behind : (o : Opening) (a : ℕ) (w : World) (r : Rule) → (Rules.effect o a r w).node a ≡ (Rules.turn_by o a w r).node
node_behind o a w r = ap (λ (f : ℕ → Node). f a) (effect-node o a r w) ∙ at_same w.node a (Rules.turn_by o a w r).node

-- how call k of node a, a lock call of p, stands behind these answers: p is dead, the call is answered, or it is open
pub data Stands (a : ℕ) (p : Process) (k : ℕ) (xs : List Answer) (v : Node) : Type 0 where
  Gone : is_dead v.watch p.serial ≡ true → Stands a p k xs v
  Answered : (s : Answer) → Contains xs s → s.node ≡ a → s.number ≡ k → Stands a p k xs v
  Waits : (c : LockCall) → call_of p v.calls ≡ Some c → c.number ≡ k → Stands a p k xs v

-- more is answered
pub stands_more : (a : ℕ) (p : Process) (k : ℕ) (xs ys : List Answer) (v : Node) → Stands a p k xs v
    → Stands a p k (xs ++ ys) v
stands_more a p k xs ys v (Gone d) = Gone d
stands_more a p k xs ys v (Answered s i h n) = Answered s (Contains-append_left xs ys s i) h n
stands_more a p k xs ys v (Waits c e n) = Waits c e n

module _ (o : Opening) (a : ℕ) (w : World) (sorted : Ordered w) (p : Process) (k : ℕ) (xs : List Answer) where
  -- what is said behind a turn
  abbrev Behind : Turn → Type 0
  Behind u = Stands a p k (xs ++ u.answers) u.node

  -- the turn leaves the dead dead
  abbrev Grows : Turn → Type 0
  Grows u = is_dead (w.node a).watch p.serial ≡ true → is_dead u.node.watch p.serial ≡ true

  -- a turn that changes the call of one process q at most
  by_calls : (u : Turn) (q : Process) (next : Option LockCall) → Grows u
      → ((r : Process) → call_of r u.node.calls ≡ (if is_process q r then next else call_of r (w.node a).calls))
      → ((c : LockCall) → is_process q p ≡ true → call_of q (w.node a).calls ≡ Some c → c.number ≡ k → Behind u)
      → Stands a p k xs (w.node a) → Behind u
  by_calls u q next grows calls own (Gone d) = Gone (grows d)
  by_calls u q next grows calls own (Answered s i h n) = Answered s (Contains-append_left xs u.answers s i) h n
  by_calls u q next grows calls own (Waits c e n) = go (is_process q p) refl (calls p)
    where
      go : (b : Bool) → is_process q p ≡ b → call_of p u.node.calls ≡ (if b then next else call_of p (w.node a).calls)
          → Behind u
      go true i f = own c i
          (subst (λ (r : Process). call_of r (w.node a).calls ≡ Some c) (sym (is_process_same q p i)) e) n
      go false i f = Waits c (f ∙ e) n

  -- one that changes none
  stays : (u : Turn) → Grows u → u.node.calls ≡ (w.node a).calls → Stands a p k xs (w.node a) → Behind u
  stays u grows calls (Gone d) = Gone (grows d)
  stays u grows calls (Answered s i h n) = Answered s (Contains-append_left xs u.answers s i) h n
  stays u grows calls (Waits c e n) = Waits c (ap (call_of p) calls ∙ e) n

  -- q dies
  dies : (u : Turn) (q : Process) → Grows u → u.node.calls ≡ drop_call q (w.node a).calls
      → u.node.watch.dead ≡ (w.node a).watch.dead ++ q.serial ∷ [] → Stands a p k xs (w.node a) → Behind u
  dies u q grows calls dead = by_calls u q None grows
      (λ r. ap (call_of r) calls ∙ call_of-drop r q (w.node a).calls)
      (λ c i e n. Gone (ap (list_any (λ d. d == p.serial)) dead
      ∙ list_any-append (λ d. d == p.serial) (w.node a).watch.dead (q.serial ∷ [])
      ∙ ap (λ (b : Bool). list_any (λ d. d == p.serial) (w.node a).watch.dead || (b || false))
      (eq-eqb q.serial p.serial (ap (λ (r : Process). r.serial) (is_process_same q p i)))
      ∙ last (list_any (λ d. d == p.serial) (w.node a).watch.dead)))
    where
      last : (b : Bool) → (b || (true || false)) ≡ true
      last true = refl
      last false = refl

  -- a call goes on as next, or begins as that
  puts : (u : Turn) (next : LockCall) → Grows u → next.holder.node ≡ a
      → u.node.calls ≡ put_call next (w.node a).calls
      → ((c : LockCall) → call_of next.holder (w.node a).calls ≡ Some c → c.number ≡ next.number)
      → Stands a p k xs (w.node a) → Behind u
  puts u next grows home calls same = by_calls u next.holder (Some next) grows found
      (λ c i e n. Waits next (found p ∙ ap (λ (b : Bool). if b then Some next else call_of p (w.node a).calls) i)
      (sym (same c e) ∙ n))
    where
      found : (r : Process) → call_of r u.node.calls ≡ (if is_process next.holder r then Some next
          else call_of r (w.node a).calls)
      found r = ap (call_of r) calls ∙ call_of-put a r next (w.node a).calls home (sorted a)

  -- a call is answered
  ends : (u : Turn) (c : LockCall) (reply : Reply) → Grows u → u.node.calls ≡ drop_call c.holder (w.node a).calls
      → u.answers ≡ answer_to a c.number reply ∷ []
      → ((d : LockCall) → call_of c.holder (w.node a).calls ≡ Some d → d.number ≡ c.number)
      → Stands a p k xs (w.node a) → Behind u
  ends u c reply grows calls answers same = by_calls u c.holder None grows
      (λ r. ap (call_of r) calls ∙ call_of-drop r c.holder (w.node a).calls)
      (λ d i e n. Answered (answer_to a c.number reply)
      (Contains-append_right xs u.answers (answer_to a c.number reply)
      (subst (λ (ss : List Answer). Contains ss (answer_to a c.number reply)) (sym answers)
      (Contains-front (answer_to a c.number reply) []))) refl (sym (same d e) ∙ n))

  -- an open call has its own number
  own_number : (c : LockCall) (now : LockPhase) → IsOpen (w.node a) c now → (d : LockCall)
      → call_of c.holder (w.node a).calls ≡ Some d → d.number ≡ c.number
  own_number c now e d f = let same : d ≡ c = cc (e.call, f) in ap (λ (x : LockCall). x.number) same

  -- one that begins has no other, and one that is tried again has the number that it had
  begun_number : (c : LockCall) → (IsNew a (w.node a) c ⊎ IsRetried (w.node a) c) → (d : LockCall)
      → call_of c.holder (w.node a).calls ≡ Some d → d.number ≡ c.number
  begun_number c b d f = elim b [
    | inl new ↦ cc (new.none, f)
    | inr again ↦
        let same : d ≡ again.before = cc (again.open_call, f) in
        ap (λ (x : LockCall). x.number) same ∙ again.number
  ]

  home : (c : LockCall) (now : LockPhase) → IsOpen (w.node a) c now → c.holder.node ≡ a
  home c now e = home_of_call a c.holder (w.node a).calls c (sorted a) e.call

  -- each rule
  by_rule : (r : Rule) → Rules.May o a w r → Stands a p k xs (w.node a) → Behind (Rules.turn_by o a w r)
  by_rule r m = go r m (dead_grows o a w r p.serial)
    where
      turn : Rule → Turn
      turn r = Rules.turn_by o a w r

      on : (r : Rule) (c : LockCall) (now next : LockPhase) → Grows (turn r) → IsOpen (w.node a) c now
          → (turn r).node.calls ≡ put_call (in_phase next c) (w.node a).calls
          → Stands a p k xs (w.node a) → Behind (turn r)
      on r c now next g e calls =
          puts (turn r) (in_phase next c) g (home c now e) calls (own_number c now e)

      closes : (r : Rule) (c : LockCall) (now : LockPhase) → Grows (turn r) → IsOpen (w.node a) c now
          → (turn r).node.calls ≡ drop_call c.holder (w.node a).calls
          → (turn r).answers ≡ answer_to a c.number True ∷ []
          → Stands a p k xs (w.node a) → Behind (turn r)
      closes r c now g e calls answers = ends (turn r) c True g calls answers (own_number c now e)

      go : (r : Rule) → Rules.May o a w r → Grows (turn r) → Stands a p k xs (w.node a) → Behind (turn r)
      go (Rules.Exits q) m g = dies (turn (Rules.Exits q)) q g refl refl
      go (Rules.Kills f l q receivers) m g = dies (turn (Rules.Kills f l q receivers)) q g refl refl
      go (Rules.Finishes op asked awaited reply) m g = stays (turn (Rules.Finishes op asked awaited reply)) g
          (ap (λ (v : Node). v.calls) (node_answer_op o.bound a op reply (enter (Entry.Done a) (begun (w.node a)))))
      go (Rules.HearsAnswer f id granted op r) m g = stays (turn (Rules.HearsAnswer f id granted op r)) g
          (same_ask_rest o.bound a f granted (Letter.SetLock (Global a) (registrar a)) r (w.node a)).calls
      go (Rules.Judges f id q) m g = stays (turn (Rules.Judges f id q)) g
          (same_judge o.bound a f (join_number w) id q (is_free_for id q (w.node a).locks) (w.node a)).calls
      go (Rules.TakesBack f id q ack) m g = stays (turn (Rules.TakesBack f id q ack)) g
          (same_take_back o.bound a f (join_number w) id q ack (w.node a)).calls
      go (Rules.AsksLock c) m g = puts (turn (Rules.AsksLock c))
          (in_phase (LockPhase.Asking (begin o.bound (targets (w.node a).replica.members c.target))) c) g
          (beginner_home o a w c sorted m.tested.0) refl (begun_number c m.tested.0)
      go (Rules.FailsLock c) m g = ends (turn (Rules.FailsLock c)) c False g refl refl (begun_number c m.tested.0)
      go (Rules.DeletesLock c) m g = puts (turn (Rules.DeletesLock c))
          (in_phase (LockPhase.Deleting (targets (w.node a).replica.members c.target)) c) g
          (beginner_home o a w c sorted (inl m.tested.0)) refl (begun_number c (inl m.tested.0))
      go (Rules.DeletesNothing c) m g = ends (turn (Rules.DeletesNothing c)) c True g refl refl
          (begun_number c (inl m.tested.0))
      go (Rules.HearsLock f id granted c r) m g =
          on (Rules.HearsLock f id granted c r) c (LockPhase.Asking r) (LockPhase.Asking (answer f granted r)) g
          m.tested.2
          (ap (put_call (in_phase (LockPhase.Asking (answer f granted r)) c))
          (same_ask_rest o.bound a f granted (Letter.SetLock c.id c.holder) r (w.node a)).calls)
      go (Rules.MarksLockDown d c r) m g =
          on (Rules.MarksLockDown d c r) c (LockPhase.Asking r) (LockPhase.Asking (down d r)) g m.tested.1 refl
      go (Rules.WinsLock c r) m g = closes (Rules.WinsLock c r) c (LockPhase.Asking r) g m.tested.0 refl refl
      go (Rules.GivesUpLock c r granted) m g = by_end (is_spent c.retries)
        where
          by_end : (b : Bool) → Stands a p k xs (w.node a)
              → Behind (if b then close_call o.bound a c false (give_lock o.bound a c granted (begun (w.node a)))
              else keep_call (in_phase LockPhase.Waiting c) (give_lock o.bound a c granted (begun (w.node a))))
          by_end true = ends (close_call o.bound a c false (give_lock o.bound a c granted (begun (w.node a)))) c False
              (λ d. d) refl refl (own_number c (LockPhase.Asking r) m.tested.0)
          by_end false = puts
              (keep_call (in_phase LockPhase.Waiting c) (give_lock o.bound a c granted (begun (w.node a))))
              (in_phase LockPhase.Waiting c) (λ d. d) (home c (LockPhase.Asking r) m.tested.0) refl
              (own_number c (LockPhase.Asking r) m.tested.0)
      go (Rules.CountsGivenBack f c owing) m g =
          on (Rules.CountsGivenBack f c owing) c (LockPhase.Deleting owing) (LockPhase.Deleting (at owing f false)) g
          m.tested.1 refl
      go (Rules.CountsLockDown d c owing) m g =
          on (Rules.CountsLockDown d c owing) c (LockPhase.Deleting owing) (LockPhase.Deleting (at owing d false)) g
          m.tested.1 refl
      go (Rules.EndsDeletion f c owing) m g =
          closes (Rules.EndsDeletion f c owing) c (LockPhase.Deleting owing) g m.tested.1 refl refl
      go (Rules.EndsDeletionDown d c owing) m g =
          closes (Rules.EndsDeletionDown d c owing) c (LockPhase.Deleting owing) g m.tested.1 refl refl
      go r m g = stays (turn r) g refl

  -- in the world behind it
  pub stands_rule : (r : Rule) → Rules.May o a w r → Stands a p k xs (w.node a)
      → Stands a p k (xs ++ (Rules.turn_by o a w r).answers) ((Rules.effect o a r w).node a)
  stands_rule r m S = subst (Stands a p k (xs ++ (Rules.turn_by o a w r).answers))
      (sym (node_behind o a w r)) (by_rule r m S)

-- and behind a chain of rules
pub stands_chain : (o : Opening) (a : ℕ) (p : Process) (k : ℕ) (rs : List Rule) (w : World) (xs : List Answer) → Ordered w
    → Rules.MayAll o a rs w → Stands a p k xs (w.node a)
    → Stands a p k (xs ++ Rules.answers_by o a rs w) ((Rules.effects o a rs w).node a)
stands_chain o a p k [] w xs sorted m S = stands_more a p k xs [] (w.node a) S
stands_chain o a p k (r ∷ rs) w xs sorted m S =
    subst (λ (ss : List Answer). Stands a p k ss ((Rules.effects o a (r ∷ rs) w).node a))
    (append_assoc xs (Rules.turn_by o a w r).answers (Rules.answers_by o a rs (Rules.effect o a r w)))
    (stands_chain o a p k rs (Rules.effect o a r w) (xs ++ (Rules.turn_by o a w r).answers)
    (ordered_keeps o a w r sorted m.0) m.1 (stands_rule o a w sorted p k xs r m.0 S))
