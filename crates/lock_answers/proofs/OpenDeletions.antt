-- An open deletion along the rules that open calls go on by: at a node that it went to and that owes no acknowledgement
-- nothing on its way lessens what the process has, and so it is where the deletion ends.
use Rattle.std.proofs.Common.{ℕ, Bool, true, false, ◌≡◌, Option, Some, None, List, [], ◌∷◌, ◌++◌, refl, sym, ap, ◌∙◌, subst}
use Rattle.std.specs.Prelude.{if◌then◌else◌}
use Rattle.registry_model.specs.Process.{Process, is_process, Nodes, at}
use Rattle.protocol_model.specs.Letter.{Id, Letter}
use Rattle.protocol_model.specs.Round.{Round, is_empty, answer, down}
use Rattle.protocol_model.specs.Node.{LockPhase, LockCall, call_of, put_call, drop_call}
use Rattle.protocol_model.specs.Turn.{Turn, begun, keep_call}
use Rattle.protocol_model.specs.Client.{in_phase, close_call, give_lock, is_spent}
use Rattle.protocol_model.specs.ClientLocks.{is_no_more}
use Rattle.protocol_model.specs.World.{Opening, World}
use Rattle.moves.proofs.Rules
use Rattle.moves.proofs.Rules.{Rule, Taken, IsOpen, May, Ordered, effect, turn_by, takes}
use Rattle.moves.proofs.Invariants.{IsUp}
use Rattle.walk.proofs.ChainKinds.{Hearing, suits}
use Rattle.walk.proofs.Orders.{ordered_keeps}
use Rattle.leftovers.proofs.Ids.{is_process_same, is_process_self}
use Rattle.leftovers.proofs.Calls.{call_of-drop, home_of_call}
use Rattle.leftovers.proofs.Sessions.{Echo, Backed, Due, due_if, view, view_in, fits}
use Rattle.leftovers.proofs.SessionMoves.{backed_front}
use Rattle.leftovers.proofs.Mail.{echoes, turned}
use Rattle.leftovers.proofs.Clients.{Numbers, lives, IsLive, live_parts, call_at, Clients}
use Rattle.leftovers.proofs.Calling.{ups_of, downs_of, calls_put}
use Rattle.leftovers.proofs.Numbers.{num_by}
use Rattle.leftovers.proofs.Keeping.{clients_keeps}
use Rattle.leftovers.proofs.Growing.{Replying, replying_keeps, same_ask_rest}
use Rattle.leftovers.proofs.Steps.{call_after, calls_aside, nums_same}
use Rattle.leftovers.proofs.Ongoing.{is_deleting}
use Rattle.leftovers.proofs.Chains.{aside_or_step}
use Rattle.leftovers.proofs.Together.{All, all_keeps}
use Rattle.lock_answers.proofs.Settled.{Stands, stands_alone}

-- what is known of each world along a chain
pub record Known (o : Opening) (w : World) (num : Numbers) : Type 0 where
  pub all : All o w
  pub ordered : Ordered w
  pub replying : Replying w
  pub clients : Clients o w num

pub known_keeps : (o : Opening) (a : ℕ) (r : Rule) (w : World) (num : Numbers) → Known o w num → May o a w r
    → Known o (effect o a r w) (num_by a r w num)
known_keeps o a r w num K m = record {
  all = all_keeps o a w r K.all K.ordered m;
  ordered = ordered_keeps o a w r K.ordered m;
  replying = replying_keeps o a w r m K.replying;
  clients = clients_keeps o a w num K.all.proper K.ordered K.clients r m;
}

-- what becomes of p's open deletion c by a rule: k is its call then. Who owes no more has given p's lock back
pub data Next (o : Opening) (w : World) (p : Process) (c : LockCall) (owing : Nodes) (k : Option LockCall)
    : Type 0 where
  Stayed : k ≡ Some c → Next o w p c owing k
  Lessened : (f : ℕ) → (IsUp o w f → Stands w p f) → k ≡ Some (in_phase (LockPhase.Deleting (at owing f false)) c)
      → Next o w p c owing k
  Ended : (f : ℕ) → (IsUp o w f → Stands w p f) → is_empty o.bound (at owing f false) ≡ true → k ≡ None
      → Next o w p c owing k

-- a deletion owes or not
pub view_deleting : (c : LockCall) (owing : Nodes) (k : Option LockCall) → k ≡ Some c
    → c.phase ≡ LockPhase.Deleting owing → (x : ℕ) → view k x ≡ due_if (owing x)
view_deleting c owing k e h x = ap (λ (j : Option LockCall). view j x) e
    ∙ ap (λ (f : LockPhase). view_in c.id f x) h

-- who lives isn't gone
pub lives_stays : (o : Opening) (w : World) (p : Process) → lives o w p ≡ true → is_no_more w p ≡ false
lives_stays o w p h = let l : IsLive o w p = live_parts o w p h in rw (l.up, l.alive) refl

module _ (o : Opening) (a : ℕ) (w : World) (num : Numbers) (K : Known o w num) where
  -- the calls behind a rule that puts one, or drops one
  module _ (r : Rule) (t : Option Taken) (u : Turn) (is : effect o a r w ≡ turned a t u w) (d : LockCall)
      (home : d.holder.node ≡ a) where
    put_after : (phase : LockPhase) → u.node.calls ≡ put_call (in_phase phase d) (w.node a).calls → (q : Process)
        → call_at (effect o a r w) q ≡ (if is_process d.holder q then Some (in_phase phase d) else call_at w q)
    put_after phase calls q = ap (λ (v : World). call_at v q) is
        ∙ call_after a t u w d.holder (Some (in_phase phase d)) home
        (λ k. ap (call_of k) calls ∙ calls_put a w K.ordered (in_phase phase d) home k) q

    pub drop_after : u.node.calls ≡ drop_call d.holder (w.node a).calls → (q : Process)
        → call_at (effect o a r w) q ≡ (if is_process d.holder q then None else call_at w q)
    drop_after calls q = ap (λ (v : World). call_at v q) is
        ∙ call_after a t u w d.holder None home
        (λ k. ap (call_of k) calls ∙ call_of-drop k d.holder (w.node a).calls) q

  -- an open call is its holder's, at this node
  pub open_home : (d : LockCall) (now : LockPhase) → IsOpen (w.node a) d now → d.holder.node ≡ a
  open_home d now e = home_of_call a d.holder (w.node a).calls d (K.ordered a) e.call

  pub open_found : (d : LockCall) (now : LockPhase) → IsOpen (w.node a) d now → call_at w d.holder ≡ Some d
  open_found d now e = ap (λ (i : ℕ). call_of d.holder (w.node i).calls) (open_home d now e) ∙ e.call

  module _ (p : Process) where
    -- the numbers of a process whose call, if it has one, is a deletion
    pub nums_stay : (r : Rule) → suits Hearing r ≡ true → May o a w r → is_no_more (effect o a r w) p ≡ false
        → ((c : LockCall) → call_at w p ≡ Some c → is_deleting c.phase ≡ true) → (x : ℕ) (id : Id)
        → num_by a r w num p id x ≡ num p id x
    nums_stay (Rules.WinsLock d r) h m up busy x id = go (is_process d.holder p) refl
      where
        go : (b : Bool) → is_process d.holder p ≡ b → num_by a (Rules.WinsLock d r) w num p id x ≡ num p id x
        go false e = rw e refl
        go true e = absurd (cc (
          busy d (subst (λ (q : Process). call_at w q ≡ Some d) (is_process_same d.holder p e)
              (open_found d (LockPhase.Asking r) m.tested.0)),
          ap is_deleting m.tested.0.phase,
        ))
    nums_stay (Rules.DeletesLock d) h m up busy x id = cc
    nums_stay (Rules.DeletesNothing d) h m up busy x id = cc
    nums_stay r h m up busy x id = nums_same o a w num r refl m p id x up

    module _ (c : LockCall) (owing : Nodes) (found : call_at w p ≡ Some c)
        (deleting : c.phase ≡ LockPhase.Deleting owing) (living : lives o w p ≡ true) where
      -- an acknowledgement comes when all is given back
      given_back : (f : ℕ) → p.node ≡ a → Rules.IsFront o a w f (Letter.GivenBack p) → IsUp o w f → Stands w p f
      given_back f home front up = stands_alone w p f was.1
        where
          first : downs_of w p f ≡ Backed ∷ echoes p front.0
          first = ap (λ (i : ℕ). echoes p (w.links.queue f i)) home ∙ ap (echoes p) front.1
              ∙ ap (λ (b : Bool). (if b then Backed ∷ [] else []) ++ echoes p front.0) (is_process_self p)

          was : (view (call_at w p) f ≡ Due) × (ups_of w p f ≡ []) × (echoes p front.0 ≡ [])
          was = backed_front (view (call_at w p) f) (ups_of w p f) (echoes p front.0)
              (subst (λ (es : List Echo). fits (view (call_at w p) f) (ups_of w p f) es ≡ true) first
              (K.clients.sessions p f living up).fit)

      -- a rule of an open call: another process's, or this one
      by_call : (d : LockCall) (now : LockPhase) → IsOpen (w.node a) d now → (r : Rule) (next : Option LockCall)
          → ((q : Process) → call_at (effect o a r w) q ≡ (if is_process d.holder q then next else call_at w q))
          → (d ≡ c → d.holder ≡ p → Next o w p c owing next) → Next o w p c owing (call_at (effect o a r w) p)
      by_call d now e r next calls own = go (is_process d.holder p) refl
        where
          go : (b : Bool) → is_process d.holder p ≡ b → Next o w p c owing (call_at (effect o a r w) p)
          go false i = Stayed (calls p ∙ ap (λ (b : Bool). if b then next else call_at w p) i ∙ found)
          go true i =
              let same : d.holder ≡ p = is_process_same d.holder p i in
              let there : call_at w p ≡ Some d = subst (λ (q : Process). call_at w q ≡ Some d) same
              (open_found d now e) in
              subst (Next o w p c owing) (sym (calls p ∙ ap (λ (b : Bool). if b then next else call_at w p) i))
              (own (cc (there, found)) same)

      not_asking : {X : Type 0} (d : LockCall) (r : Round) → d.phase ≡ LockPhase.Asking r → d ≡ c → X
      not_asking d r e same =
          let asks : c.phase ≡ LockPhase.Asking r = ap (λ (j : LockCall). j.phase) (sym same) ∙ e in cc (asks, deleting)

      -- what this call owes
      same_owing : (d : LockCall) (owed : Nodes) → d.phase ≡ LockPhase.Deleting owed → d ≡ c → owed ≡ owing
      same_owing d owed e same =
          let owes : c.phase ≡ LockPhase.Deleting owed = ap (λ (j : LockCall). j.phase) (sym same) ∙ e in
          cc (owes, deleting)

      -- each rule of an open call, or of none
      pub follows : (r : Rule) → suits Hearing r ≡ true → May o a w r → is_no_more (effect o a r w) p ≡ false
          → Next o w p c owing (call_at (effect o a r w) p)
      follows (Rules.HearsLock f id g d r) h m up = by_call d (LockPhase.Asking r) m.tested.2
          (Rules.HearsLock f id g d r) _
          (put_after (Rules.HearsLock f id g d r) (takes o a (Rules.HearsLock f id g d r))
          (turn_by o a w (Rules.HearsLock f id g d r)) refl d (open_home d (LockPhase.Asking r) m.tested.2)
          (LockPhase.Asking (answer f g r)) (ap (put_call (in_phase (LockPhase.Asking (answer f g r)) d))
          (same_ask_rest o.bound a f g (Letter.SetLock d.id d.holder) r (w.node a)).calls))
          (λ same i. not_asking d r m.tested.2.phase same)
      follows (Rules.MarksLockDown f d r) h m up = by_call d (LockPhase.Asking r) m.tested.1
          (Rules.MarksLockDown f d r) _
          (put_after (Rules.MarksLockDown f d r) None (turn_by o a w (Rules.MarksLockDown f d r)) refl d
          (open_home d (LockPhase.Asking r) m.tested.1) (LockPhase.Asking (down f r)) refl)
          (λ same i. not_asking d r m.tested.1.phase same)
      follows (Rules.WinsLock d r) h m up = by_call d (LockPhase.Asking r) m.tested.0
          (Rules.WinsLock d r) None
          (drop_after (Rules.WinsLock d r) None (turn_by o a w (Rules.WinsLock d r)) refl d
          (open_home d (LockPhase.Asking r) m.tested.0) refl)
          (λ same i. not_asking d r m.tested.0.phase same)
      follows (Rules.GivesUpLock d r s) h m up = go (is_spent d.retries) refl
        where
          home : d.holder.node ≡ a
          home = open_home d (LockPhase.Asking r) m.tested.0

          ends : Bool → Turn
          ends b = if b then close_call o.bound a d false (give_lock o.bound a d s (begun (w.node a)))
              else keep_call (in_phase LockPhase.Waiting d) (give_lock o.bound a d s (begun (w.node a)))

          go : (b : Bool) → is_spent d.retries ≡ b
              → Next o w p c owing (call_at (effect o a (Rules.GivesUpLock d r s) w) p)
          go true e = by_call d (LockPhase.Asking r) m.tested.0 (Rules.GivesUpLock d r s) None
              (drop_after (Rules.GivesUpLock d r s) None (ends true)
              (ap (λ (b : Bool). turned a None (ends b) w) e) d home refl)
              (λ same i. not_asking d r m.tested.0.phase same)
          go false e = by_call d (LockPhase.Asking r) m.tested.0 (Rules.GivesUpLock d r s)
              (Some (in_phase LockPhase.Waiting d))
              (put_after (Rules.GivesUpLock d r s) None (ends false)
              (ap (λ (b : Bool). turned a None (ends b) w) e) d home LockPhase.Waiting refl)
              (λ same i. not_asking d r m.tested.0.phase same)
      follows (Rules.CountsGivenBack f d owed) h m up = by_call d (LockPhase.Deleting owed) m.tested.1
          (Rules.CountsGivenBack f d owed) _
          (put_after (Rules.CountsGivenBack f d owed) (takes o a (Rules.CountsGivenBack f d owed))
          (turn_by o a w (Rules.CountsGivenBack f d owed)) refl d home (LockPhase.Deleting (at owed f false)) refl)
          (λ same i. Lessened f
          (given_back f (ap (λ (q : Process). q.node) (sym i) ∙ home)
          (subst (λ (q : Process). Rules.IsFront o a w f (Letter.GivenBack q)) i m.front.1))
          (ap (λ (j : LockCall). Some (in_phase (LockPhase.Deleting (at owed f false)) j)) same
          ∙ ap (λ (n : Nodes). Some (in_phase (LockPhase.Deleting (at n f false)) c))
          (same_owing d owed m.tested.1.phase same)))
        where
          home : d.holder.node ≡ a
          home = open_home d (LockPhase.Deleting owed) m.tested.1
      follows (Rules.CountsLockDown f d owed) h m up = by_call d (LockPhase.Deleting owed) m.tested.1
          (Rules.CountsLockDown f d owed) _
          (put_after (Rules.CountsLockDown f d owed) None (turn_by o a w (Rules.CountsLockDown f d owed)) refl d
          (open_home d (LockPhase.Deleting owed) m.tested.1) (LockPhase.Deleting (at owed f false)) refl)
          (λ same i. Lessened f
          (λ k. absurd (cc (K.all.proper.told_left a f m.running m.tested.0, k.1)))
          (ap (λ (j : LockCall). Some (in_phase (LockPhase.Deleting (at owed f false)) j)) same
          ∙ ap (λ (n : Nodes). Some (in_phase (LockPhase.Deleting (at n f false)) c))
          (same_owing d owed m.tested.1.phase same)))
      follows (Rules.EndsDeletion f d owed) h m up = by_call d (LockPhase.Deleting owed) m.tested.1
          (Rules.EndsDeletion f d owed) None
          (drop_after (Rules.EndsDeletion f d owed) (takes o a (Rules.EndsDeletion f d owed))
          (turn_by o a w (Rules.EndsDeletion f d owed)) refl d home refl)
          (λ same i. Ended f
          (given_back f (ap (λ (q : Process). q.node) (sym i) ∙ home)
          (subst (λ (q : Process). Rules.IsFront o a w f (Letter.GivenBack q)) i m.front.1))
          (subst (λ (n : Nodes). is_empty o.bound (at n f false) ≡ true) (same_owing d owed m.tested.1.phase same)
          m.tested.3) refl)
        where
          home : d.holder.node ≡ a
          home = open_home d (LockPhase.Deleting owed) m.tested.1
      follows (Rules.EndsDeletionDown f d owed) h m up = by_call d (LockPhase.Deleting owed) m.tested.1
          (Rules.EndsDeletionDown f d owed) None
          (drop_after (Rules.EndsDeletionDown f d owed) None (turn_by o a w (Rules.EndsDeletionDown f d owed)) refl d
          (open_home d (LockPhase.Deleting owed) m.tested.1) refl)
          (λ same i. Ended f
          (λ k. absurd (cc (K.all.proper.told_left a f m.running m.tested.0, k.1)))
          (subst (λ (n : Nodes). is_empty o.bound (at n f false) ≡ true) (same_owing d owed m.tested.1.phase same)
          m.tested.3) refl)
      follows r h m up = Stayed (calls_aside o a w num r (aside_or_step r h refl) m p up ∙ found)
