-- What an event brings for which a try may fail: a node that it has to ask has left, or takes its request and denies the lock.
use Rattle.std.proofs.Common.{ℕ, Bool, true, false, ◌==◌, ◌≡◌, ◌<◌, Option, Some, None, List, [], ◌∷◌, ◌++◌, drop, length, refl, sym, ap, ◌∙◌, arith}
use Rattle.std.specs.Prelude.{not, ◌&&◌, nat_lt, is_none, if◌then◌else◌}
use Rattle.std.proofs.Math.Bool.{or-true}
use Rattle.std.proofs.lemmas.Bool.Decides.{nat_tests}
use Rattle.std.proofs.lemmas.Bool.{le-ltb, eqb-true, eq-eqb}
use Rattle.registry_model.specs.Process.{Process, is_process}
use Rattle.protocol_model.specs.Letter.{Id, is_id, Letter}
use Rattle.protocol_model.proofs.Ids.{is_id_self}
use Rattle.protocol_model.specs.LockTable.{is_free_for}
use Rattle.protocol_model.specs.Round.{Mark, Out, Later, Owes, Granted, Refused, Lost, Gone, Round, is_empty}
use Rattle.protocol_model.specs.Watch.{is_dead}
use Rattle.protocol_model.specs.Node.{LockPhase, LockCall}
use Rattle.protocol_model.specs.Event.{Refusal}
use Rattle.protocol_model.specs.ClientLocks.{Try, is_no_more}
use Rattle.protocol_model.specs.LockAnswers.{is_asked_first, meets}
use Rattle.protocol_model.specs.World.{Opening, in_world, World, left, WorldEvent, Deliver, refusal, accepted, happens, letter_taken}
use Rattle.moves.proofs.Indices.{both, neither, empty_at}
use Rattle.moves.proofs.Rules
use Rattle.moves.proofs.Rules.{Rule, May}
use Rattle.walk.proofs.Chains.{is_gone_by}
use Rattle.leftovers.proofs.Clients.{Numbers, call_at, lives, lives_by}
use Rattle.leftovers.proofs.Ids.{is_process_self, is_id_same}
use Rattle.leftovers.proofs.Mail.{asks, echoes}
use Rattle.leftovers.proofs.Serving.{front_named}
use Rattle.leftovers.proofs.Sessions.{Ask, Takes, Echo, View, Idle, Owed, Won, Denied, Due, Down, due_if, view_of, view_in, view, fits}
use Rattle.leftovers.proofs.Tries.{Fits}
use Rattle.lock_answers.proofs.Behind.{Known}
use Rattle.lock_answers.proofs.Reasons.{asked_same, JudgedSo}

module _ (o : Opening) (w : World) (e : WorldEvent) (p : Process) (l : Try) where
  -- a node that the try has to ask has left behind the event
  pub met_left : refusal o w e ≡ None → (c : ℕ) → l.asks c ≡ true → in_world o c ≡ true
      → left (accepted o w e) c ≡ true → meets o w e p l ≡ true
  met_left h c mine inside gone = go (is_empty o.bound (λ x. l.asks x && left (happens o w e) x)) refl
    where
      now : left (happens o w e) c ≡ true
      now = ap (λ (r : Option Refusal). left (if is_none r then accepted o w e else w) c) h ∙ gone

      below : c < o.bound
      below = grind (arith, nat_tests, (both (nat_lt c o.bound) (o.nodes c) inside).0)

      go : (b : Bool) → is_empty o.bound (λ x. l.asks x && left (happens o w e) x) ≡ b → meets o w e p l ≡ true
      go true k = cc (
        empty_at o.bound (λ x. l.asks x && left (happens o w e) x) k c below,
        ap (λ (b : Bool). b && left (happens o w e) c) mine ∙ now,
      )
      go false k = rw k refl

-- or it is asked by p's request, and denies p the lock
pub met_denied : (o : Opening) (w : World) (f c : ℕ) (p : Process) (l : Try) → f ≡ p.node → l.asks c ≡ true
    → is_asked_first l.id p (w.links.queue f c) ≡ true → is_free_for l.id p (w.node c).locks ≡ false
    → meets o w (Deliver f c) p l ≡ true
met_denied o w f c p l home mine asked denied =
    rw (eq-eqb f p.node home, mine, asked, denied)
    (or-true (not (is_empty o.bound (λ x. l.asks x && left (happens o w (Deliver f c)) x))))

-- a request is on its way only where its answer is owed
takes_owed : (v : View) (id : Id) (ups : List Ask) (downs : List Echo) → fits v (Takes id ∷ ups) downs ≡ true
    → (j : Id) × (v ≡ Owed j) × (is_id id j ≡ true)
takes_owed Idle id ups [] h = cc
takes_owed (Won j) id ups [] h = cc
takes_owed Denied id ups [] h = cc
takes_owed (Owed j) id ups [] h = (j, refl, (both (is_id id j) _ h).0)
takes_owed Due id ups [] h = cc
takes_owed Down id ups [] h = cc
takes_owed Idle id ups (x ∷ xs) h = cc
takes_owed (Won j) id ups (x ∷ xs) h = cc
takes_owed Denied id ups (x ∷ xs) h = cc
takes_owed (Owed j) id ups (x ∷ xs) h = cc
takes_owed Due id ups (x ∷ xs) h = cc
takes_owed Down id ups (x ∷ xs) h = cc

is_owed : View → Bool
is_owed (Owed i) = true
is_owed _ = false

-- an answer is owed to a call that asks
pub record IsOwed (k : Option LockCall) (j : Id) : Type 0 where
  pub call : LockCall
  pub found : k ≡ Some call
  pub round : Round
  pub phase : call.phase ≡ LockPhase.Asking round
  pub id : call.id ≡ j

owed_call : (k : Option LockCall) (x : ℕ) (j : Id) → view k x ≡ Owed j → IsOwed k j
owed_call None x j h = cc (ap is_owed h)
owed_call (Some c) x j h = go c.phase refl h
  where
    id_of : View → Id
    id_of (Owed i) = i
    id_of _ = j

    by_mark : (r : Round) → c.phase ≡ LockPhase.Asking r → (m : Mark) → view_in c.id (LockPhase.Asking r) x ≡ Owed j
        → r.mark x ≡ m → IsOwed (Some c) j
    by_mark r e Owes k i = record {
      call = c;
      found = refl;
      round = r;
      phase = e;
      id = ap id_of (sym (ap (view_of c.id) i) ∙ k);
    }
    by_mark r e Out k i = cc (ap is_owed (sym (ap (view_of c.id) i) ∙ k))
    by_mark r e Later k i = cc (ap is_owed (sym (ap (view_of c.id) i) ∙ k))
    by_mark r e Granted k i = cc (ap is_owed (sym (ap (view_of c.id) i) ∙ k))
    by_mark r e Refused k i = cc (ap is_owed (sym (ap (view_of c.id) i) ∙ k))
    by_mark r e Lost k i = cc (ap is_owed (sym (ap (view_of c.id) i) ∙ k))
    by_mark r e Gone k i = cc (ap is_owed (sym (ap (view_of c.id) i) ∙ k))

    due : (b : Bool) → due_if b ≡ Owed j → IsOwed (Some c) j
    due true k = cc (ap is_owed k)
    due false k = cc (ap is_owed k)

    go : (f : LockPhase) → c.phase ≡ f → view_in c.id f x ≡ Owed j → IsOwed (Some c) j
    go (LockPhase.Asking r) e k = by_mark r e (r.mark x) k refl
    go LockPhase.Waiting e k = cc (ap is_owed k)
    go (LockPhase.Deleting owing) e k = due (owing x) k

-- a process of the world that isn't gone lives
pub lives_yet : (o : Opening) (w : World) (p : Process) → in_world o p.node ≡ true → (p.serial == 0) ≡ false
    → is_no_more w p ≡ false → lives o w p ≡ true
lives_yet o w p inside client up =
    let parts : (left w p.node ≡ false) × (is_dead (w.node p.node).watch p.serial ≡ false) =
    neither (left w p.node) (is_dead (w.node p.node).watch p.serial) up in
    lives_by o w p (record { inside = inside; up = parts.0; client = client; alive = parts.1 })

-- where the rule of a delivery denies p the lock, the event brings that
pub denied_so : (o : Opening) (w : World) (num : Numbers) → Known o w num → (f t : ℕ) (p : Process) (l : Try)
    → (so : Bool) → (gone : (c : ℕ) → l.asks c ≡ true → left w c ≡ true → so ≡ true)
    → Fits w p (Some l) → in_world o p.node ≡ true → (p.serial == 0) ≡ false
    → (meets o w (Deliver f t) p l ≡ true → so ≡ true) → (r : Rule) → May o t w r
    → is_gone_by w (letter_taken (Deliver f t) w) t (Rules.takes o t r) ≡ true → JudgedSo o p l so w gone t w r
denied_so o w num S f t p l so gone fit inside client met (Rules.Judges g id q) m taken = λ up i mine unfree.
    met (met_denied o w f t p l (sym same ∙ sym home ∙ ap (λ (k : Process). k.node) i) mine (request up i)
    (ap (λ (k : Id). is_free_for k p (w.node t).locks) (sym (is_same up i))
    ∙ ap (λ (k : Process). is_free_for id k (w.node t).locks) (sym i) ∙ unfree))
  where
    -- the letter is the one that is delivered
    same : g ≡ f
    same = go (g == f) refl taken
      where
        go : (b : Bool) → (g == f) ≡ b → nat_lt (length (if b && (t == t) then drop 1 (w.links.queue g t)
            else w.links.queue g t)) (length (w.links.queue g t)) ≡ true → g ≡ f
        go true e k = eqb-true g f e
        go false e k = cc (le-ltb (length (w.links.queue g t)) (length (w.links.queue g t)) (omega arith), k)

    home : q.node ≡ g
    home = eqb-true q.node g (front_named o g t w (Letter.SetLock id q) (S.clients.named g t) m.front.1)

    is_same : is_no_more w p ≡ false → q ≡ p → id ≡ l.id
    is_same up i = is_id_same id one.0 one.2 ∙ sym owed.id
        ∙ sym (asked_same w p l fit owed.call owed.found owed.round owed.phase).0
      where
        ups : asks p (w.links.queue p.node t) ≡ Takes id ∷ asks p m.front.1.0
        ups = ap (λ (y : ℕ). asks p (w.links.queue y t)) (sym (sym home ∙ ap (λ (k : Process). k.node) i))
            ∙ ap (asks p) m.front.1.1
            ∙ ap (λ (k : Process). (if is_process k p then Takes id ∷ [] else []) ++ asks p m.front.1.0) i
            ∙ ap (λ (b : Bool). (if b then Takes id ∷ [] else []) ++ asks p m.front.1.0) (is_process_self p)

        one : (j : Id) × (view (call_at w p) t ≡ Owed j) × (is_id id j ≡ true)
        one = takes_owed (view (call_at w p) t) id (asks p m.front.1.0) (echoes p (w.links.queue t p.node))
            (sym (ap (λ (us : List Ask). fits (view (call_at w p) t) us (echoes p (w.links.queue t p.node))) ups)
            ∙ (S.clients.sessions p t (lives_yet o w p inside client up) (m.inside, m.running)).fit)

        owed : IsOwed (call_at w p) one.0
        owed = owed_call (call_at w p) t one.0 one.1

    -- and it is p's request for the lock
    request : is_no_more w p ≡ false → q ≡ p → is_asked_first l.id p (w.links.queue f t) ≡ true
    request up i = ap (λ (y : ℕ). is_asked_first l.id p (w.links.queue y t)) (sym same)
        ∙ ap (is_asked_first l.id p) m.front.1.1 ∙ ap (λ (k : Id). is_id k l.id && is_process q p) (is_same up i)
        ∙ ap (λ (b : Bool). b && is_process q p) (is_id_self l.id) ∙ ap (λ (k : Process). is_process k p) i
        ∙ is_process_self p
denied_so o w num S f t p l so gone fit inside client met r m taken = tt
