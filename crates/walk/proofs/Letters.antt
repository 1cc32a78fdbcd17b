-- What a node makes of a letter, before it starts anew: chains of rules.
use Rattle.std.proofs.Common.{ℕ, Bool, true, false, ◌==◌, ◌≡◌, Option, Some, None, List, [], ◌∷◌, refl, sym, subst, ap, ◌∙◌, inr}
use Rattle.std.specs.Prelude.{is_some, if◌then◌else◌}
use Rattle.std.proofs.lemmas.List.Elements.{All-contains_itself}
use Rattle.std.proofs.lemmas.Bool.{eqb-true, eq-eqb}
use Rattle.registry_model.specs.Process.{Process, is_process, Nodes, at}
use Rattle.registry_model.specs.Table.{Table}
use Rattle.registry_model.specs.Call.{Reply, Joined, NotMember}
use Rattle.registry_model.specs.Registry.{Replica}
use Rattle.registry_model.specs.History.{Entry}
use Rattle.registry_model.specs.Settlement.{Fate, Settled}
use Rattle.protocol_model.specs.Round.{Round, is_empty, owes, answer}
use Rattle.protocol_model.specs.Letter.{Id, Global, Letter}
use Rattle.protocol_model.specs.Node.{Op, Current, LockPhase, LockCall, call_of}
use Rattle.protocol_model.specs.Turn.{Turn, begun, with_replica, at_work, keep_call, send, enter, reply_with}
use Rattle.protocol_model.specs.Registrar.{registrar, done, await_less, ask_rest}
use Rattle.protocol_model.specs.Deciding.{end_round, hear_answer}
use Rattle.protocol_model.specs.Client.{in_phase, close_call, end_lock, hear_lock_in, hear_lock, owe_less_in, owe_less}
use Rattle.protocol_model.specs.Calling.{kill, queued}
use Rattle.protocol_model.specs.Reading.{admitted, welcomed, asked_to_admit, refused_join, welcome}
use Rattle.protocol_model.specs.World.{Opening, in_world, World, left, Deliver, number_in, join_number, apply, letter_taken}
use Rattle.moves.proofs.Rules
use Rattle.moves.proofs.Rules.{Rule, taking, is_ordered, awaits, is_heard, is_heard_in, is_owed_in, is_awaited, is_joining_by, some_call}
use Rattle.walk.proofs.ChainKinds.{Hearing, may_begin, begin_quiet}
use Rattle.walk.proofs.Chains.{Chain, closed_by-quiet, is_gone_by, gone_by-delivery, chain_none, chain_quiet, chain_letter}
use Rattle.walk.proofs.Calls.{is_process-true, call_of-holder, ordered_found}
use Rattle.walk.proofs.Rounds.{join_number-behind, awaited_less, end_round-chain}
use Rattle.walk.proofs.LockRounds.{go_on_lock-chain}
use Rattle.walk.proofs.Killing.{kill_to, replaced, kill-replaced, kill_to-replica, kill_to-current, admitted-members, kill_to-chain}

module _ (o : Opening) (a : ℕ) (inside : in_world o a ≡ true) (w : World) (running : left w a ≡ false) (f : ℕ)
    (known : in_world o f ≡ true) (rest : List Letter) where
  -- the chain has come so far from the front of the link from f
  abbrev pub Reads : Turn → Type 0
  Reads u = Chain o a Hearing w [] (letter_taken (Deliver f a) w) u

  -- a rule that reads the letter
  pub by_rule : (l : Letter) → w.links.queue f a ≡ l ∷ rest → (r : Rule) → may_begin Hearing r ≡ true
      → Rules.takes o a r ≡ taking f l
      → Rules.Tested o a w (w.node a) r
      → Reads (Rules.turn_by o a w r)
  by_rule l front r q some tested = chain_quiet o a Hearing w (letter_taken (Deliver f a) w) r
      (record {
        inside = inside;
        running = running;
        front = subst (Rules.FrontTaken o a w) (sym some) (known, (rest, front));
        tested = tested;
      })
      (ap (is_gone_by w (letter_taken (Deliver f a) w) a) some ∙ gone_by-delivery w f a l rest front) (inr (ap is_some some)) q
      (closed_by-quiet o a r (apply a (Rules.turn_by o a w r) (Rules.without_letter o a (Rules.takes o a r) w))
      (begin_quiet Hearing r q)
      ∙ ap (λ (t : Option Rules.Taken). apply a (Rules.turn_by o a w r) (Rules.without_letter o a t w)) some)

  -- the registrar's numbers are as they were while it waits for no contact
  numbers : number_in (w.node a).current ≡ 0 → (u : Turn) → number_in u.node.current ≡ 0
      → join_number (apply a u (letter_taken (Deliver f a) w)) ≡ join_number w
  numbers e u h = join_number-behind a w (letter_taken (Deliver f a) w) u refl (h ∙ sym e)

  module _ (untold : (w.node a).replica.told f ≡ false) where
    -- a letter that isn't awaited
    ignored : (l : Letter) → w.links.queue f a ≡ l ∷ rest → awaits a (w.node a) f l ≡ false → Reads (begun (w.node a))
    ignored l front e = by_rule l front (Rules.Ignores f l) refl refl (untold, e)

    -- an answer to the registrar
    pub hear_answer-chain : (id : Id) (p : Process) (granted : Bool)
        → w.links.queue f a ≡ Letter.LockAnswer id p granted ∷ rest
        → is_process p (registrar a) ≡ true
        → Reads (hear_answer o.bound a (join_number w) f granted (w.node a).current (begun (w.node a)))
    hear_answer-chain id p granted front mine = go (w.node a).current refl
      where
        skip : is_heard f (w.node a).current ≡ false → Reads (begun (w.node a))
        skip e = ignored (Letter.LockAnswer id p granted) front
            (ap (λ (t : Bool). if t then is_heard f (w.node a).current
            else some_call (is_heard_in f) (call_of p (w.node a).calls)) mine ∙ e)

        heard_in : (op : Op) (r : Round) → (w.node a).current ≡ Current.Asking op r → (t : Bool) → owes r f ≡ t
            → Reads (if t then end_round o.bound a (join_number w) op (answer f granted r)
            (at_work (Current.Asking op (answer f granted r))
            (ask_rest o.bound a f granted (Letter.SetLock (Global a) (registrar a)) r (begun (w.node a))))
            else begun (w.node a))
        heard_in op r e true q =
            (end_round-chain o a inside w [] (letter_taken (Deliver f a) w) running (join_number w) (numbers (ap number_in e))
            op (answer f granted r)
            (at_work (Current.Asking op (answer f granted r))
            (ask_rest o.bound a f granted (Letter.SetLock (Global a) (registrar a)) r (begun (w.node a))))
            (by_rule (Letter.LockAnswer id (registrar a) granted)
            (front ∙ ap (λ (x : Process). Letter.LockAnswer id x granted ∷ rest) (is_process-true p (registrar a) mine))
            (Rules.HearsAnswer f id granted op r) refl refl (untold, e, q)) refl).chain
        heard_in op r e false q = skip (ap (is_heard f) e ∙ q)

        go : (c : Current) → (w.node a).current ≡ c
            → Reads (hear_answer o.bound a (join_number w) f granted c (begun (w.node a)))
        go (Current.Asking op r) e = heard_in op r e (owes r f) refl
        go (Current.Waiting op) e = skip (ap (is_heard f) e)
        go (Current.Writing op asked awaited reply) e = skip (ap (is_heard f) e)
        go (Current.Joining k m) e = skip (ap (is_heard f) e)
        go Current.Free e = skip (ap (is_heard f) e)

    -- an answer to a lock call
    pub hear_lock-chain : (id : Id) (p : Process) (granted : Bool)
        → w.links.queue f a ≡ Letter.LockAnswer id p granted ∷ rest
        → is_process p (registrar a) ≡ false → is_ordered a (w.node a).calls ≡ true
        → Reads (hear_lock o.bound a f granted (call_of p (w.node a).calls) (begun (w.node a)))
    hear_lock-chain id p granted front other sorted = go (call_of p (w.node a).calls) refl
      where
        skip : some_call (is_heard_in f) (call_of p (w.node a).calls) ≡ false → Reads (begun (w.node a))
        skip e = ignored (Letter.LockAnswer id p granted) front
            (ap (λ (t : Bool). if t then is_heard f (w.node a).current
            else some_call (is_heard_in f) (call_of p (w.node a).calls)) other ∙ e)

        heard_in : (c : LockCall) → call_of p (w.node a).calls ≡ Some c → (r : Round) → c.phase ≡ LockPhase.Asking r
            → (t : Bool) → owes r f ≡ t
            → Reads (if t then end_lock o.bound a (in_phase (LockPhase.Asking (answer f granted r)) c)
            (answer f granted r)
            (keep_call (in_phase (LockPhase.Asking (answer f granted r)) c)
            (ask_rest o.bound a f granted (Letter.SetLock c.id c.holder) r (begun (w.node a)))) else begun (w.node a))
        heard_in c e r p2 true q =
            (go_on_lock-chain o a Hearing inside w [] (letter_taken (Deliver f a) w) running refl c (answer f granted r)
            (ask_rest o.bound a f granted (Letter.SetLock c.id c.holder) r (begun (w.node a)))
            (by_rule (Letter.LockAnswer id c.holder granted)
            (front ∙ ap (λ (x : Process). Letter.LockAnswer id x granted ∷ rest) (sym found))
            (Rules.HearsLock f id granted c r) refl refl (
              untold,
              subst (λ (x : Process). is_process x (registrar a) ≡ false) (sym found) other,
              record { call = ap (λ (x : Process). call_of x (w.node a).calls) found ∙ e; phase = p2 },
              q,
            ))
            (ordered_found a p (w.node a).calls c sorted e)).chain
          where
            found : c.holder ≡ p
            found = is_process-true c.holder p (call_of-holder p (w.node a).calls c e)
        heard_in c e r p2 false q = skip (ap (some_call (is_heard_in f)) e ∙ ap (is_heard_in f) p2 ∙ q)

        by_phase : (c : LockCall) → call_of p (w.node a).calls ≡ Some c → (x : LockPhase) → c.phase ≡ x
            → Reads (hear_lock_in o.bound a f granted x c (begun (w.node a)))
        by_phase c e (LockPhase.Asking r) q = heard_in c e r q (owes r f) refl
        by_phase c e LockPhase.Waiting q = skip (ap (some_call (is_heard_in f)) e ∙ ap (is_heard_in f) q)
        by_phase c e (LockPhase.Deleting owing) q = skip (ap (some_call (is_heard_in f)) e ∙ ap (is_heard_in f) q)

        go : (x : Option LockCall) → call_of p (w.node a).calls ≡ x
            → Reads (hear_lock o.bound a f granted x (begun (w.node a)))
        go None e = skip (ap (some_call (is_heard_in f)) e)
        go (Some c) e = by_phase c e c.phase refl

    -- a lock was given up
    pub owe_less-chain : (p : Process) → w.links.queue f a ≡ Letter.GivenBack p ∷ rest
        → Reads (owe_less o.bound a f (call_of p (w.node a).calls) (begun (w.node a)))
    owe_less-chain p front = go (call_of p (w.node a).calls) refl
      where
        skip : some_call (is_owed_in f) (call_of p (w.node a).calls) ≡ false → Reads (begun (w.node a))
        skip e = ignored (Letter.GivenBack p) front e

        owing_less : (c : LockCall) → call_of p (w.node a).calls ≡ Some c → (owing : Nodes)
            → c.phase ≡ LockPhase.Deleting owing
            → (t s : Bool) → owing f ≡ t → is_empty o.bound (at owing f false) ≡ s
            → Reads (if t then (if s then close_call o.bound a c true (begun (w.node a))
            else keep_call (in_phase (LockPhase.Deleting (at owing f false)) c) (begun (w.node a)))
            else begun (w.node a))
        owing_less c e owing q true true t s = by_rule (Letter.GivenBack c.holder)
            (front ∙ ap (λ (x : Process). Letter.GivenBack x ∷ rest)
            (sym (is_process-true c.holder p (call_of-holder p (w.node a).calls c e))))
            (Rules.EndsDeletion f c owing) refl refl (
              untold,
              record {
                call =
                    ap (λ (x : Process). call_of x (w.node a).calls)
                    (is_process-true c.holder p (call_of-holder p (w.node a).calls c e)) ∙ e;
                phase = q;
              },
              t,
              s,
            )
        owing_less c e owing q true false t s = by_rule (Letter.GivenBack c.holder)
            (front ∙ ap (λ (x : Process). Letter.GivenBack x ∷ rest)
            (sym (is_process-true c.holder p (call_of-holder p (w.node a).calls c e))))
            (Rules.CountsGivenBack f c owing) refl refl (
              untold,
              record {
                call =
                    ap (λ (x : Process). call_of x (w.node a).calls)
                    (is_process-true c.holder p (call_of-holder p (w.node a).calls c e)) ∙ e;
                phase = q;
              },
              t,
              s,
            )
        owing_less c e owing q false s t r = skip (ap (some_call (is_owed_in f)) e ∙ ap (is_owed_in f) q ∙ t)

        by_phase : (c : LockCall) → call_of p (w.node a).calls ≡ Some c → (x : LockPhase) → c.phase ≡ x
            → Reads (owe_less_in o.bound a f x c (begun (w.node a)))
        by_phase c e (LockPhase.Deleting owing) q =
            owing_less c e owing q (owing f) (is_empty o.bound (at owing f false)) refl refl
        by_phase c e (LockPhase.Asking r) q = skip (ap (some_call (is_owed_in f)) e ∙ ap (is_owed_in f) q)
        by_phase c e LockPhase.Waiting q = skip (ap (some_call (is_owed_in f)) e ∙ ap (is_owed_in f) q)

        go : (x : Option LockCall) → call_of p (w.node a).calls ≡ x → Reads (owe_less o.bound a f x (begun (w.node a)))
        go None e = skip (ap (some_call (is_owed_in f)) e)
        go (Some c) e = by_phase c e c.phase refl

    -- a write was carried out
    pub await_less-chain : w.links.queue f a ≡ Letter.Applied ∷ rest
        → Reads (await_less o.bound a f (w.node a).current (begun (w.node a)))
    await_less-chain front = go (w.node a).current refl
      where
        skip : is_awaited f (w.node a).current ≡ false → Reads (begun (w.node a))
        skip e = ignored Letter.Applied front e

        less : (op : Op) (asked awaited : Nodes) (reply : Option Reply)
            → (w.node a).current ≡ Current.Writing op asked awaited reply
            → (t : Bool) → awaited f ≡ t
            → Reads (if t
            then (if is_empty o.bound (at awaited f false) then done o.bound a op asked reply (begun (w.node a))
            else at_work (Current.Writing op asked (at awaited f false) reply) (begun (w.node a)))
            else begun (w.node a))
        less op asked awaited reply e true q =
            (awaited_less o a inside w [] (letter_taken (Deliver f a) w) running f op asked awaited reply (begun (w.node a))
            (by_rule Letter.Applied front (Rules.CountsApplied f op asked awaited reply) refl refl
            (untold, e, q))).chain
        less op asked awaited reply e false q = skip (ap (is_awaited f) e ∙ q)

        go : (c : Current) → (w.node a).current ≡ c → Reads (await_less o.bound a f c (begun (w.node a)))
        go (Current.Writing op asked awaited reply) e = less op asked awaited reply e (awaited f) refl
        go (Current.Asking op r) e = skip (ap (is_awaited f) e)
        go (Current.Waiting op) e = skip (ap (is_awaited f) e)
        go (Current.Joining k m) e = skip (ap (is_awaited f) e)
        go Current.Free e = skip (ap (is_awaited f) e)

    -- f asks to join
    pub asked_to_admit-chain : (pairs : Table) → w.links.queue f a ≡ Letter.JoinAsk pairs ∷ rest
        → Reads (asked_to_admit o.bound a (join_number w) f pairs (begun (w.node a)))
    asked_to_admit-chain pairs front = go (w.node a).replica.joined refl
      where
        go : (t : Bool) → (w.node a).replica.joined ≡ t
            → Reads (if t then queued o.bound a (Op.Admission f pairs) (begun (w.node a))
            else send f Letter.JoinRefused (enter (Entry.Join f (join_number w f) a NotMember) (begun (w.node a))))
        go true e = by_rule (Letter.JoinAsk pairs) front (Rules.QueuesJoin f pairs) refl refl (untold, e)
        go false e = by_rule (Letter.JoinAsk pairs) front (Rules.RefusesJoin f pairs) refl refl (untold, e)

    -- a join by f is refused
    pub refused_join-chain : w.links.queue f a ≡ Letter.JoinRefused ∷ rest
        → Reads (refused_join o.bound a (join_number w) f (w.node a).current (begun (w.node a)))
    refused_join-chain front = go (w.node a).current refl
      where
        skip : is_joining_by f (w.node a).current ≡ false → Reads (begun (w.node a))
        skip e = ignored Letter.JoinRefused front e

        join : (k m : ℕ) → (w.node a).current ≡ Current.Joining k m → (t : Bool) → (m == f) ≡ t
            → Reads (if t then reply_with a k NotMember (at_work Current.Free (begun (w.node a))) else begun (w.node a))
        join k m e true q = by_rule Letter.JoinRefused front (Rules.EndsJoin f k) refl refl
            (untold, e ∙ ap (λ (x : ℕ). Current.Joining k x) (eqb-true m f q))
        join k m e false q = skip (ap (is_joining_by f) e ∙ q)

        go : (c : Current) → (w.node a).current ≡ c
            → Reads (refused_join o.bound a (join_number w) f c (begun (w.node a)))
        go (Current.Joining k m) e = join k m e (m == f) refl
        go (Current.Asking op r) e = skip (ap (is_joining_by f) e)
        go (Current.Waiting op) e = skip (ap (is_joining_by f) e)
        go (Current.Writing op asked awaited reply) e = skip (ap (is_joining_by f) e)
        go Current.Free e = skip (ap (is_joining_by f) e)

    -- f has j admitted, and these die
    pub admit-chain : (j : ℕ) (settled : Settled)
        → w.links.queue f a ≡ Letter.Admit j settled ∷ rest
        → Reads (send f Letter.Applied (kill o.bound a settled.fate.kills (with_replica (admitted a j settled) (begun (w.node a)))))
    admit-chain j settled front =
        subst (λ (u : Turn). Reads (send f Letter.Applied u))
        (ap (λ (v : Replica). replaced (admitted a j settled v) killed)
        (kill_to-replica o.bound a after.members settled.fate.kills (begun (w.node a)))
        ∙ sym (kill-replaced o.bound a after settled.fate.kills (begun (w.node a))))
        (chain_letter o a Hearing inside w [] killed (Rules.IsAdmitted f j settled) f
        (Letter.Admit j settled) rest running
        (kill_to-chain o a inside w running f (Letter.Admit j settled) rest known front after.members settled.fate.kills
        (begun (w.node a))
        (chain_none o a Hearing w) untold (λ v e. refl) (admitted-members a j settled (w.node a).replica)
        (All-contains_itself settled.fate.kills))
        refl refl known front
        (ap (λ (v : Replica). v.told f) (kill_to-replica o.bound a after.members settled.fate.kills (begun (w.node a))) ∙ untold))
      where
        after : Replica
        after = admitted a j settled (w.node a).replica

        killed : Turn
        killed = kill_to o.bound a after.members settled.fate.kills (begun (w.node a))

    -- a join by f is granted, and these die; who is a member stays one
    pub welcome-chain : (members : Nodes) (pairs : Table) (told : Nodes) (fate : Fate)
        → w.links.queue f a ≡ Letter.Welcome members pairs told fate ∷ rest
        → ((k : ℕ) → (w.node a).current ≡ Current.Joining k f
        → (c : ℕ) → (w.node a).replica.members c ≡ true
        → (welcomed a members pairs told fate (w.node a).replica).members c ≡ true)
        → Reads (welcome o.bound a (join_number w) f members pairs told fate (w.node a).current (begun (w.node a)))
    welcome-chain members pairs told fate front wide = go (w.node a).current refl
      where
        skip : is_joining_by f (w.node a).current ≡ false → Reads (begun (w.node a))
        skip e = ignored (Letter.Welcome members pairs told fate) front e

        after : Replica
        after = welcomed a members pairs told fate (w.node a).replica

        killed : Turn
        killed = kill_to o.bound a after.members fate.kills (begun (w.node a))

        granted : (k : ℕ) → (w.node a).current ≡ Current.Joining k f
            → Reads (send f Letter.Applied (reply_with a k Joined
            (at_work Current.Free
            (kill o.bound a fate.kills (with_replica (welcomed a members pairs told fate) (begun (w.node a)))))))
        granted k e =
            subst (λ (u : Turn). Reads (send f Letter.Applied (reply_with a k Joined (at_work Current.Free u))))
            (ap (λ (v : Replica). replaced (welcomed a members pairs told fate v) killed)
            (kill_to-replica o.bound a after.members fate.kills (begun (w.node a)))
            ∙ sym (kill-replaced o.bound a after fate.kills (begun (w.node a))))
            (chain_letter o a Hearing inside w [] killed (Rules.IsWelcomed f k members pairs told fate) f
            (Letter.Welcome members pairs told fate) rest running
            (kill_to-chain o a inside w running f
            (Letter.Welcome members pairs told fate) rest known front after.members fate.kills (begun (w.node a))
            (chain_none o a Hearing w) untold (λ v q. ap (is_joining_by f) (q ∙ e) ∙ eq-eqb f f refl) (wide k e)
            (All-contains_itself fate.kills))
            refl refl known front (
              ap (λ (v : Replica). v.told f) (kill_to-replica o.bound a after.members fate.kills (begun (w.node a)))
                  ∙ untold,
              kill_to-current o.bound a after.members fate.kills (begun (w.node a)) ∙ e,
            ))

        join : (k m : ℕ) → (w.node a).current ≡ Current.Joining k m → (t : Bool) → (m == f) ≡ t
            → Reads (if t then send f Letter.Applied (reply_with a k Joined
            (at_work Current.Free
            (kill o.bound a fate.kills (with_replica (welcomed a members pairs told fate) (begun (w.node a))))))
            else begun (w.node a))
        join k m e true q = granted k (e ∙ ap (λ (x : ℕ). Current.Joining k x) (eqb-true m f q))
        join k m e false q = skip (ap (is_joining_by f) e ∙ q)

        go : (c : Current) → (w.node a).current ≡ c
            → Reads (welcome o.bound a (join_number w) f members pairs told fate c (begun (w.node a)))
        go (Current.Joining k m) e = join k m e (m == f) refl
        go (Current.Asking op r) e = skip (ap (is_joining_by f) e)
        go (Current.Waiting op) e = skip (ap (is_joining_by f) e)
        go (Current.Writing op asked awaited reply) e = skip (ap (is_joining_by f) e)
        go Current.Free e = skip (ap (is_joining_by f) e)
