-- A call whose lock is free where it asks, and that has no rival, meets nothing for which it may fail: so it wins, unless its process
-- dies.
-- xs: the events from the opening on.
use Rattle.std.proofs.Common.{ℕ, Bool, true, false, ◌==◌, ◌≡◌, ◌<◌, ◌+◌, ◌-◌, Option, Some, None, List, [], ◌∷◌, ◌++◌, refl, sym, ap, subst, ◌∙◌, arith}
use Rattle.std.specs.Prelude.{not, ◌&&◌, ◌||◌, Contains, is_none, find, if◌then◌else◌}
use Rattle.std.specs.List.{list_any}
use Rattle.std.proofs.Math.Bool.{and-false}
use Rattle.std.proofs.lemmas.Bool.{eq-eqb, eqb-true, lt-ltb, and_from}
use Rattle.std.proofs.lemmas.Grind.{flat_map-append}
use Rattle.std.proofs.lemmas.List.Elements.{Contains-append_left, Contains-append_right}
use Rattle.registry_model.specs.Process.{Text, Process, is_process, Nodes}
use Rattle.registry_model.specs.Call.{True, is_reply}
use Rattle.registry_model.proofs.Lists.{Contains-nil}
use Rattle.protocol_model.specs.Letter.{Id, Client, Letter, is_id, is_resource}
use Rattle.protocol_model.specs.LockTable.{Grant, Locks, count, last_count, is_in_the_way, refused_by, is_free_for}
use Rattle.protocol_model.specs.Round.{is_empty}
use Rattle.protocol_model.specs.Watch.{is_dead}
use Rattle.protocol_model.specs.Node.{LockCall, call_of}
use Rattle.protocol_model.specs.Event.{Event, Answer, Refusal}
use Rattle.protocol_model.specs.ClientLocks.{Try, gives, is_no_more, holds_count, Holds}
use Rattle.protocol_model.specs.LockAnswers.{Tries, watched, tries_by, tries_of, meets, is_asked_first}
use Rattle.protocol_model.specs.World.{Opening, World, left, WorldEvent, At, Deliver, opening_world, refusal, accepted, happens, answers, run}
use Rattle.protocol_model.specs.Course.{Played, played, answers_of}
use Rattle.protocol_model.specs.Answers.{answers_under}
use Rattle.protocol_model.specs.Refusals.{HasOpenCall}
use Rattle.protocol_model.proofs.Finding.{any_found}
use Rattle.getting_through.proofs.Indices.{both, is_empty_from, some_of}
use Rattle.getting_through.proofs.Invariants.{IsUp}
use Rattle.walk.proofs.Events.{accepted_of}
use Rattle.walk.proofs.Runs.{happens-accepted}
use Rattle.getting_through.proofs.Unanswered.{kept_in}
use Rattle.getting_through.specs.Clauses.{events, world}
use Rattle.getting_through.proofs.Asked.{all_from}
use Rattle.getting_through.proofs.Tied.{run-push}
use Rattle.getting_through.proofs.HeadlineUnanswered.{open_waits}
use Rattle.getting_through.proofs.Calls.{home_of_call}
use Rattle.getting_through.proofs.Clients.{call_at, lives, IsLive, live_parts, caller_lives}
use Rattle.getting_through.proofs.Families.{whole}
use Rattle.getting_through.proofs.Grounds.{lock_state}
use Rattle.getting_through.proofs.GrantLists.{all_grants}
use Rattle.getting_through.proofs.Ids.{is_process_same, is_process_self, is_id_same}
use Rattle.getting_through.proofs.LocksTold.{no_empty_grants}
use Rattle.getting_through.proofs.Mail
use Rattle.getting_through.proofs.RoundNumbers.{round_count, round_count_from, round_count_after, next_round_count, is_won_by_round, is_true_to_call, is_tried}
use Rattle.getting_through.proofs.SessionMoves.{take_front}
use Rattle.getting_through.proofs.Sessions
use Rattle.getting_through.proofs.Sessions.{Ask, Takes, Echo, View, Owed, view, settled, Live}
use Rattle.getting_through.proofs.Tallies.{numbers_agree}
use Rattle.getting_through.proofs.Near.{target_member}
use Rattle.getting_through.proofs.HeadlineClients.{grounds}
use Rattle.getting_through.proofs.Together.{All}
use Rattle.getting_through.proofs.Groups.{member_runs}
use Rattle.getting_through.proofs.Behind.{plain_tries}
use Rattle.getting_through.proofs.LastTry.{tries_more, tries_behind}
use Rattle.getting_through.proofs.Nobody.{some_same}
use Rattle.getting_through.proofs.Pushed.{events_push}
use Rattle.waiting_lock_calls.specs.Retried.{asks}
use Rattle.waiting_lock_calls.proofs.Tried.{still_up, behind, AreTries, first, first_met, found, home, found_home, up}
use Rattle.waiting_lock_calls.proofs.Unrivalled.{is_clear}
use Rattle.getting_through.specs.Worlds.{of_nodes, IsQuiet}
use Rattle.getting_through.specs.QuietCalls.{IsFree}

-- one event more, in the number of a process's locks
count_more : (o : Opening) (w : World) (xs : List WorldEvent) (d : WorldEvent) (p : Process) (id : Id) (x k : ℕ)
    → round_count_from o w (xs ++ d ∷ []) p id x k ≡ round_count_after o (run o w xs) d p id x (round_count_from o w xs p id x k)
count_more o w [] d p id x k = refl
count_more o w (e ∷ xs) d p id x k = count_more o (happens o w e) xs d p id x (round_count_after o w e p id x k)

module _ (o : Opening) (es : List WorldEvent) (a : ℕ) (c : LockCall) (listed : Contains ((world o es).node a).calls c)
    (Q : IsQuiet (of_nodes o) (world o es)) (h : refusal o (world o es) (At a Event.Retry) ≡ None) where
  abbrev w : World
  w = world o es

  abbrev p : Process
  p = c.holder

  abbrev Tried : List WorldEvent → Type 0
  Tried xs = AreTries o es a c listed Q h xs

  -- its lock is free where it asks
  pub record IsSure : Type 0 where
    pub resource : Text
    pub requester : Text
    pub id : c.id ≡ Client resource requester
    pub free : IsFree o es p resource requester (asks w a c)

  -- whom it asks runs
  pub asked_runs : (x : ℕ) → asks w a c x ≡ true → IsUp o w x
  asked_runs x mine = member_runs o w (whole o es) Q a (up o es a c listed Q h) x (target_member (w.node a).replica.members c.target x mine)

  -- no grant stands in its way there
  pub free_at_first : IsSure → (x : ℕ) → asks w a c x ≡ true → all_grants (is_clear c) (w.node x).locks ≡ true
  free_at_first S x mine = all_from (λ (g : Grant). is_clear c g.id g.holder) (w.node x).locks each
    where
      each : (g : Grant) → Contains (w.node x).locks g → not (is_resource g.id c.id && not (is_id g.id c.id)) ≡ true
      each g i = go (is_resource g.id c.id) refl
        where
          held : Holds o es g.holder g.id x
          held = no_empty_grants o es x Q (asked_runs x mine) g i

          same : (j : Id) → g.id ≡ j → is_resource j (Client S.resource S.requester) ≡ true
              → is_id j (Client S.resource S.requester) ≡ true
          same (Client s y) e k =
              let one : s ≡ S.resource = eqb-true s S.resource k in
              let two : y ≡ S.requester = S.free.others x g.holder y mine
              (subst (λ (n : Id). Holds o es g.holder n x) (e ∙ ap (λ (n : Text). Client n y) one) held) in
              rw (eq-eqb s S.resource one, eq-eqb y S.requester two) refl
          same (Id.Global n) e k = cc k

          go : (t : Bool) → is_resource g.id c.id ≡ t → not (t && not (is_id g.id c.id)) ≡ true
          go false k = refl
          go true k = ap (λ (t : Bool). not (not t)) (ap (is_id g.id) S.id ∙ same g.id refl (sym (ap (is_resource g.id) S.id) ∙ k))

  -- Tables: what is kept of the world, by which nobody has left and no grant stands in the way
  module _ (Tables : World → Type 0) (stay : (v : World) → Tables v → left v ≡ left w)
      (ways : (v : World) → Tables v → (x : ℕ) → asks w a c x ≡ true → all_grants (is_clear c) (v.node x).locks ≡ true) where
    -- nothing was met so far, p holds the lock as often as before, and no grant stands in the way
    pub record IsOnItsWay (xs : List WorldEvent) : Type 0 where
      pub unmet : (t : Tries) → tries_of o xs p ≡ Some t → t.met ≡ false
      pub counts : (x : ℕ) → round_count o xs p c.id x ≡ round_count o es p c.id x
      pub tables : Tables (world o xs)

    module _ (S : IsSure) where
      -- A letter is delivered while the call is open
      module _ (xs : List WorldEvent) (f t : ℕ) (is : refusal o (world o xs) (Deliver f t) ≡ None) (T : Tried xs)
          (e : LockCall) (e_found : call_of p ((world o xs).node a).calls ≡ Some e) (K : IsOnItsWay xs) where
        abbrev v : World
        v = world o xs

        abbrev d : WorldEvent
        d = Deliver f t

        up_a : IsUp o v a
        up_a = still_up o w v (stay v K.tables) a (up o es a c listed Q h)

        up_t : IsUp o v t
        up_t = ((accepted_of o v d is).place_inside, (accepted_of o v d is).running)

        at_home : call_at v p ≡ Some e
        at_home = found_home o es a c listed Q h v e e_found

        living : lives o v p ≡ true
        living = caller_lives o v (λ q i x. round_count o xs q i x) (lock_state o xs).clients p e
            (subst (λ (x : ℕ). left v x ≡ false) (sym (home o es a c listed Q h)) up_a.1) at_home

        -- where its request comes, p has the lock as often as it holds it
        held : (ls : List Letter) → v.links.queue p.node t ≡ Letter.SetLock c.id p ∷ ls
            → count c.id p (v.node t).locks ≡ round_count o xs p c.id t
        held ls front = omega (arith, l.sum c.id, rest, none)
          where
            ups : Mail.asks p (v.links.queue p.node t) ≡ Takes c.id ∷ Mail.asks p ls
            ups = ap (Mail.asks p) front
                ∙ ap (λ (b : Bool). (if b then Takes c.id ∷ [] else []) ++ Mail.asks p ls) (is_process_self p)

            l : Live (view (call_at v p) t) (Mail.asks p (v.links.queue p.node t)) (Mail.echoes p (v.links.queue t p.node))
                (λ i. count i p (v.node t).locks) (λ i. round_count o xs p i t)
            l = (lock_state o xs).clients.sessions p t living up_t

            was : (j : Id) × (view (call_at v p) t ≡ Owed j) × (c.id ≡ j) × (Mail.asks p ls ≡ [])
                × (Mail.echoes p (v.links.queue t p.node) ≡ [])
            was = take_front (view (call_at v p) t) c.id (Mail.asks p ls) (Mail.echoes p (v.links.queue t p.node))
                (subst (λ (us : List Ask). Sessions.fits (view (call_at v p) t) us (Mail.echoes p (v.links.queue t p.node)) ≡ true)
                ups l.fit)

            rest : settled c.id (Mail.asks p (v.links.queue p.node t)) (count c.id p (v.node t).locks) ≡ count c.id p (v.node t).locks
            rest = ap (λ (us : List Ask). settled c.id us (count c.id p (v.node t).locks))
                (ups ∙ ap (λ (us : List Ask). Takes c.id ∷ us) was.3)

            none : Sessions.due c.id (view (call_at v p) t) (Mail.echoes p (v.links.queue t p.node)) ≡ 0
            none = ap (λ (y : View). Sessions.due c.id y (Mail.echoes p (v.links.queue t p.node))) was.1
                ∙ ap (λ (y : List Echo). Sessions.due c.id (Owed was.0) y) was.4

        -- so it is granted there
        granted : (ls : List Letter) → v.links.queue p.node t ≡ Letter.SetLock c.id p ∷ ls → asks w a c t ≡ true
            → is_free_for c.id p (v.node t).locks ≡ true
        granted ls front mine =
            ap (λ (x : Option Grant). is_none (refused_by c.id p (v.node t).locks x)) (clear (v.node t).locks (ways v K.tables t mine))
            ∙ ap (λ (b : Bool). is_none (if b then None else Some c.id)) (lt-ltb (count c.id p (v.node t).locks) last_count few)
          where
            clear : (ls : Locks) → all_grants (is_clear c) ls ≡ true
                → find (is_in_the_way c.id) ls ≡ None
            clear [] k = refl
            clear (g ∷ ls) k =
                let parts : (not (is_in_the_way c.id g) ≡ true) × (all_grants (is_clear c) ls ≡ true) =
                both (not (is_in_the_way c.id g)) (all_grants (is_clear c) ls) k in
                go (is_in_the_way c.id g) parts.0 (clear ls parts.1)
              where
                go : (b : Bool) → not b ≡ true → find (is_in_the_way c.id) ls ≡ None
                    → (if b then Some g else find (is_in_the_way c.id) ls) ≡ None
                go true i j = cc i
                go false i j = j

            few : count c.id p (v.node t).locks < last_count
            few = subst (λ (n : ℕ). n < last_count) (sym (held ls front ∙ K.counts t ∙ sym (same_number t)
                ∙ ap (λ (i : Id). holds_count o es p i t) S.id)) (S.free.room t mine)
              where
                same_number : (x : ℕ) → holds_count o es p c.id x ≡ round_count o es p c.id x
                same_number x = numbers_agree o (All o) (grounds o) es p c.id x

        -- nothing is met
        calm : (l : Try) → l.asks ≡ asks w a c → l.id ≡ c.id → meets o v d p l ≡ false
        calm l asked id = ap (λ (b : Bool). not b || ((((f == p.node) && l.asks t) && is_asked_first l.id p (v.links.queue f t))
            && not (is_free_for l.id p (v.node t).locks))) none_left
            ∙ go (((f == p.node) && l.asks t) && is_asked_first l.id p (v.links.queue f t)) refl
          where
            none_left : is_empty o.bound (λ x. l.asks x && left (happens o v d) x) ≡ true
            none_left = is_empty_from o.bound (λ x. l.asks x && left (happens o v d) x) (λ x below. by x (l.asks x) refl)
              where
                by : (x : ℕ) (b : Bool) → l.asks x ≡ b → (b && left (happens o v d) x) ≡ false
                by x false i = refl
                by x true i = ap (λ (u : World). left u x) (happens-accepted o v d is)
                    ∙ ap (λ (s : Nodes). s x) (stay v K.tables)
                    ∙ (asked_runs x (ap (λ (s : Nodes). s x) (sym asked) ∙ i)).1

            go : (b : Bool) → (((f == p.node) && l.asks t) && is_asked_first l.id p (v.links.queue f t)) ≡ b
                → (b && not (is_free_for l.id p (v.node t).locks)) ≡ false
            go false i = refl
            go true i = ap not (ap (λ (j : Id). is_free_for j p (v.node t).locks) id
                ∙ request (v.links.queue f t) refl parts.1)
              where
                parts : (((f == p.node) && l.asks t) ≡ true) × (is_asked_first l.id p (v.links.queue f t) ≡ true)
                parts = both ((f == p.node) && l.asks t) (is_asked_first l.id p (v.links.queue f t)) i

                two : ((f == p.node) ≡ true) × (l.asks t ≡ true)
                two = both (f == p.node) (l.asks t) parts.0

                request : (ls : List Letter) → v.links.queue f t ≡ ls → is_asked_first l.id p ls ≡ true
                    → is_free_for c.id p (v.node t).locks ≡ true
                request (Letter.SetLock j q ∷ ls) front k =
                    let own : (is_id j l.id ≡ true) × (is_process q p ≡ true) = both (is_id j l.id) (is_process q p) k in
                    granted ls (ap (λ (x : ℕ). v.links.queue x t) (sym (eqb-true f p.node two.0)) ∙ front
                    ∙ ap (λ (y : Id). Letter.SetLock y q ∷ ls) (is_id_same j l.id own.0 ∙ id)
                    ∙ ap (λ (y : Process). Letter.SetLock c.id y ∷ ls) (is_process_same q p own.1))
                    (ap (λ (s : Nodes). s t) (sym asked) ∙ two.1)
                request [] front k = cc k
                request (y ∷ ls) front k = cc k

        pub unmet_next : (x : Tries) → tries_of o (xs ++ d ∷ []) p ≡ Some x → x.met ≡ false
        unmet_next x e = ap (λ (t : Tries). t.met)
            (sym (some_same (record T.tries { met = T.tries.met || meets o v d p T.tries.last }) x now))
            ∙ ap (λ (b : Bool). b || meets o v d p T.tries.last) (K.unmet T.tries T.last) ∙ calm T.tries.last T.asked T.id
          where
            now : watched o v d p (Some T.tries) ≡ Some x
            now = sym (tries_behind o p xs d is ∙ plain_tries o v p (tries_of o xs p) d refl ∙ ap (watched o v d p) T.last) ∙ e

      -- An event behind which the call is open leaves p's numbers
      module _ (xs : List WorldEvent) (d : WorldEvent) (is : refusal o (world o xs) d ≡ None)
          (silent : (x : ℕ) → gives (world o xs) d p c.id x ≡ false)
          (b : LockCall) (b_found : call_of p ((world o xs).node a).calls ≡ Some b) (b_number : b.number ≡ c.number)
          (e : LockCall) (e_found : call_of p ((world o (xs ++ d ∷ [])).node a).calls ≡ Some e) (e_number : e.number ≡ c.number)
          (runs_on : left (world o (xs ++ d ∷ [])) a ≡ false) where
        abbrev ys : List WorldEvent
        ys = xs ++ d ∷ []

        lives_on : IsLive o (world o ys) p
        lives_on = live_parts o (world o ys) p (caller_lives o (world o ys) (λ q i x. round_count o ys q i x) (lock_state o ys).clients p e
            (subst (λ (x : ℕ). left (world o ys) x ≡ false) (sym (home o es a c listed Q h)) runs_on)
            (ap (λ (x : ℕ). call_of p ((world o ys).node x).calls) (home o es a c listed Q h) ∙ e_found))

        there_now : happens o (world o xs) d ≡ world o ys
        there_now = sym (run-push o (opening_world o) xs d)

        alive : is_no_more (happens o (world o xs) d) p ≡ false
        alive = ap (λ (v : World). is_no_more v p) there_now
            ∙ ap (λ (t : Bool). t || is_dead ((world o ys).node p.node).watch p.serial) lives_on.up ∙ lives_on.alive

        -- it isn't answered
        unwon : list_any (is_true_to_call b) (answers o (world o xs) d) ≡ false
        unwon = go (list_any (is_true_to_call b) (answers o (world o xs) d)) refl
          where
            go : (t : Bool) → list_any (is_true_to_call b) (answers o (world o xs) d) ≡ t → t ≡ false
            go false i = refl
            go true i =
                let s : (s : Answer) × Contains (answers o (world o xs) d) s × (is_true_to_call b s ≡ true) =
                any_found (is_true_to_call b) (answers o (world o xs) d) i in
                let two : (((s.0.node == b.holder.node) && (s.0.number == b.number)) ≡ true) × (is_reply s.0.reply True ≡ true) =
                both ((s.0.node == b.holder.node) && (s.0.number == b.number)) (is_reply s.0.reply True) s.2 in
                let own : ((s.0.node == b.holder.node) ≡ true) × ((s.0.number == b.number) ≡ true) =
                both (s.0.node == b.holder.node) (s.0.number == b.number) two.0 in
                absurd (Contains-nil s.0 (subst (λ (ss : List Answer). Contains ss s.0) unanswered
                (kept_in (λ (x : Answer). (x.node == a) && (x.number == c.number)) (answers_of (events o ys)) s.0 (now s.0 s.1)
                (and_from (s.0.node == a) (s.0.number == c.number)
                (eq-eqb s.0.node a (eqb-true s.0.node b.holder.node own.0
                ∙ home_of_call a p ((world o xs).node a).calls b ((whole o xs).base.ordered a) b_found))
                (eq-eqb s.0.number c.number (eqb-true s.0.number b.number own.1 ∙ b_number))))))
              where
                unanswered : answers_under a c.number (events o ys) ≡ []
                unanswered = let W : (C : HasOpenCall (events o ys) a p) × (C.number ≡ e.number) = open_waits o ys a p e e_found in
                    ap (λ (k : ℕ). answers_under a k (events o ys)) (sym (W.1 ∙ e_number)) ∙ W.0.unanswered

                now : (s : Answer) → Contains (answers o (world o xs) d) s → Contains (answers_of (events o ys)) s
                now s j = subst (λ (ps : List Played). Contains (answers_of ps) s) (sym (events_push o xs d is))
                    (subst (λ (ss : List Answer). Contains ss s)
                    (sym (flat_map-append (λ (q : Played). q.answers) (events o xs) (played o (world o xs) d ∷ [])))
                    (Contains-append_right (answers_of (events o xs)) (answers o (world o xs) d ++ []) s
                    (Contains-append_left (answers o (world o xs) d) [] s j)))

        counts_next : (x : ℕ) → round_count o ys p c.id x ≡ round_count o xs p c.id x
        counts_next x = count_more o (opening_world o) xs d p c.id x 0
            ∙ ap (λ (r : Option Refusal). if is_none r
            then next_round_count o (world o xs) d p c.id x (round_count o xs p c.id x) else round_count o xs p c.id x) is
            ∙ ap (λ (t : Bool). if t then 0 else (if is_won_by_round c.id x (answers o (world o xs) d) (call_at (world o xs) p)
            then round_count o xs p c.id x + 1
            else (if gives (world o xs) d p c.id x then round_count o xs p c.id x - 1 else round_count o xs p c.id x))) alive
            ∙ ap (λ (t : Bool). if t then round_count o xs p c.id x + 1
            else (if gives (world o xs) d p c.id x then round_count o xs p c.id x - 1 else round_count o xs p c.id x)) lost
            ∙ ap (λ (t : Bool). if t then round_count o xs p c.id x - 1 else round_count o xs p c.id x) (silent x)
          where
            lost : is_won_by_round c.id x (answers o (world o xs) d) (call_at (world o xs) p) ≡ false
            lost = ap (is_won_by_round c.id x (answers o (world o xs) d))
                (ap (λ (y : ℕ). call_of p ((world o xs).node y).calls) (home o es a c listed Q h) ∙ b_found)
                ∙ ap (λ (t : Bool). is_tried c.id x b && t) unwon ∙ and-false (is_tried c.id x b)

      pub somebody : (x : ℕ) × (asks w a c x ≡ true)
      somebody = let one : (x : ℕ) × (x < o.bound) × (asks w a c x ≡ true) = some_of o.bound (asks w a c) S.free.somebody in
          (one.0, one.2)

      -- at first nothing is met, since nobody left
      pub unmet_first : (first o es a c listed Q h).tries.met ≡ false
      unmet_first = first_met o es a c listed Q h ∙ ap (λ (b : Bool). not b || false) (is_empty_from o.bound
          (λ x. T.tries.last.asks x && left (happens o w (At a Event.Retry)) x) (λ x below. by x (T.tries.last.asks x) refl))
        where
          T : Tried (behind o es a c listed Q h)
          T = first o es a c listed Q h

          by : (x : ℕ) (b : Bool) → T.tries.last.asks x ≡ b → (b && left (happens o w (At a Event.Retry)) x) ≡ false
          by x false i = refl
          by x true i = ap (λ (u : World). left u x) (happens-accepted o w (At a Event.Retry) h)
              ∙ (asked_runs x (ap (λ (s : Nodes). s x) (sym T.asked) ∙ i)).1

      runs_on : (xs : List WorldEvent) → Tables (world o xs) → left (world o xs) a ≡ false
      runs_on xs K = ap (λ (s : Nodes). s a) (stay (world o xs) K) ∙ (up o es a c listed Q h).1

      pub first_on_its_way : Tables (world o (behind o es a c listed Q h)) → (e : LockCall)
          → call_of p ((world o (behind o es a c listed Q h)).node a).calls ≡ Some e
          → e.number ≡ c.number → IsOnItsWay (behind o es a c listed Q h)
      first_on_its_way tables e e_found e_number = record {
        unmet = λ t i. ap (λ (x : Tries). x.met) (some_same t T.tries (sym i ∙ T.last)) ∙ unmet_first;
        counts = λ x. counts_next es (At a Event.Retry) h (λ y. refl) c (found o es a c listed Q h) refl e e_found e_number
            (runs_on (behind o es a c listed Q h) tables) x;
        tables = tables;
      }
        where
          T : Tried (behind o es a c listed Q h)
          T = first o es a c listed Q h

      pub next_on_its_way : (xs : List WorldEvent) (f t : ℕ) → refusal o (world o xs) (Deliver f t) ≡ None → Tried xs → (b : LockCall)
          → call_of p ((world o xs).node a).calls ≡ Some b → b.number ≡ c.number → IsOnItsWay xs → Tables (world o (xs ++ Deliver f t ∷ []))
          → (e : LockCall)
          → call_of p ((world o (xs ++ Deliver f t ∷ [])).node a).calls ≡ Some e → e.number ≡ c.number
          → IsOnItsWay (xs ++ Deliver f t ∷ [])
      next_on_its_way xs f t is T b b_found b_number K tables e e_found e_number = record {
        unmet = unmet_next xs f t is T b b_found K;
        counts = λ x. counts_next xs (Deliver f t) is (λ y. refl) b b_found b_number e e_found e_number
            (runs_on (xs ++ Deliver f t ∷ []) tables) x ∙ K.counts x;
        tables = tables;
      }

      -- a refused event changes nothing
      pub stays_on_its_way : (xs : List WorldEvent) (d : WorldEvent) (x : Refusal) → refusal o (world o xs) d ≡ Some x
          → IsOnItsWay xs → IsOnItsWay (xs ++ d ∷ [])
      stays_on_its_way xs d x is K = record {
        unmet = λ t i. K.unmet t (sym (tries_more o p xs d (opening_world o) None ∙ ap (λ (r : Option Refusal). if is_none r
            then tries_by o (world o xs) d p (tries_of o xs p) else tries_of o xs p) is) ∙ i);
        counts = λ y. count_more o (opening_world o) xs d p c.id y 0 ∙ ap (λ (r : Option Refusal). if is_none r
            then next_round_count o (world o xs) d p c.id y (round_count o xs p c.id y) else round_count o xs p c.id y) is ∙ K.counts y;
        tables = subst Tables (sym (run-push o (opening_world o) xs d
            ∙ ap (λ (r : Option Refusal). if is_none r then accepted o (world o xs) d else world o xs) is)) K.tables;
      }
