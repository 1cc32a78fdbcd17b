-- A call that no rival comes before is chosen: letters are delivered between its node and those that it asks alone, until it has won or
-- its process has died.
-- xs: the events from the opening on.
use mathlib.Core.Logic.{◌⊎◌}
use Rattle.std.proofs.Common.{ℕ, zero, suc, Bool, true, false, ◌==◌, ◌≡◌, ◌<◌, ◌≤◌, Some, None, List, [], ◌∷◌, ◌++◌, drop, length, refl, sym, ap, subst, ◌∙◌, inl, inr, arith}
use Rattle.std.specs.Prelude.{not, ◌&&◌, Contains, nat_lt, if◌then◌else◌}
use Rattle.std.specs.List.{list_all}
use Rattle.std.proofs.lemmas.Bool.{cases_eq, eq-eqb, eqb-true, le-ltb}
use Rattle.std.proofs.lemmas.List.{append-nil, append_assoc}
use Rattle.registry_model.specs.Process.{Text, Process, is_process}
use Rattle.registry_model.specs.Call.{True}
use Rattle.protocol_model.specs.Letter.{Id, Client, Letter, is_id, is_resource}
use Rattle.protocol_model.specs.Links.{is_nil}
use Rattle.protocol_model.specs.LockTable.{Grant, count, is_free_for}
use Rattle.protocol_model.specs.Round.{Round, owes, asked}
use Rattle.protocol_model.specs.Watch.{is_dead}
use Rattle.protocol_model.specs.Node.{LockCall, call_of}
use Rattle.protocol_model.specs.Event.{Event}
use Rattle.protocol_model.specs.World.{Opening, in_world, World, left, WorldEvent, At, Deliver, opening_world, refusal, letter_taken, place, other, happens}
use Rattle.protocol_model.specs.Course.{answers_of}
use Rattle.protocol_model.specs.Fit.{is_delivery}
use Rattle.protocol_model.specs.Answers.{answer_to}
use Rattle.protocol_model.proofs.Ids.{is_id_self}
use Rattle.protocol_model.proofs.Meanings.{grants_the_free}
use Rattle.getting_through.proofs.Indices.{both, not_true, not_false, some_of, greatest_in}
use Rattle.getting_through.proofs.Invariants.{Each, IsUp}
use Rattle.getting_through.proofs.Rules
use Rattle.getting_through.proofs.Rules.{Rule, May, MayAll, Taken}
use Rattle.walk.proofs.Calls.{all_open}
use Rattle.walk.proofs.ChainKinds.{Hearing, suits, leaves_locks}
use Rattle.walk.proofs.Events.{accepted_of}
use Rattle.walk.proofs.Chains.{LeaveLocks, TakeGone, is_gone_by}
use Rattle.walk.proofs.Runs.{happens-accepted}
use Rattle.walk.proofs.Walk.{OrderedWalk}
use Rattle.getting_through.proofs.Locking.{IsNamed, call_of-client}
use Rattle.getting_through.specs.Clauses.{events, world}
use Rattle.getting_through.proofs.Tied.{run-push}
use Rattle.getting_through.proofs.Calls.{home_of_call, holder_of_call}
use Rattle.getting_through.proofs.Clients.{call_at}
use Rattle.getting_through.proofs.Families.{whole}
use Rattle.getting_through.proofs.Grounds.{Base, base_keeps, lock_state}
use Rattle.getting_through.proofs.GrantLists.{all_grants}
use Rattle.getting_through.proofs.Ids.{is_process_same, is_id_same}
use Rattle.getting_through.proofs.Near.{target_member}
use Rattle.getting_through.proofs.RoundFacts.{is_before, asked_of_owes}
use Rattle.getting_through.proofs.RoundNumbers.{round_count}
use Rattle.getting_through.proofs.Serving.{front_named}
use Rattle.getting_through.proofs.Told.{chain_of}
use Rattle.getting_through.proofs.Behind.{walk_of, plain_hears}
use Rattle.getting_through.proofs.Verdicts.{kept_in}
use Rattle.getting_through.proofs.Groups.{below as member_below}
use Rattle.getting_through.specs.Work.{work}
use Rattle.getting_through.proofs.Deliveries.{deliveries_lower}
use Rattle.getting_through.proofs.QuietWorlds.{found_call}
use Rattle.waiting_lock_calls.specs.Retried.{asks, IsRival}
use Rattle.waiting_lock_calls.specs.HeldUp.{boss_of, comes_before}
use Rattle.waiting_lock_calls.proofs.Tried.{still_up, behind, AreTries, first, next_tries, found, home, found_home, up}
use Rattle.waiting_lock_calls.proofs.Unrivalled.{is_clear, is_heard, heard_suits, letter_heard}
use Rattle.waiting_lock_calls.proofs.Becoming.{Stage, Died, Succeeded, GaveUp, Open, goes_on}
use Rattle.waiting_lock_calls.proofs.Winning.{IsSure, asked_runs, free_at_first, IsOnItsWay, first_on_its_way, next_on_its_way, unmet_first, unmet_next, somebody}
use Rattle.waiting_lock_calls.proofs.Front.{is_bad, is_own, is_in_front, none_own, none_behind}
use Rattle.waiting_lock_calls.proofs.Rounds.{InPhase, heard_home, heard_round}
use Rattle.waiting_lock_calls.proofs.Rivals.{Fits, IsAsked, IsRoundOf, IsOrdered, IsApt, ordered_keeps}
use Rattle.waiting_lock_calls.proofs.RivalsFirst.{ordered_first}
use Rattle.waiting_lock_calls.proofs.Standing.{counted, its_round, same_id, rests, has_lock, owes_none, not_idle}
use Rattle.getting_through.specs.Worlds.{of_nodes, IsQuiet}

-- each of these events is accepted in its turn, between nodes that run
abbrev pub AreSound : Opening → World → List WorldEvent → Type 0
AreSound o v [] = Unit {0}
AreSound o v (d ∷ ds) = (refusal o v d ≡ None) × IsUp o v (place d) × IsUp o v (other d) × AreSound o (happens o v d) ds

module _ (o : Opening) (es : List WorldEvent) (a : ℕ) (c : LockCall) (listed : Contains ((world o es).node a).calls c)
    (Q : IsQuiet (of_nodes o) (world o es)) (h : refusal o (world o es) (At a Event.Retry) ≡ None)
    (S : IsSure o es a c listed Q h)
    (none_before : (d : LockCall) → IsRival (world o es) a c d → comes_before o (world o es) a d c ≡ true → ⊥) where
  abbrev w : World
  w = world o es

  abbrev p : Process
  p = c.holder

  abbrev boss : ℕ
  boss = boss_of o w a c

  open_one : (b : LockCall) → Contains (w.node a).calls b → call_of b.holder (w.node a).calls ≡ Some b
  open_one b i = found_call (w.node a).calls (w.node a).calls b (all_open a (w.node a).calls ((whole o es).base.ordered a)) i

  homes : (b : LockCall) → Contains (w.node a).calls b → b.holder.node ≡ a
  homes b i = home_of_call a b.holder (w.node a).calls b ((whole o es).base.ordered a) (open_one b i)

  unique : (b d : LockCall) → Contains (w.node a).calls b → Contains (w.node a).calls d → b.holder ≡ d.holder → b ≡ d
  unique b d i j same = let one : Some b ≡ Some d = sym (open_one b i) ∙ ap (λ (q : Process). call_of q (w.node a).calls) same
      ∙ open_one d j in some_same b d one
    where
      some_same : (x y : LockCall) → Some x ≡ Some y → x ≡ y
      some_same x y e = cc e

  clients : (b : LockCall) → Contains (w.node a).calls b → (b.holder.serial == 0) ≡ false
  clients b i = not_true (b.holder.serial == 0)
      (call_of-client b.holder (w.node a).calls b ((whole o es).base.all.locks.calls a) (open_one b i)).1

  client : (p.serial == 0) ≡ false
  client = clients c listed

  below : (d : LockCall) (x : ℕ) → asks w a d x ≡ true → x < o.bound
  below d x k = member_below o w (whole o es) Q a (up o es a c listed Q h) x (target_member (w.node a).replica.members d.target x k)

  mine : asks w a c boss ≡ true
  mine = let one : (x : ℕ) × (x < o.bound) × (asks w a c x ≡ true) = some_of o.bound (asks w a c) S.free.somebody in
      greatest_in o.bound (asks w a c) one.0 one.1 one.2

  abbrev Ordered : World → Type 0
  Ordered v = IsOrdered o w a c S.resource S.requester S.id client unique clients listed mine v

  stay : (v : World) → Ordered v → left v ≡ left w
  stay v K = K.stay

  ways : (v : World) → Ordered v → (x : ℕ) → asks w a c x ≡ true → all_grants (is_clear c) (v.node x).locks ≡ true
  ways v K = K.ways

  abbrev OnItsWay : List WorldEvent → Type 0
  OnItsWay xs = IsOnItsWay o es a c listed Q h Ordered stay ways xs

  abbrev Tried : List WorldEvent → Type 0
  Tried xs = AreTries o es a c listed Q h xs

  abbrev Staged : List WorldEvent → Type 0
  Staged xs = Stage o es a c listed Q h (Unit {0}) OnItsWay xs

  up_boss : IsUp o w boss
  up_boss = asked_runs o es a c listed Q h boss mine

  ordered_at_first : Ordered (world o (behind o es a c listed Q h))
  ordered_at_first = subst Ordered
      (sym (happens-accepted o w (At a Event.Retry) h) ∙ sym (run-push o (opening_world o) es (At a Event.Retry)))
      (ordered_first o w a c S.resource S.requester S.id client unique clients listed mine (whole o es) Q h below none_before
      (free_at_first o es a c listed Q h S) (up o es a c listed Q h) up_boss)

  -- a link between the call's node and one that it asks
  abbrev IsChosen : ℕ → ℕ → Type 0
  IsChosen f t = ((f ≡ a) × (asks w a c t ≡ true)) ⊎ ((t ≡ a) × (asks w a c f ≡ true))

  -- A letter of such a link is delivered while the call is open
  module _ (xs : List WorldEvent) (T : Tried xs) (e : LockCall) (e_found : call_of p ((world o xs).node a).calls ≡ Some e)
      (e_number : e.number ≡ c.number) (K : OnItsWay xs) where
    abbrev v : World
    v = world o xs

    unmet : T.tries.met ≡ false
    unmet = K.unmet T.tries T.last

    at_home : call_at v p ≡ Some e
    at_home = found_home o es a c listed Q h v e e_found

    up_in : (x : ℕ) → IsUp o w x → IsUp o v x
    up_in = still_up o w v K.tables.stay

    abbrev round : Round
    round = (its_round o es a c listed Q h client xs T e e_found e_number unmet).0

    its : IsRoundOf o w a c S.resource S.requester S.id client unique clients listed mine e round
    its = subst (InPhase o w (IsRoundOf o w a c S.resource S.requester S.id client unique clients listed mine) e)
        (its_round o es a c listed Q h client xs T e e_found e_number unmet).1
        (K.tables.rounds p e at_home (subst (IsUp o w) (sym (home o es a c listed Q h)) (up o es a c listed Q h)))

    is_its : its.call ≡ c
    is_its = unique its.call c its.waited listed (its.its_holder ∙ holder_of_call p (v.node a).calls e e_found)

    boss_is : round.boss ≡ boss
    boss_is = its.its_boss ∙ ap (boss_of o w a) is_its

    -- whom its round asks the call asks
    asks_those : (x : ℕ) → asked round x ≡ true → asks w a c x ≡ true
    asks_those x k = subst (λ (d : LockCall). asks w a d x ≡ true) is_its (its.asks_those x k)

    -- a request in its way is refused
    module _ (f t : ℕ) (inside : in_world o f ≡ true) (up_t : IsUp o v t) (id : Id) (q : Process) (ls : List Letter)
        (front : v.links.queue f t ≡ Letter.SetLock id q ∷ ls) (asks_t : asks w a c t ≡ true) (unclear : is_clear c id q ≡ false) where
      in_way : (is_resource id c.id && not (is_id id c.id)) ≡ true
      in_way = not_false (is_resource id c.id && not (is_id id c.id)) unclear

      parts : (is_resource id c.id ≡ true) × (not (is_id id c.id) ≡ true)
      parts = both (is_resource id c.id) (not (is_id id c.id)) in_way

      -- it is a client's
      its_id : (s : Text) × (y : Text) × (id ≡ Client s y)
      its_id = go id refl
        where
          go : (i : Id) → id ≡ i → (s : Text) × (y : Text) × (id ≡ Client s y)
          go (Client s y) k = (s, y, k)
          go (Id.Global b) k = cc (ap (is_resource (Id.Global b)) S.id, ap (λ (i : Id). is_resource i c.id) k, parts.0)

      is_client : (q.serial == 0) ≡ false
      is_client = not_true (q.serial == 0) (subst (λ (i : Id). IsNamed f t (Letter.SetLock i q)) its_id.2
          (subst (Each (IsNamed f t)) front ((whole o xs).base.all.locks.named f t up_t.1)).0)

      A : IsAsked o w a c S.resource S.requester S.id client unique clients listed mine t id q
      A = (subst (Each (Fits o w a c S.resource S.requester S.id client unique clients listed mine f t)) front
          (K.tables.letters f t inside up_t)).0 is_client

      to_boss : t ≡ boss
      to_boss = A.first asks_t unclear

      from_home : f ≡ a
      from_home = sym (eqb-true q.node f (front_named o f t v (Letter.SetLock id q) ((lock_state o xs).clients.named f t) (ls, front)))
          ∙ sym (ap (λ (x : Process). x.node) A.its_holder) ∙ homes A.call A.waited

      at_front : v.links.queue a boss ≡ Letter.SetLock id q ∷ ls
      at_front = ap (λ (x : ℕ). v.links.queue x boss) (sym from_home) ∙ ap (v.links.queue f) (sym to_boss) ∙ front

      bad : is_bad c (Letter.SetLock id q) ≡ true
      bad = rw (is_client, unclear) refl

      not_own : is_own c (Letter.SetLock id q) ≡ false
      not_own = go (not (q.serial == 0) && is_process q p) refl
        where
          go : (b : Bool) → (not (q.serial == 0) && is_process q p) ≡ b → b ≡ false
          go false i = refl
          go true i =
              let same : q ≡ p = is_process_same q p (both (not (q.serial == 0)) (is_process q p) i).1 in
              let one : A.call ≡ c = unique A.call c A.waited listed (A.its_holder ∙ same) in
              let own : id ≡ c.id = sym A.its_id ∙ ap (λ (d : LockCall). d.id) one in
              cc (ap (λ (i : Id). is_id i c.id) own ∙ is_id_self c.id, parts.1)

      none : none_own c (v.links.queue p.node boss) ≡ true
      none = ap (λ (x : ℕ). none_own c (v.links.queue x boss)) (home o es a c listed Q h) ∙ ap (none_own c) at_front
          ∙ rw (
            not_own,
            none_behind c (Letter.SetLock id q) ls (subst (λ (ms : List Letter). is_in_front c ms ≡ true) at_front K.tables.front)
                bad,
          ) refl

      has : 0 < count c.id p (v.node boss).locks
      has = subst (λ (i : Id). 0 < count i p (v.node boss).locks) (same_id o es a c listed Q h client xs T e e_found e_number unmet)
          (has_lock o es a c listed Q h client xs T e e_found e_number unmet boss mine (up_in boss up_boss) none
          (ap (λ (x : ℕ). is_before (round.mark x)) (sym boss_is)
          ∙ (rests o es a c listed Q h client xs T e e_found e_number unmet).on.boss))

      refused : is_free_for id q (v.node t).locks ≡ false
      refused = ap (λ (x : ℕ). is_free_for id q (v.node x).locks) to_boss ∙ go (is_free_for id q (v.node boss).locks) refl
        where
          symmetric : is_resource c.id id ≡ true
          symmetric = ap (λ (i : Id). is_resource i id) S.id ∙ ap (is_resource (Client S.resource S.requester)) its_id.2
              ∙ eq-eqb S.resource its_id.0 (sym (eqb-true its_id.0 S.resource
              (sym (ap (λ (i : Id). is_resource i c.id) its_id.2 ∙ ap (is_resource (Client its_id.0 its_id.1)) S.id) ∙ parts.0)))

          go : (b : Bool) → is_free_for id q (v.node boss).locks ≡ b → b ≡ false
          go false i = refl
          go true i =
              let g : (g : Grant) × Contains (v.node boss).locks g × (is_id g.id c.id ≡ true) = counted c.id p (v.node boss).locks has in
              let own : g.0.id ≡ c.id = is_id_same g.0.id c.id g.2 in
              let same : g.0.id ≡ id = ((grants_the_free id q (v.node boss).locks).0 i).0 g.0 g.1
              (ap (λ (j : Id). is_resource j id) own ∙ symmetric) in
              cc (ap (λ (j : Id). is_id j c.id) (sym same ∙ own) ∙ is_id_self c.id, parts.1)

    -- The delivery
    module _ (f t : ℕ) (is : refusal o (world o xs) (Deliver f t) ≡ None) (chosen : IsChosen f t) where
      B : Base o v
      B = (whole o xs).base

      up_t : IsUp o v t
      up_t = ((accepted_of o v (Deliver f t) is).place_inside, (accepted_of o v (Deliver f t) is).running)

      -- a rule that takes none but the letter that is delivered
      abbrev is_step : Rule → Bool
      is_step x = is_heard x && is_gone_by v (letter_taken (Deliver f t) v) t (Rules.takes o t x)

      abbrev is_later : Rule → Bool
      is_later x = is_step x && leaves_locks x

      later_suits : (x : Rule) → is_later x ≡ true → suits Hearing x ≡ true
      later_suits x k = heard_suits x (both (is_heard x) (is_gone_by v (letter_taken (Deliver f t) v) t (Rules.takes o t x))
          (both (is_step x) (leaves_locks x) k).0).0

      taken_from : (k : Taken) → is_gone_by v (letter_taken (Deliver f t) v) t (Some k) ≡ true → k.sender ≡ f
      taken_from k = go (k.sender == f) refl
        where
          go : (b : Bool) → (k.sender == f) ≡ b → nat_lt (length (if b && (t == t) then drop 1 (v.links.queue k.sender t)
              else v.links.queue k.sender t)) (length (v.links.queue k.sender t)) ≡ true → k.sender ≡ f
          go true i g = eqb-true k.sender f i
          go false i g = cc (le-ltb (length (v.links.queue k.sender t)) (length (v.links.queue k.sender t)) (omega arith), g)

      -- who is heard is asked by the call
      hears : (u : World) → Base o u → Ordered u → (g : ℕ) (id : Id) (b : Bool) (d : LockCall) (r : Round)
          → May o t u (Rules.HearsLock g id b d r) → g ≡ f → asks w a c g ≡ true
      hears u C KU g id b d r m same = elim chosen [
        | inl k ↦ ap (asks w a c) (same ∙ k.0 ∙ sym at_a) ∙ k.1
        | inr k ↦ ap (asks w a c) same ∙ k.1
      ]
        where
          home_d : d.holder.node ≡ t
          home_d = heard_home o w (IsRoundOf o w a c S.resource S.requester S.id client unique clients listed mine) t u C KU.rounds
              g id b d r m

          I : IsRoundOf o w a c S.resource S.requester S.id client unique clients listed mine d r
          I = heard_round o w (IsRoundOf o w a c S.resource S.requester S.id client unique clients listed mine) t u C KU.rounds KU.stay
              g id b d r m

          at_a : t ≡ a
          at_a = sym home_d ∙ sym (ap (λ (q : Process). q.node) I.its_holder) ∙ homes I.call I.waited

      apt_later : (u : World) → Base o u → Ordered u → (x : Rule) → is_later x ≡ true → May o t u x
          → IsApt o w a c S.resource S.requester S.id client unique clients listed mine t u x
      apt_later u C KU (Rules.HearsLock g id b d r) k m = hears u C KU g id b d r m
          (taken_from (record { sender = g; letter = Letter.LockAnswer id d.holder b })
          (both (is_heard (Rules.HearsLock g id b d r)) (is_gone_by v (letter_taken (Deliver f t) v) t
          (Rules.takes o t (Rules.HearsLock g id b d r)))
          (both (is_step (Rules.HearsLock g id b d r)) (leaves_locks (Rules.HearsLock g id b d r)) k).0).1)
      apt_later u C KU (Rules.Judges g id q) k m = cc (both (is_step (Rules.Judges g id q)) false k).1
      apt_later u C KU x k m = tt

      apt_first : (x : Rule) → is_step x ≡ true → May o t v x
          → IsApt o w a c S.resource S.requester S.id client unique clients listed mine t v x
      apt_first (Rules.HearsLock g id b d r) k m = hears v B K.tables g id b d r m
          (taken_from (record { sender = g; letter = Letter.LockAnswer id d.holder b })
          (both (is_heard (Rules.HearsLock g id b d r)) (is_gone_by v (letter_taken (Deliver f t) v) t
          (Rules.takes o t (Rules.HearsLock g id b d r))) k).1)
      apt_first (Rules.Judges g id q) k m = λ asks_t unclear.
          refused g t m.front.0 (m.inside, m.running) id q m.front.1.0 m.front.1.1 asks_t unclear
      apt_first x k m = tt

      all_steps : (rs : List Rule) → list_all is_heard rs ≡ true → TakeGone o t v (letter_taken (Deliver f t) v) rs
          → list_all is_step rs ≡ true
      all_steps [] k g = refl
      all_steps (x ∷ rs) k g =
          let one : (is_heard x ≡ true) × (list_all is_heard rs ≡ true) = both (is_heard x) (list_all is_heard rs) k in
          let two : (is_gone_by v (letter_taken (Deliver f t) v) t (Rules.takes o t x) ≡ true)
          × TakeGone o t v (letter_taken (Deliver f t) v) rs =
          both (is_gone_by v (letter_taken (Deliver f t) v) t (Rules.takes o t x))
          (list_all (λ y. is_gone_by v (letter_taken (Deliver f t) v) t (Rules.takes o t y)) rs) g in
          rw (one.0, two.0, all_steps rs one.1 two.1) refl

      all_later : (rs : List Rule) → list_all is_step rs ≡ true → list_all leaves_locks rs ≡ true → list_all is_later rs ≡ true
      all_later [] k g = refl
      all_later (x ∷ rs) k g =
          let one : (is_step x ≡ true) × (list_all is_step rs ≡ true) = both (is_step x) (list_all is_step rs) k in
          let two : (leaves_locks x ≡ true) × (list_all leaves_locks rs ≡ true) = both (leaves_locks x) (list_all leaves_locks rs) g in
          rw (one.0, two.0, all_later rs one.1 two.1) refl

      chain : (rs : List Rule) → list_all is_step rs ≡ true → LeaveLocks rs → MayAll o t rs v → Ordered (Rules.effects o t rs v)
      chain [] k g m = K.tables
      chain (x ∷ rs) k g m =
          let one : (is_step x ≡ true) × (list_all is_step rs ≡ true) = both (is_step x) (list_all is_step rs) k in
          kept_in o t is_later later_suits Ordered
          (λ u y j n C KU. ordered_keeps o w a c S.resource S.requester S.id client unique clients listed mine t u C KU y
          (both (is_heard y) (is_gone_by v (letter_taken (Deliver f t) v) t (Rules.takes o t y))
          (both (is_step y) (leaves_locks y) j).0).0 n (apt_later u C KU y j n))
          rs (Rules.effect o t x v) (all_later rs one.1 g) m.1 (base_keeps o t v x B m.0)
          (ordered_keeps o w a c S.resource S.requester S.id client unique clients listed mine t v B K.tables x
          (both (is_heard x) (is_gone_by v (letter_taken (Deliver f t) v) t (Rules.takes o t x)) one.0).0 m.0
          (apt_first x one.0 m.0))

      W : OrderedWalk o v (Deliver f t)
      W = walk_of o v (λ q i x. round_count o xs q i x) (lock_state o xs) (Deliver f t) is

      ordered_next : Ordered (world o (xs ++ Deliver f t ∷ []))
      ordered_next = subst Ordered (W.walk.world ∙ sym (happens-accepted o v (Deliver f t) is)
          ∙ sym (run-push o (opening_world o) xs (Deliver f t)))
          (chain (chain_of o v (Deliver f t) W.walk.rest) (all_steps (chain_of o v (Deliver f t) W.walk.rest)
          (letter_heard o t f (v.links.queue f t) W.walk.rest
          (plain_hears o v (λ q i x. round_count o xs q i x) (lock_state o xs) (Deliver f t) W.walk.rest refl W.in_order) W.walk.quiet)
          W.letters) W.locks W.walk.may)

      staged_next : Staged (xs ++ Deliver f t ∷ [])
      staged_next = goes_on o es a c listed Q h (Unit {0}) OnItsWay xs (Deliver f t) is
          (next_tries o es a c listed Q h xs (Deliver f t) refl T) e e_found e_number
          (λ s. unmet_next o es a c listed Q h Ordered stay ways S xs f t is T e e_found K _
          (next_tries o es a c listed Q h xs (Deliver f t) refl T).last)
          (λ s. somebody o es a c listed Q h Ordered stay ways S)
          (λ s b b_found b_number. next_on_its_way o es a c listed Q h Ordered stay ways S xs f t is T e e_found e_number K ordered_next
          b b_found b_number)

    -- where no such letter is left the call can't be open
    ended : ((x : ℕ) → asks w a c x ≡ true → (v.links.queue a x ≡ []) × (v.links.queue x a ≡ [])) → ⊥
    ended none = not_idle o es a c listed Q h client xs T e e_found e_number unmet (λ x. go x (owes round x) refl)
      where
        go : (x : ℕ) (b : Bool) → owes round x ≡ b → b ≡ false
        go x false i = refl
        go x true i =
            let k : asks w a c x ≡ true = asks_those x (asked_of_owes round x i) in
            cc (
              owes_none o es a c listed Q h client xs T e e_found e_number unmet x k (up_in x (asked_runs o es a c listed Q h x k))
                  (ap (λ (y : ℕ). v.links.queue y x) (home o es a c listed Q h) ∙ (none x k).0)
                  (ap (v.links.queue x) (home o es a c listed Q h) ∙ (none x k).1),
              i,
            )

  -- behind the retry
  begins : Tried (behind o es a c listed Q h) × Staged (behind o es a c listed Q h)
  begins = (
    first o es a c listed Q h,
    goes_on o es a c listed Q h (Unit {0}) OnItsWay es (At a Event.Retry) h (first o es a c listed Q h) c (found o es a c listed Q h) refl
        (λ s. unmet_first o es a c listed Q h Ordered stay ways S)
        (λ s. somebody o es a c listed Q h Ordered stay ways S)
        (λ s e e_found e_number. first_on_its_way o es a c listed Q h Ordered stay ways S ordered_at_first e e_found e_number),
  )

  -- a letter between the call's node and one that it asks, if there is one
  abbrev IsWaiting : World → Type 0
  IsWaiting v = (f : ℕ) × (t : ℕ) × IsChosen f t × (is_nil (v.links.queue f t) ≡ false)

  search : (v : World) (n : ℕ) → IsWaiting v
      ⊎ ((x : ℕ) → x < n → asks w a c x ≡ true → (v.links.queue a x ≡ []) × (v.links.queue x a ≡ []))
  search v zero = inr (λ x l. absurd (omega (arith, l)))
  search v (suc n) = elim (search v n) [ inl f ↦ inl f | inr none ↦ here none (asks w a c n) refl ]
    where
      nil : (ls : List Letter) → is_nil ls ≡ true → ls ≡ []
      nil [] i = refl
      nil (l ∷ ls) i = cc i

      here : ((x : ℕ) → x < n → asks w a c x ≡ true → (v.links.queue a x ≡ []) × (v.links.queue x a ≡ [])) → (b : Bool)
          → asks w a c n ≡ b → IsWaiting v
          ⊎ ((x : ℕ) → x < suc n → asks w a c x ≡ true → (v.links.queue a x ≡ []) × (v.links.queue x a ≡ []))
      here none false e = inr (λ x l k. elim (cases_eq x n) [
        | inl same ↦ cc (ap (asks w a c) same, e, k)
        | inr ne ↦ none x (omega (arith, l, ne)) k
      ])
      here none true e = two (is_nil (v.links.queue a n)) refl (is_nil (v.links.queue n a)) refl
        where
          two : (i : Bool) → is_nil (v.links.queue a n) ≡ i → (j : Bool) → is_nil (v.links.queue n a) ≡ j → IsWaiting v
              ⊎ ((x : ℕ) → x < suc n → asks w a c x ≡ true → (v.links.queue a x ≡ []) × (v.links.queue x a ≡ []))
          two false i j k = inl (a, n, inl (refl, e), i)
          two true i false k = inl (n, a, inr (refl, e), k)
          two true i true k = inr (λ x l m. elim (cases_eq x n) [
            | inl same ↦ subst (λ (y : ℕ). (v.links.queue a y ≡ []) × (v.links.queue y a ≡ [])) (sym same)
                (nil (v.links.queue a n) i, nil (v.links.queue n a) k)
            | inr ne ↦ none x (omega (arith, l, ne)) m
          ])

  -- it has won, or its process has died
  abbrev IsDecided : List WorldEvent → Type 0
  IsDecided xs = Contains (answers_of (events o xs)) (answer_to a c.number True)
      ⊎ (is_dead ((world o xs).node a).watch p.serial ≡ true)

  abbrev Reached : List WorldEvent → Type 0
  Reached xs = (ds : List WorldEvent) × (list_all is_delivery ds ≡ true) × AreSound o (world o xs) ds × IsDecided (xs ++ ds)

  here_at : (xs : List WorldEvent) → IsDecided xs → Reached xs
  here_at xs d = ([], refl, tt, subst IsDecided (sym (append-nil xs)) d)

  accepted_delivery : (v : World) → left v ≡ left w → (f t : ℕ) → IsChosen f t → is_nil (v.links.queue f t) ≡ false
      → (refusal o v (Deliver f t) ≡ None) × IsUp o v t × IsUp o v f
  accepted_delivery v same f t chosen some = elim chosen [
    | inl k ↦ go (ups t (asked_runs o es a c listed Q h t k.1)) (ups f (subst (IsUp o w) (sym k.0) (up o es a c listed Q h)))
    | inr k ↦ go (ups t (subst (IsUp o w) (sym k.0) (up o es a c listed Q h))) (ups f (asked_runs o es a c listed Q h f k.1))
  ]
    where
      ups : (x : ℕ) → IsUp o w x → IsUp o v x
      ups = still_up o w v same

      go : IsUp o v t → IsUp o v f → (refusal o v (Deliver f t) ≡ None) × IsUp o v t × IsUp o v f
      go ut uf = (rw (ut.0, uf.0, ut.1, some) refl, ut, uf)

  -- one delivery after another, where those that follow come to that
  reach_by : (n : ℕ) → ((xs : List WorldEvent) → work o (world o xs) < n → Tried xs → Staged xs → Reached xs)
      → (xs : List WorldEvent) → work o (world o xs) ≤ n → Tried xs → Staged xs → Reached xs
  reach_by n more xs l T (Died dead) = here_at xs (inr dead)
  reach_by n more xs l T (Succeeded i) = here_at xs (inl i)
  reach_by n more xs l T (GaveUp i final unsure) = absurd (unsure tt)
  reach_by n more xs l T (Open e e_found e_number clear) = elim (search (world o xs) o.bound) [
    | inl f ↦ on f
    | inr none ↦ absurd (ended xs T e e_found e_number (clear tt) (λ x k. none x (below c x k) k))
  ]
    where
      on : IsWaiting (world o xs) → Reached xs
      on (f, t, chosen, some) =
          let A : (refusal o (world o xs) (Deliver f t) ≡ None) × IsUp o (world o xs) t × IsUp o (world o xs) f =
          accepted_delivery (world o xs) (clear tt).tables.stay f t chosen some in
          let is : refusal o (world o xs) (Deliver f t) ≡ None = A.0 in
          let less : work o (world o (xs ++ Deliver f t ∷ [])) < work o (world o xs) =
          subst (λ (v : World). work o v < work o (world o xs)) (sym (run-push o (opening_world o) xs (Deliver f t)))
          (deliveries_lower o xs f t is) in
          let R : Reached (xs ++ Deliver f t ∷ []) = more (xs ++ Deliver f t ∷ []) (omega (arith, less, l))
          (next_tries o es a c listed Q h xs (Deliver f t) refl T)
          (staged_next xs T e e_found e_number (clear tt) f t is chosen) in (
            Deliver f t ∷ R.0,
            R.1,
            (A.0, A.1, A.2, subst (λ (v : World). AreSound o v R.0) (run-push o (opening_world o) xs (Deliver f t)) R.2),
            subst IsDecided (append_assoc xs (Deliver f t ∷ []) R.0) R.3,
          )

  reach : (n : ℕ) (xs : List WorldEvent) → work o (world o xs) ≤ n → Tried xs → Staged xs → Reached xs
  reach zero xs l T D = reach_by zero (λ ys k X E. absurd (omega (arith, k))) xs l T D
  reach (suc m) xs l T D = reach_by (suc m) (λ ys k X E. reach m ys (omega (arith, k)) X E) xs l T D

  -- so it is by some deliveries behind the retry
  pub wins_or_dies : Reached (behind o es a c listed Q h)
  wins_or_dies = reach (work o (world o (behind o es a c listed Q h))) (behind o es a c listed Q h) (omega arith) begins.0 begins.1
