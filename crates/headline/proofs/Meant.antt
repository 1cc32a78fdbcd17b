-- What a test of the headline says that passes.
use mathlib.Core.Logic.{◌⊎◌}
use Rattle.std.proofs.Common.{ℕ, Bool, true, false, ◌==◌, ◌-◌, ◌≡◌, ◌<◌, Option, Some, None, List, [], ◌∷◌, ◌++◌, filter, refl, sym, subst, ap, inl, inr}
use Rattle.std.specs.Prelude.{not, ◌&&◌, ◌||◌, if◌then◌else◌, nat_lt, fold, option_map, Contains}
use Rattle.std.specs.List.{list_any, list_all, slice_get}
use Rattle.std.proofs.lemmas.Bool.{eq-eqb, eqb-true, and_parts, and_from, ltb-true}
use Rattle.registry_model.specs.Call.{Look, Reply, Joined, Pid, is_reply}
use Rattle.registry_model.specs.Process.{Process}
use Rattle.registry_model.specs.Registry.{Registry, Replica, in_group, replica_of}
use Rattle.registry_model.specs.History.{Entry, Standing, Hold, hold_at, after}
use Rattle.registry_model.proofs.Lists.{Contains-front, Contains-behind, Contains-cases, Contains-nil}
use Rattle.protocol_model.specs.Links.{is_nil}
use Rattle.protocol_model.specs.Event.{Call, Event, Answer, Refusal, HoldsLock}
use Rattle.protocol_model.specs.World.{Opening, World, WorldEvent, At, Deliver, place}
use Rattle.protocol_model.specs.Course.{Played, seen}
use Rattle.protocol_model.specs.Fit.{is_read, maker_of, is_by_letter, is_delivery, IsMadeIn}
use Rattle.protocol_model.specs.Answers.{answer_to, is_prompt, due, is_admission_of, is_unnumbered, may_have, IsNoLookUp, LooksUpOnce, AtMostOne, AnswersInTime}
use Rattle.protocol_model.specs.Answers.AtMostOne.{NotYet, Once}
use Rattle.protocol_model.specs.Headline.{IsRunning}
use Rattle.protocol_model.specs.Tests.{is_look, is_list, is_answer, are_nodes, is_table, is_truth}
use Rattle.protocol_model.specs.Check.{is_made_in, is_looked_up, is_given_at, is_spawned, looks_up_once, may_be_answered, is_at_most_one, is_joined_in_time, answers_in_time, is_joiner_answered, all_entries, is_leave, is_holder, is_running, shows, group_all}
use Rattle.moves.proofs.Indices.{empty_at, not_false}
use Rattle.headline.specs.Tie.{ShowsBelow}
use Rattle.headline.proofs.Told

-- the second passes, where the first does
pub so : (a b : Bool) → (a && not b) ≡ false → a ≡ true → b ≡ true
so true b e i = not_false b e
so false b e i = cc

-- the same of an `or`
pub so_or : (a b : Bool) → (not a || b) ≡ true → a ≡ true → b ≡ true
so_or true b e i = e
so_or false b e i = cc

-- one of two
pub either : (a b : Bool) → (a || b) ≡ true → (a ≡ true) ⊎ (b ≡ true)
either true b e = inl refl
either false b e = inr e

-- each item passes
pub all_at : {A : Type 0} (passes : A → Bool) (xs : List A) → list_all passes xs ≡ true → (x : A) → Contains xs x →
    passes x ≡ true
all_at passes [] e x c = absurd (Contains-nil x c)
all_at {A} passes (y ∷ xs) e x c =
    let parts : (passes y ≡ true) × (list_all passes xs ≡ true) = and_parts (passes y) (list_all passes xs) e in
    elim (Contains-cases y xs x c) [
      | inl i ↦ subst (λ (z : A). passes z ≡ true) i parts.0
      | inr h ↦ all_at passes xs parts.1 x h
    ]

-- an answer that is found is there
pub found : (s : Answer) (ss : List Answer) → list_any (is_answer s) ss ≡ true → Contains ss s
found s [] e = cc
found s (t ∷ ss) e = elim (either (is_answer s t) (list_any (is_answer s) ss) e) [
  | inl i ↦ subst (λ (u : Answer). Contains (u ∷ ss) s) (Told.answer s t i) (Contains-front s ss)
  | inr h ↦ Contains-behind t ss s (found s ss h)
]

-- each entry passes behind those before it
pub entries_at : (passes : Standing → Entry → Bool) (t : Standing) (es earlier later : List Entry) (e : Entry) →
    all_entries passes t es ≡ true → es ≡ earlier ++ e ∷ later → passes (fold after t earlier) e ≡ true
entries_at passes t es [] later e h i =
    let k : all_entries passes t (e ∷ later) ≡ true = subst (λ (fs : List Entry). all_entries passes t fs ≡ true) i h in
    (and_parts (passes t e) (all_entries passes (after t e) later) k).0
entries_at passes t es (f ∷ earlier) later e h i =
    let k : all_entries passes t (f ∷ earlier ++ e ∷ later) ≡ true =
    subst (λ (fs : List Entry). all_entries passes t fs ≡ true) i h in
    entries_at passes (after t f) (earlier ++ e ∷ later) earlier later e
    (and_parts (passes t f) (all_entries passes (after t f) (earlier ++ e ∷ later)) k).1 refl

-- an entry that passes is made in its step
pub made : (p : Played) (e : Entry) → is_made_in p e ≡ true → IsMadeIn p e
made p e h =
    let parts : ((maker_of e == place p.event) ≡ true) × ((not (is_by_letter e) || is_delivery p.event) ≡ true) =
    and_parts _ _ h in
    record { place = eqb-true (maker_of e) (place p.event) parts.0; letter = so_or _ _ parts.1 }

-- a list that passes as empty
nothing : {A : Type 0} (xs : List A) → is_nil xs ≡ true → xs ≡ []
nothing [] e = refl
nothing (x ∷ xs) e = cc

-- one entry and one answer of a look-up
looked : (a : ℕ) (look : Look) (es : List Entry) (ss : List Answer) → is_looked_up a look es ss ≡ true →
    (reply : Reply) × (es ≡ Entry.Read a look reply ∷ []) × (ss ≡ answer_to a 0 reply ∷ [])
looked a look (Entry.Read b sight reply ∷ []) (s ∷ []) e =
    let one : ((a == b) && is_look look sight ≡ true) × (is_answer s (answer_to a 0 reply) ≡ true) = and_parts _ _ e in
    let two : ((a == b) ≡ true) × (is_look look sight ≡ true) = and_parts _ _ one.0 in
    let same : a ≡ b = Told.number a b two.0 in
    let sight_is : look ≡ sight = Told.look look sight two.1 in
    let said : s ≡ answer_to a 0 reply = Told.answer s (answer_to a 0 reply) one.1 in
    (reply, cc, ap (λ (u : Answer). u ∷ []) said)
looked a look _ _ e = cc

-- the answer to a `spawn`
given_at : (a : ℕ) (s : Answer) (reply : Reply) → is_given_at a s reply ≡ true →
    (q : Process) × (q.node ≡ a) × (s ≡ answer_to a 0 (Pid q))
given_at a s (Pid q) e =
    let parts : ((q.node == a) ≡ true) × (is_answer s (answer_to a 0 (Pid q)) ≡ true) = and_parts _ _ e in
    (q, eqb-true q.node a parts.0, Told.answer s (answer_to a 0 (Pid q)) parts.1)
given_at a s _ e = cc

-- no entry and one answer of a `spawn`
spawned : (a : ℕ) (es : List Entry) (ss : List Answer) → is_spawned a es ss ≡ true →
    (q : Process) × (q.node ≡ a) × (es ≡ []) × (ss ≡ answer_to a 0 (Pid q) ∷ [])
spawned a [] (s ∷ []) e =
    let (q, home, said) : (q : Process) × (q.node ≡ a) × (s ≡ answer_to a 0 (Pid q)) = given_at a s s.reply e in
    (q, home, refl, ap (λ (u : Answer). u ∷ []) said)
spawned a _ _ e = cc

-- neither entry nor answer
no_look_up : (p : Played) → (is_nil (filter is_read p.entries) && is_nil (filter is_unnumbered p.answers)) ≡ true →
    IsNoLookUp p
no_look_up p e =
    let parts : (is_nil (filter is_read p.entries) ≡ true) × (is_nil (filter is_unnumbered p.answers) ≡ true) =
    and_parts _ _ e in
    record { entered = nothing _ parts.0; answered = nothing _ parts.1 }

-- what a step enters of look-ups, and answers
pub looking : (e : WorldEvent) (given : List Answer) (es : List Entry) (down : Bool) →
    looks_up_once (record { event = e; answers = given; entries = es; down = down }) ≡ true →
    LooksUpOnce (record { event = e; answers = given; entries = es; down = down })
looking (At a (Event.Calling (Call.LookUp look))) given es down h =
    let (reply, entered, answered) : (reply : Reply) × (filter is_read es ≡ Entry.Read a look reply ∷ [])
    × (filter is_unnumbered given ≡ answer_to a 0 reply ∷ []) =
    looked a look (filter is_read es) (filter is_unnumbered given) h in
    record { reply = reply; entered = entered; answered = answered }
looking (At a (Event.Calling Call.Spawn)) given es down h =
    let (q, home, entered, answered) : (q : Process) × (q.node ≡ a) × (filter is_read es ≡ [])
    × (filter is_unnumbered given ≡ answer_to a 0 (Pid q) ∷ []) =
    spawned a (filter is_read es) (filter is_unnumbered given) h in
    record { process = q; home = home; entered = entered; answered = answered }
looking (At a (Event.Calling (Call.OnName c))) given es down h = no_look_up _ h
looking (At a (Event.Calling (Call.SetLock p r q target retries))) given es down h = no_look_up _ h
looking (At a (Event.Calling (Call.DelLock p r q target))) given es down h = no_look_up _ h
looking (At a (Event.Calling (Call.JoinBy m))) given es down h = no_look_up _ h
looking (At a Event.Retry) given es down h = no_look_up _ h
looking (At a (Event.Exiting p)) given es down h = no_look_up _ h
looking (At a Event.Leave) given es down h = no_look_up _ h
looking (Deliver f t) given es down h = no_look_up _ h

-- a call that may have the reply
may_be : (x : Option Call) (reply : Reply) → may_be_answered x reply ≡ true →
    (call : Call) × (x ≡ Some call) × (may_have call reply ≡ true)
may_be None reply e = cc
may_be (Some call) reply e = (call, refl, e)

-- answers of node a under number k, which pass
pub at_most_one : (calls : List Call) (a k : ℕ) (ss : List Answer) → is_at_most_one calls k ss ≡ true →
    ((s : Answer) → Contains ss s → s ≡ answer_to a k s.reply) → AtMostOne calls a k ss
at_most_one calls a k [] e own = NotYet
at_most_one calls a k (s ∷ []) e own =
    let (call, there, may) : (call : Call) × (slice_get calls (k - 1) ≡ Some call) × (may_have call s.reply ≡ true) =
    may_be (slice_get calls (k - 1)) s.reply e in
    subst (λ (u : Answer). AtMostOne calls a k (u ∷ [])) (sym (own s (Contains-front s [])))
    (Once call s.reply there may)
at_most_one calls a k (s ∷ t ∷ ss) e own = cc

-- answers in time
pub in_time : (t : Standing) (p : Played) (u : Standing) → answers_in_time t p u ≡ true → AnswersInTime t p u
in_time t p u e =
    let parts : (is_list is_answer (filter is_prompt p.answers) (due t p.entries) ≡ true)
    × (list_all (is_joined_in_time t u) p.answers ≡ true) = and_parts _ _ e in
    record {
      prompt = Told.list is_answer Told.answer (filter is_prompt p.answers) (due t p.entries) parts.0;
      joined = λ s c i. and_parts (is_admission_of s (hold_at t s.node)) (is_admission_of s (hold_at u s.node))
          (so_or (is_reply s.reply Joined) _ (all_at (is_joined_in_time t u) p.answers parts.1 s c)
          (subst (λ (r : Reply). is_reply r Joined ≡ true) (sym i) refl));
    }

-- the joiner of an admission that ends
pub joiner : (given : List Answer) (r : Registry) (m : ℕ) (x : Option Hold) (hold : Hold) (j k : ℕ) →
    is_joiner_answered given r m x ≡ true → x ≡ Some hold → hold.node ≡ m → hold.entry ≡ Entry.Join j k m Joined →
    (r.left j ≡ true) ⊎ Contains given (answer_to j k Joined)
joiner given r m x hold j k e there own entry = elim (either _ _ (so_or (m == m) _ passes (eq-eqb m m refl))) [
  | inl l ↦ inl l
  | inr h ↦ inr (found (answer_to j k Joined) given h)
]
  where
    here : is_joiner_answered given r m (Some hold) ≡ true
    here = subst (λ (y : Option Hold). is_joiner_answered given r m y ≡ true) there e

    passes : (not (m == m) || (r.left j || list_any (is_answer (answer_to j k Joined)) given)) ≡ true
    passes = subst (λ (f : Entry). (elim f [
      | Entry.Join j k n Joined ↦ not (n == m) || (r.left j || list_any (is_answer (answer_to j k Joined)) given)
      | _ ↦ true
    ]) ≡ true) entry (so_or (hold.node == m) _ here (eq-eqb hold.node m own))

-- a refusal of a leave
pub leave : (b : Bool) (x : Option Refusal) → is_leave b x ≡ true → x ≡ (if b then Some HoldsLock else None)
leave true None e = cc
leave false None e = refl
leave true (Some HoldsLock) e = refl
leave false (Some HoldsLock) e = cc
leave b (Some _) e = cc

-- the holder
pub holding : (x : Option ℕ) (y : Option Hold) → is_holder x y ≡ true → x ≡ option_map (λ hold. hold.node) y
holding None None e = refl
holding (Some a) (Some hold) e = ap (λ (b : ℕ). let o : Option ℕ = Some b in o) (eqb-true a hold.node e)
holding _ _ e = cc

module _ (o : Opening) where
  -- who runs passes as running, and is below the bound
  pub running : (u : Standing) (a : ℕ) → IsRunning o u a → is_running o u a ≡ true
  running u a (inside, stays) = and_from _ _ inside (rw stays refl)

  pub bounded : (u : Standing) (a : ℕ) → IsRunning o u a → a < o.bound
  bounded u a (inside, stays) = ltb-true a o.bound (and_parts (nat_lt a o.bound) (o.nodes a) inside).0

  -- what a node shows
  pub shown : (r : Registry) (a : ℕ) (w : World) → shows o r a w ≡ true → ShowsBelow o r a (seen o w)
  shown r a w e =
      let v : Replica = (w.node a).replica in
      let u : Replica = replica_of r a in
      let one : (is_table v.table u.table && are_nodes o.bound v.members u.members && are_nodes o.bound v.told u.told
      ≡ true)
      × (is_truth v.joined u.joined ≡ true) = and_parts _ _ e in
      let two : (is_table v.table u.table && are_nodes o.bound v.members u.members ≡ true)
      × (are_nodes o.bound v.told u.told ≡ true) = and_parts _ _ one.0 in
      let three : (is_table v.table u.table ≡ true) × (are_nodes o.bound v.members u.members ≡ true) =
      and_parts _ _ two.0 in
      record {
        table = Told.table v.table u.table three.0;
        members = Told.nodes o.bound v.members u.members three.1;
        told = Told.nodes o.bound v.told u.told two.1;
        joined = Told.truth v.joined u.joined one.1;
      }

  -- each running node of a group passes
  pub group_at : (u : Standing) (a : ℕ) (passes : ℕ → Bool) → group_all o u a passes ≡ true → (c : ℕ) →
      in_group u.registry a c ≡ true → IsRunning o u c → passes c ≡ true
  group_at u a passes e c i r = so (in_group u.registry a c && is_running o u c) (passes c)
      (empty_at o.bound _ e c (bounded u c r)) (and_from _ _ i (running u c r))
