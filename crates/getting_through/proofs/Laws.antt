-- Someone gets through, and who asks alone does.
use Rattle.std.proofs.Common.{ℕ, Bool, true, false, ◌==◌, ◌≡◌, ◌<◌, ◌+◌, Option, Some, None, List, [], ◌∷◌, ◌++◌, refl, sym, ap, subst, ◌∙◌, inl, inr, arith}
use Rattle.std.specs.Prelude.{Contains, if◌then◌else◌}
use Rattle.std.specs.List.{list_all}
use Rattle.std.proofs.lemmas.Bool.{eq-eqb, eqb-true, cases_eq, ne_eqb}
use Rattle.std.proofs.lemmas.List.Elements.{Contains-append_right}
use Rattle.registry_model.specs.Process.{Nodes}
use Rattle.registry_model.specs.Call.{NameCall}
use Rattle.registry_model.specs.History.{Entry}
use Rattle.registry_model.proofs.Lists.{Contains-front}
use Rattle.registry_model.proofs.Updates.{at_same}
use Rattle.protocol_model.specs.Letter.{Letter, Global}
use Rattle.protocol_model.specs.Round.{begin, greatest}
use Rattle.protocol_model.specs.Node.{Node, Op, Current}
use Rattle.protocol_model.specs.Turn.{Turn, begun, with_queue, count_call, sent_to}
use Rattle.protocol_model.specs.Registrar.{registrar, ask_global, start_queue, start_next, start_free}
use Rattle.protocol_model.specs.Calling.{queued}
use Rattle.protocol_model.specs.Event.{Call, Event}
use Rattle.protocol_model.specs.World.{Opening, World, left, WorldEvent, At, Deliver, opening_world, accepted, turn_of, happens, run}
use Rattle.protocol_model.specs.Course.{entries_of, course}
use Rattle.protocol_model.specs.Fit.{is_delivery}
use Rattle.protocol_model.specs.Answers.{answer_to}
use Rattle.protocol_model.specs.Quiet.{Runs}
use Rattle.protocol_model.proofs.Courses.{run-append}
use Rattle.no_dead_end.proofs.Indices.{greatest_in}
use Rattle.no_dead_end.proofs.Invariants.{IsUp}
use Rattle.no_dead_end.proofs.Sends.{sent_to-one}
use Rattle.walk.proofs.Events.{accepted_of}
use Rattle.walk.proofs.Runs.{happens-accepted}
use Rattle.no_dead_end.proofs.Base.{after_turn, posted-here}
use Rattle.no_dead_end.proofs.Sessions.{append-cancel, found, request_in}
use Rattle.no_dead_end.proofs.Families.{Whole, whole}
use Rattle.no_dead_end.proofs.Grounds.{Base}
use Rattle.no_dead_end.proofs.AdmitsJoined.{AdmitsJoined, known as admissions_known}
use Rattle.no_dead_end.proofs.CallsAnswered.{rest_is_free}
use Rattle.no_dead_end.proofs.QuietWorlds.{quiet_worlds_rest}
use Rattle.getting_through.specs.Pending.{pending}
use Rattle.getting_through.specs.GettingThrough.{IsAlone, IsStorm, reply_now, Answers, End, SomeoneGetsThrough, RetriesAloneEnd, NameCallsAloneAnswered}
use Rattle.getting_through.proofs.Groups.{below, member_runs}
use Rattle.getting_through.proofs.Storm.{boss, members, DecidedIn, Decided, Still, IsAt, Before, Asking, Active, Asked, simple_sends, still_after}
use Rattle.getting_through.proofs.StormRounds.{marks_begin}
use Rattle.getting_through.proofs.StormEvents.{is_stormy, Known, run_on, heated, decided_at_last, still_first}
use Rattle.getting_through.proofs.Entered.{history_more, entered_answered}
use Rattle.no_dead_end.specs.Worlds.{of_nodes, OfNodes, IsQuiet, IsSettled, is_delivery_or_retry}
use Rattle.no_dead_end.specs.Clauses.{world}

-- What was decided behind these events ends that operation
module _ (o : Opening) (es fs : List WorldEvent) (q : IsQuiet (of_nodes o) (run o (world o es) fs))
    (stay : left (run o (world o es) fs) ≡ left (world o es))
    (ops : ℕ → Option Op) (D : Decided o (world o es) ops (run o (world o es) fs)) where
  abbrev w : World
  w = world o es

  same : world o (es ++ fs) ≡ run o w fs
  same = run-append o (opening_world o) es fs

  entered : DecidedIn o w ops D.node D.op (entries_of (course o w fs))
  entered = subst (DecidedIn o w ops D.node D.op)
      (append-cancel w.history D.more (entries_of (course o w fs)) (sym D.history ∙ history_more o es fs)) D.decided

  answered : (k : ℕ) (call : NameCall) → Contains (entries_of (course o w fs)) (Entry.Name D.node k call (reply_now w D.node call))
      → Answers (of_nodes o) es w D.node k call fs
  answered k call c = entered_answered o (es ++ fs) (subst (IsQuiet (of_nodes o)) (sym same) q) D.node runs
      (Entry.Name D.node k call (reply_now w D.node call)) (answer_to D.node k (reply_now w D.node call)) there here
    where
      runs : IsUp o (world o (es ++ fs)) D.node
      runs = subst (λ (v : World). IsUp o v D.node) (sym same) (D.runs.0, ap (λ (s : Nodes). s D.node) stay ∙ D.runs.1)

      there : Contains (world o (es ++ fs)).history (Entry.Name D.node k call (reply_now w D.node call))
      there = subst (λ (v : World). Contains v.history (Entry.Name D.node k call (reply_now w D.node call))) (sym same)
          (subst (λ (h : List Entry). Contains h (Entry.Name D.node k call (reply_now w D.node call))) (sym (history_more o es fs))
          (Contains-append_right w.history (entries_of (course o w fs)) (Entry.Name D.node k call (reply_now w D.node call)) c))

      here : Contains (if D.node == D.node then answer_to D.node k (reply_now w D.node call) ∷ [] else [])
          (answer_to D.node k (reply_now w D.node call))
      here = subst (λ (b : Bool). Contains (if b then answer_to D.node k (reply_now w D.node call) ∷ [] else [])
          (answer_to D.node k (reply_now w D.node call))) (sym (eq-eqb D.node D.node refl))
          (Contains-front (answer_to D.node k (reply_now w D.node call)) [])

  pub ended : End (of_nodes o) es w D.node D.op fs
  ended = go D.op entered
    where
      go : (x : Op) → DecidedIn o w ops D.node x (entries_of (course o w fs)) → End (of_nodes o) es w D.node x fs
      go (Op.Name k call) c = answered k call c
      go (Op.Strike p) c = c
      go (Op.Admission j pairs) (inl t) = inl ((whole o es).base.all.proper.told_left D.node j D.runs.1 t)
      go (Op.Admission j pairs) (inr c) = inr c
      go (Op.Join k m) c = c

-- what a registrar waits for
abbrev waiting_op : Current → Option Op
waiting_op (Current.Waiting x) = Some x
waiting_op _ = None

is_waiting_op : (c : Current) (x : Op) → waiting_op c ≡ Some x → c ≡ Current.Waiting x
is_waiting_op (Current.Waiting y) x e = cc e
is_waiting_op c x e = cc e

-- one operation of one node
abbrev only : ℕ → Op → ℕ → Option Op
only a op c = if c == a then Some op else None

only_one : (a : ℕ) (op : Op) (c : ℕ) (x : Op) → only a op c ≡ Some x → (c ≡ a) × (op ≡ x)
only_one a op c x = go (c == a) refl
  where
    go : (b : Bool) → (c == a) ≡ b → (if b then Some op else None) ≡ Some x → (c ≡ a) × (op ≡ x)
    go true e h = (eqb-true c a e, cc h)
    go false e h = cc h

all_stormy : (may : Nodes) → ((c : ℕ) → may c ≡ true) → (fs : List WorldEvent) → list_all is_delivery_or_retry fs ≡ true
    → list_all (is_stormy may) fs ≡ true
all_stormy may h [] d = refl
all_stormy may h (Deliver f t ∷ fs) d = all_stormy may h fs d
all_stormy may h (At c Event.Retry ∷ fs) d = rw (h c) (all_stormy may h fs d)
all_stormy may h (At c (Event.Calling x) ∷ fs) d = cc d
all_stormy may h (At c (Event.Exiting p) ∷ fs) d = cc d
all_stormy may h (At c Event.Leave ∷ fs) d = cc d

all_delivered : (may : Nodes) (fs : List WorldEvent) → list_all is_delivery fs ≡ true → list_all (is_stormy may) fs ≡ true
all_delivered may [] d = refl
all_delivered may (Deliver f t ∷ fs) d = all_delivered may fs d
all_delivered may (At c e ∷ fs) d = cc d

-- a's boss runs
boss_runs : (o : Opening) (es : List WorldEvent) (Q : IsQuiet (of_nodes o) (world o es)) (ops : ℕ → Option Op) (a : ℕ) → IsUp o (world o es) a
    → IsUp o (world o es) (boss o (world o es) ops a)
boss_runs o es Q ops a up = member_runs o (world o es) (whole o es) Q a up (boss o (world o es) ops a)
    (greatest_in o.bound (members o (world o es) ops a) a
    (below o (world o es) (whole o es) Q a up a ((whole o es).base.all.proper.itself a up))
    ((whole o es).base.all.proper.itself a up))

module _ (o : Opening) (es : List WorldEvent) (ops : ℕ → Option Op) (may : Nodes)
    (retries : (c : ℕ) (x : Op) → may c ≡ true → ((world o es).node c).current ≡ Current.Waiting x → ops c ≡ Some x)
    (a : ℕ) (op : Op) (allowed : may a ≡ true) (waits : ((world o es).node a).current ≡ Current.Waiting op)
    (up : IsUp o (world o es) a)
    (xs ys : List WorldEvent) (S : IsStorm (of_nodes o) (world o es) a xs ys)
    (before : list_all (is_stormy may) xs ≡ true) (later : list_all (is_stormy may) ys ≡ true) where
  abbrev b : ℕ
  b = boss o (world o es) ops a

  abbrev limit : ℕ
  limit = pending (of_nodes o) (world o es)

  hot : Known o (world o es) (whole o es) S.before ops may retries b (boss_runs o es S.before ops a up) limit true
      (run o (world o es) (xs ++ At a Event.Retry ∷ ys))
  hot = subst (Known o (world o es) (whole o es) S.before ops may retries b (boss_runs o es S.before ops a up) limit true)
      (sym (run-append o (world o es) xs (At a Event.Retry ∷ ys)))
      (run_on o (world o es) (whole o es) S.before ops may retries b (boss_runs o es S.before ops a up) limit true ys later
      (happens o (run o (world o es) xs) (At a Event.Retry))
      (heated o (world o es) (whole o es) S.before ops may retries b (boss_runs o es S.before ops a up) limit a op allowed
      waits refl
      (run o (world o es) xs)
      (run_on o (world o es) (whole o es) S.before ops may retries b (boss_runs o es S.before ops a up) limit false xs before
      (world o es)
      (record {
        base = (whole o es).base;
        admissions = (admissions_known o es).here;
        stay = refl;
        most = omega arith;
        state = inl (still_first o es S.before ops, λ c. Before refl, λ h. cc h);
      }))
      S.accepted))

  someone : (c : ℕ) × (x : Op) × Runs o (world o es) c × (ops c ≡ Some x) × End (of_nodes o) es (world o es) c x (xs ++ At a Event.Retry ∷ ys)
      × (pending (of_nodes o) (run o (world o es) (xs ++ At a Event.Retry ∷ ys)) < pending (of_nodes o) (world o es))
  someone = (D.0.node, D.0.op, D.0.runs, D.0.may, ended o es (xs ++ At a Event.Retry ∷ ys) S.behind hot.stay ops D.0, D.1)
    where
      D : Decided o (world o es) ops (run o (world o es) (xs ++ At a Event.Retry ∷ ys))
          × (pending (of_nodes o) (run o (world o es) (xs ++ At a Event.Retry ∷ ys)) < limit)
      D = decided_at_last o (world o es) (whole o es) S.before ops may retries b (boss_runs o es S.before ops a up) limit
          (run o (world o es) (xs ++ At a Event.Retry ∷ ys))
          (subst (Whole o) (run-append o (opening_world o) es (xs ++ At a Event.Retry ∷ ys))
          (whole o (es ++ (xs ++ At a Event.Retry ∷ ys))))
          S.behind hot

pub someone_gets_through : OfNodes SomeoneGetsThrough
someone_gets_through o es a op xs ys up waits S = (E.0, E.1, E.2, is_waiting_op ((world o es).node E.0).current E.1 E.3, E.4, E.5)
  where
    E : (c : ℕ) × (x : Op) × Runs o (world o es) c × (waiting_op ((world o es).node c).current ≡ Some x)
        × End (of_nodes o) es (world o es) c x (xs ++ At a Event.Retry ∷ ys)
        × (pending (of_nodes o) (run o (world o es) (xs ++ At a Event.Retry ∷ ys)) < pending (of_nodes o) (world o es))
    E = someone o es (λ c. waiting_op ((world o es).node c).current) (λ c. true) (λ c x h e. ap waiting_op e) a op refl waits up xs
        ys S
        (all_stormy (λ c. true) (λ c. refl) xs S.first) (all_stormy (λ c. true) (λ c. refl) ys S.later)

pub retries_alone_end : OfNodes RetriesAloneEnd
retries_alone_end o es a op ds up waits A =
    let E : (c : ℕ) × (x : Op) × Runs o (world o es) c × (only a op c ≡ Some x)
    × End (of_nodes o) es (world o es) c x (At a Event.Retry ∷ ds)
    × (pending (of_nodes o) (run o (world o es) (At a Event.Retry ∷ ds)) < pending (of_nodes o) (world o es)) =
    someone o es (only a op) (λ c. c == a) only_retried a op (eq-eqb a a refl) waits up [] ds (record {
      before = A.before;
      first = refl;
      accepted = A.accepted;
      later = delivered ds A.delivered;
      behind = A.behind;
    }) refl (all_delivered (λ c. c == a) ds A.delivered) in
    let one : (E.0 ≡ a) × (op ≡ E.1) = only_one a op E.0 E.1 E.3 in
    subst (λ (x : Op). End (of_nodes o) es (world o es) a x (At a Event.Retry ∷ ds)) (sym one.1)
    (subst (λ (c : ℕ). End (of_nodes o) es (world o es) c E.1 (At a Event.Retry ∷ ds)) one.0 E.4)
  where
    only_retried : (c : ℕ) (x : Op) → (c == a) ≡ true → ((world o es).node c).current ≡ Current.Waiting x → only a op c ≡ Some x
    only_retried c x h e = let same : c ≡ a = eqb-true c a h in
        rw h (ap Some (let i : op ≡ x = cc (waits, ap (λ (y : ℕ). ((world o es).node y).current) same, e) in i))

    delivered : (fs : List WorldEvent) → list_all is_delivery fs ≡ true → list_all is_delivery_or_retry fs ≡ true
    delivered [] d = refl
    delivered (Deliver f t ∷ fs) d = delivered fs d
    delivered (At c e ∷ fs) d = cc d

-- A name call of a free registrar
module _ (o : Opening) (es : List WorldEvent) (a : ℕ) (call : NameCall) (ds : List WorldEvent) (S : IsSettled (of_nodes o) (world o es))
    (A : IsAlone (of_nodes o) (world o es) (At a (Event.Calling (Call.OnName call))) ds) where
  abbrev v : World
  v = world o es

  abbrev calls : WorldEvent
  calls = At a (Event.Calling (Call.OnName call))

  up : IsUp o v a
  up = ((accepted_of o v calls A.accepted).place_inside, (accepted_of o v calls A.accepted).running)

  free : ((v.node a).current ≡ Current.Free) × ((v.node a).queue ≡ [])
  free = rest_is_free (Runs o v) v a S.retried up ((quiet_worlds_rest o es S.quiet).registrars a up)

  abbrev op : Op
  op = Op.Name ((v.node a).last_call + 1) call

  abbrev first : Turn
  first = queued o.bound a op (count_call (begun (v.node a)))

  abbrev u : Turn
  u = ask_global o.bound a op (with_queue [] first)

  turn_is : turn_of o v calls ≡ u
  turn_is = ap (λ (c : Current). start_free o.bound a c first) free.0
      ∙ ap (λ (s : Option ℕ). start_next o.bound a s first) ((whole o es).started a free.0).strikes
      ∙ ap (λ (ops : List Op). start_queue o.bound a (ops ++ op ∷ []) first) ((whole o es).started a free.0).queue

  abbrev host : ℕ
  host = boss o v (only a op) a

  none_retried : (c : ℕ) (x : Op) → false ≡ true → (v.node c).current ≡ Current.Waiting x → only a op c ≡ Some x
  none_retried c x h e = cc h

  abbrev request : Letter
  request = Letter.SetLock (Global a) (registrar a)

  to_host : sent_to host u.sends ≡ request ∷ []
  to_host = sent_to-one host (greatest o.bound (v.node a).replica.members) request ∙ rw (eq-eqb host host refl) refl

  link_is : (after_turn a v u None).links.queue a host ≡ request ∷ []
  link_is = posted-here a (λ c. sent_to c u.sends) v.links host (boss_runs o es A.before (only a op) a up).1
      ∙ ap (λ (ls : List Letter). ls ++ sent_to host u.sends) (A.before a host up.0 (boss_runs o es A.before (only a op) a up))
      ∙ to_host

  active : Active o v (only a op) host (after_turn a v u None)
  active = Asked a up (λ e. cc (sym (ap (found request_in) link_is) ∙ e))

  abbrev at_call : ℕ
  at_call = pending (of_nodes o) (accepted o v calls)

  known : Known o v (whole o es) A.before (only a op) (λ c. false) none_retried host (boss_runs o es A.before (only a op) a up)
      at_call true (happens o v calls)
  known = subst (Known o v (whole o es) A.before (only a op) (λ c. false) none_retried host
      (boss_runs o es A.before (only a op) a up) at_call true)
      (sym (happens-accepted o v calls A.accepted)) (record {
        base = subst (Base o) (run-append o (opening_world o) es (calls ∷ []) ∙ happens-accepted o v calls A.accepted)
            (whole o (es ++ calls ∷ [])).base;
        admissions = subst (AdmitsJoined o)
            (run-append o (opening_world o) es (calls ∷ []) ∙ happens-accepted o v calls A.accepted)
            (admissions_known o (es ++ calls ∷ [])).here;
        stay = refl;
        most = omega arith;
        state = inl (subst (λ (t : Turn). Still o v (only a op) (after_turn a v t None)
            × ((c : ℕ) → IsAt o v (only a op) c (after_turn a v t None))
            × (true ≡ true → Active o v (only a op) host (after_turn a v t None))) (sym turn_is) (
              still_after o v (only a op) v a u None (still_first o es A.before (only a op)) (record {
                parts = record { replica = refl; watch = refl; queue = sym ((whole o es).started a free.0).queue };
                sends = simple_sends o v (only a op) a u refl;
                locks = λ d s out. s;
                entries = refl;
              }),
              at,
              λ h. active,
            ));
      })
    where
      at : (c : ℕ) → IsAt o v (only a op) c (after_turn a v u None)
      at c = elim (cases_eq c a) [
        | inl same ↦ subst (λ (x : ℕ). IsAt o v (only a op) x (after_turn a v u None)) (sym same)
            (Asking op (begin o.bound (v.node a).replica.members) (ap (λ (x : Node). x.current) (at_same v.node a u.node)) (record {
              up = up;
              op = rw (eq-eqb a a refl) refl;
              its_boss = refl;
              marks = marks_begin o v (only a op) a (below o v (whole o es) A.before a up);
            }) active)
        | inr ne ↦ Before (rw (ne_eqb c a ne) refl)
      ]

  pub through : Answers (of_nodes o) es v a ((v.node a).last_call + 1) call (calls ∷ ds)
  through = subst (λ (x : Op). End (of_nodes o) es v a x (calls ∷ ds)) (sym one.1)
      (subst (λ (c : ℕ). End (of_nodes o) es v c D.op (calls ∷ ds)) one.0 (ended o es (calls ∷ ds) A.behind last.stay (only a op) D))
    where
      last : Known o v (whole o es) A.before (only a op) (λ c. false) none_retried host (boss_runs o es A.before (only a op) a up)
          at_call true
          (run o v (calls ∷ ds))
      last = run_on o v (whole o es) A.before (only a op) (λ c. false) none_retried host (boss_runs o es A.before (only a op) a up)
          at_call true ds
          (all_delivered (λ c. false) ds A.delivered) (happens o v calls) known

      D : Decided o v (only a op) (run o v (calls ∷ ds))
      D = (decided_at_last o v (whole o es) A.before (only a op) (λ c. false) none_retried host
          (boss_runs o es A.before (only a op) a up) at_call
          (run o v (calls ∷ ds)) (subst (Whole o) (run-append o (opening_world o) es (calls ∷ ds)) (whole o (es ++ calls ∷ ds)))
          A.behind last).0

      one : (D.node ≡ a) × (op ≡ D.op)
      one = only_one a op D.node D.op D.may

pub name_calls_alone_are_answered : OfNodes NameCallsAloneAnswered
name_calls_alone_are_answered o es a call ds S A = through o es a call ds S A
