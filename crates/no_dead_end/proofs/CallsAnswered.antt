-- Where a node waits for nothing it has answered its calls.
use Rattle.std.proofs.Common.{ℕ, true, false, ◌==◌, ◌≡◌, ◌-◌, Some, List, [], ◌∷◌, ◌++◌, refl, sym, ap, subst, ◌∙◌}
use Rattle.std.specs.Prelude.{Contains, filter, flat_map}
use Rattle.std.specs.List.{slice_get}
use Rattle.std.proofs.lemmas.Bool.{eq-eqb, eqb-true, and_from}
use Rattle.std.proofs.lemmas.List.{append-nil}
use Rattle.registry_model.specs.Process.{Process}
use Rattle.registry_model.specs.Call.{Reply, True}
use Rattle.registry_model.proofs.Lists.{Contains-front, Contains-nil}
use Rattle.protocol_model.specs.Watch.{is_dead}
use Rattle.protocol_model.specs.Node.{Op, Current, LockPhase, LockCall, call_of}
use Rattle.protocol_model.specs.Event.{Call, Answer, is_waiting}
use Rattle.protocol_model.specs.World.{Opening, World, WorldEvent, opening_world, run}
use Rattle.protocol_model.specs.Course.{Played, answers_of}
use Rattle.protocol_model.specs.Fit.{Numbered, accepted_at, decided_at}
use Rattle.protocol_model.specs.Answers.{answer_to, number_of, entered_at, may_have, calls_at, answers_under, AtMostOne, NotYet, Once}
use Rattle.protocol_model.specs.Quiet.{Runs}
use Rattle.named_events.proofs.Indices.{both}
use Rattle.named_events.proofs.Accounts.{own, owed_by, is_word_at, replies_to}
use Rattle.named_events.proofs.FittingChains.{Book}
use Rattle.named_events.proofs.Once.{is_under, is_number, Paired, paired_history, paired_filter}
use Rattle.named_events.proofs.Theorem
use Rattle.named_events.proofs.Unanswered.{kept_in}
use Rattle.named_events.specs.Clauses.{events, world}
use Rattle.named_events.proofs.Answered.{ledgers, calls_answered}
use Rattle.named_events.proofs.LockAnswers.{IsCalled, is_for}
use Rattle.named_events.proofs.OpenCalls.{Stands, Gone, Answered, Waits}
use Rattle.named_events.proofs.OpenEvents.{all_stand}
use Rattle.named_events.proofs.Passing.{item_filtered}
use Rattle.named_events.proofs.Story.{ground}
use Rattle.named_events.proofs.Together.{Whole, whole_opens, run_whole, replicas}
use Rattle.no_dead_end.specs.QuietWorlds.{AtRest, Idle, Refused, Knocks}
use Rattle.no_dead_end.specs.Answering.{IsDeletion, QuietWorldsAnswer, SettledWorldsAnswer}
use Rattle.no_dead_end.proofs.QuietWorlds.{call_listed, quiet_worlds_rest}
use Rattle.named_events.specs.Worlds.{OfNodes}

-- calls that are paired with answers, where there is one
first_answer : (a : ℕ) (ns : List Numbered) (xs : List Answer) → Paired a ns xs → (n : Numbered) → Contains ns n
    → (s : Answer) × Contains xs s
first_answer a [] xs p n i = absurd (Contains-nil n i)
first_answer a (m ∷ ns) [] p n i = absurd p
first_answer a (m ∷ ns) (x ∷ xs) p n i = (x, Contains-front x xs)

module _ (o : Opening) (es : List WorldEvent) where
  abbrev w : World
  w = world o es

  abbrev ps : List Played
  ps = events o es

  -- an answer under a number has its reply
  module _ (a k : ℕ) (p : Process) (D : IsDeletion ps a k p) where
    abbrev call : Call
    call = Call.DelLock p D.resource D.requester D.target

    is_true : (reply : Reply) → may_have call reply ≡ true → reply ≡ True
    is_true True h = refl
    is_true _ h = cc

    replied : (s : Answer) → Contains (answers_under a k ps) s → Contains (answers_of ps) (answer_to a k True)
    replied s i = go (answers_under a k ps) refl ((calls_answered o es).once a k D.positive)
      where
        go : (ss : List Answer) → answers_under a k ps ≡ ss → AtMostOne (calls_at a ps) a k ss
            → Contains (answers_of ps) (answer_to a k True)
        go ss e NotYet = absurd (Contains-nil s (subst (λ (l : List Answer). Contains l s) e i))
        go ss e (Once c reply found may) =
            let same : c ≡ call = cc (found, D.accepted) in
            let yes : reply ≡ True = is_true reply (ap (λ (x : Call). may_have x reply) (sym same) ∙ may) in
            subst (λ (r : Reply). Contains (answers_of ps) (answer_to a k r)) yes
            (item_filtered (is_under a k) (answers_of ps) (answer_to a k reply)
            (subst (λ (l : List Answer). Contains l (answer_to a k reply)) (sym e) (Contains-front (answer_to a k reply) []))).0

    -- no call that waits for a retry is a deletion
    not_waiting : (c : LockCall) → call_of p (w.node a).calls ≡ Some c → c.number ≡ k → c.phase ≡ LockPhase.Waiting → ⊥
    not_waiting c e n h =
        let I : IsCalled (calls_at a ps) p c.number c.phase = (ledgers o es a).called p c e in
        let found : slice_get (calls_at a ps) (k - 1) ≡ Some I.call =
        subst (λ (j : ℕ). slice_get (calls_at a ps) (j - 1) ≡ Some I.call) n I.found in
        let same : I.call ≡ call = cc (found, D.accepted) in
        cc (ap (λ (x : Call). is_for x c.phase) same, ap (is_for call) h, I.suits)

    -- so it is answered where all that is open waits for a retry
    pub deletion_answered : ((c : LockCall) → Contains (w.node a).calls c → c.phase ≡ LockPhase.Waiting)
        → is_dead (w.node a).watch p.serial ≡ false → Contains (answers_of ps) (answer_to a k True)
    deletion_answered rest alive = go (all_stand o es a p k D.positive (call, D.accepted, refl))
      where
        go : Stands a p k (answers_of ps) (w.node a) → Contains (answers_of ps) (answer_to a k True)
        go (Gone d) = cc (d, alive)
        go (Answered s i h n) = replied s (kept_in (is_under a k) (answers_of ps) s i
            (and_from _ _ (eq-eqb s.node a h) (eq-eqb s.number k n)))
        go (Waits c e n) = absurd (not_waiting c e n (rest c (call_listed p (w.node a).calls c e)))

  -- a name call or a join is answered where the registrar is free and nothing is queued
  module _ (a : ℕ) (free : (w.node a).current ≡ Current.Free) (empty : (w.node a).queue ≡ []) where
    B : Book o w ps
    B = (Theorem.kept_run o (Whole o) (ground o) (whole_opens o) es).book

    abbrev decided : List Numbered
    decided = flat_map (decided_at a) w.history

    abbrev entered : List Answer
    entered = flat_map (entered_at a) w.history

    all_decided : accepted_at a ps ≡ decided
    all_decided = B.accounts.calls a
        ∙ ap (λ (v : Current). decided ++ own (replies_to B.accounts.gate a) (record (w.node a) { current = v })) free
        ∙ ap (λ (q : List Op). decided ++ own (replies_to B.accounts.gate a)
        (record (w.node a) { current = Current.Free; queue = q })) empty
        ∙ append-nil decided

    all_given : entered ≡ filter (is_word_at a) (answers_of ps)
    all_given = B.accounts.answers a
        ∙ ap (λ (v : Current). filter (is_word_at a) (answers_of ps) ++ owed_by a (replies_to B.accounts.gate a) v) free
        ∙ append-nil (filter (is_word_at a) (answers_of ps))

    pub call_answered : (n : Numbered) → Contains (accepted_at a ps) n
        → (reply : Reply) × Contains (answers_of ps) (answer_to a (number_of n) reply)
    call_answered n i = go D.0 D.1
      where
        k : ℕ
        k = number_of n

        D : (s : Answer) × Contains (filter (is_under a k) entered) s
        D = first_answer a (filter (is_number k) decided) (filter (is_under a k) entered)
            (paired_filter a k decided entered (paired_history a _ w.history (replicas o w (run_whole o es).kept).legal)) n
            (kept_in (is_number k) decided n (subst (λ (ns : List Numbered). Contains ns n) all_decided i) (eq-eqb k k refl))

        go : (s : Answer) → Contains (filter (is_under a k) entered) s
            → (reply : Reply) × Contains (answers_of ps) (answer_to a k reply)
        go s j =
            let within : Contains entered s × (is_under a k s ≡ true) = item_filtered (is_under a k) entered s j in
            let given : Contains (answers_of ps) s =
            (item_filtered (is_word_at a) (answers_of ps) s (subst (λ (xs : List Answer). Contains xs s) all_given within.0)).0 in
            (s.reply, subst (Contains (answers_of ps)) (is s within.1) given)
          where
            is : (x : Answer) → is_under a k x ≡ true → x ≡ answer_to a k x.reply
            is x h = let parts : ((x.node == a) ≡ true) × ((x.number == k) ≡ true) = both (x.node == a) (x.number == k) h in
                ap (λ (m : ℕ). answer_to m x.number x.reply) (eqb-true x.node a parts.0)
                ∙ ap (λ (m : ℕ). answer_to a m x.reply) (eqb-true x.number k parts.1)

-- In a settled world a registrar that rests is free: nothing was refused, so nobody waits for whom it was
pub rest_is_free : (Up : ℕ → Type 0) (w : World) (c : ℕ) → ((m : ℕ) (op : Op) → Up m → (w.node m).current ≡ Current.Waiting op → ⊥)
    → Up c → AtRest Up w c (w.node c).current → ((w.node c).current ≡ Current.Free) × ((w.node c).queue ≡ [])
rest_is_free Up w c retried up R = go (w.node c).current refl R
  where
    refused : (m : ℕ) → Up m → (x : Current) → (w.node m).current ≡ x → is_waiting x ≡ true → ⊥
    refused m u (Current.Waiting op) e h = retried m op u e
    refused m u Current.Free e h = cc h
    refused m u (Current.Asking op r) e h = cc h
    refused m u (Current.Joining k j) e h = cc h
    refused m u (Current.Writing op s awaited reply) e h = cc h

    go : (x : Current) → (w.node c).current ≡ x → AtRest Up w c x → ((w.node c).current ≡ Current.Free) × ((w.node c).queue ≡ [])
    go x e (Idle q s) = (e, q)
    go x e (Refused op) = absurd (retried c op up e)
    go x e (Knocks k m u j i n) = absurd (refused m u (w.node m).current refl i)

pub quiet_worlds_answer : OfNodes QuietWorldsAnswer
quiet_worlds_answer o es Q a k p up D alive =
    deletion_answered o es a k p D (λ c i. (quiet_worlds_rest o es Q).calls a c up i) alive

pub settled_worlds_answer : OfNodes SettledWorldsAnswer
settled_worlds_answer o es S a n up i =
    let w : World = run o (opening_world o) es in
    let F : ((w.node a).current ≡ Current.Free) × ((w.node a).queue ≡ []) =
    rest_is_free (Runs o w) w a S.retried up ((quiet_worlds_rest o es S.quiet).registrars a up) in
    call_answered o es a F.0 F.1 n i
