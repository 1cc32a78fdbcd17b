-- The join calls of a node that aren't answered are those that it waits for.
use Rattle.std.proofs.Common.{ℕ, Bool, true, false, ◌≡◌, ◌==◌, ◌+◌, ◌-◌, ◌<◌, ◌≤◌, Option, Some, None, List, [], ◌∷◌, ◌++◌, length, refl, sym, ap, ◌∙◌, subst, arith, inl, inr}
use Rattle.std.specs.Prelude.{◌⊎◌, ◌||◌, Contains, if◌then◌else◌, filter, flat_map}
use Rattle.std.proofs.lemmas.List.{length-append}
use Rattle.std.specs.List.{slice_get}
use Rattle.std.proofs.lemmas.List.Elements.{filter-append, Contains-append_cases, Contains-append_left, Contains-append_right}
use Rattle.std.proofs.lemmas.Bool.{cases_eq, eq-eqb}
use Rattle.std.proofs.Math.Bool.{or-true}
use Rattle.registry_model.specs.Call.{NameCall, Register, ReRegister, Unregister, Reply, Yes, Ok, is_grant}
use Rattle.registry_model.proofs.Lists.{Contains-cases, Contains-front, Contains-behind, Contains-nil}
use Rattle.protocol_model.specs.Node.{Op, Current}
use Rattle.protocol_model.specs.Event.{Call, Answer, is_joining}
use Rattle.protocol_model.specs.Fit.{Numbered, NameAs, JoinAs, calls_in, accepted_at, decided_at}
use Rattle.protocol_model.specs.Answers.{answer_to, number_of, entered_at, may_have, calls_at, answers_under}
use Rattle.protocol_model.specs.World.{Opening, World}
use Rattle.protocol_model.specs.Course.{Played, answers_of}
use Rattle.join_gates.proofs.Invariants.{Replicas, IsWritten}
use Rattle.join_gates.proofs.Tokens.{Gate}
use Rattle.fitting.proofs.Accounts.{own, owed_by, undecided, numbered_op, is_word_at, replies_to, reply_by}
use Rattle.fitting.proofs.Chains.{Book}
use Rattle.fitting.proofs.Replies.{Spares, is_used, unused_before}
use Rattle.fitting.proofs.Once.{is_under, is_number, Decides, Paired, paired_history, paired_filter, numbered_if, number_at, used_words}

-- what passes is among those that pass
pub kept_in : {A : Type 0} (test : A → Bool) (xs : List A) (x : A) → Contains xs x → test x ≡ true
    → Contains (filter test xs) x
kept_in {A} test [] x c t = absurd (Contains-nil x c)
kept_in {A} test (y ∷ ys) x c t = go (test y) refl (λ d. kept_in test ys x d t)
  where
    go : (b : Bool) → test y ≡ b → (Contains ys x → Contains (filter test ys) x)
        → Contains (if b then y ∷ filter test ys else filter test ys) x
    go true i more = elim (Contains-cases y ys x c) [
      | inl e ↦ subst (λ (z : A). Contains (y ∷ filter test ys) z) e (Contains-front y (filter test ys))
      | inr d ↦ Contains-behind y (filter test ys) x (more d)
    ]
    go false i more = elim (Contains-cases y ys x c) [
      | inl e ↦ absurd (cc (i, ap test e, t))
      | inr d ↦ more d
    ]

-- a list that has something isn't empty
some_length : {A : Type 0} (xs : List A) (x : A) → Contains xs x → 0 < length xs
some_length [] x c = absurd (Contains-nil x c)
some_length (y ∷ xs) x c = omega arith

no_length : {A : Type 0} (xs : List A) → length xs ≡ 0 → xs ≡ []
no_length [] e = refl
no_length (x ∷ xs) e = cc

-- the number of a call is used
used_in : (ns : List Numbered) (n : Numbered) → Contains ns n → is_used ns (number_of n) ≡ true
used_in [] n c = absurd (Contains-nil n c)
used_in (m ∷ ns) n c = elim (Contains-cases m ns n c) [
  | inl e ↦ ap (λ (b : Bool). b || is_used ns (number_of n)) (eq-eqb (number_of m) (number_of n) (ap number_of e))
  | inr d ↦ ap (λ (b : Bool). (number_of m == number_of n) || b) (used_in ns n d)
      ∙ or-true (number_of m == number_of n)
]

-- each call has its answer, and each answer its call
paired_length : (a : ℕ) (ns : List Numbered) (xs : List Answer) → Paired a ns xs → length ns ≡ length xs
paired_length a [] [] p = refl
paired_length a [] (x ∷ xs) p = absurd p
paired_length a (n ∷ ns) [] p = absurd p
paired_length a (n ∷ ns) (x ∷ xs) p = let more : length ns ≡ length xs = paired_length a ns xs p.1 in omega (arith, more)

paired_answer : (a : ℕ) (ns : List Numbered) (xs : List Answer) → Paired a ns xs → (n : Numbered) → Contains ns n
    → (s : Answer) × Contains xs s × Decides a n s
paired_answer a [] xs p n c = absurd (Contains-nil n c)
paired_answer a (m ∷ ns) [] p n c = absurd p
paired_answer a (m ∷ ns) (x ∷ xs) p n c = elim (Contains-cases m ns n c) [
  | inl e ↦ (x, Contains-front x xs, subst (λ (k : Numbered). Decides a k x) e p.0)
  | inr d ↦ let (s, i, D) : (s : Answer) × Contains xs s × Decides a n s = paired_answer a ns xs p.1 n d in
      (s, Contains-behind x xs s i, D)
]

paired_call : (a : ℕ) (ns : List Numbered) (xs : List Answer) → Paired a ns xs → (s : Answer) → Contains xs s
    → (n : Numbered) × Contains ns n × Decides a n s
paired_call a ns [] p s c = absurd (Contains-nil s c)
paired_call a [] (x ∷ xs) p s c = absurd p
paired_call a (m ∷ ns) (x ∷ xs) p s c = elim (Contains-cases x xs s c) [
  | inl e ↦ (m, Contains-front m ns, subst (λ (t : Answer). Decides a m t) e p.0)
  | inr d ↦ let (n, i, D) : (n : Numbered) × Contains ns n × Decides a n s = paired_call a ns xs p.1 s d in
      (n, Contains-behind m ns n i, D)
]

-- no name call is answered as a join is, and no join as a name call that is granted
joined_not_named : (call : NameCall) (g : Gate) (r : Reply) → reply_by g ≡ Some r → may_have (Call.OnName call) r ≡ true
    → ⊥
joined_not_named (Register new) Gate.Turned r e may = cc (e, may)
joined_not_named (Register new) Gate.Entering r e may = cc (e, may)
joined_not_named (ReRegister new) Gate.Turned r e may = cc (e, may)
joined_not_named (ReRegister new) Gate.Entering r e may = cc (e, may)
joined_not_named (Unregister x) Gate.Turned r e may = cc (e, may)
joined_not_named (Unregister x) Gate.Entering r e may = cc (e, may)
joined_not_named call g r e may = cc

granted_not_joined : (m : ℕ) (r : Reply) → is_grant r ≡ true → may_have (Call.JoinBy m) r ≡ true → ⊥
granted_not_joined m Yes g may = cc
granted_not_joined m Ok g may = cc
granted_not_joined m r g may = cc

module _ (o : Opening) (w : World) (ps : List Played) (B : Book o w ps) (X : Spares w ps) (R : Replicas o w)
    (a : ℕ) where
  abbrev replies : ℕ → Option Reply
  replies = replies_to B.accounts.gate a

  -- the calls that entries decide, those that are still to be decided, and their answers: given, and owed
  abbrev decided : List Numbered
  decided = flat_map (decided_at a) w.history

  abbrev pub ahead : List Numbered
  ahead = own replies (w.node a)

  abbrev entered : List Answer
  entered = flat_map (entered_at a) w.history

  abbrev words : List Answer
  words = filter (is_word_at a) (answers_of ps)

  abbrev owed : List Answer
  owed = owed_by a replies (w.node a).current

  pairs : Paired a decided entered
  pairs = paired_history a _ w.history R.legal

  -- no call has number 0
  positive : (n : Numbered) → Contains (accepted_at a ps) n → 0 < number_of n
  positive n c = elim (cases_eq (number_of n) 0) [
    | inl e ↦ absurd (cc (
      unused_before 1 0 (flat_map (calls_in a) ps) (omega arith),
      subst (λ (k : ℕ). is_used (accepted_at a ps) k ≡ true) e (used_in (accepted_at a ps) n c),
    ))
    | inr ne ↦ omega (arith, ne)
  ]

  -- of one number there is one call at most
  one_call : (k : ℕ) → 0 < k → length (filter (is_number k) (accepted_at a ps)) ≤ 1
  one_call k pos = subst (λ (ns : List Numbered). length ns ≤ 1)
      (sym (subst (λ (n : ℕ). filter (is_number n) (accepted_at a ps) ≡ numbered_if n (slice_get (calls_at a ps)
      (k - 1))) (omega (arith, pos)) (number_at 1 (k - 1) (calls_at a ps)))) (one (slice_get (calls_at a ps) (k - 1)))
    where
      one : (x : Option Call) → length (numbered_if k x) ≤ 1
      one None = omega arith
      one (Some (Call.OnName c)) = omega arith
      one (Some (Call.JoinBy m)) = omega arith
      one (Some _) = omega arith

  -- so where it is still to be decided, or its answer is owed, it isn't answered
  waits : (k : ℕ) → 0 < k → 0 < length (filter (is_number k) ahead) + length (filter (is_under a k) owed)
      → filter (is_under a k) words ≡ []
  waits k pos some = no_length (filter (is_under a k) words) (omega (arith, calls, answers, same, one_call k pos, some))
    where
      calls : length (filter (is_number k) (accepted_at a ps))
          ≡ length (filter (is_number k) decided) + length (filter (is_number k) ahead)
      calls = ap (λ (ns : List Numbered). length (filter (is_number k) ns)) (B.accounts.calls a)
          ∙ ap length (filter-append (is_number k) decided ahead)
          ∙ length-append (filter (is_number k) decided) (filter (is_number k) ahead)

      answers : length (filter (is_under a k) entered)
          ≡ length (filter (is_under a k) words) + length (filter (is_under a k) owed)
      answers = ap (λ (xs : List Answer). length (filter (is_under a k) xs)) (B.accounts.answers a)
          ∙ ap length (filter-append (is_under a k) words owed)
          ∙ length-append (filter (is_under a k) words) (filter (is_under a k) owed)

      same : length (filter (is_number k) decided) ≡ length (filter (is_under a k) entered)
      same = paired_length a (filter (is_number k) decided) (filter (is_under a k) entered)
          (paired_filter a k decided entered pairs)

  -- a join call that was accepted and isn't answered
  abbrev pub Waits : ℕ → ℕ → Type 0
  Waits k m = Contains (accepted_at a ps) (JoinAs k m) × (answers_under a k ps ≡ [])

  unanswered : (k m : ℕ) → Contains (accepted_at a ps) (JoinAs k m)
      → 0 < length (filter (is_number k) ahead) + length (filter (is_under a k) owed) → Waits k m
  unanswered k m c some = (
    c,
    sym (used_words w ps a k X (used_in (accepted_at a ps) (JoinAs k m) c)) ∙ waits k (positive (JoinAs k m) c) some,
  )

  -- one that is still to be decided is such
  pub open_waits : (k m : ℕ) → Contains ahead (JoinAs k m) → Waits k m
  open_waits k m c = unanswered k m (subst (λ (ns : List Numbered). Contains ns (JoinAs k m)) (sym (B.accounts.calls a))
      (Contains-append_right decided ahead (JoinAs k m) c))
      (let some : 0 < length (filter (is_number k) ahead) =
      some_length (filter (is_number k) ahead) (JoinAs k m) (kept_in (is_number k) ahead (JoinAs k m) c
      (eq-eqb k k refl)) in omega (arith, some))

  -- and so is the one that the node waits for
  pub joining_waits : (k m : ℕ) → (w.node a).current ≡ Current.Joining k m → (k : ℕ) × (m : ℕ) × Waits k m
  joining_waits k m e = go (replies m) refl
    where
      go : (r : Option Reply) → replies m ≡ r → (k : ℕ) × (m : ℕ) × Waits k m
      go None i = (
        k,
        m,
        open_waits k m (Contains-append_left (undecided replies (w.node a).current)
            (flat_map numbered_op (w.node a).queue) (JoinAs k m)
            (subst (λ (c : Current). Contains (undecided replies c) (JoinAs k m)) (sym e)
            (subst (λ (r : Option Reply). Contains (undecided (λ j. r) (Current.Joining k m)) (JoinAs k m)) (sym i)
            (Contains-front (JoinAs k m) [])))),
      )
      go (Some r) i = named D.0 D.1 D.2
        where
          s : Answer
          s = answer_to a k r

          owes : owed ≡ s ∷ []
          owes = ap (owed_by a replies) e ∙ ap (λ (r : Option Reply). owed_by a (λ j. r) (Current.Joining k m)) i

          D : (n : Numbered) × Contains decided n × Decides a n s
          D = paired_call a decided entered pairs s (subst (λ (xs : List Answer). Contains xs s)
              (sym (B.accounts.answers a ∙ ap (λ (xs : List Answer). words ++ xs) owes))
              (Contains-append_right words (s ∷ []) s (Contains-front s [])))

          some : 0 < length (filter (is_under a k) owed)
          some = some_length (filter (is_under a k) owed) s (kept_in (is_under a k) owed s
              (subst (λ (xs : List Answer). Contains xs s) (sym owes) (Contains-front s []))
              (rw (eq-eqb a a refl) (eq-eqb k k refl)))

          named : (n : Numbered) → Contains decided n → Decides a n s → (k : ℕ) × (m : ℕ) × Waits k m
          named (NameAs j call) c d = absurd (joined_not_named call (B.accounts.gate a m) r i
              (ap (may_have (Call.OnName call)) (ap (λ (t : Answer). t.reply) d.1) ∙ d.2))
          named (JoinAs j l) c d = (
            k,
            l,
            unanswered k l (subst (λ (x : ℕ). Contains (accepted_at a ps) (JoinAs x l))
                (sym (ap (λ (t : Answer). t.number) d.1))
                (subst (λ (ns : List Numbered). Contains ns (JoinAs j l)) (sym (B.accounts.calls a))
                (Contains-append_left decided ahead (JoinAs j l) c))) (omega (arith, some)),
          )

  -- what is owed as to a join is so to the one that the node waits for
  owed_join : (c : Current) → IsWritten o w a c → (k m : ℕ) (r : Reply) → may_have (Call.JoinBy m) r ≡ true
      → Contains (owed_by a replies c) (answer_to a k r) → is_joining c ≡ true
  owed_join (Current.Joining j l) W k m r may c = refl
  owed_join (Current.Writing (Op.Name j call) asked awaited (Some reply)) W k m r may c = elim
      (Contains-cases (answer_to a j reply) [] (answer_to a k r) c) [
        | inl e ↦ absurd (granted_not_joined m r (ap is_grant (sym (ap (λ (t : Answer). t.reply) e)) ∙ W.3.1) may)
        | inr none ↦ absurd (Contains-nil (answer_to a k r) none)
      ]
  owed_join (Current.Writing (Op.Name j call) asked awaited None) W k m r may c =
      absurd (Contains-nil (answer_to a k r) c)
  owed_join (Current.Writing (Op.Strike p) asked awaited reply) W k m r may c = absurd (Contains-nil (answer_to a k r) c)
  owed_join (Current.Writing (Op.Join j l) asked awaited reply) W k m r may c = absurd (Contains-nil (answer_to a k r) c)
  owed_join (Current.Writing (Op.Admission j p) asked awaited reply) W k m r may c =
      absurd (Contains-nil (answer_to a k r) c)
  owed_join Current.Free W k m r may c = absurd (Contains-nil (answer_to a k r) c)
  owed_join (Current.Asking op r1) W k m r may c = absurd (Contains-nil (answer_to a k r) c)
  owed_join (Current.Waiting op) W k m r may c = absurd (Contains-nil (answer_to a k r) c)

  -- so one that isn't answered is still to be decided, or the node waits for one
  pub waits_open : (k m : ℕ) → Waits k m → Contains ahead (JoinAs k m) ⊎ (is_joining (w.node a).current ≡ true)
  waits_open k m W = elim (Contains-append_cases decided ahead (JoinAs k m)
      (subst (λ (ns : List Numbered). Contains ns (JoinAs k m)) (B.accounts.calls a) W.0)) [
        | inl c ↦ inr (given c)
        | inr c ↦ inl c
      ]
    where
      given : Contains decided (JoinAs k m) → is_joining (w.node a).current ≡ true
      given c = elim (Contains-append_cases words owed (answer_to a k D.2.0) found) [
        | inl i ↦ absurd (Contains-nil (answer_to a k D.2.0)
            (subst (λ (xs : List Answer). Contains xs (answer_to a k D.2.0))
            (used_words w ps a k X (used_in (accepted_at a ps) (JoinAs k m) W.0) ∙ W.1)
            (kept_in (is_under a k) words (answer_to a k D.2.0) i (rw (eq-eqb a a refl) (eq-eqb k k refl)))))
        | inr i ↦ owed_join (w.node a).current (R.written a) k m D.2.0 D.2.2 i
      ]
        where
          D : (s : Answer) × Contains entered s × Decides a (JoinAs k m) s
          D = paired_answer a decided entered pairs (JoinAs k m) c

          found : Contains (words ++ owed) (answer_to a k D.2.0)
          found = subst (λ (xs : List Answer). Contains xs (answer_to a k D.2.0)) (B.accounts.answers a)
              (subst (Contains entered) D.2.1 D.1)
