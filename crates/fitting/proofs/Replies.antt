-- The answers to the name and join calls of a node are those of their entries, in their order.
use Rattle.std.proofs.Common.{ℕ, Bool, true, false, ◌≡◌, ◌==◌, ◌+◌, ◌≤◌, ◌<◌, Option, Some, None, List, [], ◌∷◌, ◌++◌, length, refl, sym, ap, ◌∙◌, subst, arith}
use Rattle.std.specs.Prelude.{◌&&◌, ◌||◌, not, if◌then◌else◌, filter, flat_map, is_none}
use Rattle.std.specs.List.{AllByRecursion, list_any}
use Rattle.std.proofs.lemmas.List.{append-nil, append_assoc}
use Rattle.std.proofs.lemmas.List.Folds.{list_any-append}
use Rattle.std.proofs.lemmas.List.Elements.{filter-append}
use Rattle.std.proofs.lemmas.Grind.{flat_map-append}
use Rattle.std.proofs.lemmas.Bool.{eq-eqb, ne_eqb, eqb-true}
use Rattle.std.proofs.Math.Bool.{or-true}
use Rattle.registry_model.specs.History.{Entry}
use Rattle.protocol_model.specs.Node.{Node, Op, Current}
use Rattle.protocol_model.specs.Event.{Call, Event, Answer, Refusal}
use Rattle.protocol_model.specs.Turn.{Turn}
use Rattle.protocol_model.specs.Fit.{Numbered, NameAs, JoinAs, is_numbered, numbered, calls_in, number_from, accepted_at, decided_at, IsPrefix}
use Rattle.protocol_model.specs.Answers.{answer_to, number_of, is_answer_at, answers_at, entered_at}
use Rattle.protocol_model.specs.World.{Opening, World, WorldEvent, At, place, opening_world, turn_of, refusal, accepted}
use Rattle.protocol_model.specs.Course.{Played, played, entries_of, answers_of}
use Rattle.registry_model.proofs.Updates.{by_test}
use Rattle.protocol_model.proofs.Waiting.{accepted-node}
use Rattle.join_gates.proofs.Invariants.{Replicas, IsWritten}
use Rattle.fitting.proofs.Accounts.{own, owed_by, is_word, is_word_at, replies_to}
use Rattle.fitting.proofs.Settling.{grant_word}
use Rattle.fitting.proofs.Numbers.{accepted_at-push, length_push}
use Rattle.fitting.proofs.Admissions.{all_append, all_map}
use Rattle.fitting.proofs.Within.{keeps_word, is_lock_call, Within, event_within}
use Rattle.fitting.proofs.Chains.{Book}

-- some of these calls has the number n
abbrev pub is_used : List Numbered → ℕ → Bool
is_used cs n = list_any (λ c. number_of c == n) cs

-- numbers before the first one, and behind the last one, are used by none
unused_one : (k n : ℕ) (c : Call) → (k ≡ n → ⊥) → is_used (numbered k c) n ≡ false
unused_one k n (Call.OnName c) ne = ap (λ (b : Bool). b || false) (ne_eqb k n ne)
unused_one k n (Call.JoinBy m) ne = ap (λ (b : Bool). b || false) (ne_eqb k n ne)
unused_one k n _ ne = refl

pub unused_before : (k n : ℕ) (cs : List Call) → n < k → is_used (number_from k cs) n ≡ false
unused_before k n [] l = refl
unused_before k n (c ∷ cs) l = list_any-append (λ c. number_of c == n) (numbered k c) (number_from (k + 1) cs)
    ∙ ap (λ (b : Bool). b || is_used (number_from (k + 1) cs) n)
    (unused_one k n c (λ e. absurd (omega (arith, l, e))))
    ∙ unused_before (k + 1) n cs (omega arith)

unused_behind : (k n : ℕ) (cs : List Call) → k + length cs ≤ n → is_used (number_from k cs) n ≡ false
unused_behind k n [] l = refl
unused_behind k n (c ∷ cs) l = list_any-append (λ c. number_of c == n) (numbered k c) (number_from (k + 1) cs)
    ∙ ap (λ (b : Bool). b || is_used (number_from (k + 1) cs) n)
    (unused_one k n c (λ e. absurd (omega (arith, l, e))))
    ∙ unused_behind (k + 1) n cs (omega arith)

-- how many numbers node a has given
abbrev pub given_numbers : List Played → ℕ → ℕ
given_numbers ps a = length (flat_map (calls_in a) ps)

-- n is no number of a name or join call of node a, and none that a will give
pub record Spare (ps : List Played) (a n : ℕ) : Type 0 where
  pub unused : is_used (accepted_at a ps) n ≡ false
  pub given : n ≤ given_numbers ps a

spare_zero : (ps : List Played) (a : ℕ) → Spare ps a 0
spare_zero ps a = record { unused = unused_before 1 0 (flat_map (calls_in a) ps) (omega arith); given = omega arith }

spare_more : (ps : List Played) (p : Played) (a n : ℕ) → Spare ps a n → Spare (ps ++ p ∷ []) a n
spare_more ps p a n S = record {
  unused = ap (λ (l : List Numbered). is_used l n) (accepted_at-push a ps p)
      ∙ list_any-append (λ c. number_of c == n) (accepted_at a ps)
      (number_from (1 + given_numbers ps a) (calls_in a p))
      ∙ ap (λ (b : Bool). b || is_used (number_from (1 + given_numbers ps a) (calls_in a p)) n) S.unused
      ∙ unused_before (1 + given_numbers ps a) n (calls_in a p) (omega (arith, S.given));
  given = subst (λ (k : ℕ). n ≤ k) (sym (length_push a ps p)) (omega (arith, S.given));
}

-- the number of a lock call is spare
spare_lock : (ps : List Played) (p : Played) (a : ℕ) (c : Call) → calls_in a p ≡ c ∷ [] → is_lock_call c ≡ true
    → Spare (ps ++ p ∷ []) a (given_numbers ps a + 1)
spare_lock ps p a c is lock = record {
  unused = ap (λ (l : List Numbered). is_used l n) (accepted_at-push a ps p)
      ∙ list_any-append (λ c. number_of c == n) (accepted_at a ps)
      (number_from (1 + given_numbers ps a) (calls_in a p))
      ∙ ap (λ (b : Bool). b || is_used (number_from (1 + given_numbers ps a) (calls_in a p)) n)
      (unused_behind 1 n (flat_map (calls_in a) ps) (omega arith))
      ∙ ap (λ (cs : List Call). is_used (number_from (1 + given_numbers ps a) cs) n) is
      ∙ none c lock;
  given = subst (λ (k : ℕ). n ≤ k) (sym (length_push a ps p
      ∙ ap (λ (cs : List Call). given_numbers ps a + length cs) is)) (omega arith);
}
  where
    n : ℕ
    n = given_numbers ps a + 1

    none : (c : Call) → is_lock_call c ≡ true → is_used (number_from (1 + given_numbers ps a) (c ∷ [])) n ≡ false
    none (Call.SetLock p r q target retries) e = refl
    none (Call.DelLock p r q target) e = refl
    none _ e = cc

-- the number of an open lock call of node a
abbrev pub IsOfCall : List Played → ℕ → ℕ → Type 0
IsOfCall ps a n = Spare ps a n × (0 < n)

-- the event is a call that takes no number
abbrev pub takes_none : WorldEvent → Bool
takes_none (At a (Event.Calling c)) = not (is_numbered c)
takes_none _ = false

-- the number of an answer at node a that is no word, in the step of this event
abbrev pub IsOfAnswer : WorldEvent → List Played → ℕ → ℕ → Type 0
IsOfAnswer e ps a n = Spare ps a n × (takes_none e ≡ false → 0 < n)

pub of_call : (e : WorldEvent) (ps : List Played) (a n : ℕ) → IsOfCall ps a n → IsOfAnswer e ps a n
of_call e ps a n s = (s.0, λ h. s.1)

-- open lock calls, and answers that are no words, have spare numbers
pub record Spares (w : World) (ps : List Played) : Type 0 where
  pub open_calls : (a : ℕ) → AllByRecursion (λ c. IsOfCall ps a c.number) (w.node a).calls
  pub answers : AllByRecursion (λ s. is_word s.reply ≡ false → Spare ps s.node s.number) (answers_of ps)

pub spares_open : (o : Opening) → Spares (opening_world o) []
spares_open o = record { open_calls = λ a. tt; answers = tt }

-- the registrar keeps a reply to a name call
word_kept_by : (o : Opening) (w : World) (a : ℕ) (c : Current) → IsWritten o w a c → keeps_word c ≡ true
word_kept_by o w a (Current.Writing (Op.Name k call) asked awaited (Some r)) W = grant_word r W.3.1
word_kept_by o w a (Current.Writing (Op.Name k call) asked awaited None) W = refl
word_kept_by o w a (Current.Writing (Op.Strike p) asked awaited reply) W = refl
word_kept_by o w a (Current.Writing (Op.Join k m) asked awaited reply) W = refl
word_kept_by o w a (Current.Writing (Op.Admission j pairs) asked awaited reply) W = refl
word_kept_by o w a _ W = refl

-- what is answered in the step of an accepted event, and which lock calls are open behind it
pub numbers_within : (o : Opening) (w : World) (e : WorldEvent) (ps : List Played) → Replicas o w → Book o w ps
    → Spares w ps
    → Within (IsOfCall (ps ++ played o w e ∷ []) (place e)) (IsOfAnswer e (ps ++ played o w e ∷ []) (place e))
    (of_call e (ps ++ played o w e ∷ []) (place e)) (place e) (turn_of o w e)
numbers_within o w e ps R B X = event_within (IsOfCall qs a) (IsOfAnswer e qs a) (of_call e qs a) o w e
    (λ c q h. (
      spare_zero qs a,
      λ k. absurd (cc (sym (ap takes_none q ∙ ap not h), k)),
    ))
    locks
    (record {
      calls = all_map (λ c. IsOfCall ps a c.number) (λ c. IsOfCall qs a c.number)
          (λ c k. (spare_more ps p a c.number k.0, k.1)) (w.node a).calls (X.open_calls a);
      answers = tt;
      word = word_kept_by o w a (w.node a).current (R.written a);
    })
  where
    a : ℕ
    a = place e

    p : Played
    p = played o w e

    qs : List Played
    qs = ps ++ p ∷ []

    one : (c : Call) → is_lock_call c ≡ true → (if (a == a) && is_numbered c then c ∷ [] else []) ≡ c ∷ []
    one (Call.SetLock x r q target retries) h = ap
        (λ (t : Bool). if t && true then Call.SetLock x r q target retries ∷ [] else []) (eq-eqb a a refl)
    one (Call.DelLock x r q target) h = ap (λ (t : Bool). if t && true then Call.DelLock x r q target ∷ [] else [])
        (eq-eqb a a refl)
    one _ h = cc

    locks : (c : Call) → e ≡ At a (Event.Calling c) → is_lock_call c ≡ true → IsOfCall qs a ((w.node a).last_call + 1)
    locks c q lock = (
      subst (λ (k : ℕ). Spare qs a (k + 1)) (sym (B.count a))
          (spare_lock ps p a c (ap (λ (x : WorldEvent). calls_in a (record p { event = x })) q ∙ one c lock) lock),
      omega arith,
    )

-- an accepted event answers what its turn does
pub answers_given : (o : Opening) (w : World) (e : WorldEvent) → refusal o w e ≡ None
    → (played o w e).answers ≡ (turn_of o w e).answers
answers_given o w e is = ap (λ (r : Option Refusal). if is_none r then (turn_of o w e).answers else []) is

pub spares_keep : (o : Opening) (w : World) (e : WorldEvent) (ps : List Played) → Replicas o w → Book o w ps
    → refusal o w e ≡ None
    → Spares w ps → Spares (accepted o w e) (ps ++ played o w e ∷ [])
spares_keep o w e ps R B is X = record {
  open_calls = λ b. subst (λ (f : ℕ → Node). AllByRecursion (λ c. IsOfCall qs b c.number) (f b).calls)
      (sym (accepted-node o w e))
      (by_test a (λ b t. AllByRecursion (λ c. IsOfCall qs b c.number)
      (if t then u.node else w.node b).calls) within.calls
      (λ b ne. all_map (λ c. IsOfCall ps b c.number) (λ c. IsOfCall qs b c.number)
      (λ c k. (spare_more ps p b c.number k.0, k.1))
      (w.node b).calls (X.open_calls b)) b);
  answers = subst (AllByRecursion (λ (s : Answer). is_word s.reply ≡ false → Spare qs s.node s.number))
      (sym (flat_map-append (λ (q : Played). q.answers) ps (p ∷ [])))
      (all_append (λ (s : Answer). is_word s.reply ≡ false → Spare qs s.node s.number) (answers_of ps)
      (p.answers ++ [])
      (all_map (λ (s : Answer). is_word s.reply ≡ false → Spare ps s.node s.number)
      (λ (s : Answer). is_word s.reply ≡ false → Spare qs s.node s.number)
      (λ s h e. spare_more ps p s.node s.number (h e)) (answers_of ps) X.answers)
      (subst (AllByRecursion (λ (s : Answer). is_word s.reply ≡ false → Spare qs s.node s.number))
      (sym (append-nil p.answers ∙ answers_given o w e is))
      (all_map (λ (s : Answer). (s.node ≡ a) × (is_word s.reply ≡ false → IsOfAnswer e qs a s.number))
      (λ (s : Answer). is_word s.reply ≡ false → Spare qs s.node s.number)
      (λ s h e. subst (λ (b : ℕ). Spare qs b s.number) (sym h.0) (h.1 e).0) u.answers within.answers)));
}
  where
    a : ℕ
    a = place e

    p : Played
    p = played o w e

    qs : List Played
    qs = ps ++ p ∷ []

    u : Turn
    u = turn_of o w e

    within : Within (IsOfCall qs a) (IsOfAnswer e qs a) (of_call e qs a) a u
    within = numbers_within o w e ps R B X

-- a test that two lists of answers meet in the same way
pub filter_same : {X : Type 0} (p q : X → Bool) (xs : List X) → AllByRecursion (λ x. p x ≡ q x) xs
    → filter p xs ≡ filter q xs
filter_same p q [] h = refl
filter_same p q (x ∷ xs) h = ap (λ (b : Bool). if b then x ∷ filter p xs else filter p xs) h.0
    ∙ ap (λ (l : List _). if q x then x ∷ l else l) (filter_same p q xs h.1)

pub all_two : (P Q T : Answer → Type 0) → ((s : Answer) → P s → Q s → T s) → (xs : List Answer) → AllByRecursion P xs
    → AllByRecursion Q xs → AllByRecursion T xs
all_two P Q T f [] p q = tt
all_two P Q T f (x ∷ xs) p q = (f x p.0 q.0, all_two P Q T f xs p.1 q.1)

-- an answer with the number n
abbrev pub is_answered : List Answer → ℕ → Bool
is_answered xs n = list_any (λ s. s.number == n) xs

-- each that passes a test has its number among those that do
pub answer_found : (test : Answer → Bool) (before xs : List Answer)
    → AllByRecursion (λ s. test s ≡ true → is_answered (filter test (before ++ xs)) s.number ≡ true) xs
answer_found test before [] = tt
answer_found test before (x ∷ xs) = (
  here,
  subst (λ (l : List Answer). AllByRecursion (λ s. test s ≡ true → is_answered (filter test l) s.number ≡ true) xs)
      (append_assoc before (x ∷ []) xs) (answer_found test (before ++ x ∷ []) xs),
)
  where
    here : test x ≡ true → is_answered (filter test (before ++ x ∷ xs)) x.number ≡ true
    here e = ap (λ (l : List Answer). is_answered l x.number) (filter-append test before (x ∷ xs))
        ∙ list_any-append (λ s. s.number == x.number) (filter test before) (filter test (x ∷ xs))
        ∙ ap (λ (b : Bool). is_answered (filter test before) x.number || b)
        (ap (λ (b : Bool). is_answered (if b then x ∷ filter test xs else filter test xs) x.number) e
        ∙ ap (λ (b : Bool). b || is_answered (filter test xs) x.number) (eq-eqb x.number x.number refl))
        ∙ or-true (is_answered (filter test before) x.number)

-- an entry answers the call that it decides
same_numbers : (a n : ℕ) (e : Entry) → is_answered (entered_at a e) n ≡ is_used (decided_at a e) n
same_numbers a n (Entry.Name b k call reply) = go (b == a)
  where
    go : (t : Bool) → is_answered (if t then answer_to a k reply ∷ [] else []) n
        ≡ is_used (if t then NameAs k call ∷ [] else []) n
    go true = refl
    go false = refl
same_numbers a n (Entry.Join j k m reply) = go (j == a)
  where
    go : (t : Bool) → is_answered (if t then answer_to a k reply ∷ [] else []) n
        ≡ is_used (if t then JoinAs k m ∷ [] else []) n
    go true = refl
    go false = refl
same_numbers a n _ = refl

same_numbers_along : (a n : ℕ) (es : List Entry)
    → is_answered (flat_map (entered_at a) es) n ≡ is_used (flat_map (decided_at a) es) n
same_numbers_along a n [] = refl
same_numbers_along a n (e ∷ es) = list_any-append (λ s. s.number == n) (entered_at a e) (flat_map (entered_at a) es)
    ∙ ap (λ (b : Bool). b || is_answered (flat_map (entered_at a) es) n) (same_numbers a n e)
    ∙ ap (λ (b : Bool). is_used (decided_at a e) n || b) (same_numbers_along a n es)
    ∙ sym (list_any-append (λ c. number_of c == n) (decided_at a e) (flat_map (decided_at a) es))

-- a word that is answered under a number answers a name or join call of that number
pub word_used : (o : Opening) (w : World) (ps : List Played) (a n : ℕ) → Book o w ps
    → is_answered (filter (is_word_at a) (answers_of ps)) n ≡ true → is_used (accepted_at a ps) n ≡ true
word_used o w ps a n B e = ap (λ (l : List Numbered). is_used l n) (B.accounts.calls a)
    ∙ list_any-append (λ c. number_of c == n) (flat_map (decided_at a) w.history)
    (own (replies_to B.accounts.gate a) (w.node a))
    ∙ ap (λ (b : Bool). b || is_used (own (replies_to B.accounts.gate a) (w.node a)) n)
    (sym (same_numbers_along a n w.history)
    ∙ ap (λ (l : List Answer). is_answered l n) (B.accounts.answers a)
    ∙ list_any-append (λ t. t.number == n) (filter (is_word_at a) (answers_of ps)) _
    ∙ ap (λ (b : Bool). b || is_answered (owed_by a (replies_to B.accounts.gate a)
    (w.node a).current) n) e)

-- the answers to the name and join calls of a node are the words that it answers
answers_at-words : (o : Opening) (w : World) (ps : List Played) (a : ℕ) → Book o w ps → Spares w ps
    → answers_at a ps ≡ filter (is_word_at a) (answers_of ps)
answers_at-words o w ps a B X = filter_same (is_answer_at a (accepted_at a ps)) (is_word_at a) (answers_of ps)
    (all_two (λ (s : Answer). is_word s.reply ≡ false → Spare ps s.node s.number)
    (λ (s : Answer). is_word_at a s ≡ true → is_answered (filter (is_word_at a) (answers_of ps)) s.number ≡ true)
    (λ (s : Answer). is_answer_at a (accepted_at a ps) s ≡ is_word_at a s) same (answers_of ps) X.answers
    (answer_found (is_word_at a) [] (answers_of ps)))
  where
    same : (s : Answer) → (is_word s.reply ≡ false → Spare ps s.node s.number)
        → (is_word_at a s ≡ true → is_answered (filter (is_word_at a) (answers_of ps)) s.number ≡ true)
        → is_answer_at a (accepted_at a ps) s ≡ is_word_at a s
    same s spare word = go (s.node == a) refl (is_word s.reply) refl
      where
        go : (b : Bool) → (s.node == a) ≡ b → (c : Bool) → is_word s.reply ≡ c
            → (b && is_used (accepted_at a ps) s.number) ≡ (b && c)
        go false here c is = refl
        go true here true is = word_used o w ps a s.number B (word (ap (λ (t : Bool). t && is_word s.reply) here ∙ is))
        go true here false is = subst (λ (b : ℕ). is_used (accepted_at b ps) s.number ≡ false)
            (eqb-true s.node a here) (spare is).unused

-- they are those of the entries, in their order, but for the one that is owed
pub book_replies : (o : Opening) (w : World) (ps : List Played) → Book o w ps → Spares w ps → (a : ℕ)
    → IsPrefix (answers_at a ps) (flat_map (entered_at a) (entries_of ps))
book_replies o w ps B X a = (
  owed_by a (replies_to B.accounts.gate a) (w.node a).current,
  ap (flat_map (entered_at a)) (sym B.history) ∙ B.accounts.answers a
      ∙ ap (λ (l : List Answer). l ++ owed_by a (replies_to B.accounts.gate a) (w.node a).current)
      (sym (answers_at-words o w ps a B X)),
)
