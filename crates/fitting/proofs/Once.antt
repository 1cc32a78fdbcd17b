-- Each name call and each join of a node is answered at most once, by a reply that it may have.
use Rattle.std.proofs.Common.{ℕ, zero, suc, Bool, true, false, ◌≡◌, ◌==◌, ◌+◌, ◌-◌, ◌<◌, Option, Some, None, List, [], ◌∷◌, ◌++◌, refl, sym, ap, ◌∙◌, subst, arith}
use Rattle.std.specs.Prelude.{◌&&◌, not, if◌then◌else◌, filter, flat_map}
use Rattle.std.specs.List.{slice_get}
use Rattle.std.proofs.lemmas.List.{append-nil}
use Rattle.std.proofs.lemmas.List.Elements.{filter-append}
use Rattle.std.proofs.lemmas.Bool.{eq-eqb, ne_eqb, eqb-true}
use Rattle.registry_model.specs.Process.{Nodes}
use Rattle.registry_model.specs.Table.{Table}
use Rattle.registry_model.specs.Call.{NameCall, Register, ReRegister, Unregister, Reply, Yes, No, UnknownNode, Joined, NotMember, ContactLeft, reply_to}
use Rattle.registry_model.specs.Registry.{members, view}
use Rattle.registry_model.specs.History.{Entry, Standing, after}
use Rattle.registry_model.specs.Legal.{is_legal, all_legal}
use Rattle.registry_model.proofs.Legality.{name_is_legal}
use Rattle.protocol_model.specs.Event.{Call, Answer}
use Rattle.protocol_model.specs.Fit.{Numbered, NameAs, JoinAs, numbered, number_from, accepted_at, decided_at}
use Rattle.protocol_model.specs.Answers.{answer_to, number_of, entered_at, may_have, calls_at, answers_under, AtMostOne, NotYet, Once}
use Rattle.protocol_model.specs.World.{Opening, World}
use Rattle.protocol_model.specs.Course.{Played, answers_of}
use Rattle.join_gates.proofs.Indices.{both}
use Rattle.join_gates.proofs.Invariants.{Replicas}
use Rattle.fitting.proofs.Accounts.{own, owed_by, is_word, is_word_at, replies_to}
use Rattle.fitting.proofs.Admissions.{all_map}
use Rattle.fitting.proofs.Chains.{Book}
use Rattle.fitting.proofs.Replies.{Spare, Spares, is_used, is_answered, answer_found, filter_same, word_used}

-- node a answers under number k
abbrev pub is_under : ℕ → ℕ → Answer → Bool
is_under a k s = (s.node == a) && (s.number == k)

-- the number of a call is k
abbrev pub is_number : ℕ → Numbered → Bool
is_number k n = number_of n == k

-- the answer of node a to a call of its own, by a reply that the call may have
abbrev pub Decides : ℕ → Numbered → Answer → Type 0
Decides a (NameAs k call) s = (reply : Reply) × (s ≡ answer_to a k reply) × (may_have (Call.OnName call) reply ≡ true)
Decides a (JoinAs k m) s = (reply : Reply) × (s ≡ answer_to a k reply) × (may_have (Call.JoinBy m) reply ≡ true)

-- each call with its answer, in order
abbrev pub Paired : ℕ → List Numbered → List Answer → Type 0
Paired a [] [] = Unit {0}
Paired a (n ∷ ns) (s ∷ xs) = Decides a n s × Paired a ns xs
Paired a _ _ = ⊥

-- two such lists one behind the other
paired_append : (a : ℕ) (ns ms : List Numbered) (xs ys : List Answer) → Paired a ns xs → Paired a ms ys
    → Paired a (ns ++ ms) (xs ++ ys)
paired_append a [] ms [] ys p q = q
paired_append a [] ms (x ∷ xs) ys p q = absurd p
paired_append a (n ∷ ns) ms [] ys p q = absurd p
paired_append a (n ∷ ns) ms (x ∷ xs) ys p q = (p.0, paired_append a ns ms xs ys p.1 q)

-- a name call may have the reply that a table and members give it
reply_to-may : (nodes : Nodes) (table : Table) (call : NameCall)
    → may_have (Call.OnName call) (reply_to nodes table call) ≡ true
reply_to-may nodes table (Register e) = go (not (nodes e.owner.node)) (_)
  where
    go : (b c : Bool)
        → may_have (Call.OnName (Register e)) (if b then UnknownNode else (if c then No else Yes)) ≡ true
    go true c = refl
    go false true = refl
    go false false = refl
reply_to-may nodes table (ReRegister e) = go (not (nodes e.owner.node))
  where
    go : (b : Bool) → may_have (Call.OnName (ReRegister e)) (if b then UnknownNode else Yes) ≡ true
    go true = refl
    go false = refl
reply_to-may nodes table (Unregister x) = refl

-- and a join those of legal entries
join_may : (s : Standing) (j k m : ℕ) (reply : Reply) → is_legal s (Entry.Join j k m reply) ≡ true
    → may_have (Call.JoinBy m) reply ≡ true
join_may s j k m Joined l = refl
join_may s j k m NotMember l = refl
join_may s j k m ContactLeft l = refl
join_may s j k m _ l = cc

-- a legal entry answers the call that it decides
paired_entry : (a : ℕ) (s : Standing) (e : Entry) → is_legal s e ≡ true → Paired a (decided_at a e) (entered_at a e)
paired_entry a s (Entry.Name b k call reply) l = go (b == a)
  where
    may : may_have (Call.OnName call) reply ≡ true
    may = ap (may_have (Call.OnName call)) (name_is_legal s b call reply l).answer
        ∙ reply_to-may (members s.registry b) (view s.registry b) call

    go : (t : Bool) → Paired a (if t then NameAs k call ∷ [] else []) (if t then answer_to a k reply ∷ [] else [])
    go true = ((reply, refl, may), tt)
    go false = tt
paired_entry a s (Entry.Join j k m reply) l = go (j == a)
  where
    go : (t : Bool) → Paired a (if t then JoinAs k m ∷ [] else []) (if t then answer_to a k reply ∷ [] else [])
    go true = ((reply, refl, join_may s j k m reply l), tt)
    go false = tt
paired_entry a s _ l = tt

-- and so does each entry of a legal history
pub paired_history : (a : ℕ) (s : Standing) (es : List Entry) → all_legal s es ≡ true
    → Paired a (flat_map (decided_at a) es) (flat_map (entered_at a) es)
paired_history a s [] l = tt
paired_history a s (e ∷ es) l =
    let parts : (is_legal s e ≡ true) × (all_legal (after s e) es ≡ true) =
    both (is_legal s e) (all_legal (after s e) es) l in
    paired_append a (decided_at a e) (flat_map (decided_at a) es) (entered_at a e) (flat_map (entered_at a) es)
    (paired_entry a s e parts.0) (paired_history a (after s e) es parts.1)

-- the answers under one number are those of the calls of that number
same_test : (a k : ℕ) (n : Numbered) (s : Answer) → Decides a n s → is_under a k s ≡ is_number k n
same_test a k (NameAs i call) s (reply, is, may) = ap (is_under a k) is
    ∙ ap (λ (t : Bool). t && (i == k)) (eq-eqb a a refl)
same_test a k (JoinAs i m) s (reply, is, may) = ap (is_under a k) is
    ∙ ap (λ (t : Bool). t && (i == k)) (eq-eqb a a refl)

-- and so those of a whole list are
pub paired_filter : (a k : ℕ) (ns : List Numbered) (xs : List Answer) → Paired a ns xs
    → Paired a (filter (is_number k) ns) (filter (is_under a k) xs)
paired_filter a k [] [] p = tt
paired_filter a k [] (x ∷ xs) p = absurd p
paired_filter a k (n ∷ ns) [] p = absurd p
paired_filter a k (n ∷ ns) (x ∷ xs) p = subst (λ (t : Bool). Paired a (filter (is_number k) (n ∷ ns))
    (if t then x ∷ filter (is_under a k) xs else filter (is_under a k) xs)) (sym (same_test a k n x p.0))
    (go (is_number k n) (paired_filter a k ns xs p.1))
  where
    go : (t : Bool) → Paired a (filter (is_number k) ns) (filter (is_under a k) xs)
        → Paired a (if t then n ∷ filter (is_number k) ns else filter (is_number k) ns)
        (if t then x ∷ filter (is_under a k) xs else filter (is_under a k) xs)
    go true more = (p.0, more)
    go false more = more

-- a call under one number has no other
other_number : (i k : ℕ) (c : Call) → (i ≡ k → ⊥) → filter (is_number k) (numbered i c) ≡ []
other_number i k (Call.OnName c) ne = ap (λ (b : Bool). if b then NameAs i c ∷ [] else []) (ne_eqb i k ne)
other_number i k (Call.JoinBy m) ne = ap (λ (b : Bool). if b then JoinAs i m ∷ [] else []) (ne_eqb i k ne)
other_number i k _ ne = refl

-- and it has its own
same_number : (i : ℕ) (c : Call) → filter (is_number i) (numbered i c) ≡ numbered i c
same_number i (Call.OnName c) = ap (λ (b : Bool). if b then NameAs i c ∷ [] else []) (eq-eqb i i refl)
same_number i (Call.JoinBy m) = ap (λ (b : Bool). if b then JoinAs i m ∷ [] else []) (eq-eqb i i refl)
same_number i _ = refl

-- no call has a number before the first
none_before : (k i : ℕ) (cs : List Call) → i < k → filter (is_number i) (number_from k cs) ≡ []
none_before k i [] l = refl
none_before k i (c ∷ cs) l = filter-append (is_number i) (numbered k c) (number_from (k + 1) cs)
    ∙ ap (λ (ns : List Numbered). ns ++ filter (is_number i) (number_from (k + 1) cs))
    (other_number k i c (λ e. absurd (omega (arith, l, e))))
    ∙ none_before (k + 1) i cs (omega arith)

-- the name or join call under a number, if there is one
abbrev pub numbered_if : ℕ → Option Call → List Numbered
numbered_if k None = []
numbered_if k (Some c) = numbered k c

-- the calls of one number: the one in that place
pub number_at : (k i : ℕ) (cs : List Call)
    → filter (is_number (k + i)) (number_from k cs) ≡ numbered_if (k + i) (slice_get cs i)
number_at k i [] = refl
number_at k zero (c ∷ cs) = filter-append (is_number (k + 0)) (numbered k c) (number_from (k + 1) cs)
    ∙ ap (λ (ns : List Numbered). filter (is_number (k + 0)) (numbered k c) ++ ns)
    (none_before (k + 1) (k + 0) cs (omega arith))
    ∙ append-nil (filter (is_number (k + 0)) (numbered k c))
    ∙ subst (λ (n : ℕ). filter (is_number n) (numbered k c) ≡ numbered n c) (omega arith) (same_number k c)
number_at k (suc i) (c ∷ cs) = filter-append (is_number (k + suc i)) (numbered k c) (number_from (k + 1) cs)
    ∙ ap (λ (ns : List Numbered). ns ++ filter (is_number (k + suc i)) (number_from (k + 1) cs))
    (other_number k (k + suc i) c (λ e. absurd (omega (arith, e))))
    ∙ subst (λ (n : ℕ). filter (is_number n) (number_from (k + 1) cs) ≡ numbered_if n (slice_get cs i))
    (omega arith) (number_at (k + 1) i cs)

-- answers of calls of one number are one at most
at_most : (a k : ℕ) (cs : List Call) (x : Option Call) (ns rest : List Numbered) (xs : List Answer)
    → slice_get cs (k - 1) ≡ x → ns ++ rest ≡ numbered_if k x → Paired a ns xs → AtMostOne cs a k xs
at_most a k cs x [] rest [] is e p = NotYet
at_most a k cs x [] rest (s ∷ xs) is e p = absurd p
at_most a k cs x (n ∷ ns) rest [] is e p = absurd p
at_most a k cs None (n ∷ ns) rest (s ∷ xs) is e p = cc
at_most a k cs (Some (Call.OnName c)) (n ∷ []) rest (s ∷ []) is e p =
    let same : n ≡ NameAs k c = cc e in
    let d : Decides a (NameAs k c) s = subst (λ (m : Numbered). Decides a m s) same p.0 in
    subst (λ (t : Answer). AtMostOne cs a k (t ∷ [])) (sym d.1) (Once (Call.OnName c) d.0 is d.2)
at_most a k cs (Some (Call.JoinBy m)) (n ∷ []) rest (s ∷ []) is e p =
    let same : n ≡ JoinAs k m = cc e in
    let d : Decides a (JoinAs k m) s = subst (λ (m : Numbered). Decides a m s) same p.0 in
    subst (λ (t : Answer). AtMostOne cs a k (t ∷ [])) (sym d.1) (Once (Call.JoinBy m) d.0 is d.2)
at_most a k cs (Some (Call.OnName c)) (n ∷ []) rest (s ∷ t ∷ xs) is e p = absurd p.1
at_most a k cs (Some (Call.JoinBy m)) (n ∷ []) rest (s ∷ t ∷ xs) is e p = absurd p.1
at_most a k cs (Some (Call.OnName c)) (n ∷ m ∷ ns) rest (s ∷ xs) is e p = cc
at_most a k cs (Some (Call.JoinBy l)) (n ∷ m ∷ ns) rest (s ∷ xs) is e p = cc
at_most a k cs (Some Call.Spawn) (n ∷ ns) rest (s ∷ xs) is e p = cc
at_most a k cs (Some (Call.LookUp look)) (n ∷ ns) rest (s ∷ xs) is e p = cc
at_most a k cs (Some (Call.SetLock q r z target retries)) (n ∷ ns) rest (s ∷ xs) is e p = cc
at_most a k cs (Some (Call.DelLock q r z target)) (n ∷ ns) rest (s ∷ xs) is e p = cc

-- and so are the first of them
pub at_most-front : (a k : ℕ) (cs : List Call) (zs xs ys : List Answer) → AtMostOne cs a k zs → zs ≡ xs ++ ys
    → AtMostOne cs a k xs
at_most-front a k cs zs [] ys p e = NotYet
at_most-front a k cs zs (x ∷ xs) ys p e = go zs p e
  where
    go : (zs : List Answer) → AtMostOne cs a k zs → zs ≡ (x ∷ xs) ++ ys → AtMostOne cs a k (x ∷ xs)
    go zs NotYet e = cc
    go zs (Once call reply is may) e = first xs e
      where
        first : (xs : List Answer) → answer_to a k reply ∷ [] ≡ (x ∷ xs) ++ ys → AtMostOne cs a k (x ∷ xs)
        first [] e =
            let same : answer_to a k reply ≡ x = cc e in
            subst (λ (t : Answer). AtMostOne cs a k (t ∷ [])) same (Once call reply is may)
        first (y ∷ xs) e = cc

-- name calls and joins are answered at most once
pub words_once : (o : Opening) (w : World) (ps : List Played) → Book o w ps → Replicas o w → (a k : ℕ) → 0 < k
    → AtMostOne (calls_at a ps) a k (filter (is_under a k) (filter (is_word_at a) (answers_of ps)))
words_once o w ps B R a k pos = at_most-front a k (calls_at a ps)
    (filter (is_under a k) (flat_map (entered_at a) w.history)) (filter (is_under a k) (filter (is_word_at a)
    (answers_of ps)))
    (filter (is_under a k) (owed_by a (replies_to B.accounts.gate a) (w.node a).current))
    (at_most a k (calls_at a ps) (slice_get (calls_at a ps) (k - 1)) (filter (is_number k) (flat_map
    (decided_at a) w.history))
    (filter (is_number k) (own (replies_to B.accounts.gate a) (w.node a)))
    (filter (is_under a k) (flat_map (entered_at a) w.history)) refl
    (sym (filter-append (is_number k) (flat_map (decided_at a) w.history) (own (replies_to B.accounts.gate a)
    (w.node a)))
    ∙ ap (filter (is_number k)) (sym (B.accounts.calls a))
    ∙ subst (λ (n : ℕ). filter (is_number n) (accepted_at a ps) ≡ numbered_if n (slice_get (calls_at a ps) (k - 1)))
    (omega (arith, pos)) (number_at 1 (k - 1) (calls_at a ps)))
    (paired_filter a k (flat_map (decided_at a) w.history) (flat_map (entered_at a) w.history)
    (paired_history a _ w.history R.legal)))
    (ap (filter (is_under a k)) (B.accounts.answers a)
    ∙ filter-append (is_under a k) (filter (is_word_at a) (answers_of ps)) (owed_by a
    (replies_to B.accounts.gate a) (w.node a).current))

-- a lock call's answer under number k
abbrev pub is_lock_under : ℕ → ℕ → Answer → Bool
is_lock_under a k s = is_under a k s && not (is_word s.reply)

-- one test behind another
pub filter_twice : {X : Type 0} (p q : X → Bool) (xs : List X) → filter p (filter q xs) ≡ filter (λ x. q x && p x) xs
filter_twice p q [] = refl
filter_twice {X} p q (x ∷ xs) = go (q x) (filter_twice p q xs)
  where
    go : (b : Bool) → filter p (filter q xs) ≡ filter (λ x. q x && p x) xs
        → filter p (if b then x ∷ filter q xs else filter q xs)
        ≡ (if b && p x then x ∷ filter (λ x. q x && p x) xs else filter (λ x. q x && p x) xs)
    go true e = ap (λ (l : List X). if p x then x ∷ l else l) e
    go false e = e

-- under the number of a name or join call only words are answered
pub used_words : (w : World) (ps : List Played) (a k : ℕ) → Spares w ps → is_used (accepted_at a ps) k ≡ true
    → filter (is_under a k) (filter (is_word_at a) (answers_of ps)) ≡ answers_under a k ps
used_words w ps a k X used = filter_twice (is_under a k) (is_word_at a) (answers_of ps)
    ∙ filter_same (λ (s : Answer). is_word_at a s && is_under a k s) (is_under a k) (answers_of ps)
    (all_map (λ (s : Answer). is_word s.reply ≡ false → Spare ps s.node s.number)
    (λ (s : Answer). (is_word_at a s && is_under a k s) ≡ is_under a k s) only_words (answers_of ps) X.answers)
  where
    only_words : (s : Answer) → (is_word s.reply ≡ false → Spare ps s.node s.number)
        → (is_word_at a s && is_under a k s) ≡ is_under a k s
    only_words s spare = go (s.node == a) refl (s.number == k) refl (is_word s.reply) refl
      where
        go : (b : Bool) → (s.node == a) ≡ b → (c : Bool) → (s.number == k) ≡ c → (d : Bool) → is_word s.reply ≡ d
            → ((b && d) && (b && c)) ≡ (b && c)
        go false x c y d z = refl
        go true x c y true z = refl
        go true x false y false z = refl
        go true x true y false z =
            let free : is_used (accepted_at s.node ps) s.number ≡ false = (spare z).unused in
            absurd (cc (
              sym used,
              subst (λ (n : ℕ). is_used (accepted_at n ps) k ≡ false) (eqb-true s.node a x)
                  (subst (λ (n : ℕ). is_used (accepted_at s.node ps) n ≡ false) (eqb-true s.number k y) free),
            ))

-- each numbered call is answered at most once, where each lock call is
pub answers_once : (o : Opening) (w : World) (ps : List Played) → Book o w ps → Spares w ps → Replicas o w
    → ((a k : ℕ) → 0 < k → AtMostOne (calls_at a ps) a k (filter (is_lock_under a k) (answers_of ps)))
    → (a k : ℕ) → 0 < k → AtMostOne (calls_at a ps) a k (answers_under a k ps)
answers_once o w ps B X R locks a k pos = by_kind (is_used (accepted_at a ps) k) refl
  where
    Once_of : List Answer → Type 0
    Once_of = AtMostOne (calls_at a ps) a k

    -- under the number of a lock call no words are answered
    no_words : is_used (accepted_at a ps) k ≡ false → (s : Answer)
        → (is_word_at a s ≡ true → is_answered (filter (is_word_at a) (answers_of ps)) s.number ≡ true)
        → is_lock_under a k s ≡ is_under a k s
    no_words unused s word = go (s.node == a) refl (s.number == k) refl (is_word s.reply) refl
      where
        go : (b : Bool) → (s.node == a) ≡ b → (c : Bool) → (s.number == k) ≡ c → (d : Bool) → is_word s.reply ≡ d
            → ((b && c) && not d) ≡ (b && c)
        go false x c y d z = refl
        go true x false y d z = refl
        go true x true y false z = refl
        go true x true y true z =
            let used : is_used (accepted_at a ps) s.number ≡ true =
            word_used o w ps a s.number B (word (ap (λ (t : Bool). t && is_word s.reply) x ∙ z)) in
            absurd (cc (
              sym unused,
              subst (λ (n : ℕ). is_used (accepted_at a ps) n ≡ true) (eqb-true s.number k y) used,
            ))

    by_kind : (b : Bool) → is_used (accepted_at a ps) k ≡ b → Once_of (answers_under a k ps)
    by_kind true used = subst Once_of (used_words w ps a k X used) (words_once o w ps B R a k pos)
    by_kind false unused = subst Once_of
        (filter_same (is_lock_under a k) (is_under a k) (answers_of ps)
        (all_map (λ (s : Answer). is_word_at a s ≡ true
        → is_answered (filter (is_word_at a) (answers_of ps)) s.number ≡ true)
        (λ (s : Answer). is_lock_under a k s ≡ is_under a k s) (no_words unused) (answers_of ps)
        (answer_found (is_word_at a) [] (answers_of ps))))
        (locks a k pos)
