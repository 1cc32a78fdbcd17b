-- Which call a lock reply is given to: in a step that goes on with open calls, or tries them again, one that was open
-- before.
use Rattle.std.proofs.Common.{ℕ, Bool, true, false, ◌≡◌, ◌<◌, Option, Some, None, List, [], ◌∷◌, refl, ap, ◌∙◌, subst, arith, inl, inr}
use Rattle.std.specs.Prelude.{Contains, if◌then◌else◌}
use Rattle.std.specs.List.{list_all}
use Rattle.std.proofs.lemmas.List.Elements.{Contains-append_cases}
use Rattle.std.proofs.lemmas.Bool.{eqb-true}
use Rattle.registry_model.specs.Process.{Process}
use Rattle.registry_model.specs.Call.{Reply, True, False, Joined, NotMember, ContactLeft, reply_to}
use Rattle.registry_model.proofs.Lists.{Contains-cases, Contains-nil}
use Rattle.protocol_model.specs.Node.{Op, Current, LockPhase, LockCall, call_of}
use Rattle.protocol_model.specs.Event.{Answer}
use Rattle.protocol_model.specs.Client.{is_spent}
use Rattle.protocol_model.specs.Answers.{answer_to}
use Rattle.protocol_model.specs.World.{Opening, World, join_number}
use Rattle.moves.proofs.Rules
use Rattle.moves.proofs.Rules.{Rule}
use Rattle.moves.proofs.Invariants.{Replicas, IsWritten}
use Rattle.moves.proofs.Indices.{both}
use Rattle.walk.proofs.ChainKinds.{Aside, Again, Hearing, suits, is_number_of}
use Rattle.leftovers.proofs.Made.{answered, answer_of, answers_made}
use Rattle.leftovers.proofs.FittingAccounts.{is_word}
use Rattle.leftovers.proofs.FittingSettling.{reply_to-word, grant_word}
use Rattle.leftovers.proofs.Calls.{home_of_call}
use Rattle.leftovers.proofs.Clients.{call_at}
use Rattle.leftovers.proofs.Growing.{Replying, replying_keeps}
use Rattle.leftovers.proofs.Chains.{from_heard}
use Rattle.leftovers.proofs.Numbering.{beginner_home}
use Rattle.leftovers.proofs.Opening.{no_numbers}
use Rattle.leftovers.proofs.Grounds.{Base, base_keeps, replicas}
use Rattle.lock_answers.proofs.Spared.{is_lock_answer}
use Rattle.lock_answers.proofs.Verdicts.{word_no_verdict}

-- the call that a rule answers
abbrev pub closed_call : Rule → Option LockCall
closed_call (Rules.FailsLock c) = Some c
closed_call (Rules.WinsLock c r) = Some c
closed_call (Rules.GivesUpLock c r granted) = Some c
closed_call (Rules.DeletesNothing c) = Some c
closed_call (Rules.EndsDeletion f c owing) = Some c
closed_call (Rules.EndsDeletionDown d c owing) = Some c
closed_call _ = None

-- the rule answers a call by its number
abbrev pub Closed : Rule → Answer → Type 0
Closed r s = (c : LockCall) × (closed_call r ≡ Some c) × (c.number ≡ s.number)

-- the only one of a list
pub the_one : {A : Type 0} (y x : A) → Contains (y ∷ []) x → y ≡ x
the_one y x c = elim (Contains-cases y [] x c) [
  | inl e ↦ e
  | inr none ↦ absurd (Contains-nil x none)
]

module _ (o : Opening) (a : ℕ) (w : World) (R : Replicas o w) (s : Answer) (lock : is_lock_answer s ≡ true)
    (numbered : 0 < s.number) where
  -- a word answers no lock call
  not_word : (k : ℕ) (r : Reply) → is_word r ≡ true → Contains (answer_to a k r ∷ []) s → ⊥
  not_word k r word c = cc (
    ap is_lock_answer (the_one (answer_to a k r) s c) ∙ lock,
    word_no_verdict r word,
  )

  not_zero : (r : Reply) → Contains (answer_to a 0 r ∷ []) s → ⊥
  not_zero r c = absurd (omega (arith, ap (λ (x : Answer). x.number) (the_one (answer_to a 0 r) s c), numbered))

  ends : (r : Rule) (c : LockCall) (reply : Reply) → closed_call r ≡ Some c → Contains (answer_to a c.number reply ∷ []) s
      → Closed r s
  ends r c reply e k = (c, e, ap (λ (x : Answer). x.number) (the_one (answer_to a c.number reply) s k))

  by_rule : (r : Rule) → Rules.May o a w r → Contains (answered a r (w.node a)) s → Closed r s
  by_rule Rules.Spawns m k = absurd (not_zero _ k)
  by_rule (Rules.LooksUp look) m k = absurd (not_zero _ k)
  by_rule (Rules.SkipsJoin i j ops) m k = absurd (not_word i ContactLeft refl k)
  by_rule (Rules.Denies i call r) m k = absurd (not_word i
      (reply_to (w.node a).replica.members (w.node a).replica.table call)
      (reply_to-word (w.node a).replica.members (w.node a).replica.table call) k)
  by_rule (Rules.Finishes op asked awaited reply) m k =
      absurd (words op reply (subst (IsWritten o w a) m.tested.0 (R.written a)) k)
    where
      words : (op : Op) (reply : Option Reply) → IsWritten o w a (Current.Writing op asked awaited reply)
          → Contains (answer_of a op reply) s → ⊥
      words (Op.Name i call) (Some x) W k = not_word i x (grant_word x W.3.1) k
      words (Op.Name i call) None W k = Contains-nil s k
      words (Op.Strike p) reply W k = Contains-nil s k
      words (Op.Join i n) reply W k = Contains-nil s k
      words (Op.Admission j pairs) reply W k = Contains-nil s k
  by_rule (Rules.EndsJoin f i) m k = absurd (not_word i NotMember refl k)
  by_rule (Rules.IsWelcomed f i members pairs told fate) m k = absurd (not_word i Joined refl k)
  by_rule (Rules.LosesContact i n) m k = absurd (not_word i ContactLeft refl k)
  by_rule (Rules.FailsLock c) m k = ends (Rules.FailsLock c) c False refl k
  by_rule (Rules.WinsLock c r) m k = ends (Rules.WinsLock c r) c True refl k
  by_rule (Rules.GivesUpLock c r granted) m k = go (is_spent c.retries) k
    where
      go : (b : Bool) → Contains (if b then answer_to a c.number False ∷ [] else []) s
          → Closed (Rules.GivesUpLock c r granted) s
      go true i = ends (Rules.GivesUpLock c r granted) c False refl i
      go false i = absurd (Contains-nil s i)
  by_rule (Rules.DeletesNothing c) m k = ends (Rules.DeletesNothing c) c True refl k
  by_rule (Rules.EndsDeletion f c owing) m k = ends (Rules.EndsDeletion f c owing) c True refl k
  by_rule (Rules.EndsDeletionDown d c owing) m k = ends (Rules.EndsDeletionDown d c owing) c True refl k
  by_rule r m k = absurd (Contains-nil s k)

  pub rule_closes : (r : Rule) → Rules.May o a w r → Contains (Rules.turn_by o a w r).answers s → Closed r s
  rule_closes r m k = by_rule r m
      (subst (λ (ss : List Answer). Contains ss s) (answers_made o a (join_number w) r (w.node a)) k)

-- a rule of no lock call answers none
aside_closes : (r : Rule) → suits Aside r ≡ true → (c : LockCall) → closed_call r ≡ Some c → ⊥
aside_closes (Rules.FailsLock c) h d e = cc h
aside_closes (Rules.WinsLock c r) h d e = cc h
aside_closes (Rules.GivesUpLock c r granted) h d e = cc h
aside_closes (Rules.DeletesNothing c) h d e = cc h
aside_closes (Rules.EndsDeletion f c owing) h d e = cc h
aside_closes (Rules.EndsDeletionDown i c owing) h d e = cc h
aside_closes _ h d e = cc e

module _ (o : Opening) (a : ℕ) (s : Answer) (lock : is_lock_answer s ≡ true) (numbered : 0 < s.number) where
  abbrev next : World → Rule → World
  next w r = Rules.effect o a r w

  -- a chain without rules of lock calls answers none
  pub aside_silent : (rs : List Rule) (w : World) → list_all (suits Aside) rs ≡ true → Rules.MayAll o a rs w → Base o w
      → Contains (Rules.answers_by o a rs w) s → ⊥
  aside_silent [] w h m B k = Contains-nil s k
  aside_silent (r ∷ rs) w h m B k =
      let parts : (suits Aside r ≡ true) × (list_all (suits Aside) rs ≡ true) =
      both (suits Aside r) (list_all (suits Aside) rs) h in
      elim (Contains-append_cases (Rules.turn_by o a w r).answers (Rules.answers_by o a rs (next w r)) s k) [
        | inl i ↦ let C : Closed r s = rule_closes o a w (replicas o w B) s lock numbered r m.0 i in
            aside_closes r parts.0 C.0 C.1
        | inr i ↦ aside_silent rs (Rules.effect o a r w) parts.1 m.1 (base_keeps o a w r B m.0) i
      ]

  -- a call of the node was open in this world, by the number of the answer
  abbrev pub WasOpen : World → Type 0
  WasOpen w = (q : Process) × (c : LockCall) × (call_at w q ≡ Some c) × (q.node ≡ a) × (c.number ≡ s.number)

  -- an open call that is answered
  heard_open : (w : World) → Base o w → (r : Rule) → suits Hearing r ≡ true → Rules.May o a w r → Closed r s → WasOpen w
  heard_open w B r h m C = go r h m C.0 C.1 C.2
    where
      found : (c d : LockCall) (now : LockPhase) → Rules.IsOpen (w.node a) c now → Some c ≡ Some d
          → d.number ≡ s.number → WasOpen w
      found c d now k e n =
          let same : c ≡ d = cc e in
          let home : c.holder.node ≡ a = home_of_call a c.holder (w.node a).calls c (B.ordered a) k.call in (
            c.holder,
            c,
            ap (λ (i : ℕ). call_of c.holder (w.node i).calls) home ∙ k.call,
            home,
            ap (λ (x : LockCall). x.number) same ∙ n,
          )

      go : (r : Rule) → suits Hearing r ≡ true → Rules.May o a w r → (d : LockCall) → closed_call r ≡ Some d
          → d.number ≡ s.number → WasOpen w
      go (Rules.FailsLock c) h m d e n = cc h
      go (Rules.DeletesNothing c) h m d e n = cc h
      go (Rules.WinsLock c r) h m d e n = found c d (LockPhase.Asking r) m.tested.0 e n
      go (Rules.GivesUpLock c r granted) h m d e n = found c d (LockPhase.Asking r) m.tested.0 e n
      go (Rules.EndsDeletion f c owing) h m d e n = found c d (LockPhase.Deleting owing) m.tested.1 e n
      go (Rules.EndsDeletionDown i c owing) h m d e n = found c d (LockPhase.Deleting owing) m.tested.1 e n
      go _ h m d e n = cc e

  -- in a chain that goes on with open calls
  pub heard_source : (rs : List Rule) (w : World) → list_all (suits Hearing) rs ≡ true → Rules.MayAll o a rs w
      → Base o w → Replying w → Contains (Rules.answers_by o a rs w) s → WasOpen w
  heard_source [] w h m B R k = absurd (Contains-nil s k)
  heard_source (r ∷ rs) w h m B R k =
      let parts : (suits Hearing r ≡ true) × (list_all (suits Hearing) rs ≡ true) =
      both (suits Hearing r) (list_all (suits Hearing) rs) h in
      elim (Contains-append_cases (Rules.turn_by o a w r).answers (Rules.answers_by o a rs (next w r)) s k) [
        | inl i ↦ heard_open w B r parts.0 m.0 (rule_closes o a w (replicas o w B) s lock numbered r m.0 i)
        | inr i ↦ back parts.0 (heard_source rs (Rules.effect o a r w) parts.1 m.1 (base_keeps o a w r B m.0)
            (replying_keeps o a w r m.0 R) i)
      ]
    where
      back : suits Hearing r ≡ true → WasOpen (Rules.effect o a r w) → WasOpen w
      back i W =
          let one : (c : LockCall) × ((call_at w W.0 ≡ Some c) × (c.number ≡ W.1.number)) =
          from_heard o a w no_numbers r i m.0 B.ordered R W.0 W.1 W.2 in
          (W.0, one.0, one.1.0, W.3, one.1.1 ∙ W.4)

  -- the call that had this number
  number_open : (v : World) (q : Process) (n : ℕ) → q.node ≡ a → n ≡ s.number
      → is_number_of (call_of q (v.node a).calls) n ≡ true → WasOpen v
  number_open v q n home e h = go (call_of q (v.node a).calls) refl h
    where
      go : (k : Option LockCall) → call_of q (v.node a).calls ≡ k → is_number_of k n ≡ true → WasOpen v
      go None i j = cc
      go (Some c) i j = (
        q,
        c,
        ap (λ (x : ℕ). call_of q (v.node x).calls) home ∙ i,
        home,
        eqb-true c.number n j ∙ e,
      )

  -- and in one that tries refused calls again
  pub again_source : (v : World) (rs : List Rule) (w : World) → list_all (suits (Again (v.node a))) rs ≡ true
      → Rules.MayAll o a rs w → Base o w → Contains (Rules.answers_by o a rs w) s → WasOpen v
  again_source v [] w h m B k = absurd (Contains-nil s k)
  again_source v (r ∷ rs) w h m B k =
      let parts : (suits (Again (v.node a)) r ≡ true) × (list_all (suits (Again (v.node a))) rs ≡ true) =
      both (suits (Again (v.node a)) r) (list_all (suits (Again (v.node a))) rs) h in
      elim (Contains-append_cases (Rules.turn_by o a w r).answers (Rules.answers_by o a rs (next w r)) s k) [
        | inl i ↦ here r parts.0 m.0 (rule_closes o a w (replicas o w B) s lock numbered r m.0 i)
        | inr i ↦ again_source v rs (Rules.effect o a r w) parts.1 m.1 (base_keeps o a w r B m.0) i
      ]
    where
      here : (r : Rule) → suits (Again (v.node a)) r ≡ true → Rules.May o a w r → Closed r s → WasOpen v
      here (Rules.FailsLock c) i n C =
          let same : c ≡ C.0 = cc C.1 in
          number_open v c.holder c.number (beginner_home o a w c B.ordered n.tested.0)
          (ap (λ (x : LockCall). x.number) same ∙ C.2) i
      here (Rules.WinsLock c x) i n C = cc i
      here (Rules.GivesUpLock c x granted) i n C = cc i
      here (Rules.DeletesNothing c) i n C = cc i
      here (Rules.EndsDeletion f c owing) i n C = cc i
      here (Rules.EndsDeletionDown d c owing) i n C = cc i
      here _ i n C = cc C.1
