-- Letters that aren't read, notices of departures, and leaves.
use Rattle.std.proofs.Common.{ℕ, Bool, true, false, ◌≡◌, ◌==◌, List, [], ◌∷◌, refl, sym, ap, ◌∙◌, inl, inr}
use Rattle.std.specs.Prelude.{if◌then◌else◌}
use Rattle.std.proofs.lemmas.Bool.{cases_eq, eq-eqb, ne_eqb}
use Rattle.protocol_model.specs.Letter.{Letter}
use Rattle.protocol_model.specs.Node.{Current}
use Rattle.protocol_model.specs.Turn.{Turn}
use Rattle.protocol_model.specs.World.{Opening, World, left, Deliver, join_number, apply, letter_taken}
use Rattle.moves.proofs.Rules
use Rattle.registry_model.proofs.Updates.{by_test}
use Rattle.moves.proofs.Indices.{at_pair}
use Rattle.moves.proofs.Invariants.{is_down_last, current, Proper, Replicas}
use Rattle.join_gates.proofs.Tokens.{Gate, Away, Knock, Turned, Entering, is_away, is_turned, are_plain, plain_knocks, plain_returns, knocks, returns, returns_of, queued_of, knocks-append, returns-append, admissions, jobs}
use Rattle.join_gates.proofs.Links.{sent_none, taken_none, taken_one}
use Rattle.join_gates.proofs.Pairs.{self_pair, queue_same, at_refusal, at_welcome}
use Rattle.join_gates.proofs.Gates.{Gates, moved, gates_unmoved, shut}
use Rattle.join_gates.proofs.Turns.{calm_turn, facts_by}
use Rattle.join_gates.proofs.Calm.{sends_plain, quietly}
use Rattle.join_gates.proofs.Still.{effect-legal, clears}
use Rattle.join_gates.proofs.Moves.{returns_on, knocking, no_answer}

-- a letter that isn't awaited is no part of a join
pub ignores : (o : Opening) (a : ℕ) (w : World) (gate : ℕ → ℕ → Gate) (f : ℕ) (l : Letter)
    → Replicas o (Rules.effect o a (Rules.Ignores f l) w) → Rules.May o a w (Rules.Ignores f l) → Gates o w gate
    → Gates o (Rules.effect o a (Rules.Ignores f l) w) gate
ignores o a w gate f (Letter.JoinAsk p) R2 M G = absurd (cc M.tested.1)
ignores o a w gate f Letter.JoinRefused R2 M G =
    let here : (gate a f ≡ Turned) × (returns M.front.1.0 ≡ [])
    = at_refusal (returns M.front.1.0) (gate a f) (sym (ap returns M.front.1.1) ∙ G.back a f M.running) in
    let waits : (k : ℕ) × (current o w a ≡ Current.Joining k f) = (G.facts a f).fit (ap is_away here.0) in
    absurd (cc (sym M.tested.1 ∙ ap (Rules.is_joining_by f) waits.1 ∙ eq-eqb f f refl))
ignores o a w gate f (Letter.Welcome members pairs told fate) R2 M G =
    let here : (gate a f ≡ Entering) × (returns M.front.1.0 ≡ [])
    = at_welcome (returns M.front.1.0) (gate a f) (sym (ap returns M.front.1.1) ∙ G.back a f M.running) in
    let waits : (k : ℕ) × (current o w a ≡ Current.Joining k f) = (G.facts a f).fit (ap is_away here.0) in
    absurd (cc (sym M.tested.1 ∙ ap (Rules.is_joining_by f) waits.1 ∙ eq-eqb f f refl))
ignores o a w gate f l R2 M G = calm_turn o a w (Rules.turn_by o a w (Rules.Ignores f l)) gate
    (Rules.taking f l) M.front refl refl
    (quietly o a w (Rules.Ignores f l) refl M) (clears o a w (Rules.Ignores f l) refl M R2) refl (λ j m e k. refl) G

-- where the request of a joiner that has left is dropped, its join is over
abbrev pub gate_dropped : ℕ → ℕ → Letter → (ℕ → ℕ → Gate) → ℕ → ℕ → Gate
gate_dropped a f (Letter.JoinAsk p) gate = at_pair gate f a Away
gate_dropped a f _ gate = gate

-- of a node that is told to have left no answer to a join is dropped
pub letter_drops : (o : Opening) (a : ℕ) (w : World) (gate : ℕ → ℕ → Gate) (f : ℕ) (l : Letter)
    → Proper o w → Replicas o w → Replicas o (Rules.effect o a (Rules.Drops f l) w)
    → Rules.May o a w (Rules.Drops f l) → Gates o w gate
    → Gates o (Rules.effect o a (Rules.Drops f l) w) (gate_dropped a f l gate)
letter_drops o a w gate f (Letter.JoinAsk p) P R R2 M G =
    moved o w v gate f a Away (knocks rest) (returns_on w f a) (admissions f (jobs (w.node a)))
    G (λ x l. l)
    (λ x y l. sent_none knocks knocks-append (letter_taken (Deliver f a) w) a u (λ y. refl) x y
    ∙ taken_one knocks knocks-append w f a (Letter.JoinAsk p) rest front x y)
    (λ l. here.1)
    (λ x y l. sent_none returns returns-append (letter_taken (Deliver f a) w) a u (λ y. refl) y x
    ∙ taken_none returns returns-append w f a (Letter.JoinAsk p) rest front refl y x
    ∙ self_pair (returns_on w) f a x y)
    (λ l. G.back f a l ∙ ap returns_of here.0)
    (λ x y l. queue_same w a u.node f a (λ x. refl) x y)
    (λ l. G.queued f a M.running ∙ ap queued_of here.0)
    (λ x y ne. facts_by o a w u gate v refl refl (λ x l. l) (effect-legal o a w r R2) x y (gate x y)
    (λ e i h. h) (λ e. e) (λ e t h. h) (λ i. clears o a w r refl M R2 x i y) (λ e l. refl))
    (shut o v f a)
  where
    r : Rules.Rule
    r = Rules.Drops f (Letter.JoinAsk p)

    u : Turn
    u = Rules.turn_by o a w r

    v : World
    v = Rules.effect o a r w

    rest : List Letter
    rest = M.front.1.0

    front : w.links.queue f a ≡ Letter.JoinAsk p ∷ rest
    front = M.front.1.1

    here : (gate f a ≡ Knock p) × (knocks rest ≡ [])
    here = knocking o a w gate f p rest M.running front G
letter_drops o a w gate f Letter.JoinRefused P R R2 M G =
    absurd (cc (sym (ap returns M.front.1.1) ∙ G.back a f M.running
    ∙ no_answer o w gate a f P R M.running M.tested.0 G))
letter_drops o a w gate f (Letter.Welcome members pairs told fate) P R R2 M G =
    absurd (cc (sym (ap returns M.front.1.1) ∙ G.back a f M.running
    ∙ no_answer o w gate a f P R M.running M.tested.0 G))
letter_drops o a w gate f l P R R2 M G = calm_turn o a w (Rules.turn_by o a w (Rules.Drops f l)) gate
    (Rules.taking f l) M.front refl refl
    (quietly o a w (Rules.Drops f l) refl M) (clears o a w (Rules.Drops f l) refl M R2) refl (λ j m e k. refl) G

-- a node is told that another has left
pub is_told : (o : Opening) (a : ℕ) (w : World) (gate : ℕ → ℕ → Gate) (f : ℕ)
    → Proper o w → Replicas o (Rules.effect o a (Rules.IsTold f) w) → Rules.May o a w (Rules.IsTold f)
    → Gates o w gate
    → Gates o (Rules.effect o a (Rules.IsTold f) w) gate
is_told o a w gate f P R2 M G = gates_unmoved o w v gate G (λ x l. l)
    (λ x y l. sent_none knocks knocks-append (letter_taken (Deliver f a) w) a u (λ y. refl) x y
    ∙ taken_none knocks knocks-append w f a Letter.Down rest front refl x y)
    (λ x y l. sent_none returns returns-append (letter_taken (Deliver f a) w) a u (λ y. refl) x y
    ∙ taken_none returns returns-append w f a Letter.Down rest front refl x y)
    (λ x y l. by_test a (λ y t. admissions x (jobs (if t then u.node else w.node y))
    ≡ admissions x (jobs (w.node y))) refl (λ y ne. refl) y)
    (λ x y. facts_by o a w u gate v refl refl (λ x l. l) (effect-legal o a w r R2) x y (gate x y)
    (λ e i h. h) (λ e. e) (λ e t h. untold x y e t h) (λ i. clears o a w r refl M R2 x i y) (λ e l. refl))
  where
    r : Rules.Rule
    r = Rules.IsTold f

    u : Turn
    u = Rules.turn_by o a w r

    v : World
    v = Rules.effect o a r w

    rest : List Letter
    rest = M.front.1.0

    front : w.links.queue f a ≡ Letter.Down ∷ rest
    front = M.front.1.1

    alone : (ls : List Letter) → is_down_last (Letter.Down ∷ ls) ≡ true → returns (Letter.Down ∷ ls) ≡ []
    alone [] e = refl
    alone (l ∷ ls) e = cc

    turned_returns : (g : Gate) → is_turned g ≡ true → returns_of g ≡ false ∷ []
    turned_returns Turned e = refl
    turned_returns _ e = cc

    none : is_turned (gate a f) ≡ true → ⊥
    none t = cc (sym (turned_returns (gate a f) t) ∙ sym (G.back a f M.running) ∙ ap returns front
        ∙ alone rest (ap is_down_last (sym front) ∙ P.last f a))

    untold : (x y : ℕ) → x ≡ a → is_turned (gate x y) ≡ true → (w.node a).replica.told y ≡ false
        → (if y == f then true else (w.node a).replica.told y) ≡ false
    untold x y e t h = elim (cases_eq y f) [
      | inl q ↦ absurd (none (ap is_turned (ap (λ (z : ℕ). gate z f) (sym e) ∙ ap (gate x) (sym q)) ∙ t))
      | inr ne ↦ ap (λ (b : Bool). if b then true else (w.node a).replica.told y) (ne_eqb y f ne) ∙ h
    ]

-- a node leaves, and nothing goes to it from then on
pub leaves : (o : Opening) (a : ℕ) (w : World) (gate : ℕ → ℕ → Gate)
    → Replicas o (Rules.effect o a Rules.Leaves w) → Rules.May o a w Rules.Leaves → Gates o w gate
    → Gates o (Rules.effect o a Rules.Leaves w) gate
leaves o a w gate R2 M G = gates_unmoved o w v gate G runs
    (λ x y l. by_test a (λ y t. (if t then true else left w y) ≡ false
    → knocks (if t then [] else (apply a u w).links.queue x y) ≡ knocks (w.links.queue x y))
    (λ e. cc) (λ y ne e. sent_none knocks knocks-append w a u (plain_knocks u.sends plain) x y) y l)
    (λ x y l. by_test a (λ y t. (if t then true else left w y) ≡ false
    → returns (if t then [] else (apply a u w).links.queue x y) ≡ returns (w.links.queue x y))
    (λ e. cc) (λ y ne e. sent_none returns returns-append w a u (plain_returns u.sends plain) x y) y l)
    (λ x y l. by_test a (λ y t. admissions x (jobs (if t then u.node else w.node y))
    ≡ admissions x (jobs (w.node y))) refl (λ y ne. refl) y)
    (λ x y. facts_by o a w u gate v refl refl runs (effect-legal o a w r R2) x y (gate x y)
    (λ e i h. h) (λ e. e) (λ e t h. h) (λ i. clears o a w r refl M R2 x i y) (λ e l. refl))
  where
    r : Rules.Rule
    r = Rules.Leaves

    u : Turn
    u = Rules.turn_by o a w r

    v : World
    v = Rules.effect o a r w

    plain : are_plain u.sends ≡ true
    plain = sends_plain o a (join_number w) r (w.node a) refl

    runs : (x : ℕ) → left v x ≡ false → left w x ≡ false
    runs = by_test a (λ x t. (if t then true else left w x) ≡ false → left w x ≡ false) (λ e. cc) (λ x ne e. e)
