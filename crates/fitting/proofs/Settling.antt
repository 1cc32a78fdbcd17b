-- What each rule does to the accounts of its own node and of the others.
use Rattle.std.proofs.Common.{ℕ, Bool, true, false, ◌≡◌, ◌==◌, Option, Some, None, List, [], ◌∷◌, ◌++◌, refl, sym, ap, ◌∙◌, subst, inl, inr}
use Rattle.std.specs.Prelude.{◌&&◌, not, if◌then◌else◌, filter, flat_map, is_some}
use Rattle.std.proofs.lemmas.List.{append-nil}
use Rattle.std.proofs.lemmas.Bool.{cases_eq, eq-eqb, ne_eqb}
use Rattle.registry_model.specs.Call.{NameCall, Register, ReRegister, Unregister, Look, Whereis, RegisteredNames, NoticesOf, Reply, Yes, No, Ok, UnknownNode, Pid, True, False, Joined, NotMember, ContactLeft, pid_or_undefined, is_grant, reply_to, seen_in}
use Rattle.registry_model.specs.Table.{Table, get}
use Rattle.registry_model.specs.History.{Entry}
use Rattle.registry_model.specs.Registry.{Replica}
use Rattle.protocol_model.specs.Letter.{Letter}
use Rattle.protocol_model.specs.Node.{Node, Op, Current}
use Rattle.protocol_model.specs.Watch.{next_serial}
use Rattle.protocol_model.specs.Event.{Answer}
use Rattle.protocol_model.specs.Client.{is_spent}
use Rattle.protocol_model.specs.Fit.{NameAs, JoinAs, decided_at}
use Rattle.protocol_model.specs.Answers.{answer_to, entered_at}
use Rattle.protocol_model.specs.World.{Opening, World, join_number}
use Rattle.join_gates.proofs.Rules
use Rattle.join_gates.proofs.Indices.{at_pair, pair_here}
use Rattle.join_gates.proofs.Invariants.{current}
use Rattle.join_gates.proofs.Made.{entered, answered}
use Rattle.join_gates.proofs.Tokens.{Gate, Away}
use Rattle.join_gates.proofs.Gates.{Gates, by_other}
use Rattle.join_gates.proofs.Pairs.{shut_gate}
use Rattle.join_gates.proofs.Moves.{knocking, waiting}
use Rattle.join_gates.proofs.Joins.{gate_by}
use Rattle.fitting.proofs.Accounts.{numbered_op, reply_by, answer_with, is_word, is_word_at, replies_to, SettlesNode, by_state, settles_still}

-- a name call's reply is a word
pub reply_to-word : (members : _) (table : Table) (call : NameCall) → is_word (reply_to members table call) ≡ true
reply_to-word members table (Register e) = go (not (members e.owner.node)) (_)
  where
    go : (b c : Bool) → is_word (if b then UnknownNode else (if c then No else Yes)) ≡ true
    go true c = refl
    go false true = refl
    go false false = refl
reply_to-word members table (ReRegister e) = go (not (members e.owner.node))
  where
    go : (b : Bool) → is_word (if b then UnknownNode else Yes) ≡ true
    go true = refl
    go false = refl
reply_to-word members table (Unregister x) = refl

-- a look-up's is none
pub seen_in-word : (v : Replica) (look : Look) → is_word (seen_in v look) ≡ false
seen_in-word v (Whereis x) = go (get x v.table)
  where
    go : (p : Option _) → is_word (pid_or_undefined p) ≡ false
    go None = refl
    go (Some p) = refl
seen_in-word v RegisteredNames = refl
seen_in-word v (NoticesOf p) = refl

pub grant_word : (r : Reply) → is_grant r ≡ true → is_word r ≡ true
grant_word Yes e = refl
grant_word Ok e = refl
grant_word _ e = cc

-- one answer of node b
pub word_kept : (b k : ℕ) (r : Reply) → is_word r ≡ true
    → filter (is_word_at b) (answer_to b k r ∷ []) ≡ answer_to b k r ∷ []
word_kept b k r e = ap (λ (t : Bool). if t && is_word r then answer_to b k r ∷ [] else []) (eq-eqb b b refl)
    ∙ ap (λ (t : Bool). if t then answer_to b k r ∷ [] else []) e

pub word_left : (a b k : ℕ) (r : Reply) → is_word r ≡ false → filter (is_word_at b) (answer_to a k r ∷ []) ≡ []
word_left a b k r e = ap (λ (t : Bool). if (a == b) && t then answer_to a k r ∷ [] else []) e ∙ go (a == b)
  where
    go : (t : Bool) → (if t && false then answer_to a k r ∷ [] else []) ≡ []
    go true = refl
    go false = refl

elsewhere : (a b k : ℕ) (r : Reply) → (a == b) ≡ false → filter (is_word_at b) (answer_to a k r ∷ []) ≡ []
elsewhere a b k r ne = ap (λ (t : Bool). if t && is_word r then answer_to a k r ∷ [] else []) ne

-- the answers of a rule at node a are no other node's
words_elsewhere : (a b : ℕ) (r : Rules.Rule) (v : Node) → (a == b) ≡ false
    → filter (is_word_at b) (answered a r v) ≡ []
words_elsewhere a b Rules.Spawns v ne = elsewhere a b 0 (Pid (record { node = a; serial = next_serial v.watch })) ne
words_elsewhere a b (Rules.LooksUp look) v ne = elsewhere a b 0 (seen_in v.replica look) ne
words_elsewhere a b (Rules.SkipsJoin k m ops) v ne = elsewhere a b k ContactLeft ne
words_elsewhere a b (Rules.Denies k call r) v ne =
    elsewhere a b k (reply_to v.replica.members v.replica.table call) ne
words_elsewhere a b (Rules.Finishes (Op.Name k call) asked awaited (Some reply)) v ne = elsewhere a b k reply ne
words_elsewhere a b (Rules.Finishes (Op.Name k call) asked awaited None) v ne = refl
words_elsewhere a b (Rules.EndsJoin f k) v ne = elsewhere a b k NotMember ne
words_elsewhere a b (Rules.IsWelcomed f k members pairs told fate) v ne = elsewhere a b k Joined ne
words_elsewhere a b (Rules.LosesContact k m) v ne = elsewhere a b k ContactLeft ne
words_elsewhere a b (Rules.FailsLock c) v ne = elsewhere a b c.number False ne
words_elsewhere a b (Rules.WinsLock c r) v ne = elsewhere a b c.number True ne
words_elsewhere a b (Rules.GivesUpLock c r granted) v ne = go (is_spent c.retries)
  where
    go : (t : Bool) → filter (is_word_at b) (if t then answer_to a c.number False ∷ [] else []) ≡ []
    go true = elsewhere a b c.number False ne
    go false = refl
words_elsewhere a b (Rules.DeletesNothing c) v ne = elsewhere a b c.number True ne
words_elsewhere a b (Rules.EndsDeletion f c owing) v ne = elsewhere a b c.number True ne
words_elsewhere a b (Rules.EndsDeletionDown d c owing) v ne = elsewhere a b c.number True ne
words_elsewhere a b _ v ne = refl

-- the rule decides a call of another node
abbrev pub decides_other : Rules.Rule → Bool
decides_other (Rules.RefusesJoin f pairs) = true
decides_other (Rules.Admits j pairs r) = true
decides_other _ = false

pub joins_elsewhere : (a b k m : ℕ) (r : Reply) → (a == b) ≡ false
    → (flat_map (decided_at b) (Entry.Join a k m r ∷ []) ≡ [])
    × (flat_map (entered_at b) (Entry.Join a k m r ∷ []) ≡ [])
joins_elsewhere a b k m r ne = (
  ap (λ (t : Bool). (if t then JoinAs k m ∷ [] else []) ++ []) ne,
  ap (λ (t : Bool). (if t then answer_to b k r ∷ [] else []) ++ []) ne,
)

names_elsewhere : (a b k : ℕ) (call : NameCall) (r : Reply) → (a == b) ≡ false
    → (flat_map (decided_at b) (Entry.Name a k call r ∷ []) ≡ [])
    × (flat_map (entered_at b) (Entry.Name a k call r ∷ []) ≡ [])
names_elsewhere a b k call r ne = (
  ap (λ (t : Bool). (if t then NameAs k call ∷ [] else []) ++ []) ne,
  ap (λ (t : Bool). (if t then answer_to b k r ∷ [] else []) ++ []) ne,
)

-- but for refusals and admissions its entries decide no call of another node
pub decided_elsewhere : (a b : ℕ) (number : ℕ → ℕ) (r : Rules.Rule) (v : Node) → (a == b) ≡ false
    → decides_other r ≡ false
    → (flat_map (decided_at b) (entered a number r v) ≡ []) × (flat_map (entered_at b) (entered a number r v) ≡ [])
decided_elsewhere a b number (Rules.RefusesJoin f pairs) v ne other = cc
decided_elsewhere a b number (Rules.Admits j pairs r) v ne other = cc
decided_elsewhere a b number (Rules.SkipsJoin k m ops) v ne other = joins_elsewhere a b k m ContactLeft ne
decided_elsewhere a b number (Rules.LosesContact k m) v ne other = joins_elsewhere a b k m ContactLeft ne
decided_elsewhere a b number (Rules.Grants k call r) v ne other = names_elsewhere a b k call _ ne
decided_elsewhere a b number (Rules.Denies k call r) v ne other = names_elsewhere a b k call _ ne
decided_elsewhere a b number _ v ne other = (refl, refl)

-- a gate that moves between two without a reply
quiet_pair : (gate : ℕ → ℕ → Gate) (j m : ℕ) (g : Gate) → reply_by (gate j m) ≡ reply_by g
    → (x y : ℕ) → reply_by (gate x y) ≡ reply_by (at_pair gate j m g x y)
quiet_pair gate j m g e = by_other gate j m g (λ x y h. reply_by (gate x y) ≡ reply_by h) e (λ x y ne. refl)

-- a gate of another joiner
other_pair : (gate : ℕ → ℕ → Gate) (j m : ℕ) (g : Gate) (b : ℕ) → (b ≡ j → ⊥) → (y : ℕ)
    → reply_by (gate b y) ≡ reply_by (at_pair gate j m g b y)
other_pair gate j m g b ne y = sym (ap (λ (t : Bool). reply_by
    (if t then (if y == m then g else gate b y) else gate b y)) (ne_eqb b j ne))

-- the rule ends a join of its own node
abbrev pub ends_own : Rules.Rule → Bool
ends_own (Rules.EndsJoin f k) = true
ends_own (Rules.IsWelcomed f k members pairs told fate) = true
ends_own (Rules.LosesContact k m) = true
ends_own _ = false

-- the other rules leave the replies on their way
pub replies_same : (o : Opening) (a : ℕ) (w : World) (r : Rules.Rule) (gate : ℕ → ℕ → Gate) → Gates o w gate
    → Rules.May o a w r
    → decides_other r ≡ false → ends_own r ≡ false → (x y : ℕ)
    → reply_by (gate x y) ≡ reply_by (gate_by o a w r gate x y)
replies_same o a w (Rules.RefusesJoin f pairs) gate G M d e = cc
replies_same o a w (Rules.Admits j pairs r) gate G M d e = cc
replies_same o a w (Rules.EndsJoin f k) gate G M d e = cc
replies_same o a w (Rules.IsWelcomed f k members pairs told fate) gate G M d e = cc
replies_same o a w (Rules.LosesContact k m) gate G M d e = cc
replies_same o a w (Rules.AsksJoin k m ops) gate G M d e = quiet_pair gate a m _
    (ap reply_by (shut_gate o w a m (gate a m) (G.facts a m) (λ i h. cc (sym M.tested.0 ∙ h))))
replies_same o a w (Rules.QueuesJoin f pairs) gate G M d e = quiet_pair gate f a _
    (ap reply_by (knocking o a w gate f pairs M.front.1.0 M.running M.front.1.1 G).0)
replies_same o a w (Rules.Passes j pairs r) gate G M d e = quiet_pair gate j a _
    (ap reply_by (waiting o a w gate j pairs r M.running M.tested.0.current G).0)
replies_same o a w (Rules.Drops f (Letter.JoinAsk p)) gate G M d e = quiet_pair gate f a _
    (ap reply_by (knocking o a w gate f p M.front.1.0 M.running M.front.1.1 G).0)
replies_same o a w (Rules.Drops f _) gate G M d e = λ x y. refl
replies_same o a w _ gate G M d e = λ x y. refl

-- a rule at node a leaves the account of another node, unless it decides a call of it
pub settles_other : (o : Opening) (a : ℕ) (w : World) (r : Rules.Rule) (gate : ℕ → ℕ → Gate) → Gates o w gate
    → Rules.May o a w r
    → decides_other r ≡ false → (b : ℕ) → (b ≡ a → ⊥)
    → SettlesNode b [] (entered a (join_number w) r (w.node a)) (answered a r (w.node a)) (replies_to gate b)
    (replies_to (gate_by o a w r gate) b) (w.node b) (w.node b)
settles_other o a w r gate G M d b ne = settles_still b _ _ _ _ (w.node b) (w.node b)
    (decided_elsewhere a b (join_number w) r (w.node a) apart d).0
    (decided_elsewhere a b (join_number w) r (w.node a) apart d).1
    (words_elsewhere a b r (w.node a) apart)
    (rows r G M d)
    refl refl
  where
    apart : (a == b) ≡ false
    apart = ne_eqb a b (λ e. ne (sym e))

    rows : (r : Rules.Rule) → Gates o w gate → Rules.May o a w r → decides_other r ≡ false → (m : ℕ)
        → replies_to gate b m ≡ replies_to (gate_by o a w r gate) b m
    rows (Rules.EndsJoin f k) G M d = other_pair gate a f Away b ne
    rows (Rules.IsWelcomed f k members pairs told fate) G M d = other_pair gate a f Away b ne
    rows (Rules.LosesContact k m) G M d = other_pair gate a m Away b ne
    rows (Rules.RefusesJoin f pairs) G M d = cc
    rows (Rules.Admits j pairs r) G M d = cc
    rows (Rules.Drops f l) G M d = replies_same o a w (Rules.Drops f l) gate G M refl refl b
    rows r G M d = replies_same o a w r gate G M refl refl b

-- a join of j is decided by m: the reply is on its way now
pub settles_join : (o : Opening) (w : World) (j m k : ℕ) (reply : Reply) (gate : ℕ → ℕ → Gate) (g : Gate)
    (es : List Entry) (given : List Answer)
    → current o w j ≡ Current.Joining k m → reply_by (gate j m) ≡ None → reply_by g ≡ Some reply
    → es ≡ Entry.Join j k m reply ∷ [] → given ≡ [] → (b : ℕ)
    → SettlesNode b [] es given (replies_to gate b) (replies_to (at_pair gate j m g) b) (w.node b) (w.node b)
settles_join o w j m k reply gate g es given waits before behind is none b =
    subst (λ (x : List Entry). SettlesNode b [] x given (replies_to gate b) (replies_to (at_pair gate j m g) b)
    (w.node b) (w.node b)) (sym is)
    (subst (λ (x : List Answer). SettlesNode b [] (Entry.Join j k m reply ∷ []) x (replies_to gate b)
    (replies_to (at_pair gate j m g) b) (w.node b) (w.node b)) (sym none)
    (elim (cases_eq b j) [
      | inl e ↦ subst (λ (x : ℕ). SettlesNode x [] (Entry.Join j k m reply ∷ []) [] (replies_to gate x)
          (replies_to (at_pair gate j m g) x) (w.node x) (w.node x)) (sym e) here
      | inr ne ↦ settles_still b (Entry.Join j k m reply ∷ []) [] (replies_to gate b)
          (replies_to (at_pair gate j m g) b) (w.node b) (w.node b)
          (joins_elsewhere j b k m reply (ne_eqb j b (λ e. ne (sym e)))).0
          (joins_elsewhere j b k m reply (ne_eqb j b (λ e. ne (sym e)))).1 refl
          (other_pair gate j m g b ne) refl refl
    ]))
  where
    q : List Op
    q = (w.node j).queue

    now : replies_to (at_pair gate j m g) j m ≡ Some reply
    now = ap reply_by (pair_here gate j m g) ∙ behind

    here : SettlesNode j [] (Entry.Join j k m reply ∷ []) [] (replies_to gate j) (replies_to (at_pair gate j m g) j)
        (w.node j) (w.node j)
    here = by_state j [] (Entry.Join j k m reply ∷ []) [] _ _ (w.node j) (w.node j) (Current.Joining k m) q
        (Current.Joining k m) q waits refl waits refl
        (record {
          calls = append-nil _
              ∙ ap (λ (x : Option Reply).
              (if is_some x then [] else JoinAs k m ∷ []) ++ flat_map numbered_op q) before
              ∙ sym (ap (λ (x : Option Reply). flat_map (decided_at j) (Entry.Join j k m reply ∷ []) ++
              ((if is_some x then [] else JoinAs k m ∷ []) ++ flat_map numbered_op q)) now
              ∙ ap (λ (t : Bool). ((if t then JoinAs k m ∷ [] else []) ++ []) ++ flat_map numbered_op q)
              (eq-eqb j j refl));
          answers = ap (λ (x : Option Reply). answer_with j k x ++ flat_map (entered_at j)
              (Entry.Join j k m reply ∷ [])) before
              ∙ ap (λ (t : Bool). (if t then answer_to j k reply ∷ [] else []) ++ []) (eq-eqb j j refl)
              ∙ sym (ap (answer_with j k) now);
        })
