-- How far a join has come between a joiner and its contact, and what of it is on links and in queues.
use Rattle.std.proofs.Common.{ℕ, Bool, true, false, ◌≡◌, ◌==◌, List, [], ◌∷◌, ◌++◌, refl, sym, ap, ◌∙◌}
use Rattle.std.specs.Prelude.{◌&&◌, if◌then◌else◌, map, filter}
use Rattle.std.proofs.lemmas.List.{append_assoc}
use Rattle.registry_model.specs.Table.{Table}
use Rattle.protocol_model.specs.Letter.{Letter}
use Rattle.protocol_model.specs.Node.{Node, Op, Current}
use Rattle.protocol_model.specs.Turn.{Send, sent_to}
use Rattle.moves.proofs.Sends.{to_each}
use Rattle.moves.proofs.Indices.{both}

-- a join of one joiner by one contact
pub data Gate : Type 0 where
  Away : Gate  -- nothing of it is under way
  Knock : (pairs : Table) → Gate  -- the request is on its way
  Wait : (pairs : Table) → Gate  -- the contact has its admission in its queue, or is asking for the lock
  Turned : Gate  -- the refusal is on its way
  Entering : Gate  -- the welcome is on its way

abbrev pub is_away : Gate → Bool
is_away Away = true
is_away _ = false

abbrev pub is_wait : Gate → Bool
is_wait (Wait p) = true
is_wait _ = false

abbrev pub is_turned : Gate → Bool
is_turned Turned = true
is_turned _ = false

abbrev pub is_entering : Gate → Bool
is_entering Entering = true
is_entering _ = false

-- the names that were sent with a join that isn't decided yet
abbrev pub hopes : Gate → List Table
hopes (Knock p) = p ∷ []
hopes (Wait p) = p ∷ []
hopes _ = []

-- the requests to join among these letters
abbrev pub knocks : List Letter → List Table
knocks [] = []
knocks (Letter.JoinAsk p ∷ ls) = p ∷ knocks ls
knocks (_ ∷ ls) = knocks ls

-- the answers to joins among them: whether it is a welcome
abbrev pub returns : List Letter → List Bool
returns [] = []
returns (Letter.JoinRefused ∷ ls) = false ∷ returns ls
returns (Letter.Welcome members pairs told fate ∷ ls) = true ∷ returns ls
returns (_ ∷ ls) = returns ls

-- a letter that is neither
abbrev pub is_plain : Letter → Bool
is_plain (Letter.JoinAsk p) = false
is_plain Letter.JoinRefused = false
is_plain (Letter.Welcome members pairs told fate) = false
is_plain _ = true

-- the names of the admissions of j among these operations
abbrev pub admissions : ℕ → List Op → List Table
admissions j [] = []
admissions j (Op.Admission i p ∷ ops) = (if i == j then p ∷ [] else []) ++ admissions j ops
admissions j (_ ∷ ops) = admissions j ops

-- the operation that a round is about
abbrev pub asked_for : Current → List Op
asked_for (Current.Asking op r) = op ∷ []
asked_for (Current.Waiting op) = op ∷ []
asked_for _ = []

-- what the registrar has before it
abbrev pub jobs : Node → List Op
jobs v = asked_for v.current ++ v.queue

abbrev pub knocks_of : Gate → List Table
knocks_of (Knock p) = p ∷ []
knocks_of _ = []

abbrev pub returns_of : Gate → List Bool
returns_of Turned = false ∷ []
returns_of Entering = true ∷ []
returns_of _ = []

abbrev pub queued_of : Gate → List Table
queued_of (Wait p) = p ∷ []
queued_of _ = []

pub knocks-append : (xs ys : List Letter) → knocks (xs ++ ys) ≡ knocks xs ++ knocks ys
knocks-append [] ys = refl
knocks-append (Letter.JoinAsk p ∷ xs) ys = ap (λ (l : List Table). p ∷ l) (knocks-append xs ys)
knocks-append (_ ∷ xs) ys = knocks-append xs ys

pub returns-append : (xs ys : List Letter) → returns (xs ++ ys) ≡ returns xs ++ returns ys
returns-append [] ys = refl
returns-append (Letter.JoinRefused ∷ xs) ys = ap (λ (l : List Bool). false ∷ l) (returns-append xs ys)
returns-append (Letter.Welcome members pairs told fate ∷ xs) ys =
    ap (λ (l : List Bool). true ∷ l) (returns-append xs ys)
returns-append (_ ∷ xs) ys = returns-append xs ys

pub admissions-append : (j : ℕ) (xs ys : List Op) → admissions j (xs ++ ys) ≡ admissions j xs ++ admissions j ys
admissions-append j [] ys = refl
admissions-append j (Op.Admission i p ∷ xs) ys =
    ap (λ (l : List Table). (if i == j then p ∷ [] else []) ++ l) (admissions-append j xs ys)
    ∙ sym (append_assoc (if i == j then p ∷ [] else []) (admissions j xs) (admissions j ys))
admissions-append j (_ ∷ xs) ys = admissions-append j xs ys

-- a plain letter at the front
pub knocks-plain : (l : Letter) (ls : List Letter) → is_plain l ≡ true → knocks (l ∷ ls) ≡ knocks ls
knocks-plain (Letter.JoinAsk p) ls e = cc
knocks-plain _ ls e = refl

pub returns-plain : (l : Letter) (ls : List Letter) → is_plain l ≡ true → returns (l ∷ ls) ≡ returns ls
returns-plain Letter.JoinRefused ls e = cc
returns-plain (Letter.Welcome members pairs told fate) ls e = cc
returns-plain _ ls e = refl

-- all letters of these sends are plain
abbrev pub are_plain : List Send → Bool
are_plain [] = true
are_plain (s ∷ ss) = is_plain s.letter && are_plain ss

pub are_plain-append : (xs ys : List Send) → are_plain xs ≡ true → are_plain ys ≡ true → are_plain (xs ++ ys) ≡ true
are_plain-append [] ys e f = f
are_plain-append (x ∷ xs) ys e f =
    let parts : (is_plain x.letter ≡ true) × (are_plain xs ≡ true) = both (is_plain x.letter) (are_plain xs) e in
    ap (λ (b : Bool). b && are_plain (xs ++ ys)) parts.0 ∙ are_plain-append xs ys parts.1 f

pub are_plain-each : (cs : List ℕ) (l : Letter) → is_plain l ≡ true → are_plain (to_each cs l) ≡ true
are_plain-each [] l e = refl
are_plain-each (c ∷ cs) l e = ap (λ (b : Bool). b && are_plain (to_each cs l)) e ∙ are_plain-each cs l e

-- plain sends bring no token to anybody
pub plain_knocks : (ss : List Send) → are_plain ss ≡ true → (y : ℕ) → knocks (sent_to y ss) ≡ []
plain_knocks [] e y = refl
plain_knocks (s ∷ ss) e y = go (s.to == y) (both (is_plain s.letter) (are_plain ss) e) (λ k. plain_knocks ss k y)
  where
    go : (t : Bool) → (is_plain s.letter ≡ true) × (are_plain ss ≡ true)
        → (are_plain ss ≡ true → knocks (sent_to y ss) ≡ [])
        → knocks (map (λ (x : Send). x.letter) (if t then s ∷ filter (λ x. x.to == y) ss else filter
        (λ x. x.to == y) ss)) ≡ []
    go true parts more = knocks-plain s.letter (sent_to y ss) parts.0 ∙ more parts.1
    go false parts more = more parts.1

pub plain_returns : (ss : List Send) → are_plain ss ≡ true → (y : ℕ) → returns (sent_to y ss) ≡ []
plain_returns [] e y = refl
plain_returns (s ∷ ss) e y = go (s.to == y) (both (is_plain s.letter) (are_plain ss) e) (λ k. plain_returns ss k y)
  where
    go : (t : Bool) → (is_plain s.letter ≡ true) × (are_plain ss ≡ true)
        → (are_plain ss ≡ true → returns (sent_to y ss) ≡ [])
        → returns (map (λ (x : Send). x.letter) (if t then s ∷ filter (λ x. x.to == y) ss else filter
        (λ x. x.to == y) ss)) ≡ []
    go true parts more = returns-plain s.letter (sent_to y ss) parts.0 ∙ more parts.1
    go false parts more = more parts.1
