-- Pairs of a joiner and a contact: what stands at one pair, and what a gate is by what is seen of it.
use Rattle.std.proofs.Common.{ℕ, Bool, true, false, ◌≡◌, ◌==◌, List, [], ◌∷◌, refl, sym, ap, ◌∙◌, inl, inr}
use Rattle.std.specs.Prelude.{if◌then◌else◌}
use Rattle.std.proofs.lemmas.Bool.{cases_eq, eq-eqb, ne_eqb}
use Rattle.registry_model.specs.Process.{at}
use Rattle.registry_model.specs.Table.{Table}
use Rattle.protocol_model.specs.Letter.{Letter}
use Rattle.protocol_model.specs.Node.{Node, Current}
use Rattle.protocol_model.specs.Turn.{sent_to}
use Rattle.protocol_model.specs.World.{Opening, World}
use Rattle.moves.proofs.Sends.{sent_to-one}
use Rattle.registry_model.proofs.Updates.{by_test}
use Rattle.moves.proofs.Indices.{at_pair}
use Rattle.moves.proofs.Invariants.{current}
use Rattle.join_gates.proofs.Tokens.{Gate, Away, Knock, Wait, Turned, Entering, is_away, is_turned, is_entering, knocks_of, returns_of, queued_of, admissions, jobs}
use Rattle.join_gates.proofs.Gates.{Facts}

-- a pair that stays as it is
pub self_pair : {A : Type 0} (f : ℕ → ℕ → A) (j m x y : ℕ) → f x y ≡ at_pair f j m (f j m) x y
self_pair f j m x y = by_test j (λ x s. (y : ℕ) → f x y ≡ (if s then (if y == m then f j m else f x y) else f x y))
    (by_test m (λ y t. f j y ≡ (if t then f j m else f j y)) refl (λ y ne. refl))
    (λ x ne y. refl) x y

-- the other way round
pub swap_pair : {A : Type 0} (f : ℕ → ℕ → A) (j m : ℕ) (v : A) (x y : ℕ)
    → at_pair f m j v y x ≡ at_pair (λ x y. f y x) j m v x y
swap_pair f j m v x y = go (y == m) (x == j)
  where
    go : (s t : Bool) → (if s then (if t then v else f y x) else f y x)
        ≡ (if t then (if s then v else f y x) else f y x)
    go true true = refl
    go true false = refl
    go false true = refl
    go false false = refl

-- one letter that is sent
pub one_sent : {X : Type 0} (F : List Letter → List X) → F [] ≡ [] → (m : ℕ) (l : Letter) (y : ℕ)
    → F (sent_to y (record { to = m; letter = l } ∷ [])) ≡ (if y == m then F (l ∷ []) else [])
one_sent F none m l y = ap F (sent_to-one y m l) ∙ elim (cases_eq y m) [
  | inl e ↦ ap (λ (t : Bool). F (if t then l ∷ [] else [])) (eq-eqb m y (sym e))
      ∙ sym (ap (λ (t : Bool). if t then F (l ∷ []) else []) (eq-eqb y m e))
  | inr ne ↦ ap (λ (t : Bool). F (if t then l ∷ [] else [])) (ne_eqb m y (λ q. ne (sym q))) ∙ none
      ∙ sym (ap (λ (t : Bool). if t then F (l ∷ []) else []) (ne_eqb y m ne))
]

-- one letter of another kind
pub none_sent : {X : Type 0} (F : List Letter → List X) → F [] ≡ [] → (m : ℕ) (l : Letter) → F (l ∷ []) ≡ [] → (y : ℕ)
    → F (sent_to y (record { to = m; letter = l } ∷ [])) ≡ []
none_sent F none m l other y = one_sent F none m l y ∙ go (y == m)
  where
    go : (b : Bool) → (if b then F (l ∷ []) else []) ≡ []
    go true = other
    go false = refl

-- the admissions of one joiner change at node a
pub queue_here : (w : World) (a : ℕ) (u : Node) (j : ℕ)
    → ((x : ℕ) → (x ≡ j → ⊥) → admissions x (jobs u) ≡ admissions x (jobs (w.node a)))
    → (x y : ℕ) → admissions x (jobs (at w.node a u y))
    ≡ at_pair (λ x y. admissions x (jobs (w.node y))) j a (admissions j (jobs u)) x y
queue_here w a u j same x y = by_test j
    (λ x s. (y : ℕ) → admissions x (jobs (if y == a then u else w.node y))
    ≡ (if s then (if y == a then admissions j (jobs u) else admissions x (jobs (w.node y))) else admissions x
    (jobs (w.node y))))
    (λ y. by_test a (λ y t. admissions j (jobs (if t then u else w.node y))
    ≡ (if t then admissions j (jobs u) else admissions j (jobs (w.node y)))) refl (λ y ne. refl) y)
    (λ x ne y. by_test a (λ y t. admissions x (jobs (if t then u else w.node y)) ≡ admissions x (jobs (w.node y)))
    (same x ne) (λ y d. refl) y)
    x y

-- no admission changes
pub queue_same : (w : World) (a : ℕ) (u : Node) (j m : ℕ)
    → ((x : ℕ) → admissions x (jobs u) ≡ admissions x (jobs (w.node a)))
    → (x y : ℕ) → admissions x (jobs (at w.node a u y))
    ≡ at_pair (λ x y. admissions x (jobs (w.node y))) j m (admissions j (jobs (w.node m))) x y
queue_same w a u j m same x y =
    by_test a (λ y t. admissions x (jobs (if t then u else w.node y)) ≡ admissions x (jobs (w.node y))) (same x)
    (λ y d. refl) y
    ∙ self_pair (λ x y. admissions x (jobs (w.node y))) j m x y

pub at_knock : (p : Table) (rest : List Table) (g : Gate) → p ∷ rest ≡ knocks_of g → (g ≡ Knock p) × (rest ≡ [])
at_knock p rest (Knock q) e = (cc, cc)
at_knock p rest _ e = cc

pub at_queued : (p : Table) (rest : List Table) (g : Gate) → p ∷ rest ≡ queued_of g → (g ≡ Wait p) × (rest ≡ [])
at_queued p rest (Wait q) e = (cc, cc)
at_queued p rest _ e = cc

pub at_refusal : (rest : List Bool) (g : Gate) → false ∷ rest ≡ returns_of g → (g ≡ Turned) × (rest ≡ [])
at_refusal rest Turned e = (refl, cc)
at_refusal rest _ e = cc

pub at_welcome : (rest : List Bool) (g : Gate) → true ∷ rest ≡ returns_of g → (g ≡ Entering) × (rest ≡ [])
at_welcome rest Entering e = (refl, cc)
at_welcome rest _ e = cc

-- neither refused nor let in: no answer is on its way
pub no_return : (g : Gate) → (is_turned g ≡ true → ⊥) → (is_entering g ≡ true → ⊥) → returns_of g ≡ []
no_return Turned f h = absurd (f refl)
no_return Entering f h = absurd (h refl)
no_return _ f h = refl

-- who doesn't wait for this contact has no join by it under way
pub shut_gate : (o : Opening) (w : World) (j m : ℕ) (g : Gate) → Facts o w j m g
    → ((k : ℕ) → current o w j ≡ Current.Joining k m → ⊥) → g ≡ Away
shut_gate o w j m g F none = go g refl
  where
    busy : is_away g ≡ false → ⊥
    busy e = let x : (k : ℕ) × (current o w j ≡ Current.Joining k m) = F.fit e in none x.0 x.1

    go : (h : Gate) → g ≡ h → h ≡ Away
    go Away e = refl
    go h e = absurd (busy (ap is_away e))
