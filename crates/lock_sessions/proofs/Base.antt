-- What a turn makes of the world, and what is known of all letters of a list.
use Rattle.std.proofs.Common.{ℕ, Bool, true, false, ◌==◌, ◌≡◌, Option, Some, None, List, [], ◌∷◌, ◌++◌, drop, refl, sym, ap, ◌∙◌, subst, inl, inr}
use Rattle.std.specs.Prelude.{not, ◌&&◌, ◌||◌, nat_lt, if◌then◌else◌}
use Rattle.std.proofs.lemmas.List.{append-nil}
use Rattle.std.proofs.lemmas.Bool.{cases_eq, eq-eqb, ne_eqb}
use Rattle.registry_model.specs.Process.{Nodes, nodes_of, at}
use Rattle.protocol_model.specs.Letter.{Letter, is_down}
use Rattle.protocol_model.specs.Links.{Links, is_nil, posted}
use Rattle.protocol_model.specs.Turn.{Turn, sent_to}
use Rattle.protocol_model.specs.World.{Opening, in_world, World, left}
use Rattle.registry_model.proofs.Updates.{by_test}
use Rattle.moves.proofs.Rules.{Rule, Taken, FrontTaken, takes, turn_by, effect}
use Rattle.moves.proofs.Indices.{both}
use Rattle.moves.proofs.Sends.{sent_to-all, to_each}
use Rattle.moves.proofs.Invariants.{Each, is_down_last}

-- no test is both true and false
pub not_both : (b : Bool) → b ≡ true → b ≡ false → ⊥
not_both true e k = cc
not_both false e k = cc

-- the queue from x to y, where node a takes a letter
abbrev pub popped_queue : ℕ → Option Taken → (ℕ → ℕ → List Letter) → ℕ → ℕ → List Letter
popped_queue a None q x y = q x y
popped_queue a (Some t) q x y = if x == t.sender && (y == a) then drop 1 (q x y) else q x y

-- the links without the letter that node a takes
abbrev pub popped : ℕ → Option Taken → Links Letter → Links Letter
popped a t q = record q { queue = popped_queue a t q.queue }

-- node a takes a letter, and makes its turn
abbrev pub after_turn : ℕ → World → Turn → Option Taken → World
after_turn a w u t = record {
  node = at w.node a u.node;
  links = posted a (λ c. sent_to c u.sends) (popped a t w.links);
  history = w.history ++ u.entries;
}

-- the rule is the last step of its node
abbrev pub is_leave : Rule → Bool
is_leave Rule.Leaves = true
is_leave _ = false

-- a rule that isn't the last step of its node takes its letter and makes its turn, and that is all
pub effect-turn : (o : Opening) (a : ℕ) (w : World) (r : Rule) → is_leave r ≡ false
    → after_turn a w (turn_by o a w r) (takes o a r) ≡ effect o a r w
effect-turn o a w Rule.Leaves e = cc
effect-turn o a w _ e = refl

-- all nodes of the world but one
abbrev pub others : Opening → ℕ → Nodes
others o a c = in_world o c && not (c == a)

-- what it sends to each when it leaves
abbrev pub farewell : Opening → ℕ → ℕ → List Letter
farewell o a c = sent_to c (to_each (nodes_of o.bound (others o a)) Letter.Down)

-- who runs when it has left ran before
pub ran_before : (o : Opening) (a : ℕ) (w : World) (d : ℕ) → left (effect o a Rule.Leaves w) d ≡ false
    → left w d ≡ false
ran_before o a w d h = by_test a (λ d b. (if b then true else left w d) ≡ false → left w d ≡ false) (λ h. cc)
    (λ d ne h. h) d h

-- the letters that are taken from the link of x to the node
abbrev pub letters_from : Option Taken → ℕ → List Letter
letters_from None x = []
letters_from (Some t) x = if x == t.sender then t.letter ∷ [] else []

-- the link of x to node a begins with what is taken of it
pub taken_first : (o : Opening) (a : ℕ) (w : World) (t : Option Taken) → FrontTaken o a w t
    → (x : ℕ) → w.links.queue x a ≡ letters_from t x ++ popped_queue a t w.links.queue x a
taken_first o a w None front x = refl
taken_first o a w (Some t) front x = elim (cases_eq x t.sender) [
  | inl e ↦ rw (eq-eqb x t.sender e, eq-eqb a a refl)
      (subst (λ (y : ℕ). w.links.queue y a ≡ t.letter ∷ drop 1 (w.links.queue y a)) (sym e)
      (front.1.1 ∙ ap (λ (ls : List Letter). t.letter ∷ drop 1 ls) (sym front.1.1)))
  | inr ne ↦ rw (ne_eqb x t.sender ne) refl
]

-- links to other nodes stay
pub popped-other : (a : ℕ) (t : Option Taken) (q : ℕ → ℕ → List Letter) (x y : ℕ) → (y ≡ a → ⊥)
    → popped_queue a t q x y ≡ q x y
popped-other a None q x y ne = refl
popped-other a (Some t) q x y ne = go (x == t.sender)
  where
    go : (b : Bool) → (if b && (y == a) then drop 1 (q x y) else q x y) ≡ q x y
    go true = rw (ne_eqb y a ne) refl
    go false = refl

-- what goes to a node that runs stands at the end of its link
pub posted-here : (a : ℕ) (ls : ℕ → List Letter) (q : Links Letter) (c : ℕ) → q.closed c ≡ false
    → (posted a ls q).queue a c ≡ q.queue a c ++ ls c
posted-here a ls q c open_link = rw (eq-eqb a a refl, open_link) refl

-- links from other nodes get nothing
pub posted-other : (a : ℕ) (ls : ℕ → List Letter) (q : Links Letter) (x c : ℕ) → (x ≡ a → ⊥)
    → (posted a ls q).queue x c ≡ q.queue x c
posted-other a ls q x c ne = rw (ne_eqb x a ne) refl

-- what is known of all letters of two lists is known of them one after another
pub each-append : (P : Letter → Type 0) (xs ys : List Letter) → Each P xs → Each P ys → Each P (xs ++ ys)
each-append P [] ys all more = more
each-append P (x ∷ xs) ys all more = (all.0, each-append P xs ys all.1 more)

-- and of what is left without the first
pub each-drop : (P : Letter → Type 0) (xs : List Letter) → Each P xs → Each P (drop 1 xs)
each-drop P [] all = tt
each-drop P (x ∷ xs) all = all.1

-- and what follows from it
pub each-map : (P Q : Letter → Type 0) → ((l : Letter) → P l → Q l) → (xs : List Letter) → Each P xs → Each Q xs
each-map P Q f [] all = tt
each-map P Q f (x ∷ xs) all = (f x all.0, each-map P Q f xs all.1)

-- what is known of a letter of a link is known of what is left of it
pub each-popped : (P : Letter → Type 0) (a : ℕ) (t : Option Taken) (q : ℕ → ℕ → List Letter) (x y : ℕ) → Each P (q x y)
    → Each P (popped_queue a t q x y)
each-popped P a None q x y all = all
each-popped P a (Some t) q x y all = go (x == t.sender && (y == a))
  where
    go : (b : Bool) → Each P (if b then drop 1 (q x y) else q x y)
    go true = each-drop P (q x y) all
    go false = all

-- and what is known of the new letters too is known of all letters after the turn
pub each-posted : (P : Letter → Type 0) (a : ℕ) (ls : ℕ → List Letter) (q : Links Letter) (x y : ℕ)
    → Each P (q.queue x y)
    → (x ≡ a → Each P (ls y)) → Each P ((posted a ls q).queue x y)
each-posted P a ls q x y all more = elim (cases_eq x a) [
  | inl e ↦ rw (eq-eqb x a e) (go (q.closed y) (more e))
  | inr ne ↦ rw (ne_eqb x a ne) all
]
  where
    go : (b : Bool) → Each P (ls y) → Each P (if not b then q.queue x y ++ ls y else q.queue x y)
    go true m = all
    go false m = each-append P (q.queue x y) (ls y) all m

-- a letter to one node
pub each-one : (P : Letter → Type 0) (c d : ℕ) (l : Letter) → (d ≡ c → P l)
    → Each P (sent_to c (record { to = d; letter = l } ∷ []))
each-one P c d l p = elim (cases_eq d c) [
  | inl e ↦ rw (eq-eqb d c e) (p e, tt)
  | inr ne ↦ rw (ne_eqb d c ne) tt
]

-- a letter to all nodes of a set
pub each-all : (P : Letter → Type 0) (n : ℕ) (s : Nodes) (c : ℕ) (l : Letter) → (s c ≡ true → P l)
    → Each P (sent_to c (to_each (nodes_of n s) l))
each-all P n s c l p = subst (λ (ls : List Letter). Each P ls) (sym (sent_to-all n s l c))
    (go (nat_lt c n && s c) (λ e. p (both (nat_lt c n) (s c) e).1))
  where
    go : (b : Bool) → (b ≡ true → P l) → Each P (if b then l ∷ [] else [])
    go true h = (h refl, tt)
    go false h = tt

-- a list without `Down` may be longer
pub down_last-append : (xs ys : List Letter) → Each (λ l. is_down l ≡ false) xs → is_down_last ys ≡ true
    → is_down_last (xs ++ ys) ≡ true
down_last-append [] ys none e = e
down_last-append (x ∷ xs) ys none e =
    ap (λ (b : Bool). (not b || is_nil (xs ++ ys)) && is_down_last (xs ++ ys)) none.0 ∙ down_last-append xs ys none.1 e

-- one letter fewer
pub down_last-drop : (xs : List Letter) → is_down_last xs ≡ true → is_down_last (drop 1 xs) ≡ true
down_last-drop [] e = refl
down_last-drop (x ∷ xs) e = (both (not (is_down x) || is_nil xs) (is_down_last xs) e).1

-- no `Down` at all
pub down_last-none : (xs : List Letter) → Each (λ l. is_down l ≡ false) xs → is_down_last xs ≡ true
down_last-none xs none = subst (λ (ls : List Letter). is_down_last ls ≡ true) (append-nil xs)
    (down_last-append xs [] none refl)

-- a letter is taken off some link
pub down_last-popped : (a : ℕ) (t : Option Taken) (q : ℕ → ℕ → List Letter) (x y : ℕ) → is_down_last (q x y) ≡ true
    → is_down_last (popped_queue a t q x y) ≡ true
down_last-popped a None q x y e = e
down_last-popped a (Some t) q x y e = go (x == t.sender && (y == a))
  where
    go : (b : Bool) → is_down_last (if b then drop 1 (q x y) else q x y) ≡ true
    go true = down_last-drop (q x y) e
    go false = e
