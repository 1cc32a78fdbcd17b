-- The letters of clients' locks on a link, and what a move makes of them.
use Rattle.std.proofs.Common.{ℕ, Bool, true, false, ◌==◌, ◌≡◌, Option, Some, None, List, [], ◌∷◌, ◌++◌, refl, sym, ap, ◌∙◌, subst}
use Rattle.std.specs.Prelude.{not, ◌&&◌, if◌then◌else◌, drop}
use Rattle.std.specs.List.{list_all}
use Rattle.std.proofs.lemmas.List.{append-nil, append_assoc}
use Rattle.std.proofs.lemmas.Bool.{eqb-true}
use Rattle.registry_model.specs.Process.{Process, is_process, at}
use Rattle.protocol_model.specs.Letter.{Letter}
use Rattle.protocol_model.specs.Turn.{Turn, sent_to}
use Rattle.protocol_model.specs.World.{Opening, World, left}
use Rattle.moves.proofs.Rules.{Taken, FrontTaken}
use Rattle.moves.proofs.Indices.{both}
use Rattle.client_locks.proofs.Sessions.{Ask, Takes, Backs, Acks, Frees, Echo, Answers, Backed}

-- what a letter asks for p
abbrev pub ask_of : Process → Letter → List Ask
ask_of p (Letter.SetLock id q) = if is_process q p then Takes id ∷ [] else []
ask_of p (Letter.GiveBack id q ack) = if is_process q p then (if ack then Acks id else Backs id) ∷ [] else []
ask_of p (Letter.ReleaseOf q) = if is_process q p then Frees ∷ [] else []
ask_of p _ = []

-- what a letter tells p
abbrev pub echo_of : Process → Letter → List Echo
echo_of p (Letter.LockAnswer id q granted) = if is_process q p then Answers id granted ∷ [] else []
echo_of p (Letter.GivenBack q) = if is_process q p then Backed ∷ [] else []
echo_of p _ = []

-- what each letter brings, in their order
abbrev pub all_of : {A : Type 0} → (Letter → List A) → List Letter → List A
all_of f [] = []
all_of f (l ∷ ls) = f l ++ all_of f ls

pub all_of-append : {A : Type 0} (f : Letter → List A) (xs ys : List Letter)
    → all_of f (xs ++ ys) ≡ all_of f xs ++ all_of f ys
all_of-append f [] ys = refl
all_of-append {A = A} f (l ∷ xs) ys = ap (λ (zs : List A). f l ++ zs) (all_of-append f xs ys)
    ∙ sym (append_assoc (f l) (all_of f xs) (all_of f ys))

abbrev pub asks : Process → List Letter → List Ask
asks p ls = all_of (ask_of p) ls

abbrev pub echoes : Process → List Letter → List Echo
echoes p ls = all_of (echo_of p) ls

-- a list that lost these at its front and got those at its back
pub record Moved {A : Type 0} (lost got before after : List A) : Type 0 where
  pub middle : List A
  pub was : before ≡ lost ++ middle
  pub now : after ≡ middle ++ got

pub all_moved : {A : Type 0} (f : Letter → List A) (lost got before after : List Letter) → Moved lost got before after
    → Moved (all_of f lost) (all_of f got) (all_of f before) (all_of f after)
all_moved f lost got before after m = record {
  middle = all_of f m.middle;
  was = ap (all_of f) m.was ∙ all_of-append f lost m.middle;
  now = ap (all_of f) m.now ∙ all_of-append f m.middle got;
}

-- where nothing came or went
pub letters_unmoved : {A : Type 0} (lost got before after : List A) → lost ≡ [] → got ≡ [] → Moved lost got before after
    → after ≡ before
letters_unmoved {A = A} lost got before after el eg m =
    m.now ∙ ap (λ (xs : List A). m.middle ++ xs) eg ∙ append-nil m.middle
    ∙ sym (m.was ∙ ap (λ (xs : List A). xs ++ m.middle) el)

-- the letter that is taken, on the link from x to y
abbrev pub read_on : ℕ → Option Taken → ℕ → ℕ → List Letter
read_on a None x y = []
read_on a (Some t) x y = if (x == t.sender) && (y == a) then t.letter ∷ [] else []

-- the letters that are sent, on the link from x to y
abbrev pub sent_on : ℕ → Turn → ℕ → ℕ → List Letter
sent_on a u x y = if x == a then sent_to y u.sends else []

-- the links without the letter that is taken
abbrev pub queue_without : World → ℕ → Option Taken → ℕ → ℕ → List Letter
queue_without w a None x y = w.links.queue x y
queue_without w a (Some t) x y = if (x == t.sender) && (y == a) then drop 1 (w.links.queue x y) else w.links.queue x y

-- the world after a turn of node a that took this letter
abbrev pub turned : ℕ → Option Taken → Turn → World → World
turned a t u w = record {
  node = at w.node a u.node;
  links = record {
    queue = λ x y. if (x == a) && not (w.links.closed y) then queue_without w a t x y ++ sent_to y u.sends else
        queue_without w a t x y;
    closed = w.links.closed;
  };
  history = w.history ++ u.entries;
}

queue_moved : (b : Bool) (q s : List Letter) → (if b && not false then q ++ s else q) ≡ q ++ (if b then s else [])
queue_moved true q s = refl
queue_moved false q s = sym (append-nil q)

-- what a turn makes of each link to a node that runs
pub links_moved : (o : Opening) (a : ℕ) (t : Option Taken) (u : Turn) (w : World) → FrontTaken o a w t → (x y : ℕ)
    → left w y ≡ false
    → Moved (read_on a t x y) (sent_on a u x y) (w.links.queue x y) ((turned a t u w).links.queue x y)
links_moved o a None u w front x y up = record {
  middle = w.links.queue x y;
  was = refl;
  now = rw up (queue_moved (x == a) (w.links.queue x y) (sent_to y u.sends));
}
links_moved o a (Some t) u w front x y up = go ((x == t.sender) && (y == a)) refl
  where
    taken_by : Bool → List Letter
    taken_by b = if b then drop 1 (w.links.queue x y) else w.links.queue x y

    goes : (b : Bool) → Moved (if b then t.letter ∷ [] else []) (sent_on a u x y) (w.links.queue x y)
        (taken_by b ++ sent_on a u x y)
        → Moved (if b then t.letter ∷ [] else []) (sent_on a u x y) (w.links.queue x y)
        (if (x == a) && not (left w y) then taken_by b ++ sent_to y u.sends else taken_by b)
    goes b m = record {
      middle = m.middle;
      was = m.was;
      now = rw up
          (queue_moved (x == a) (taken_by b) (sent_to y u.sends)) ∙ m.now;
    }

    go : (b : Bool) → ((x == t.sender) && (y == a)) ≡ b
        → Moved (if b then t.letter ∷ [] else []) (sent_on a u x y) (w.links.queue x y)
        (if (x == a) && not (left w y) then taken_by b ++ sent_to y u.sends else taken_by b)
    go false e = goes false (record { middle = w.links.queue x y; was = refl; now = refl })
    go true e =
        let parts : ((x == t.sender) ≡ true) × ((y == a) ≡ true) = both (x == t.sender) (y == a) e in
        let there : w.links.queue x y ≡ t.letter ∷ front.1.0 = ap (λ (i : ℕ). w.links.queue i y)
        (eqb-true x t.sender parts.0) ∙ ap (w.links.queue t.sender) (eqb-true y a parts.1) ∙ front.1.1 in
        goes true (record {
          middle = front.1.0;
          was = there;
          now = ap
              (λ (ls : List Letter). drop 1 ls ++ sent_on a u x y) there;
        })

-- a letter names a process of its sender where it asks for it, and of its receiver where it answers it
abbrev pub is_named : ℕ → ℕ → Letter → Bool
is_named f n (Letter.SetLock id p) = p.node == f
is_named f n (Letter.GiveBack id p ack) = p.node == f
is_named f n (Letter.ReleaseOf p) = p.node == f
is_named f n (Letter.LockAnswer id p granted) = p.node == n
is_named f n (Letter.GivenBack p) = p.node == n
is_named f n _ = true

abbrev pub all_named : ℕ → ℕ → List Letter → Bool
all_named f n ls = list_all (is_named f n) ls

pub all_named-append : (f n : ℕ) (xs ys : List Letter) → all_named f n xs ≡ true → all_named f n ys ≡ true
    → all_named f n (xs ++ ys) ≡ true
all_named-append f n [] ys hx hy = hy
all_named-append f n (l ∷ xs) ys hx hy =
    let parts : (is_named f n l ≡ true) × (all_named f n xs ≡ true) = both (is_named f n l) (all_named f n xs) hx in
    rw (parts.0, all_named-append f n xs ys parts.1 hy) refl

all_named-drop : (f n : ℕ) (ls : List Letter) → all_named f n ls ≡ true → all_named f n (drop 1 ls) ≡ true
all_named-drop f n [] h = refl
all_named-drop f n (l ∷ ls) h = (both (is_named f n l) (all_named f n ls) h).1

-- a turn that names its own processes where it asks keeps this
pub named_turned : (a : ℕ) (t : Option Taken) (u : Turn) (w : World)
    → ((f n : ℕ) → all_named f n (w.links.queue f n) ≡ true)
    → ((n : ℕ) → all_named a n (sent_to n u.sends) ≡ true) → (f n : ℕ)
    → all_named f n ((turned a t u w).links.queue f n) ≡ true
named_turned a t u w before sends f n = go ((f == a) && not (w.links.closed n)) refl (base t)
  where
    less : (b : Bool) → all_named f n (if b then drop 1 (w.links.queue f n) else w.links.queue f n) ≡ true
    less true = all_named-drop f n (w.links.queue f n) (before f n)
    less false = before f n

    base : (s : Option Taken) → all_named f n (queue_without w a s f n) ≡ true
    base None = before f n
    base (Some s) = less ((f == s.sender) && (n == a))

    go : (b : Bool) → ((f == a) && not (w.links.closed n)) ≡ b → all_named f n (queue_without w a t f n) ≡ true
        → all_named f n (if b then queue_without w a t f n ++ sent_to n u.sends else queue_without w a t f n) ≡ true
    go false e h = h
    go true e h =
        let here : f ≡ a = eqb-true f a (both (f == a) (not (w.links.closed n)) e).0 in
        all_named-append f n (queue_without w a t f n) (sent_to n u.sends) h
        (subst (λ (i : ℕ). all_named i n (sent_to n u.sends) ≡ true) (sym here) (sends n))
