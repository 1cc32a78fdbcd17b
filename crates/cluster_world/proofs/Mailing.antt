-- The links by name, whose letters carry their senders, and those between nodes that they are.
use Rattle.std.proofs.Common.{ℕ, Bool, true, false, ◌==◌, ◌≡◌, ◌<◌, ◌≤◌, ◌⊎◌, Option, Some, None, List, [], ◌∷◌, ◌++◌, get_or, length, drop, map, refl, sym, ap, subst, ◌∙◌, inl, inr, arith}
use Rattle.std.specs.Prelude.{zero, suc, if◌then◌else◌, not, filter, ◌&&◌, ◌||◌, slice_get, is_some, Result, Ok, Err, OnOk, IfErr, IfSome}
use Rattle.std.specs.Option.{option_map}
use Rattle.std.specs.List.{All, AllPairs}
use Rattle.std.proofs.Math.Path.{fun_ext}
use Rattle.std.proofs.lemmas.Bool.{cases_eq, cases_lt, eq-eqb, eqb-true, eqb-false, ne_eqb, and_parts, or_cases, or_left, or_right, false≢true}
use Rattle.std.proofs.lemmas.List.{append-nil, map-append, length-map, get_or-map, get_or_default}
use Rattle.std.proofs.lemmas.List.Elements.{All-nil, All-cons, All-head, All-tail, All-append, All-drop, All-weaker, All-get_or, All-from_get_or, filter-append}
use Rattle.std.proofs.lemmas.List.Quantifiers.{all_pairs_push}
use Rattle.registry_model.specs.Process.{Nodes, with_node}
use Rattle.protocol_model.specs.Links.{Links, no_letters, is_nil, posted, taken, closed_out}
use Rattle.term.specs.Nodes.{IsFirst, name_of}
use Rattle.term.specs.NodeSets.{IsNodeSet, set_of, names_in, with_older, succeeded}
use Rattle.term.proofs.NodePlaces.{place-Some}
use Rattle.term.proofs.Older.{held, reached, first_alone, succeeded_is, succeeded_keeps}
use Rattle.link.specs.declared.faults.LinkFault.{LinkFault}
use Rattle.link.specs.declared.faults.LinkFault.TheVariants as on_link
use Rattle.link.specs.declared.link_place.LinkPlace.{LinkPlace}
use Rattle.link.specs.Faults.{IsStranger}
use Rattle.link.specs.MeshState.{MeshState, WaitsFirst as FirstOfMesh, IsWithin, has, place, node_at, from_of, to_of, only_to, seen as on_mesh}
use Rattle.link.specs.Reopening.{reopened}
use Rattle.link.proofs.Places.{place-get_or}
use Rattle.node_core.specs.declared.Letter.{Letter}
use Rattle.node_core.specs.CoreState.{HaveLeft, IsNext}
use Rattle.node_core.proofs.Gone.{one_way}
use Rattle.cluster_world.specs.Links.{SentLetter, Unsent, IsBetween, IsFirstSender, WaitsFirst}
use Rattle.cluster_world.specs.Mail.{Mailed, IsSound, AreOwn, letters_of, on_links}
use Rattle.cluster_world.proofs.Listed.{known_place, no_place}

-- a letter isn't of this node
abbrev NotBy : ℕ → SentLetter → Type 0
NotBy f s = s.sender ≡ f → ⊥

-- a letter is of a node of this name that has started
abbrev pub IsOf : List ℕ → ℕ → SentLetter → Type 0
IsOf nodes x s = (name_of s.sender ≡ x) × (with_older nodes s.sender ≡ true)

-- the sender of one is no younger than that of another
abbrev pub Rises : SentLetter → SentLetter → Type 0
Rises s t = s.sender ≤ t.sender

-- letters of a node, and others behind
letters_of-append : (f : ℕ) (xs ys : List SentLetter) → letters_of f (xs ++ ys) ≡ letters_of f xs ++ letters_of f ys
letters_of-append f xs ys =
    ap (λ (ss : List SentLetter). map (λ (s : SentLetter). s.letter) ss) (filter-append (λ (s : SentLetter). s.sender == f) xs ys)
    ∙ map-append (λ (s : SentLetter). s.letter) (filter (λ (s : SentLetter). s.sender == f) xs)
    (filter (λ (s : SentLetter). s.sender == f) ys)

-- the first letter is of the node, or of another
its_letter : (f : ℕ) (s : SentLetter) (ss : List SentLetter) → s.sender ≡ f → letters_of f (s ∷ ss) ≡ s.letter ∷ letters_of f ss
its_letter f s ss e = rw (eq-eqb s.sender f e) refl

other_letter : (f : ℕ) (s : SentLetter) (ss : List SentLetter) → (s.sender ≡ f → ⊥) → letters_of f (s ∷ ss) ≡ letters_of f ss
other_letter f s ss ne = rw (ne_eqb s.sender f ne) refl

-- no letter is of the node
none_of : (f : ℕ) (ss : List SentLetter) → All (NotBy f) ss → letters_of f ss ≡ []
none_of f [] all = refl
none_of f (s ∷ ss) all = other_letter f s ss (All-head (NotBy f) s ss all) ∙ none_of f ss (All-tail (NotBy f) s ss all)

-- those behind are of nodes that are no older
behind_first : (s : SentLetter) (ss : List SentLetter) → AllPairs Rises (s ∷ ss) → All (Rises s) ss
behind_first s ss pairs = All-from_get_or (Rises s) ss s (λ i l. pairs 0 (suc i) s (omega arith) (omega (arith, l)))

pairs_drop : (ss : List SentLetter) → AllPairs Rises ss → AllPairs Rises (drop 1 ss)
pairs_drop [] pairs = pairs
pairs_drop (s ∷ ss) pairs = λ i j d below inside. pairs (suc i) (suc j) d (omega (arith, below)) (omega (arith, inside))

pairs_none : AllPairs Rises []
pairs_none = λ i j d below inside. absurd (omega (arith, inside))

-- who has started is no younger than the node at present that has its name
pub at_most : (nodes departed : List ℕ) (a f : ℕ) → HaveLeft nodes departed → with_older nodes a ≡ true
    → set_of nodes f ≡ true → name_of a ≡ name_of f → a ≤ f
at_most nodes departed a f left started here named =
    let r = reached nodes a started in
    let same : r.0 ≡ f = left.one r.0 f r.1 here (r.2 ∙ named) in
    let under = r.3 in
    omega (arith, under, same)

-- there is one first sender
pub one_first : (x t f g : ℕ) (w : Links Letter) → IsFirstSender x t (Some f) w → IsFirstSender x t (Some g) w → f ≡ g
one_first x t f g w first second = elim (cases_eq f g) [
  | inl e ↦ e
  | inr ne ↦ absurd (elim (under f g ne) [
    | inl less ↦ apart f first.1 (second.2 f first.0 less)
    | inr more ↦ apart g second.1 (first.2 g second.0 more)
  ])
]
  where
    under : (a b : ℕ) → (a ≡ b → ⊥) → (a < b) ⊎ (b < a)
    under a b ne = elim (cases_lt a b) [ inl l ↦ inl l | inr m ↦ inr (omega (arith, m, ne)) ]

    apart : (a : ℕ) → is_nil (w.queue a t) ≡ false → w.queue a t ≡ [] → ⊥
    apart a waits none = false≢true (sym (sym (ap (λ (ls : List Letter). is_nil ls) none) ∙ waits))

module _ (nodes departed : List ℕ) where
  -- what stands between nodes on these links by name
  abbrev pub by_nodes : Links SentLetter → Links Letter
  by_nodes m = record {
    queue = λ f t. if set_of nodes t then letters_of f (m.queue (name_of f) (name_of t)) else [];
    closed = with_older departed;
  }

  -- links by name are those of these nodes
  pub record Fits (m : Links SentLetter) : Type 0 where
    pub closed : (t : ℕ) → set_of nodes t ≡ true → m.closed (name_of t) ≡ with_older departed t
    pub quiet : (x y : ℕ) → m.closed y ≡ true → m.queue x y ≡ []
    pub named : (x y : ℕ) → All (IsOf nodes x) (m.queue x y)
    pub rise : (x y : ℕ) → AllPairs Rises (m.queue x y)

module _ (nodes departed : List ℕ) (m : Links SentLetter) where
  -- for a node at present waits what stands towards its name
  queue_at : (f t : ℕ) → set_of nodes t ≡ true
      → (by_nodes nodes departed m).queue f t ≡ letters_of f (m.queue (name_of f) (name_of t))
  queue_at f t here = ap (λ (b : Bool). if b then letters_of f (m.queue (name_of f) (name_of t)) else []) here

  -- nothing waits where nothing stands
  pub nothing_at : (f t : ℕ) → m.queue (name_of f) (name_of t) ≡ [] → (by_nodes nodes departed m).queue f t ≡ []
  nothing_at f t none = go (set_of nodes t)
    where
      go : (b : Bool) → (if b then letters_of f (m.queue (name_of f) (name_of t)) else []) ≡ []
      go true = ap (λ (ss : List SentLetter). letters_of f ss) none
      go false = refl

module _ (nodes departed : List ℕ) (m : Links SentLetter) (left : HaveLeft nodes departed) (fits : Fits nodes departed m) where
  -- of nodes at present names tell which is which
  pub names_tell : (a b : ℕ) → set_of nodes a ≡ true → set_of nodes b ≡ true → (name_of a == name_of b) ≡ (a == b)
  names_tell a b here there = elim (cases_eq a b) [
    | inl e ↦ eq-eqb (name_of a) (name_of b) (ap name_of e) ∙ sym (eq-eqb a b e)
    | inr ne ↦ ne_eqb (name_of a) (name_of b) (λ same. ne (left.one a b here there same)) ∙ sym (ne_eqb a b ne)
  ]

  -- a letter waits of nodes that have started alone
  pub sender_started : (f t : ℕ) → is_nil ((by_nodes nodes departed m).queue f t) ≡ false → with_older nodes f ≡ true
  sender_started f t = go (set_of nodes t)
    where
      some : (ss : List SentLetter) → All (IsOf nodes (name_of f)) ss → is_nil (letters_of f ss) ≡ false → with_older nodes f ≡ true
      some [] all waits = absurd (false≢true (sym waits))
      some (s ∷ ss) all waits = elim (cases_eq s.sender f) [
        | inl e ↦ ap (with_older nodes) (sym e) ∙ (All-head (IsOf nodes (name_of f)) s ss all).1
        | inr ne ↦ some ss (All-tail (IsOf nodes (name_of f)) s ss all)
            (ap (λ (ls : List Letter). is_nil ls) (sym (other_letter f s ss ne)) ∙ waits)
      ]

      go : (b : Bool) → is_nil (if b then letters_of f (m.queue (name_of f) (name_of t)) else []) ≡ false → with_older nodes f ≡ true
      go true waits = some (m.queue (name_of f) (name_of t)) (fits.named (name_of f) (name_of t)) waits
      go false waits = absurd (false≢true (sym waits))

  -- who has sent the oldest letter from a name is its first sender
  pub oldest_first : (x t : ℕ) (s : SentLetter) (ss : List SentLetter) → set_of nodes t ≡ true
      → m.queue x (name_of t) ≡ s ∷ ss → IsFirstSender x t (Some s.sender) (by_nodes nodes departed m)
  oldest_first x t s ss here are = (sender, waits, before)
    where
      sender : name_of s.sender ≡ x
      sender = (All-head (IsOf nodes x) s ss (subst (λ (q : List SentLetter). All (IsOf nodes x) q) are (fits.named x (name_of t)))).0

      waits : is_nil ((by_nodes nodes departed m).queue s.sender t) ≡ false
      waits = ap (λ (ls : List Letter). is_nil ls) (queue_at nodes departed m s.sender t here
          ∙ ap (λ (y : ℕ). letters_of s.sender (m.queue y (name_of t))) sender
          ∙ ap (λ (q : List SentLetter). letters_of s.sender q) are
          ∙ its_letter s.sender s ss refl)

      before : (g : ℕ) → name_of g ≡ x → g < s.sender → (by_nodes nodes departed m).queue g t ≡ []
      before g named less = queue_at nodes departed m g t here
          ∙ ap (λ (y : ℕ). letters_of g (m.queue y (name_of t))) named
          ∙ ap (λ (q : List SentLetter). letters_of g q) are
          ∙ none_of g (s ∷ ss) (All-cons (NotBy g) s ss (λ e. omega (arith, e, less))
          (All-weaker (Rises s) (NotBy g) (λ r le e. omega (arith, le, e, less)) ss
          (behind_first s ss (subst (λ (q : List SentLetter). AllPairs Rises q) are (fits.rise x (name_of t))))))

  -- the first sender's letter stands in front
  pub in_front : (f t : ℕ) → set_of nodes t ≡ true → IsFirstSender (name_of f) t (Some f) (by_nodes nodes departed m)
      → (s : SentLetter) × (ss : List SentLetter) × (m.queue (name_of f) (name_of t) ≡ s ∷ ss) × (s.sender ≡ f)
  in_front f t here first = go (m.queue (name_of f) (name_of t)) refl
    where
      go : (q : List SentLetter) → m.queue (name_of f) (name_of t) ≡ q
          → (s : SentLetter) × (ss : List SentLetter) × (m.queue (name_of f) (name_of t) ≡ s ∷ ss) × (s.sender ≡ f)
      go [] e = absurd (false≢true
          (sym (sym (ap (λ (ls : List Letter). is_nil ls) (nothing_at nodes departed m f t e)) ∙ first.1)))
      go (s ∷ ss) e = (
        s,
        ss,
        e,
        one_first (name_of f) t s.sender f (by_nodes nodes departed m)
            (oldest_first (name_of f) t s ss here e) first,
      )

  -- a letter of another name isn't taken where one is
  pub fits_taken : (f t : ℕ) → Fits nodes departed (taken f t m)
  fits_taken f t = record {
    closed = fits.closed;
    quiet = λ x y shut. quiet x y shut ((x == f) && (y == t));
    named = λ x y. named x y ((x == f) && (y == t));
    rise = λ x y. rise x y ((x == f) && (y == t));
  }
    where
      quiet : (x y : ℕ) → m.closed y ≡ true → (b : Bool) → (if b then drop 1 (m.queue x y) else m.queue x y) ≡ []
      quiet x y shut true = ap (λ (q : List SentLetter). drop 1 q) (fits.quiet x y shut)
      quiet x y shut false = fits.quiet x y shut

      named : (x y : ℕ) (b : Bool) → All (IsOf nodes x) (if b then drop 1 (m.queue x y) else m.queue x y)
      named x y true = All-drop (IsOf nodes x) 1 (m.queue x y) (fits.named x y)
      named x y false = fits.named x y

      rise : (x y : ℕ) (b : Bool) → AllPairs Rises (if b then drop 1 (m.queue x y) else m.queue x y)
      rise x y true = pairs_drop (m.queue x y) (fits.rise x y)
      rise x y false = fits.rise x y

  -- the oldest letter of its first sender is taken
  pub taken_by : (f t : ℕ) → set_of nodes t ≡ true → IsFirstSender (name_of f) t (Some f) (by_nodes nodes departed m)
      → by_nodes nodes departed (taken (name_of f) (name_of t) m) ≡ taken f t (by_nodes nodes departed m)
  taken_by f t here first = ap (λ (q : ℕ → ℕ → List Letter). record (by_nodes nodes departed m) { queue = q })
      (fun_ext (λ x. fun_ext (λ y. point x y (set_of nodes y) refl)))
    where
      old : ℕ → ℕ → List SentLetter
      old x y = m.queue (name_of x) (name_of y)

      nothing : (c : Bool) (ls : List Letter) → ls ≡ [] → [] ≡ (if c then drop 1 ls else ls)
      nothing true ls e = sym (ap (λ (ks : List Letter). drop 1 ks) e)
      nothing false ls e = sym e

      -- where names are those of the letter that is taken
      same : (x y : ℕ) → name_of x ≡ name_of f → y ≡ t → (b : Bool) → (x == f) ≡ b
          → letters_of x (drop 1 (m.queue (name_of x) (name_of y)))
          ≡ (if b then drop 1 (letters_of x (m.queue (name_of x) (name_of y))) else letters_of x (m.queue (name_of x) (name_of y)))
      same x y named e b d =
          let s = in_front f t here first in
          let are : m.queue (name_of x) (name_of y) ≡ s.0 ∷ s.1 =
          ap (λ (z : ℕ). m.queue z (name_of y)) named ∙ ap (λ (z : ℕ). m.queue (name_of f) (name_of z)) e ∙ s.2 in
          subst (λ (q : List SentLetter). letters_of x (drop 1 q) ≡ (if b then drop 1 (letters_of x q) else letters_of x q))
          (sym are) (by b d s.0 s.1 s.3)
        where
          by : (b : Bool) → (x == f) ≡ b → (s : SentLetter) (ss : List SentLetter) → s.sender ≡ f
              → letters_of x ss ≡ (if b then drop 1 (letters_of x (s ∷ ss)) else letters_of x (s ∷ ss))
          by true d s ss is = ap (λ (ls : List Letter). drop 1 ls) (sym (its_letter x s ss (is ∙ sym (eqb-true x f d))))
          by false d s ss is = sym (other_letter x s ss (λ e. eqb-false x f d (sym e ∙ is)))

      inner : (x y : ℕ) (a b d : Bool) → (name_of x == name_of f) ≡ a → (x == f) ≡ b → (y == t) ≡ d
          → letters_of x (if a && d then drop 1 (m.queue (name_of x) (name_of y)) else m.queue (name_of x) (name_of y))
          ≡ (if b && d then drop 1 (letters_of x (m.queue (name_of x) (name_of y))) else letters_of x (m.queue (name_of x) (name_of y)))
      inner x y false true d p q r = absurd (one_way false (sym p ∙ eq-eqb (name_of x) (name_of f) (ap name_of (eqb-true x f q))) refl)
      inner x y false false d p q r = refl
      inner x y true true false p q r = refl
      inner x y true false false p q r = refl
      inner x y true true true p q r = same x y (eqb-true (name_of x) (name_of f) p) (eqb-true y t r) true q
      inner x y true false true p q r = same x y (eqb-true (name_of x) (name_of f) p) (eqb-true y t r) false q

      point : (x y : ℕ) (b : Bool) → set_of nodes y ≡ b
          → (by_nodes nodes departed (taken (name_of f) (name_of t) m)).queue x y ≡ (taken f t (by_nodes nodes departed m)).queue x y
      point x y false e = rw e (nothing ((x == f) && (y == t)) [] refl)
      point x y true e = rw (e, names_tell y t e here) (inner x y (name_of x == name_of f) (x == f) (y == t) refl refl refl)

  module _ (a r : ℕ) (l : Letter) (sender : set_of nodes a ≡ true) where
    -- a letter of a node at present is put on a link
    pub fits_posted : Fits nodes departed (posted (name_of a) (only_to (name_of r) (record { sender = a; letter = l })) m)
    fits_posted = record {
      closed = fits.closed;
      quiet = λ x y shut. quiet x y shut (x == name_of a);
      named = λ x y. named x y (x == name_of a) refl (m.closed y) (y == name_of r);
      rise = λ x y. rise x y (x == name_of a) refl (m.closed y) (y == name_of r);
    }
      where
        more : ℕ → ℕ → List SentLetter
        more x y = m.queue x y ++ only_to (name_of r) (record { sender = a; letter = l }) y

        quiet : (x y : ℕ) → m.closed y ≡ true → (b : Bool)
            → (if b && not (m.closed y) then m.queue x y ++ only_to (name_of r) (record { sender = a; letter = l }) y else m.queue x y)
            ≡ []
        quiet x y shut true = rw shut (fits.quiet x y shut)
        quiet x y shut false = fits.quiet x y shut

        named : (x y : ℕ) (b : Bool) → (x == name_of a) ≡ b → (d e : Bool)
            → All (IsOf nodes x) (if b && not d then m.queue x y ++ (if e then record { sender = a; letter = l } ∷ [] else []) else m.queue x y)
        named x y true is false true = All-append (IsOf nodes x) (m.queue x y) (record { sender = a; letter = l } ∷ []) (fits.named x y)
            (All-cons (IsOf nodes x) (record { sender = a; letter = l }) []
            (sym (eqb-true x (name_of a) is), held nodes a sender) (All-nil (IsOf nodes x)))
        named x y true is false false = All-append (IsOf nodes x) (m.queue x y) [] (fits.named x y) (All-nil (IsOf nodes x))
        named x y true is true e = fits.named x y
        named x y false is d e = fits.named x y

        rise : (x y : ℕ) (b : Bool) → (x == name_of a) ≡ b → (d e : Bool)
            → AllPairs Rises (if b && not d then m.queue x y ++ (if e then record { sender = a; letter = l } ∷ [] else []) else m.queue x y)
        rise x y true is false true = all_pairs_push Rises (m.queue x y) (record { sender = a; letter = l }) (fits.rise x y)
            (λ k d inside. let p = All-get_or (IsOf nodes x) (m.queue x y) k d inside (fits.named x y) in
            at_most nodes departed (get_or (m.queue x y) k d).sender a left p.1 sender (p.0 ∙ eqb-true x (name_of a) is))
        rise x y true is false false = subst (λ (q : List SentLetter). AllPairs Rises q) (sym (append-nil (m.queue x y))) (fits.rise x y)
        rise x y true is true e = fits.rise x y
        rise x y false is d e = fits.rise x y

    -- it waits for the node then
    pub posted_by : set_of nodes r ≡ true
        → by_nodes nodes departed (posted (name_of a) (only_to (name_of r) (record { sender = a; letter = l })) m)
        ≡ posted a (only_to r l) (by_nodes nodes departed m)
    posted_by there = ap (λ (q : ℕ → ℕ → List Letter). record (by_nodes nodes departed m) { queue = q })
        (fun_ext (λ x. fun_ext (λ y. point x y (set_of nodes y) refl)))
      where
        nothing : (y : ℕ) → (y == r) ≡ false → (c : Bool) → [] ≡ (if c then [] ++ only_to r l y else [])
        nothing y other true = rw other refl
        nothing y other false = refl

        -- the letter is of that node
        its : (x : ℕ) (e : Bool) → x ≡ a → letters_of x (if e then record { sender = a; letter = l } ∷ [] else [])
            ≡ (if e then l ∷ [] else [])
        its x true is = its_letter x (record { sender = a; letter = l }) [] (sym is)
        its x false is = refl

        not_its : (x : ℕ) (e : Bool) → (x ≡ a → ⊥) → letters_of x (if e then record { sender = a; letter = l } ∷ [] else []) ≡ []
        not_its x true ne = other_letter x (record { sender = a; letter = l }) [] (λ e. ne (sym e))
        not_its x false ne = refl

        inner : (x : ℕ) (q : List SentLetter) (b c d e : Bool) → (name_of x == name_of a) ≡ b → (x == a) ≡ c
            → letters_of x (if b && not d then q ++ (if e then record { sender = a; letter = l } ∷ [] else []) else q)
            ≡ (if c && not d then letters_of x q ++ (if e then l ∷ [] else []) else letters_of x q)
        inner x q false true d e p o = absurd (one_way false (sym p ∙ eq-eqb (name_of x) (name_of a) (ap name_of (eqb-true x a o))) refl)
        inner x q false false d e p o = refl
        inner x q true true true e p o = refl
        inner x q true false true e p o = refl
        inner x q true true false e p o =
            letters_of-append x q (if e then record { sender = a; letter = l } ∷ [] else [])
            ∙ ap (λ (ls : List Letter). letters_of x q ++ ls) (its x e (eqb-true x a o))
        inner x q true false false e p o =
            letters_of-append x q (if e then record { sender = a; letter = l } ∷ [] else [])
            ∙ ap (λ (ls : List Letter). letters_of x q ++ ls) (not_its x e (eqb-false x a o))
            ∙ append-nil (letters_of x q)

        point : (x y : ℕ) (b : Bool) → set_of nodes y ≡ b
            → (by_nodes nodes departed (posted (name_of a) (only_to (name_of r) (record { sender = a; letter = l })) m)).queue x y
            ≡ (posted a (only_to r l) (by_nodes nodes departed m)).queue x y
        point x y false e = rw e (nothing y (ne_eqb y r (λ same. one_way (set_of nodes y) (ap (set_of nodes) same ∙ there) e))
            ((x == a) && not (with_older departed y)))
        point x y true e = rw (e, fits.closed y e, names_tell y r e there)
            (inner x (m.queue (name_of x) (name_of y)) (name_of x == name_of a) (x == a) (with_older departed y) (y == r) refl refl)

  module _ (d : ℕ) (more : List ℕ) (here : set_of nodes d ≡ true) (are : with_older more ≡ with_node d (with_older departed)) where
    -- a node at present is closed out
    pub fits_closed : Fits nodes more (closed_out (name_of d) m)
    fits_closed = record {
      closed = λ t there. ap (λ (b : Bool). if b then true else m.closed (name_of t)) (names_tell t d there here)
          ∙ ap (λ (b : Bool). if t == d then true else b) (fits.closed t there)
          ∙ sym (ap (λ (n : Nodes). n t) are);
      quiet = λ x y. quiet x y (y == name_of d);
      named = λ x y. named x y (y == name_of d);
      rise = λ x y. rise x y (y == name_of d);
    }
      where
        quiet : (x y : ℕ) (b : Bool) → (if b then true else m.closed y) ≡ true → (if b then [] else m.queue x y) ≡ []
        quiet x y true shut = refl
        quiet x y false shut = fits.quiet x y shut

        named : (x y : ℕ) (b : Bool) → All (IsOf nodes x) (if b then [] else m.queue x y)
        named x y true = All-nil (IsOf nodes x)
        named x y false = fits.named x y

        rise : (x y : ℕ) (b : Bool) → AllPairs Rises (if b then [] else m.queue x y)
        rise x y true = pairs_none
        rise x y false = fits.rise x y

    pub closed_by : by_nodes nodes more (closed_out (name_of d) m) ≡ closed_out d (by_nodes nodes departed m)
    closed_by =
        ap (λ (c : Nodes). record (by_nodes nodes more (closed_out (name_of d) m)) { closed = c }) are
        ∙ ap (λ (q : ℕ → ℕ → List Letter). record (closed_out d (by_nodes nodes departed m)) { queue = q })
        (fun_ext (λ x. fun_ext (λ y. point x y (set_of nodes y) refl)))
      where
        nothing : (c : Bool) (ls : List Letter) → ls ≡ [] → [] ≡ (if c then [] else ls)
        nothing true ls e = refl
        nothing false ls e = sym e

        inner : (x : ℕ) (q : List SentLetter) (c : Bool) → letters_of x (if c then [] else q) ≡ (if c then [] else letters_of x q)
        inner x q true = refl
        inner x q false = refl

        point : (x y : ℕ) (b : Bool) → set_of nodes y ≡ b
            → (by_nodes nodes more (closed_out (name_of d) m)).queue x y ≡ (closed_out d (by_nodes nodes departed m)).queue x y
        point x y false e = rw e (nothing (y == d) [] refl)
        point x y true e = rw (e, names_tell y d e here) (inner x (m.queue (name_of x) (name_of y)) (y == d))

  module _ (older next : ℕ) (is : IsNext older next) (known : set_of nodes older ≡ true) (away : with_older departed older ≡ true) where
    -- towards its name nothing stands
    empty : (x y : ℕ) → name_of y ≡ name_of older → m.queue x (name_of y) ≡ []
    empty x y same = fits.quiet x (name_of y) (ap m.closed same ∙ fits.closed older known ∙ away)

    -- other nodes are at present as before
    others : (y : ℕ) → (name_of y ≡ name_of older → ⊥) → set_of (succeeded older next nodes) y ≡ set_of nodes y
    others y ne = succeeded_is nodes older next y
        ∙ rw (ne_eqb y older (λ e. ne (ap name_of e)), ne_eqb next y (λ e. ne (sym (ap name_of e) ∙ is.named)), known)
        (as_it_was (set_of nodes y))
      where
        as_it_was : (b : Bool) → ((b && true) || false) ≡ b
        as_it_was true = refl
        as_it_was false = refl

    -- the next node hasn't left
    next_stays : with_older departed next ≡ false
    next_stays = go (with_older departed next) refl
      where
        go : (b : Bool) → with_older departed next ≡ b → b ≡ false
        go false e = refl
        go true e = let le = at_most nodes departed next older left (left.started next e) known is.named in
            let up = is.is in absurd (omega (arith, le, up))

    -- the next node of a name that has left is at present
    pub fits_reopened : Fits (succeeded older next nodes) departed (reopened (name_of older) m)
    fits_reopened = record {
      closed = λ t there. elim (cases_eq (name_of t) (name_of older)) [
        | inl same ↦ ap (λ (b : Bool). if b then false else m.closed (name_of t)) (eq-eqb (name_of t) (name_of older) same)
            ∙ sym (ap (with_older departed) (sym (is_next t there same)) ∙ next_stays)
        | inr ne ↦ ap (λ (b : Bool). if b then false else m.closed (name_of t)) (ne_eqb (name_of t) (name_of older) ne)
            ∙ fits.closed t (sym (others t ne) ∙ there)
      ];
      quiet = λ x y. quiet x y (y == name_of older);
      named = λ x y. All-weaker (IsOf nodes x) (IsOf (succeeded older next nodes) x)
          (λ s p. (p.0, succeeded_keeps nodes older next s.sender is.named (let e = is.is in omega (arith, e)) p.1))
          (m.queue x y) (fits.named x y);
      rise = fits.rise;
    }
      where
        is_next : (t : ℕ) → set_of (succeeded older next nodes) t ≡ true → name_of t ≡ name_of older → next ≡ t
        is_next t there same = elim (or_cases (set_of nodes t && not (t == older)) (set_of nodes older && (next == t))
            (sym (succeeded_is nodes older next t) ∙ there)) [
              | inl other ↦ let parts = and_parts (set_of nodes t) (not (t == older)) other in
                  absurd (one_way (not (t == older)) parts.1 (ap not (eq-eqb t older (left.one t older parts.0 known same))))
              | inr this ↦ eqb-true next t (and_parts (set_of nodes older) (next == t) this).1
            ]

        quiet : (x y : ℕ) (b : Bool) → (if b then false else m.closed y) ≡ true → m.queue x y ≡ []
        quiet x y true shut = absurd (false≢true shut)
        quiet x y false shut = fits.quiet x y shut

    pub reopened_by : by_nodes (succeeded older next nodes) departed (reopened (name_of older) m) ≡ by_nodes nodes departed m
    reopened_by = ap (λ (q : ℕ → ℕ → List Letter). record (by_nodes nodes departed m) { queue = q })
        (fun_ext (λ x. fun_ext (λ y. point x y)))
      where
        none : (x y : ℕ) → name_of y ≡ name_of older → (b : Bool)
            → (if b then letters_of x (m.queue (name_of x) (name_of y)) else []) ≡ []
        none x y same true = ap (λ (q : List SentLetter). letters_of x q) (empty (name_of x) y same)
        none x y same false = refl

        point : (x y : ℕ) → (by_nodes (succeeded older next nodes) departed (reopened (name_of older) m)).queue x y
            ≡ (by_nodes nodes departed m).queue x y
        point x y = elim (cases_eq (name_of y) (name_of older)) [
          | inl same ↦ none x y same (set_of (succeeded older next nodes) y) ∙ sym (none x y same (set_of nodes y))
          | inr ne ↦ ap (λ (b : Bool). if b then letters_of x (m.queue (name_of x) (name_of y)) else []) (others y ne)
        ]

-- at first nothing stands anywhere
pub fits_nothing : (nodes : List ℕ) → Fits nodes [] no_letters
fits_nothing nodes = record {
  closed = λ t there. refl;
  quiet = λ x y shut. refl;
  named = λ x y. All-nil (IsOf nodes x);
  rise = λ x y. pairs_none;
}

pub nothing_by : (nodes : List ℕ) → by_nodes nodes [] no_letters ≡ no_letters
nothing_by nodes = ap (λ (q : ℕ → ℕ → List Letter). record (by_nodes nodes [] no_letters) { queue = q })
    (fun_ext (λ x. fun_ext (λ y. nothing_at nodes [] no_letters x y refl)))

-- and of first nodes none has left
pub none_left : (nodes : List ℕ) → All IsFirst nodes → HaveLeft nodes []
none_left nodes first = record {
  one = λ a b here there same. sym (is_name a here) ∙ same ∙ is_name b there;
  started = λ c e. absurd (false≢true e);
  older = λ c started out. absurd (one_way (set_of nodes c) (sym (first_alone nodes first c) ∙ started) out);
}
  where
    is_name : (a : ℕ) → set_of nodes a ≡ true → name_of a ≡ a
    is_name a here = go nodes first here
      where
        go : (ns : List ℕ) → All IsFirst ns → set_of ns a ≡ true → name_of a ≡ a
        go [] all e = absurd (false≢true e)
        go (n ∷ ns) all e = elim (or_cases (n == a) (set_of ns a) e) [
          | inl this ↦ let is = eqb-true n a this in let f = All-head IsFirst n ns all in omega (arith, is, f)
          | inr other ↦ go ns (All-tail IsFirst n ns all) other
        ]

-- first nodes are their names
pub names_are : (nodes : List ℕ) → All IsFirst nodes → nodes ≡ map name_of nodes
names_are [] first = refl
names_are (n ∷ ns) first =
    ap (λ (m : ℕ). m ∷ ns) (let f = All-head IsFirst n ns first in omega (arith, f))
    ∙ ap (λ (ms : List ℕ). name_of n ∷ ms) (names_are ns (All-tail IsFirst n ns first))

module _ (h : Mailed) (sound : IsSound h) where
  -- the links by name of a sound mail are those of its nodes
  pub fits_of : Fits h.nodes h.departed (on_mesh h.mesh)
  fits_of = record { closed = sound.closed; quiet = sound.quiet; named = sound.named; rise = sound.rise }

-- and a mail of such links is sound
pub sound_of : (nodes departed : List ℕ) (m : MeshState SentLetter) (u : Option Unsent) → HaveLeft nodes departed
    → m.nodes ≡ map name_of nodes → Fits nodes departed (on_mesh m) → IfSome u (AreOwn nodes)
    → IsSound (record { nodes = nodes; departed = departed; mesh = m; unsent = u })
sound_of nodes departed m u left names fits own = record {
  left = left;
  names = names;
  closed = fits.closed;
  quiet = fits.quiet;
  named = fits.named;
  rise = fits.rise;
  own = own;
}

-- the name of a node at present has a place
pub name_known : (h : Mailed) → IsSound h → (a : ℕ) → set_of h.nodes a ≡ true → has (name_of a) h.mesh ≡ true
name_known h sound a here = by (place (name_of a) h.mesh.nodes) refl
  where
    go : (ns : List ℕ) → set_of ns a ≡ true → set_of (map name_of ns) (name_of a) ≡ true
    go [] e = e
    go (n ∷ ns) e = elim (or_cases (n == a) (set_of ns a) e) [
      | inl this ↦ or_left _ _ (eq-eqb (name_of n) (name_of a) (ap name_of (eqb-true n a this)))
      | inr other ↦ or_right _ _ (go ns other)
    ]

    by : (p : Option ℕ) → place (name_of a) h.mesh.nodes ≡ p → is_some p ≡ true
    by (Some i) e = refl
    by None e = absurd (one_way (set_of h.mesh.nodes (name_of a))
        (ap (λ (ns : List ℕ). set_of ns (name_of a)) sound.names ∙ go h.nodes here) (no_place h.mesh.nodes (name_of a) e))

-- a place on the mesh has a name that a node at present has, and that is its own name
pub place_known : (h : Mailed) → IsSound h → (i : ℕ) → i < length h.mesh.nodes
    → (names_in h.nodes (node_at i h.mesh) ≡ true) × (name_of (node_at i h.mesh) ≡ node_at i h.mesh)
place_known h sound i inside = (
  subst (λ (ns : List ℕ). i < length ns → names_in h.nodes (get_or ns i 0) ≡ true) (sym sound.names) (λ l. (go h.nodes i l).0) inside,
  subst (λ (ns : List ℕ). i < length ns → name_of (get_or ns i 0) ≡ get_or ns i 0) (sym sound.names) (λ l. (go h.nodes i l).1) inside,
)
  where
    go : (ns : List ℕ) (i : ℕ) → i < length (map name_of ns)
        → (names_in ns (get_or (map name_of ns) i 0) ≡ true) × (name_of (get_or (map name_of ns) i 0) ≡ get_or (map name_of ns) i 0)
    go [] i l = absurd (omega (arith, l))
    go (n ∷ ns) zero l = (or_left _ _ (eq-eqb (name_of n) (name_of n) refl), omega arith)
    go (n ∷ ns) (suc i) l = let r = go ns i (omega (arith, l)) in (or_right _ _ r.0, r.1)

-- at the place of a node at present stands its name on the mesh
pub name_stands : (h : Mailed) → IsSound h → (a i : ℕ) → place a h.nodes ≡ Some i
    → (i < length h.mesh.nodes) × (node_at i h.mesh ≡ name_of a)
name_stands h sound a i at =
    let p = place-Some a h.nodes i at in (
      omega (arith, p.0, ap (λ (ns : List ℕ). length ns) sound.names, length-map h.nodes name_of),
      ap (λ (ns : List ℕ). get_or ns i 0) sound.names ∙ get_or-map name_of h.nodes i 0 0 p.0 ∙ ap name_of p.1,
    )

-- and so a link between nodes is there
pub link_stands : (h : Mailed) → IsSound h → (k : LinkPlace) (x t : ℕ) → IsBetween k x t h.nodes
    → IsWithin k h.mesh × (from_of k h.mesh ≡ x) × (to_of k h.mesh ≡ name_of t)
link_stands h sound k x t are =
    let s = name_stands h sound are.sender.0 k.sender are.sender.1 in
    let r = name_stands h sound t k.receiver are.receiver in
    ((s.0, r.0), s.1 ∙ are.sender.2, r.1)

-- the first link on the mesh
pub first_of_mesh : (h : Mailed) → IsSound h → (f0 t0 t : ℕ) (s : SentLetter) → FirstOfMesh (Some (f0, t0)) h.mesh
    → Some s ≡ slice_get ((on_mesh h.mesh).queue f0 t0) 0 → set_of h.nodes t ≡ true → name_of t ≡ t0
    → WaitsFirst (Some (s.sender, t)) (on_links h)
first_of_mesh h sound f0 t0 t s first front here named = go ((on_mesh h.mesh).queue f0 t0) refl front
  where
    go : (q : List SentLetter) → (on_mesh h.mesh).queue f0 t0 ≡ q → Some s ≡ slice_get q 0
        → WaitsFirst (Some (s.sender, t)) (on_links h)
    go [] are e = cc
    go (r ∷ q) are e = subst (λ (x : SentLetter). WaitsFirst (Some (x.sender, t)) (on_links h)) (sym (some_is s r e)) (
      oldest_first h.nodes h.departed (on_mesh h.mesh) sound.left (fits_of h sound) (name_of r.sender) t r q here at_both,
      λ x y before. nothing_at h.nodes h.departed (on_mesh h.mesh) x y (first.1 (name_of x) (name_of y) (lift x y before)),
    )
      where
        some_is : (s r : SentLetter) → Some s ≡ Some r → s ≡ r
        some_is s r e = cc

        sender : name_of r.sender ≡ f0
        sender = (All-head (IsOf h.nodes f0) r q
            (subst (λ (ss : List SentLetter). All (IsOf h.nodes f0) ss) are (sound.named f0 t0))).0

        at_both : (on_mesh h.mesh).queue (name_of r.sender) (name_of t) ≡ r ∷ q
        at_both = ap (λ (x : ℕ). (on_mesh h.mesh).queue x (name_of t)) sender
            ∙ ap (λ (y : ℕ). (on_mesh h.mesh).queue f0 y) named ∙ are

        lift : (x y : ℕ) → (name_of x < name_of r.sender) ⊎ ((name_of x ≡ name_of r.sender) × (name_of y < name_of t))
            → (name_of x < f0) ⊎ ((name_of x ≡ f0) × (name_of y < t0))
        lift x y (inl less) = inl (omega (arith, less, sender))
        lift x y (inr p) = inr (p.0 ∙ sender, let less = p.1 in omega (arith, less, named))

-- a letter on a link is of a node of the link's name
pub front_named : (h : Mailed) → IsSound h → (x y : ℕ) (s : SentLetter) → Some s ≡ slice_get ((on_mesh h.mesh).queue x y) 0
    → name_of s.sender ≡ x
front_named h sound x y s front = go ((on_mesh h.mesh).queue x y) (sound.named x y) front
  where
    some_is : (s r : SentLetter) → Some s ≡ Some r → s ≡ r
    some_is s r e = cc

    go : (q : List SentLetter) → All (IsOf h.nodes x) q → Some s ≡ slice_get q 0 → name_of s.sender ≡ x
    go [] all e = cc
    go (r ∷ q) all e = ap (λ (u : SentLetter). name_of u.sender) (some_is s r e) ∙ (All-head (IsOf h.nodes x) r q all).0

-- what was copied of a place of these nodes stands there
pub stands_there : (ns ms : List ℕ) (i a b : ℕ) → a ≡ b → b ≡ get_or ns i b → ns ≡ ms → a ≡ get_or ms i a
stands_there ns ms i a b same is are = same ∙ is ∙ ap (λ (x : ℕ). get_or ns i x) (sym same)
    ∙ ap (λ (xs : List ℕ). get_or xs i a) are

-- so the link at these places is the one between its sender and the node that stands there
pub link_of_front : (h : Mailed) → IsSound h → IsNodeSet h.nodes → (k : LinkPlace) → IsWithin k h.mesh → (s : SentLetter)
    → Some s ≡ slice_get ((on_mesh h.mesh).queue (from_of k h.mesh) (to_of k h.mesh)) 0 → (t : ℕ)
    → t ≡ get_or h.nodes k.receiver t → IsBetween k (name_of s.sender) t h.nodes
link_of_front h sound set k within s front t at = record {
  sender = (
    get_or h.nodes k.sender 0,
    place-get_or h.nodes k.sender set.rising from,
    sym (name_stands h sound (get_or h.nodes k.sender 0) k.sender (place-get_or h.nodes k.sender set.rising from)).1
        ∙ sym (front_named h sound (from_of k h.mesh) (to_of k h.mesh) s front),
  );
  receiver = ap (λ (a : ℕ). place a h.nodes) (at ∙ get_or_default h.nodes k.receiver t 0 to)
      ∙ place-get_or h.nodes k.receiver set.rising to;
}
  where
    long : length h.mesh.nodes ≡ length h.nodes
    long = ap (λ (ns : List ℕ). length ns) sound.names ∙ length-map h.nodes name_of

    from : k.sender < length h.nodes
    from = omega (arith, within.0, long)

    to : k.receiver < length h.nodes
    to = omega (arith, within.1, long)

-- the delivery of the first letter on the mesh
pub first_delivery : (h : Mailed) → IsSound h → (k : LinkPlace) (s : SentLetter) (t : ℕ)
    → FirstOfMesh (Some (from_of k h.mesh, to_of k h.mesh)) h.mesh
    → Some s ≡ slice_get ((on_mesh h.mesh).queue (from_of k h.mesh) (to_of k h.mesh)) 0
    → IsBetween k (name_of s.sender) t h.nodes → WaitsFirst (Some (s.sender, t)) (on_links h)
first_delivery h sound k s t first front link =
    first_of_mesh h sound (from_of k h.mesh) (to_of k h.mesh) t s first front (known_place h.nodes t k.receiver link.receiver)
    (sym (name_stands h sound t k.receiver link.receiver).1)

-- no letter waits where none stands on the mesh
pub none_on_mesh : (h : Mailed) → FirstOfMesh None h.mesh → WaitsFirst None (on_links h)
none_on_mesh h none = λ x y. nothing_at h.nodes h.departed (on_mesh h.mesh) x y (none (name_of x) (name_of y))

-- the front of a link is that of the letters of its first sender
pub front_of : (h : Mailed) → IsSound h → (f t : ℕ) → set_of h.nodes t ≡ true → IsFirstSender (name_of f) t (Some f) (on_links h)
    → (r : Option SentLetter) → r ≡ slice_get ((on_mesh h.mesh).queue (name_of f) (name_of t)) 0
    → option_map (λ (s : SentLetter). s.letter) r ≡ slice_get ((on_links h).queue f t) 0
front_of h sound f t here first r e =
    let s = in_front h.nodes h.departed (on_mesh h.mesh) sound.left (fits_of h sound) f t here first in
    ap (λ (o : Option SentLetter). option_map (λ (s : SentLetter). s.letter) o) (e ∙ ap (λ (q : List SentLetter). slice_get q 0) s.2)
    ∙ ap (λ (ls : List Letter). slice_get ls 0) (sym (queue_at h.nodes h.departed (on_mesh h.mesh) f t here
    ∙ ap (λ (q : List SentLetter). letters_of f q) s.2 ∙ its_letter f s.0 s.1 s.3))

-- a call doesn't fail at the name of a node at present
pub known_so : {A : Type 0} (h : Mailed) → IsSound h → (a : ℕ) → set_of h.nodes a ≡ true → (r : Result Unit LinkFault)
    → OnOk r A → IfErr r (λ fault. IsStranger fault (name_of a) h.mesh) → A
known_so h sound a here (Ok x) ok err = ok
known_so h sound a here (Err on_link.NoSuchNode) ok err = absurd (one_way (has (name_of a) h.mesh) (name_known h sound a here) err)
known_so h sound a here (Err on_link.EmptyLink) ok err = absurd err
known_so h sound a here (Err on_link.Full) ok err = absurd err
known_so h sound a here (Err on_link.Memory) ok err = absurd err

-- a mail without letters is sound
pub new_sound : (nodes departed : List ℕ) (m : MeshState SentLetter) → All IsFirst nodes → departed ≡ [] → m.nodes ≡ nodes
    → on_mesh m ≡ no_letters → IsSound (record { nodes = nodes; departed = departed; mesh = m; unsent = None })
new_sound nodes departed m first none are empty = sound_of nodes departed m None
    (subst (λ (ns : List ℕ). HaveLeft nodes ns) (sym none) (none_left nodes first)) (are ∙ names_are nodes first)
    (subst (λ (ns : List ℕ). Fits nodes ns (on_mesh m)) (sym none)
    (subst (λ (w : Links SentLetter). Fits nodes [] w) (sym empty) (fits_nothing nodes))) tt

pub new_links : (nodes departed : List ℕ) (m : MeshState SentLetter) → departed ≡ [] → on_mesh m ≡ no_letters
    → by_nodes nodes departed (on_mesh m) ≡ no_letters
new_links nodes departed m none empty = ap (λ (ns : List ℕ). by_nodes nodes ns (on_mesh m)) none
    ∙ ap (λ (w : Links SentLetter). by_nodes nodes [] w) empty ∙ nothing_by nodes
