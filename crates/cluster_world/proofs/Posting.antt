-- Letters that are posted and taken, one by one, and as those of all creations.
use Rattle.std.proofs.Common.{ℕ, Bool, true, false, ◌==◌, ◌≡◌, List, [], ◌∷◌, ◌++◌, drop, map, filter, refl, sym, ap, subst, ◌∙◌, inl, inr}
use Rattle.std.specs.Prelude.{not, ◌&&◌, if◌then◌else◌, All, Option, Some, None}
use Rattle.std.proofs.Math.Path.{fun_ext}
use Rattle.std.proofs.lemmas.Bool.{cases_eq, eq-eqb, eqb-true, ne_eqb}
use Rattle.std.proofs.lemmas.List.{append_assoc, append-nil, map-append}
use Rattle.std.proofs.lemmas.List.Elements.{All-nil, All-cons, All-head, All-append, All-tail}
use Rattle.protocol_model.specs.Links.{Links, posted, taken, closed_out}
use Rattle.protocol_model.specs.Letter.{Letter as AnyLetter}
use Rattle.protocol_model.specs.Turn.{Send, sent_to}
use Rattle.protocol_model.specs.World.{Opening, in_world}
use Rattle.registry_model.proofs.Updates.{by_test}
use Rattle.term.specs.NodeSets.{set_of, with_older}
use Rattle.term.proofs.Older.{held}
use Rattle.link.specs.MeshState.{only_to}
use Rattle.node_core.specs.declared.Letter.{Letter}
use Rattle.node_core.specs.Letters.{letter_of, send_of}
use Rattle.node_core.specs.Steps.{IsSaidBy, GoWithin}
use Rattle.cluster_world.specs.Links.{Unsent, with_unsent, letters_to, AreFit}
use Rattle.cluster_world.specs.Mail.{Mailed, on_links, links_of}
use Rattle.cluster_world.specs.Seen.{all_links}

-- a letter of node a, with its receiver
abbrev IsSent : List ℕ → ℕ → ℕ × Letter → Type 0
IsSent ns a s = (with_older ns s.0 ≡ true) × IsSaidBy ns s.0 a s.1

-- links with these queues
abbrev with_queue : {L : Type 0} → Links L → (ℕ → ℕ → List L) → Links L
with_queue w q = record w { queue = q }

queues_agree : {L : Type 0} (w : Links L) (p q : ℕ → ℕ → List L) → ((x y : ℕ) → p x y ≡ q x y) → with_queue w p
    ≡ with_queue w q
queues_agree w p q same = ap (with_queue w) (fun_ext (λ x. fun_ext (λ y. same x y)))

-- no letters at all
pub posted-nothing : {L : Type 0} (a : ℕ) (w : Links L) → posted a (λ t. []) w ≡ w
posted-nothing a w = queues_agree w (posted a (λ t. []) w).queue w.queue (λ x y. go x y ((x == a) && not (w.closed y)))
  where
    go : (x y : ℕ) (b : Bool) → (if b then w.queue x y ++ [] else w.queue x y) ≡ w.queue x y
    go x y true = append-nil (w.queue x y)
    go x y false = refl

-- letters, and then others
pub posted-posted : {L : Type 0} (a : ℕ) (ls ms : ℕ → List L) (w : Links L)
    → posted a ms (posted a ls w) ≡ posted a (λ t. ls t ++ ms t) w
posted-posted a ls ms w = queues_agree w (posted a ms (posted a ls w)).queue (posted a (λ t. ls t ++ ms t) w).queue
    (λ x y. go x y ((x == a) && not (w.closed y)))
  where
    go : (x y : ℕ) (b : Bool) → (if b then (if b then w.queue x y ++ ls y else w.queue x y)
        ++ ms y else (if b then w.queue x y ++ ls y else w.queue x y))
        ≡ (if b then w.queue x y ++ (ls y ++ ms y) else w.queue x y)
    go x y true = append_assoc (w.queue x y) (ls y) (ms y)
    go x y false = refl

-- the letters of one more in front
letters_to-cons : {L : Type 0} (t : ℕ) (s : ℕ × L) (ss : List (ℕ × L)) → only_to s.0 s.1 t ++ letters_to t ss
    ≡ letters_to t (s ∷ ss)
letters_to-cons t s ss = elim (cases_eq s.0 t) [
  | inl e ↦ rw (eq-eqb s.0 t e, eq-eqb t s.0 (sym e)) refl
  | inr ne ↦ rw (ne_eqb s.0 t ne, ne_eqb t s.0 (λ e. ne (sym e))) refl
]

-- a letter, and then others
pub posted-cons : {L : Type 0} (a : ℕ) (s : ℕ × L) (ss : List (ℕ × L)) (w : Links L)
    → posted a (λ t. letters_to t ss) (posted a (only_to s.0 s.1) w) ≡ posted a (λ t. letters_to t (s ∷ ss)) w
posted-cons a s ss w = posted-posted a (only_to s.0 s.1) (λ t. letters_to t ss) w
    ∙ ap (λ (ls : ℕ → List _). posted a ls w) (fun_ext (λ t. letters_to-cons t s ss))

-- what goes to a node that hasn't started, where all go to nodes that have
pub none_to : (ns : List ℕ) (a t : ℕ) (ss : List (ℕ × Letter)) → GoWithin ns a ss → with_older ns t ≡ false
    → letters_to t ss ≡ []
none_to ns a t [] go strange = refl
none_to ns a t (s ∷ ss) go strange = elim (cases_eq s.0 t) [
  | inl e ↦ cc ((All-head (IsSent ns a) s ss go).0, ap (with_older ns) e, strange)
  | inr ne ↦ rw (ne_eqb s.0 t ne) (none_to ns a t ss (All-tail (IsSent ns a) s ss go) strange)
]

-- and what each reader of them relies on
all_said : (ns : List ℕ) (a t : ℕ) (ss : List (ℕ × Letter)) → GoWithin ns a ss
    → All (IsSaidBy ns t a) (letters_to t ss)
all_said ns a t [] go = All-nil (IsSaidBy ns t a)
all_said ns a t (s ∷ ss) go = elim (cases_eq s.0 t) [
  | inl e ↦ rw (eq-eqb s.0 t e) (All-cons (IsSaidBy ns t a) s.1 (letters_to t ss)
      (subst (λ (x : ℕ). IsSaidBy ns x a s.1) e (All-head (IsSent ns a) s ss go).1)
      (all_said ns a t ss (All-tail (IsSent ns a) s ss go)))
  | inr ne ↦ rw (ne_eqb s.0 t ne) (all_said ns a t ss (All-tail (IsSent ns a) s ss go))
]

-- links stay fit when a node at present posts its letters, where those that were replaced have left
pub fit_posted : (ns : List ℕ) (a : ℕ) (ss : List (ℕ × Letter)) (w : Links Letter) → set_of ns a ≡ true
    → ((c : ℕ) → with_older ns c ≡ true → set_of ns c ≡ false → w.closed c ≡ true)
    → GoWithin ns a ss → AreFit ns w → AreFit ns (posted a (λ t. letters_to t ss) w)
fit_posted ns a ss w here older go F = record {
  known = λ f t strange. known f t strange (f == a) refl (w.closed t) refl;
  quiet = quiet;
  said = λ f t. said f t (f == a) refl (w.closed t);
}
  where
    -- what was on a link, and what is put behind it
    more : ℕ → ℕ → List Letter
    more f t = w.queue f t ++ letters_to t ss

    -- nothing goes to who isn't at present
    none : (t : ℕ) (b d : Bool) → set_of ns t ≡ false → with_older ns t ≡ b → w.closed t ≡ false → letters_to t ss ≡ []
    none t true d other e runs = cc (older t e other, runs)
    none t false d other e runs = none_to ns a t ss go e

    known : (f t : ℕ) → (with_older ns f && set_of ns t) ≡ false → (b : Bool) → (f == a) ≡ b → (d : Bool) → w.closed t ≡ d
        → (if b && not d then more f t else w.queue f t) ≡ []
    known f t strange true e false runs = ap (λ (ls : List Letter). ls ++ letters_to t ss) (F.known f t strange)
        ∙ none t (with_older ns t) false (sym (ap (λ (b : Bool). b && set_of ns t)
        (held ns f (ap (set_of ns) (eqb-true f a e) ∙ here))) ∙ strange) refl runs
    known f t strange true e true shut = F.known f t strange
    known f t strange false e d q = F.known f t strange

    quiet : (f t : ℕ) → w.closed t ≡ true → (posted a (λ t. letters_to t ss) w).queue f t ≡ []
    quiet f t shut = ap (λ (b : Bool). if (f == a) && not b then more f t else w.queue f t) shut
        ∙ same (f == a) ∙ F.quiet f t shut
      where
        same : (b : Bool) → (if b && false then more f t else w.queue f t) ≡ w.queue f t
        same true = refl
        same false = refl

    said : (f t : ℕ) (b : Bool) → (f == a) ≡ b → (d : Bool)
        → All (IsSaidBy ns t f) (if b && not d then more f t else w.queue f t)
    said f t true e false = All-append (IsSaidBy ns t f) (w.queue f t) (letters_to t ss) (F.said f t)
        (subst (λ (x : ℕ). All (IsSaidBy ns t x) (letters_to t ss)) (sym (eqb-true f a e)) (all_said ns a t ss go))
    said f t true e true = F.said f t
    said f t false e d = F.said f t

-- when one is taken
pub fit_taken : (ns : List ℕ) (f t : ℕ) (w : Links Letter) → AreFit ns w → AreFit ns (taken f t w)
fit_taken ns f t w F = record {
  known = λ x y strange. quiet x y (F.known x y strange) ((x == f) && (y == t));
  quiet = λ x y shut. quiet x y (F.quiet x y shut) ((x == f) && (y == t));
  said = λ x y. said x y ((x == f) && (y == t)) (w.queue x y) (F.said x y);
}
  where
    quiet : (x y : ℕ) → w.queue x y ≡ [] → (b : Bool) → (if b then drop 1 (w.queue x y) else w.queue x y) ≡ []
    quiet x y e true = ap (λ (ls : List Letter). drop 1 ls) e
    quiet x y e false = e

    said : (x y : ℕ) (b : Bool) (ls : List Letter) → All (IsSaidBy ns y x) ls
        → All (IsSaidBy ns y x) (if b then drop 1 ls else ls)
    said x y true [] all = all
    said x y true (l ∷ ls) all = All-tail (IsSaidBy ns y x) l ls all
    said x y false ls all = all

-- and when a node is closed out
pub fit_closed : (ns : List ℕ) (d : ℕ) (w : Links Letter) → AreFit ns w → AreFit ns (closed_out d w)
fit_closed ns d w F = record {
  known = λ x y strange. known x y strange (y == d);
  quiet = λ x y shut. quiet x y (y == d) shut;
  said = λ x y. said x y (y == d);
}
  where
    known : (x y : ℕ) → (with_older ns x && set_of ns y) ≡ false → (b : Bool) → (if b then [] else w.queue x y) ≡ []
    known x y strange true = refl
    known x y strange false = F.known x y strange

    quiet : (x y : ℕ) (b : Bool) → (if b then true else w.closed y) ≡ true → (if b then [] else w.queue x y) ≡ []
    quiet x y true shut = refl
    quiet x y false shut = F.quiet x y shut

    said : (x y : ℕ) (b : Bool) → All (IsSaidBy ns y x) (if b then [] else w.queue x y)
    said x y true = All-nil (IsSaidBy ns y x)
    said x y false = F.said x y

-- the letters of a turn to a node
pub sent_to-map : (t : ℕ) (ss : List (ℕ × Letter)) → map letter_of (letters_to t ss) ≡ sent_to t (map send_of ss)
sent_to-map t [] = refl
sent_to-map t (s ∷ ss) = go (s.0 == t) (sent_to-map t ss)
  where
    go : (b : Bool) → map letter_of (letters_to t ss) ≡ sent_to t (map send_of ss)
        → map letter_of (map (λ s. s.1) (if b then s ∷ filter (λ s. s.0 == t) ss else filter (λ s. s.0 == t) ss))
        ≡ map (λ s. s.letter) (if b then send_of s ∷ filter (λ s. s.to == t) (map send_of ss) else filter
        (λ s. s.to == t) (map send_of ss))
    go true e = ap (λ (ls : List AnyLetter). letter_of s.1 ∷ ls) e
    go false e = e

-- Links of nodes that have started, where these are at present, as those of all creations: for a node that hasn't waits one `Down` of
-- each that has left
module _ (O : Opening) (ns : List ℕ) where
  -- for a node that hasn't started
  abbrev pub down_of : Bool → ℕ → List AnyLetter
  down_of gone t = if in_world O t && gone then AnyLetter.Down ∷ [] else []

  abbrev pub over : Links Letter → Links AnyLetter
  over w = record {
    queue = λ f t. if with_older ns t then map letter_of (w.queue f t) else down_of (w.closed f) t;
    closed = w.closed;
  }

  -- a node posts letters to nodes that have started
  pub over-posted : (a : ℕ) (ss : List (ℕ × Letter)) (w : Links Letter)
      → ((t : ℕ) → with_older ns t ≡ false → letters_to t ss ≡ [])
      → over (posted a (λ t. letters_to t ss) w) ≡ posted a (λ t. sent_to t (map send_of ss)) (over w)
  over-posted a ss w none = queues_agree (over w) (over (posted a (λ t. letters_to t ss) w)).queue
      (posted a (λ t. sent_to t (map send_of ss)) (over w)).queue
      (λ x y. go x y (with_older ns y) refl ((x == a) && not (w.closed y)))
    where
      go : (x y : ℕ) (b : Bool) → with_older ns y ≡ b → (p : Bool)
          → (if b then map letter_of (if p then w.queue x y ++ letters_to y ss else w.queue x y) else down_of (w.closed x) y)
          ≡ (if p then (if b then map letter_of (w.queue x y) else down_of (w.closed x) y) ++ sent_to y (map send_of ss)
          else (if b then map letter_of (w.queue x y) else down_of (w.closed x) y))
      go x y true e true = map-append letter_of (w.queue x y) (letters_to y ss)
          ∙ ap (λ (ls : List AnyLetter). map letter_of (w.queue x y) ++ ls) (sent_to-map y ss)
      go x y true e false = refl
      go x y false e true = sym (ap (λ (ls : List AnyLetter). down_of (w.closed x) y ++ ls)
          (sym (sent_to-map y ss) ∙ ap (map letter_of) (none y e)) ∙ append-nil (down_of (w.closed x) y))
      go x y false e false = refl

  -- one that has started takes one
  pub over-taken : (f t : ℕ) (w : Links Letter) → with_older ns t ≡ true → over (taken f t w) ≡ taken f t (over w)
  over-taken f t w known = queues_agree (over w) (over (taken f t w)).queue (taken f t (over w)).queue
      (λ x y. go x y (with_older ns y) refl (x == f) (y == t) refl)
    where
      drop-map : (ls : List Letter) → map letter_of (drop 1 ls) ≡ drop 1 (map letter_of ls)
      drop-map [] = refl
      drop-map (l ∷ ls) = refl

      go : (x y : ℕ) (b : Bool) → with_older ns y ≡ b → (p q : Bool) → (y == t) ≡ q
          → (if b then map letter_of (if p && q then drop 1 (w.queue x y) else w.queue x y) else down_of (w.closed x) y)
          ≡ (if p && q then drop 1 (if b then map letter_of (w.queue x y) else down_of (w.closed x) y)
          else (if b then map letter_of (w.queue x y) else down_of (w.closed x) y))
      go x y true e true true i = drop-map (w.queue x y)
      go x y true e true false i = refl
      go x y true e false q i = refl
      go x y false e true true i = cc (e, ap (with_older ns) (eqb-true y t i), known)
      go x y false e true false i = refl
      go x y false e false q i = refl

  -- One leaves, which says so to nodes that have started, and then is closed out: it comes to the same as where it says so to all that
  -- haven't, too
  pub over-left : (a : ℕ) (ss : List (ℕ × Letter)) (us : List Send) (w : Links Letter)
      → with_older ns a ≡ true → w.closed a ≡ false
      → ((t : ℕ) → with_older ns t ≡ false → w.closed t ≡ false)
      → ((t : ℕ) → with_older ns t ≡ true → w.closed t ≡ false → (t ≡ a → ⊥) → sent_to t (map send_of ss) ≡ sent_to t us)
      → ((t : ℕ) → with_older ns t ≡ false → sent_to t us ≡ down_of true t)
      → over (closed_out a (posted a (λ t. letters_to t ss) w)) ≡ closed_out a (posted a (λ t. sent_to t us) (over w))
  over-left a ss us w known up runs same downs = queues_agree
      (record (over w) { closed = λ x. if x == a then true else w.closed x })
      (over (closed_out a (posted a (λ t. letters_to t ss) w))).queue
      (closed_out a (posted a (λ t. sent_to t us) (over w))).queue
      (λ x y. by_test a (λ y t. (if with_older ns y then map letter_of (if t then [] else (if (x == a) && not (w.closed y) then w.queue x y ++ letters_to y ss else w.queue x y))
      else down_of (if x == a then true else w.closed x) y)
      ≡ (if t then [] else (if (x == a) && not (w.closed y) then before x y ++ sent_to y us else before x y)))
      (ap (λ (b : Bool). if b then [] else down_of (if x == a then true else w.closed x) a) known)
      (λ y ne. go x y ne (with_older ns y) refl (x == a) refl (w.closed y) refl) y)
    where
      before : ℕ → ℕ → List AnyLetter
      before x y = if with_older ns y then map letter_of (w.queue x y) else down_of (w.closed x) y

      go : (x y : ℕ) → (y ≡ a → ⊥) → (b : Bool) → with_older ns y ≡ b → (p : Bool) → (x == a) ≡ p → (d : Bool) → w.closed y ≡ d
          → (if b then map letter_of (if p && not d then w.queue x y ++ letters_to y ss else w.queue x y)
          else down_of (if p then true else w.closed x) y)
          ≡ (if p && not d then (if b then map letter_of (w.queue x y) else down_of (w.closed x) y) ++ sent_to y us
          else (if b then map letter_of (w.queue x y) else down_of (w.closed x) y))
      go x y ne true e true i false q = map-append letter_of (w.queue x y) (letters_to y ss)
          ∙ ap (λ (ls : List AnyLetter). map letter_of (w.queue x y) ++ ls) (sent_to-map y ss ∙ same y e q ne)
      go x y ne true e true i true q = refl
      go x y ne true e false i d q = refl
      go x y ne false e true i false q = sym (ap (λ (ls : List AnyLetter). ls ++ sent_to y us) nothing ∙ downs y e)
        where
          gone : w.closed x ≡ false
          gone = ap w.closed (eqb-true x a i) ∙ up

          nothing : down_of (w.closed x) y ≡ []
          nothing = ap (λ (b : Bool). down_of b y) gone ∙ none (in_world O y)
            where
              none : (b : Bool) → (if b && false then AnyLetter.Down ∷ [] else []) ≡ []
              none true = refl
              none false = refl
      go x y ne false e true i true q = cc (runs y e, q)
      go x y ne false e false i d q = refl

-- the links between all creations are such ones
pub all_links-over : (O : Opening) (m : Mailed) → all_links O m ≡ over O m.nodes (links_of m)
all_links-over O m = go m.unsent
  where
    go : (u : Option Unsent) → record {
      queue = λ f t. if with_older m.nodes t then map letter_of ((with_unsent u (on_links m)).queue f t)
          else down_of O m.nodes (with_older m.departed f) t;
      closed = with_older m.departed;
    } ≡ over O m.nodes (with_unsent u (on_links m))
    go None = refl
    go (Some u) = refl

-- who is closed out has left
pub closed_is : (m : Mailed) → (links_of m).closed ≡ with_older m.departed
closed_is m = go m.unsent
  where
    go : (u : Option Unsent) → (with_unsent u (on_links m)).closed ≡ with_older m.departed
    go None = refl
    go (Some u) = refl
