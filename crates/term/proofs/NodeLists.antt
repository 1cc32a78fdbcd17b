-- Lists of nodes: what has been read of a text, and what a printed set is read as.
use Rattle.std.proofs.Common.{◌≡◌, ℕ, suc, ◌+◌, ◌<◌, ◌≤◌, ◌==◌, ◌||◌, ◌⊎◌, inl, inr, List, [], ◌∷◌, ◌++◌, length, Bool, true, false, not, zero, get_or, arith, subst, sym, ◌∙◌, ap, refl, take, Option, Some, None, Result, Ok, Err, MatchResult, append-nil, append_assoc, length-append}
use Rattle.std.proofs.Math.Bool.{or-false}
use Rattle.std.proofs.Math.Seq.{take-append_seam, get_or-append_seam}
use Rattle.std.proofs.lemmas.Bool.{cases_lt}
use Rattle.std.proofs.lemmas.Iterator.{YieldsList}
use Rattle.std.proofs.lemmas.List.Edits.{length-insert}
use Rattle.std.proofs.lemmas.List.Elements.{All-nil, All-cons}
use Rattle.std.proofs.lemmas.List.Folds.{list_any-append}
use Rattle.std.proofs.lemmas.Slice.Zip.{all_zipped_more}
use Rattle.std.specs.Bool.{MatchBool}
use Rattle.std.specs.List.{All, AllZip}
use Rattle.std.specs.List.Sorted.{IsStrictlyIncreasing}
use Rattle.std.specs.Result.{is_err}
use Rattle.term.specs.declared.faults.TextFault.{TextFault}
use Rattle.term.specs.declared.faults.TextFault.TheVariants.{Empty, TooLong, BadByte, BadCreation, BadSerial, BadRule, TooManyNodes}
use Rattle.term.specs.NodeLists.{ListsNodes, SpellsNodes, RefusesPart, RefusesNodes, ListsTooMany, parts_of}
use Rattle.term.specs.NodeSets.{IsNodeSet, HasNoRoom, set_of, with_node}
use Rattle.term.specs.declared.limits.TheConstants.{MOST_NODES}
use Rattle.term.specs.Spelling.{IsText, SpellsNodeName, RefusesText}
use Rattle.term.proofs.NodeSets.{StandsAt, FitsAt, rises, never_falls, with_node-there, with_node-fits, set_of-there, set_of-with_node, rising-insert}

-- the nodes behind the first rise too
pub rising-tail : (x : ℕ) (xs : List ℕ) → IsStrictlyIncreasing (x ∷ xs) → IsStrictlyIncreasing xs
rising-tail x xs up k inside = rises (x ∷ xs) (suc k) (suc (k + 1)) up (omega arith) (omega (arith, inside))

-- each node stands among rising nodes, or would stand there
pub placed : (xs : List ℕ) (c : ℕ) → IsStrictlyIncreasing xs → ((i : ℕ) × StandsAt xs i c) ⊎ ((i : ℕ) × FitsAt xs i c)
placed [] c up = inr (
  0,
  record {
    inside = omega arith;
    before = λ k h. absurd (omega arith);
    behind = λ k h l. absurd (omega arith);
  },
)
placed (x ∷ xs) c up =
    elim (cases_lt c x) [
      | inl below ↦ inr (
        0,
        record {
          inside = omega arith;
          before = λ k h. absurd (omega arith);
          behind = λ k h l. omega (arith, below, never_falls (x ∷ xs) up 0 k (omega arith) l);
        },
      )
      | inr not_below ↦ elim (cases_lt x c) [
        | inr not_above ↦ inl (0, record { inside = omega arith; is = omega arith })
        | inl above ↦ elim (placed xs c (rising-tail x xs up)) [
          | inl there ↦ inl (suc there.0, record { inside = omega (arith, there.1.inside); is = there.1.is })
          | inr fits ↦ inr (suc fits.0, behind_first above fits.0 fits.1)
        ]
      ]
    ]
  where
    behind_first : x < c → (i : ℕ) → FitsAt xs i c → FitsAt (x ∷ xs) (suc i) c
    behind_first above i fits = record {
      inside = omega (arith, fits.inside);
      before = before;
      behind = behind;
    }
      where
        before : (k : ℕ) → k < suc i → get_or (x ∷ xs) k 0 < c
        before zero h = above
        before (suc k) h = fits.before k (omega arith)

        behind : (k : ℕ) → suc i ≤ k → k < length (x ∷ xs) → c < get_or (x ∷ xs) k 0
        behind zero h l = absurd (omega arith)
        behind (suc k) h l = fits.behind k (omega arith) (omega arith)

-- rising nodes rise with one more, and are not fewer
pub rising-with_node : (xs : List ℕ) (c : ℕ) → IsStrictlyIncreasing xs → IsStrictlyIncreasing (with_node xs c)
rising-with_node xs c up =
    elim (placed xs c up) [
      | inl there ↦ subst IsStrictlyIncreasing (sym (with_node-there xs there.0 c up there.1)) up
      | inr fits ↦ subst IsStrictlyIncreasing (with_node-fits xs fits.0 c fits.1) (rising-insert xs fits.0 c up fits.1)
    ]

long-with_node : (xs : List ℕ) (c : ℕ) → IsStrictlyIncreasing xs → length xs ≤ length (with_node xs c)
long-with_node xs c up =
    elim (placed xs c up) [
      | inl there ↦ omega (arith, ap length (with_node-there xs there.0 c up there.1))
      | inr fits ↦ omega (arith, ap length (with_node-fits xs fits.0 c fits.1), length-insert xs fits.0 c fits.1.inside)
    ]

pub longer-with_node : (xs : List ℕ) (c : ℕ) → IsStrictlyIncreasing xs → set_of xs c ≡ false
    → length xs < length (with_node xs c)
longer-with_node xs c up none =
    elim (placed xs c up) [
      | inl there ↦ absurd (cc (set_of-there xs there.0 c there.1, none))
      | inr fits ↦ omega (arith, ap length (with_node-fits xs fits.0 c fits.1), length-insert xs fits.0 c fits.1.inside)
    ]

-- what has been read: the parts in front, each of which spells a node, and the nodes that they spell, all of them while a set holds them
pub record HasRead {S A : Type 0} (Spells : List ℕ → ℕ → Type 0) (steps : S → Option A → S → Type 0) (v : A → List ℕ) (bytes : List ℕ)
    (s : S) (nodes : List ℕ) (is_over : Bool) : Type 0 where
  pub done : List (List ℕ)
  pub left : List (List ℕ)
  pub parts : parts_of bytes ≡ done ++ left
  pub yields : YieldsList steps v s left
  pub names : List ℕ
  pub spelled : AllZip Spells done names
  pub all : List ℕ
  pub rising : IsStrictlyIncreasing all
  pub named : (c : ℕ) → set_of all c ≡ set_of names c
  pub kept : MatchBool is_over (MOST_NODES < length all) (nodes ≡ all)
  pub set : IsNodeSet nodes

-- a set with no node
pub empty_set : (nodes : List ℕ) → nodes ≡ [] → IsNodeSet nodes
empty_set nodes e =
    subst IsNodeSet (sym e) (record { rising = λ k h. absurd (omega arith); fits = omega arith })

-- at first nothing is read
pub read_none : {S A : Type 0} (Spells : List ℕ → ℕ → Type 0) (steps : S → Option A → S → Type 0) (v : A → List ℕ) (bytes : List ℕ)
    (s : S) (nodes : List ℕ)
    → YieldsList steps v s (parts_of bytes) → nodes ≡ [] → HasRead Spells steps v bytes s nodes false
read_none Spells steps v bytes s nodes yields none = record {
  done = [];
  left = parts_of bytes;
  parts = refl;
  yields = yields;
  names = [];
  spelled = tt;
  all = [];
  rising = λ k h. absurd (omega arith);
  named = λ c. refl;
  kept = none;
  set = empty_set nodes none;
}

-- the part that comes is the first of those left, and where none comes none is left
pub next_part : {S A : Type 0} (steps : S → Option A → S → Type 0) (v : A → List ℕ) (s t : S) (x : A) (left : List (List ℕ))
    → YieldsList steps v s left → steps s (Some x) t
    → (rest : List (List ℕ)) × (left ≡ v x ∷ rest) × YieldsList steps v t rest
next_part steps v s t x [] y step = absurd (y.runs x t step)
next_part steps v s t x (z ∷ zs) y step =
    let e = y.runs.1 x t step in (zs, ap (λ (w : List ℕ). w ∷ zs) (sym e.0), record { runs = e.1 })

no_part : {S A : Type 0} (steps : S → Option A → S → Type 0) (v : A → List ℕ) (s t : S) (left : List (List ℕ))
    → YieldsList steps v s left → steps s None t → left ≡ []
no_part steps v s t [] y step = refl
no_part steps v s t (z ∷ zs) y step = absurd (y.runs.0 t step)

-- a set keeps up with the nodes named, until one has no room
kept_up : (all nodes after : List ℕ) (c : ℕ) (is_over : Bool) (r : Result Bool TextFault) → IsStrictlyIncreasing all
    → MatchBool is_over (MOST_NODES < length all) (nodes ≡ all)
    → MatchResult r (λ is_new. (after ≡ with_node nodes c) × (is_new ≡ not (set_of nodes c))) (HasNoRoom nodes c)
    → MatchBool (is_over || is_err r) (MOST_NODES < length (with_node all c)) (after ≡ with_node all c)
kept_up all nodes after c true r up over step = omega (arith, over, long-with_node all c up)
kept_up all nodes after c false (Ok is_new) up same step = step.0 ∙ ap (λ (xs : List ℕ). with_node xs c) same
kept_up all nodes after c false (Err f) up same step =
    let longer = longer-with_node all c up (subst (λ (xs : List ℕ). set_of xs c ≡ false) same step.other) in
    omega (arith, longer, step.full, ap length same)

-- a list of nodes and the set of them hold the same with one more
pub set_of-more : (all names : List ℕ) (c : ℕ) → ((d : ℕ) → set_of all d ≡ set_of names d)
    → (d : ℕ) → set_of (with_node all c) d ≡ set_of (names ++ c ∷ []) d
set_of-more all names c named d = set_of-with_node all c d
    ∙ (ap (λ (b : Bool). b || (c == d)) (named d)
    ∙ (ap (λ (b : Bool). set_of names d || b) (sym (or-false (c == d)))
    ∙ sym (list_any-append (λ m. m == d) names (c ∷ []))))

-- one more part is read
pub read_more : {S A : Type 0} (Spells : List ℕ → ℕ → Type 0) (steps : S → Option A → S → Type 0) (v : A → List ℕ) (bytes : List ℕ)
    (s t : S) (x : A) (c : ℕ)
    (nodes after : List ℕ) (is_over : Bool) (r : Result Bool TextFault) → HasRead Spells steps v bytes s nodes is_over
    → steps s (Some x) t → Spells (v x) c
    → MatchResult r (λ is_new. (after ≡ with_node nodes c) × (is_new ≡ not (set_of nodes c))) (HasNoRoom nodes c)
    → IsNodeSet after → HasRead Spells steps v bytes t after (is_over || is_err r)
read_more Spells steps v bytes s t x c nodes after is_over r read step spelled inserted set =
    let next = next_part steps v s t x read.left read.yields step in record {
      done = read.done ++ v x ∷ [];
      left = next.0;
      parts = read.parts ∙ (ap (λ (ps : List (List ℕ)). read.done ++ ps) next.1
          ∙ sym (append_assoc read.done (v x ∷ []) next.0));
      yields = next.2;
      names = read.names ++ c ∷ [];
      spelled = all_zipped_more Spells read.done read.names (v x) c read.spelled spelled;
      all = with_node read.all c;
      rising = rising-with_node read.all c read.rising;
      named = set_of-more read.all read.names c read.named;
      kept = kept_up read.all nodes after c is_over r read.rising read.kept inserted;
      set = set;
    }

-- at the end each part is read
pub all_spelled : {S A : Type 0} (Spells : List ℕ → ℕ → Type 0) (steps : S → Option A → S → Type 0) (v : A → List ℕ) (bytes : List ℕ)
    (s t : S) (nodes : List ℕ) (is_over : Bool) → (read : HasRead Spells steps v bytes s nodes is_over) → steps s None t
    → AllZip Spells (parts_of bytes) read.names
all_spelled Spells steps v bytes s t nodes is_over read step =
    let none = no_part steps v s t read.left read.yields step in
    let whole : read.done ≡ parts_of bytes =
    sym (read.parts ∙ (ap (λ (ps : List (List ℕ)). read.done ++ ps) none ∙ append-nil read.done)) in
    subst (λ (ps : List (List ℕ)). AllZip Spells ps read.names) whole read.spelled

all_read : {S A : Type 0} (steps : S → Option A → S → Type 0) (v : A → List ℕ) (bytes : List ℕ) (s t : S)
    (nodes : List ℕ) (is_over : Bool) → (read : HasRead SpellsNodeName steps v bytes s nodes is_over) → steps s None t
    → ListsNodes bytes read.all
all_read steps v bytes s t nodes is_over read step = record {
  names = read.names;
  spelled = all_spelled SpellsNodeName steps v bytes s t nodes is_over read step;
  rising = read.rising;
  named = read.named;
}

pub read_set : {S A : Type 0} (steps : S → Option A → S → Type 0) (v : A → List ℕ) (bytes : List ℕ) (s t : S)
    (nodes : List ℕ)
    (is_over : Bool) → is_over ≡ false → HasRead SpellsNodeName steps v bytes s nodes is_over → steps s None t
    → SpellsNodes bytes nodes
read_set steps v bytes s t nodes true e read step = cc
read_set steps v bytes s t nodes false e read step = record {
  listed = subst (ListsNodes bytes) (sym read.kept) (all_read steps v bytes s t nodes false read step);
  fits = read.set.fits;
}

pub read_too_many : {S A : Type 0} (steps : S → Option A → S → Type 0) (v : A → List ℕ) (bytes : List ℕ) (s t : S)
    (nodes : List ℕ)
    (is_over : Bool) → is_over ≡ true → HasRead SpellsNodeName steps v bytes s nodes is_over → steps s None t → ListsTooMany bytes
read_too_many steps v bytes s t nodes false e read step = cc
read_too_many steps v bytes s t nodes true e read step = record {
  nodes = read.all;
  listed = all_read steps v bytes s t nodes true read step;
  over = read.kept;
}

-- parts that spell names are texts
spelled-texts : (parts : List (List ℕ)) (names : List ℕ) → AllZip SpellsNodeName parts names → All IsText parts
spelled-texts [] [] h = All-nil IsText
spelled-texts [] (y ∷ ys) h = absurd h
spelled-texts (x ∷ xs) [] h = absurd h
spelled-texts (x ∷ xs) (y ∷ ys) h = All-cons IsText x xs h.0.text (spelled-texts xs ys h.1)

-- a text with a part that is refused as a name is refused
pub refused-nodes : (bytes : List ℕ) (f : TextFault) → RefusesPart bytes f → RefusesNodes bytes f
refused-nodes bytes Empty r = r
refused-nodes bytes TooLong r = r
refused-nodes bytes (BadByte p) r = r
refused-nodes bytes BadCreation r = r.refused
refused-nodes bytes BadSerial r = r.refused
refused-nodes bytes BadRule r = r.refused
refused-nodes bytes TooManyNodes r = absurd r.refused

-- the part that comes is no name, and those before it are
pub read_fault : {S A : Type 0} (steps : S → Option A → S → Type 0) (v : A → List ℕ) (bytes : List ℕ) (s t : S) (x : A)
    (nodes : List ℕ) (is_over : Bool) (f : TextFault) → HasRead SpellsNodeName steps v bytes s nodes is_over → steps s (Some x) t
    → RefusesText (v x) f → RefusesNodes bytes f
read_fault steps v bytes s t x nodes is_over f read step refused =
    let next = next_part steps v s t x read.left read.yields step in
    let parts : parts_of bytes ≡ read.done ++ v x ∷ next.0 =
    read.parts ∙ ap (λ (ps : List (List ℕ)). read.done ++ ps) next.1 in
    refused-nodes bytes f (record {
      place = length read.done;
      inside = omega (arith, ap length parts, length-append read.done (v x ∷ next.0));
      before =
          subst (All IsText)
          (sym (ap (λ (ps : List (List ℕ)). take (length read.done) ps) parts
          ∙ take-append_seam read.done (v x ∷ next.0)))
          (spelled-texts read.done read.names read.spelled);
      refused =
          subst (λ (part : List ℕ). RefusesText part f)
          (sym (ap (λ (ps : List (List ℕ)). get_or ps (length read.done) []) parts
          ∙ get_or-append_seam read.done (v x) next.0 []))
          refused;
    })
