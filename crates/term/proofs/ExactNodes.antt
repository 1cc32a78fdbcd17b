-- Sets of names of nodes are spelled and refused exactly.
use Rattle.std.proofs.Common.{◌≡◌, ℕ, suc, zero, ◌<◌, ◌≤◌, ◌==◌, ◌||◌, ◌⊎◌, inl, inr, List, [], ◌∷◌, length, Bool, true, false, arith, subst, sym, ◌∙◌, ap, refl, get_or, take}
use Rattle.std.proofs.Math.Bool.{or_comm}
use Rattle.std.proofs.lemmas.Bool.{cases_lt, eq-eqb, eqb-true}
use Rattle.std.proofs.lemmas.List.{get_or-take, length-take-le, get_or_default}
use Rattle.std.proofs.lemmas.List.Elements.{All-nil, All-cons}
use Rattle.std.proofs.lemmas.List.Folds.{Any-from_list_any, list_any_at}
use Rattle.std.proofs.lemmas.List.Splits.{length-slice_split}
use Rattle.std.proofs.lemmas.Slice.Zip.{AllZip-long}
use Rattle.std.specs.List.{All, AllZip}
use Rattle.std.specs.List.Sorted.{IsStrictlyIncreasing}
use Rattle.term.specs.declared.faults.TextFault.{TextFault}
use Rattle.term.specs.declared.faults.TextFault.TheVariants.{Empty, TooLong, BadByte, BadCreation, BadSerial, BadRule, TooManyNodes}
use Rattle.term.specs.Laws.{IsDecided}
use Rattle.term.specs.NodeLists.{ListsNodes, SpellsNodes, RefusesPart, RefusesNodes, ListsTooMany, parts_of, comma, list_of}
use Rattle.term.specs.NodeSets.{set_of, with_node}
use Rattle.term.specs.declared.limits.TheConstants.{MOST_NODES}
use Rattle.term.specs.Nodes.{IsFirst}
use Rattle.term.specs.Spelling.{IsText, SpellsNodeName, RefusesText, name_bytes}
use Rattle.term.proofs.ExactTexts as texts
use Rattle.term.proofs.NodeLists.{rising-tail, rising-with_node, refused-nodes}
use Rattle.term.proofs.NodeSets.{rises, set_of-with_node}
use Rattle.term.proofs.NodeTexts.{IsName, list_of-spells}
use Rattle.term.proofs.OneNode.{exact_node_names, name-first, name_bytes-spells}

-- what the first of rising nodes is below, and what it is not above
pub above_first : (x : ℕ) (xs : List ℕ) (c : ℕ) → IsStrictlyIncreasing (x ∷ xs) → set_of xs c ≡ true → x < c
above_first x xs c up held =
    let found = Any-from_list_any (λ m. m == c) xs held in
    let at : get_or xs found.0 0 ≡ c = get_or_default xs found.0 0 found.1 found.2
    ∙ (found.3 ∙ eqb-true found.1 c found.4) in
    omega (arith, rises (x ∷ xs) 0 (suc found.0) up (omega arith) (omega (arith, found.2)), at)

pub first_least : (x : ℕ) (xs : List ℕ) (c : ℕ) → IsStrictlyIncreasing (x ∷ xs) → set_of (x ∷ xs) c ≡ true → x ≤ c
first_least x xs c up held = tested (x == c) refl
  where
    tested : (t : Bool) → (x == c) ≡ t → x ≤ c
    tested true e = omega (arith, eqb-true x c e)
    tested false e = omega (arith, above_first x xs c up (rw e at held))

-- the first is in the set
pub holds_first : (x : ℕ) (xs : List ℕ) → set_of (x ∷ xs) x ≡ true
holds_first x xs = rw (eq-eqb x x refl) refl

-- a test that is not true is false
not_true : (b : Bool) → (b ≡ true → ⊥) → b ≡ false
not_true true h = absurd (h refl)
not_true false h = refl

-- rising lists that hold the same are the same
pub rising-unique : (xs ys : List ℕ) → IsStrictlyIncreasing xs → IsStrictlyIncreasing ys
    → ((c : ℕ) → set_of xs c ≡ set_of ys c) → xs ≡ ys
rising-unique [] [] up rise same = refl
rising-unique [] (y ∷ ys) up rise same = absurd (cc (same y, holds_first y ys))
rising-unique (x ∷ xs) [] up rise same = absurd (cc (same x, holds_first x xs))
rising-unique (x ∷ xs) (y ∷ ys) up rise same =
    rw (first) (ap (λ (zs : List ℕ). y ∷ zs) (rising-unique xs ys (rising-tail x xs up) (rising-tail y ys rise) others))
  where
    first : x ≡ y
    first =
        let low = first_least x xs y up (same y ∙ holds_first y ys) in
        let high = first_least y ys x rise (sym (same x) ∙ holds_first x xs) in
        omega (arith, low, high)

    others : (c : ℕ) → set_of xs c ≡ set_of ys c
    others c = tested (x == c) refl
      where
        tested : (t : Bool) → (x == c) ≡ t → set_of xs c ≡ set_of ys c
        tested true e =
            let here = eqb-true x c e in
            not_true (set_of xs c) (λ h. omega (arith, above_first x xs c up h, here))
            ∙ sym (not_true (set_of ys c) (λ h. omega (arith, above_first y ys c rise h, here, first)))
        tested false e =
            let elsewhere : (y == c) ≡ false = rw (← first) e in
            rw (e, elsewhere) at (same c)

-- the names that parts spell are one list
names-unique : (parts : List (List ℕ)) (xs ys : List ℕ) → AllZip SpellsNodeName parts xs → AllZip SpellsNodeName parts ys → xs
    ≡ ys
names-unique [] [] [] s u = refl
names-unique [] [] (y ∷ ys) s u = absurd u
names-unique [] (x ∷ xs) ys s u = absurd s
names-unique (p ∷ ps) [] ys s u = absurd s
names-unique (p ∷ ps) (x ∷ xs) [] s u = absurd u
names-unique (p ∷ ps) (x ∷ xs) (y ∷ ys) s u =
    let first = exact_node_names.one_value p x y s.0 u.0 in
    let rest = names-unique ps xs ys s.1 u.1 in
    cc

-- a text lists one set of nodes
lists-unique : (bytes xs ys : List ℕ) → ListsNodes bytes xs → ListsNodes bytes ys → xs ≡ ys
lists-unique bytes xs ys s u =
    let names = names-unique (parts_of bytes) s.names u.names s.spelled u.spelled in
    rising-unique xs ys s.rising u.rising (λ c. s.named c ∙ (ap (λ (zs : List ℕ). set_of zs c) names ∙ sym (u.named c)))

-- the part at a place spells the name there
spelled-at : (parts : List (List ℕ)) (names : List ℕ) (k : ℕ) → AllZip SpellsNodeName parts names → k < length parts
    → SpellsNodeName (get_or parts k []) (get_or names k 0)
spelled-at [] names k s inside = absurd (omega arith)
spelled-at (p ∷ ps) [] k s inside = absurd s
spelled-at (p ∷ ps) (x ∷ xs) zero s inside = s.0
spelled-at (p ∷ ps) (x ∷ xs) (suc k) s inside = spelled-at ps xs k s.1 (omega arith)

-- a text that lists nodes has no part that is refused
never_refused : (bytes nodes : List ℕ) (f : TextFault) → ListsNodes bytes nodes → RefusesPart bytes f → ⊥
never_refused bytes nodes f s r =
    exact_node_names.never_both (get_or (parts_of bytes) r.place []) (get_or s.names r.place 0) f
    (spelled-at (parts_of bytes) s.names r.place s.spelled r.inside) r.refused

-- a text is refused for its first part that is no name, or for too many nodes
node-refused : (bytes : List ℕ) (f : TextFault) → RefusesNodes bytes f → (ListsTooMany bytes × (f ≡ TooManyNodes))
    ⊎ RefusesPart bytes f
node-refused bytes TooManyNodes r = inl (r, refl)
node-refused bytes Empty r = inr r
node-refused bytes TooLong r = inr r
node-refused bytes (BadByte p) r = inr r
node-refused bytes BadCreation r = absurd r
node-refused bytes BadSerial r = absurd r
node-refused bytes BadRule r = absurd r

-- a text that spells a set is refused for no fault
never_both : (bytes nodes : List ℕ) (f : TextFault) → SpellsNodes bytes nodes → RefusesNodes bytes f → ⊥
never_both bytes nodes f s r =
    elim (node-refused bytes f r) [
      | inl a ↦ omega (arith, s.fits, a.0.over, ap length (lists-unique bytes nodes a.0.nodes s.listed a.0.listed))
      | inr b ↦ never_refused bytes nodes f s.listed b
    ]

-- no part before the first that is no name is refused
refused-below : (bytes : List ℕ) (f g : TextFault) (r : RefusesPart bytes f) (t : RefusesPart bytes g)
    → r.place < t.place → ⊥
refused-below bytes f g r t below =
    let long : length (take t.place (parts_of bytes))
    ≡ t.place = length-take-le t.place (parts_of bytes) (omega (arith, t.inside)) in
    let text : IsText (get_or (take t.place (parts_of bytes)) r.place []) = t.before r.place []
    (omega (arith, below, long)) in
    texts.text-refused (get_or (parts_of bytes) r.place []) f
    (subst IsText (get_or-take t.place (parts_of bytes) r.place [] below) text) r.refused

one_part : (bytes : List ℕ) (f g : TextFault) → RefusesPart bytes f → RefusesPart bytes g → f ≡ g
one_part bytes f g r t =
    elim (cases_lt r.place t.place) [
      | inl below ↦ absurd (refused-below bytes f g r t below)
      | inr not_below ↦ elim (cases_lt t.place r.place) [
        | inl above ↦ absurd (refused-below bytes g f t r above)
        | inr not_above ↦
            let same : t.place ≡ r.place = omega arith in
            texts.one_fault (get_or (parts_of bytes) r.place []) f g r.refused
            (subst (λ (k : ℕ). RefusesText (get_or (parts_of bytes) k []) g) same t.refused)
      ]
    ]

-- a text is refused for one fault
one_fault : (bytes : List ℕ) (f g : TextFault) → RefusesNodes bytes f → RefusesNodes bytes g → f ≡ g
one_fault bytes f g r t =
    elim (node-refused bytes f r) [
      | inl a ↦ elim (node-refused bytes g t) [
        | inl b ↦ a.1 ∙ sym b.1
        | inr y ↦ absurd (never_refused bytes a.0.nodes g a.0.listed y)
      ]
      | inr x ↦ elim (node-refused bytes g t) [
        | inl b ↦ absurd (never_refused bytes b.0.nodes f b.0.listed x)
        | inr y ↦ one_part bytes f g x y
      ]
    ]

-- a part is refused, and those before it are texts
record RefusedAmong (parts : List (List ℕ)) : Type 0 where
  place : ℕ
  inside : place < length parts
  before : All IsText (take place parts)
  fault : TextFault
  refused : RefusesText (get_or parts place []) fault

-- parts spell names, or the first that spells none is refused
names-search : (parts : List (List ℕ)) → ((names : List ℕ) × AllZip SpellsNodeName parts names) ⊎ RefusedAmong parts
names-search [] = inl ([], tt)
names-search (p ∷ ps) =
    elim (exact_node_names.always_either p) [
      | inr refused ↦ inr (record {
        place = 0;
        inside = omega arith;
        before = All-nil IsText;
        fault = refused.0;
        refused = refused.1;
      })
      | inl name ↦ elim (names-search ps) [
        | inl names ↦ inl (name.0 ∷ names.0, (name.1, names.1))
        | inr r ↦ inr (record {
          place = suc r.place;
          inside = omega (arith, r.inside);
          before = All-cons IsText p (take r.place ps) name.1.text r.before;
          fault = r.fault;
          refused = r.refused;
        })
      ]
    ]

-- the rising list of the names
sorted-names : (names : List ℕ) → (nodes : List ℕ) × IsStrictlyIncreasing nodes
    × ((c : ℕ) → set_of nodes c ≡ set_of names c)
sorted-names [] = ([], (λ k h. absurd (omega arith)), λ c. refl)
sorted-names (x ∷ xs) =
    let rest = sorted-names xs in (
      with_node rest.0 x,
      rising-with_node rest.0 x rest.1,
      λ c. set_of-with_node rest.0 x c ∙ (ap (λ (b : Bool). b || (x == c)) (rest.2 c) ∙ or_comm (set_of xs c) (x == c)),
    )

-- a text spells a set or is refused
always_either : (bytes : List ℕ) → ((nodes : List ℕ) × SpellsNodes bytes nodes)
    ⊎ ((f : TextFault) × RefusesNodes bytes f)
always_either bytes =
    elim (names-search (parts_of bytes)) [
      | inr r ↦ inr (
        r.fault,
        refused-nodes bytes r.fault (record {
          place = r.place;
          inside = r.inside;
          before = r.before;
          refused = r.refused;
        }),
      )
      | inl names ↦ listed names.0 names.1 (sorted-names names.0)
    ]
  where
    listed : (names : List ℕ) → AllZip SpellsNodeName (parts_of bytes) names
        → (nodes : List ℕ) × IsStrictlyIncreasing nodes × ((c : ℕ) → set_of nodes c ≡ set_of names c)
        → ((nodes : List ℕ) × SpellsNodes bytes nodes) ⊎ ((f : TextFault) × RefusesNodes bytes f)
    listed names spelled sorted =
        let lists : ListsNodes bytes sorted.0 =
        record { names = names; spelled = spelled; rising = sorted.1; named = sorted.2 } in
        elim (cases_lt MOST_NODES (length sorted.0)) [
          | inl over ↦ inr (TooManyNodes, record { nodes = sorted.0; listed = lists; over = over })
          | inr fits ↦ inl (sorted.0, record { listed = lists; fits = fits })
        ]

-- sets are spelled, and texts refused, for one reason each
pub decided_nodes : IsDecided SpellsNodes RefusesNodes
decided_nodes = record {
  one_value = λ bytes v w s u. lists-unique bytes v w s.listed u.listed;
  one_fault = one_fault;
  never_both = never_both;
  always_either = always_either;
}

-- the nodes of a spelled set are names
spelled-name : (parts : List (List ℕ)) (names : List ℕ) (c : ℕ) → AllZip SpellsNodeName parts names → set_of names c ≡ true
    → IsName c
spelled-name parts names c s held =
    let found = Any-from_list_any (λ m. m == c) names held in
    let at : get_or names found.0 0 ≡ c =
    get_or_default names found.0 0 found.1 found.2 ∙ (found.3 ∙ eqb-true found.1 c found.4) in
    let part = spelled-at parts names found.0 s (omega (arith, found.2, AllZip-long SpellsNodeName parts names s)) in
    subst IsName at
    (subst (λ (bs : List ℕ). SpellsNodeName bs (get_or names found.0 0))
    (sym (name_bytes-spells (get_or parts found.0 []) (get_or names found.0 0) part)) part)

-- a set that holds a node has one
some_node : (nodes : List ℕ) (c : ℕ) → set_of nodes c ≡ true → 0 < length nodes
some_node [] c h = cc
some_node (x ∷ xs) c h = omega arith

-- a text that spells a set names a node
pub spelled_some : (bytes nodes : List ℕ) → SpellsNodes bytes nodes → 0 < length nodes
spelled_some bytes nodes s = some_node nodes first held
  where
    first : ℕ
    first = get_or s.listed.names 0 0

    held : set_of nodes first ≡ true
    held =
        let some : 0 < length s.listed.names =
        omega (
          arith,
          length-slice_split (λ b. b == comma) bytes,
          AllZip-long SpellsNodeName (parts_of bytes) s.listed.names s.listed.spelled,
        ) in
        s.listed.named first ∙ list_any_at (λ m. m == first) s.listed.names 0 0 some (eq-eqb first first refl)

-- each node of it is the name that it spells
named-nodes : (bytes nodes : List ℕ) → SpellsNodes bytes nodes → All IsName nodes
named-nodes bytes nodes s = λ k d inside.
    spelled-name (parts_of bytes) s.listed.names (get_or nodes k d) s.listed.spelled
    (sym (s.listed.named (get_or nodes k d))
    ∙ list_any_at (λ m. m == get_or nodes k d) nodes k d inside (eq-eqb (get_or nodes k d) (get_or nodes k d) refl))

-- and the first node of it
pub spelled_first : (bytes nodes : List ℕ) → SpellsNodes bytes nodes → All IsFirst nodes
spelled_first bytes nodes s = λ k d inside.
    name-first (name_bytes (get_or nodes k d)) (get_or nodes k d) (named-nodes bytes nodes s k d inside)

-- a set that a text spells is spelled by the text that it is printed as
pub printed_nodes : (bytes nodes : List ℕ) → SpellsNodes bytes nodes → SpellsNodes (list_of nodes) nodes
printed_nodes bytes nodes s =
    list_of-spells nodes (spelled_some bytes nodes s) (record { rising = s.listed.rising; fits = s.fits })
    (named-nodes bytes nodes s)
