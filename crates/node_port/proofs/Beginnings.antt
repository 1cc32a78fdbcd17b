-- How a node begins: what a line says of it it says once, and where who has left fits the node, its core is whole.
use Rattle.std.proofs.Common.{ℕ, zero, suc, Bool, true, false, ◌≡◌, ◌==◌, ◌<◌, ◌≤◌, ◌+◌, ◌-◌, ◌^◌, Option, Some, None, List, [], ◌∷◌, ◌++◌, map, length, take, get_or, Result, Ok, Err, MatchResult, All, arith, inl, inr, refl, sym, ap, subst, ◌∙◌}
use Rattle.std.specs.Prelude.{codes, find, not, ◌&&◌, ◌||◌, ◌⊎◌, if◌then◌else◌}
use Rattle.std.specs.List.{AllZip, list_all}
use Rattle.std.specs.List.Sorted.{IsStrictlyIncreasing}
use Rattle.std.specs.Str.Parse.{digits_value}
use Rattle.std.proofs.lemmas.Bool.{and_from, and_parts, cases_eq, eq-eqb, eqb-true, false≢true, ne_eqb, not-true, or_cases, or_left, or_right}
use Rattle.std.proofs.Math.Bool.{and-false}
use Rattle.std.proofs.lemmas.Fmt.{digits_value-decimal}
use Rattle.std.proofs.lemmas.Grind.{take_at_read}
use Rattle.std.proofs.lemmas.List.{append_cancel_left, get_or-map, get_or-take, get_or_default, length-map, length-take-le, map-append}
use Rattle.std.proofs.lemmas.List.Elements.{All-head, All-tail}
use Rattle.std.proofs.lemmas.List.Folds.{Any-from_list_any}
use Rattle.term.specs.declared.faults.TextFault.{TextFault}
use Rattle.term.specs.NodeLists.{SpellsNodeSet, parts_of}
use Rattle.term.specs.NodeSets.{IsNodeSet, HasNoRoom, set_of, names_in, with_older, with_node}
use Rattle.term.specs.Nodes.{IsFirst, name_of, creation_of}
use Rattle.term.specs.Spelling.{SpellsNode}
use Rattle.term.proofs.ExactNodes.{rising-unique}
use Rattle.term.proofs.NodeLists.{rising-tail}
use Rattle.term.proofs.NodeSets.{rises, never_falls}
use Rattle.term.proofs.Older.{reached, reaching}
use Rattle.term.proofs.OneNode.{exact_nodes}
use Rattle.term.proofs.Serials.{digits_model}
use Rattle.term.proofs.Succeeded.{with_node-behind}
use Rattle.node_loop.specs.NodeCoreState.{HaveLeft}
use Rattle.wire_end.specs.Returning.{count_left}
use Rattle.node_port.specs.Beginnings.{Beginning, IsBeginText, IsBeginLine, IsBeginning, fits, is_one_of_each, before, present_of, or_first, world_of}
use Rattle.node_port.specs.Numbers.{SpellsNumber}
use Rattle.node_port.proofs.Cuts.{cut_once}
use Rattle.node_port.proofs.Told.{begin-cut}

-- digits spell one number
number_once : (digits : List ℕ) (m n : ℕ) → SpellsNumber digits m → SpellsNumber digits n → m ≡ n
number_once digits m n s t =
    sym (digits_value-decimal digits_model m s.high)
    ∙ (ap (digits_value 10) (sym s.written ∙ t.written) ∙ digits_value-decimal digits_model n t.high)

-- parts spell one list of nodes
named_once : (parts : List (List ℕ)) (xs ys : List ℕ) → AllZip SpellsNode parts xs → AllZip SpellsNode parts ys → xs ≡ ys
named_once [] [] [] s u = refl
named_once [] [] (y ∷ ys) s u = absurd u
named_once [] (x ∷ xs) ys s u = absurd s
named_once (p ∷ ps) [] ys s u = absurd s
named_once (p ∷ ps) (x ∷ xs) [] s u = absurd u
named_once (p ∷ ps) (x ∷ xs) (y ∷ ys) s u =
    let first = exact_nodes.one_value p x y s.0 u.0 in
    let rest = named_once ps xs ys s.1 u.1 in
    cc

-- and a text spells one set of them
set_once : (text xs ys : List ℕ) → SpellsNodeSet text xs → SpellsNodeSet text ys → xs ≡ ys
set_once text xs ys s u =
    let names = named_once (parts_of text) s.named u.named s.spelled u.spelled in
    rising-unique xs ys s.rising u.rising (λ c. s.has c ∙ (ap (λ (zs : List ℕ). set_of zs c) names ∙ sym (u.has c)))

-- so a text says once who has left, and above which stamp
begins_once : (bytes : List ℕ) (s t : ℕ) (xs ys : List ℕ) → IsBeginText bytes s xs → IsBeginText bytes t ys → (s ≡ t) × (xs ≡ ys)
begins_once bytes s t xs ys b d = (
  number_once d.digits s t (subst (λ (ds : List ℕ). SpellsNumber ds s) cuts.0 b.number) d.number,
  set_once d.list xs ys (subst (λ (l : List ℕ). SpellsNodeSet l xs) cuts.1 b.listed) d.listed,
)
  where
    front : List ℕ
    front = b.digits ++ 32 ∷ b.list

    behind : front ≡ d.digits ++ 32 ∷ d.list
    behind = append_cancel_left (codes "behind ") front (d.digits ++ 32 ∷ d.list) (sym b.is ∙ d.is)

    cuts : (b.digits ≡ d.digits) × (b.list ≡ d.list)
    cuts = cut_once front b.digits b.list d.digits d.list (begin-cut front b.digits b.list s refl b.number)
        (begin-cut front d.digits d.list t behind d.number)

module _ (node : ℕ) (names bytes : List ℕ) where
  abbrev pub NeverBegins : Type 0
  NeverBegins = (b : Beginning) → IsBeginning node names bytes b → ⊥

  -- no line says how a node begins where it says nothing of that
  pub says_nothing : ((stamp : ℕ) (left : List ℕ) → IsBeginLine bytes stamp left → ⊥) → NeverBegins
  says_nothing none b is = none is.stamp b.left is.line

  module _ (stamp : ℕ) (left : List ℕ) (line : IsBeginLine bytes stamp left) where
    same : (b : Beginning) (is : IsBeginning node names bytes b) → (stamp ≡ is.stamp) × (left ≡ b.left)
    same b is = begins_once bytes stamp is.stamp left b.left line.1 is.line.1

    -- nor where those don't fit the node
    pub unfit_begins : fits node names left ≡ false → NeverBegins
    unfit_begins e b is = false≢true (sym e ∙ (ap (fits node names) (same b is).1 ∙ is.fit))

    -- nor where no stamp is left behind so many
    pub spent_begins : 2 ^ 64 ≤ stamp + count_left left → NeverBegins
    spent_begins high b is =
        let at : stamp + count_left left ≡ b.stamp
        = ap (λ (n : ℕ). n + count_left left) (same b is).0
        ∙ (ap (λ (ds : List ℕ). is.stamp + count_left ds) (same b is).1 ∙ sym is.behind) in
        omega (arith, at, high, is.high)

    -- and else it does
    pub so_begins : (s : ℕ) → fits node names left ≡ true → s ≡ stamp + count_left left → s < 2 ^ 64
        → IsBeginning node names bytes (record { stamp = s; left = left })
    so_begins s fit behind high = record { stamp = stamp; line = line; fit = fit; behind = behind; high = high }

-- a first node's text is its own name
pub first_named : (x : ℕ) → IsFirst x → name_of x ≡ x
first_named x first = omega (arith, first)

-- a node of a list that is found has the name
found_named : (x : ℕ) (left : List ℕ) → IsFirst x → name_of (or_first x (find (λ d. name_of d == x) left)) ≡ x
found_named x [] first = first_named x first
found_named x (d ∷ ds) first = go (name_of d == x) refl (found_named x ds first)
  where
    go : (b : Bool) → (name_of d == x) ≡ b → name_of (or_first x (find (λ e. name_of e == x) ds)) ≡ x
        → name_of (or_first x (if b then Some d else find (λ e. name_of e == x) ds)) ≡ x
    go true e behind = eqb-true (name_of d) x e
    go false e behind = behind

-- the node of a name at present has that name
pub present_named : (node : ℕ) (left : List ℕ) (x : ℕ) → IsFirst x → name_of (present_of node left x) ≡ x
present_named node left x first = go (name_of node == x) refl
  where
    go : (b : Bool) → (name_of node == x) ≡ b
        → name_of (if b then node else or_first x (find (λ d. name_of d == x) left)) ≡ x
    go true e = eqb-true (name_of node) x e
    go false e = found_named x left first

-- names that rise have nodes that do
present_rises : (x y m n : ℕ) → IsFirst x → IsFirst y → x < y → name_of m ≡ x → name_of n ≡ y → m < n
present_rises x y m n first other below here there = omega (arith, first, other, below, here, there)

-- what a list is mapped to
mapped : (f : ℕ → ℕ) (xs : List ℕ) (m : ℕ) → set_of (map f xs) m ≡ true → (x : ℕ) × (set_of xs x ≡ true) × (m ≡ f x)
mapped f [] m h = absurd (false≢true h)
mapped f (x ∷ xs) m h = elim (or_cases (f x == m) (set_of (map f xs) m) h) [
  | inl here ↦ (x, or_left _ _ (eq-eqb x x refl), sym (eqb-true (f x) m here))
  | inr behind ↦ let r = mapped f xs m behind in (r.0, or_right _ _ r.1, r.2)
]

maps : (f : ℕ → ℕ) (xs : List ℕ) (x : ℕ) → set_of xs x ≡ true → set_of (map f xs) (f x) ≡ true
maps f [] x h = absurd (false≢true h)
maps f (y ∷ ys) x h = elim (or_cases (y == x) (set_of ys x) h) [
  | inl here ↦ or_left _ _ (eq-eqb (f y) (f x) (ap f (eqb-true y x here)))
  | inr behind ↦ or_right _ _ (maps f ys x behind)
]

first_in : (xs : List ℕ) → All IsFirst xs → (x : ℕ) → set_of xs x ≡ true → IsFirst x
first_in [] all x h = absurd (false≢true h)
first_in (y ∷ ys) all x h = elim (or_cases (y == x) (set_of ys x) h) [
  | inl here ↦ subst IsFirst (eqb-true y x here) (All-head IsFirst y ys all)
  | inr behind ↦ first_in ys (All-tail IsFirst y ys all) x behind
]

module _ (node : ℕ) (names left : List ℕ) (first : All IsFirst names) where
  abbrev at_present : ℕ → ℕ
  at_present x = present_of node left x

  first_at : (k : ℕ) → k < length names → IsFirst (get_or names k 0)
  first_at k inside = first k 0 inside

  pub world_rises : IsStrictlyIncreasing names → IsStrictlyIncreasing (world_of node names left)
  world_rises up k inside =
      let long : length (world_of node names left) ≡ length names = length-map names (present_of node left) in
      let low : k < length names = omega (arith, inside, long) in
      let high : k + 1 < length names = omega (arith, inside, long) in
      let here : get_or (world_of node names left) k 0 ≡ at_present (get_or names k 0) = get_or-map (present_of node left) names k 0 0 low in
      let next : get_or (world_of node names left) (k + 1) 0 ≡ at_present (get_or names (k + 1) 0)
      = get_or-map (present_of node left) names (k + 1) 0 0 high in
      let order : at_present (get_or names k 0) < at_present (get_or names (k + 1) 0)
      = present_rises (get_or names k 0) (get_or names (k + 1) 0) (at_present (get_or names k 0)) (at_present (get_or names (k + 1) 0))
      (first_at k low) (first_at (k + 1) high) (up k high)
      (present_named node left (get_or names k 0) (first_at k low))
      (present_named node left (get_or names (k + 1) 0) (first_at (k + 1) high)) in
      omega (arith, here, next, order)

  -- the node itself is, where its name is one of them
  itself : at_present (name_of node) ≡ node
  itself = ap (λ (b : Bool). if b then node else or_first (name_of node) (find (λ d. name_of d == name_of node) left))
      (eq-eqb (name_of node) (name_of node) refl)

  pub knows_itself : set_of names (name_of node) ≡ true → set_of (world_of node names left) node ≡ true
  knows_itself known = ap (set_of (world_of node names left)) (sym itself) ∙ maps at_present names (name_of node) known

-- what holds of all holds of each
each_of : (p : ℕ → Bool) (xs : List ℕ) (m : ℕ) → list_all p xs ≡ true → set_of xs m ≡ true → p m ≡ true
each_of p [] m all h = absurd (false≢true h)
each_of p (x ∷ xs) m all h =
    let parts = and_parts (p x) (list_all p xs) all in elim (or_cases (x == m) (set_of xs m) h) [
      | inl here ↦ subst (λ (n : ℕ). p n ≡ true) (eqb-true x m here) parts.0
      | inr behind ↦ each_of p xs m parts.1 behind
    ]

-- a name of one of these is among their names
named_in : (xs : List ℕ) (m x : ℕ) → set_of xs m ≡ true → name_of m ≡ x → names_in xs x ≡ true
named_in [] m x h e = absurd (false≢true h)
named_in (y ∷ ys) m x h e = elim (or_cases (y == m) (set_of ys m) h) [
  | inl here ↦ or_left _ _ (eq-eqb (name_of y) x (ap name_of (eqb-true y m here) ∙ e))
  | inr behind ↦ or_right _ _ (named_in ys m x behind e)
]

-- and one of it is found then
abbrev IsFoundIn : List ℕ → ℕ → Option ℕ → Type 0
IsFoundIn xs x r = (d : ℕ) × (r ≡ Some d) × (set_of xs d ≡ true) × (name_of d ≡ x)

found_in : (xs : List ℕ) (x : ℕ) → names_in xs x ≡ true → IsFoundIn xs x (find (λ m. name_of m == x) xs)
found_in [] x h = absurd (false≢true h)
found_in (y ∷ ys) x h = go (name_of y == x) refl h (λ k. found_in ys x k)
  where
    go : (b : Bool) → (name_of y == x) ≡ b → (b || names_in ys x) ≡ true
        → (names_in ys x ≡ true → IsFoundIn ys x (find (λ m. name_of m == x) ys))
        → IsFoundIn (y ∷ ys) x (if b then Some y else find (λ m. name_of m == x) ys)
    go true e k behind = (y, refl, or_left _ _ (eq-eqb y y refl), eqb-true (name_of y) x e)
    go false e k behind = let r = behind k in (r.0, r.1, or_right _ _ r.2, r.3)

-- and what is found is one of these
found_there : (x : ℕ) (xs : List ℕ) (d : ℕ) → find (λ m. name_of m == x) xs ≡ Some d → set_of xs d ≡ true
found_there x [] d e = absurd (cc e)
found_there x (y ∷ ys) d e = at (name_of y == x) e (λ f. found_there x ys d f)
  where
    at : (b : Bool) → (if b then Some y else find (λ m. name_of m == x) ys) ≡ Some d
        → (find (λ m. name_of m == x) ys ≡ Some d → set_of ys d ≡ true) → set_of (y ∷ ys) d ≡ true
    at true f behind = or_left _ _ (eq-eqb y d (cc f))
    at false f behind = or_right _ _ (behind f)

-- of a name there is one of these
one_each : (xs : List ℕ) → is_one_of_each xs ≡ true → (m n : ℕ) → set_of xs m ≡ true → set_of xs n ≡ true → name_of m ≡ name_of n → m ≡ n
one_each [] one m n h k e = absurd (false≢true h)
one_each (x ∷ xs) one m n h k e =
    let parts = and_parts (not (names_in xs (name_of x))) (is_one_of_each xs) one in
    by (or_cases (x == m) (set_of xs m) h) (or_cases (x == n) (set_of xs n) k) (not-true (names_in xs (name_of x)) parts.0)
    (λ i j. one_each xs parts.1 m n i j e)
  where
    by : ((x == m) ≡ true) ⊎ (set_of xs m ≡ true) → ((x == n) ≡ true) ⊎ (set_of xs n ≡ true) → names_in xs (name_of x) ≡ false
        → (set_of xs m ≡ true → set_of xs n ≡ true → m ≡ n) → m ≡ n
    by (inl i) (inl j) alone rest = sym (eqb-true x m i) ∙ eqb-true x n j
    by (inl i) (inr j) alone rest = absurd (false≢true (sym alone ∙ named_in xs n (name_of x) j (sym e ∙ ap name_of (sym (eqb-true x m i)))))
    by (inr i) (inl j) alone rest = absurd (false≢true (sym alone ∙ named_in xs m (name_of x) i (e ∙ ap name_of (sym (eqb-true x n j)))))
    by (inr i) (inr j) alone rest = rest i j

-- who has left fits the node
module _ (node : ℕ) (names left : List ℕ) (first : All IsFirst names) (fit : fits node names left ≡ true) where
  abbrev of_names : ℕ → Bool
  of_names d = set_of names (name_of d)

  abbrev fits_own : ℕ → Bool
  fits_own d = not (name_of d == name_of node) || (d + 1 == node)

  rest : (is_one_of_each left && (list_all fits_own left && list_all (λ d. set_of left d) (before node))) ≡ true
  rest = (and_parts (list_all of_names left)
      (is_one_of_each left && (list_all fits_own left && list_all (λ d. set_of left d) (before node))) fit).1

  named : (m : ℕ) → set_of left m ≡ true → set_of names (name_of m) ≡ true
  named m h = each_of of_names left m (and_parts (list_all of_names left)
      (is_one_of_each left && (list_all fits_own left && list_all (λ d. set_of left d) (before node))) fit).0 h

  one : (m n : ℕ) → set_of left m ≡ true → set_of left n ≡ true → name_of m ≡ name_of n → m ≡ n
  one m n h k e = one_each left (and_parts (is_one_of_each left) (list_all fits_own left && list_all (λ d. set_of left d) (before node)) rest).0
      m n h k e

  owns : (list_all fits_own left ≡ true) × (list_all (λ d. set_of left d) (before node) ≡ true)
  owns = and_parts (list_all fits_own left) (list_all (λ d. set_of left d) (before node))
      (and_parts (is_one_of_each left) (list_all fits_own left && list_all (λ d. set_of left d) (before node)) rest).1

  -- one that has left of the node's own name is the one before it
  own_before : (m : ℕ) → set_of left m ≡ true → name_of m ≡ name_of node → m + 1 ≡ node
  own_before m h e = elim (or_cases (not (name_of m == name_of node)) (m + 1 == node) (each_of fits_own left m owns.0 h)) [
    | inl other ↦ absurd (false≢true (sym (not-true (name_of m == name_of node) other) ∙ eq-eqb (name_of m) (name_of node) e))
    | inr next ↦ eqb-true (m + 1) node next
  ]

  -- and that has left, if there is one
  before_left : (1 ≤ node - name_of node) → set_of left (node - 1) ≡ true
  before_left later = go (creation_of node == 1) refl owns.1
    where
      go : (b : Bool) → (creation_of node == 1) ≡ b → list_all (λ d. set_of left d) (if b then [] else (node - 1) ∷ []) ≡ true
          → set_of left (node - 1) ≡ true
      go true e all = let one : creation_of node ≡ 1 = eqb-true (creation_of node) 1 e in absurd (omega (arith, one, later))
      go false e all = (and_parts (set_of left (node - 1)) true all).0

  -- the node wasn't told of itself
  pub stays : with_older left node ≡ false
  stays = no (with_older left node) refl
    where
      no : (b : Bool) → with_older left node ≡ b → b ≡ false
      no true h =
          let r = reached left node h in
          let next : r.0 + 1 ≡ node = own_before r.0 r.1 r.2 in absurd (omega (arith, next, r.3))
      no false h = refl

  -- the node at present of a name of which one has left isn't older
  no_older : (m : ℕ) → set_of left m ≡ true → m ≤ present_of node left (name_of m)
  no_older m h = go (name_of node == name_of m) refl
    where
      here : find (λ d. name_of d == name_of m) left ≡ Some m
      here =
          let r = found_in left (name_of m) (named_in left m (name_of m) h refl) in
          r.1 ∙ ap (λ (d : ℕ). let o : Option ℕ = Some d in o) (one r.0 m r.2 h r.3)

      go : (b : Bool) → (name_of node == name_of m) ≡ b
          → m ≤ (if b then node else or_first (name_of m) (find (λ d. name_of d == name_of m) left))
      go true e =
          let next : m + 1 ≡ node = own_before m h (sym (eqb-true (name_of node) (name_of m) e)) in omega (arith, next)
      go false e =
          let at : or_first (name_of m) (find (λ d. name_of d == name_of m) left) ≡ m = ap (or_first (name_of m)) here in omega (arith, at)

  -- what is older than a node at present has left
  older_gone : (x c : ℕ) → IsFirst x → c < present_of node left x → name_of (present_of node left x) ≡ name_of c → with_older left c ≡ true
  older_gone x c is below named = go (name_of node == x) refl below named
    where
      by : (r : Option ℕ) → ((d : ℕ) → r ≡ Some d → set_of left d ≡ true) → c < or_first x r → name_of (or_first x r) ≡ name_of c
          → with_older left c ≡ true
      by None held low same = absurd (omega (arith, is, low, same))
      by (Some d) held low same = reaching left d c (held d refl) same (omega (arith, low))

      go : (b : Bool) → (name_of node == x) ≡ b → c < (if b then node else or_first x (find (λ d. name_of d == x) left))
          → name_of (if b then node else or_first x (find (λ d. name_of d == x) left)) ≡ name_of c → with_older left c ≡ true
      go true e low same =
          reaching left (node - 1) c (before_left (omega (arith, low, same))) (omega (arith, low, same)) (omega (arith, low))
      go false e low same = by (find (λ d. name_of d == x) left) (λ d f. found_there x left d f) low same

  pub have_left : HaveLeft (world_of node names left) left
  have_left = record {
    one = λ a b h k e.
        let p = mapped (present_of node left) names a h in
        let q = mapped (present_of node left) names b k in
        let same : p.0 ≡ q.0 = sym (called p.0 p.1) ∙ (ap name_of (sym p.2) ∙ (e ∙ (ap name_of q.2 ∙ called q.0 q.1))) in
        p.2 ∙ (ap (present_of node left) same ∙ sym q.2);
    started = λ c h.
        let r = reached left c h in
        let x = name_of r.0 in
        reaching (world_of node names left) (present_of node left x) c
        (maps (present_of node left) names x (named r.0 r.1))
        (called x (named r.0 r.1) ∙ r.2) (omega (arith, r.3, no_older r.0 r.1));
    older = λ c h out.
        let r = reached (world_of node names left) c h in
        let p = mapped (present_of node left) names r.0 r.1 in
        older_gone p.0 c (first_in names first p.0 p.1)
        (below c r.0 (present_of node left p.0) r.3 p.2 (λ e. false≢true (sym out ∙ (ap (set_of (world_of node names left)) (sym e) ∙ r.1))))
        (ap name_of (sym p.2) ∙ r.2);
  }
    where
      called : (x : ℕ) → set_of names x ≡ true → name_of (present_of node left x) ≡ x
      called x h = present_named node left x (first_in names first x h)

      below : (c m p : ℕ) → c ≤ m → m ≡ p → (m ≡ c → ⊥) → c < p
      below c m p low is ne = elim (cases_eq m c) [
        | inl same ↦ absurd (ne same)
        | inr other ↦ omega (arith, low, is, other)
      ]

-- the one before a node has left: that fits it
pub before_fits : (node : ℕ) (names : List ℕ) → set_of names (name_of node) ≡ true → fits node names (before node) ≡ true
before_fits node names known = go (creation_of node == 1) refl (before node) refl
  where
    go : (b : Bool) → (creation_of node == 1) ≡ b → (left : List ℕ) → left ≡ (if b then [] else (node - 1) ∷ [])
        → (list_all (λ d. set_of names (name_of d)) left && (is_one_of_each left
        && (list_all (λ d. not (name_of d == name_of node) || (d + 1 == node)) left && list_all (λ d. set_of left d) left))) ≡ true
    go true e left is =
        subst (λ (ds : List ℕ). (list_all (λ d. set_of names (name_of d)) ds && (is_one_of_each ds
        && (list_all (λ d. not (name_of d == name_of node) || (d + 1 == node)) ds && list_all (λ d. set_of ds d) ds))) ≡ true) (sym is) refl
    go false e left is =
        let d = node - 1 in
        let later : creation_of node ≡ 1 → ⊥ = λ one. false≢true (sym e ∙ eq-eqb (creation_of node) 1 one) in
        let same : name_of d ≡ name_of node = omega (arith, later) in
        let next : d + 1 ≡ node = omega (arith, later) in
        let of_names = list_all (λ x. set_of names (name_of x)) (d ∷ []) in
        let owns = list_all (λ x. not (name_of x == name_of node) || (x + 1 == node)) (d ∷ []) in
        let there = list_all (λ x. set_of (d ∷ []) x) (d ∷ []) in
        subst (λ (ds : List ℕ). (list_all (λ x. set_of names (name_of x)) ds && (is_one_of_each ds
        && (list_all (λ x. not (name_of x == name_of node) || (x + 1 == node)) ds && list_all (λ x. set_of ds x) ds))) ≡ true) (sym is)
        (and_from of_names (is_one_of_each (d ∷ []) && (owns && there))
        (and_from (set_of names (name_of d)) true (ap (set_of names) same ∙ known) refl)
        (and_from (is_one_of_each (d ∷ [])) (owns && there) refl
        (and_from owns there
        (and_from (not (name_of d == name_of node) || (d + 1 == node)) true
        (or_right (not (name_of d == name_of node)) (d + 1 == node) (eq-eqb (d + 1) node next)) refl)
        (and_from ((d == d) || false) true (or_left (d == d) false (eq-eqb d d refl)) refl))))

-- the node at present of a name, as the program finds it
module _ (node : ℕ) (left : List ℕ) (x : ℕ) (first : IsFirst x) where
  pub present_here : (name_of node == name_of x) ≡ true → node ≡ present_of node left x
  present_here e =
      let here : (name_of node == x) ≡ true = subst (λ (y : ℕ). (name_of node == y) ≡ true) (first_named x first) e in
      sym (ap (λ (b : Bool). if b then node else or_first x (find (λ d. name_of d == x) left)) here)

  pub present_found : (r : Option ℕ) → (name_of node == name_of x) ≡ false → find (λ d. name_of d == name_of x) left ≡ r
      → or_first x r ≡ present_of node left x
  present_found r e found =
      let other : (name_of node == x) ≡ false = subst (λ (y : ℕ). (name_of node == y) ≡ false) (first_named x first) e in
      let is : find (λ d. name_of d == x) left ≡ r
      = subst (λ (y : ℕ). find (λ d. name_of d == y) left ≡ r) (first_named x first) found in
      ap (or_first x) (sym is) ∙ sym (ap (λ (b : Bool). if b then node else or_first x (find (λ d. name_of d == x) left)) other)

-- a name at a place is that of a first node
pub first_at_place : (xs : List ℕ) (i x : ℕ) → All IsFirst xs → i < length xs → x ≡ get_or xs i x → IsFirst x
first_at_place xs i x all inside is = subst IsFirst (sym is) (all i x inside)

-- the node at present of the next name is put behind those of the names before it
module _ (node : ℕ) (left names : List ℕ) (set : IsNodeSet names) (first : All IsFirst names) where
  pub present_behind : (nodes after : List ℕ) (i x y : ℕ) (r : Result Bool TextFault) → i < length names → x ≡ get_or names i x
      → y ≡ present_of node left x → nodes ≡ map (present_of node left) (take i names)
      → MatchResult r (λ is_new. (after ≡ with_node nodes y) × (is_new ≡ not (set_of nodes y))) (HasNoRoom nodes y)
      → after ≡ map (present_of node left) (take (i + 1) names)
  present_behind nodes after i x y (Err fault) inside e is so_far h =
      let full = h.full in
      let long : length nodes ≡ i = ap length so_far ∙ length-map (take i names) (present_of node left)
      ∙ length-take-le i names (omega (arith, inside)) in
      let most = set.fits in
      absurd (omega (arith, full, long, most, inside))
  present_behind nodes after i x y (Ok is_new) inside e is so_far h =
      h.0 ∙ (with_node-behind nodes y below
      ∙ (ap (λ (ys : List ℕ). ys ++ y ∷ []) so_far
      ∙ (ap (λ (z : ℕ). map (present_of node left) (take i names) ++ z ∷ []) (is ∙ ap (present_of node left) e)
      ∙ (sym (map-append (present_of node left) (take i names) (get_or names i x ∷ []))
      ∙ ap (map (present_of node left)) (sym (take_at_read names i x inside).1)))))
    where
      here : get_or names i 0 ≡ x
      here = get_or_default names i 0 x inside ∙ sym e

      long : length (take i names) ≡ i
      long = length-take-le i names (omega (arith, inside))

      below : (k : ℕ) → k < length nodes → get_or nodes k 0 < y
      below k within =
          let before : k < i = omega (arith, within, ap length so_far, length-map (take i names) (present_of node left), long) in
          let at : get_or nodes k 0 ≡ present_of node left (get_or names k 0) =
          ap (λ (ys : List ℕ). get_or ys k 0) so_far
          ∙ (get_or-map (present_of node left) (take i names) k 0 0 (omega (arith, before, long))
          ∙ ap (present_of node left) (get_or-take i names k 0 before)) in
          let order : get_or names k 0 < x = omega (arith, rises names k i set.rising before inside, here) in
          let own : IsFirst (get_or names k 0) = first k 0 (omega (arith, before, inside)) in
          let other : IsFirst x = first_at_place names i x first inside e in
          rw (at, is)
          (present_rises (get_or names k 0) x (present_of node left (get_or names k 0)) (present_of node left x) own other order
          (present_named node left (get_or names k 0) own) (present_named node left x other))

-- whether a node that has left is the one before another, where both have one name
module _ (gone node : ℕ) where
  pub own_other : (name_of gone == name_of node) ≡ false → true ≡ (not (name_of gone == name_of node) || (gone + 1 == node))
  own_other e = sym (ap (λ (b : Bool). not b || (gone + 1 == node)) e)

  pub own_next : (older : ℕ) → (name_of gone == name_of node) ≡ true → node ≡ older + 1
      → (older == gone) ≡ (not (name_of gone == name_of node) || (gone + 1 == node))
  own_next older e is = elim (cases_eq older gone) [
    | inl same ↦ eq-eqb older gone same ∙ sym (ap (λ (b : Bool). not b || (gone + 1 == node)) e
        ∙ eq-eqb (gone + 1) node (omega (arith, same, is)))
    | inr other ↦ ne_eqb older gone other ∙ sym (ap (λ (b : Bool). not b || (gone + 1 == node)) e
        ∙ ne_eqb (gone + 1) node (λ f. other (omega (arith, f, is))))
  ]

  pub own_none : (name_of gone == name_of node) ≡ true → creation_of node ≡ 1
      → false ≡ (not (name_of gone == name_of node) || (gone + 1 == node))
  own_none e first =
      let same : name_of gone ≡ name_of node = eqb-true (name_of gone) (name_of node) e in
      sym (ap (λ (b : Bool). not b || (gone + 1 == node)) e ∙ ne_eqb (gone + 1) node (λ f. omega (arith, f, first, same)))

-- Nodes that rise have one of each name where no two that stand side by side have one name
abbrev pub AreApart : List ℕ → ℕ → Type 0
AreApart xs n = (k : ℕ) → suc k < n → name_of (get_or xs k 0) ≡ name_of (get_or xs (suc k) 0) → ⊥

none_named : (x : ℕ) (xs : List ℕ) → IsStrictlyIncreasing (x ∷ xs) → AreApart (x ∷ xs) (length (x ∷ xs)) → names_in xs (name_of x) ≡ false
none_named x xs up apart = no (names_in xs (name_of x)) refl
  where
    no : (b : Bool) → names_in xs (name_of x) ≡ b → b ≡ false
    no false h = refl
    no true h =
        let f = Any-from_list_any (λ m. name_of m == name_of x) xs h in
        let at : get_or xs f.0 0 ≡ f.1 = get_or_default xs f.0 0 f.1 f.2 ∙ f.3 in
        let named : name_of (get_or xs f.0 0) ≡ name_of x = ap name_of at ∙ eqb-true (name_of f.1) (name_of x) f.4 in
        let low : x < get_or xs 0 0 = rises (x ∷ xs) 0 1 up (omega arith) (omega (arith, f.2)) in
        let high : get_or xs 0 0 ≤ get_or xs f.0 0 = never_falls (x ∷ xs) up 1 (suc f.0) (omega arith) (omega (arith, f.2)) in
        absurd (apart 0 (omega (arith, f.2)) (omega (arith, named, low, high)))

pub all_apart : (xs : List ℕ) → IsStrictlyIncreasing xs → AreApart xs (length xs) → is_one_of_each xs ≡ true
all_apart [] up apart = refl
all_apart (x ∷ xs) up apart =
    and_from (not (names_in xs (name_of x))) (is_one_of_each xs) (ap not (none_named x xs up apart))
    (all_apart xs (rising-tail x xs up) (λ k inside. apart (suc k) (omega (arith, inside))))

pub not_apart : (xs : List ℕ) (k : ℕ) → suc k < length xs → name_of (get_or xs k 0) ≡ name_of (get_or xs (suc k) 0)
    → is_one_of_each xs ≡ false
not_apart [] k inside e = absurd (omega (arith, inside))
not_apart (x ∷ []) k inside e = absurd (omega (arith, inside))
not_apart (x ∷ y ∷ ys) zero inside e =
    ap (λ (b : Bool). not (b || names_in ys (name_of x)) && is_one_of_each (y ∷ ys)) (eq-eqb (name_of y) (name_of x) (sym e))
not_apart (x ∷ y ∷ ys) (suc k) inside e =
    ap (λ (b : Bool). not (names_in (y ∷ ys) (name_of x)) && b) (not_apart (y ∷ ys) k (omega (arith, inside)) e)
    ∙ and-false (not (names_in (y ∷ ys) (name_of x)))

-- so far, and one more pair
pub apart_more : (xs : List ℕ) (n : ℕ) → 1 ≤ n → AreApart xs n → (name_of (get_or xs (n - 1) 0) ≡ name_of (get_or xs n 0) → ⊥) → AreApart xs (n + 1)
apart_more xs n some so_far other k inside e = elim (cases_eq (suc k) n) [
  | inl here ↦
      let at : n - 1 ≡ k = omega (arith, here) in
      other (ap (λ (i : ℕ). name_of (get_or xs i 0)) at ∙ (e ∙ ap (λ (i : ℕ). name_of (get_or xs i 0)) here))
  | inr before ↦ so_far k (omega (arith, inside, before)) e
]

-- and all of them
pub apart_to_end : (xs : List ℕ) (n : ℕ) → length xs ≤ n → AreApart xs n → AreApart xs (length xs)
apart_to_end xs n most so_far k inside e = so_far k (omega (arith, inside, most)) e

-- where two that stand side by side have one name, there isn't one of each
pub pair_not_apart : (xs : List ℕ) (n x y : ℕ) → 1 ≤ n → n < length xs → x ≡ get_or xs (n - 1) x → y ≡ get_or xs n y
    → (name_of x == name_of y) ≡ true → false ≡ is_one_of_each xs
pair_not_apart xs n x y some inside here next e =
    let at : suc (n - 1) ≡ n = omega (arith, some) in
    let low : suc (n - 1) < length xs = omega (arith, some, inside) in
    let before : get_or xs (n - 1) 0 ≡ x = get_or_default xs (n - 1) 0 x (omega (arith, low)) ∙ sym here in
    let there : get_or xs (suc (n - 1)) 0 ≡ y = ap (λ (i : ℕ). get_or xs i 0) at ∙ (get_or_default xs n 0 y inside ∙ sym next) in
    sym (not_apart xs (n - 1) low (ap name_of before ∙ (eqb-true (name_of x) (name_of y) e ∙ sym (ap name_of there))))
