-- The last nodes of a name, and what is older than one of two of them, or than both.
use Rattle.std.proofs.Common.{◌≡◌, ℕ, Bool, true, false, ◌==◌, ◌≤◌, ◌+◌, ◌<◌, ◌⊎◌, List, [], ◌∷◌, length, get_or, take, refl, sym, ap, ◌∙◌, inl, inr, arith, Result, Ok, Err, MatchResult, length-append, Option, Some, None, Bor, cond}
use Rattle.std.specs.Prelude.{nat_le, nat_lt, not, ◌&&◌, ◌||◌}
use Rattle.std.specs.List.{filter}
use Rattle.std.specs.Option.{option_copied, option_to_list, option_cmp}
use Rattle.std.specs.Ordering.{is_lt, nat_cmp, ord_max, ord_min}
use Rattle.std.specs.declared.cmp.Ordering.{Ordering}
use Rattle.std.specs.declared.cmp.Ordering.TheVariants.{Less, Equal, Greater}
use Rattle.std.proofs.lemmas.Cmp.{ranked}
use Rattle.std.specs.List.Sorted.{IsStrictlyIncreasing}
use Rattle.std.proofs.Math.Bool.{or-false, and-false, and-true, and-or_distrib_right}
use Rattle.std.proofs.lemmas.Bool.{cases_eq, cases_order, lt-ltb, le-ltb, eq-eqb, ne_eqb, eqb-true, eqb-false, leb-true, and_parts, or_left}
use Rattle.std.proofs.lemmas.List.{get_or-take, get_or_default, length-take-le}
use Rattle.std.proofs.lemmas.List.Folds.{Any-from_list_any, list_any_more}
use Rattle.registry_model.specs.Process.{Nodes}
use Rattle.term.specs.declared.faults.TextFault.{TextFault}
use Rattle.term.specs.Nodes.{name_of}
use Rattle.term.specs.NodeSets.{IsNodeSet, HasNoRoom, set_of, with_node, with_older}
use Rattle.term.proofs.NodeSets.{rises, list_any-with_node}
use Rattle.term.proofs.Older.{younger, reached}

-- whether the node is another, or an older one of its name
abbrev pub older : ℕ → Nodes
older m c = (name_of m == name_of c) && nat_le c m

-- of a name, the last of the first i nodes
abbrev pub Named : List ℕ → ℕ → ℕ → List ℕ → Type 0
Named xs n i last = (c : ℕ) → with_older last c ≡ (with_older (take i xs) c && (name_of c == n))

-- what the first i nodes reach, as far as the others do, with no more than i nodes
pub record Within (xs : List ℕ) (others : Nodes) (i : ℕ) (all : List ℕ) : Type 0 where
  pub are : (c : ℕ) → with_older all c ≡ (with_older (take i xs) c && others c)
  pub fits : length all ≤ i

-- the first nodes reach what is older than one of them
older_take : (xs : List ℕ) (i x : ℕ) → i < length xs → x ≡ get_or xs i x → (c : ℕ)
    → with_older (take (i + 1) xs) c ≡ (with_older (take i xs) c || older x c)
older_take xs i x l e c =
    list_any_more (λ m. (name_of m == name_of c) && nat_le c m) xs i x l
    ∙ ap (λ (y : ℕ). with_older (take i xs) c || older y c) (sym e)

-- a node of another name is no older one
older_other : (m c : ℕ) → (name_of m ≡ name_of c → ⊥) → older m c ≡ false
older_other m c ne = rw (ne_eqb (name_of m) (name_of c) ne) refl

-- those in front of a node are below it
front_below : (xs : List ℕ) (i m : ℕ) → IsStrictlyIncreasing xs → i < length xs → set_of (take i xs) m ≡ true
    → m < get_or xs i 0
front_below xs i m up inside held =
    let found = Any-from_list_any (λ k. k == m) (take i xs) held in
    let long : length (take i xs) ≡ i = length-take-le i xs (omega (arith, inside)) in
    let before : found.0 < i = omega (arith, found.2, long) in
    let at : get_or xs found.0 0 ≡ found.1 =
    sym (get_or-take i xs found.0 0 before)
    ∙ (get_or_default (take i xs) found.0 0 found.1 found.2 ∙ found.3) in
    omega (arith, rises xs found.0 i up before inside, at, eqb-true found.1 m found.4)

-- the next node has the name, and is the last now
pub named_there : (xs : List ℕ) (n i x : ℕ) → IsStrictlyIncreasing xs → i < length xs → x ≡ get_or xs i x
    → (name_of x == n) ≡ true → Named xs n (i + 1) (x ∷ [])
named_there xs n i x up l e named c =
    or-false (older x c) ∙ by (cases_eq (name_of c) n)
    ∙ sym (ap (λ (b : Bool). b && (name_of c == n)) (older_take xs i x l e c))
  where
    absorbed : (w o : Bool) → (w ≡ true → o ≡ true) → o ≡ ((w || o) && true)
    absorbed true o h = h refl
    absorbed false true h = refl
    absorbed false false h = refl

    here : get_or xs i 0 ≡ x
    here = get_or_default xs i 0 x l ∙ sym e

    above : name_of c ≡ n → with_older (take i xs) c ≡ true → older x c ≡ true
    above same w =
        let r = reached (take i xs) c w in
        younger x c (eqb-true _ _ named ∙ sym same) (omega (arith, front_below xs i r.0 up l r.1, here, r.3))

    by : (name_of c ≡ n) ⊎ (name_of c ≡ n → ⊥)
        → older x c ≡ ((with_older (take i xs) c || older x c) && (name_of c == n))
    by (inl same) = rw (eq-eqb (name_of c) n same) (absorbed (with_older (take i xs) c) (older x c) (above same))
    by (inr unlike) =
        rw (ne_eqb (name_of c) n unlike)
        (older_other x c (λ q. unlike (sym q ∙ eqb-true _ _ named))
        ∙ sym (and-false (with_older (take i xs) c || older x c)))

-- the next node has another name
pub named_other : (xs last : List ℕ) (n i x : ℕ) → i < length xs → x ≡ get_or xs i x → (name_of x == n) ≡ false
    → Named xs n i last → Named xs n (i + 1) last
named_other xs last n i x l e other so_far c =
    so_far c ∙ by (cases_eq (name_of c) n)
    ∙ sym (ap (λ (b : Bool). b && (name_of c == n)) (older_take xs i x l e c))
  where
    by : (name_of c ≡ n) ⊎ (name_of c ≡ n → ⊥)
        → (with_older (take i xs) c && (name_of c == n)) ≡ ((with_older (take i xs) c || older x c) && (name_of c == n))
    by (inl same) =
        rw (
          older_other x c (λ q. eqb-false (name_of x) n other (q ∙ same)),
          or-false (with_older (take i xs) c),
        ) refl
    by (inr unlike) =
        rw (ne_eqb (name_of c) n unlike)
        (and-false (with_older (take i xs) c) ∙ sym (and-false (with_older (take i xs) c || older x c)))

-- of two nodes of one name, what is older than the lower one is older than the other
below_both : (m k c : ℕ) → name_of m ≡ name_of k → m ≤ k → older m c ≡ true → older k c ≡ true
below_both m k c e l h =
    let parts = and_parts (name_of m == name_of c) (nat_le c m) h in
    younger k c (sym e ∙ eqb-true _ _ parts.0) (omega (arith, leb-true c m parts.1, l))

-- of two tests, where what passes the one passes the other
both_or_right : (a b : Bool) → (a ≡ true → b ≡ true) → b ≡ (a || b)
both_or_right true b h = h refl
both_or_right false b h = refl

both_or_left : (a b : Bool) → (b ≡ true → a ≡ true) → a ≡ (a || b)
both_or_left true b h = refl
both_or_left false true h = h refl
both_or_left false false h = refl

both_and_left : (a b : Bool) → (a ≡ true → b ≡ true) → a ≡ (a && b)
both_and_left true b h = sym (h refl)
both_and_left false b h = refl

both_and_right : (a b : Bool) → (b ≡ true → a ≡ true) → b ≡ (a && b)
both_and_right true b h = refl
both_and_right false true h = sym (h refl)
both_and_right false false h = refl

-- a last node of a name has it
its_name : (n m : ℕ) (f : Nodes) → ((c : ℕ) → with_older (m ∷ []) c ≡ (f c && (name_of c == n))) → name_of m ≡ n
its_name n m f h =
    eqb-true _ _ (and_parts (f m) (name_of m == n)
    (sym (h m) ∙ or_left (older m m) false (younger m m refl (omega arith)))).1

-- the nodes that one that may be there is as young as
abbrev of_option : Option (Bor ℕ) → Nodes
of_option p = with_older (option_to_list (option_copied p))

-- one of two that may be there: the younger one where both are
abbrev younger_of : Option (Bor ℕ) → Option (Bor ℕ) → Option (Bor ℕ)
younger_of p q = ord_max (option_cmp (λ (x y : Bor ℕ). nat_cmp x.now y.now)) p q

-- the older one of two
abbrev older_of : Bor ℕ → Bor ℕ → Bor ℕ
older_of m k = ord_min (λ (x y : Bor ℕ). nat_cmp x.now y.now) m k

-- what is older than one of two nodes of a name is older than the younger one
reaches_either : (m k : Bor ℕ) (r : Ordering) → r ≡ nat_cmp k.now m.now → name_of m.now ≡ name_of k.now → (c : ℕ)
    → of_option (cond (is_lt r) (Some m) (Some k)) c ≡ (of_option (Some m) c || of_option (Some k) c)
reaches_either m k Less e same c =
    let low : k.now < m.now = ranked k.now m.now Less e in
    rw (or-false (older m.now c), or-false (older k.now c))
    (both_or_left (older m.now c) (older k.now c) (below_both k.now m.now c (sym same) (omega arith)))
reaches_either m k Equal e same c =
    let alike : k.now ≡ m.now = ranked k.now m.now Equal e in
    rw (or-false (older m.now c), or-false (older k.now c))
    (both_or_right (older m.now c) (older k.now c) (below_both m.now k.now c same (omega arith)))
reaches_either m k Greater e same c =
    let high : m.now < k.now = ranked k.now m.now Greater e in
    rw (or-false (older m.now c), or-false (older k.now c))
    (both_or_right (older m.now c) (older k.now c) (below_both m.now k.now c same (omega arith)))

-- the last of a name in either of two sets, where one has one
pub last_of_either : (n : ℕ) (f g : Nodes) (p q : Option (Bor ℕ)) → ((c : ℕ) → of_option p c ≡ (f c && (name_of c == n)))
    → ((c : ℕ) → of_option q c ≡ (g c && (name_of c == n)))
    → (c : ℕ) → of_option (younger_of p q) c ≡ ((f c || g c) && (name_of c == n))
last_of_either n f g p q first second c =
    by p q first second ∙ ap (λ (b : Bool). b || of_option q c) (first c)
    ∙ ap (λ (b : Bool). (f c && (name_of c == n)) || b) (second c) ∙ sym (and-or_distrib_right (f c) (g c) (name_of c == n))
  where
    by : (p q : Option (Bor ℕ)) → ((c : ℕ) → of_option p c ≡ (f c && (name_of c == n)))
        → ((c : ℕ) → of_option q c ≡ (g c && (name_of c == n)))
        → of_option (younger_of p q) c ≡ (of_option p c || of_option q c)
    by None None first second = refl
    by None (Some k) first second = refl
    by (Some m) None first second = sym (or-false (older m.now c || false))
    by (Some m) (Some k) first second =
        reaches_either m k (nat_cmp k.now m.now) refl (its_name n m.now f first ∙ sym (its_name n k.now g second)) c

-- what is older than both of two nodes of a name is older than the older one
reaches_both : (m k : Bor ℕ) (r : Ordering) → r ≡ nat_cmp k.now m.now → name_of m.now ≡ name_of k.now → (c : ℕ)
    → older (cond (is_lt r) k m).now c ≡ (older m.now c && older k.now c)
reaches_both m k Less e same c =
    let low : k.now < m.now = ranked k.now m.now Less e in
    both_and_right (older m.now c) (older k.now c) (below_both k.now m.now c (sym same) (omega arith))
reaches_both m k Equal e same c =
    let alike : k.now ≡ m.now = ranked k.now m.now Equal e in
    both_and_left (older m.now c) (older k.now c) (below_both m.now k.now c same (omega arith))
reaches_both m k Greater e same c =
    let high : m.now < k.now = ranked k.now m.now Greater e in
    both_and_left (older m.now c) (older k.now c) (below_both m.now k.now c same (omega arith))

-- the set grows by one node at most
one_more_at_most : (c : ℕ) (xs : List ℕ)
    → length (filter (λ m. nat_lt m c) xs) + length (filter (λ m. nat_lt c m) xs) ≤ length xs
one_more_at_most c [] = omega arith
one_more_at_most c (x ∷ xs) = elim (cases_order x c) [
  | inl e ↦ rw (le-ltb x c (omega (arith, e)), le-ltb c x (omega (arith, e))) (omega (arith, one_more_at_most c xs))
  | inr (inl less) ↦ rw (lt-ltb x c less, le-ltb c x (omega arith)) (omega (arith, one_more_at_most c xs))
  | inr (inr more) ↦ rw (le-ltb x c (omega arith), lt-ltb c x more) (omega (arith, one_more_at_most c xs))
]

-- what is older than the node is of its name
of_its_name : (x c : ℕ) → older x c ≡ true → (name_of c == name_of x) ≡ true
of_its_name x c h = eq-eqb _ _ (sym (eqb-true _ _ (and_parts (name_of x == name_of c) (nat_le c x) h).0))

-- at first there is none
pub within_none : (xs all : List ℕ) (others : Nodes) → all ≡ [] → Within xs others 0 all
within_none xs all others e = record {
  are = λ c. ap (λ (ys : List ℕ). with_older ys c) e;
  fits = omega (arith, ap length e);
}

-- no node of the name of the next one is among the others
pub none_of_name : (xs all : List ℕ) (others : Nodes) (i x : ℕ) → i < length xs → x ≡ get_or xs i x
    → ((c : ℕ) → false ≡ (others c && (name_of c == name_of x))) → Within xs others i all → Within xs others (i + 1) all
none_of_name xs all others i x l e none so_far = record {
  are = λ c. so_far.are c
      ∙ passed (with_older (take i xs) c) (others c) (name_of c == name_of x) (older x c) (none c) (of_its_name x c)
      ∙ sym (ap (λ (b : Bool). b && others c) (older_take xs i x l e c));
  fits = omega (arith, so_far.fits);
}
  where
    passed : (w f n o : Bool) → false ≡ (f && n) → (o ≡ true → n ≡ true) → (w && f) ≡ ((w || o) && f)
    passed true f n o h k = refl
    passed false true n true h k = h ∙ k refl
    passed false true n false h k = refl
    passed false false n true h k = refl
    passed false false n false h k = refl

-- the last of the name of the next one is put in, or the next one where that is older
pub put_last : (xs all after : List ℕ) (others : Nodes) (i x y : ℕ) (last node : Bor ℕ) (r : Result Bool TextFault)
    → IsNodeSet xs → i < length xs → x ≡ get_or xs i x → node.now ≡ x → y ≡ (older_of last node).now
    → ((c : ℕ) → with_older (last.now ∷ []) c ≡ (others c && (name_of c == name_of x))) → Within xs others i all
    → MatchResult r (λ is_new. (after ≡ with_node all y) × (is_new ≡ not (set_of all y))) (HasNoRoom all y)
    → Within xs others (i + 1) after
put_last xs all after others i x y last node (Err fault) set l e node_is y_is are so_far h =
    absurd (omega (arith, h.full, so_far.fits, set.fits, l))
put_last xs all after others i x y last node (Ok is_new) set l e node_is y_is are so_far h = record {
  are = λ c. ap (λ (ys : List ℕ). with_older ys c) h.0
      ∙ (list_any-with_node (λ m. (name_of m == name_of c) && nat_le c m) all y
      ∙ (ap (λ (b : Bool). b || older y c) (so_far.are c)
      ∙ (ap (λ (b : Bool). (with_older (take i xs) c && others c) || b) (shared c)
      ∙ (joined (with_older (take i xs) c) (others c) (name_of c == name_of x) (older x c) (of_its_name x c)
      ∙ sym (ap (λ (b : Bool). b && others c) (older_take xs i x l e c))))));
  fits = omega (
    arith,
    ap length h.0,
    length-append (filter (λ m. nat_lt m y) all) (y ∷ filter (λ m. nat_lt y m) all),
    one_more_at_most y all,
    so_far.fits,
  );
}
  where
    named : name_of last.now ≡ name_of node.now
    named = its_name (name_of x) last.now others are ∙ ap name_of (sym node_is)

    shared : (c : ℕ) → older y c ≡ ((others c && (name_of c == name_of x)) && older x c)
    shared c =
        ap (λ (z : ℕ). older z c) y_is ∙ reaches_both last node (nat_cmp node.now last.now) refl named c
        ∙ ap (λ (b : Bool). b && older node.now c) (sym (or-false (older last.now c)) ∙ are c)
        ∙ ap (λ (z : ℕ). (others c && (name_of c == name_of x)) && older z c) node_is

    joined : (w f n o : Bool) → (o ≡ true → n ≡ true) → ((w && f) || ((f && n) && o)) ≡ ((w || o) && f)
    joined true true n o h = refl
    joined true false n o h = refl
    joined false true true o h = sym (and-true o)
    joined false true false true h = h refl
    joined false true false false h = refl
    joined false false n true h = refl
    joined false false n false h = refl
