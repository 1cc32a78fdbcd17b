-- The nodes and the names of a world, by their lists.
use Rattle.std.proofs.Common.{ℕ, Bool, true, false, List, [], ◌∷◌, ◌++◌, ◌≡◌, ◌==◌, ◌<◌, ◌≤◌, ◌+◌, ◌/◌, refl, sym, ap, ◌∙◌, arith, get_or, inl, inr}
use Rattle.std.specs.Prelude.{All, None, nat_lt, ◌&&◌, ◌||◌, find}
use Rattle.std.proofs.Math.Path.{fun_ext}
use Rattle.std.proofs.lemmas.Bool.{cases_eq, eq-eqb, eqb-true, ne_eqb, or_left, or_right, or_cases, or_parts, and_right, lt-ltb, false≢true}
use Rattle.registry_model.specs.Process.{Nodes, nodes_of}
use Rattle.protocol_model.specs.Event.{last_u32}
use Rattle.protocol_model.specs.World.{in_world}
use Rattle.term.specs.Nodes.{IsFirst, text_in, name_of}
use Rattle.term.specs.NodeSets.{set_of, names_in, IsNodeSet}
use Rattle.boss_order.proofs.Sets.{nodes_of-set_of, set_of-item}
use Rattle.cluster_world.specs.NodeCoreState.{AreOf}
use Rattle.cluster_world.specs.NodeNames.{NamedOpening, is_name, opening_of}
use Rattle.cluster_world.specs.NamedWorld.{present_node}
use Rattle.cluster_world.specs.WorldState.{WorldState, nodes_of as nodes_in}
use Rattle.cluster_world.specs.Openings.{named_opening, name_bound, is_named_in, present_in, creation_in}
use Rattle.cluster_world.specs.Seen.{names_of, named}
use Rattle.cluster_world.specs.Starting.{Opens}
use Rattle.cluster_script.specs.Script.{opening_for}

-- two tests are one where each holds if the other does
alike : (a b : Bool) → (a ≡ true → b ≡ true) → (b ≡ true → a ≡ true) → a ≡ b
alike true b f g = sym (f refl)
alike false true f g = g refl
alike false false f g = refl

-- a node has a name that some node of a list has
named_by : (xs : List ℕ) (c x : ℕ) → set_of xs c ≡ true → text_in c ≡ x → is_named_in xs x ≡ true
named_by [] c x h e = absurd (false≢true h)
named_by (y ∷ ys) c x h e = elim (or_cases (y == c) (set_of ys c) h) [
  | inl here ↦ or_left (text_in y == x) (is_named_in ys x) (eq-eqb _ _ (ap text_in (eqb-true y c here) ∙ e))
  | inr there ↦ or_right (text_in y == x) (is_named_in ys x) (named_by ys c x there e)
]

-- and the other way round
namesake : (xs : List ℕ) (x : ℕ) → is_named_in xs x ≡ true → (c : ℕ) × (set_of xs c ≡ true) × (text_in c ≡ x)
namesake [] x h = absurd (false≢true h)
namesake (y ∷ ys) x h = elim (or_cases (text_in y == x) (is_named_in ys x) h) [
  | inl here ↦ (y, or_left (y == y) (set_of ys y) (eq-eqb y y refl), eqb-true _ _ here)
  | inr there ↦ let r = namesake ys x there in (r.0, or_right (y == r.0) (set_of ys r.0) r.1, r.2)
]

-- the names of a list are below its bound
below_names : (xs : List ℕ) (c : ℕ) → set_of xs c ≡ true → text_in c < name_bound xs
below_names [] c h = absurd (false≢true h)
below_names (x ∷ xs) c h = elim (or_cases (x == c) (set_of xs c) h) [
  | inl here ↦ let same : text_in x ≡ text_in c = ap text_in (eqb-true x c here) in omega (arith, same)
  | inr there ↦ let rest = below_names xs c there in omega (arith, rest)
]

-- which is no more than what all are below
name_bound-least : (xs : List ℕ) (n : ℕ) → ((c : ℕ) → set_of xs c ≡ true → text_in c < n) → name_bound xs ≤ n
name_bound-least [] n h = omega arith
name_bound-least (x ∷ xs) n h =
    let first : text_in x < n = h x (or_left (x == x) (set_of xs x) (eq-eqb x x refl)) in
    let more : name_bound xs ≤ n = name_bound-least xs n (λ c e. h c (or_right (x == c) (set_of xs c) e)) in
    omega (arith, first, more)

-- lists of the same nodes have one bound
name_bound-same : (xs ys : List ℕ) → ((c : ℕ) → set_of xs c ≡ set_of ys c) → name_bound xs ≡ name_bound ys
name_bound-same xs ys e =
    let up : name_bound xs ≤ name_bound ys = name_bound-least xs (name_bound ys) (λ c h. below_names ys c (sym (e c) ∙ h)) in
    let down : name_bound ys ≤ name_bound xs = name_bound-least ys (name_bound xs) (λ c h. below_names xs c (e c ∙ h)) in
    omega (arith, up, down)

-- and the same names
is_named_in-same : (xs ys : List ℕ) → ((c : ℕ) → set_of xs c ≡ set_of ys c) → is_named_in xs ≡ is_named_in ys
is_named_in-same xs ys e = fun_ext (λ x. alike (is_named_in xs x) (is_named_in ys x)
    (λ h. let r = namesake xs x h in named_by ys r.0 x (sym (e r.0) ∙ r.1) r.2)
    (λ h. let r = namesake ys x h in named_by xs r.0 x (e r.0 ∙ r.1) r.2))

abbrev opening : ℕ → Nodes → Nodes → NamedOpening
opening n s t = record { bound = n; names = s; cluster = t; last = last_u32 }

-- what is held opened with the nodes that were named, in whatever order
pub names_of-named : (cluster lone : List ℕ) (h : WorldState) → Opens cluster lone h → names_of h ≡ opening_for cluster lone
names_of-named cluster lone h o =
    ap (λ (n : ℕ). opening n (is_named_in (nodes_in h)) (is_named_in h.cluster))
    (name_bound-same (nodes_in h) (cluster ++ lone) o.nodes)
    ∙ ap (λ (s : Nodes). opening (name_bound (cluster ++ lone)) s (is_named_in h.cluster))
    (is_named_in-same (nodes_in h) (cluster ++ lone) o.nodes)
    ∙ ap (λ (s : Nodes). opening (name_bound (cluster ++ lone)) (is_named_in (cluster ++ lone)) s)
    (is_named_in-same h.cluster cluster o.joined)

-- the names of a world are those that are listed
is_name-listed : (nodes cluster : List ℕ) (x : ℕ) → is_name (named_opening nodes cluster) x ≡ is_named_in nodes x
is_name-listed nodes cluster x = go (is_named_in nodes x) refl
  where
    go : (b : Bool) → is_named_in nodes x ≡ b → (nat_lt x (name_bound nodes) && b) ≡ b
    go false e = and_right (nat_lt x (name_bound nodes)) false refl
    go true e =
        let r = namesake nodes x e in
        let low = below_names nodes r.0 r.1 in
        let here = r.2 in
        ap (λ (b : Bool). b && true) (lt-ltb x (name_bound nodes) (omega (arith, low, here)))

-- a name is listed by its text as by its first node
names_in-listed : (nodes : List ℕ) (x : ℕ) → IsFirst x → names_in nodes x ≡ is_named_in nodes (text_in x)
names_in-listed [] x first = refl
names_in-listed (m ∷ ms) x first = ap (λ (b : Bool). b || names_in ms x) same
    ∙ ap (λ (b : Bool). (text_in m == text_in x) || b) (names_in-listed ms x first)
  where
    same : (name_of m == x) ≡ (text_in m == text_in x)
    same = elim (cases_eq (text_in m) (text_in x)) [
      | inl one ↦ eq-eqb (name_of m) x (omega (arith, one, first)) ∙ sym (eq-eqb (text_in m) (text_in x) one)
      | inr other ↦ ne_eqb (name_of m) x (λ e. other (omega (arith, e, first))) ∙ sym (ne_eqb (text_in m) (text_in x) other)
    ]

-- so it is one of the world where it is listed
pub known_name : (h : WorldState) (x : ℕ) → IsFirst x → names_in (nodes_in h) x ≡ is_name (names_of h) (text_in x)
known_name h x first = names_in-listed (nodes_in h) x first ∙ sym (is_name-listed (nodes_in h) h.cluster (text_in x))

-- a name that isn't listed has the first creation
unlisted : (nodes : List ℕ) (x : ℕ) → is_named_in nodes x ≡ false → present_in nodes x ≡ 1
unlisted nodes x h = ap creation_in (none nodes h)
  where
    none : (ms : List ℕ) → is_named_in ms x ≡ false → find (λ m. text_in m == x) ms ≡ None
    none [] h = refl
    none (m ∷ ms) h =
        let parts = or_parts (text_in m == x) (is_named_in ms x) h in
        rw parts.0 (none ms parts.1)

-- where a name isn't one of the world, neither is its node
pub stranger : (h : WorldState) (x : ℕ) → is_name (names_of h) x ≡ false
    → in_world (opening_of (names_of h)) (present_node (names_of h) (named h) x) ≡ false
stranger h x e =
    ap (λ (b : Bool). nat_lt (present_node (names_of h) (named h) x) (opening_of (names_of h)).bound && b)
    (ap (is_named_in (nodes_in h)) named_x ∙ gone)
    ∙ and_right (nat_lt (present_node (names_of h) (named h) x) (opening_of (names_of h)).bound) false refl
  where
    gone : is_named_in (nodes_in h) x ≡ false
    gone = sym (is_name-listed (nodes_in h) h.cluster x) ∙ e

    first : present_in (nodes_in h) x ≡ 1
    first = unlisted (nodes_in h) x gone

    named_x : present_node (names_of h) (named h) x / 4294967296 ≡ x
    named_x = omega (arith, first)

-- a rising list of nodes of the world is the one of its set
pub nodes_of-listed : (h : WorldState) (xs : List ℕ) (s : Nodes) → IsNodeSet xs → AreOf (nodes_in h) xs → set_of xs ≡ s
    → nodes_of (opening_of (names_of h)).bound s ≡ xs
nodes_of-listed h xs s set within e = ap (nodes_of (opening_of (names_of h)).bound) (sym e)
    ∙ nodes_of-set_of (opening_of (names_of h)).bound xs set.rising below
  where
    below : All (λ c. c < (opening_of (names_of h)).bound) xs
    below = λ k d l.
        let low = below_names (nodes_in h) (get_or xs k d) (within (get_or xs k d) (set_of-item xs k d l)) in
        omega (arith, low)
