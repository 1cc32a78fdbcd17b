-- Nodes at present, one of each name, and the world of all creations of their names.
use Rattle.std.proofs.Common.{ℕ, Bool, true, false, ◌==◌, ◌≡◌, ◌<◌, ◌≤◌, ◌+◌, ◌-◌, ◌*◌, ◌^◌, Option, Some, List, [], ◌∷◌, inl, inr, refl, sym, ap, ◌∙◌, arith}
use Rattle.std.specs.Prelude.{find, max, nat_lt, not, ◌&&◌, ◌||◌, if◌then◌else◌}
use Rattle.std.proofs.Math.Path.{fun_ext}
use Rattle.std.proofs.Math.Bool.{and-false}
use Rattle.std.proofs.lemmas.Bool.{cases_eq, cases_lt, eq-eqb, ne_eqb, eqb-true, lt-ltb, le-ltb, or_cases, or_left, or_right, false_from_ne_true}
use Rattle.registry_model.proofs.Updates.{by_test}
use Rattle.protocol_model.specs.World.{in_world}
use Rattle.getting_through.specs.NodeNames.{is_name, span, opening_of as all_creations}
use Rattle.getting_through.specs.NamedWorld.{present_node, has_started}
use Rattle.getting_through.specs.Restarts.{IsUp, IsReplaced}
use Rattle.getting_through.proofs.Numbers.{inside-name}
use Rattle.getting_through.proofs.Standing.{started_from}
use Rattle.registry_model.specs.Process.{at}
use Rattle.term.specs.Nodes.{text_in, name_of, creation_of, first_node}
use Rattle.term.specs.NodeSets.{set_of, names_in, with_older, succeeded}
use Rattle.term.proofs.Numbers.{of_both, first_node-eq}
use Rattle.term.proofs.Older.{reaching, reached, held}
use Rattle.node_core.specs.CoreState.{HaveLeft, IsNext, bound_of}
use Rattle.cluster_world.specs.WorldState.{WorldState, nodes_of}
use Rattle.cluster_world.specs.Openings.{name_bound, is_named_in, named_opening, creation_in, present_in}
use Rattle.cluster_world.specs.Seen.{names_of, named}

-- no two of these nodes have one name
abbrev pub OneOfEach : List ℕ → Type 0
OneOfEach nodes = (a b : ℕ) → set_of nodes a ≡ true → set_of nodes b ≡ true → name_of a ≡ name_of b → a ≡ b

-- each name has as many numbers as the program has creations, and one more
pub span_is : (nodes cluster : List ℕ) → span (named_opening nodes cluster) ≡ 2 ^ 32
span_is nodes cluster = refl

-- one of the nodes has this name, by its text or by its first node
pub text_or_name : (nodes : List ℕ) (n : ℕ) → is_named_in nodes (text_in n) ≡ names_in nodes (name_of n)
text_or_name [] n = refl
text_or_name (m ∷ ms) n = ap (λ (b : Bool). b || is_named_in ms (text_in n)) (sym (first_node-eq (text_in m) (text_in n)))
    ∙ ap (λ (b : Bool). (name_of m == name_of n) || b) (text_or_name ms n)

-- the nodes of the names are below the bound that the nodes have
bound_is-name : (nodes : List ℕ) → name_bound nodes * 4294967296 ≡ bound_of nodes
bound_is-name [] = refl
bound_is-name (c ∷ cs) = one_more (name_bound cs) (bound_of cs) (bound_is-name cs)
  where
    one_more : (a b : ℕ) → a * 4294967296 ≡ b → max (text_in c + 1) a * 4294967296 ≡ max (name_of c + 2 ^ 32) b
    one_more a b e = omega (arith, e)

pub bound_is : (nodes cluster : List ℕ) → (all_creations (named_opening nodes cluster)).bound ≡ bound_of nodes
bound_is nodes cluster = bound_is-name nodes

-- where one of the nodes has this text, it is below the bound
text_below : (nodes : List ℕ) (x : ℕ) → is_named_in nodes x ≡ true → x < name_bound nodes
text_below [] x e = cc e
text_below (m ∷ ms) x e = elim (or_cases (text_in m == x) (is_named_in ms x) e) [
  | inl here ↦ let same : text_in m ≡ x = eqb-true (text_in m) x here in omega (arith, same)
  | inr behind ↦ let below : x < name_bound ms = text_below ms x behind in omega arith
]

-- a name is one of the world where a node has it
pub known_is : (nodes cluster : List ℕ) (n : ℕ) → is_name (named_opening nodes cluster) (text_in n) ≡ names_in nodes (name_of n)
known_is nodes cluster n = go (is_named_in nodes (text_in n)) refl ∙ text_or_name nodes n
  where
    go : (b : Bool) → is_named_in nodes (text_in n) ≡ b → (nat_lt (text_in n) (name_bound nodes) && b) ≡ b
    go true e = ap (λ (b : Bool). b && true) (lt-ltb (text_in n) (name_bound nodes) (text_below nodes (text_in n) e))
    go false e = and-false (nat_lt (text_in n) (name_bound nodes))

pub inside : (nodes cluster : List ℕ) (n : ℕ) → in_world (all_creations (named_opening nodes cluster)) n ≡ names_in nodes (name_of n)
inside nodes cluster n = inside-name (named_opening nodes cluster) n ∙ known_is nodes cluster n

-- a node of the list has a name there, and so has one of its name
pub names_in-of : (nodes : List ℕ) (m n : ℕ) → set_of nodes m ≡ true → name_of m ≡ name_of n → names_in nodes (name_of n) ≡ true
names_in-of [] m n h e = cc h
names_in-of (x ∷ xs) m n h e = elim (or_cases (x == m) (set_of xs m) h) [
  | inl here ↦ or_left _ _ (eq-eqb (name_of x) (name_of n) (ap name_of (eqb-true x m here) ∙ e))
  | inr behind ↦ or_right _ _ (names_in-of xs m n behind e)
]

-- and where a name is there, a node has it
pub node_named : (nodes : List ℕ) (x : ℕ) → names_in nodes x ≡ true → (m : ℕ) × (set_of nodes m ≡ true) × (name_of m ≡ x)
node_named [] x h = absurd (cc h)
node_named (m ∷ ms) x h = elim (or_cases (name_of m == x) (names_in ms x) h) [
  | inl here ↦ (m, or_left _ _ (eq-eqb m m refl), eqb-true (name_of m) x here)
  | inr behind ↦
      let r : (m : ℕ) × (set_of ms m ≡ true) × (name_of m ≡ x) = node_named ms x behind in (r.0, or_right _ _ r.1, r.2)
]

pub has_name : (nodes : List ℕ) (n : ℕ) → with_older nodes n ≡ true → names_in nodes (name_of n) ≡ true
has_name nodes n h =
    let r : (m : ℕ) × (set_of nodes m ≡ true) × (name_of m ≡ name_of n) × (n ≤ m) = reached nodes n h in
    names_in-of nodes r.0 n r.1 r.2

pub started_inside : (nodes cluster : List ℕ) (n : ℕ) → with_older nodes n ≡ true
    → in_world (all_creations (named_opening nodes cluster)) n ≡ true
started_inside nodes cluster n h = inside nodes cluster n ∙ has_name nodes n h

-- names are one where their texts are
text_of-name : (m n : ℕ) → text_in m ≡ text_in n → name_of m ≡ name_of n
text_of-name m n e = ap first_node e

pub name_of-text : (m n : ℕ) → name_of m ≡ name_of n → text_in m ≡ text_in n
name_of-text m n e = omega (arith, e)

-- a node of the list is found by the text of its name
pub found_by_text : (nodes : List ℕ) (m : ℕ) → OneOfEach nodes → set_of nodes m ≡ true
    → find (λ k. text_in k == text_in m) nodes ≡ Some m
found_by_text nodes m one h = go nodes (λ a i e. one a m i h e) h
  where
    go : (xs : List ℕ) → ((a : ℕ) → set_of xs a ≡ true → name_of a ≡ name_of m → a ≡ m) → set_of xs m ≡ true
        → find (λ k. text_in k == text_in m) xs ≡ Some m
    go [] only i = absurd (cc i)
    go (x ∷ xs) only i = by (text_in x == text_in m) refl (go xs (λ a j f. only a (or_right _ _ j) f))
      where
        by : (b : Bool) → (text_in x == text_in m) ≡ b
            → (set_of xs m ≡ true → find (λ k. text_in k == text_in m) xs ≡ Some m)
            → (if b then Some x else find (λ k. text_in k == text_in m) xs) ≡ Some m
        by true e more = ap (λ (y : ℕ). let r : Option ℕ = Some y in r)
            (only x (or_left _ _ (eq-eqb x x refl)) (text_of-name x m (eqb-true (text_in x) (text_in m) e)))
        by false e more = more (elim (or_cases (x == m) (set_of xs m) i) [
          | inl here ↦ absurd (cc (e, eq-eqb (text_in x) (text_in m) (ap text_in (eqb-true x m here))))
          | inr behind ↦ behind
        ])

pub present_is : (nodes : List ℕ) (m : ℕ) → OneOfEach nodes → set_of nodes m ≡ true → present_in nodes (text_in m) ≡ creation_of m
present_is nodes m one h = ap creation_in (found_by_text nodes m one h)

-- a node that is named has started where it is the one at present or older
pub started_in : (nodes : List ℕ) (n : ℕ) → OneOfEach nodes → names_in nodes (name_of n) ≡ true
    → not (nat_lt (present_in nodes (text_in n)) (creation_of n)) ≡ with_older nodes n
started_in nodes n one known = elim (cases_lt (creation_of m.0) (creation_of n)) [
  | inl less ↦ rw (now, lt-ltb (creation_of m.0) (creation_of n) less) (sym (false_from_ne_true (with_older nodes n) (λ h.
      let r : (k : ℕ) × (set_of nodes k ≡ true) × (name_of k ≡ name_of n) × (n ≤ k) = reached nodes n h in
      let same : r.0 ≡ m.0 = one r.0 m.0 r.1 m.1 (r.2 ∙ sym m.2) in
      let l : n ≤ r.0 = r.3 in
      omega (arith, same, l, less, named))))
  | inr more ↦ rw (now, le-ltb (creation_of m.0) (creation_of n) more) (sym (reaching nodes m.0 n m.1 m.2
      (omega (arith, more, named))))
]
  where
    m : (k : ℕ) × (set_of nodes k ≡ true) × (name_of k ≡ name_of n)
    m = node_named nodes (name_of n) known

    named : name_of m.0 ≡ name_of n
    named = m.2

    now : present_in nodes (text_in n) ≡ creation_of m.0
    now = ap (present_in nodes) (sym (name_of-text m.0 n m.2)) ∙ present_is nodes m.0 one m.1

module _ (h : WorldState) (one : OneOfEach (nodes_of h)) where
  -- the present node of a name
  pub present_node_is : (m : ℕ) → set_of (nodes_of h) m ≡ true → present_node (names_of h) (named h) (text_in m) ≡ m
  present_node_is m e = ap (λ (c : ℕ). name_of m + (c - 1)) (present_is (nodes_of h) m one e) ∙ sym (of_both m)

  -- and that of the name of a node
  pub present_of : (m n : ℕ) → set_of (nodes_of h) m ≡ true → name_of m ≡ name_of n
      → present_node (names_of h) (named h) (text_in n) ≡ m
  present_of m n e f = ap (present_node (names_of h) (named h)) (sym (name_of-text m n f)) ∙ present_node_is m e

  pub started_is : (n : ℕ) → names_in (nodes_of h) (name_of n) ≡ true
      → has_started (names_of h) (named h) n ≡ with_older (nodes_of h) n
  started_is n known = started_in (nodes_of h) n one known

  -- a node that was replaced is older than the one of its name
  pub replaced_to : (n : ℕ) → names_in (nodes_of h) (name_of n) ≡ true → IsReplaced (names_of h) (named h) n
      → (with_older (nodes_of h) n ≡ true) × (set_of (nodes_of h) n ≡ false)
  replaced_to n known less = (
    sym (started_is n known) ∙ started_from (names_of h) (named h) n (omega (arith, less)),
    false_from_ne_true (set_of (nodes_of h) n) (λ e.
        let same : present_in (nodes_of h) (text_in n) ≡ creation_of n = present_is (nodes_of h) n one e in
        omega (arith, same, less)),
  )

  pub replaced_from : (n : ℕ) → with_older (nodes_of h) n ≡ true → set_of (nodes_of h) n ≡ false
      → IsReplaced (names_of h) (named h) n
  replaced_from n e other =
      let r : (m : ℕ) × (set_of (nodes_of h) m ≡ true) × (name_of m ≡ name_of n) × (n ≤ m) = reached (nodes_of h) n e in
      let now : present_in (nodes_of h) (text_in n) ≡ creation_of r.0 =
      ap (present_in (nodes_of h)) (sym (name_of-text r.0 n r.2)) ∙ present_is (nodes_of h) r.0 one r.1 in
      let named : name_of r.0 ≡ name_of n = r.2 in
      let l : n ≤ r.0 = r.3 in
      elim (cases_eq r.0 n) [
        | inl same ↦ absurd (cc (other, r.1, ap (set_of (nodes_of h)) same))
        | inr ne ↦ omega (arith, now, named, l, ne)
      ]

  -- who runs is at present, and hasn't left
  pub up_from : (n : ℕ) → set_of (nodes_of h) n ≡ true → with_older h.links.departed n ≡ false
      → IsUp (names_of h) (named h) n
  up_from n e stays = record {
    inside = started_inside (nodes_of h) h.cluster n (held (nodes_of h) n e);
    started = started_is n (has_name (nodes_of h) n (held (nodes_of h) n e)) ∙ held (nodes_of h) n e;
    stays = stays;
  }

  pub up_to : HaveLeft (nodes_of h) h.links.departed → (n : ℕ) → IsUp (names_of h) (named h) n
      → (set_of (nodes_of h) n ≡ true) × (with_older h.links.departed n ≡ false)
  up_to went n up = (go (set_of (nodes_of h) n) refl, up.stays)
    where
      known : names_in (nodes_of h) (name_of n) ≡ true
      known = sym (inside (nodes_of h) h.cluster n) ∙ up.inside

      go : (b : Bool) → set_of (nodes_of h) n ≡ b → b ≡ true
      go true e = refl
      go false e = absurd (cc (went.older n (sym (started_is n known) ∙ up.started) e, up.stays))

-- where the next node of a name stands for the one before it, the names are the same
module _ (older next : ℕ) (after : IsNext older next) where
  same_text : text_in next ≡ text_in older
  same_text = name_of-text next older after.named

  text_kept : (c : ℕ) → text_in (if c == older then next else c) ≡ text_in c
  text_kept c = elim (cases_eq c older) [
    | inl e ↦ rw (eq-eqb c older e) (same_text ∙ ap text_in (sym e))
    | inr ne ↦ rw (ne_eqb c older ne) refl
  ]

  bound_same : (nodes : List ℕ) → name_bound (succeeded older next nodes) ≡ name_bound nodes
  bound_same [] = refl
  bound_same (c ∷ cs) = ap (λ (b : ℕ). max (text_in (if c == older then next else c) + 1) b) (bound_same cs)
      ∙ ap (λ (t : ℕ). max (t + 1) (name_bound cs)) (text_kept c)

  names_same : (nodes : List ℕ) (x : ℕ) → is_named_in (succeeded older next nodes) x ≡ is_named_in nodes x
  names_same [] x = refl
  names_same (c ∷ cs) x = ap (λ (b : Bool). (text_in (if c == older then next else c) == x) || b) (names_same cs x)
      ∙ ap (λ (t : ℕ). (t == x) || is_named_in cs x) (text_kept c)

  pub succeeded_names : (nodes cluster : List ℕ) → named_opening (succeeded older next nodes) cluster ≡ named_opening nodes cluster
  succeeded_names nodes cluster =
      ap (λ (b : ℕ). record (named_opening (succeeded older next nodes) cluster) { bound = b }) (bound_same nodes)
      ∙ ap (λ (s : ℕ → Bool). record (named_opening nodes cluster) { names = s }) (fun_ext (names_same nodes))

  -- found is the same of another name
  found_same : (nodes : List ℕ) (x : ℕ) → (x ≡ text_in older → ⊥)
      → find (λ k. text_in k == x) (succeeded older next nodes) ≡ find (λ k. text_in k == x) nodes
  found_same [] x ne = refl
  found_same (c ∷ cs) x ne = elim (cases_eq c older) [
    | inl e ↦ rw (
      eq-eqb c older e,
      ne_eqb (text_in next) x (λ f. ne (sym f ∙ same_text)),
      ne_eqb (text_in c) x (λ f. ne (sym f ∙ ap text_in e)),
    ) (found_same cs x ne)
    | inr other ↦ rw (ne_eqb c older other)
        (ap (λ (r : Option ℕ). if text_in c == x then Some c else r) (found_same cs x ne))
  ]

  -- and of this one it is the next node
  found_next : (nodes : List ℕ) → find (λ k. text_in k == text_in older) nodes ≡ Some older
      → find (λ k. text_in k == text_in older) (succeeded older next nodes) ≡ Some next
  found_next [] h = absurd (cc h)
  found_next (c ∷ cs) h = ap (λ (t : ℕ). if t == text_in older
      then Some (if c == older then next else c) else find (λ k. text_in k == text_in older) (succeeded older next cs))
      (text_kept c)
      ∙ by (text_in c == text_in older) h (found_next cs)
    where
      by : (b : Bool) → (if b then Some c else find (λ k. text_in k == text_in older) cs) ≡ Some older
          → (find (λ k. text_in k == text_in older) cs ≡ Some older
          → find (λ k. text_in k == text_in older) (succeeded older next cs) ≡ Some next)
          → (if b then Some (if c == older then next else c)
          else find (λ k. text_in k == text_in older) (succeeded older next cs)) ≡ Some next
      by true e more =
          let same : c ≡ older = cc e in
          ap (λ (b : Bool). let r : Option ℕ = Some (if b then next else c) in r) (eq-eqb c older same)
      by false e more = more e

  pub succeeded_present : (nodes : List ℕ) → OneOfEach nodes → set_of nodes older ≡ true
      → present_in (succeeded older next nodes) ≡ at (present_in nodes) (text_in older) (present_in nodes (text_in older) + 1)
  succeeded_present nodes one h = fun_ext (by_test (text_in older)
      (λ x t. present_in (succeeded older next nodes) x ≡ (if t then present_in nodes (text_in older) + 1 else present_in nodes x))
      (ap creation_in (found_next nodes (found_by_text nodes older one h))
      ∙ younger ∙ ap (λ (c : ℕ). c + 1) (sym (present_is nodes older one h)))
      (λ x ne. ap creation_in (found_same nodes x ne)))
    where
      younger : creation_of next ≡ creation_of older + 1
      younger = let e : next ≡ older + 1 = after.is in let n : name_of next ≡ name_of older = after.named in omega (arith, e, n)
