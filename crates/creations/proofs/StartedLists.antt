-- The nodes that have started, listed: all of them, rising.
use mathlib.Core.Logic.{inl, inr}
use Rattle.std.proofs.Common.{ℕ, zero, suc, Bool, true, false, ◌≡◌, ◌<◌, ◌≤◌, List, [], ◌∷◌, ◌++◌, refl, sym, ap, subst, ◌∙◌, arith}
use Rattle.std.specs.Prelude.{Contains, flat_map, if◌then◌else◌}
use Rattle.std.proofs.lemmas.Bool.{cases_eq}
use Rattle.std.proofs.lemmas.Grind.{flat_map-append}
use Rattle.std.proofs.lemmas.List.{append-nil}
use Rattle.std.proofs.lemmas.List.Elements.{Contains-push, Contains-push_cases, Contains-append_left, Contains-append_right, Contains-append_cases}
use Rattle.registry_model.specs.Process.{nodes_of}
use Rattle.registry_model.proofs.Lists.{Contains-cases, Contains-nil}
use Rattle.creations.specs.NodeNames.{NamedOpening, span, node_of, name_of, creation_of, first_nodes, HasNumber}
use Rattle.creations.specs.NamedWorld.{NamedWorld, started_nodes}
use Rattle.creations.proofs.Numbers.{name-node, creation-node, node-number, is_creation, lesser_name}
use Rattle.creations.proofs.Lists.{Rise, rise-append}

module _ (o : NamedOpening) where
  -- the first nodes of a name
  pub in_first : (x k n : ℕ) → k ≤ span o → Contains (first_nodes o x k) n → (name_of o n ≡ x) × (creation_of o n ≤ k)
  in_first x zero n l i = absurd (Contains-nil n i)
  in_first x (suc k) n l i = elim (Contains-push_cases (first_nodes o x k) (node_of o x (suc k)) n i) [
    | inl j ↦
        let m : (name_of o n ≡ x) × (creation_of o n ≤ k) = in_first x k n (omega arith) j in
        (m.0, (let c : creation_of o n ≤ k = m.1 in omega arith))
    | inr same ↦
        let here : HasNumber o (suc k) = record { first = omega arith; last = l } in
        let c : creation_of o n ≡ suc k = ap (creation_of o) (sym same) ∙ creation-node o x (suc k) here in
        (ap (name_of o) (sym same) ∙ name-node o x (suc k) here, omega (arith, c))
  ]

  pub first_has : (x k n : ℕ) → name_of o n ≡ x → creation_of o n ≤ k → Contains (first_nodes o x k) n
  first_has x zero n e l = let c : 1 ≤ creation_of o n = (is_creation o n).first in absurd (omega arith)
  first_has x (suc k) n e l = elim (cases_eq (creation_of o n) (suc k)) [
    | inl same ↦ subst (λ (m : ℕ). Contains (first_nodes o x k ++ node_of o x (suc k) ∷ []) m)
        (ap (λ (c : ℕ). node_of o x c) (sym same) ∙ ap (λ (y : ℕ). node_of o y (creation_of o n)) (sym e) ∙ node-number o n)
        (Contains-push (first_nodes o x k) (node_of o x (suc k)))
    | inr other ↦
        Contains-append_left (first_nodes o x k) (node_of o x (suc k) ∷ []) n (first_has x k n e (omega (arith, other, l)))
  ]

  -- a lesser node, by its name or its creation
  pub first_rises : (x k : ℕ) → k ≤ span o → Rise (first_nodes o x k)
  first_rises x zero l = tt
  first_rises x (suc k) l = rise-append (first_nodes o x k) (node_of o x (suc k) ∷ []) (first_rises x k (omega arith))
      ((λ c i. absurd (Contains-nil c i)), tt) less
    where
      less : (c d : ℕ) → Contains (first_nodes o x k) c → Contains (node_of o x (suc k) ∷ []) d → c < d
      less c d i j = elim (Contains-cases (node_of o x (suc k)) [] d j) [
        | inl same ↦
            let m : (name_of o c ≡ x) × (creation_of o c ≤ k) = in_first x k c (omega arith) i in
            let e : node_of o x (creation_of o c) ≡ c = ap (λ (y : ℕ). node_of o y (creation_of o c)) (sym m.0) ∙ node-number o c in
            let a : 1 ≤ creation_of o c = (is_creation o c).first in
            let b : creation_of o c ≤ k = m.1 in
            omega (arith, e, same)
        | inr none ↦ absurd (Contains-nil d none)
      ]

  module _ (w : NamedWorld) (created : (x : ℕ) → HasNumber o (w.present x)) where
    abbrev nodes_at : ℕ → List ℕ
    nodes_at x = first_nodes o x (w.present x)

    -- those of the names below b
    abbrev up_to : ℕ → List ℕ
    up_to b = flat_map nodes_at (nodes_of b o.names)

    -- a node of them
    record IsBelow (b n : ℕ) : Type 0 where
      pub name : name_of o n < b
      pub known : o.names (name_of o n) ≡ true
      pub started : creation_of o n ≤ w.present (name_of o n)

    abbrev last_of : ℕ → Bool → List ℕ
    last_of b t = flat_map nodes_at (if t then b ∷ [] else [])

    in_last : (b n : ℕ) (t : Bool) → o.names b ≡ t → Contains (last_of b t) n → IsBelow (suc b) n
    in_last b n false e i = absurd (Contains-nil n i)
    in_last b n true e i =
        let m : (name_of o n ≡ b) × (creation_of o n ≤ w.present b) =
        in_first b (w.present b) n (created b).last
        (subst (λ (xs : List ℕ). Contains xs n) (append-nil (nodes_at b)) i) in
        record {
          name = (let k : name_of o n ≡ b = m.0 in omega arith);
          known = ap o.names m.0 ∙ e;
          started = subst (λ (y : ℕ). creation_of o n ≤ w.present y) (sym m.0) m.1;
        }

    in_up_to : (b n : ℕ) → Contains (up_to b) n → IsBelow b n
    in_up_to zero n i = absurd (Contains-nil n i)
    in_up_to (suc b) n i =
        elim (Contains-append_cases (up_to b) (last_of b (o.names b)) n
        (subst (λ (xs : List ℕ). Contains xs n)
        (flat_map-append nodes_at (nodes_of b o.names) (if o.names b then b ∷ [] else [])) i)) [
          | inl j ↦
              let m : IsBelow b n = in_up_to b n j in
              let k : name_of o n < b = m.name in
              record { name = omega arith; known = m.known; started = m.started }
          | inr j ↦ in_last b n (o.names b) refl j
        ]

    has_last : (b n : ℕ) (t : Bool) → o.names b ≡ t → name_of o n ≡ b → IsBelow (suc b) n → Contains (last_of b t) n
    has_last b n false e k m = cc (e, m.known, ap o.names k)
    has_last b n true e k m = subst (λ (xs : List ℕ). Contains xs n) (sym (append-nil (nodes_at b)))
        (first_has b (w.present b) n k (subst (λ (y : ℕ). creation_of o n ≤ w.present y) k m.started))

    up_to_has : (b n : ℕ) → IsBelow b n → Contains (up_to b) n
    up_to_has zero n m = let k : name_of o n < 0 = m.name in absurd (omega arith)
    up_to_has (suc b) n m =
        subst (λ (xs : List ℕ). Contains xs n)
        (sym (flat_map-append nodes_at (nodes_of b o.names) (if o.names b then b ∷ [] else [])))
        (elim (cases_eq (name_of o n) b) [
          | inl same ↦ Contains-append_right (up_to b) (last_of b (o.names b)) n (has_last b n (o.names b) refl same m)
          | inr other ↦ Contains-append_left (up_to b) (last_of b (o.names b)) n (up_to_has b n (record {
            name = (let k : name_of o n < suc b = m.name in omega arith);
            known = m.known;
            started = m.started;
          }))
        ])

    last_rises : (b : ℕ) (t : Bool) → Rise (last_of b t)
    last_rises b false = tt
    last_rises b true = subst Rise (sym (append-nil (nodes_at b))) (first_rises b (w.present b) (created b).last)

    up_to_rises : (b : ℕ) → Rise (up_to b)
    up_to_rises zero = tt
    up_to_rises (suc b) = subst Rise
        (sym (flat_map-append nodes_at (nodes_of b o.names) (if o.names b then b ∷ [] else [])))
        (rise-append (up_to b) (last_of b (o.names b)) (up_to_rises b) (last_rises b (o.names b)) less)
      where
        less : (c d : ℕ) → Contains (up_to b) c → Contains (last_of b (o.names b)) d → c < d
        less c d i j = go (o.names b) refl j
          where
            go : (t : Bool) → o.names b ≡ t → Contains (last_of b t) d → c < d
            go false e k = absurd (Contains-nil d k)
            go true e k =
                let m : name_of o d ≡ b = (in_first b (w.present b) d (created b).last
                (subst (λ (xs : List ℕ). Contains xs d) (append-nil (nodes_at b)) k)).0 in
                let n : name_of o c < b = (in_up_to b c i).name in
                let l : node_of o (name_of o c) (creation_of o c) < node_of o (name_of o d) (creation_of o d) =
                lesser_name o (name_of o c) (name_of o d) (creation_of o c) (creation_of o d) (is_creation o c) (omega arith) in
                subst (λ (y : ℕ). y < d) (node-number o c)
                (subst (λ (y : ℕ). node_of o (name_of o c) (creation_of o c) < y) (node-number o d) l)

    -- the nodes that have started
    pub started_in : (n : ℕ) → Contains (started_nodes o w) n
        → (name_of o n < o.bound) × (o.names (name_of o n) ≡ true) × (creation_of o n ≤ w.present (name_of o n))
    started_in n i = let m : IsBelow o.bound n = in_up_to o.bound n i in (m.name, m.known, m.started)

    pub in_started : (n : ℕ) → name_of o n < o.bound → o.names (name_of o n) ≡ true
        → creation_of o n ≤ w.present (name_of o n) → Contains (started_nodes o w) n
    in_started n a b c = up_to_has o.bound n (record { name = a; known = b; started = c })

    pub started_rise : Rise (started_nodes o w)
    started_rise = up_to_rises o.bound
