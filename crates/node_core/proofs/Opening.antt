-- A node at its beginning.
use Rattle.std.proofs.Common.{ℕ, Bool, true, false, ◌==◌, ◌≡◌, inl, inr, List, [], ◌∷◌, refl, sym, ap, ◌∙◌, subst, arith}
use Rattle.std.specs.Prelude.{not, ◌&&◌, if◌then◌else◌, All}
use Rattle.std.proofs.lemmas.Bool.{eqb-true, or_cases}
use Rattle.std.proofs.lemmas.List.Elements.{All-head, All-tail}
use Rattle.std.proofs.Math.Path.{fun_ext}
use Rattle.registry_model.specs.Process.{Nodes, nobody}
use Rattle.registry_model.specs.Table.{without}
use Rattle.protocol_model.specs.Node.{Node, opening_node}
use Rattle.term.specs.Nodes.{IsFirst}
use Rattle.term.specs.NodeSets.{set_of, with_older}
use Rattle.term.proofs.Older.{first_alone}
use Rattle.node_core.specs.CoreState.{CoreState, AreOf, HaveLeft, fresh, fresh_behind}
use Rattle.node_core.proofs.Gone.{one_way}
use Rattle.node_core.specs.Seen.{node_of}

-- a joined node is the protocol's, where its members are the cluster
pub opens : (a : ℕ) (world members : List ℕ) (joined : Bool) → set_of members a ≡ true → joined ≡ true
    → node_of (fresh a world members joined) ≡ opening_node (set_of members) a
opens a world members joined own is =
    ap (λ (b : Bool). node_of (fresh a world members b)) is
    ∙ ap with_members (fun_ext (λ c. and_true (set_of members c)))
    ∙ ap (λ (b : Bool). with_own b) (sym own)
  where
    and_true : (b : Bool) → b ≡ (b && true)
    and_true true = refl
    and_true false = refl

    with_members : Nodes → Node
    with_members s = record (node_of (fresh a world members true))
        { replica = record { table = []; members = s; told = nobody; joined = true; notices = λ serial. [] } }

    with_own : Bool → Node
    with_own b = record (node_of (fresh a world members true)) {
      replica = record {
        table = without nobody (if b then [] else []);
        members = λ c. (if b then set_of members c else c == a) && not (nobody c);
        told = nobody;
        joined = b;
        notices = λ serial. [];
      };
    }

-- the same of a node that is behind no departure
pub opens_at : (h : CoreState) (a : ℕ) (world members left : List ℕ) (joined : Bool) → left ≡ []
    → h ≡ fresh_behind a world members left joined → set_of members a ≡ true → joined ≡ true
    → node_of h ≡ opening_node (set_of members) a
opens_at h a world members left joined nobody_left same own is =
    ap node_of (same ∙ ap (λ (xs : List ℕ). fresh_behind a world members xs joined) nobody_left)
    ∙ opens a world members joined own is

-- what is so of the nodes of a list is so of one of them
of_all : (P : ℕ → Type 0) (xs : List ℕ) (c : ℕ) → All P xs → set_of xs c ≡ true → P c
of_all P [] c all e = cc
of_all P (x ∷ xs) c all e = elim (or_cases (x == c) (set_of xs c) e) [
  | inl this ↦ subst P (eqb-true x c this) (All-head P x xs all)
  | inr behind ↦ of_all P xs c (All-tail P x xs all) behind
]

-- nobody has left where all are the first ones of their names
pub nobody_left : (world left : List ℕ) → left ≡ [] → All IsFirst world → HaveLeft world left
nobody_left world left none first = subst (HaveLeft world) (sym none) (record {
  one = λ a b there here same.
      let p = of_all IsFirst world a first there in let q = of_all IsFirst world b first here in
      omega (arith, p, q, same);
  started = λ c e. cc;
  older = λ c started out. absurd (one_way (set_of world c) (sym (first_alone world first c) ∙ started) out);
})

-- a node that stands in a world alone is of it, and hasn't left
pub alone_of : (world : List ℕ) (a : ℕ) (xs : List ℕ) → xs ≡ a ∷ [] → set_of world a ≡ true → AreOf world xs
alone_of world a xs is known = subst (AreOf world) (sym is) (λ c e. elim (or_cases (a == c) false e) [
  | inl this ↦ ap (set_of world) (sym (eqb-true a c this)) ∙ known
  | inr never ↦ cc
])

pub alone_apart : (left : List ℕ) (a : ℕ) (xs : List ℕ) → xs ≡ a ∷ [] → with_older left a ≡ false
    → (c : ℕ) → set_of xs c ≡ true → with_older left c ≡ false
alone_apart left a xs is stays =
    subst (λ (ys : List ℕ). (c : ℕ) → set_of ys c ≡ true → with_older left c ≡ false) (sym is)
    (λ c e. elim (or_cases (a == c) false e) [
      | inl this ↦ ap (with_older left) (sym (eqb-true a c this)) ∙ stays
      | inr never ↦ cc
    ])
