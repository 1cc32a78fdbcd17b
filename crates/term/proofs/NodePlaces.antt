-- The places of nodes in a list.
use Rattle.std.proofs.Common.{ℕ, ◌==◌, ◌≡◌, ◌<◌, Some, List, length, get_or, sym, ◌∙◌}
use Rattle.std.specs.List.{position}
use Rattle.std.proofs.lemmas.Bool.{eqb-true}
use Rattle.std.proofs.lemmas.List.Quantifiers.{position-Some}

-- at the place of a node stands this node
pub place-Some : (c : ℕ) (nodes : List ℕ) (i : ℕ) → position (λ m. m == c) nodes ≡ Some i
    → (i < length nodes) × (get_or nodes i 0 ≡ c)
place-Some c nodes i e =
    let found = position-Some (λ m. m == c) nodes i 0 e in
    (found.0, eqb-true (get_or nodes i 0) c found.1)

-- nodes at one place are one node
pub one_place : (a b : ℕ) (nodes : List ℕ) (i : ℕ) → position (λ m. m == a) nodes ≡ Some i
    → position (λ m. m == b) nodes ≡ Some i → a ≡ b
one_place a b nodes i e f = sym (place-Some a nodes i e).1 ∙ (place-Some b nodes i f).1
