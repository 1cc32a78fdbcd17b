-- How a world of first nodes opens.
use Rattle.std.proofs.Common.{ℕ, Bool, true, false, ◌==◌, ◌≡◌, ◌≤◌, ◌+◌, ◌^◌, inl, inr, List, [], ◌∷◌, ◌++◌, refl, sym, ap, ◌∙◌, arith}
use Rattle.std.specs.Prelude.{◌&&◌, ◌||◌, nat_lt}
use Rattle.std.proofs.Math.Path.{fun_ext}
use Rattle.std.proofs.Math.Bool.{and-false, or-true}
use Rattle.std.proofs.lemmas.Bool.{eq-eqb, ne_eqb, cases_eq, lt-ltb}
use Rattle.registry_model.specs.Process.{Nodes}
use Rattle.protocol_model.specs.World.{in_world}
use Rattle.term.specs.Nodes.{name_of}
use Rattle.term.specs.NodeSets.{set_of}
use Rattle.cluster_world.specs.NodeCoreState.{bound_of}
use Rattle.cluster_world.proofs.Bounds.{below_bound}
use Rattle.node_log.specs.Openings.{Opened, IsOpening, opening_with}

-- the bound of a list is the least above all nodes of its names
bound_within : (xs : List ℕ) (n : ℕ) → ((c : ℕ) → set_of xs c ≡ true → name_of c + 2 ^ 32 ≤ n) → bound_of xs ≤ n
bound_within [] n above = omega arith
bound_within (x ∷ xs) n above = omega (
  arith,
  above x (ap (λ (b : Bool). b || set_of xs x) (eq-eqb x x refl)),
  bound_within xs n (λ c inside. above c (ap (λ (b : Bool). (x == c) || b) inside ∙ or-true (x == c))),
)

above_name : (xs : List ℕ) (c : ℕ) → set_of xs c ≡ true → name_of c + 2 ^ 32 ≤ bound_of xs
above_name [] c e = cc
above_name (x ∷ xs) c e = elim (cases_eq x c) [
  | inl same ↦ omega (arith, ap name_of same)
  | inr ne ↦ omega (arith, above_name xs c (rw (ne_eqb x c ne) at e))
]

-- lists of the same nodes have the same bound
same_bound : (xs ys : List ℕ) → ((c : ℕ) → set_of xs c ≡ set_of ys c) → bound_of xs ≡ bound_of ys
same_bound xs ys same = omega (
  arith,
  bound_within xs (bound_of ys) (λ c inside. above_name ys c (sym (same c) ∙ inside)),
  bound_within ys (bound_of xs) (λ c inside. above_name xs c (same c ∙ inside)),
)

-- how a world opens is said by the lists that it was started with
pub opening_same : (cluster lone : List ℕ) (o : Opened) → IsOpening cluster lone o
    → opening_with o.nodes o.cluster ≡ opening_with (cluster ++ lone) cluster
opening_same cluster lone o O =
    ap (λ (n : ℕ). record (opening_with o.nodes o.cluster) { bound = n }) (same_bound o.nodes (cluster ++ lone) O.nodes)
    ∙ ap (λ (s : Nodes). record (opening_with (cluster ++ lone) o.cluster) { nodes = s }) (fun_ext O.nodes)
    ∙ ap (λ (s : Nodes). record (opening_with (cluster ++ lone) cluster) { cluster = s }) (fun_ext O.joined)

-- the nodes of such a world are these
pub world_is : (nodes cluster : List ℕ) → in_world (opening_with nodes cluster) ≡ set_of nodes
world_is nodes cluster = fun_ext (λ c. go c (set_of nodes c) refl)
  where
    go : (c : ℕ) (b : Bool) → set_of nodes c ≡ b → (nat_lt c (bound_of nodes) && b) ≡ b
    go c true e = ap (λ (b : Bool). b && true) (lt-ltb c (bound_of nodes) (below_bound nodes c e))
    go c false e = and-false (nat_lt c (bound_of nodes))
