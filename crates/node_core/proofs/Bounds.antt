-- The nodes of a list are below the bound of the world that they are of.
use Rattle.std.proofs.Common.{ℕ, true, ◌≡◌, ◌+◌, ◌^◌, ◌≤◌, ◌<◌, List, [], ◌∷◌, get_or, ap, inl, inr, arith}
use Rattle.std.specs.Prelude.{All}
use Rattle.std.proofs.lemmas.Bool.{cases_eq, ne_eqb}
use Rattle.term.specs.Nodes.{name_of}
use Rattle.term.specs.NodeSets.{set_of, with_older}
use Rattle.term.proofs.Older.{held, reached, below_name}
use Rattle.boss_order.proofs.Sets.{set_of-item}
use Rattle.node_core.specs.CoreState.{bound_of, AreOf, IsWithin}

-- all nodes with the name of a node of a list are below the list's bound
name_bound : (world : List ℕ) (c : ℕ) → set_of world c ≡ true → name_of c + 2 ^ 32 ≤ bound_of world
name_bound [] c e = cc
name_bound (x ∷ xs) c e = elim (cases_eq x c) [
  | inl same ↦ let named = ap name_of same in omega (arith, named)
  | inr ne ↦ omega (arith, name_bound xs c (rw (ne_eqb x c ne) at e))
]

-- a node that has started is below the bound of the world
pub started_below : (world : List ℕ) (c : ℕ) → with_older world c ≡ true → c < bound_of world
started_below world c e =
    let m = reached world c e in
    let bound = name_bound world m.0 m.1 in let named = m.2 in let own = below_name c in omega (arith, bound, named, own)

-- so is a node of the world
pub below_bound : (world : List ℕ) (c : ℕ) → set_of world c ≡ true → c < bound_of world
below_bound world c e = started_below world c (held world c e)

-- nodes that have started are below the bound of the world
pub all_below : (world xs : List ℕ) → IsWithin world xs → All (λ c. c < bound_of world) xs
all_below world xs within = λ k d l. started_below world (get_or xs k d) (within (get_or xs k d) (set_of-item xs k d l))

-- nodes of the world have started
pub of_world : (world xs : List ℕ) → AreOf world xs → IsWithin world xs
of_world world xs are = λ c e. held world c (are c e)
