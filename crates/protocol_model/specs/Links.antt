-- Ordered links: one list for each ordered pair of nodes, a node's link to itself among them.
use Rattle.std.specs.Prelude.{ℕ, Bool, true, false, not, ◌&&◌, ◌==◌, drop, List, [], ◌∷◌, ◌++◌, if◌then◌else◌}
use Rattle.registry_model.specs.Process.{Nodes, nobody, with_node}

-- queue f t: from f to t, the oldest first. No letter goes to a node that was closed out
pub record Links (L : Type 0) : Type 0 where
  pub queue : ℕ → ℕ → List L
  pub closed : Nodes

-- all links are empty
abbrev pub no_letters : {L : Type 0} → Links L
no_letters = record { queue = λ f t. []; closed = nobody }

-- nothing is on the link
abbrev pub is_nil : {L : Type 0} → List L → Bool
is_nil [] = true
is_nil (l ∷ ls) = false

-- a adds letters at the back of its links: ls t on that to t; what goes to a node that was closed out vanishes
abbrev pub posted : {L : Type 0} → ℕ → (ℕ → List L) → Links L → Links L
posted a ls links =
    record links { queue = λ f t. if f == a && not (links.closed t) then links.queue f t ++ ls t else links.queue f t }

-- the oldest letter from f to t is taken
abbrev pub taken : {L : Type 0} → ℕ → ℕ → Links L → Links L
taken f t links =
    record links { queue = λ x y. if x == f && (y == t) then drop 1 (links.queue x y) else links.queue x y }

-- all links towards d are empty for good
abbrev pub closed_out : {L : Type 0} → ℕ → Links L → Links L
closed_out d links =
    record { queue = λ x y. if y == d then [] else links.queue x y; closed = with_node d links.closed }
