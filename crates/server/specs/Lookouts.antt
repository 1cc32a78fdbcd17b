-- Of which nodes it is told that their numbers are nearly spent.
use Rattle.std.specs.Prelude.{ℕ, Bool, true, false, ◌≡◌, ◌*◌, ◌⊎◌, length, nat_lt, List, []}
use Rattle.term.specs.NodeSets.{set_of, with_node}
use Rattle.term.specs.declared.limits.TheConstants.{MOST_NODES}

-- the greatest number of 32 bits
abbrev pub greatest : ℕ
greatest = 4294967295

-- more than nine tenths of these numbers are given, where the last one was this
abbrev pub nearly_spent : ℕ → Bool
nearly_spent last = nat_lt (greatest * 9) (last * 10)

-- the nodes of which it was told, by what is spent
pub record Told : Type 0 where
  pub calls : List ℕ
  pub serials : List ℕ

abbrev pub none_told : Told
none_told = record { calls = []; serials = [] }

-- the numbers of node n are nearly spent, it wasn't told, and now it is
abbrev pub IsNews : List ℕ → ℕ → ℕ → List ℕ → Type 0
IsNews told n last now = (nearly_spent last ≡ true) × (set_of told n ≡ false) × (now ≡ with_node told n)

-- they aren't, or it was told before; or it was told of as many other nodes as there may be
abbrev pub IsOld : List ℕ → ℕ → ℕ → List ℕ → Type 0
IsOld told n last now =
    (now ≡ told) × ((nearly_spent last ≡ false) ⊎ (set_of told n ≡ true) ⊎ (length told ≡ MOST_NODES))
