-- What a node relies on of a letter, as the protocol has it.
use Rattle.std.specs.Prelude.{ℕ, true, false, ◌≡◌, ◌==◌}
use Rattle.registry_model.specs.Process.{Nodes}
use Rattle.registry_model.specs.Table.{Table, is_rising}
use Rattle.protocol_model.specs.Letter.{Letter, JoinAsk, Admit, Welcome, Down}

-- the welcome is one to node t: its nodes are of the world, t is a member and hasn't left, and the names rise
pub record Greets (world : Nodes) (t : ℕ) (cluster : Nodes) (pairs : Table) (gone : Nodes) : Type 0 where
  pub members : (c : ℕ) → cluster c ≡ true → world c ≡ true
  pub told : (c : ℕ) → gone c ≡ true → world c ≡ true
  pub self : cluster t ≡ true
  pub here : gone t ≡ false
  pub rising : is_rising pairs ≡ true

-- What node t of a world relies on of a letter that f sends: who asks to join and who is admitted are of the world, a welcome is one
-- to t, and who has left is another node of the world
abbrev pub IsSaid : Nodes → ℕ → ℕ → Letter → Type 0
IsSaid world f t (JoinAsk pairs) = world f ≡ true
IsSaid world f t (Admit joiner settled) = world joiner ≡ true
IsSaid world f t (Welcome members pairs told fate) = Greets world t members pairs told
IsSaid world f t Down = (world f ≡ true) × ((f == t) ≡ false)
IsSaid world f t _ = Unit {0}
