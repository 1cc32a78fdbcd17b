-- A scene: all of a world that the replicas depend on. Most rules of a step leave it as it is.
use Rattle.std.proofs.Common.{ℕ, Bool, true, false, ◌==◌, ◌≡◌, ◌+◌, Option, Some, None, List, [], ◌∷◌, ◌++◌, filter}
use Rattle.std.specs.Prelude.{if◌then◌else◌, ◌||◌}
use Rattle.std.specs.List.{list_any}
use Rattle.registry_model.specs.Process.{Process, Nodes}
use Rattle.registry_model.specs.Call.{Reply, Joined, is_grant}
use Rattle.registry_model.specs.Registry.{Registry, Replica, replica_of}
use Rattle.registry_model.specs.History.{Entry, Hold, hold_at, is_hold_of, old_or, standing_of}
use Rattle.protocol_model.specs.Letter.{Letter}
use Rattle.protocol_model.specs.Node.{Op, Current}
use Rattle.protocol_model.specs.World.{Opening, in_world, in_cluster, World}
use Rattle.moves.proofs.Rules.{kills_in}
use Rattle.moves.proofs.Invariants.{Each}
use Rattle.replicas.proofs.Mail.{carries, is_applied, carried}

-- what a registrar carries out, if anything: an operation, which these nodes still have to write
pub data Doing : Type 0 where
  Nothing : Doing
  Carries : (op : Op) → (awaited : Nodes) → (reply : Option Reply) → Doing

-- what the registrar of a node carries out
abbrev pub doing_of : Current → Doing
doing_of (Current.Writing op asked awaited reply) = Carries op awaited reply
doing_of _ = Nothing

-- it carries something out
abbrev pub is_busy : Doing → Bool
is_busy Nothing = false
is_busy (Carries op awaited reply) = true

-- c still has to write
abbrev pub awaits_node : Doing → ℕ → Bool
awaits_node Nothing c = false
awaits_node (Carries op awaited reply) c = awaited c

-- whom an operation strikes, and whom a node is to strike, now or later
abbrev pub struck_in : Op → List Process
struck_in (Op.Strike p) = p ∷ []
struck_in _ = []

-- by what the registrar is at
abbrev pub struck_by : Current → List Process
struck_by (Current.Asking op r) = struck_in op
struck_by (Current.Waiting op) = struck_in op
struck_by (Current.Writing op asked awaited reply) = struck_in op
struck_by _ = []

-- and by its queue
abbrev pub struck_of : List Op → List Process
struck_of [] = []
struck_of (op ∷ ops) = struck_in op ++ struck_of ops

-- the letters that carry operations out, and the answers to them
abbrev pub is_mine : Letter → Bool
is_mine l = carries l || is_applied l

-- those of a list
abbrev pub mine : List Letter → List Letter
mine ls = filter is_mine ls

pub record Scene : Type 0 where
  pub registry : Registry
  pub hold : ℕ → Option Hold  -- what holds in the group of each node
  pub gone : Nodes
  pub replica : ℕ → Replica
  pub doing : ℕ → Doing
  pub struck : ℕ → List Process
  pub dead : ℕ → List ℕ
  pub mail : ℕ → ℕ → List Letter

-- the scene of a world
abbrev pub scene_of : Opening → World → Scene
scene_of o w = record {
  registry = (standing_of (in_cluster o) w.history).registry;
  hold = hold_at (standing_of (in_cluster o) w.history);
  gone = w.links.closed;
  replica = λ c. (w.node c).replica;
  doing = λ c. doing_of (w.node c).current;
  struck = λ c. struck_by (w.node c).current ++ struck_of (w.node c).queue;
  dead = λ c. (w.node c).watch.dead;
  mail = λ f c. mine (w.links.queue f c);
}

-- 1 where a test holds
abbrev pub one_if : Bool → ℕ
one_if true = 1
one_if false = 0

-- how many letters pass a test
abbrev pub count_of : (Letter → Bool) → List Letter → ℕ
count_of test [] = 0
count_of test (l ∷ ls) = one_if (test l) + count_of test ls

-- all of these are dead
abbrev pub AllDead : Registry → List Process → Type 0
AllDead r [] = Unit {0}
AllDead r (p ∷ ps) = (r.dead p ≡ true) × AllDead r ps

-- the entry of an operation that node a carries out
abbrev pub IsEntryOf : ℕ → Op → Option Reply → Entry → Type 0
IsEntryOf a (Op.Name k call) (Some r) e = (e ≡ Entry.Name a k call r) × (is_grant r ≡ true)
IsEntryOf a (Op.Strike p) None e = (e ≡ Entry.Strike p) × (p.node ≡ a)
IsEntryOf a (Op.Admission j pairs) None e = (k : ℕ) × (e ≡ Entry.Join j k a Joined)
IsEntryOf a _ _ e = ⊥

module _ (o : Opening) (S : Scene) where
  -- node a is of the world and hasn't left
  abbrev pub Runs : ℕ → Type 0
  Runs a = (in_world o a ≡ true) × (S.gone a ≡ false)

  -- whether c hasn't carried out the operation that holds
  abbrev pub is_late : ℕ → Option Hold → Bool
  is_late c None = false
  is_late c (Some h) = list_any carries (S.mail h.node c)

  -- the registry without the operation that holds in the group of c
  abbrev pub before : ℕ → Registry
  before c = old_or S.registry (S.hold c)

  -- what a node carries out holds
  abbrev pub IsHeldBy : ℕ → Doing → Type 0
  IsHeldBy a Nothing = Unit {0}
  IsHeldBy a (Carries op awaited reply) = (h : Hold) × (S.hold a ≡ Some h) × (h.node ≡ a)
      × IsEntryOf a op reply h.entry

  -- a letter from f that carries an operation out leads c from the registry without the operation to the registry
  -- with it
  abbrev pub Leads : ℕ → ℕ → Letter → Type 0
  Leads f c l = carries l ≡ true →
      (h : Hold) × (S.hold c ≡ Some h) × (h.node ≡ f) × Runs f
      × (carried c l (replica_of (before c) c) ≡ replica_of S.registry c)

  -- who is to be struck is a dead process of the node
  abbrev pub AreStruck : ℕ → List Process → Type 0
  AreStruck a [] = Unit {0}
  AreStruck a (p ∷ ps) = ((p.node ≡ a) × (S.registry.dead p ≡ true)) × AreStruck a ps

  -- the replicas are those of the registry
  pub record Kept : Type 0 where
    pub departed : (d : ℕ) → S.registry.left d ≡ S.gone d
    pub joined_inside : (c : ℕ) → S.registry.joined c ≡ true → in_world o c ≡ true
    pub holds : (a : ℕ) → is_hold_of a (S.hold a) ≡ is_busy (S.doing a)
    pub writers : (a : ℕ) → is_busy (S.doing a) ≡ true → Runs a
    pub written : (a : ℕ) → IsHeldBy a (S.doing a)
    pub facts : (c : ℕ) → Runs c → S.replica c ≡ replica_of (if is_late c (S.hold c) then before c else S.registry) c
    pub notes : (f c : ℕ) → S.gone c ≡ false → Each (Leads f c) (S.mail f c)
    pub kills : (f c : ℕ) → S.gone c ≡ false → Each (λ l. AllDead S.registry (kills_in l)) (S.mail f c)
    pub dead : (a s : ℕ) → list_any (λ d. d == s) (S.dead a) ≡ true
        → S.registry.dead (record { node = a; serial = s }) ≡ true
    pub struck : (a : ℕ) → AreStruck a (S.struck a)
    -- a node that is awaited has one letter to write on its way, or one answer on its way back; no other has any
    pub sessions : (h c : ℕ) → Runs h → Runs c
        → count_of carries (S.mail h c) + count_of is_applied (S.mail c h) ≡ one_if (awaits_node (S.doing h) c)
