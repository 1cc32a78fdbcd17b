-- What a node can say of its own steps alone: that they are its steps as far as the letters that it reads are such as a node relies on.
use Rattle.std.specs.Prelude.{ℕ, true, false, ◌≡◌, ◌<◌, All, List, [], ◌∷◌, ◌++◌}
use Rattle.protocol_model.specs.Letter.{Letter}
use Rattle.protocol_model.specs.Node.{Node, opening_node}
use Rattle.protocol_model.specs.Turn.{begun, sent_to}
use Rattle.protocol_model.specs.Reading.{receive}
use Rattle.protocol_model.specs.World.{Opening, WorldEvent, At, Deliver, in_world, in_cluster}
use Rattle.closings.specs.Alone.{Stamped, Made, sent, IsTurnOf, Does, Plays, AllPlay, AreConsistent}

-- these are the first of those
abbrev pub Begins : List Stamped → List Stamped → Type 0
Begins some whole = (rest : List Stamped) × (whole ≡ some ++ rest)

-- fits f t l: the letter l from f to t is such as a node relies on
module _ (fits : ℕ → ℕ → Letter → Type 0) where
  -- all that the step of node a sends is such
  abbrev pub SaysFit : ℕ → Made → Type 0
  SaysFit a d = (c : ℕ) → All (fits a c) (sent_to c d.sends)

  -- node a reads the oldest of these letters from f; where that is such, its turn is that of the step, and sends what is such
  abbrev pub ReadsIfFit : Opening → ℕ → ℕ → List Stamped → Node → Made → Type 0
  ReadsIfFit o a f [] v d = ⊥
  ReadsIfFit o a f (l ∷ ls) v d = (l.stamp < d.entry.stamp)
      × (fits f a l.letter
      → ((number : ℕ → ℕ) → IsTurnOf d (receive o.bound a number f l.letter (begun v))) × SaysFit a d)

  -- so a node does what the step says
  abbrev pub DoesIfFit : Opening → (ℕ → List Stamped) → Node → Made → WorldEvent → Type 0
  DoesIfFit o letters v d (At a e) = Does o letters v d (At a e) × SaysFit a d
  DoesIfFit o letters v d (Deliver f t) = ReadsIfFit o t f (letters f) v d

  -- the steps of nodes are guarded: each node does its own, so far
  abbrev pub AreGuarded : Opening → (ℕ → List Made) → Type 0
  AreGuarded o course = AllPlay DoesIfFit o course

  -- guarded steps are consistent
  abbrev pub GuardedEndsAreConsistent : Type 0
  GuardedEndsAreConsistent = (o : Opening) (course : ℕ → List Made) → AreGuarded o course → AreConsistent o course

  -- What node a says at its end: with the letters that it took of each other one, none of a stranger, it did these steps, as far as
  -- it can say so alone; and what it put for each node begins what they send there
  pub record Vouches (o : Opening) (a : ℕ) (took put : ℕ → List Stamped) (ds : List Made) : Type 0 where
    pub plays : Plays DoesIfFit o a took (opening_node (in_cluster o) a) ds
    pub known : (f : ℕ) → in_world o f ≡ false → took f ≡ []
    pub puts : (t : ℕ) → in_world o t ≡ true → Begins (put t) (sent t ds)

  -- Where each node of the world says so, and what it took of another begins what that put for it, the steps of all are consistent.
  -- took a f is what a took of f, and put a t is what a put for t
  abbrev pub VouchedEndsAreConsistent : Type 0
  VouchedEndsAreConsistent = (o : Opening) (course : ℕ → List Made) (took put : ℕ → ℕ → List Stamped)
      → ((a : ℕ) → in_world o a ≡ true → Vouches o a (took a) (put a) (course a))
      → ((a : ℕ) → in_world o a ≡ false → course a ≡ [])
      → ((f t : ℕ) → in_world o f ≡ true → in_world o t ≡ true → Begins (took t f) (put f t))
      → AreConsistent o course
