-- What a node relies on of a letter, as its core has it and as the protocol has it. They are the same in a world of first nodes, which have no
-- older ones.
use Rattle.std.proofs.Common.{ℕ, true, ◌≡◌, List, sym, ◌∙◌}
use Rattle.std.specs.List.{All}
use Rattle.term.specs.Nodes.{IsFirst}
use Rattle.term.specs.NodeSets.{set_of, with_older}
use Rattle.term.proofs.Older.{held, first_alone}
use Rattle.node_log.specs.declared.Letter.{Letter}
use Rattle.node_log.specs.declared.Letter.TheVariants.{SetLock, LockAnswer, GiveBack, GivenBack, ReleaseOf, Apply, Applied, JoinAsk, JoinRefused, Admit, Welcome, Down}
use Rattle.node_log.specs.NodeEventsLetters.{letter_of}
use Rattle.node_core.specs.Steps.{IsSaidBy}
use Rattle.node_loop.specs.Said.{IsSaid}

-- of these nodes none has started but themselves
pub of_first : (world : List ℕ) → All IsFirst world → (c : ℕ) → with_older world c ≡ true → set_of world c ≡ true
of_first world first c e = sym (first_alone world first c) ∙ e

module _ (world : List ℕ) (a f : ℕ) where
  pub said_as : (l : Letter) → IsSaid (set_of world) f a (letter_of l) → IsSaidBy world a f l
  said_as (SetLock id p) h = tt
  said_as (LockAnswer id p granted) h = tt
  said_as (GiveBack id p ack) h = tt
  said_as (GivenBack p) h = tt
  said_as (ReleaseOf p) h = tt
  said_as (Apply change) h = tt
  said_as Applied h = tt
  said_as (JoinAsk pairs) h = held world f h
  said_as JoinRefused h = tt
  said_as (Admit body) h = held world body.joiner h
  said_as (Welcome body) h = record {
    members = λ c e. held world c (h.members c e);
    told = λ c e. held world c (h.told c e);
    self = h.self;
    here = h.here;
    rising = h.rising;
  }
  said_as Down h = (held world f h.0, h.1)

module _ (world : List ℕ) (first : All IsFirst world) (a f : ℕ) where
  pub as_said : (l : Letter) → IsSaidBy world a f l → IsSaid (set_of world) f a (letter_of l)
  as_said (SetLock id p) h = tt
  as_said (LockAnswer id p granted) h = tt
  as_said (GiveBack id p ack) h = tt
  as_said (GivenBack p) h = tt
  as_said (ReleaseOf p) h = tt
  as_said (Apply change) h = tt
  as_said Applied h = tt
  as_said (JoinAsk pairs) h = of_first world first f h
  as_said JoinRefused h = tt
  as_said (Admit body) h = of_first world first body.joiner h
  as_said (Welcome body) h = record {
    members = λ c e. of_first world first c (h.members c e);
    told = λ c e. of_first world first c (h.told c e);
    self = h.self;
    here = h.here;
    rising = h.rising;
  }
  as_said Down h = (of_first world first f h.0, h.1)
