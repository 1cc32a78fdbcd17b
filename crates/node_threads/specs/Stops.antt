-- How the turns of a node's thread ended.
use Rattle.std.specs.Prelude.{ℕ, Bool, zero, suc, true, false, ◌≡◌, is_ok}
use Rattle.node_loop.specs.Held.{Looping}
use Rattle.node_loop.specs.Steps.{Outcome}
use Rattle.node_loop.specs.Coming.{Turns}
use Rattle.node_seats.specs.declared.host.Stop.{Stop}
use Rattle.node_seats.specs.declared.host.Stop.TheVariants.{Asked, Failed}
use Rattle.node_threads.specs.Soundness.{IsBesides}

-- a turn, which came to this
pub record CameTo (r : Outcome) (a b : Looping) : Type 0 where
  pub turn : Turns a b
  pub outcome : turn.outcome ≡ r

-- a turn that went on, or failed; behind it readers were shown what it did, and its replies were handed out
pub record Plays (goes_on : Bool) (a b : Looping) : Type 0 where
  pub behind : Looping
  pub outcome : Outcome
  pub turn : CameTo outcome a behind
  pub went : is_ok outcome ≡ goes_on
  pub besides : IsBesides behind b

-- so many turns, each of which went on
abbrev pub GoesOn : ℕ → Looping → Looping → Type 0
GoesOn zero a b = b ≡ a
GoesOn (suc n) a b = (m : Looping) × GoesOn n a m × Plays true m b

-- The turns from a to b ended for this: where the thread was asked to end each went on; where one failed it was the last, and those before
-- it went on
abbrev pub StopsSo : Stop → Looping → Looping → Type 0
StopsSo Asked a b = (n : ℕ) × GoesOn n a b
StopsSo Failed a b = (n : ℕ) × (m : Looping) × GoesOn n a m × Plays false m b
