-- What it means to deliver: the first letter that waits is delivered, and so on until none waits.
use mathlib.Core.Logic.{◌⊎◌}
use Rattle.std.specs.Prelude.{ℕ, true, ◌≡◌, ◌<◌, ◌≤◌, ◌↔◌, Contains, Some, None, length, List, [], ◌∷◌, ◌++◌}
use Rattle.protocol_model.specs.World.{Opening, in_world, World, WorldEvent, Deliver, run, next_delivery, deliveries_left}
use Rattle.protocol_model.specs.Quiet.{Runs, IsQuiet}
use Rattle.protocol_model.specs.Script.{Line, Output, printed}

-- a letter from a node of the world, f, to a running node, t, waits on their link
pub record LetterWaits (o : Opening) (w : World) (f t : ℕ) : Type 0 where
  pub sender : in_world o f ≡ true
  pub receiver : Runs o w t
  pub waits : w.links.queue f t ≡ [] → ⊥

-- the event is the delivery on the first link on which a letter waits, by senders, then receivers
pub record IsFirstDelivery (o : Opening) (w : World) (e : WorldEvent) : Type 0 where
  pub sender : ℕ
  pub receiver : ℕ
  pub delivery : e ≡ Deliver sender receiver
  pub waits : LetterWaits o w sender receiver
  pub first : (f t : ℕ) → LetterWaits o w f t → (sender < f) ⊎ ((sender ≡ f) × (receiver ≤ t))

-- What is delivered next in a world, what `settle` delivers, and when it prints `settled`
pub record DeliversTheFirst (o : Opening) (w : World) : Type 0 where
  -- the next delivery is the first, and there is none exactly where the world is quiet
  pub none : (next_delivery o w ≡ None) ↔ IsQuiet o w
  pub some : (e : WorldEvent) → next_delivery o w ≡ Some e → IsFirstDelivery o w e
  -- each delivery of `settle` is the first in the world behind those before it
  pub each : (most : ℕ) (before after : List WorldEvent) (e : WorldEvent) → deliveries_left o most w ≡ before ++ e ∷ after →
      IsFirstDelivery o (run o w before) e
  -- there are no more than are allowed, and where there are fewer the world behind them is quiet
  pub limit : (most : ℕ) → length (deliveries_left o most w) ≤ most
  pub stops : (most : ℕ) → length (deliveries_left o most w) < most → IsQuiet o (run o w (deliveries_left o most w))
  -- behind its events a script's line `settle` prints `settled` exactly where the world is quiet then
  pub prints : (most : ℕ) (es : List WorldEvent) →
      Contains (printed o most w Line.Settle es) Output.Settled ↔ IsQuiet o (run o w es)
