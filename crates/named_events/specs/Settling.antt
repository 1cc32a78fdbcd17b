-- What `settle` delivers in a world of named nodes, and what it prints: as in a world, by names.
-- f, g, t and u are node names, es the events so far.
use mathlib.Core.Logic.{◌⊎◌}
use Rattle.std.specs.Prelude.{ℕ, true, false, ◌≡◌, ◌<◌, ◌≤◌, ◌↔◌, Some, None, length, map, List, [], ◌∷◌, ◌++◌}
use Rattle.protocol_model.specs.World.{left}
use Rattle.creations.specs.NodeNames.{NamedOpening, is_name, node_of}
use Rattle.creations.specs.NamedWorld.{NamedWorld, NamedEvent, Deliver, named_answers, happens_named, run_named, after_events}
use Rattle.creations.specs.NamedScript.{NamedLine, Said, Settled, SettleLimit, next_named, named_deliveries_left, events_in, printed}
use Rattle.creations.specs.Worlds.{IsQuiet}
use Rattle.creations.specs.WorldsOfNames.{of_names}

module _ (o : NamedOpening) (w : NamedWorld) where
  -- a letter from a node of the name f waits for the present node of the name t, which runs
  pub record LetterWaitsByName (f t : ℕ) : Type 0 where
    pub sender : is_name o f ≡ true
    pub receiver : is_name o t ≡ true
    pub runs : left w.world (node_of o t (w.present t)) ≡ false
    pub creation : ℕ
    pub first : 1 ≤ creation
    pub last : creation ≤ w.present f
    pub waits : w.world.links.queue (node_of o f creation) (node_of o t (w.present t)) ≡ [] → ⊥

  -- no letter does
  abbrev pub NoLetterWaits : Type 0
  NoLetterWaits = (f t : ℕ) → LetterWaitsByName f t → ⊥

  -- the event is the delivery from the first name of which a letter waits, by senders, then receivers
  pub record IsFirstByName (e : NamedEvent) : Type 0 where
    pub sender : ℕ
    pub receiver : ℕ
    pub delivery : e ≡ Deliver sender receiver
    pub waits : LetterWaitsByName sender receiver
    pub first : (g u : ℕ) → LetterWaitsByName g u → (sender < g) ⊎ ((sender ≡ g) × (receiver ≤ u))

-- What is delivered next in a world of named nodes, what `settle` delivers, and what it prints
pub record SettlesByName (o : NamedOpening) (es : List NamedEvent) (w : NamedWorld) : Type 0 where
  -- the next delivery is the first, and there is none exactly where no letter waits
  pub none : (next_named o w ≡ None) ↔ NoLetterWaits o w
  pub some : (e : NamedEvent) → next_named o w ≡ Some e → IsFirstByName o w e
  -- each delivery of `settle` is the first in the world behind those before it
  pub each : (most : ℕ) (before after : List NamedEvent) (e : NamedEvent) → named_deliveries_left o most w ≡ before ++ e ∷ after →
      IsFirstByName o (run_named o w before) e
  -- there are no more than are allowed, and where there are fewer no letter waits behind them
  pub limit : (most : ℕ) → length (named_deliveries_left o most w) ≤ most
  pub stops : (most : ℕ) → length (named_deliveries_left o most w) < most →
      NoLetterWaits o (run_named o w (named_deliveries_left o most w))
  -- the line prints the answers to its deliveries, first those to the first
  pub answers : (e : NamedEvent) (ds : List NamedEvent) → printed o w NamedLine.Settle (e ∷ ds)
      ≡ map Said (named_answers o w e) ++ printed o (happens_named o w e) NamedLine.Settle ds
  -- behind these, and so where there are none, stands `settled` if no letter waits, and else that the limit was reached
  pub settled : NoLetterWaits o w → printed o w NamedLine.Settle [] ≡ Settled ∷ []
  pub unsettled : (NoLetterWaits o w → ⊥) → printed o w NamedLine.Settle [] ≡ SettleLimit ∷ []
  -- and these deliveries are the events of the line
  pub plays : (most : ℕ) → events_in o most w NamedLine.Settle ≡ named_deliveries_left o most w
  -- no letter waits by names exactly where none waits on a link to a node that has started and runs
  pub quiet : NoLetterWaits o w ↔ IsQuiet (of_names o) w

-- So it is behind all events
abbrev pub SettlingByName : Type 0
SettlingByName = (o : NamedOpening) (es : List NamedEvent) → SettlesByName o es (after_events o es)
