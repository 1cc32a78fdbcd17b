-- A turn changes neither a loop's node nor the world that this knows of.
use Rattle.std.proofs.Common.{◌≡◌, ℕ, List, refl, ap, ◌∙◌}
use Rattle.node_loop.specs.Held.{Looping}
use Rattle.node_loop.specs.Coming.{Turns}
use Rattle.node_loop.proofs.Moving.{IsKept, turns}

-- the loop's node has this name, and knows of this world
pub record IsAt (name : ℕ) (world : List ℕ) (a : Looping) : Type 0 where
  pub named : a.core.name ≡ name
  pub knows : a.core.world ≡ world

module _ (name : ℕ) (world : List ℕ) where
  steps : (a b : Looping) → IsAt name world a → b.core.name ≡ a.core.name → b.core.world ≡ a.core.world → IsAt name world b
  steps a b h n w = record { named = n ∙ h.named; knows = w ∙ h.knows }

  kept : IsKept (IsAt name world)
  kept = record {
    besides = λ a tray wait worked h. record { named = h.named; knows = h.knows };
    refuses = λ a ticket fault h. record { named = h.named; knows = h.knows };
    waits = λ a ticket h. record { named = h.named; knows = h.knows };
    makes = λ k a b h M. steps a b h M.step.name M.step.world;
    rests = λ a b h R. steps a b h R.core.name R.core.world;
    begun = λ k a b h B. steps a b h B.step.name B.step.world;
    departs = λ a b h D. steps a b h (ap (λ (x : Looping). x.core.name) D.behind ∙ D.step.step.name)
        (ap (λ (x : Looping). x.core.world) D.behind ∙ D.step.step.world);
    departing = λ a b h B. steps a b h B.step.name B.step.world;
  }

pub turns_stay : (a b : Looping) → Turns a b → IsAt a.core.name a.core.world b
turns_stay a b T = turns (IsAt a.core.name a.core.world) (kept a.core.name a.core.world) a b (record { named = refl; knows = refl }) T
