-- What sending from a tray comes to, in the words of the links.
use Rattle.std.specs.Prelude.{◌≡◌, ℕ, List, [], ◌∷◌, ◌++◌}
use Rattle.link.specs.declared.faults.LinkFault.{LinkFault}
use Rattle.tray.specs.Held.{Waiting}

module _ {L S : Type 0} (posts : S → ℕ → L → S → Type 0) where
  -- these letters were sent to this node, one after another
  abbrev pub Sends : ℕ → S → List L → S → Type 0
  Sends to s [] t = s ≡ t
  Sends to s (l ∷ ls) t = (r : S) × posts s to l r × Sends to r ls t

module _ {L S : Type 0} (refuses : S → ℕ → L → LinkFault → Type 0) where
  -- of what is left for this node, the first was handed back for some fault
  abbrev pub Stops : ℕ → List L → S → Type 0
  Stops to [] s = Unit {0}
  Stops to (l ∷ ls) s = (fault : LinkFault) × refuses s to l fault

module _ {L S : Type 0} (posts : S → ℕ → L → S → Type 0) (refuses : S → ℕ → L → LinkFault → Type 0) where
  -- what waited for a node is what was sent to it, in that order, and then what is left
  pub record Drained (to : ℕ) (old : List L) (s : S) (left : List L) (t : S) : Type 0 where
    pub sent : List L
    pub split : old ≡ sent ++ left
    pub sends : Sends posts to s sent t
    pub stops : Stops refuses to left t

  -- so with one receiver after another
  abbrev pub DrainedAll : List (Waiting L) → S → List (Waiting L) → S → Type 0
  DrainedAll [] s [] t = s ≡ t
  DrainedAll (v ∷ vs) s (w ∷ ws) t = (r : S) × (w.receiver ≡ v.receiver) × Drained v.receiver v.letters s w.letters r × DrainedAll vs r ws t
  DrainedAll [] s (w ∷ ws) t = ⊥
  DrainedAll (v ∷ vs) s [] t = ⊥
