-- What a turn leaves of a node's links: whatever no sending and no taking changes.
use Rattle.std.proofs.Common.{◌≡◌, ℕ, List, [], ◌∷◌, sym, ap, ◌∙◌, inl, inr}
use Rattle.std.specs.Prelude.{◌⊎◌}
use Rattle.link.specs.declared.faults.LinkFault.{LinkFault}
use Rattle.tray.specs.Held.{Waiting}
use Rattle.tray.specs.Draining.{Sends, DrainedAll}
use Rattle.node_loop.specs.declared.item.Item.{Item}
use Rattle.node_loop.specs.Held.{Looping}
use Rattle.node_loop.specs.Steps.{Outcome}
use Rattle.node_loop.specs.Turned.{Took, Missed, Turned}

module _ {S X : Type 0} (posts : S → ℕ → Item → S → Type 0) (refused : S → ℕ → Item → LinkFault → Type 0) (takes : S → ℕ → Item → S → Type 0) (misses : S → Type 0) (held : ℕ → Type 0) (f : S → X) (by_post : (s : S) (to : ℕ) (i : Item) (t : S) → posts s to i t → f t ≡ f s) (by_taking : (s : S) (from : ℕ) (i : Item) (t : S) → takes s from i t → f t ≡ f s) where
  sends_keep : (to : ℕ) (s : S) (items : List Item) (t : S) → Sends posts to s items t → f t ≡ f s
  sends_keep to s [] t h = ap f (sym h)
  sends_keep to s (i ∷ items) t h = sends_keep to h.0 items t h.2 ∙ by_post s to i h.0 h.1

  drains_keep : (vs ws : List (Waiting Item)) (s t : S) → DrainedAll posts refused vs s ws t → f t ≡ f s
  drains_keep [] [] s t h = ap f (sym h)
  drains_keep [] (w ∷ ws) s t h = absurd h
  drains_keep (v ∷ vs) [] s t h = absurd h
  drains_keep (v ∷ vs) (w ∷ ws) s t h = drains_keep vs ws h.0 t h.3 ∙ sends_keep v.receiver s h.2.sent h.0 h.2.sends

  pub turn_keeps : (a : Looping) (s : S) (r : Outcome) (b : Looping) (t : S) → Turned posts refused takes misses held a s r b t
      → f t ≡ f s
  turn_keeps a s r b t h = at_end h.turned ∙ drains_keep a.tray h.tray s h.between h.drained
    where
      mid : Looping
      mid = record a { tray = h.tray }

      at_end : Took posts refused takes misses mid h.between r b t ⊎ Missed posts refused takes misses mid h.between r b t
          → f t ≡ f h.between
      at_end (inl took) = by_taking h.between took.from took.item t took.taken
      at_end (inr missed) = ap f missed.still
