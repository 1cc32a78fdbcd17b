-- What each sending and each taking of an end of lines keeps, a turn keeps.
use Rattle.std.proofs.Common.{◌≡◌, ℕ, Bool, true, false, List, [], ◌∷◌, sym, subst, inl, inr}
use Rattle.std.specs.Prelude.{◌⊎◌, ◌==◌, if◌then◌else◌}
use Rattle.tray.specs.Held.{Waiting}
use Rattle.tray.specs.Draining.{Sends, DrainedAll}
use Rattle.node_loop.specs.declared.item.Item.{Item}
use Rattle.node_loop.specs.declared.item.Item.TheVariants.{Letter, Task}
use Rattle.node_loop.specs.declared.item.Stamped.{Stamped}
use Rattle.node_loop.specs.Held.{Looping}
use Rattle.node_loop.specs.Steps.{Outcome}
use Rattle.node_loop.specs.Turned.{Took, Missed, Turned}
use Rattle.wire_end.specs.declared.wire_end.Wiring.{Wiring}
use Rattle.wire_end.specs.Wirings.{kept, printed, Posts, Refuses, Takes, Misses}

module _ (P : Wiring → Type 0) (by_post : (s : Wiring) (to : ℕ) (i : Item) (t : Wiring) → Posts s to i t → P s → P t) (by_taking : (s : Wiring) (from : ℕ) (i : Item) (t : Wiring) → Takes s from i t → P s → P t) where
  sends_hold : (to : ℕ) (s : Wiring) (items : List Item) (t : Wiring) → Sends Posts to s items t → P s → P t
  sends_hold to s [] t h x = subst P h x
  sends_hold to s (i ∷ items) t h x = sends_hold to h.0 items t h.2 (by_post s to i h.0 h.1 x)

  drains_hold : (vs ws : List (Waiting Item)) (s t : Wiring) → DrainedAll Posts Refuses vs s ws t → P s → P t
  drains_hold [] [] s t h x = subst P h x
  drains_hold [] (w ∷ ws) s t h x = absurd h
  drains_hold (v ∷ vs) [] s t h x = absurd h
  drains_hold (v ∷ vs) (w ∷ ws) s t h x = drains_hold vs ws h.0 t h.3 (sends_hold v.receiver s h.2.sent h.0 h.2.sends x)

  pub turn_holds : (a : Looping) (s : Wiring) (r : Outcome) (b : Looping) (t : Wiring)
      → Turned Posts Refuses Takes Misses (λ n. Unit {0}) a s r b t → P s → P t
  turn_holds a s r b t h x = at_end h.turned (drains_hold a.tray h.tray s h.between h.drained x)
    where
      mid : Looping
      mid = record a { tray = h.tray }

      at_end : Took Posts Refuses Takes Misses mid h.between r b t ⊎ Missed Posts Refuses Takes Misses mid h.between r b t
          → P h.between → P t
      at_end (inl took) y = by_taking h.between took.from took.item t took.taken y
      at_end (inr missed) y = subst P (sym missed.still) y

-- what an end is and has read no sending and no taking changes
module _ {X : Type 0} (f : Wiring → X) (own : (s : Wiring) (l : Stamped) → f (kept l s) ≡ f s) (other : (s : Wiring) (to : ℕ) (l : Stamped) → f (printed to l s) ≡ f s) where
  pub same_by_post : (s : Wiring) (to : ℕ) (i : Item) (t : Wiring) → Posts s to i t → (x : X) → f s ≡ x → f t ≡ x
  same_by_post s to (Letter l) t h x e = subst (λ (u : Wiring). f u ≡ x) (sym h.1) (go (to == s.node))
    where
      go : (b : Bool) → f (if b then kept l s else printed to l s) ≡ x
      go true = subst (λ (y : X). y ≡ x) (sym (own s l)) e
      go false = subst (λ (y : X). y ≡ x) (sym (other s to l)) e
  same_by_post s to (Task k) t h x e = absurd h
