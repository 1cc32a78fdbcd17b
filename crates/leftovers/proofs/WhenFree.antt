-- While no operation of its group holds, who is dead in the registry is dead at its running node.
use Rattle.std.proofs.Common.{ℕ, Bool, true, false, ◌≡◌, Option, Some, None, List, [], ◌∷◌, refl, sym, ◌∙◌, inl, inr}
use Rattle.std.specs.Prelude.{◌||◌, IsTrue, is_none}
use Rattle.registry_model.specs.Process.{Process}
use Rattle.registry_model.specs.History.{Hold, hold_at}
use Rattle.protocol_model.specs.Letter.{Letter}
use Rattle.protocol_model.specs.World.{Opening, World}
use Rattle.headline.proofs.Invariants.{Each, is_write, standing_at, IsOnItsWay}
use Rattle.headline.proofs.Together
use Rattle.leftovers.proofs.Extends.{has_kill, kills_by}
use Rattle.leftovers.proofs.Carried.{doomed_along}
use Rattle.headline.specs.Clauses.{world}
use Rattle.headline.specs.Worlds.{OfNodes}
use Rattle.leftovers.specs.Leftovers.{DeathsAreCarriedOutWhenFree}

-- a letter by which somebody dies carries an operation out
kill_writes : (o : Opening) (w : World) (p : Process) (l : Letter) → kills_by p l ≡ true → is_write o w l ≡ true
kill_writes o w p (Letter.Admit j settled) h = refl
kill_writes o w p (Letter.Welcome members pairs told fate) h = refl
kill_writes o w p _ h = cc

-- so none is on its way where no operation holds
no_kill : (o : Opening) (w : World) (f c : ℕ) (p : Process) → hold_at (standing_at o w) c ≡ None → (ls : List Letter)
    → Each (IsOnItsWay o w f c) ls → has_kill p ls ≡ true → ⊥
no_kill o w f c p free [] notes h = cc
no_kill o w f c p free (l ∷ ls) notes h = go (kills_by p l) refl h
    (no_kill o w f c p free ls notes.1)
  where
    go : (b : Bool) → kills_by p l ≡ b → (b || has_kill p ls) ≡ true → (has_kill p ls ≡ true → ⊥) → ⊥
    go true k _ none = let (hold, holds, home, up, acts) = notes.0 (kill_writes o w p l k) in cc (sym free ∙ holds)
    go false k more none = none more

nothing_holds : (h : Option Hold) → IsTrue (is_none h) → h ≡ None
nothing_holds None t = refl
nothing_holds (Some hold) t = cc t

pub deaths_are_carried_out_when_free : OfNodes DeathsAreCarriedOutWhenFree
deaths_are_carried_out_when_free o es p free up client known = elim (doomed_along o es p client up known) [
  | inl h ↦ h
  | inr k ↦ absurd (no_kill o (world o es) k.0 p.node p (nothing_holds (hold_at (standing_at o (world o es)) p.node) free)
      ((world o es).links.queue k.0 p.node)
      ((Together.replicas o (world o es) (Together.run_whole o es).kept).notes k.0 p.node up.1) k.2)
]
