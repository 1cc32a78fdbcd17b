-- What is tried where no item is found, and which leave.
use Rattle.std.proofs.Common.{◌≡◌, ◌==◌, ◌&&◌, ◌-◌, ℕ, Bool, true, false, Option, Some, None, List, [], ◌∷◌, refl, sym, ap, subst, ◌∙◌}
use Rattle.std.specs.Option.{option_flatten}
use Rattle.node_log.specs.declared.LocalEvent.TheVariants.{Retry}
use Rattle.node_loop.specs.declared.item.Ticket.{Ticket}
use Rattle.node_loop.specs.Desks.{first_leave}
use Rattle.node_loop.specs.Held.{Looping, has_retry, is_due}
use Rattle.node_loop.specs.Steps.{Outcome, by_event, Goes}
use Rattle.node_loop.specs.Items.{leaver, Leaves, Then, Waits}
use Rattle.node_loop.proofs.Concluding.{at_true, at_false}

-- the first leave that waits
pub first_is : (leaves : List (Option Ticket)) → option_flatten (first_leave leaves) ≡ leaver leaves
first_is [] = refl
first_is (None ∷ ts) = refl
first_is (Some t ∷ ts) = refl

both_left : (x y : Bool) → (x && y) ≡ true → x ≡ true
both_left true y e = refl
both_left false y e = cc

module _ (a m : Looping) (set : m ≡ record a { wait = a.wait - 1 }) where
  -- what is due then waits still
  pub due_waits : is_due a ≡ true → has_retry m ≡ true
  due_waits e = ap (λ (x : Looping). has_retry x) set ∙ both_left (has_retry a) (a.wait == 0) e

  pub retries : (r : Outcome) (b : Looping) → is_due a ≡ true → Then (Goes (by_event None Retry m)) Leaves m r b → Waits a r b
  retries r b e h = at_true _ _ (is_due a) e (subst (λ (x : Looping). Then (Goes (by_event None Retry x)) Leaves x r b) set h)

  pub rests : (r : Outcome) (b : Looping) → is_due a ≡ false → Leaves m r b → Waits a r b
  rests r b e h = at_false _ _ (is_due a) e (subst (λ (x : Looping). Leaves x r b) set h)

-- what holds of the node that a permit names holds of the loop's own
pub held_at : (held : ℕ → Type 0) (n : ℕ) (a b : Looping) → n ≡ b.core.name → a ≡ b → held n → held a.core.name
held_at held n a b e is h = subst held (e ∙ sym (ap (λ (l : Looping). l.core.name) is)) h
