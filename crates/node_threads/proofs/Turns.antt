-- A turn is one of its node.
use Rattle.std.proofs.Common.{◌≡◌, ℕ, ap, ◌∙◌}
use Rattle.node_loop.specs.Held.{Looping}
use Rattle.node_loop.specs.Coming.{Turns}
use Rattle.node_loop.proofs.Moving.{IsKept, turns}

-- the log is this node's
abbrev IsOf : ℕ → Looping → Type 0
IsOf n a = a.log.node ≡ n

kept : (n : ℕ) → IsKept (IsOf n)
kept n = record {
  besides = λ a tray wait worked h. h;
  refuses = λ a ticket fault h. h;
  waits = λ a ticket h. h;
  makes = λ k a b h M. ap (λ l. l.node) M.log ∙ h;
  rests = λ a b h R. ap (λ l. l.log.node) R.others ∙ h;
  begun = λ k a b h B. ap (λ l. l.node) B.log ∙ h;
  departs = λ a b h D. ap (λ l. l.log.node) D.behind ∙ (ap (λ l. l.node) D.step.log ∙ h);
  departing = λ a b h B. ap (λ l. l.node) B.log ∙ h;
}

pub turned : (n : ℕ) (a b : Looping) → a.log.node ≡ n → Turns a b → b.log.node ≡ n
turned n a b h T = turns (IsOf n) (kept n) a b h T
