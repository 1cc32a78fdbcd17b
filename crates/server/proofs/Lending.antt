-- Seats that are given out to be lent, and what came of a console that they were lent to.
use Rattle.std.proofs.Common.{ℕ, Bool, true, false, cond, ◌==◌, ◌≡◌, ◌+◌, All, List, [], ◌∷◌, ◌++◌, Option, Some, Result, Ok, Err, eqb-true, length, length-append, refl, sym, ap, subst, arith, ◌∙◌}
use Rattle.std.specs.Prelude.{MatchResult, unwrap_or}
use Rattle.std.proofs.lemmas.List.Elements.{All-nil, All-push}
use Rattle.node_threads.specs.Seats.{Sitting, first_at}
use Rattle.text_lines.specs.declared.faults.StreamFault.{StreamFault}
use Rattle.console.specs.declared.ends.ConsoleEnd.{ConsoleEnd}
use Rattle.console.specs.Consoles.{EndsBy, Stops}
use Rattle.term.specs.declared.limits.TheConstants.{STAYING_LINES}
use Rattle.console.specs.Knowing.{Known, nothing_known}
use Rattle.console.specs.Lent.{LentAnswers, LentStands}
use Rattle.server.specs.declared.staying.notes.Parting.{Parting}
use Rattle.server.specs.Notes.{parting_of}
use Rattle.server.specs.Staying.{AreSeatsOf}
use Rattle.server.specs.Visits.{IsServedAt}

-- a seat that is made at a node is one of that
is_at : (node : ℕ) (seats : List Sitting) (s : Sitting) → first_at node seats ≡ Some s → s.node ≡ node
is_at node [] s h = cc
is_at node (x ∷ xs) s h = go (x.node == node) refl h (is_at node xs s)
  where
    go : (b : Bool) → (x.node == node) ≡ b → cond b (Some x) (first_at node xs) ≡ Some s → (first_at node xs ≡ Some s → s.node ≡ node)
        → s.node ≡ node
    go true is e rec =
        let same : x ≡ s = ap (λ (o : Option Sitting). unwrap_or o x) e in
        subst (λ (y : Sitting). y.node ≡ node) same (eqb-true x.node node is)
    go false is e rec = rec e

-- none was made
pub no_seat : (node : ℕ) (seats : List Sitting) → seats ≡ [] → AreSeatsOf node 0 seats
no_seat node seats none = record {
  at = subst (λ (l : List Sitting). All (λ s. s.node ≡ node) l) (sym none) (All-nil (λ s. s.node ≡ node));
  counted = ap (λ (l : List Sitting). length l) none;
}

-- one more was, and stands behind the others, of which there is room for one more
pub one_seat_more : (node many : ℕ) (seats roomy more next : List Sitting) (s : Sitting) → roomy ≡ seats → more ≡ roomy ++ s ∷ []
    → AreSeatsOf node many seats → first_at node next ≡ Some s → AreSeatsOf node (many + 1) more
one_seat_more node many seats roomy more next s same is are made = record {
  at = subst (λ (l : List Sitting). All (λ t. t.node ≡ node) l) (sym behind)
      (All-push (λ t. t.node ≡ node) seats s are.at (is_at node next s made));
  counted = omega (arith, ap (λ (l : List Sitting). length l) behind, length-append seats (s ∷ []), are.counted);
}
  where
    behind : more ≡ seats ++ s ∷ []
    behind = is ∙ ap (λ (l : List Sitting). l ++ s ∷ []) same

-- so a console ended, well or with a fault, at the first node of a name, which is seen as that name
pub served_at : (node first : ℕ) → first ≡ node → (input rest old new : Option (List ℕ)) (ended : Result ConsoleEnd StreamFault)
    (parting : Parting) → MatchResult ended
    (λ how. (known : Known) × EndsBy LentAnswers LentStands true STAYING_LINES input rest old new (nothing_known first) known how)
    (λ fault. (known : Known) × Stops LentAnswers LentStands true STAYING_LINES input rest old new (nothing_known first) known fault)
    → parting ≡ parting_of ended → IsServedAt node input rest old new parting
served_at node first same input rest old new (Ok how) parting talked parted = record {
  known = talked.0;
  ended = Ok how;
  talks = subst
      (λ (n : ℕ). EndsBy LentAnswers LentStands true STAYING_LINES input rest old new (nothing_known n) talked.0 how) same talked.1;
  parted = parted;
}
served_at node first same input rest old new (Err fault) parting stopped parted = record {
  known = stopped.0;
  ended = Err fault;
  talks = subst
      (λ (n : ℕ). Stops LentAnswers LentStands true STAYING_LINES input rest old new (nothing_known n) stopped.0 fault) same stopped.1;
  parted = parted;
}
