-- The turns of one lock call alone in a quiet world: what each of its letters makes of the node that reads it.
use Rattle.std.proofs.Common.{ℕ, Bool, true, false, ◌≡◌, ◌<◌, refl, sym, ap, ◌∙◌}
use Rattle.std.specs.Prelude.{not, ◌&&◌, ◌||◌, ◌==◌, if◌then◌else◌}
use Rattle.std.proofs.Math.Bool.{and-false}
use Rattle.std.proofs.lemmas.Bool.{eqb-true}
use Rattle.registry_model.specs.Process.{Process, Nodes}
use Rattle.protocol_model.specs.Letter.{Id}
use Rattle.protocol_model.specs.Round.{Mark, Out, Later, Owes, Granted, Refused, Lost, Gone, Round, is_empty, is_out, is_owes, is_refused, is_gone, has_granted, asked, owes, is_over, granted, is_held, asked_all, Held, GiveBack, ending}
use Rattle.protocol_model.specs.World.{Opening, World}
use Rattle.moves.proofs.Indices.{both, empty_at, is_empty_from}
use Rattle.leftovers.proofs.Rounds.{Rounded, is_past, is_unasked, fits_boss}
use Rattle.lock_answers.proofs.BadMarks.{is_bad, failed_bad}
use Rattle.lock_answers.proofs.Winning.{held_some}
use Rattle.lock_answers.proofs.QuietBase.{grants, verdict, IsMark}

module _ (o : Opening) (w : World) (p : Process) (id : Id) (k : ℕ) (asks : Nodes)
    (below : (x : ℕ) → asks x ≡ true → x < o.bound) where
  -- who has a mark other than `Out` is asked
  asked_mark : (x : ℕ) (m : Mark) → IsMark o w p id k asks x m → (m ≡ Out → ⊥) → asks x ≡ true
  asked_mark x Out h ne = absurd (ne refl)
  asked_mark x Later h ne = h
  asked_mark x Owes h ne = h
  asked_mark x Granted h ne = h.0
  asked_mark x Refused h ne = h.0
  asked_mark x Lost h ne = absurd h
  asked_mark x Gone h ne = absurd h

  bad_mark : (x : ℕ) (m : Mark) → IsMark o w p id k asks x m → is_bad m ≡ true
      → (asks x ≡ true) × (grants o w p id k asks x ≡ false)
  bad_mark x Refused h e = h
  bad_mark x Lost h e = absurd h
  bad_mark x Gone h e = absurd h
  bad_mark x Out h e = cc e
  bad_mark x Later h e = cc e
  bad_mark x Owes h e = cc e
  bad_mark x Granted h e = cc e

  -- a round that fails met a node that wouldn't grant
  pub fails : (r : Round) → ((x : ℕ) → IsMark o w p id k asks x (r.mark x)) → is_over o.bound r ≡ true → (s : Nodes)
      → ending o.bound (asked r) r ≡ GiveBack s → verdict o w p id k asks ≡ false
  fails r marks over s e =
      let one : (x : ℕ) × (is_bad (r.mark x) ≡ true) = failed_bad o.bound r s over e (λ h. below r.boss
      (asked_mark r.boss (r.mark r.boss) (marks r.boss) (λ i. cc (ap (λ (m : Mark). not (is_out m)) i, h)))) in
      let bad : (asks one.0 ≡ true) × (grants o w p id k asks one.0 ≡ false) = bad_mark one.0 (r.mark one.0) (marks one.0) one.1 in
      ap (λ (b : Bool). not (is_empty o.bound asks) && b)
      (unless_empty one.0 bad (is_empty o.bound (λ c. asks c && not (grants o w p id k asks c))) refl)
      ∙ and-false (not (is_empty o.bound asks))
    where
      unless_empty : (x : ℕ) → (asks x ≡ true) × (grants o w p id k asks x ≡ false) → (b : Bool)
          → is_empty o.bound (λ c. asks c && not (grants o w p id k asks c)) ≡ b → b ≡ false
      unless_empty x h false e = refl
      unless_empty x h true e = cc (
        empty_at o.bound (λ c. asks c && not (grants o w p id k asks c)) e x (below x h.0),
        ap (λ (b : Bool). b && not (grants o w p id k asks x)) h.0,
        h.1,
      )

  -- a round that is held met nodes that would grant, and no others
  pub holds : (r : Round) → Rounded r → ((x : ℕ) → IsMark o w p id k asks x (r.mark x)) → is_over o.bound r ≡ true
      → ending o.bound (asked r) r ≡ Held → verdict o w p id k asks ≡ true
  holds r rounded marks over e = rw (somebody, all) refl
    where
      one : (x : ℕ) × (x < o.bound) × (granted r x ≡ true)
      one = held_some o.bound (asked r) r e

      held : is_held o.bound (asked r) r ≡ true
      held = go (is_held o.bound (asked r) r) e
        where
          go : (b : Bool) → (if b then Held else GiveBack (granted r)) ≡ Held → b ≡ true
          go true h = refl
          go false h = cc

      first : ((has_granted (r.mark r.boss) && is_empty o.bound (λ c. is_refused (r.mark c)))
          && asked_all o.bound (asked r) r) ≡ true
      first = (both ((has_granted (r.mark r.boss) && is_empty o.bound (λ c. is_refused (r.mark c)))
          && asked_all o.bound (asked r) r) (not (is_empty o.bound (granted r))) held).0

      two : (has_granted (r.mark r.boss) ≡ true) × (is_empty o.bound (λ c. is_refused (r.mark c)) ≡ true)
      two = both (has_granted (r.mark r.boss)) (is_empty o.bound (λ c. is_refused (r.mark c)))
          (both (has_granted (r.mark r.boss) && is_empty o.bound (λ c. is_refused (r.mark c)))
          (asked_all o.bound (asked r) r) first).0

      boss : has_granted (r.mark r.boss) ≡ true
      boss = two.0

      unrefused : is_empty o.bound (λ c. is_refused (r.mark c)) ≡ true
      unrefused = two.1

      answered : is_empty o.bound (owes r) ≡ true
      answered = go (r.mark r.boss) boss over
        where
          go : (m : Mark) → has_granted m ≡ true
              → (is_refused m || is_gone m || has_granted m && is_empty o.bound (owes r)) ≡ true
              → is_empty o.bound (owes r) ≡ true
          go Granted h x = x
          go Lost h x = x
          go Out h x = cc h
          go Later h x = cc h
          go Owes h x = cc h
          go Refused h x = cc h
          go Gone h x = cc h

      somebody : is_empty o.bound asks ≡ false
      somebody = go (is_empty o.bound asks) refl
        where
          mine : (m : Mark) → IsMark o w p id k asks one.0 m → (elim m [ Granted ↦ true | _ ↦ false ]) ≡ true
              → asks one.0 ≡ true
          mine Granted h q = h.0
          mine m h q = cc q

          go : (b : Bool) → is_empty o.bound asks ≡ b → b ≡ false
          go false h = refl
          go true h = cc (empty_at o.bound asks h one.0 one.1, mine (r.mark one.0) (marks one.0) one.2)

      each : (x : ℕ) → x < o.bound → (b : Bool) → asks x ≡ b → (b && not (grants o w p id k asks x)) ≡ false
      each x l false a = refl
      each x l true a = ap not (by (r.mark x) refl (marks x))
        where
          past : (own : Bool) → (x == r.boss) ≡ own → fits_boss own (r.mark r.boss) (r.mark x) ≡ true
              → r.mark x ≡ Later → ⊥
          past true i f h = cc (ap has_granted (sym (ap r.mark (eqb-true x r.boss i)) ∙ h), boss)
          past false i f h = cc (
            ap (λ (b : Bool). if b then is_past (r.mark x) else is_unasked (r.mark x)) (sym boss) ∙ f,
            ap is_past h,
          )

          by : (m : Mark) → r.mark x ≡ m → IsMark o w p id k asks x m → grants o w p id k asks x ≡ true
          by Out i h = cc (h, a)
          by Later i h = absurd (past (x == r.boss) refl (rounded x) i)
          by Owes i h = cc (empty_at o.bound (owes r) answered x l, ap is_owes i)
          by Granted i h = h.1
          by Refused i h = cc (empty_at o.bound (λ c. is_refused (r.mark c)) unrefused x l, ap is_refused i)
          by Lost i h = absurd h
          by Gone i h = absurd h

      all : is_empty o.bound (λ c. asks c && not (grants o w p id k asks c)) ≡ true
      all = is_empty_from o.bound (λ c. asks c && not (grants o w p id k asks c)) (λ c l. each c l (asks c) refl)
