-- Who has left makes no entry.
use mathlib.Core.Logic.{inl, inr}
use Rattle.std.proofs.Common.{ℕ, true, ◌≡◌, Option, None, List, [], ◌∷◌, ◌++◌, refl, sym, ap, ◌∙◌, subst}
use Rattle.std.specs.Prelude.{Contains, filter, is_none, if◌then◌else◌}
use Rattle.std.proofs.lemmas.Bool.{and_parts, eqb-true}
use Rattle.std.proofs.lemmas.List.Elements.{Contains-append_cases, Contains-append_left, Contains-append_right, filter-append}
use Rattle.registry_model.specs.Registry.{Registry}
use Rattle.registry_model.specs.History.{Entry, Left}
use Rattle.registry_model.proofs.Lists.{Contains-front, Contains-nil, Contains-split}
use Rattle.registry_model.proofs.HistoryParts.{registry-standing_of}
use Rattle.protocol_model.specs.Event.{Event, Refusal}
use Rattle.protocol_model.specs.World.{Opening, in_cluster, World, left, WorldEvent, At, Deliver, place, opening_world, refusal, turn_of, accepted}
use Rattle.protocol_model.specs.Course.{Played, played, course}
use Rattle.protocol_model.specs.Fit.{maker_of, is_delivery, is_left, left_of}
use Rattle.protocol_model.proofs.Finding.{item_passes}
use Rattle.creations.proofs.Rules.{Walked}
use Rattle.creations.proofs.Rests.{Rested, rested_opens, rested_keeps, place_runs}
use Rattle.creations.proofs.FittingEvents.{event_enters}
use Rattle.creations.specs.Clauses.{world}
use Rattle.creations.proofs.Together.{Whole, replicas, course_keeps}
use Rattle.creations.proofs.Making.{is_made, event_made}
use Rattle.history_words.proofs.Entries.{entered_left}
use Rattle.history_words.proofs.Lone.{entered_behind}

-- an entry of two lists is of the first, or of the second
data IsSplit (h xs before later : List Entry) (e : Entry) : Type 0 where
  InFirst : (rest : List Entry) → h ≡ before ++ e ∷ rest → IsSplit h xs before later e
  InSecond : (front : List Entry) → before ≡ h ++ front → xs ≡ front ++ e ∷ later → IsSplit h xs before later e

split_of : (h xs before later : List Entry) (e : Entry) → h ++ xs ≡ before ++ e ∷ later → IsSplit h xs before later e
split_of [] xs before later e s = InSecond before refl s
split_of (d ∷ h) xs [] later e s = let same : d ≡ e = cc s in InFirst h (ap (λ (x : Entry). x ∷ h) same)
split_of (d ∷ h) xs (b ∷ before) later e s =
    let same : d ≡ b = cc s in
    let rest : h ++ xs ≡ before ++ e ∷ later = cc s in
    elim (split_of h xs before later e rest) [
      | InFirst more i ↦ InFirst more (ap (λ (x : Entry). x ∷ h) same ∙ ap (λ (ys : List Entry). b ∷ ys) i)
      | InSecond front i j ↦ InSecond front
          (ap (λ (ys : List Entry). b ∷ ys) i ∙ ap (λ (x : Entry). x ∷ (h ++ front)) (sym same)) j
    ]

-- who makes an entry of the history hasn't left before it
abbrev pub Acts : List Entry → Type 0
Acts h = (before later : List Entry) (e : Entry) → h ≡ before ++ e ∷ later → Contains before (Left (maker_of e)) → ⊥

-- a departure that is entered is among the departures of a step
left_there : (xs : List Entry) (d : ℕ) → Contains xs (Left d) → Contains (filter is_left xs) (Left d)
left_there xs d c =
    let split : (before : List Entry) × (later : List Entry) × (xs ≡ before ++ Left d ∷ later) = Contains-split xs (Left d) c in
    subst (λ (ys : List Entry). Contains ys (Left d))
    (sym (ap (filter is_left) split.2 ∙ filter-append is_left split.0 (Left d ∷ split.1)))
    (Contains-append_right (filter is_left split.0) (Left d ∷ filter is_left split.1) (Left d)
    (Contains-front (Left d) (filter is_left split.1)))

-- nothing is entered behind a departure
last_entry : (c d : ℕ) (e : Entry) (front later : List Entry) → Left c ∷ [] ≡ front ++ e ∷ later → Contains front (Left d) → ⊥
last_entry c d e [] later s i = Contains-nil (Left d) i
last_entry c d e (x ∷ []) later s i = cc s
last_entry c d e (x ∷ y ∷ front) later s i = cc s

module _ (o : Opening) where
  -- in the step of an accepted event nobody leaves before an entry
  step_acts : (w : World) (e : WorldEvent) → Rested w → refusal o w e ≡ None → Walked o w e → (front later : List Entry)
      (x : Entry) (d : ℕ) → (turn_of o w e).entries ≡ front ++ x ∷ later → Contains front (Left d) → ⊥
  step_acts w e R r W front later x d s c = by e refl
      (subst (λ (ys : List Entry). Contains ys (Left d)) (event_enters o w e R r W).departures
      (left_there (turn_of o w e).entries d (subst (λ (ys : List Entry). Contains ys (Left d)) (sym s)
      (Contains-append_left front (x ∷ later) (Left d) c))))
    where
      by : (f : WorldEvent) → e ≡ f → Contains (left_of (played o w f)) (Left d) → ⊥
      by (At a Event.Leave) i k = last_entry a d x front later
          (subst (λ (f : WorldEvent). (turn_of o w f).entries ≡ front ++ x ∷ later) i s) c
      by (At a (Event.Calling call)) i k = Contains-nil (Left d) k
      by (At a Event.Retry) i k = Contains-nil (Left d) k
      by (At a (Event.Exiting p)) i k = Contains-nil (Left d) k
      by (Deliver f t) i k = Contains-nil (Left d) k

  -- behind events: who acts hasn't left, and registrars rest
  record ActsAndRests (ps : List Played) (w : World) : Type 0 where
    acts : Acts w.history
    rested : Rested w

  acts_step : (ps : List Played) (w : World) (e : WorldEvent) → ActsAndRests ps w → Whole o w → Whole o (accepted o w e)
      → refusal o w e ≡ None → Walked o w e → ActsAndRests (ps ++ played o w e ∷ []) (accepted o w e)
  acts_step ps w e A W V r H = record {
    acts = λ before later x s c. by before later x c
        (split_of w.history (turn_of o w e).entries before later x (sym (entered_behind o w e) ∙ s));
    rested = subst (λ (y : Option Refusal). Rested (if is_none y then accepted o w e else w)) r (rested_keeps o w e A.rested);
  }
    where
      -- who makes an entry of the step runs
      runs : (x : Entry) → Contains (turn_of o w e).entries x → Contains w.history (Left (maker_of x)) → ⊥
      runs x i c =
          let made : is_made (place e) (is_delivery e) x ≡ true =
          item_passes (is_made (place e) (is_delivery e)) (turn_of o w e).entries x (event_made o w e W r) i in
          let here : maker_of x ≡ place e = eqb-true (maker_of x) (place e) (and_parts _ _ made).0 in
          cc (
            sym ((replicas o w W.kept).departed (maker_of x)) ∙ ap (λ (g : Registry). g.left (maker_of x))
                (registry-standing_of (in_cluster o) w.history) ∙ entered_left (in_cluster o) (maker_of x) w.history c,
            ap (left w) here ∙ place_runs o w e r,
          )

      by : (before later : List Entry) (x : Entry) → Contains before (Left (maker_of x))
          → IsSplit w.history (turn_of o w e).entries before later x → ⊥
      by before later x c (InFirst rest i) = A.acts before rest x i c
      by before later x c (InSecond front i j) = elim (Contains-append_cases w.history front (Left (maker_of x))
          (subst (λ (ys : List Entry). Contains ys (Left (maker_of x))) i c)) [
            | inl old ↦ runs x (subst (λ (ys : List Entry). Contains ys x) (sym j)
                (Contains-append_right front (x ∷ later) x (Contains-front x later))) old
            | inr new ↦ step_acts w e A.rested r H front later x (maker_of x) j new
          ]

  pub acts_while_there : (es : List WorldEvent) → Acts (world o es).history
  acts_while_there es = all.acts
    where
      all : ActsAndRests (course o (opening_world o) es) (world o es)
      all = course_keeps o ActsAndRests acts_step (record {
        acts = λ before later x s c. none before later x s;
        rested = rested_opens o;
      }) es
        where
          none : (before later : List Entry) (x : Entry) → [] ≡ before ++ x ∷ later → ⊥
          none [] later x s = cc s
          none (b ∷ before) later x s = cc s
