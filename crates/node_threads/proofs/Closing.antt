-- What closing a cluster comes to, by what a replay says.
use Rattle.std.proofs.Common.{ℕ, Bool, true, false, ◌≡◌, List, Vec, refl, sym, subst, inl}
use Rattle.std.specs.Prelude.{Result, Ok, Err, IfOk, IfErr, MatchResult}
use Rattle.std.specs.declared.alloc.Global.{Global}
use Rattle.node_loop.specs.declared.Transcript.{Transcript}
use Rattle.replay.specs.declared.closed.Closed.{Closed}
use Rattle.replay.specs.declared.faults.CloseFault.{CloseFault}
use Rattle.replay.specs.declared.faults.CloseFault.TheVariants.{Torn, LeftInHold, Stranger, Memory}
use Rattle.replay.specs.Consistent.{AreConsistent, is_torn}
use Rattle.replay.specs.Ends.{End}
use Rattle.replay.specs.Replaying.{Replayed, IsFault}
use Rattle.node_seats.specs.Books.{Known}
use Rattle.node_threads.specs.Wires.{Wired}
use Rattle.node_threads.specs.Ended.{AllPast}
use Rattle.node_threads.specs.Closing.{GivesBack, Replays, StopsAlone, CloseIs, CloseTells}
use Rattle.node_threads.proofs.Stopping.{least_fails, such_in_order}

module _ {N M : Type 0} (cluster lone : List ℕ) (crew : List Wired) (ts : List Transcript) where
  replays : (ends : List End) (result : Result (Closed N M) CloseFault)
      → IfOk result (λ closed. Replayed cluster lone ends ts closed.events closed.world)
      → IfErr result (λ fault. IsFault cluster lone ends ts fault)
      → Replays cluster lone crew ts ends result
  replays ends (Ok closed) ok err = ok
  replays ends (Err fault) ok err = err

  -- a replay looks for threads that ended alone first
  stops : (ends : List End) → GivesBack cluster lone crew ends → (result : Result (Closed N M) CloseFault)
      → Replays cluster lone crew ts ends result → StopsAlone cluster lone crew ts ends result
  stops ends back (Ok closed) R = such_in_order ends back.left R.ended
  stops ends back (Err (LeftInHold a)) I = least_fails ends back.left a I
  stops ends back (Err (Torn a k)) I = such_in_order ends back.left I.0
  stops ends back (Err (Stranger seat)) I = such_in_order ends back.left I.0
  stops ends back (Err Memory) I = such_in_order ends back.left I

  module _ (ends : List End) (back : GivesBack cluster lone crew ends) (joined others : List ℕ) (lent : List End) (a : joined ≡ cluster) (b : others ≡ lone) (same : lent ≡ ends) (result : Result (Closed N M) CloseFault) where
    -- what a replay was lent
    abbrev As : (List ℕ → List ℕ → List End → Type 0) → Type 0
    As F = F joined others lent → F cluster lone ends

    as_lent : (F : List ℕ → List ℕ → List End → Type 0) → As F
    as_lent F h = subst (λ (x : List ℕ × List ℕ × List End). F x.0 x.1 x.2) (λ j. (a j, b j, same j)) h

    module _ (ok : IfOk result (λ closed. Replayed joined others lent ts closed.events closed.world))
        (err : IfErr result (λ fault. IsFault joined others lent ts fault)) where
      played : Replays cluster lone crew ts ends result
      played = replays ends result (as_lent (λ js os es. IfOk result (λ closed. Replayed js os es ts closed.events closed.world)) ok)
          (as_lent (λ js os es. IfErr result (λ fault. IsFault js os es ts fault)) err)

      closes : CloseIs cluster lone crew ts result
      closes = inl (record { ends = ends; back = back; replays = played; alone = stops ends back result played })

      -- with the pasts of their books
      pub closes_telling : (pasts : Vec Known Global) → AllPast crew ends pasts.items → (r : Result (Closed N M × Vec Known Global) CloseFault)
          → MatchResult r (λ both. (result ≡ Ok both.0) × (both.1 ≡ pasts)) (λ fault. result ≡ Err fault) → CloseTells cluster lone crew ts r
      closes_telling pasts are (Ok both) m = (
        record {
          ends = ends;
          back = back;
          replays = subst (Replays cluster lone crew ts ends) m.0 played;
          alone = subst (StopsAlone cluster lone crew ts ends) m.0 (stops ends back result played);
        },
        subst (λ (v : Vec Known Global). AllPast crew ends v.items) (sym m.1) are,
      )
      closes_telling pasts are (Err fault) m = subst (CloseIs cluster lone crew ts) m closes

    -- it is whole
    pub never_torn : IfErr result (λ fault. is_torn fault ≡ true → AreConsistent joined others lent → ⊥)
        → IfErr result (λ fault. is_torn fault ≡ false)
    never_torn h = at result (as_lent (λ js os es. IfErr result (λ fault. is_torn fault ≡ true → AreConsistent js os es → ⊥)) h)
      where
        not_true : (t : Bool) → (t ≡ true → ⊥) → t ≡ false
        not_true true never = absurd (never refl)
        not_true false never = refl

        at : (r : Result (Closed N M) CloseFault)
            → IfErr r (λ fault. is_torn fault ≡ true → AreConsistent cluster lone ends → ⊥)
            → IfErr r (λ fault. is_torn fault ≡ false)
        at (Ok closed) never = tt
        at (Err fault) never = not_true (is_torn fault) (λ e. never e back.consistent)

  -- and without them
  pub closes_alone : (told : Result (Closed N M × Vec Known Global) CloseFault) → CloseTells cluster lone crew ts told → (r : Result (Closed N M) CloseFault)
      → MatchResult told (λ both. r ≡ Ok both.0) (λ fault. r ≡ Err fault) → CloseIs cluster lone crew ts r
  closes_alone (Ok both) tells r m = subst (CloseIs cluster lone crew ts) (sym m) (inl tells.0)
  closes_alone (Err fault) tells r m = subst (CloseIs cluster lone crew ts) (sym m) tells

abbrev IsWhole : {A : Type 0} → Result A CloseFault → Type 0
IsWhole r = IfErr r (λ fault. is_torn fault ≡ false)

-- with the pasts beside it it is whole still, and so it is without them
module _ {A B : Type 0} where
  pub still_whole : (told : Result A CloseFault) (r : Result (A × B) CloseFault) (pasts : B)
      → MatchResult r (λ both. (told ≡ Ok both.0) × (both.1 ≡ pasts)) (λ fault. told ≡ Err fault) → IfErr told (λ fault. is_torn fault ≡ false)
      → IfErr r (λ fault. is_torn fault ≡ false)
  still_whole told (Ok both) pasts m h = tt
  still_whole told (Err fault) pasts m h = subst (IsWhole {A = A}) m h

  pub whole_alone : (told : Result (A × B) CloseFault) → IfErr told (λ fault. is_torn fault ≡ false) → (r : Result A CloseFault)
      → MatchResult told (λ both. r ≡ Ok both.0) (λ fault. r ≡ Err fault) → IfErr r (λ fault. is_torn fault ≡ false)
  whole_alone (Ok both) h r m = subst (IsWhole {A = A}) (sym m) tt
  whole_alone (Err fault) h r m = subst (IsWhole {A = A}) (sym m) h
