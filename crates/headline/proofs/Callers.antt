-- Whose the accepted lock calls of a node are, also with one step more.
use Rattle.std.proofs.Common.{ℕ, Bool, true, ◌≡◌, ◌+◌, ◌-◌, Some, List, [], ◌∷◌, ◌++◌, length, refl, sym, ap, ◌∙◌, subst, arith}
use Rattle.std.specs.Prelude.{◌&&◌, if◌then◌else◌}
use Rattle.std.specs.List.{slice_get}
use Rattle.std.proofs.lemmas.Bool.{eq-eqb}
use Rattle.std.proofs.lemmas.List.{append-nil}
use Rattle.std.proofs.lemmas.Grind.{flat_map-append}
use Rattle.registry_model.specs.Process.{Process}
use Rattle.protocol_model.specs.Event.{Call, Event}
use Rattle.protocol_model.specs.Fit.{is_numbered, calls_in}
use Rattle.protocol_model.specs.Answers.{holder_in, calls_at}
use Rattle.protocol_model.specs.World.{Opening, World, At}
use Rattle.protocol_model.specs.Course.{Played, played}
use Rattle.headline.proofs.Passing.{slice_get-front}
use Rattle.headline.proofs.LockAnswers.{slice_get-behind}

-- call k is a lock call made for p
abbrev pub IsCalledBy : List Call → ℕ → Process → Type 0
IsCalledBy calls k p = (call : Call) × (slice_get calls (k - 1) ≡ Some call) × (holder_in call ≡ Some p)

-- the calls of a node behind one step more
pub calls_push : (b : ℕ) (ps : List Played) (p : Played) → calls_at b (ps ++ p ∷ []) ≡ calls_at b ps ++ calls_in b p
calls_push b ps p = flat_map-append (calls_in b) ps (p ∷ [])
    ∙ ap (λ (cs : List Call). calls_at b ps ++ cs) (append-nil (calls_in b p))

-- more calls are accepted
pub called_longer : (b : ℕ) (ps : List Played) (p : Played) (k : ℕ) (q : Process) → IsCalledBy (calls_at b ps) k q
    → IsCalledBy (calls_at b (ps ++ p ∷ [])) k q
called_longer b ps p k q I = (
  I.0,
  subst (λ (cs : List Call). slice_get cs (k - 1) ≡ Some I.0) (sym (calls_push b ps p))
      (slice_get-front (calls_at b ps) (calls_in b p) (k - 1) I.0 I.1),
  I.2,
)

-- the call that a node accepts is the last of them
pub last_called : (o : Opening) (w : World) (ps : List Played) (a : ℕ) (c : Call) → is_numbered c ≡ true
    → (w.node a).last_call ≡ length (calls_at a ps)
    → slice_get (calls_at a (ps ++ played o w (At a (Event.Calling c)) ∷ [])) (((w.node a).last_call + 1) - 1) ≡ Some c
last_called o w ps a c numbered count = ap (λ (cs : List Call). slice_get cs (((w.node a).last_call + 1) - 1)) calls
    ∙ subst (λ (i : ℕ). slice_get (calls_at a ps ++ c ∷ []) i ≡ Some c) (omega (arith, count))
    (slice_get-behind (calls_at a ps) c)
  where
    calls : calls_at a (ps ++ played o w (At a (Event.Calling c)) ∷ []) ≡ calls_at a ps ++ c ∷ []
    calls = calls_push a ps (played o w (At a (Event.Calling c))) ∙ ap (λ (cs : List Call). calls_at a ps ++ cs)
        (ap (λ (b : Bool). if b && is_numbered c then c ∷ [] else []) (eq-eqb a a refl)
        ∙ ap (λ (b : Bool). if b then c ∷ [] else []) numbered)
