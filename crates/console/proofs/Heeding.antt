-- Lines that are answered one after the other.
use Rattle.std.proofs.Common.{ℕ, Bool, List, [], ◌∷◌, ◌++◌, ◌≡◌, Option, Some, None, refl, subst, inl, inr}
use Rattle.std.specs.Prelude.{◌⊎◌}
use Rattle.text_lines.specs.declared.faults.WriteFault.{WriteFault}
use Rattle.text_lines.specs.declared.faults.WriteFault.TheVariants as write
use Rattle.text_lines.specs.Writing.{stop_of}
use Rattle.text_lines.specs.declared.faults.StreamFault.{StreamFault}
use Rattle.text_lines.specs.declared.faults.StreamFault.TheVariants.{Write, Memory}
use Rattle.console.specs.Consoles.{Answering, AnswersLine, AnswersAll, Stands, Talk}
use Rattle.console.specs.declared.ends.ConsoleEnd.{ConsoleEnd}

-- why a text wasn't written
pub unwritten : (f : WriteFault) (y : StreamFault) → y ≡ stop_of f → (y ≡ Write) ⊎ (y ≡ Memory)
unwritten write.Writer y e = inl e
unwritten write.Memory y e = inr e

module _ {S : Type 0} (answers : Answering S) (stands : Stands S) (stays : Bool) where
  -- one line alone
  AnswersAll-one : (line text : List ℕ) (s u : Talk S) (ended : Option ConsoleEnd) → AnswersLine answers stands stays line s text u ended
      → AnswersAll answers stands stays (line ∷ []) s (text ∷ []) u ended
  AnswersAll-one line text s u None a = inl (u, a, (refl, refl))
  AnswersAll-one line text s u (Some how) a = inr (how, a, refl, refl, refl)

  -- one line more
  pub AnswersAll-push : (lines : List (List ℕ)) (s : Talk S) (texts : List (List ℕ)) (t : Talk S) (line text : List ℕ) (u : Talk S)
      (ended : Option ConsoleEnd)
      → AnswersAll answers stands stays lines s texts t None → AnswersLine answers stands stays line t text u ended
      → AnswersAll answers stands stays (lines ++ line ∷ []) s (texts ++ text ∷ []) u ended
  AnswersAll-push [] s [] t line text u ended h a =
      AnswersAll-one line text s u ended (subst (λ (x : Talk S). AnswersLine answers stands stays line x text u ended) h.0 a)
  AnswersAll-push [] s (o ∷ os) t line text u ended h a = absurd h
  AnswersAll-push (l ∷ ls) s [] t line text u ended h a = absurd h
  AnswersAll-push (l ∷ ls) s (o ∷ os) t line text u ended h a = elim h [
    | inl e ↦ inl (e.0, e.1, AnswersAll-push ls e.0 os t line text u ended e.2 a)
    | inr e ↦ absurd (differ e.0 e.4)
  ]
    where
      differ : (how : ConsoleEnd) → None ≡ Some how → ⊥
      differ how e = cc
