-- A console's lines so far, and how it ends.
use Rattle.std.proofs.Common.{ℕ, Bool, true, false, List, [], ◌∷◌, ◌++◌, ◌≡◌, ◌+◌, ◌<◌, Option, Some, None, refl, sym, ap, subst, ◌∙◌, append-nil, inl, inr, arith}
use Rattle.std.specs.Prelude.{◌⊎◌, min, nat_lt, unwrap_or}
use Rattle.std.proofs.lemmas.Bool.Decides.{nat_tests}
use Rattle.std.specs.List.{concat}
use Rattle.std.proofs.lemmas.List.Folds.{concat-append}
use Rattle.std.specs.Io.KnownBytes.{Appends, Keeps}
use Rattle.std.proofs.KnownBytes.{Appends-nil, Appends-trans, Appends-kept}
use Rattle.text_lines.specs.declared.faults.StreamFault.{StreamFault}
use Rattle.text_lines.specs.declared.faults.StreamFault.TheVariants.{Read, Write, TooManyLines, Memory}
use Rattle.text_lines.specs.Lines.{LosesLines, LosesInto, LosesWithinLine, HasNoLine, StopsAtLine, GoesPast, count_of, count_of_all}
use Rattle.term.specs.declared.limits.TheConstants.{MOST_LINES}
use Rattle.text_lines.specs.Writing.{AppendsPart}
use Rattle.text_lines.proofs.Known.{LosesLines-nil, LosesLines-trans, LosesLines-more, LosesInto-whole, LosesInto-behind, MayEndIn-none, count_of_all-append}
use Rattle.text_lines.proofs.Written.{AppendsPart-behind}
use Rattle.console.specs.Consoles.{Answering, AnswersLine, AnswersAll, GoesTooFar, ServesSome, ServesSoFar, Stands, Talk, TalkStops, TalksUntil, Tells, TellStops}
use Rattle.console.specs.declared.ends.ConsoleEnd.{ConsoleEnd}
use Rattle.console.specs.declared.ends.ConsoleEnd.TheVariants as by
use Rattle.console.proofs.Heeding.{AnswersAll-push}

-- the texts and one more
concat-push : (texts : List (List ℕ)) (text : List ℕ) → concat (texts ++ text ∷ []) ≡ concat texts ++ text
concat-push texts text = concat-append texts (text ∷ []) ∙ ap (λ (t : List ℕ). concat texts ++ t) (append-nil text)

-- a number above the lesser of two is above one of them
above : (a b n : ℕ) → min a b < n → (a < n) ⊎ (b < n)
above a b n h = go (nat_lt a n) refl
  where
    go : (t : Bool) → nat_lt a n ≡ t → (a < n) ⊎ (b < n)
    go true e = inl (grind (arith, nat_tests))
    go false e = inr (grind (arith, nat_tests))

-- of so many lines some were read, and those behind them count for too many, or one of them does
too_far : (a b : Option (List ℕ)) (ls : List (List ℕ)) (most left : ℕ) → LosesLines a b ls → most ≡ left + count_of_all ls
    → GoesPast b (min left MOST_LINES) [] → GoesTooFar a most ls
too_far a b ls most left t e g = (
  g.0,
  LosesLines-more a b ls (g.0 ∷ []) t g.1,
  omega (arith, e),
  elim (above left MOST_LINES (count_of_all (g.0 ∷ [])) g.3) [
    | inl h ↦ inl (omega (arith, e, h, count_of_all-append ls (g.0 ∷ [])))
    | inr h ↦ inr (omega (arith, h))
  ],
)

module _ {S : Type 0} (answers : Answering S) (stands : Stands S) (stays : Bool) (most : ℕ) where
  -- no line was read yet
  pub ServesSoFar-start : (input old : Option (List ℕ)) (s : Talk S) → ServesSoFar answers stands stays most input input old old s s most
  ServesSoFar-start input old s = record {
    taken = [];
    texts = [];
    read = LosesLines-nil input;
    counted = omega arith;
    answered = (refl, refl);
    wrote = Appends-nil old;
  }

  -- what was written stays
  pub ServesSoFar-kept : (input mid old new same : Option (List ℕ)) (s t : Talk S) (left : ℕ)
      → ServesSoFar answers stands stays most input mid old new s t left → Keeps new same → ServesSoFar answers stands stays most input mid old same s t left
  ServesSoFar-kept input mid old new same s t left P k = record {
    taken = P.taken;
    texts = P.texts;
    read = P.read;
    counted = P.counted;
    answered = P.answered;
    wrote = Appends-kept old new same (concat P.texts) P.wrote k;
  }

  module _ (input mid old new : Option (List ℕ)) (s t : Talk S) (left : ℕ) (P : ServesSoFar answers stands stays most input mid old new s t left)
      (rest : Option (List ℕ)) where
    -- a part of the next line was read, and all answers are written, or a part of them
    module _ (part : List ℕ) where
      abbrev so_far : LosesInto mid rest [] part → ServesSome answers stands stays Appends input rest old new s t None
      so_far l = record {
        taken = P.taken;
        part = part;
        texts = P.texts;
        read = subst (λ (ls : List (List ℕ)). LosesInto input rest ls part) (append-nil P.taken)
            (LosesInto-behind input mid rest P.taken [] part P.read l);
        answered = P.answered;
        wrote = P.wrote;
      }

      abbrev some_so_far : LosesInto mid rest [] part → ServesSome answers stands stays AppendsPart input rest old new s t None
      some_so_far l = record {
        taken = P.taken;
        part = part;
        texts = P.texts;
        read = subst (λ (ls : List (List ℕ)). LosesInto input rest ls part) (append-nil P.taken)
            (LosesInto-behind input mid rest P.taken [] part P.read l);
        answered = P.answered;
        wrote = (concat P.texts, [], sym (append-nil (concat P.texts)), P.wrote);
      }

    -- the next line isn't read
    pub TalkStops-reading : (f : StreamFault) → StopsAtLine mid rest (min left MOST_LINES) f → TalkStops answers stands stays most input rest old new s t f
    TalkStops-reading Read g = (so_far g.0 (mid, LosesLines-nil mid, g.1), g.2)
    TalkStops-reading TooManyLines g = (
      so_far g.0 (mid, LosesLines-nil mid, g.1),
      g.2,
      too_far input mid P.taken most left P.read P.counted g.3,
    )
    TalkStops-reading Write g = (None, some_so_far g.0 (mid, LosesLines-nil mid, g.1), g.2)
    TalkStops-reading Memory g = (None, some_so_far g.0 (mid, LosesLines-nil mid, g.1), g.2)

    -- there is no further line
    pub TalksUntil-input : LosesLines mid rest [] → HasNoLine rest → TalksUntil answers stands stays most input rest old new s t by.Input
    TalksUntil-input l none = (
      record {
        taken = P.taken;
        texts = P.texts;
        ended = None;
        read = subst (λ (ls : List (List ℕ)). LosesLines input rest ls) (append-nil P.taken)
            (LosesLines-trans input mid rest P.taken [] P.read l);
        counted = omega (arith, P.counted);
        answered = P.answered;
        whole = λ z. none;
        wrote = P.wrote;
      },
      refl,
    )

    module _ (line : List ℕ) (l : LosesLines mid rest (line ∷ [])) where
      -- one line more
      lost : LosesLines input rest (P.taken ++ line ∷ [])
      lost = LosesLines-trans input mid rest P.taken (line ∷ []) P.read l

      counts : (more : ℕ) → left ≡ more + count_of line → most ≡ more + count_of_all (P.taken ++ line ∷ [])
      counts more e = omega (arith, P.counted, e, count_of_all-append P.taken (line ∷ []))

      -- it was answered
      module _ (text : List ℕ) (u : Talk S) (ended : Option ConsoleEnd) (a : AnswersLine answers stands stays line t text u ended) where
        all : AnswersAll answers stands stays (P.taken ++ line ∷ []) s (P.texts ++ text ∷ []) u ended
        all = AnswersAll-push answers stands stays P.taken s P.texts t line text u ended P.answered a

        module _ (told : Option (List ℕ)) where
          wholly : Appends new told text → Appends old told (concat (P.texts ++ text ∷ []))
          wholly w = subst (λ (x : List ℕ). Appends old told x) (sym (concat-push P.texts text))
              (Appends-trans old new told (concat P.texts) text P.wrote w)

          partly : AppendsPart new told text → AppendsPart old told (concat (P.texts ++ text ∷ []))
          partly w = subst (λ (x : List ℕ). AppendsPart old told x) (sym (concat-push P.texts text))
              (AppendsPart-behind old new told (concat P.texts) text P.wrote w)

          abbrev cut : AppendsPart new told text → ServesSome answers stands stays AppendsPart input rest old told s u ended
          cut w = record {
            taken = P.taken ++ line ∷ [];
            part = [];
            texts = P.texts ++ text ∷ [];
            read = LosesInto-whole input rest (P.taken ++ line ∷ []) lost;
            answered = all;
            wrote = partly w;
          }

      module _ (told : Option (List ℕ)) (u : Talk S) where
        -- it doesn't end the console
        pub ServesSoFar-next : (more : ℕ) → left ≡ more + count_of line → (ended : Option ConsoleEnd) → ended ≡ None
            → Tells answers stands stays line new told t u ended → ServesSoFar answers stands stays most input rest old told s u more
        ServesSoFar-next more e (Some how) q w = absurd (differ q)
          where
            differ : Some how ≡ None → ⊥
            differ q = cc
        ServesSoFar-next more e None q w = record {
          taken = P.taken ++ line ∷ [];
          texts = P.texts ++ w.0 ∷ [];
          read = lost;
          counted = counts more e;
          answered = all w.0 u None w.1;
          wrote = wholly w.0 u None w.1 told w.2;
        }

        -- it does
        pub TalksUntil-line : (more : ℕ) → left ≡ more + count_of line → (ended : Option ConsoleEnd) (how : ConsoleEnd) → ended ≡ Some how
            → Tells answers stands stays line new told t u ended → TalksUntil answers stands stays most input rest old told s u how
        TalksUntil-line more e None how q w = absurd (differ q)
          where
            differ : None ≡ Some how → ⊥
            differ q = cc
        TalksUntil-line more e (Some other) how q w = (
          record {
            taken = P.taken ++ line ∷ [];
            texts = P.texts ++ w.0 ∷ [];
            ended = Some other;
            read = lost;
            counted = omega (arith, counts more e);
            answered = all w.0 u (Some other) w.1;
            whole = λ z. absurd (some z);
            wrote = wholly w.0 u (Some other) w.1 told w.2;
          },
          sym (ap (λ (o : Option ConsoleEnd). unwrap_or o by.Input) q),
        )
          where
            some : Some other ≡ None → ⊥
            some z = cc

        -- its answer isn't written, or not wholly
        pub TalkStops-telling : (f : StreamFault) → LosesWithinLine mid rest → TellStops answers stands stays line new told t u f
            → TalkStops answers stands stays most input rest old told s u f
        TalkStops-telling f b w = elim w [
          | inl x ↦ elim x.fault_is [
            | inl e ↦ subst (λ (g : StreamFault). TalkStops answers stands stays most input rest old told s u g) (sym e)
                (x.ended, cut x.text u x.ended x.answered told x.wrote, MayEndIn-none Write)
            | inr e ↦ subst (λ (g : StreamFault). TalkStops answers stands stays most input rest old told s u g) (sym e)
                (x.ended, cut x.text u x.ended x.answered told x.wrote, MayEndIn-none Memory)
          ]
          | inr x ↦ subst (λ (g : StreamFault). TalkStops answers stands stays most input rest old told s u g) (sym x.fault_is)
              (subst (λ (v : Talk S). TalkStops answers stands stays most input rest old told s v Memory) (sym x.same)
              (None, dropped x.wrote, b.2))
        ]
          where
            dropped : Appends new told [] → ServesSome answers stands stays AppendsPart input rest old told s t None
            dropped w = record {
              taken = P.taken;
              part = b.0;
              texts = P.texts;
              read = subst (λ (ls : List (List ℕ)). LosesInto input rest ls b.0) (append-nil P.taken)
                  (LosesInto-behind input mid rest P.taken [] b.0 P.read (mid, LosesLines-nil mid, b.1));
              answered = P.answered;
              wrote = (
                concat P.texts,
                [],
                sym (append-nil (concat P.texts)),
                subst (λ (x : List ℕ). Appends old told x) (append-nil (concat P.texts))
                    (Appends-trans old new told (concat P.texts) [] P.wrote w),
              );
            }
