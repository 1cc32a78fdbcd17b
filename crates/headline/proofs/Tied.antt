-- The test of the headline passes where the headline stands behind all first ones of some events.
use Rattle.std.proofs.Math.Path.{ap₂}
use Rattle.std.proofs.Common.{Bool, true, ◌≡◌, Option, Some, None, List, [], ◌∷◌, ◌++◌, refl, sym, subst, ap, ◌∙◌}
use Rattle.std.specs.Prelude.{fold, is_none, if◌then◌else◌}
use Rattle.std.proofs.lemmas.List.{append-nil, append_assoc}
use Rattle.std.proofs.lemmas.List.Sums.{fold-append}
use Rattle.std.proofs.lemmas.Bool.{and_from}
use Rattle.registry_model.specs.History.{Standing, nothing_yet}
use Rattle.registry_model.proofs.Lists.{by_push}
use Rattle.protocol_model.specs.Event.{Refusal}
use Rattle.protocol_model.specs.World.{Opening, in_cluster, World, WorldEvent, opening_world, refusal, accepted, happens, run}
use Rattle.protocol_model.specs.Course.{Played, played, course, seen}
use Rattle.protocol_model.specs.Fit.{IsPrefix}
use Rattle.protocol_model.specs.Headline.{standing, Headline}
use Rattle.protocol_model.specs.Check.{Checked, checked, check_event, opening_check}
use Rattle.headline.specs.Tie.{TestAsksTheHeadline}
use Rattle.headline.specs.Clauses.{now, events}
use Rattle.headline.proofs.Asked.{between}
use Rattle.headline.proofs.AskedSteps

module _ (o : Opening) where
  -- how far these events are checked, where all passed
  abbrev pub passed : List Played → World → Checked
  passed ps w = record { plays = ps; standing = standing o ps; world = w; keeps = true }

  -- the course of one event more
  pub course-push : (w : World) (es : List WorldEvent) (e : WorldEvent) →
      course o w (es ++ e ∷ [])
      ≡ course o w es ++ (if is_none (refusal o (run o w es) e) then played o (run o w es) e ∷ [] else [])
  course-push w [] e = append-nil _
  course-push w (d ∷ es) e =
      ap (λ (ps : List Played). (if is_none (refusal o w d) then played o w d ∷ [] else []) ++ ps)
      (course-push (happens o w d) es e)
      ∙ sym (append_assoc (if is_none (refusal o w d) then played o w d ∷ [] else []) (course o (happens o w d) es) _)

  -- the world behind one event more
  pub run-push : (w : World) (es : List WorldEvent) (e : WorldEvent) → run o w (es ++ e ∷ []) ≡ happens o (run o w es) e
  run-push w es e = fold-append (happens o) w es (e ∷ [])

  -- one event more is checked
  one_more : (ps : List Played) (w : World) (e : WorldEvent) (x : Option Refusal) → refusal o w e ≡ x →
      Headline o (ps ++ (if is_none x then played o w e ∷ [] else [])) (seen o (happens o w e)) →
      check_event o (passed ps w) e x ≡ passed (ps ++ (if is_none x then played o w e ∷ [] else [])) (happens o w e)
  one_more ps w e (Some cause) r h =
      ap₂ passed (sym (append-nil ps)) (sym (ap (λ (x : Option Refusal). if is_none x then accepted o w e else w) r))
  one_more ps w e None r h =
      ap₂ (λ (u : Standing) (b : Bool). let k : Checked = record {
        plays = ps ++ played o w e ∷ [];
        standing = u;
        world = happens o w e;
        keeps = b;
      } in k) (sym (AskedSteps.behind o ps (played o w e) (happens o w e) h))
      (and_from _ _ (AskedSteps.step o ps (played o w e) (happens o w e) h)
      (AskedSteps.stands_behind o ps (played o w e) (happens o w e) h))

  -- all first ones of these events
  abbrev pub AllFirst : List WorldEvent → Type 0
  AllFirst es = (first : List WorldEvent) → IsPrefix first es → Headline o (events o first) (now o first)

  -- so all events are
  all_passed : (es : List WorldEvent) → AllFirst es →
      fold (checked o) (opening_check o) es ≡ passed (course o (opening_world o) es) (run o (opening_world o) es)
  all_passed es = by_push (λ es. AllFirst es →
      fold (checked o) (opening_check o) es ≡ passed (course o (opening_world o) es) (run o (opening_world o) es))
      none more es
    where
      none : AllFirst [] → opening_check o ≡ passed [] (opening_world o)
      none h = ap (λ (b : Bool). let k : Checked = record {
        plays = [];
        standing = nothing_yet (in_cluster o);
        world = opening_world o;
        keeps = b;
      } in k) (between o [] (opening_world o) (h [] ([], refl)))

      more : (es : List WorldEvent) (e : WorldEvent) →
          (AllFirst es → fold (checked o) (opening_check o) es
          ≡ passed (course o (opening_world o) es) (run o (opening_world o) es)) →
          AllFirst (es ++ e ∷ []) →
          fold (checked o) (opening_check o) (es ++ e ∷ [])
          ≡ passed (course o (opening_world o) (es ++ e ∷ [])) (run o (opening_world o) (es ++ e ∷ []))
      more es e before h =
          fold-append (checked o) (opening_check o) es (e ∷ [])
          ∙ ap (λ (k : Checked). checked o k e) (before (λ first (later, i). h first (
            later ++ e ∷ [],
            ap (λ (ds : List WorldEvent). ds ++ e ∷ []) i ∙ append_assoc first later (e ∷ []),
          )))
          ∙ one_more ps w e (refusal o w e) refl now_stands
          ∙ ap₂ passed (sym (course-push (opening_world o) es e)) (sym (run-push (opening_world o) es e))
        where
          ps : List Played
          ps = course o (opening_world o) es

          w : World
          w = run o (opening_world o) es

          whole : Headline o (events o (es ++ e ∷ [])) (now o (es ++ e ∷ []))
          whole = h (es ++ e ∷ []) ([], sym (append-nil (es ++ e ∷ [])))

          now_stands : Headline o (ps ++ (if is_none (refusal o w e) then played o w e ∷ [] else []))
              (seen o (happens o w e))
          now_stands = subst (λ (qs : List Played). Headline o qs (seen o (happens o w e)))
              (course-push (opening_world o) es e)
              (subst (λ (v : World). Headline o (course o (opening_world o) (es ++ e ∷ [])) (seen o v))
              (run-push (opening_world o) es e) whole)

-- the test asks no more than the headline
pub test_law : TestAsksTheHeadline
test_law o es h = ap (λ (k : Checked). k.keeps) (all_passed o es h)
