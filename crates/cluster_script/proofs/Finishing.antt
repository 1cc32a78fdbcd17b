-- A world that is finished, and what is printed for it.
use Rattle.std.proofs.Common.{ℕ, Bool, List, [], ◌∷◌, ◌++◌, ◌≡◌, Option, length, map, refl, sym, ap, subst, ◌∙◌, Result, Ok, Err}
use Rattle.std.specs.Prelude.{IfOk}
use Rattle.std.specs.List.{list_all}
use Rattle.std.specs.Io.KnownBytes.{Appends}
use Rattle.std.proofs.KnownBytes.{Appends-trans}
use Rattle.protocol_model.specs.Event.{Answer as AnyAnswer}
use Rattle.protocol_model.specs.NamedEvents.{Said}
use Rattle.cluster_world.specs.NodeNames.{NamedOpening}
use Rattle.cluster_world.specs.NamedWorld.{NamedEvent, run_named}
use Rattle.cluster_world.specs.WorldState.{WorldState}
use Rattle.cluster_world.specs.Seen.{names_of, named}
use Rattle.cluster_world.specs.Playing.{events_of}
use Rattle.cluster_world.specs.Settling.{GoesOn}
use Rattle.cluster_world.specs.Finishing.{next_to_finish}
use Rattle.cluster_world.proofs.Agreeing.{answers_are}
use Rattle.cluster_world.proofs.Finishing.{finishing_are}
use Rattle.command_lines.specs.NodeEventsSeen.{answer_of}
use Rattle.command_lines.specs.declared.Answer.{Answer}
use Rattle.command_lines.specs.Grammar.{Finish}
use Rattle.command_lines.specs.Printing.{Shown, Shows, answers_text, shown_line, shown_text, is_fine}
use Rattle.text_lines.specs.declared.faults.WriteFault.{WriteFault}
use Rattle.text_lines.specs.Writing.{AppendsPart, Writes}
use Rattle.text_lines.proofs.Written.{AppendsPart-behind, AppendsPart-more}
use Rattle.cluster_script.specs.Script.{Finishes, events_by, behind, given_in, ended, shown}
use Rattle.cluster_script.specs.Played.{PlaysAsked, shown_on}
use Rattle.cluster_script.proofs.Settling.{Ended-text, Ended-fine}

-- these events were played, and this comes next
module _ (old new : WorldState) (given : List Answer) (r : Option NamedEvent) (kept : names_of new ≡ names_of old)
    (G : GoesOn next_to_finish old new given) (next : next_to_finish (names_of new) (named new) ≡ r) where
  abbrev o : NamedOpening
  o = names_of old

  abbrev es : List NamedEvent
  es = events_of G.events

  abbrev made : ℕ
  made = length es

  events : events_by o (named old) (Finishes made) ≡ es
  events = finishing_are o (named old) es G.are

  world : named new ≡ behind o (named old) (Finishes made)
  world = G.played.world ∙ ap (run_named o (named old)) (sym events)

  answers : given_in o (named old) (events_by o (named old) (Finishes made)) ≡ map answer_of given
  answers = ap (given_in o (named old)) events ∙ answers_are o (named old) es ∙ sym G.played.answers

  next_is : next_to_finish o (behind o (named old) (Finishes made)) ≡ r
  next_is = ap (next_to_finish o) (sym world) ∙ ap (λ (p : NamedOpening). next_to_finish p (named new)) (sym kept) ∙ next

  prints : shown o (named old) (Finishes made) ≡ map Shows (map Said (map answer_of given)) ++ ended r ∷ []
  prints = ap (λ (ss : List AnyAnswer). map Shows (map Said ss) ++ ended (next_to_finish o (behind o (named old) (Finishes made))) ∷ [])
      answers
      ∙ ap (λ (x : Option NamedEvent). map Shows (map Said (map answer_of given)) ++ ended x ∷ []) next_is

  text : shown_on old (Finishes made) ≡ answers_text (map answer_of given) ++ shown_line (ended r)
  text = ap shown_text prints ∙ Ended-text (map answer_of given) (ended r)

  module _ (a b : Option (List ℕ)) where
    -- a fault while the answers were written
    pub finish-stopped : (w : Result Bool WriteFault) (f : WriteFault) → w ≡ Err f
        → AppendsPart a b (answers_text (map answer_of given)) → PlaysAsked (Ok Finish) old new a b w
    finish-stopped w f e p = (
      Finishes made,
      refl,
      rw e (subst (λ (t : List ℕ). AppendsPart a b t) (sym text)
          (AppendsPart-more a b (answers_text (map answer_of given)) (shown_line (ended r)) p)),
    )

    -- they were, and then what ends them was, or a part of that
    pub finish-ended : (c : Option (List ℕ)) → Appends a b (answers_text (map answer_of given)) → (w : Result Bool WriteFault)
        → Writes b c w (shown_line (ended r)) → IfOk w (λ fine. fine ≡ is_fine (ended r)) → PlaysAsked (Ok Finish) old new a c w
    finish-ended c p (Err f) w q = (
      Finishes made,
      refl,
      subst (λ (t : List ℕ). AppendsPart a c t) (sym text)
          (AppendsPart-behind a b c (answers_text (map answer_of given)) (shown_line (ended r)) p w),
    )
    finish-ended c p (Ok fine) w q = (
      Finishes made,
      refl,
      record {
        opening = kept;
        world = world;
        wrote = subst (λ (t : List ℕ). Appends a c t) (sym text)
            (Appends-trans a b c (answers_text (map answer_of given)) (shown_line (ended r)) p w);
        fine_is = q ∙ sym (ap (λ (ss : List Shown). list_all is_fine ss) prints ∙ Ended-fine (map answer_of given) (ended r));
      },
    )
