-- One event more, and what it answers: its place, and the numbered call that is answered.
use Rattle.std.proofs.Common.{◌≡◌, Option, None, List, [], ◌∷◌, ◌++◌, sym, ap, ◌∙◌, subst}
use Rattle.std.specs.Prelude.{is_none, Contains, if◌then◌else◌}
use Rattle.std.proofs.lemmas.List.Elements.{Contains-append_right}
use Rattle.registry_model.proofs.Lists.{Contains-front}
use Rattle.protocol_model.specs.Event.{Answer, Refusal}
use Rattle.protocol_model.specs.Course.{Played, played}
use Rattle.protocol_model.specs.World.{Opening, WorldEvent, place, opening_world, refusal, happens, accepted, answers, turn_of}
use Rattle.leftovers.specs.Clauses.{events, world}
use Rattle.leftovers.proofs.Tied.{course-push}
use Rattle.leftovers.proofs.Answered.{calls_answered}

module _ (o : Opening) (es : List WorldEvent) (e : WorldEvent) (is : refusal o (world o es) e ≡ None) where
  -- the course behind it
  pub events_push : events o (es ++ e ∷ []) ≡ events o es ++ played o (world o es) e ∷ []
  events_push = course-push o (opening_world o) es e
      ∙ ap (λ (x : Option Refusal). events o es ++ (if is_none x then played o (world o es) e ∷ [] else [])) is

  pub played_last : Contains (events o (es ++ e ∷ [])) (played o (world o es) e)
  played_last = subst (λ (ps : List Played). Contains ps (played o (world o es) e)) (sym events_push)
      (Contains-append_right (events o es) (played o (world o es) e ∷ []) (played o (world o es) e)
      (Contains-front (played o (world o es) e) []))

  -- its answers are those of its turn, and stand under its node
  pub answers_turn : answers o (world o es) e ≡ (turn_of o (world o es) e).answers
  answers_turn = ap (λ (x : Option Refusal). if is_none x then (turn_of o (world o es) e).answers else []) is

  pub happens_now : happens o (world o es) e ≡ accepted o (world o es) e
  happens_now = ap (λ (x : Option Refusal). if is_none x then accepted o (world o es) e else world o es) is

  pub answer_place : (s : Answer) → Contains (answers o (world o es) e) s → s.node ≡ place e
  answer_place s c = (calls_answered o (es ++ e ∷ [])).place (played o (world o es) e) s played_last c
