-- The sample is a run with two rival grants.
use Rattle.std.proofs.Common.{true, ◌≡◌, Option, Some, None, [], take, drop, refl}
use Rattle.std.specs.Prelude.{is_some}
use Rattle.registry_model.specs.Call.{True}
use Rattle.registry_model.proofs.Lists.{Contains-front}
use Rattle.protocol_model.specs.LockAnswers.{Tries, tries_of}
use Rattle.protocol_model.specs.World.{World, place, refusal, answers}
use Rattle.closings.specs.Merging.{Step, happening, events_in, Takes}
use Rattle.fences.specs.Grants.{IsRun, Grant, AreRivals}
use Rattle.fences.specs.Sample.{two_nodes, first_of, is_answered, in_turn, TwoGrants}

-- what is said of the first, and then of the others
infixr 20 ◌▸◌
◌▸◌ : {A B : Type 0} → A → B → A × B
a ▸ b = (a, b)

took : {w : World} {s : Step} → place (happening s) ≡ s.node → refusal two_nodes w (happening s) ≡ None
    → s.entry.answers ≡ answers two_nodes w (happening s) → Takes two_nodes w s
took own accepted given = record { own = own; accepted = accepted; answers = given }

run : IsRun two_nodes in_turn
run = record {
  order = refl ▸ refl ▸ refl ▸ refl ▸ refl ▸ refl ▸ refl ▸ refl ▸ refl ▸ refl ▸ refl ▸ refl ▸ refl ▸ refl ▸ refl ▸ refl ▸ tt;
  takes = took refl refl refl ▸ took refl refl refl ▸ took refl refl refl ▸ took refl refl refl ▸ took refl refl refl
      ▸ took refl refl refl ▸ took refl refl refl ▸ took refl refl refl ▸ took refl refl refl ▸ took refl refl refl
      ▸ took refl refl refl ▸ took refl refl refl ▸ took refl refl refl ▸ took refl refl refl ▸ took refl refl refl
      ▸ took refl refl refl ▸ took refl refl refl ▸ tt;
}

nothing : (t : Option Tries) → t ≡ None → is_some t ≡ true → ⊥
nothing t e h = cc

-- the tries, where there are some
abbrev there : (t : Option Tries) → is_some t ≡ true → (x : Tries) × (t ≡ Some x)
there None h = absurd (nothing None refl h)
there (Some x) h = (x, refl)

abbrev first : Grant two_nodes in_turn
first = record {
  before = take 6 in_turn;
  step = is_answered 6 0 0 1;
  later = drop 7 in_turn;
  split = refl;
  holder = first_of 0;
  resource = 5;
  requester = 6;
  tries = (there (tries_of two_nodes (events_in (take 7 in_turn)) (first_of 0)) refl).0;
  last = (there (tries_of two_nodes (events_in (take 7 in_turn)) (first_of 0)) refl).1;
  id = refl;
  given = Contains-front (record { node = 0; number = 1; reply = True }) [];
}

abbrev second : Grant two_nodes in_turn
second = record {
  before = take 16 in_turn;
  step = is_answered 15 1 0 1;
  later = [];
  split = refl;
  holder = first_of 1;
  resource = 5;
  requester = 7;
  tries = (there (tries_of two_nodes (events_in in_turn) (first_of 1)) refl).0;
  last = (there (tries_of two_nodes (events_in in_turn) (first_of 1)) refl).1;
  id = refl;
  given = Contains-front (record { node = 1; number = 1; reply = True }) [];
}

rivals : AreRivals first second 0
rivals = record { resource = refl; requesters = λ e. cc; asked = refl; asked_too = refl }

pub two_grants : TwoGrants
two_grants = record {
  run = run;
  first = first;
  second = second;
  rivals = rivals;
  runs = (refl, refl);
  runs_still = (refl, refl);
  number = refl;
  greater = refl;
}
