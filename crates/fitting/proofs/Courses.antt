-- The exits, departures, notices and look-ups of a history are those of the events that made it.
use Rattle.std.proofs.Common.{Bool, ◌≡◌, Option, None, List, [], ◌∷◌, ◌++◌, refl, sym, ap, ◌∙◌, subst}
use Rattle.std.specs.Prelude.{if◌then◌else◌, is_none, filter, flat_map}
use Rattle.std.proofs.lemmas.List.{append-nil}
use Rattle.std.proofs.lemmas.List.Elements.{filter-append}
use Rattle.std.proofs.lemmas.Grind.{flat_map-append}
use Rattle.registry_model.specs.History.{Entry}
use Rattle.protocol_model.specs.Event.{Refusal}
use Rattle.protocol_model.specs.World.{Opening, World, WorldEvent, turn_of, refusal, accepted, opening_world}
use Rattle.protocol_model.specs.Course.{Played, played, entries_of}
use Rattle.protocol_model.specs.Fit.{is_exit, is_left, is_told, is_read, exit_of, left_of, notice_of}
use Rattle.fitting.proofs.Events.{read_of}
use Rattle.join_gates.proofs.Rules
use Rattle.fitting.proofs.Rests.{Rested, rested_keeps, rested_opens}
use Rattle.fitting.proofs.Events.{Own, event_enters}

-- the entries of a course that are so are those that its events have
abbrev pub Match : (Entry → Bool) → (Played → List Entry) → List Played → Type 0
Match test own ps = filter test (entries_of ps) ≡ flat_map own ps

-- the parts of a fitting history that speak of no call
pub record FitsApart (ps : List Played) : Type 0 where
  pub exits : Match is_exit exit_of ps
  pub departures : Match is_left left_of ps
  pub notices : Match is_told notice_of ps
  pub reads : Match is_read read_of ps

match-push : (test : Entry → Bool) (own : Played → List Entry) (ps : List Played) (p : Played)
    → Match test own ps → filter test p.entries ≡ own p → Match test own (ps ++ p ∷ [])
match-push test own ps p f e =
    ap (filter test) (flat_map-append (λ (q : Played). q.entries) ps (p ∷ [])
    ∙ ap (λ (l : List Entry). entries_of ps ++ l) (append-nil p.entries))
    ∙ filter-append test (entries_of ps) p.entries
    ∙ ap (λ (l : List Entry). l ++ filter test p.entries) f
    ∙ ap (λ (l : List Entry). flat_map own ps ++ l) (e ∙ sym (append-nil (own p)))
    ∙ sym (flat_map-append own ps (p ∷ []))

-- behind these events the registrars rest, and the history has their exits, departures, notices and look-ups
pub record Apart (w : World) (ps : List Played) : Type 0 where
  pub rested : Rested w
  pub fits : FitsApart ps

pub apart_opens : (o : Opening) → Apart (opening_world o) []
apart_opens o = record {
  rested = rested_opens o;
  fits =
      record { exits = refl; departures = refl; notices = refl; reads = refl };
}

-- an accepted event, which is a chain of rules, enters its own
pub apart_keeps : (o : Opening) (w : World) (e : WorldEvent) (ps : List Played) → Rules.Walked o w e
    → refusal o w e ≡ None
    → Apart w ps → Apart (accepted o w e) (ps ++ played o w e ∷ [])
apart_keeps o w e ps W is A = record {
  rested = subst (λ (r : Option Refusal). Rested (if is_none r then accepted o w e else w)) is
      (rested_keeps o w e A.rested);
  fits = record {
    exits = match-push is_exit exit_of ps (played o w e) A.fits.exits E.exits;
    departures = match-push is_left left_of ps (played o w e) A.fits.departures E.departures;
    notices = match-push is_told notice_of ps (played o w e) A.fits.notices E.notices;
    reads = match-push is_read read_of ps (played o w e) A.fits.reads E.reads;
  };
}
  where
    E : Own (turn_of o w e).entries (exit_of (played o w e)) (left_of (played o w e)) (notice_of (played o w e))
        (read_of (played o w e))
    E = event_enters o w e A.rested is W
