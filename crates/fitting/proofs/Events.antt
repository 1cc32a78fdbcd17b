-- The exits, departures, notices and look-ups that an accepted event enters are its own.
use Rattle.std.proofs.Common.{ℕ, Bool, true, ◌≡◌, Option, None, List, [], ◌∷◌, ◌++◌, refl, sym, ap, ◌∙◌, subst}
use Rattle.std.specs.Prelude.{if◌then◌else◌, is_none, filter, map}
use Rattle.std.specs.List.{list_all}
use Rattle.std.proofs.lemmas.List.{append-nil}
use Rattle.std.proofs.lemmas.List.Elements.{filter-append}
use Rattle.registry_model.specs.History.{Entry}
use Rattle.protocol_model.specs.Letter.{Letter}
use Rattle.protocol_model.specs.Node.{Node}
use Rattle.protocol_model.specs.Event.{Call, Event, Answer, Refusal}
use Rattle.registry_model.specs.Call.{Reply, seen_in}
use Rattle.fitting.proofs.Rests.{Rested, looked-answers, place_runs}
use Rattle.protocol_model.specs.World.{Opening, World, WorldEvent, At, Deliver, join_number, turn_of, refusal, answers}
use Rattle.protocol_model.specs.Course.{Played, played, is_down_first}
use Rattle.protocol_model.specs.Fit.{is_exit, is_left, is_told, is_read, exit_of, left_of, notice_of}
use Rattle.join_gates.proofs.Rules
use Rattle.join_gates.proofs.Indices.{both}
use Rattle.join_gates.proofs.Made.{entered, entries_made}

-- the entry of an accepted look-up, with the reply that it was given
abbrev pub read_of : Played → List Entry
read_of p = elim p.event [
  | At a (Event.Calling (Call.LookUp look)) ↦ map (λ s. Entry.Read a look s.reply)
      p.answers
  | _ ↦ []
]

-- the exits, departures, notices and look-ups among these entries are those
pub record Own (es xs ds ts rs : List Entry) : Type 0 where
  pub exits : filter is_exit es ≡ xs
  pub departures : filter is_left es ≡ ds
  pub notices : filter is_told es ≡ ts
  pub reads : filter is_read es ≡ rs

-- none of them
abbrev pub IsQuiet : List Entry → Type 0
IsQuiet es = Own es [] [] [] []

quiet_none : IsQuiet []
quiet_none = record { exits = refl; departures = refl; notices = refl; reads = refl }

-- entries with none of them behind
pub own-append : (es fs xs ds ts rs : List Entry) → Own es xs ds ts rs → IsQuiet fs → Own (es ++ fs) xs ds ts rs
own-append es fs xs ds ts rs E F = record {
  exits = along is_exit xs E.exits F.exits;
  departures = along is_left ds E.departures F.departures;
  notices = along is_told ts E.notices F.notices;
  reads = along is_read rs E.reads F.reads;
}
  where
    along : (p : Entry → Bool) (ys : List Entry) → filter p es ≡ ys → filter p fs ≡ [] → filter p (es ++ fs) ≡ ys
    along p ys e f = filter-append p es fs ∙ ap (λ (zs : List Entry). zs ++ filter p fs) e
        ∙ ap (λ (zs : List Entry). ys ++ zs) f ∙ append-nil ys

-- a quiet rule enters none of them
quiet_entered : (a : ℕ) (number : ℕ → ℕ) (r : Rules.Rule) (v : Node) → Rules.is_quiet r ≡ true
    → IsQuiet (entered a number r v)
quiet_entered a number (Rules.CallsName call) v e = cc
quiet_entered a number (Rules.CallsJoin m) v e = cc
quiet_entered a number Rules.CallsLock v e = cc
quiet_entered a number Rules.Spawns v e = cc
quiet_entered a number (Rules.LooksUp look) v e = cc
quiet_entered a number (Rules.Exits p) v e = cc
quiet_entered a number (Rules.IsTold f) v e = cc
quiet_entered a number Rules.Leaves v e = cc
quiet_entered a number _ v e = record { exits = refl; departures = refl; notices = refl; reads = refl }

pub quiet_chain : (o : Opening) (a : ℕ) (rs : List Rules.Rule) (w : World) → list_all Rules.is_quiet rs ≡ true
    → IsQuiet (Rules.entries_by o a rs w)
quiet_chain o a [] w e = quiet_none
quiet_chain o a (r ∷ rs) w e =
    let parts : (Rules.is_quiet r ≡ true) × (list_all Rules.is_quiet rs ≡ true) =
    both (Rules.is_quiet r) (list_all Rules.is_quiet rs) e in
    own-append (Rules.turn_by o a w r).entries (Rules.entries_by o a rs (Rules.effect o a r w)) [] [] [] []
    (subst (λ (es : List Entry). IsQuiet es) (sym (entries_made o a (join_number w) r (w.node a)))
    (quiet_entered a (join_number w) r (w.node a) parts.0))
    (quiet_chain o a rs (Rules.effect o a r w) parts.1)

-- a chain that begins with r
first_chain : (o : Opening) (a : ℕ) (r : Rules.Rule) (rest : List Rules.Rule) (w : World)
    (es xs ds ts rs : List Entry)
    → list_all Rules.is_quiet rest ≡ true → Rules.entries_by o a (r ∷ rest) w ≡ es
    → Own (entered a (join_number w) r (w.node a)) xs ds ts rs → Own es xs ds ts rs
first_chain o a r rest w es xs ds ts rs quiet e first = subst (λ (zs : List Entry). Own zs xs ds ts rs) e
    (own-append (Rules.turn_by o a w r).entries (Rules.entries_by o a rest (Rules.effect o a r w)) xs ds ts rs
    (subst (λ (zs : List Entry). Own zs xs ds ts rs) (sym (entries_made o a (join_number w) r (w.node a))) first)
    (quiet_chain o a rest (Rules.effect o a r w) quiet))

-- a chain of quiet rules alone
rest_chain : (o : Opening) (a : ℕ) (rest : List Rules.Rule) (w : World) (es : List Entry)
    → list_all Rules.is_quiet rest ≡ true → Rules.entries_by o a rest w ≡ es → IsQuiet es
rest_chain o a rest w es quiet e = subst (λ (zs : List Entry). IsQuiet zs) e (quiet_chain o a rest w quiet)

-- the reading of a letter enters the notice of a departure exactly where it is `Down`
letter_enters : (o : Opening) (w : World) (f t : ℕ) (ls : List Letter) (rest : List Rules.Rule) (es : List Entry)
    → list_all Rules.is_quiet rest ≡ true → Rules.entries_by o t (Rules.first_by_letter o t f ls ++ rest) w ≡ es
    → Own es [] [] (if is_down_first ls then Entry.Told t f ∷ [] else []) []
letter_enters o w f t (Letter.Down ∷ ls) rest es quiet e =
    first_chain o t (Rules.IsTold f) rest w es [] [] (Entry.Told t f ∷ []) [] quiet e
    (record { exits = refl; departures = refl; notices = refl; reads = refl })
letter_enters o w f t [] rest es quiet e = rest_chain o t rest w es quiet e
letter_enters o w f t (_ ∷ ls) rest es quiet e = rest_chain o t rest w es quiet e

-- what an accepted event enters of them
pub event_enters : (o : Opening) (w : World) (e : WorldEvent) → Rested w → refusal o w e ≡ None → Rules.Walked o w e
    → Own (turn_of o w e).entries (exit_of (played o w e)) (left_of (played o w e)) (notice_of (played o w e))
    (read_of (played o w e))
event_enters o w (Deliver f t) R N W = letter_enters o w f t (w.links.queue f t) W.rest
    (turn_of o w (Deliver f t)).entries W.quiet W.entries
event_enters o w (At a (Event.Calling (Call.LookUp look))) R N W =
    first_chain o a (Rules.LooksUp look) W.rest w _ _ _ _ _ W.quiet W.entries
    (record { exits = refl; departures = refl; notices = refl; reads = sym one })
  where
    given : List Answer
    given = (turn_of o w (At a (Event.Calling (Call.LookUp look)))).answers

    reply : Reply
    reply = seen_in (w.node a).replica look

    one : map (λ (s : Answer). Entry.Read a look s.reply) (answers o w (At a (Event.Calling (Call.LookUp look))))
        ≡ Entry.Read a look reply ∷ []
    one = ap (λ (r : Option Refusal). map (λ (s : Answer). Entry.Read a look s.reply)
        (if is_none r then given else [])) N
        ∙ ap (map (λ (s : Answer). Entry.Read a look s.reply))
        (looked-answers o.bound a look reply (w.node a)
        (R a (place_runs o w (At a (Event.Calling (Call.LookUp look))) N)))
event_enters o w (At a (Event.Exiting p)) R N W = first_chain o a (Rules.Exits p) W.rest w _ _ _ _ _ W.quiet W.entries
    (record { exits = refl; departures = refl; notices = refl; reads = refl })
event_enters o w (At a Event.Leave) R N W = first_chain o a Rules.Leaves W.rest w _ _ _ _ _ W.quiet W.entries
    (record { exits = refl; departures = refl; notices = refl; reads = refl })
event_enters o w (At a Event.Retry) R N W = rest_chain o a W.rest w _ W.quiet W.entries
event_enters o w (At a (Event.Calling Call.Spawn)) R N W =
    first_chain o a Rules.Spawns W.rest w _ _ _ _ _ W.quiet W.entries
    (record { exits = refl; departures = refl; notices = refl; reads = refl })
event_enters o w (At a (Event.Calling (Call.OnName c))) R N W =
    first_chain o a (Rules.CallsName c) W.rest w _ _ _ _ _ W.quiet W.entries
    (record { exits = refl; departures = refl; notices = refl; reads = refl })
event_enters o w (At a (Event.Calling (Call.SetLock p r q target retries))) R N W =
    first_chain o a Rules.CallsLock W.rest w _ _ _ _ _ W.quiet W.entries
    (record { exits = refl; departures = refl; notices = refl; reads = refl })
event_enters o w (At a (Event.Calling (Call.DelLock p r q target))) R N W =
    first_chain o a Rules.CallsLock W.rest w _ _ _ _ _ W.quiet W.entries
    (record { exits = refl; departures = refl; notices = refl; reads = refl })
event_enters o w (At a (Event.Calling (Call.JoinBy m))) R N W =
    first_chain o a (Rules.CallsJoin m) W.rest w _ _ _ _ _ W.quiet W.entries
    (record { exits = refl; departures = refl; notices = refl; reads = refl })
