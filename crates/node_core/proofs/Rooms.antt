-- Room that is made within a step changes nothing of what the protocol sees.
use Rattle.std.proofs.Common.{ℕ, ◌≡◌, List, ap, ◌∙◌, map}
use Rattle.protocol_model.specs.Turn.{Turn}
use Rattle.node_events.specs.Made.{Made, IsSameMade}
use Rattle.node_events.specs.Letters.{send_of}
use Rattle.node_events.specs.Seen.{entry_of, answer_of}
use Rattle.node_events.specs.declared.events.Letter.{Letter}
use Rattle.node_events.specs.declared.events.Entry.{Entry}
use Rattle.node_events.specs.declared.events.Answer.{Answer}
use Rattle.node_core.specs.CoreState.{CoreState, bound_of}
use Rattle.node_core.specs.Seen.{turn_of}
use Rattle.node_core.specs.Steps.{Makes}

-- what is made is the same turn
pub same_turn : (h : CoreState) (t u : Made) → IsSameMade t u → turn_of h u ≡ turn_of h t
same_turn h t u same =
    ap (λ (ls : List (ℕ × Letter)). record (turn_of h u) { sends = map send_of ls }) same.letters
    ∙ ap (λ (es : List Entry). record (turn_of h t) { entries = map entry_of es; answers = map answer_of u.answers })
    same.entries
    ∙ ap (λ (ss : List Answer). record (turn_of h t) { answers = map answer_of ss }) same.answers

-- room was made before a rule
pub reserved : {rule : ℕ → ℕ → Turn → Turn} {h k : CoreState} {t u v : Made} → IsSameMade t u → Makes rule h u k v
    → Makes rule h t k v
reserved {rule} {h} {k} {t} {u} {v} same M = record {
  name = M.name;
  world = M.world;
  turn = M.turn ∙ ap (rule (bound_of h.world) h.name) (same_turn h t u same);
}

-- room is made behind it
pub roomier : {rule : ℕ → ℕ → Turn → Turn} {h k : CoreState} {t u v : Made} → IsSameMade u v → Makes rule h t k u
    → Makes rule h t k v
roomier {rule} {h} {k} {t} {u} {v} same M = record {
  name = M.name;
  world = M.world;
  turn = same_turn k u v same ∙ M.turn;
}
