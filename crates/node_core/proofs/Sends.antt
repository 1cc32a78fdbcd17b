-- What a step sends, as the protocol has it.
use Rattle.std.proofs.Common.{ℕ, ◌≡◌, List, [], ◌∷◌, ◌++◌, map, sym, ap, ◌∙◌}
use Rattle.std.proofs.lemmas.List.{map-append}
use Rattle.protocol_model.specs.Turn.{Send, send, send_all}
use Rattle.term.specs.NodeSets.{IsNodeSet, set_of}
use Rattle.boss_order.proofs.Sets.{nodes_of-set_of}
use Rattle.node_events.specs.declared.events.Letter.{Letter}
use Rattle.node_events.specs.Made.{Made, sent, SendsAll}
use Rattle.node_core.specs.CoreState.{CoreState, bound_of, IsWithin}
use Rattle.node_events.specs.Letters.{send_of, letter_of}
use Rattle.node_core.specs.Seen.{turn_of}
use Rattle.node_core.proofs.Bounds.{all_below}
use Rattle.node_events.specs.Seen.{entry_of, answer_of}
use Rattle.node_events.specs.declared.events.Entry.{Entry}
use Rattle.node_events.specs.declared.events.Answer.{Answer}

-- a letter more
pub sent_is : (h : CoreState) (t : Made) (c : ℕ) (l : Letter) → turn_of h (sent c l t) ≡ send c (letter_of l) (turn_of h t)
sent_is h t c l = ap (λ (ss : List Send). record (turn_of h t) { sends = ss })
    (map-append send_of t.letters ((c, l) ∷ []))

-- a letter more to each node of a set
pub sent_all_is : (h : CoreState) (t u : Made) (cs : List ℕ) (l : Letter) → SendsAll cs l t u → IsNodeSet cs
    → IsWithin h.world cs
    → turn_of h u ≡ send_all (bound_of h.world) (set_of cs) (letter_of l) (turn_of h t)
sent_all_is h t u cs l made set within =
    ap (λ (ss : List Send). record (turn_of h u) { sends = ss }) (made.sends
    ∙ ap (λ (xs : List ℕ). map send_of t.letters ++ map (λ c. record { to = c; letter = letter_of l }) xs)
    (sym (nodes_of-set_of (bound_of h.world) cs set.rising (all_below h.world cs within))))
    ∙ ap (λ (es : List Entry). record (send_all (bound_of h.world) (set_of cs) (letter_of l) (turn_of h t))
    { entries = map entry_of es; answers = map answer_of u.answers }) made.entries
    ∙ ap (λ (ss : List Answer). record (send_all (bound_of h.world) (set_of cs) (letter_of l) (turn_of h t))
    { answers = map answer_of ss }) made.answers
