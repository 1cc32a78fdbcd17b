use Rattle.std.proofs.Common.{◌++◌, ◌∷◌, [], List, map, take, get_or, set, sym, ap, ◌∙◌}
use Rattle.std.proofs.lemmas.List.{set-get_or, map_more, map_push}
use Rattle.node_seats.specs.Callers.{nodes_at}
use Rattle.node_seats.specs.Readers.{unseen}
use Rattle.node_seats.specs.Seats.{Sitting, sitting, new_seat}
use Rattle.node_threads.specs.Wires.{Wired, inboxes}
use Rattle.node_threads.proofs.Rows.{new_sitting}
use Rattle.node_threads.proofs.crew.free_seat_of.Goals as goal

pub loop-one-preserved : goal.loop-one-preserved
loop-one-preserved g c =
    let one : Wired = get_or c.args.running.now c.loop-one.one-index c.one-item.result in
    let first : List Wired = take c.loop-one.one-index c.args.running.now in
    record {
      same = ap (set c.loop-one.running c.loop-one.one-index) c.caller.ensures.node
          ∙ set-get_or c.loop-one.running c.loop-one.one-index c.one-item.result ∙ c.loop-one.invariant.same;
      seats = c.in_ok-add.ensures.ok
          ∙ ap (λ (l : List Sitting). l ++ sitting c.in_ok-caller.field-0 [] ∷ []) c.loop-one.invariant.seats
          ∙ ap (λ (s : Sitting). map (new_seat c.args.place (nodes_at c.args.shared.now.hub.value)) (inboxes first) ++ s ∷ [])
          (new_sitting c.in_ok-caller.field-0 c.args.place (nodes_at c.args.shared.now.hub.value) one.inbox c.in_ok-caller.ensures.place
          (c.in_ok-caller.ensures.asks
          ∙ ap (λ (ws : List Wired). (get_or ws c.loop-one.one-index c.one-item.result).inbox) c.loop-one.invariant.same)
          c.in_ok-caller.ensures.nodes c.in_ok-caller.ensures.unasked
          (c.in_ok-caller.ensures.unread
          ∙ ap (λ (ws : List Wired). unseen (get_or ws c.loop-one.one-index c.one-item.result).inbox.book) c.loop-one.invariant.same))
          ∙ sym (ap (map (new_seat c.args.place (nodes_at c.args.shared.now.hub.value)))
          (map_more (λ (w : Wired). w.inbox) c.args.running.now c.loop-one.one-index c.one-item.result c.loop-one-test.true)
          ∙ map_push (new_seat c.args.place (nodes_at c.args.shared.now.hub.value)) (inboxes first) one.inbox);
    }
