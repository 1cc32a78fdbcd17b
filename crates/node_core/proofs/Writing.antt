-- What a node is once a change is written.
use Rattle.std.proofs.Common.{ℕ, ◌≡◌, List, ◌∷◌, [], refl, ap, ◌∙◌, subst}
use Rattle.std.specs.Prelude.{true, Result, Ok, Err, OnErr}
use Rattle.std.proofs.lemmas.List.{map-append}
use Rattle.std.proofs.Math.Path.{ap₂}
use Rattle.registry_model.specs.Table.{Table, Change, changed}
use Rattle.protocol_model.specs.Node.{Op as AnyOp, unless_told, wrote}
use Rattle.protocol_model.specs.Reading.{asked_to_admit}
use Rattle.protocol_model.specs.Calling.{queued}
use Rattle.protocol_model.specs.Turn.{with_replica}
use Rattle.protocol_model.specs.Watch.{Watch as AnyWatch}
use Rattle.term.specs.NodeSets.{with_older}
use Rattle.exit_watch.specs.WatchState.{WatchState}
use Rattle.transaction.specs.declared.op.Op.{Op}
use Rattle.transaction.specs.Ops.{op_of}
use Rattle.transaction.specs.Work.{Work, enqueued}
use Rattle.node_events.specs.Made.{Made}
use Rattle.node_events.specs.Seen.{unnumbered}
use Rattle.node_core.specs.CoreState.{CoreState, bound_of}
use Rattle.node_core.specs.Seen.{node_of, turn_of}
use Rattle.node_core.specs.Steps.{Makes, IsAsBefore}

-- what stands anyway stands where a result is an error
pub in_any_case : {T E P : Type 0} (r : Result T E) → P → OnErr r P
in_any_case (Ok x) p = tt
in_any_case (Err e) p = p

-- the table is as it was, and so is the watch, as the protocol sees it
pub unwritten : (h h1 : CoreState) (t : Table) (w : WatchState) → h ≡ h1 → t ≡ h.table → w.watch ≡ h.watch.watch
    → IsAsBefore h1 (record h { table = t; watch = w })
unwritten h h1 t w same table watch =
    subst (λ (x : CoreState). IsAsBefore x (record h { table = t; watch = w })) same (record {
      name = refl;
      world = refl;
      node = ap₂ (λ (u : Table) (v : AnyWatch).
          record (node_of h) { replica = record (node_of h).replica { table = u }; watch = v }) table watch;
    })

-- this was written in place of a change, as a node writes that was told of departures
pub written : (h h1 : CoreState) (made : Made) (t : Table) (w : WatchState) (done change : Change) → h ≡ h1
    → t ≡ changed done h.table → done ≡ unless_told (with_older h1.told) change → w.watch ≡ h.watch.watch
    → Makes (λ n a. with_replica (wrote change)) h1 made (record h { table = t; watch = w }) made
written h h1 made t w done change same table is watch =
    subst (λ (x : CoreState). done ≡ unless_told (with_older x.told) change
    → Makes (λ n a. with_replica (wrote change)) x made (record h { table = t; watch = w }) made) same
    (λ this. record {
      name = refl;
      world = refl;
      turn = ap₂ (λ (u : Table) (v : AnyWatch). record (turn_of h made) {
        node = record (node_of h) { replica = record (node_of h).replica { table = u }; watch = v };
      }) (table ∙ ap (λ (c : Change). changed c h.table) this) watch;
    }) is

-- an operation more is in the queue
pub queues_one : (h : CoreState) (made : Made) (w : Work) (op : Op) → w ≡ enqueued op h.registrar
    → Makes (λ n a. queued n a (op_of op)) h made (record h { registrar = w }) made
queues_one h made w op is = record {
  name = refl;
  world = refl;
  turn = ap (λ (x : Work). turn_of (record h { registrar = x }) made) is
      ∙ ap (λ (ops : List AnyOp). record (turn_of h made) { node = record (node_of h) { queue = ops } })
      (map-append op_of h.registrar.queue (op ∷ []));
}

-- a joined node that is asked to admit f has that in its queue
pub queues_admission : (h h1 : CoreState) (made : Made) (w : Work) (op : Op) (f : ℕ) (pairs : Table) → h ≡ h1
    → h.joined ≡ true → w ≡ enqueued op h.registrar → op_of op ≡ AnyOp.Admission f pairs
    → Makes (λ n a. asked_to_admit n a unnumbered f pairs) h1 made (record h { registrar = w }) made
queues_admission h h1 made w op f pairs same joined is admits =
    subst (λ (x : CoreState). Makes (λ n a. asked_to_admit n a unnumbered f pairs) x made (record h { registrar = w }) made) same
    (record {
      name = refl;
      world = refl;
      turn = (queues_one h made w op is).turn
          ∙ ap (λ (o : AnyOp). queued (bound_of h.world) h.name o (turn_of h made)) admits
          ∙ rw joined refl;
    })
