use Rattle.std.proofs.Common.{sym, ◌∙◌, arith}
use Rattle.std.proofs.lemmas.List.{length-append}
use Rattle.term.proofs.Subsets.{set_of-append}
use Rattle.node_threads.proofs.Opening.{few}
use Rattle.server.proofs.Doors.{crew_reaches}
use Rattle.server.proofs.Closing.{serves}
use Rattle.server.proofs.Witnessing.{crew_served, witnessed}
use Rattle.server.proofs.serving.run_serve.Goals as goal

pub serve-served-requires-after_bounds : goal.serve-served-requires-after_bounds
serve-served-requires-after_bounds g c = λ κs within.
    crew_reaches c.set_of_all.result c.args.cluster.now c.args.lone.now c.in-Ok.running c.in-Ok.ensures.crew (λ n.
    c.set_of_all.ensures (omega (arith, few c.args.cluster.now c.args.lone.now c.requires, length-append c.args.cluster.now c.args.lone.now)) n
    ∙ sym (set_of-append c.args.cluster.now c.args.lone.now n))

pub close-requires-clause-crew : goal.close-requires-clause-crew
close-requires-clause-crew g c = crew_served (λ v. v.items) c.set_of_all.result c.args.cluster.now c.args.lone.now c.args.consoles c.in-Ok.running
    c.serve-served.new.cluster c.serve-served.result c.serve-served.ensures c.in-Ok.ensures.crew

pub close-requires-clause-books : goal.close-requires-clause-books
close-requires-clause-books g c = witnessed (λ v. v.items) c.set_of_all.result c.args.consoles c.in-Ok.running c.serve-served.new.cluster
    c.serve-served.result c.serve-served.ensures

pub returns : goal.returns
returns g c = serves c.args.cluster.now c.args.lone.now c.set_of_all.result c.args.consoles
    (λ n. c.set_of_all.ensures (omega (arith, few c.args.cluster.now c.args.lone.now c.requires, length-append c.args.cluster.now c.args.lone.now)) n
    ∙ sym (set_of-append c.args.cluster.now c.args.lone.now n))
    c.in-Ok.running c.serve-served.new.cluster c.in-Ok.ensures.cluster c.in-Ok.ensures.lone c.in-Ok.ensures.crew c.in-Ok.ensures.seats
    _ _ (λ v. v.items) c.serve-served.result c.serve-served.ensures c.close.result c.close.ensures
