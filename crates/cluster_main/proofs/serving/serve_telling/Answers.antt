use Rattle.std.proofs.Common.{ℕ, List, Option}
use Rattle.std.proofs.KnownBytes.{Keeps-refl}
use Rattle.arguments.specs.declared.mode.ServeOptions.{ServeOptions}
use Rattle.cluster_main.specs.Serving.{Listened, TellsWhy}
use Rattle.cluster_main.specs.declared.serving.Served.{Served}
use Rattle.cluster_main.specs.declared.serving.Served.TheVariants.{NoCookie, NotListening, NotAnnounced, Ran, Stayed}
use Rattle.cluster_main.proofs.serving.serve_telling.Goals as goal

-- once it listens nothing is told on standard error by one that doesn't stay
quiet : (o : ServeOptions) (e : Option (List ℕ)) (came : Served) → Listened came → TellsWhy o e e came
quiet o e (NoCookie f) h = absurd h
quiet o e (NotListening f) h = absurd h
quiet o e NotAnnounced h = Keeps-refl e
quiet o e (Ran r) h = Keeps-refl e
quiet o e (Stayed r) h = tt

pub returns-clause-why : goal.returns-clause-why
returns-clause-why g c =
    quiet c.args.options.now (g.E.Write.contents c.args.errors.now) c.serve_so_many.result c.serve_so_many.ensures.listened
