-- What is done for words, whether they are taken or not.
use Rattle.std.proofs.Common.{ℕ, List, [], ◌∷◌, ◌≡◌, ◌⊎◌, ap, ◌∙◌, inl, inr, arith}
use Rattle.std.specs.Prelude.{◌≢◌}
use Rattle.std.specs.Io.KnownBytes.{Keeps}
use Rattle.clap.specs.Words.{HasKind, IsAmong, Kinds, Text as Word, kind_of, subcommand_of}
use Rattle.clap.specs.declared.error.Error.{Error}
use Rattle.arguments.specs.CommandLine.{program, refusals, value_in}
use Rattle.arguments.specs.Reading.{Asks, Refuses, RefusesOptionsOf}
use Rattle.arguments.specs.declared.faults.ArgFault.{ArgFault}
use Rattle.arguments.specs.declared.faults.ArgFault.TheVariants.{Options, Words, Text, SameNode, TooManyNodes, NoSuchNode}
use Rattle.arguments.specs.declared.mode.ServeOptions.{ServeOptions}
use Rattle.arguments.specs.declared.mode.NodeOptions.{NodeOptions}
use Rattle.arguments.specs.declared.mode.Mode.TheVariants.{Script, Serve, Node}
use Rattle.cluster_main.specs.Answering.{DoesFor, DoesNothing, DoesTask, PlaysScript, RunsNode, Streams, Told}
use Rattle.cluster_main.specs.Refusing.{IsRefused, IsShown, IsTold, status_for}
use Rattle.cluster_main.specs.Serving.{Serves, TellsWhy, served_status}
use Rattle.cluster_main.specs.declared.serving.Served.{Served}

-- help, the version or an error was shown, or memory was refused
shown : (words : List Word) (kinds : Kinds) (e : Error) (s : Streams) (told : Told) (status : ℕ) → HasKind kinds e
    → Keeps s.input s.rest → IsShown e s.old s.new status
    → DoesFor words kinds s told status ⊎ (DoesNothing s × (status ≡ 1))
shown words kinds e s told status h u d = elim h [
  | inl o ↦
      let one : status_for (kind_of e) ≡ 1 = ap status_for o in
      inr (
        record { unread = u; unprinted = d.unprinted (λ z. absurd (omega (arith, z, one))) },
        elim d.status_is [
          | inl a ↦ a ∙ one
          | inr b ↦ b.1
        ],
      )
  | inr a ↦ inl (by kinds a)
]
  where
    by : (ks : Kinds) → IsAmong (kind_of e) ks → DoesFor words ks s told status
    by [] a = absurd a
    by (k ∷ ks) a =
        record { shown = kind_of e; among = a; unread = u; status_is = d.status_is; unprinted = d.unprinted }

-- words that clap takes are done as their subcommand says
taken : (words : List Word) (s : Streams) (told : Told) (status : ℕ) → refusals words ≡ []
    → DoesTask (subcommand_of program words) s told status → DoesFor words (refusals words) s told status
taken words s told status e d = rw e d

-- a script was played
pub played : (words : List Word) (s : Streams) (told : Told) (status : ℕ) → Asks words Script → PlaysScript s status → Keeps told.old told.new
    → DoesFor words (refusals words) s told status
played words s told status a d u = taken words s told status a.taken (inl (a.asked, d, u))

-- consoles were served
pub served : (words : List Word) (o : ServeOptions) (came : Served) (s : Streams) (told : Told) (status : ℕ)
    → Asks words (Serve o) → Keeps s.input s.rest → Serves o s.old s.new came → TellsWhy o told.old told.new came
    → status ≡ served_status came
    → DoesFor words (refusals words) s told status
served words o came s told status a u d y e =
    taken words s told status a.taken (inr (inl (
      a.asked.0,
      record {
        options = o;
        served = came;
        given = a.asked.1;
        unread = u;
        serves = d;
        why = y;
        status_is = e;
      },
    )))

-- a node was run
pub ran : (words : List Word) (o : NodeOptions) (s : Streams) (told : Told) (status : ℕ) → Asks words (Node o) → RunsNode o s status
    → Keeps told.old told.new → DoesFor words (refusals words) s told status
ran words o s told status a d u = taken words s told status a.taken (inr (inr (inl (
  a.asked.0,
  record { options = o; given = a.asked.1; runs = d; untold = u },
))))

-- what stands behind the subcommand was refused
listed : (words : List Word) (fault : ArgFault) (s : Streams) (told : Told) (status : ℕ) → RefusesOptionsOf words fault
    → Keeps s.input s.rest → IsTold fault s.old s.new told.old told.new status
    → DoesFor words (refusals words) s told status
listed words fault s told status r u d =
    taken words s told status r.taken (inr (inr (inr (record { fault = fault; refused = r.refused; unread = u; answered = d }))))

-- the words were refused
pub refused : (words : List Word) (fault : ArgFault) (s : Streams) (told : Told) (status : ℕ) → Refuses words fault
    → Keeps s.input s.rest → IsRefused fault s.old s.new told.old told.new status
    → DoesFor words (refusals words) s told status ⊎ (DoesNothing s × (status ≡ 1))
refused words (Words e) s told status r u d = shown words (refusals words) e s told status r u d
refused words (Text f) s told status r u d = inl (listed words (Text f) s told status r u d)
refused words SameNode s told status r u d = inl (listed words SameNode s told status r u d)
refused words TooManyNodes s told status r u d = inl (listed words TooManyNodes s told status r u d)
refused words NoSuchNode s told status r u d = inl (listed words NoSuchNode s told status r u d)
refused words (Options f) s told status r u d = inl (listed words (Options f) s told status r u d)
