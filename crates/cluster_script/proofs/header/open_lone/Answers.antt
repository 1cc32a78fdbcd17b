use Rattle.std.proofs.Common.{ℕ, List, Option, None, Result, Vec, Global, subst, refl}
use Rattle.std.specs.Prelude.{MatchResult, option_map}
use Rattle.term.specs.declared.node_name.NodeName.{NodeName}
use Rattle.cluster_world.specs.WorldState.{WorldState}
use Rattle.command_lines.specs.declared.faults.LineFault.{LineFault}
use Rattle.cluster_script.specs.Script.{made_of, lone_line}
use Rattle.cluster_script.specs.Headers.{OpensLone, ReadsHeader, StartsBeside}
use Rattle.cluster_script.specs.declared.header.Headers.TheVariants.{Open, Refused}
use Rattle.cluster_script.proofs.Headers.{OpensLone-lone, OpensLone-none, ReadsHeader-by, read_or_memory}
use Rattle.cluster_script.proofs.header.open_lone.Goals as goal

abbrev items : Vec NodeName Global → List ℕ
items nodes = nodes.items

pub returns-in_default : goal.returns-in_default
returns-in_default c = λ bytes k.
    OpensLone-none c.args.cluster.nodes.items bytes c.args.cluster.world c.args.cluster.world c.read_command.result refl
    (subst (λ (x : Option (Result (Vec NodeName Global) LineFault)). ReadsHeader (lone_line bytes)
    (option_map (made_of items) x)) c.in_default.is (c.read_lone.ensures bytes k))
    c.requires (read_or_memory bytes c.read_command.result (λ n. c.read_command.ensures.asks n bytes k))

pub returns-in-Ok : goal.returns-in-Ok
returns-in-Ok c = λ bytes k.
    let cluster = c.args.cluster.nodes.items in
    subst (λ (r : Result WorldState LineFault). MatchResult r (λ world. OpensLone cluster bytes (Open world None))
    (λ f. OpensLone cluster bytes (Refused f))) c.in-Ok.is
    (OpensLone-lone cluster bytes (made_of items c.in-Some.lone)
    (ReadsHeader-by items (lone_line bytes) c.read_lone.result c.in-Some.lone c.in-Some.is (c.read_lone.ensures bytes k))
    c.start_beside.result
    (subst (λ (ns : List ℕ). StartsBeside ns (made_of items c.in-Some.lone) c.start_beside.result) c.deref.ensures.value
    c.start_beside.ensures))

pub returns : goal.returns
returns c = λ bytes k.
    let cluster = c.args.cluster.nodes.items in
    subst (λ (r : Result WorldState LineFault). MatchResult r (λ world. OpensLone cluster bytes (Open world None))
    (λ f. OpensLone cluster bytes (Refused f))) c.in-Err.is
    (OpensLone-lone cluster bytes (made_of items c.in-Some.lone)
    (ReadsHeader-by items (lone_line bytes) c.read_lone.result c.in-Some.lone c.in-Some.is (c.read_lone.ensures bytes k))
    c.start_beside.result
    (subst (λ (ns : List ℕ). StartsBeside ns (made_of items c.in-Some.lone) c.start_beside.result) c.deref.ensures.value
    c.start_beside.ensures))
