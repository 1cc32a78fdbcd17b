use Rattle.std.proofs.Common.{◌≡◌, ℕ, List, Option, Some, Result, Ok, Err, Vec, Global, subst, sym}
use Rattle.std.specs.Prelude.{codes, option_map}
use Rattle.std.proofs.lemmas.Result.{err_from_is_err_and}
use Rattle.term.specs.declared.node_name.NodeName.{NodeName}
use Rattle.command_lines.specs.declared.faults.LineFault.{LineFault}
use Rattle.text_lines.specs.Words.{words}
use Rattle.cluster_script.specs.Script.{LineOpens, made_of, texts_behind}
use Rattle.cluster_script.specs.Headers.{OpensCluster, ReadsHeader}
use Rattle.cluster_script.specs.declared.header.Cluster.{Cluster}
use Rattle.cluster_script.proofs.Headers.{OpensCluster-by, LineOpens-misspelt, ReadsHeader-by}
use Rattle.cluster_script.proofs.header.open_cluster.Goals as goal

abbrev items : Vec NodeName Global → List ℕ
items nodes = nodes.items

-- what was read of the line
read : (text bytes : List ℕ) (q : Option (Result (Vec NodeName Global) LineFault))
    (nodes r : Result (Vec NodeName Global) LineFault)
    → text ≡ bytes → q ≡ Some nodes → nodes ≡ r
    → ReadsHeader (texts_behind (codes "cluster") (words text)) (option_map (made_of items) q)
    → ReadsHeader (texts_behind (codes "cluster") (words bytes)) (Some (made_of items r))
read text bytes q nodes r t e n h =
    subst (λ (line : List ℕ). ReadsHeader (texts_behind (codes "cluster") (words line)) (Some (made_of items r))) t
    (subst (λ (x : Result (Vec NodeName Global) LineFault). ReadsHeader (texts_behind (codes "cluster") (words text))
    (Some (made_of items x))) n (ReadsHeader-by items (texts_behind (codes "cluster") (words text)) q nodes e h))

-- what the exit of a `?` says of a first line
opens_none : (bytes : List ℕ) (r : Result Cluster LineFault) (y : LineFault) → r ≡ Err y → LineOpens bytes (Err y)
    → OpensCluster bytes r
opens_none bytes r y e h = rw e h

pub returns-in_err-nodes-in-Some : goal.returns-in_err-nodes-in-Some
returns-in_err-nodes-in-Some c = λ bytes k.
    let t = c.in_ok-text_of.ensures bytes k in
    let p = err_from_is_err_and c.from_residual-in_err-nodes-in-Some.result
    c.from_residual-in_err-nodes-in-Some.ensures.1 in
    opens_none bytes c.from_residual-in_err-nodes-in-Some.result p.0 p.1
    (subst (λ (f : LineFault). LineOpens bytes (Err f)) (sym p.2)
    (LineOpens-misspelt bytes c.in_err-nodes-in-Some.field-0.0 t.0
    (read c.in_ok-text_of.field-0.now bytes c.read_header.result c.in-Some.nodes (Err c.in_err-nodes-in-Some.field-0.0)
    t.1 c.in-Some.is c.in_err-nodes-in-Some.was c.read_header.ensures)))

pub returns-in_ok-nodes-in-Some : goal.returns-in_ok-nodes-in-Some
returns-in_ok-nodes-in-Some c = λ bytes k.
    let t = c.in_ok-text_of.ensures bytes k in
    OpensCluster-by bytes c.in_ok-nodes-in-Some.field-0.items c.cluster_of.result t.0
    (read c.in_ok-text_of.field-0.now bytes c.read_header.result c.in-Some.nodes (Ok c.in_ok-nodes-in-Some.field-0)
    t.1 c.in-Some.is c.in_ok-nodes-in-Some.was c.read_header.ensures) c.cluster_of.ensures
