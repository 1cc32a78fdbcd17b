use Rattle.std.proofs.Common.{◌≡◌, ◌++◌, List, ℕ, sym, ap, subst, ◌∙◌}
use Rattle.term.specs.NodeSets.{set_of}
use Rattle.node_loop.specs.Openings.{start_refused}
use Rattle.node_threads.specs.Wires.{Wired, IsCrew}
use Rattle.node_threads.proofs.cluster.Cluster.opened.Goals as goal

pub invariant_of-result : goal.invariant_of-result
invariant_of-result g c =
    let a : c.in_ok-joined.joined.items ≡ c.args.cluster.now = c.in_ok-joined.ensures in
    let b : c.in_ok-others.others.items ≡ c.args.lone.now = c.in_ok-others.ensures in
    let both : c.in_ok-joined.joined.items ++ c.in_ok-others.others.items ≡ c.args.cluster.now ++ c.args.lone.now =
    ap (λ (l : List ℕ). l ++ c.in_ok-others.others.items) a ∙ ap (λ (l : List ℕ). c.args.cluster.now ++ l) b in (
      ap (λ (l : List ℕ). start_refused l c.in_ok-others.others.items) a
          ∙ ap (start_refused c.args.cluster.now) b ∙ c.requires.lists,
      subst (λ (x : List ℕ × List ℕ × List Wired). IsCrew x.0 x.1 x.2) (λ j. (sym a j, sym b j, sym c.in_ok-running.ensures j)) c.in_ok-berths.ensures,
      λ n. ap (λ (ns : List ℕ). set_of ns n) (c.in_ok-shared.ensures ∙ c.nodes.ensures.nodes) ∙ c.requires.opens.nodes n
          ∙ ap (λ (ns : List ℕ). set_of ns n) (sym both),
    )

pub returns-clause-cluster : goal.returns-clause-cluster
returns-clause-cluster g c = c.in_ok-joined.ensures

pub returns-clause-lone : goal.returns-clause-lone
returns-clause-lone g c = c.in_ok-others.ensures

pub returns-clause-world : goal.returns-clause-world
returns-clause-world g c = λ n. ap (λ (ns : List ℕ). set_of ns n) (c.in_ok-shared.ensures ∙ c.nodes.ensures.nodes) ∙ c.requires.opens.nodes n

pub returns-clause-crew : goal.returns-clause-crew
returns-clause-crew g c = subst (IsCrew c.args.cluster.now c.args.lone.now) (sym c.in_ok-running.ensures) c.in_ok-berths.ensures
