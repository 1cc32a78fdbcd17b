use Rattle.std.proofs.Common.{not, sym, ◌∙◌, ap, refl}
use Rattle.term.proofs.NodeSets.{StandsAt, FitsAt, stands, would_stand, with_node-there, with_node-fits, set_of-there, set_of-fits, set_of-grown, insert-set}
use Rattle.term.proofs.node_set.NodeSet.insert.Goals as goal
use Rattle.term.proofs.node_set.NodeSet.insert.Goals.{in-Ok-try_insert, in-Err-try_insert}

there : (c : goal.In-Ok) → StandsAt c.self.inside.nodes.items c.in-Ok.field-0 c.args.node
there c =
    stands c.self.inside.nodes.items c.args.node c.in-Ok.field-0 c.binary_search.result c.in-Ok.is
    (rw (← c.deref.ensures.0) (c.binary_search.ensures.position)) c.self.invariant.rising

missing : (c : goal.Joined-try_insert) → FitsAt c.self.inside.nodes.items c.in-Err.place c.args.node
missing c =
    would_stand c.self.inside.nodes.items c.args.node c.in-Err.place c.binary_search.result c.in-Err.is
    (rw (← c.deref.ensures.0) (c.binary_search.ensures.position)) c.self.invariant.rising

pub returns-in-Ok-clause-inserted : goal.returns-in-Ok-clause-inserted
returns-in-Ok-clause-inserted c =
    rw (← c.self.view_is)
    (sym (with_node-there _ _ _ c.self.invariant.rising (there c)), sym (ap not (set_of-there _ _ _ (there c))))

pub returns-in-Ok-clause-holds : goal.returns-in-Ok-clause-holds
returns-in-Ok-clause-holds c =
    rw (← c.self.view_is)
    (set_of-grown _ _ c.args.node (sym (with_node-there _ _ _ c.self.invariant.rising (there c))))

pub invariant_of-self : goal.invariant_of-self
invariant_of-self c =
    elim c.match-try_insert.branch [
      | in-Ok-try_insert w ↦ rw (w.in-Ok-try_insert.ensures.ok)
          (insert-set _ _ _ c.self.invariant (missing c) (w.in-Ok-try_insert.ensures.variant.0 refl))
      | in-Err-try_insert w ↦ rw (w.in-Err-try_insert.ensures.err) (c.self.invariant)
    ]

pub returns-clause-inserted : goal.returns-clause-inserted
returns-clause-inserted c =
    elim c.match-try_insert.branch [
      | in-Ok-try_insert w ↦ rw (w.result-is, ← c.self.view_is) (
        w.in-Ok-try_insert.ensures.ok ∙ with_node-fits _ _ _ (missing c),
        sym
            (ap not (set_of-fits _ _ _ (missing c))),
      )
      | in-Err-try_insert w ↦ rw (w.result-is, ← c.self.view_is)
          (record {
            is = refl;
            full = w.in-Err-try_insert.ensures.full;
            other = set_of-fits _ _ _ (missing c);
          })
    ]

pub returns-clause-holds : goal.returns-clause-holds
returns-clause-holds c =
    elim c.match-try_insert.branch [
      | in-Ok-try_insert w ↦ rw (w.result-is, ← c.self.view_is)
          (set_of-grown _ _ c.args.node (w.in-Ok-try_insert.ensures.ok ∙ with_node-fits _ _ _ (missing c)))
      | in-Err-try_insert w ↦ rw (w.result-is) tt
    ]

pub returns-clause-set : goal.returns-clause-set
returns-clause-set c = invariant_of-self c
