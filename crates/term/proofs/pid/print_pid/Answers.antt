use Rattle.std.proofs.Common.{ℕ, ◌≤◌, refl, arith, subst, sym}
use Rattle.std.proofs.lemmas.Result.{IfOk-weaker}
use Rattle.std.specs.Fmt.{decimal}
use Rattle.registry_model.specs.Process.{Process}
use Rattle.term.specs.Spelling.{SpellsNode, node_bytes}
use Rattle.term.proofs.pid.print_pid.Goals as goal

pub returns : goal.returns
returns g c =
    let P : Process → Type 0 = λ p. 1 ≤ p.serial in
    rw (← c.pid.view_is)
    (IfOk-weaker c.format.result _ _ (λ text e. record {
      node = node_bytes c.as_spelled-node.result.now;
      digits = decimal c.pid.inside.serial;
      parts = e;
      node_spelled = subst (λ (m : ℕ). SpellsNode (node_bytes m) c.pid.inside.node) (sym c.as_spelled-node.ensures.same)
          c.as_spelled-node.ensures.spelled;
      serial_spelled = record { written = refl; low = subst P (sym c.pid.view_is) c.requires; high = omega arith };
    }) c.format.ensures.ok)
