use Rattle.std.proofs.Common.{Option, None, refl, subst}
use Rattle.std.proofs.lemmas.Result.{on_ok_weaker}
use Rattle.node_loop.specs.Owing.{TakesUpdate}
use Rattle.node_loop.specs.declared.edit.Update.{Update}
use Rattle.node_port.specs.declared.port.Port.{Port}
use Rattle.node_port.proofs.Showing.{shows_edit, shows_nothing}
use Rattle.node_port.proofs.port.Port.show_update.Goals as goal

pub returns-in-Some-clause-still : goal.returns-in-Some-clause-still
returns-in-Some-clause-still c =
    let a = c.args.self.now in
    let b : Port = record a { node = c.next_update.new.self; output = record a.output { changes = c.push_edit.new.text } } in
    on_ok_weaker c.push_edit.result
    (λ e. shows_edit a b c.in-Some.update
    (subst (λ (u : Option Update). TakesUpdate u a.node b.node) c.in-Some.is c.in_ok-update.ensures.ok) refl e refl)
    c.push_edit.ensures

pub returns-in-None-clause-still : goal.returns-in-None-clause-still
returns-in-None-clause-still c =
    let a = c.args.self.now in
    let b : Port = record a { node = c.next_update.new.self } in
    let none : TakesUpdate None a.node b.node
    = subst (λ (u : Option Update). TakesUpdate u a.node b.node) c.in-None.is c.in_ok-update.ensures.ok in
    shows_nothing a b (λ i. record { loop = none.0 i; end = a.end }) refl
