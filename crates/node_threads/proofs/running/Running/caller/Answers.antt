use Rattle.std.proofs.Common.{◌≡◌, sym, ap, subst, ◌∙◌}
use Rattle.std.specs.Prelude.{IfOk}
use Rattle.node_seats.specs.Addresses.{Inbox, inbox_at}
use Rattle.node_seats.specs.Callers.{seen_of}
use Rattle.node_seats.specs.Pages.{Book}
use Rattle.node_seats.specs.Readers.{unseen}
use Rattle.node_threads.specs.Starts.{IsAtStart}
use Rattle.node_threads.specs.Wires.{Wired}
use Rattle.node_threads.proofs.running.Running.caller.Goals as goal

pub invariant_of-self : goal.invariant_of-self
invariant_of-self g c =
    let same : inbox_at c.self.inside.address ≡ inbox_at c.another.new.address =
    λ j. record { node = sym c.another.ensures.same j; room = sym c.another.ensures.room j; book = sym c.another.ensures.book j } in (
      subst (λ (b : Inbox). IsAtStart b c.self.inside.handle.promise.0.value c.self.inside.handle.promise.1.value.items c.self.inside.handle.promise.2.value)
          same c.self.invariant.0,
      c.another.ensures.own ∙ c.self.invariant.1 ∙ same,
      c.self.invariant.2 ∙ ap (λ (b : Inbox). b.book) same,
    )

pub returns-clause-node : goal.returns-clause-node
returns-clause-node g c =
    let same : inbox_at c.another.new.address ≡ inbox_at c.self.inside.address =
    λ j. record { node = c.another.ensures.same j; room = c.another.ensures.room j; book = c.another.ensures.book j } in
    ap (λ (b : Inbox). record {
      inbox = b;
      core = c.self.inside.handle.promise.0.value.core;
      lines = c.self.inside.handle.promise.1.value.items;
    }) same ∙ c.self.view_is

pub returns-clause-unread : goal.returns-clause-unread
returns-clause-unread g c = subst (λ (b : Book). IfOk c.another.result (λ caller. seen_of caller ≡ unseen b))
    (ap (λ (w : Wired). w.inbox.book) c.self.view_is) c.another.ensures.unread
