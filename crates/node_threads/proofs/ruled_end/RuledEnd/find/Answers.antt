use Rattle.std.proofs.Common.{ℕ, ◌≡◌, Option, Some, None, List, [], ◌∷◌, ◌++◌, sym, ap, subst, ◌∙◌}
use Rattle.link.specs.Mailboxes.{taken}
use Rattle.node_loop.specs.declared.item.Task.{Task}
use Rattle.node_loop.specs.declared.item.Item.{Item}
use Rattle.node_seats.specs.Lines.{Sent}
use Rattle.node_threads.specs.declared.ruled_end.Found.{Found}
use Rattle.node_threads.specs.declared.ruled_end.Found.TheVariants.{Other}
use Rattle.node_threads.specs.declared.ruled_end.Traffic.{Traffic}
use Rattle.node_threads.specs.Givers.{receivers, node_under}
use Rattle.node_threads.specs.Traffics.{Finds}
use Rattle.node_threads.proofs.Givers.{end_at, finds_task, finds_letter, finds_stranger}
use Rattle.node_threads.proofs.ruled_end.RuledEnd.find.Goals.{in-Some-node_under, in-None+in-JoinAsk-1, in-None+in-Admit-1, in-None+in-Welcome-1, in-None+in-SetLock-1}
use Rattle.node_threads.proofs.ruled_end.RuledEnd.find.Goals as goal

pub returns-in-Task : goal.returns-in-Task
returns-in-Task g c = finds_task c.self.inside.node c.self.inside.first.value c.self.inside.lines.items (taken c.self.inside.mailbox)
    (taken c.take.new.self) c.self.inside.waiting.items c.push_back_reserved.new.self.items c.self.inside.in_a_row c.self.inside.has_passed c.self.inside.looks
    c.self.inside.in_vain
    c.args.self.now c.self.view_is
    c.in-Some.field-0 c.in-Some.ensures.some c.in-Task.task c.in-Task.is
    (c.push_back_reserved.ensures.items ∙ ap (λ (l : List Task). l ++ c.in-Task.task ∷ []) c.reserve.ensures.items)

pub returns-after-node_under : goal.returns-after-node_under
returns-after-node_under g c = elim c.match-node_under.branch [
  | in-Some-node_under w ↦ subst is_found (sym w.result-is)
      (finds_letter _ _ _ _ _ _ _ _ _ _ _ _ c.self.view_is c.in-Some.field-0 c.in-Some.ensures.some c.in-Letter.stamped c.in-Letter.is
      c.reserve.ensures.items w.in-Some-node_under.from (under (Some w.in-Some-node_under.from) w.in-Some-node_under.is))
  | in-None+in-JoinAsk-1 w ↦ subst is_found (sym w.result-is) (strange w.in-None.is)
  | in-None+in-Admit-1 w ↦ subst is_found (sym w.result-is) (strange w.in-None.is)
  | in-None+in-Welcome-1 w ↦ subst is_found (sym w.result-is) (strange w.in-None.is)
  | in-None+in-SetLock-1 w ↦ subst is_found (sym w.result-is) (strange w.in-None.is)
]
  where
    end : Traffic
    end = end_at c.self.inside.node c.self.inside.first.value c.self.inside.lines.items (taken c.take.new.self) c.reserve.new.self.items c.self.inside.in_a_row
        c.self.inside.has_passed c.self.inside.looks
        c.self.inside.in_vain

    is_found : Found → Type 0
    is_found f = Finds f c.args.self.now end

    under : (from : Option ℕ) → c.node_under.result ≡ from
        → node_under c.in-Some.field-0.number (receivers c.self.inside.lines.items) ≡ from
    under from e = ap (λ (ls : List (Sent Item)). node_under c.in-Some.field-0.number (receivers ls)) (sym c.as_slice.ensures.value)
        ∙ sym c.node_under.ensures ∙ e

    strange : c.node_under.result ≡ None → is_found Other
    strange e = finds_stranger _ _ _ _ _ _ _ _ _ _ _ _ c.self.view_is c.in-Some.field-0 c.in-Some.ensures.some c.in-Letter.stamped c.in-Letter.is
        c.reserve.ensures.items (under None e)
