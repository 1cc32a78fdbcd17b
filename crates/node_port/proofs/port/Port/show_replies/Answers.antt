use Rattle.std.proofs.Common.{refl, ap, ◌∙◌}
use Rattle.node_loop.specs.Held.{Looping}
use Rattle.node_loop.specs.Told.{told_by}
use Rattle.node_port.specs.declared.port.Port.{Port}
use Rattle.node_port.proofs.Showing.{shows_nothing, shows_reply}
use Rattle.node_port.proofs.Working.{shows_on}
use Rattle.node_port.proofs.port.Port.show_replies.Goals as goal

pub loop-reply-init : goal.loop-reply-init
loop-reply-init c = (shows_nothing c.args.self.now c.args.self.now refl refl, refl)

pub loop-reply-preserved : goal.loop-reply-preserved
loop-reply-preserved c =
    let a = c.loop-reply.self in
    let b : Port = record a { node = c.next_reply.new.self; output = record a.output { answers = c.push_reply.new.text } } in (
      shows_on c.args.self.now a b c.loop-reply.invariant.0
          (shows_reply a b (told_by c.in-Some.reply) (record { oldest = c.in-Some.ensures.oldest; rest = c.in-Some.ensures.rest })
          refl refl c.in_ok-push_reply.ensures),
      ap (λ (l : Looping). l.owed) c.next_reply.ensures.rest ∙ c.loop-reply.invariant.1,
    )
