use Rattle.std.proofs.Common.{◌∙◌, ap, sym, subst}
use Rattle.std.specs.Prelude.{slice_get, not}
use Rattle.std.specs.Option.{option_copied}
use Rattle.std.proofs.lemmas.Bool.{eqb-true, eqb-false, false≢true}
use Rattle.term.specs.Nodes.{name_of}
use Rattle.link.specs.MeshState.{from_of, to_of, seen}
use Rattle.cluster_world.specs.Links.{SentLetter, Unsent}
use Rattle.cluster_world.specs.Mail.{Mailed, IsSound}
use Rattle.cluster_world.proofs.Listed.{known_place}
use Rattle.cluster_world.proofs.Mails.{link_there, found_first, none_found, none_at_all, outbox_first, outbox_none}
use Rattle.cluster_world.proofs.mail.Mail.first_sender.Goals as goal
use Rattle.cluster_world.proofs.mail.Mail.first_sender.Goals.{else-eq-via-then-eq+then-not-has_left+else-has_for, else-eq-via-then-eq+else-not-has_left, else-eq-via-else-eq}

pub front_at-requires : goal.front_at-requires
front_at-requires c =
    (link_there _ c.self.invariant c.args.self.now c.self.view_is c.args.link c.args.name.now c.args.receiver.now c.requires).0

pub returns-in-Some : goal.returns-in-Some
returns-in-Some c =
    let s = subst (λ (h : Mailed). IsSound h) c.self.view_is c.self.invariant in
    let l = link_there _ c.self.invariant c.args.self.now c.self.view_is c.args.link c.args.name.now c.args.receiver.now c.requires in
    record {
      first = found_first c.args.self.now s c.args.name.now c.args.receiver.now (from_of c.args.link c.self.inside.mesh)
          (to_of c.args.link c.self.inside.mesh) c.copy.result c.in-Some.oldest.now l.1 l.2
          (c.copy.ensures ∙ ap (λ (s : SentLetter). s.sender) c.oldest.view_is)
          (known_place c.args.self.now.nodes c.args.receiver.now c.args.link.receiver c.requires.receiver)
          (c.in-Some.ensures
          ∙ ap (λ (h : Mailed). slice_get ((seen h.mesh).queue (from_of c.args.link c.self.inside.mesh)
          (to_of c.args.link c.self.inside.mesh)) 0) c.self.view_is);
      left = s.left;
    }

pub returns-in_default-unsent : goal.returns-in_default-unsent
returns-in_default-unsent c =
    let s = subst (λ (h : Mailed). IsSound h) c.self.view_is c.self.invariant in
    let l = link_there _ c.self.invariant c.args.self.now c.self.view_is c.args.link c.args.name.now c.args.receiver.now c.requires in
    let none = none_found c.args.self.now s c.args.name.now c.args.receiver.now (from_of c.args.link c.self.inside.mesh)
    (to_of c.args.link c.self.inside.mesh) l.1 l.2 (ap option_copied (sym c.in_default.is) ∙ c.front_at.ensures
    ∙ ap (λ (h : Mailed). slice_get ((seen h.mesh).queue (from_of c.args.link c.self.inside.mesh)
    (to_of c.args.link c.self.inside.mesh)) 0) c.self.view_is) in
    record {
      first = none_at_all c.args.self.now s c.args.name.now c.args.receiver.now none
          (ap (λ (h : Mailed). h.unsent) (sym c.self.view_is) ∙ c.in_default-unsent.is);
      left = s.left;
    }

pub returns-then-has_for : goal.returns-then-has_for
returns-then-has_for c =
    let s = subst (λ (h : Mailed). IsSound h) c.self.view_is c.self.invariant in
    let l = link_there _ c.self.invariant c.args.self.now c.self.view_is c.args.link c.args.name.now c.args.receiver.now c.requires in
    let none = none_found c.args.self.now s c.args.name.now c.args.receiver.now (from_of c.args.link c.self.inside.mesh)
    (to_of c.args.link c.self.inside.mesh) l.1 l.2 (ap option_copied (sym c.in_default.is) ∙ c.front_at.ensures
    ∙ ap (λ (h : Mailed). slice_get ((seen h.mesh).queue (from_of c.args.link c.self.inside.mesh)
    (to_of c.args.link c.self.inside.mesh)) 0) c.self.view_is) in
    record {
      first = outbox_first c.args.self.now s c.args.name.now c.args.receiver.now c.copy-then-has_for.result
          c.in-Some-unsent.outbox none
          (ap (λ (h : Mailed). h.unsent) (sym c.self.view_is) ∙ c.in-Some-unsent.is)
          (c.copy-then-has_for.ensures ∙ ap (λ (u : Unsent). u.sender) c.outbox.view_is)
          (sym (ap (λ (u : Unsent). name_of u.sender) c.outbox.view_is) ∙ sym c.name.ensures
          ∙ eqb-true c.name.result.now c.args.name.now (sym c.eq.ensures ∙ c.if-eq.true))
          (sym c.has_left.ensures ∙ c.if-not-has_left.true) (c.has_for.ensures ∙ ap not c.if-has_for.true);
      left = s.left;
    }

pub returns : goal.returns
returns c =
    let s = subst (λ (h : Mailed). IsSound h) c.self.view_is c.self.invariant in
    let l = link_there _ c.self.invariant c.args.self.now c.self.view_is c.args.link c.args.name.now c.args.receiver.now c.requires in
    let none = none_found c.args.self.now s c.args.name.now c.args.receiver.now (from_of c.args.link c.self.inside.mesh)
    (to_of c.args.link c.self.inside.mesh) l.1 l.2 (ap option_copied (sym c.in_default.is) ∙ c.front_at.ensures
    ∙ ap (λ (h : Mailed). slice_get ((seen h.mesh).queue (from_of c.args.link c.self.inside.mesh)
    (to_of c.args.link c.self.inside.mesh)) 0) c.self.view_is) in
    record {
      first = outbox_none c.args.self.now s c.args.name.now c.args.receiver.now c.in-Some-unsent.outbox none
          (ap (λ (h : Mailed). h.unsent) (sym c.self.view_is) ∙ c.in-Some-unsent.is)
          (elim c.else-eq.branch [
            | else-eq-via-then-eq+then-not-has_left+else-has_for w ↦ λ named up. w.has_for.ensures ∙ ap not w.if-has_for.false
            | else-eq-via-then-eq+else-not-has_left w ↦ λ named up.
                absurd (false≢true (sym up ∙ sym w.has_left.ensures ∙ w.if-not-has_left.false))
            | else-eq-via-else-eq w ↦ λ named up.
                absurd (eqb-false c.name.result.now c.args.name.now (sym c.eq.ensures ∙ w.if-eq.false)
                (c.name.ensures ∙ ap (λ (u : Unsent). name_of u.sender) c.outbox.view_is ∙ named))
          ]);
      left = s.left;
    }
