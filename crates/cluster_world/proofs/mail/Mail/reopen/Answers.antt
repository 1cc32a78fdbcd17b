use Rattle.std.proofs.Common.{ℕ, true, ◌≡◌, ◌∙◌, None, ap, sym, subst}
use Rattle.std.specs.Prelude.{OnOk, IfErr}
use Rattle.term.specs.Nodes.{name_of}
use Rattle.term.specs.NodeSets.{set_of, with_older}
use Rattle.link.specs.Faults.{IsStranger}
use Rattle.link.specs.MeshState.{seen}
use Rattle.link.specs.Reopening.{reopened}
use Rattle.cluster_world.specs.Mail.{Mailed, links_of}
use Rattle.cluster_world.proofs.Mails.{links_reopened, sound_reopened}
use Rattle.cluster_world.proofs.mail.Mail.reopen.Goals as goal

-- the mail before, and what its mesh did
module _ (c : goal.After-self-1) where
  abbrev v : Mailed
  v = record {
    nodes = c.self.inside.nodes;
    departed = c.self.inside.departed;
    mesh = c.self.inside.mesh;
    unsent = c.self.inside.unsent;
  }

  abbrev older : ℕ
  older = c.args.older.now

  here : set_of v.nodes older ≡ true
  here = subst (λ (h : Mailed). set_of h.nodes older ≡ true) (sym c.self.view_is) c.requires.present

  away : with_older v.departed older ≡ true
  away = subst (λ (h : Mailed). with_older h.departed older ≡ true) (sym c.self.view_is) c.requires.left

  all : v.unsent ≡ None
  all = ap (λ (h : Mailed). h.unsent) c.self.view_is ∙ c.requires.all

  ok : OnOk c.reopen.result (seen c.reopen.new.self ≡ reopened (name_of older) (seen v.mesh))
  ok = subst (λ (x : ℕ). OnOk c.reopen.result (seen c.reopen.new.self ≡ reopened x (seen v.mesh))) c.on_mesh.ensures c.reopen.ensures.ok

  err : IfErr c.reopen.result (λ fault. IsStranger fault (name_of older) v.mesh)
  err = subst (λ (x : ℕ). IfErr c.reopen.result (λ fault. IsStranger fault x v.mesh)) c.on_mesh.ensures c.reopen.ensures.err

pub invariant_of-self : goal.invariant_of-self
invariant_of-self c =
    sound_reopened (v c) c.self.invariant (older c) c.args.next.now c.with_next-self-inside.result c.reopen.new.self c.reopen.result
    c.requires.next (here c) (away c) (all c) c.reopen.ensures.nodes (ok c) (err c) c.with_next-self-inside.ensures

pub returns-clause-links : goal.returns-clause-links
returns-clause-links c =
    links_reopened (v c) c.self.invariant (older c) c.args.next.now c.with_next-self-inside.result c.reopen.new.self c.reopen.result
    c.requires.next (here c) (away c) (all c) c.reopen.ensures.nodes (ok c) (err c) c.with_next-self-inside.ensures
    ∙ ap (λ (h : Mailed). links_of h) c.self.view_is
