use Rattle.std.proofs.Common.{ℕ, true, ◌≡◌, ◌∙◌, List, [], ◌∷◌, ap, sym, subst}
use Rattle.std.specs.Prelude.{OnOk, IfErr, ◌&&◌, ◌||◌}
use Rattle.protocol_model.specs.Links.{closed_out}
use Rattle.term.specs.Nodes.{name_of}
use Rattle.term.specs.NodeSets.{set_of, with_older}
use Rattle.link.specs.Faults.{IsStranger}
use Rattle.link.specs.MeshState.{seen}
use Rattle.cluster_world.specs.Mail.{Mailed, links_of}
use Rattle.cluster_world.proofs.Mails.{links_closed, sound_closed}
use Rattle.cluster_world.proofs.mail.Mail.close_out.Goals as goal

-- the mail before, and what its mesh did
module _ (c : goal.After-self-1) where
  abbrev v : Mailed
  v = record {
    nodes = c.self.inside.nodes;
    departed = c.self.inside.departed;
    mesh = c.self.inside.mesh;
    unsent = c.self.inside.unsent;
  }

  abbrev gone : ℕ
  gone = c.args.node.now

  abbrev now : List ℕ
  now = c.last_within-self-inside.result

  here : set_of v.nodes gone ≡ true
  here = subst (λ (h : Mailed). set_of h.nodes gone ≡ true) (sym c.self.view_is) c.requires.present

  ok : OnOk c.close_out.result (seen c.close_out.new.self ≡ closed_out (name_of gone) (seen v.mesh))
  ok = subst (λ (x : ℕ). OnOk c.close_out.result (seen c.close_out.new.self ≡ closed_out x (seen v.mesh))) c.on_mesh.ensures
      c.close_out.ensures.ok

  err : IfErr c.close_out.result (λ fault. IsStranger fault (name_of gone) v.mesh)
  err = subst (λ (x : ℕ). IfErr c.close_out.result (λ fault. IsStranger fault x v.mesh)) c.on_mesh.ensures c.close_out.ensures.err

  are : (e : ℕ) → with_older now e ≡ (with_older v.nodes e && (with_older v.departed e || with_older (gone ∷ []) e))
  are = subst (λ (ns : List ℕ). (e : ℕ) → with_older now e ≡ (with_older v.nodes e && (with_older v.departed e || with_older ns e)))
      (c.one-alone.ensures ∙ ap (λ (n : ℕ). n ∷ []) c.copy.ensures) c.last_within-self-inside.ensures

pub invariant_of-self : goal.invariant_of-self
invariant_of-self c =
    sound_closed (v c) c.self.invariant (gone c) (now c) c.close_out.new.self c.close_out.result (here c) c.close_out.ensures.nodes
    (ok c) (err c) (are c)

pub returns-clause-links : goal.returns-clause-links
returns-clause-links c =
    links_closed (v c) c.self.invariant (gone c) (now c) c.close_out.new.self c.close_out.result (here c) c.close_out.ensures.nodes
    (ok c) (err c) (are c)
    ∙ ap (λ (h : Mailed). closed_out (gone c) (links_of h)) c.self.view_is
