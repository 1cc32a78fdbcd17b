-- The rule by which an operation is done.
use Rattle.std.proofs.Common.{ℕ, Bool, true, false, ◌≡◌, Option, Some, None, List, [], ◌∷◌, ◌++◌, refl, sym, ap, ◌∙◌, subst}
use Rattle.std.specs.Prelude.{if◌then◌else◌, not, ◌&&◌, nat_lt}
use Rattle.std.proofs.Math.Path.{fun_ext}
use Rattle.std.proofs.lemmas.Bool.{ltb-true, and_from}
use Rattle.registry_model.specs.Process.{Process, Nodes, nodes_of}
use Rattle.registry_model.specs.Call.{Reply}
use Rattle.registry_model.specs.Registry.{in_group}
use Rattle.registry_model.specs.Legal.{IsLegal}
use Rattle.registry_model.specs.History.{Done, Standing, hold_at, is_holding, set_hold, after}
use Rattle.protocol_model.specs.Letter.{Global, Letter}
use Rattle.protocol_model.specs.Node.{Op, Current}
use Rattle.protocol_model.specs.Turn.{Turn, begun, at_work, enter, sent_to}
use Rattle.protocol_model.specs.Registrar.{registrar, answer_op, give_global}
use Rattle.protocol_model.specs.World.{Opening, in_world, in_cluster, World}
use Rattle.moves.proofs.Indices.{both, empty_at}
use Rattle.moves.proofs.Rules.{Rule, Finishes, May, turn_by, effect}
use Rattle.moves.proofs.Invariants.{Proper, Exclusive, JoinsKnown}
use Rattle.registry_model.proofs.HistoryParts.{registry-after}
use Rattle.replicas.proofs.Histories.{IsLegal-more, hold_at-with, hold_at-without}
use Rattle.replicas.proofs.Scenes.{Carries, doing_of, is_busy, struck_by, struck_of, mine, Scene, scene_of, AreStruck, Kept}
use Rattle.replicas.proofs.BaseLetters.{mine-silent, silent-each}
use Rattle.replicas.proofs.Steps.{at-itself, sent, sent-nothing, stepped, scene_of-effect, effect-history}
use Rattle.replicas.proofs.Counting.{done_scene, Kept-done}
use Rattle.replicas.proofs.Bridge.{standing, groups}
use Rattle.replicas.proofs.Known.{Known}
use Rattle.replicas.proofs.Deciding.{same_scene}

-- an answer leaves the node, its letters and its entries as they are
pub answer_op-parts : (n a : ℕ) (op : Op) (reply : Option Reply) (u : Turn)
    → answer_op n a op reply u ≡ record u { answers = (answer_op n a op reply u).answers }
answer_op-parts n a (Op.Name k call) (Some reply) u = refl
answer_op-parts n a (Op.Name k call) None u = refl
answer_op-parts n a (Op.Strike p) reply u = refl
answer_op-parts n a (Op.Join k m) reply u = refl
answer_op-parts n a (Op.Admission j pairs) reply u = refl

-- those behind are to be struck too
AreStruck-behind : (o : Opening) (S : Scene) (a : ℕ) (ps qs : List Process) → AreStruck o S a (ps ++ qs)
    → AreStruck o S a qs
AreStruck-behind o S a [] qs h = h
AreStruck-behind o S a (p ∷ ps) qs h = AreStruck-behind o S a ps qs h.1

module _ (o : Opening) (w : World) (P : Proper o w) (X : Exclusive o w) (J : JoinsKnown o w) (I : Known o w) (a : ℕ)
    (op : Op) (asked awaited : Nodes) (reply : Option Reply) (m : May o a w (Finishes op asked awaited reply)) where
  abbrev s : Standing
  s = standing o w P X J I

  abbrev S : Scene
  S = scene_of o w

  abbrev r : Rule
  r = Finishes op asked awaited reply

  at_it : doing_of (w.node a).current ≡ Carries op awaited reply
  at_it = ap doing_of m.tested.0

  holding : is_holding s a ≡ true
  holding = I.kept.holds a ∙ ap is_busy at_it

  everywhere : (c : ℕ) → in_world o c ≡ true → awaited c ≡ false
  everywhere c e = empty_at o.bound awaited m.tested.1 c
      (ltb-true c o.bound (both (nat_lt c o.bound) (o.nodes c) e).0)

  less : AreStruck o S a (struck_of (w.node a).queue)
  less = AreStruck-behind o S a (struck_by (w.node a).current) (struck_of (w.node a).queue) (I.kept.struck a)

  -- the turn, with other answers
  abbrev turned : Turn → Turn
  turned u = at_work Current.Free (give_global o.bound a (λ c. asked c && not ((w.node a).replica.told c)) u)

  abbrev plain : Turn
  plain = record (enter (Done a) (begun (w.node a)))
      { answers = (answer_op o.bound a op reply (enter (Done a) (begun (w.node a)))).answers }

  is_plain : turn_by o a w r ≡ turned plain
  is_plain = ap turned (answer_op-parts o.bound a op reply (enter (Done a) (begun (w.node a))))

  after-done : after s (Done a) ≡ set_hold a None s
  after-done = ap (λ (b : Bool). if b then set_hold a None s else s) holding

  hold-done : (c : ℕ) → hold_at (after s (Done a)) c ≡ (if in_group s.registry a c then None else hold_at s c)
  hold-done c = ap (λ (t : Standing). hold_at t c) after-done ∙ go (in_group s.registry a c) refl
    where
      go : (b : Bool) → in_group s.registry a c ≡ b
          → hold_at (set_hold a None s) c ≡ (if b then None else hold_at s c)
      go true g = hold_at-with a None s c g
      go false g = hold_at-without a None s c g

  same : scene_of o (effect o a r w) ≡ done_scene o S I.kept (groups o w P X J I) a op awaited reply at_it everywhere
      (struck_of (w.node a).queue) less
  same = scene_of-effect o a w r refl
      ∙ ap (λ (u : Turn). stepped o a w u (sent a w.links.closed (λ y. mine (sent_to y u.sends)) S.mail)) is_plain
      ∙ same_scene (stepped o a w (turned plain)
      (sent a w.links.closed (λ y. mine (sent_to y (turned plain).sends)) S.mail))
      (done_scene o S I.kept (groups o w P X J I) a op awaited reply at_it everywhere
      (struck_of (w.node a).queue) less)
      (registry-after s (Done a)) (fun_ext hold-done) refl
      (at-itself S.replica a (w.node a).replica refl) refl refl (at-itself S.dead a (w.node a).watch.dead refl)
      (sent-nothing a w.links.closed (λ y. mine (sent_to y (turned plain).sends)) S.mail
      (λ y. mine-silent (turned plain).sends y
      (silent-each (nodes_of o.bound (λ c. asked c && not ((w.node a).replica.told c)))
      (Letter.GiveBack (Global a) (registrar a) false) refl)))

  -- an operation that was carried out everywhere is done
  pub Known-done : Known o (effect o a r w)
  Known-done = record {
    legal = subst (IsLegal (in_cluster o)) (sym
        (effect-history o a w r ∙ ap (λ (u : Turn). w.history ++ u.entries) is_plain))
        (IsLegal-more (in_cluster o) w.history (Done a ∷ []) I.legal (and_from _ _ holding refl));
    kept = subst (Kept o) (sym same)
        (Kept-done o S I.kept (groups o w P X J I) a op awaited reply at_it everywhere
        (struck_of (w.node a).queue) less);
  }
