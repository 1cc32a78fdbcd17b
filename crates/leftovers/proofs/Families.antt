-- The families of this crate together, after every list of events.
use Rattle.std.proofs.Common.{ℕ, true, false, ◌≡◌, List, [], refl, ap, ◌∙◌, subst}
use Rattle.std.specs.Prelude.{if◌then◌else◌}
use Rattle.protocol_model.specs.Node.{Node}
use Rattle.protocol_model.specs.World.{Opening, in_world, World, left, WorldEvent, opening_world, run}
use Rattle.registry_model.proofs.Updates.{by_test}
use Rattle.headline.proofs.Rules
use Rattle.headline.proofs.Rules.{Rule}
use Rattle.walk.proofs.Orders.{effect-node}
use Rattle.headline.proofs.Base.{effect-turn}
use Rattle.leftovers.proofs.Grounds.{Base, Both, along, between}
use Rattle.leftovers.proofs.Departures.{Departed, departed_keeps, departed_opens}
use Rattle.leftovers.proofs.Near.{Near, near_keeps, near_opens}
use Rattle.leftovers.proofs.Granted.{Granted, granted_keeps, granted_opens}
use Rattle.leftovers.proofs.Members.{Members, members_keeps, members_opens}
use Rattle.leftovers.proofs.Freed.{DeadFreed, freed_keeps, freed_opens}
use Rattle.leftovers.proofs.Knocked.{Knocked, knocked_keeps, knocked_opens}
use Rattle.leftovers.proofs.Started.{AllStarted, started_keeps, started_opens}
use Rattle.leftovers.proofs.RestEvents.{AllRest, all_rest_keeps, all_rest_opens}

-- only nodes of the world leave it
abbrev pub LeftInside : Opening → World → Type 0
LeftInside o w = (d : ℕ) → left w d ≡ true → in_world o d ≡ true

left_keeps : (o : Opening) (a : ℕ) (w : World) (r : Rule) → Rules.May o a w r → LeftInside o w
    → LeftInside o (Rules.effect o a r w)
left_keeps o a w Rules.Leaves m L = λ d h. by_test a
    (λ x t. (if t then true else left w x) ≡ true → in_world o x ≡ true) (λ k. m.inside) (λ x ne k. L x k) d h
left_keeps o a w r m L = subst (LeftInside o) (effect-turn o a w r refl) L

-- nobody is dead on nodes outside
abbrev pub Outside : Opening → World → Type 0
Outside o w = (a : ℕ) → in_world o a ≡ false → (w.node a).watch.dead ≡ []

outside_keeps : (o : Opening) (a : ℕ) (w : World) (r : Rule) → Rules.May o a w r → Outside o w
    → Outside o (Rules.effect o a r w)
outside_keeps o a w r m D c h = ap (λ (f : ℕ → Node). (f c).watch.dead) (effect-node o a r w)
    ∙ by_test a (λ x t. in_world o x ≡ false
    → (if t then (Rules.turn_by o a w r).node else w.node x).watch.dead ≡ [])
    (λ k. cc (k, m.inside)) (λ x ne k. D x k) c h

pub record Families (o : Opening) (w : World) : Type 0 where
  pub left_inside : LeftInside o w
  pub outside : Outside o w
  pub knocked : Knocked o w
  pub departed : Departed o w
  pub near : Near w
  pub granted : Granted o w
  pub members : Members o w
  pub freed : DeadFreed o w

pub families_keep : (o : Opening) (a : ℕ) (w : World) (r : Rule) → Base o w → Base o (Rules.effect o a r w)
    → Rules.May o a w r → Families o w → Families o (Rules.effect o a r w)
families_keep o a w r B B2 m F = record {
  left_inside = left_keeps o a w r m F.left_inside;
  outside = outside_keeps o a w r m F.outside;
  knocked = knocked_keeps o a w r B B2 m F.knocked;
  departed = departed_keeps o a w B r m F.departed;
  near = near_keeps o a w B r m F.near;
  granted = granted_keeps o a w B r m F.granted;
  members = members_keeps o a w B F.near r m F.members;
  freed = freed_keeps o a w B F.members F.freed r m;
}

pub families_open : (o : Opening) → Families o (opening_world o)
families_open o = record {
  left_inside = λ d h. cc;
  outside = λ a h. refl;
  knocked = knocked_opens o;
  departed = departed_opens o;
  near = near_opens o;
  granted = granted_opens o;
  members = members_opens o;
  freed = freed_opens o;
}

-- all that is known after every list of events
pub record Whole (o : Opening) (w : World) : Type 0 where
  pub base : Base o w
  pub families : Families o w
  pub rest : AllRest o w
  pub started : AllStarted w

pub whole : (o : Opening) (es : List WorldEvent) → Whole o (run o (opening_world o) es)
whole o es =
    let b : Both o (Families o) (families_keep o) (run o (opening_world o) es) =
    along o (Families o) (families_keep o) (families_open o) es in
    record {
      base = b.base;
      families = b.here;
      rest = between o (Families o) (families_keep o) (AllRest o)
          (λ w e b c h R. all_rest_keeps o w b.base b.here.near e h R) (families_open o) (all_rest_opens o) es;
      started = between o (Families o) (families_keep o) AllStarted (λ w e b c h S. started_keeps o w e S)
          (families_open o) (started_opens o) es;
    }
