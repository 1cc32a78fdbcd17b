-- The invariant of the replicas: the history is legal, and the scene is kept. It says more than what other
-- invariants may use.
use Rattle.std.proofs.Common.{ℕ, Bool, true, false, ◌≡◌, Option, Some, None, List, [], ◌∷◌, refl, ap, ◌∙◌}
use Rattle.std.specs.Prelude.{if◌then◌else◌, ◌||◌}
use Rattle.std.specs.List.{list_any}
use Rattle.registry_model.specs.Registry.{Registry, replica_of}
use Rattle.registry_model.specs.History.{Hold, hold_at, old}
use Rattle.registry_model.specs.Legal.{IsLegal}
use Rattle.protocol_model.specs.Letter.{Letter}
use Rattle.protocol_model.specs.Node.{Current, is_writing}
use Rattle.protocol_model.specs.World.{Opening, in_cluster, World}
use Rattle.moves.proofs.Rules.{kills_in}
use Rattle.moves.proofs.Invariants.{is_behind, standing_at, IsWritten, IsOnItsWay, Replicas}
use Rattle.replicas.proofs.Mail.{carries, is_applied}
use Rattle.replicas.proofs.Scenes.{doing_of, is_busy, is_late, is_mine, mine, scene_of, AllDead, IsHeldBy, Kept}
use Rattle.replicas.proofs.BaseLetters.{Each-mine}

-- the history is legal, and the replicas are those of its registry
pub record Known (o : Opening) (w : World) : Type 0 where
  pub legal : IsLegal (in_cluster o) w.history
  pub kept : Kept o (scene_of o w)

-- the registrar is busy exactly while it writes
pub busy_writing : (c : Current) → is_busy (doing_of c) ≡ is_writing c
busy_writing (Current.Writing op asked awaited reply) = refl
busy_writing _ = refl

-- nobody dies by a letter of another kind
pub kills_in-other : (r : Registry) (l : Letter) → is_mine l ≡ false → AllDead r (kills_in l)
kills_in-other r (Letter.Admit j settled) e = cc
kills_in-other r (Letter.Welcome members pairs told fate) e = cc
kills_in-other r _ e = tt

-- a letter that carries an operation out is among those of a scene, if there is one
list_any-mine : (ls : List Letter) → list_any carries (mine ls) ≡ list_any carries ls
list_any-mine [] = refl
list_any-mine (l ∷ ls) = go (carries l) (is_applied l) refl (list_any-mine ls)
  where
    go : (b c : Bool) → carries l ≡ b → list_any carries (mine ls) ≡ list_any carries ls
        → list_any carries (if b || c then l ∷ mine ls else mine ls) ≡ (b || list_any carries ls)
    go true c e h = ap (λ (b : Bool). b || list_any carries (mine ls)) e
    go false true e h = ap (λ (b : Bool). b || list_any carries (mine ls)) e ∙ h
    go false false e h = h

-- the replicas of a world are those of its registry
pub replicas_known : (o : Opening) (w : World) → Known o w → Replicas o w
replicas_known o w I = record {
  legal = I.legal;
  departed = I.kept.departed;
  joined_inside = I.kept.joined_inside;
  holds = λ a. I.kept.holds a ∙ busy_writing (w.node a).current;
  writers = λ a e. I.kept.writers a (busy_writing (w.node a).current ∙ e);
  written = λ a. written a (w.node a).current (I.kept.written a);
  facts = λ c up. I.kept.facts c up ∙ ap (λ (b : Bool). replica_of
      (if b then old (standing_at o w) c else (standing_at o w).registry) c) (late c (hold_at (standing_at o w) c));
  notes = λ f c g. Each-mine (IsOnItsWay o w f c) (w.links.queue f c) (λ l e k. absurd (other l e k))
      (I.kept.notes f c g);
  kills = λ f c g. Each-mine (λ l. AllDead (standing_at o w).registry (kills_in l)) (w.links.queue f c)
      (kills_in-other (standing_at o w).registry) (I.kept.kills f c g);
  dead = I.kept.dead;
}
  where
    written : (a : ℕ) (c : Current) → IsHeldBy o (scene_of o w) a (doing_of c) → IsWritten o w a c
    written a (Current.Writing op asked awaited reply) h = h
    written a Current.Free h = tt
    written a (Current.Asking op r) h = tt
    written a (Current.Waiting op) h = tt
    written a (Current.Joining k m) h = tt

    late : (c : ℕ) (h : Option Hold) → is_late o (scene_of o w) c h ≡ is_behind o w c h
    late c None = refl
    late c (Some h) = list_any-mine (w.links.queue h.node c)

    other : (l : Letter) → is_mine l ≡ false → carries l ≡ true → ⊥
    other l e k = absurd (cc (e, k))
