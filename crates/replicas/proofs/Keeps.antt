-- The replicas are those of the registry at the opening, and every rule keeps them so.
use Rattle.std.proofs.Common.{ℕ, Bool, true, false, ◌≡◌, None, refl}
use Rattle.std.specs.Prelude.{if◌then◌else◌}
use Rattle.registry_model.specs.Registry.{opening, replica_of}
use Rattle.registry_model.specs.History.{is_hold_of, old_or}
use Rattle.protocol_model.specs.World.{Opening, in_world, in_cluster, World, opening_world}
use Rattle.moves.proofs.Indices.{both}
use Rattle.moves.proofs.Rules.{Rule, LooksUp, Exits, BeginsStrike, SkipsJoin, Grants, Denies, Strikes, Admits, CountsApplied, CountsDown, Finishes, Writes, RefusesJoin, Kills, IsAdmitted, IsWelcomed, IsTold, LosesContact, Ignores, Drops, Leaves, May, effect}
use Rattle.moves.proofs.Invariants.{Proper, Exclusive, Replicas, JoinsKnown}
use Rattle.replicas.proofs.Scenes.{is_late, scene_of}
use Rattle.replicas.proofs.Granting.{Known-granted, Known-struck}
use Rattle.replicas.proofs.Admitting.{Known-admitted}
use Rattle.replicas.proofs.Reading.{Known-wrote, Known-wrote_admission, Known-welcomed, Known-counted, Known-less, Known-dropped, Known-ignored}
use Rattle.replicas.proofs.Finishing.{Known-done}
use Rattle.replicas.proofs.Leaving.{Known-told, Known-exited, Known-left, Known-killed, Known-striking}
use Rattle.replicas.proofs.Refusing.{Known-looked, Known-denied, Known-skipped, Known-lost, Known-refused, Known-calm}
pub use Rattle.replicas.proofs.Known.{Known, busy_writing, replicas_known}

-- before the first event
pub known_opens : (o : Opening) → Known o (opening_world o)
known_opens o = record {
  legal = refl;
  kept = record {
    departed = λ d. refl;
    joined_inside = λ c j. (both (in_world o c) (o.cluster c) j).0;
    holds = λ a. none_of a (in_cluster o a);
    writers = λ a e. cc;
    written = λ a. tt;
    facts = λ c up. shown c (in_cluster o c);
    notes = λ f c g. tt;
    kills = λ f c g. tt;
    dead = λ a s e. cc;
    struck = λ a. tt;
    sessions = λ h c uh uc. refl;
  };
}
  where
    none_of : (a : ℕ) (b : Bool) → is_hold_of a (if b then None else None) ≡ false
    none_of a true = refl
    none_of a false = refl

    shown : (c : ℕ) (b : Bool) → replica_of (opening (in_cluster o)) c
        ≡ replica_of (if is_late o (scene_of o (opening_world o)) c (if b then None else None) then old_or
        (opening (in_cluster o)) (if b then None else None) else opening (in_cluster o)) c
    shown c true = refl
    shown c false = refl

-- so the replicas are those of the registry then
pub replicas_opens : (o : Opening) → Replicas o (opening_world o)
replicas_opens o = replicas_known o (opening_world o) (known_opens o)

module _ (o : Opening) (w : World) (P : Proper o w) (X : Exclusive o w) (J : JoinsKnown o w) (I : Known o w)
    (a : ℕ) where
  -- every rule keeps them so
  pub known_keeps : (r : Rule) → May o a w r → Known o (effect o a r w)
  known_keeps (LooksUp look) m = Known-looked o w P X J I a look m
  known_keeps (Exits p) m = Known-exited o w P X J I a p m
  known_keeps (BeginsStrike serial) m = Known-striking o w P X J I a serial m
  known_keeps (SkipsJoin k c ops) m = Known-skipped o w P X J I a k c ops m
  known_keeps (Grants k call r) m = Known-granted o w P X J I a k call r m
  known_keeps (Denies k call r) m = Known-denied o w P X J I a k call r m
  known_keeps (Strikes p r) m = Known-struck o w P X J I a p r m
  known_keeps (Admits j pairs r) m = Known-admitted o w P X J I a j pairs r m
  known_keeps (CountsApplied f op asked awaited reply) m = Known-counted o w P X J I a f op asked awaited reply m
  known_keeps (CountsDown d op asked awaited reply) m = Known-less o w P X J I a d op asked awaited reply m
  known_keeps (Finishes op asked awaited reply) m = Known-done o w P X J I a op asked awaited reply m
  known_keeps (Writes f change) m = Known-wrote o w P X J I a f change m
  known_keeps (RefusesJoin f pairs) m = Known-refused o w P X J I a f pairs m
  known_keeps (Kills f l p receivers) m = Known-killed o w P X J I a f l p receivers m
  known_keeps (IsAdmitted f j settled) m = Known-wrote_admission o w P X J I a f j settled m
  known_keeps (IsWelcomed f k members pairs told fate) m =
      Known-welcomed o w P X J I a f k members pairs told fate m
  known_keeps (IsTold f) m = Known-told o w P X J I a f m
  known_keeps (LosesContact k c) m = Known-lost o w P X J I a k c m
  known_keeps (Ignores f l) m = Known-ignored o w P X J I a f l m
  known_keeps (Drops f l) m = Known-dropped o w P X J I a f l m
  known_keeps Leaves m = Known-left o w P X J I a m
  known_keeps r m = Known-calm o w P X J I a r refl m

-- all rules keep the replicas those of the registry
pub replicas_keeps : (o : Opening) (a : ℕ) (w : World) (r : Rule) → Proper o w → Exclusive o w → JoinsKnown o w
    → Known o w → May o a w r → Replicas o (effect o a r w)
replicas_keeps o a w r P X J I m = replicas_known o (effect o a r w) (known_keeps o w P X J I a r m)
