-- Grants are of nodes of the world, those of the global lock alone are registrars', and each counts.
use Rattle.std.proofs.Common.{ℕ, Bool, true, false, ◌==◌, ◌≡◌, refl, sym, ap, ◌∙◌, subst}
use Rattle.std.specs.Prelude.{not, ◌&&◌, if◌then◌else◌}
use Rattle.registry_model.specs.Process.{Process}
use Rattle.protocol_model.specs.Letter.{Id, Global, Client, Letter}
use Rattle.protocol_model.specs.LockTable.{Locks, is_free_for, grant}
use Rattle.protocol_model.specs.Node.{Node}
use Rattle.protocol_model.specs.World.{Opening, in_world, World, opening_world}
use Rattle.registry_model.proofs.Updates.{by_test}
use Rattle.headline.proofs.Rules
use Rattle.headline.proofs.Rules.{Rule}
use Rattle.headline.proofs.Invariants.{Each}
use Rattle.walk.proofs.Orders.{effect-node}
use Rattle.headline.proofs.LockTables.{is_global}
use Rattle.headline.proofs.Locking.{IsNamed}
use Rattle.leftovers.proofs.Grounds.{Base}
use Rattle.leftovers.proofs.Parts.{locks_by, parts}
use Rattle.leftovers.proofs.GrantLists.{all_grants, all_count, all_filter, all_grant, all_give_back, count_grant, count_give_back}
use Rattle.leftovers.proofs.Departures.{judged_home}

-- a registrar's is of the global lock, and a client's isn't
abbrev pub suits_holder : Id → Process → Bool
suits_holder i p = if is_global i then p.serial == 0 else not (p.serial == 0)

abbrev pub is_grant_known : Opening → Id → Process → Bool
is_grant_known o i p = in_world o p.node && suits_holder i p

pub record Known (o : Opening) (t : Locks) : Type 0 where
  pub known : all_grants (is_grant_known o) t ≡ true
  pub count : all_count t ≡ true

abbrev pub Granted : Opening → World → Type 0
Granted o w = (c : ℕ) → Known o (w.node c).locks

module _ (o : Opening) (a : ℕ) (w : World) (B : Base o w) where
  abbrev t : Locks
  t = (w.node a).locks

  suits : (f : ℕ) (id : Id) (p : Process) → IsNamed f a (Letter.SetLock id p) → suits_holder id p ≡ true
  suits f (Global b) p h = ap (λ (q : Process). q.serial == 0) h.1
  suits f (Client r q) p h = h

  locks_keep : (r : Rule) → Rules.May o a w r → Known o t → Known o (locks_by r t)
  locks_keep (Rules.Judges f id p) m K = go (is_free_for id p t)
    where
      named : IsNamed f a (Letter.SetLock id p)
      named = (subst (Each (IsNamed f a)) m.front.1.1 (B.all.locks.named f a m.running)).0

      known : is_grant_known o id p ≡ true
      known = ap (λ (c : ℕ). in_world o c && suits_holder id p) (judged_home o a w B f id p m)
          ∙ ap (λ (b : Bool). b && suits_holder id p) m.front.0 ∙ suits f id p named

      go : (b : Bool) → Known o (if b then grant id p t else t)
      go true = record {
        known = all_grant (is_grant_known o) id p t known K.known;
        count = count_grant id p t K.count;
      }
      go false = K
  locks_keep (Rules.TakesBack f id p ack) m K = record {
    known = all_give_back (is_grant_known o) id p t K.known;
    count = count_give_back id p t K.count;
  }
  locks_keep (Rules.Releases f p) m K = record {
    known = all_filter (λ g. is_grant_known o g.id g.holder) _ t K.known;
    count = all_filter _ _ t K.count;
  }
  locks_keep (Rules.IsTold f) m K = record {
    known = all_filter (λ g. is_grant_known o g.id g.holder) _ t K.known;
    count = all_filter _ _ t K.count;
  }
  locks_keep _ m K = K

  pub granted_keeps : (r : Rule) → Rules.May o a w r → Granted o w → Granted o (Rules.effect o a r w)
  granted_keeps r m G = subst (λ (f : ℕ → Node). (x : ℕ) → Known o (f x).locks) (sym (effect-node o a r w))
      (by_test a (λ x t. Known o (if t then (Rules.turn_by o a w r).node else w.node x).locks)
      (subst (Known o) (sym (parts o a w r).locks) (locks_keep r m (G a))) (λ x ne. G x))

pub granted_opens : (o : Opening) → Granted o (opening_world o)
granted_opens o c = record { known = refl; count = refl }
