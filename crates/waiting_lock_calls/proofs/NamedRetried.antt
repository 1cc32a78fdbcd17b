-- Lock calls of a retried node of a quiet world of names: what is said of them is said in the world in which all nodes that haven't started
-- were told of all that have left, and there the retry and the letters behind it do the same.
use mathlib.Core.Logic.{◌⊎◌}
use Rattle.std.proofs.Common.{ℕ, Bool, true, false, ◌≡◌, ◌<◌, Option, Some, None, List, [], ◌∷◌, ◌++◌, refl, sym, ap, subst, ◌∙◌, inl, inr}
use Rattle.std.specs.Prelude.{Contains, is_none, if◌then◌else◌}
use Rattle.std.specs.List.{list_all}
use Rattle.registry_model.specs.Process.{Text, Nodes}
use Rattle.registry_model.specs.Call.{Reply, True}
use Rattle.protocol_model.specs.Letter.{Client}
use Rattle.protocol_model.specs.LockTable.{last_count}
use Rattle.protocol_model.specs.Watch.{is_dead}
use Rattle.protocol_model.specs.Node.{Node, LockCall, targets}
use Rattle.protocol_model.specs.Client.{one_less}
use Rattle.protocol_model.specs.Event.{Event, Answer, NoSuchNode}
use Rattle.protocol_model.specs.World.{Opening, World, WorldEvent, At, refusal, run, all_answers}
use Rattle.protocol_model.specs.Course.{answers_of, course}
use Rattle.protocol_model.specs.Answers.{answer_to}
use Rattle.protocol_model.proofs.Courses.{course_answers}
use Rattle.getting_through.specs.NodeNames.{NamedOpening, opening_of}
use Rattle.getting_through.specs.NamedWorld.{NamedWorld, NamedEvent, NamedRefusal, Plain, has_started, plain_refusal, plain, plain_events, happens_named, run_named, as_events}
use Rattle.getting_through.proofs.Alike.{AreWithin, same_refusal, run_alike}
use Rattle.getting_through.proofs.LeftOfNames
use Rattle.getting_through.proofs.QuietNames.{plain_deliveries}
use Rattle.getting_through.proofs.Standing.{least_started, unrefused}
use Rattle.getting_through.specs.GettingThrough.{IsAlone}
use Rattle.getting_through.proofs.NamedStorms
use Rattle.waiting_lock_calls.specs.Retried.{asks, IsRival, IsItsLast, AsksNobody, HasNoneLeft, HasBecome, Won, Dropped, Failed, WaitsOn, retried_steps, RetriesAreTold, FreeCallsWin}
use Rattle.waiting_lock_calls.proofs.Laws.{retries_are_told, free_calls_win}
use Rattle.waiting_lock_calls.proofs.NamedFinishing.{X, u_is, same_rival}
use Rattle.getting_through.specs.Worlds.{of_nodes, IsQuiet}
use Rattle.getting_through.specs.Clauses.{world}
use Rattle.getting_through.specs.QuietCalls.{IsFree}
use Rattle.getting_through.specs.WorldsOfNames.{of_names, OfNames, is_named_delivery, is_named_delivery_or_retry}

-- deliveries by names are deliveries or retries
delivered : (ds : List NamedEvent) → list_all is_named_delivery ds ≡ true → list_all is_named_delivery_or_retry ds ≡ true
delivered [] k = refl
delivered (NamedEvent.Deliver f t ∷ ds) k = delivered ds k
delivered (NamedEvent.AtNode n e ∷ ds) k = cc k
delivered (NamedEvent.At x e ∷ ds) k = cc k
delivered (NamedEvent.Restart x ∷ ds) k = cc k

module _ (o : NamedOpening) (es : List NamedEvent) (a : ℕ) (c : LockCall) (ds : List NamedEvent)
    (listed : Contains ((LeftOfNames.w o es).world.node a).calls c) (R : IsAlone (of_names o) (LeftOfNames.w o es) (NamedEvent.AtNode a Event.Retry) ds) where
  abbrev O : Opening
  O = opening_of o

  abbrev w : NamedWorld
  w = LeftOfNames.w o es

  abbrev u : World
  u = LeftOfNames.u o es

  abbrev S : Nodes
  S = has_started o w

  abbrev retry : NamedEvent
  retry = NamedEvent.AtNode a Event.Retry

  abbrev v : NamedWorld
  v = run_named o w (retry ∷ ds)

  abbrev D : List WorldEvent
  D = plain_events o (happens_named o w retry) ds

  plain_is : plain_events o w (retry ∷ ds) ≡ At a Event.Retry ∷ D
  plain_is = ap (λ (x : Option NamedRefusal). (if is_none x then plain o w retry else []) ++ D) R.accepted

  fits : (S a ≡ true) × (refusal O w.world (At a Event.Retry) ≡ None)
  fits = by (S a) refl R.accepted
    where
      by : (b : Bool) → S a ≡ b → (if b then plain_refusal o w (At a Event.Retry) else Some (Plain NoSuchNode)) ≡ None
          → (S a ≡ true) × (refusal O w.world (At a Event.Retry) ≡ None)
      by true k q = (k, (unrefused o w (LeftOfNames.s o es) (At a Event.Retry) q).1)
      by false k q = absurd (cc q)

  kinds : list_all is_named_delivery_or_retry (retry ∷ ds) ≡ true
  kinds = delivered ds R.delivered

  there : run O u (plain_events o w (retry ∷ ds)) ≡ run O (world O (X o es)) (At a Event.Retry ∷ D)
  there = ap (run O u) plain_is ∙ ap (λ (y : World). run O y (At a Event.Retry ∷ D)) (u_is o es)

  alone : IsAlone (of_nodes O) (world O (X o es)) (At a Event.Retry) D
  alone = record {
    before = subst (IsQuiet (of_nodes O)) (u_is o es) (LeftOfNames.quiet o es R.before);
    accepted = ap (λ (y : World). refusal O y (At a Event.Retry)) (sym (u_is o es))
        ∙ same_refusal O S w.world u (NamedStorms.alike o es) (At a Event.Retry) fits.0 ∙ fits.1;
    delivered = plain_deliveries o ds (happens_named o w retry) R.delivered;
    behind = subst (IsQuiet (of_nodes O)) there (NamedStorms.quiet_there o es (retry ∷ ds) kinds R.behind);
  }

  same : (world O (X o es)).node a ≡ w.world.node a
  same = ap (λ (y : World). y.node a) (sym (u_is o es)) ∙ (NamedStorms.alike o es).node a fits.0

  same_later : (run O (world O (X o es)) (At a Event.Retry ∷ D)).node a ≡ v.world.node a
  same_later = ap (λ (y : World). y.node a) (sym there) ∙ (NamedStorms.B o es (retry ∷ ds) kinds).node a fits.0

  within : AreWithin O S (At a Event.Retry ∷ D)
  within = subst (AreWithin O S) plain_is (NamedStorms.fit o es (retry ∷ ds) kinds).0.0

  same_answers : answers_of (course O (world O (X o es)) (At a Event.Retry ∷ D)) ≡ answers_of (retried_steps (of_names o) es w a ds)
  same_answers = course_answers O (world O (X o es)) (At a Event.Retry ∷ D)
      ∙ ap (λ (y : World). all_answers O y (At a Event.Retry ∷ D)) (sym (u_is o es))
      ∙ (run_alike O S (At a Event.Retry ∷ D) (least_started o w (LeftOfNames.s o es)) within w.world u (LeftOfNames.s o es).apart
      (NamedStorms.alike o es)).0
      ∙ ap (all_answers O w.world) (sym plain_is) ∙ sym (course_answers O w.world (plain_events o w (retry ∷ ds)))

  listed_there : Contains ((world O (X o es)).node a).calls c
  listed_there = subst (λ (b : Node). Contains b.calls c) (sym same) listed

  answered : (reply : Reply) → Contains (answers_of (course O (world O (X o es)) (At a Event.Retry ∷ D))) (answer_to a c.number reply)
      → Contains (answers_of (retried_steps (of_names o) es w a ds)) (answer_to a c.number reply)
  answered reply i = subst (λ (ss : List Answer). Contains ss (answer_to a c.number reply)) same_answers i

  dead : is_dead ((run O (world O (X o es)) (At a Event.Retry ∷ D)).node a).watch c.holder.serial ≡ true
      → is_dead (v.world.node a).watch c.holder.serial ≡ true
  dead e = ap (λ (b : Node). is_dead b.watch c.holder.serial) (sym same_later) ∙ e

  same_asks : asks w.world a c ≡ asks (world O (X o es)) a c
  same_asks = ap (λ (b : Node). targets b.replica.members c.target) (sym same)

  last : IsItsLast (world O (X o es)) a c → IsItsLast w.world a c
  last (AsksNobody none) = AsksNobody (λ x. ap (λ (s : Nodes). s x) same_asks ∙ none x)
  last (HasNoneLeft e) = HasNoneLeft e

  become : HasBecome (world O (X o es)) (run O (world O (X o es)) (At a Event.Retry ∷ D)) a c
      (course O (world O (X o es)) (At a Event.Retry ∷ D)) → HasBecome w.world v.world a c (retried_steps (of_names o) es w a ds)
  become (Won i) = Won (answered True i)
  become (Dropped e) = Dropped (dead e)
  become (Failed i l) = Failed (answered Reply.False i) (last l)
  become (WaitsOn i) = WaitsOn (subst (λ (b : Node). Contains b.calls (record c { retries = one_less c.retries })) same_later i)

  told : HasBecome w.world v.world a c (retried_steps (of_names o) es w a ds)
  told = become (retries_are_told O (X o es) a c D listed_there alone)

  wins : (r z : Text) → c.id ≡ Client r z → IsFree O (as_events o es) c.holder r z (asks w.world a c)
      → ((d : LockCall) → IsRival w.world a c d → ⊥)
      → Contains (answers_of (retried_steps (of_names o) es w a ds)) (answer_to a c.number True)
      ⊎ (is_dead (v.world.node a).watch c.holder.serial ≡ true)
  wins r z id F none = elim (free_calls_win O (X o es) a c r z D listed_there id free
      (λ d K. none d (same_rival (world O (X o es)) w.world a same c d K)) alone) [
        | inl i ↦ inl (answered True i)
        | inr e ↦ inr (dead e)
      ]
    where
      free : IsFree O (X o es) c.holder r z (asks (world O (X o es)) a c)
      free = subst (IsFree O (X o es) c.holder r z) same_asks (record {
        somebody = F.somebody;
        others = λ x q y i h. F.others x q y i (subst (λ (k : ℕ). 0 < k) (LeftOfNames.counts o es q (Client r y) x) h);
        room = λ x i. subst (λ (k : ℕ). k < last_count) (sym (LeftOfNames.counts o es c.holder (Client r z) x)) (F.room x i);
      })

pub retries_of_names_are_told : OfNames RetriesAreTold
retries_of_names_are_told o es a c ds listed R = told o es a c ds listed R

pub free_calls_of_names_win : OfNames FreeCallsWin
free_calls_of_names_win o es a c r z ds listed id F none R = wins o es a c ds listed R r z id F none
