-- What is told first is a beginning of all that is told.
use Rattle.std.proofs.Common.{◌≡◌, ℕ, Option, Result, Ok, Err, OnErr, List, [], ◌∷◌, ◌++◌, map, flat_map, refl, sym, ap, subst, ◌∙◌, append_assoc, append-nil}
use Rattle.protocol_model.specs.Event.{Answer as AnyAnswer}
use Rattle.node_log.specs.declared.Answer.{Answer}
use Rattle.node_log.specs.NodeEventsSeen.{answer_of}
use Rattle.node_core.specs.CoreState.{CoreState}
use Rattle.node_loop.specs.declared.item.Ticket.{Ticket}
use Rattle.node_loop.specs.declared.waiting.Course.{Course}
use Rattle.node_loop.specs.Told.{Told}
use Rattle.node_loop.specs.Desks.{Kept, Begins, answered, all_answered, awaiting, swept, settled, leaves_told, call_refused, left_by}

pub begins_all : (xs : List Told) → Begins xs xs
begins_all xs = ([], sym (append-nil xs))

pub begins_front : (xs ys : List Told) → Begins xs (xs ++ ys)
begins_front xs ys = (ys, refl)

pub begins_on : (xs ys zs : List Told) → Begins xs ys → Begins ys zs → Begins xs zs
begins_on xs ys zs h k = (h.0 ++ k.0, k.1 ∙ ap (λ (l : List Told). l ++ k.0) h.1 ∙ append_assoc xs h.0 k.0)

pub grows : (stamp : ℕ) (own : Option Ticket) (answers : List AnyAnswer) (k : Kept) → Begins k.replies (all_answered stamp own answers k).replies
grows stamp own [] k = begins_all k.replies
grows stamp own (a ∷ rest) k = begins_on _ _ _ (begins_front k.replies _) (grows stamp own rest (answered stamp own a k))

-- behind the answers only dropped calls are told of
pub sweep_begins : (h : CoreState) (k : Kept) → Begins k.replies (swept h k).replies
sweep_begins h k = begins_front k.replies _

pub awaiting_begins : (stamp : ℕ) (course : Course) (own : Option Ticket) (h : CoreState) (answers : List Answer) (k : Kept)
    → Begins (awaiting course h.last_call own k).replies (settled stamp course own h answers k).replies
awaiting_begins stamp course own h answers k =
    begins_on _ _ _ (grows stamp own (map answer_of answers) (awaiting course h.last_call own k))
    (sweep_begins h (all_answered stamp own (map answer_of answers) (awaiting course h.last_call own k)))

pub settled_begins : (stamp : ℕ) (course : Course) (own : Option Ticket) (h : CoreState) (answers : List Answer) (k : Kept)
    → Begins k.replies (settled stamp course own h answers k).replies
settled_begins stamp course own h answers k =
    begins_on _ _ _ (begins_front k.replies _) (awaiting_begins stamp course own h answers k)

pub left_begins : (k : Kept) → Begins k.replies (left_by k).replies
left_begins k = (_, append_assoc k.replies _ _)

-- a beginning of what is told, by other names
pub begins_as : (old new whole all : List Told) → new ≡ old → whole ≡ all → Begins old whole → Begins new all
begins_as old new whole all e f h = subst (λ (x : List Told × List Told). Begins x.0 x.1) (λ j. (sym e j, f j)) h

-- the answers are told, to those who wait then
pub answering_begins : (stamp : ℕ) (course : Course) (own : Option Ticket) (h : CoreState) (answers : List Answer) (k mid : Kept) (n : ℕ) (new : List Told)
    → mid ≡ awaiting course n own k → n ≡ h.last_call → Begins new (all_answered stamp own (map answer_of answers) mid).replies
    → Begins new (settled stamp course own h answers k).replies
answering_begins stamp course own h answers k mid n new e f told =
    begins_on _ _ _
    (begins_as new new _ _ refl
    (ap (λ (x : Kept). (all_answered stamp own (map answer_of answers) x).replies) (e ∙ ap (λ (m : ℕ). awaiting course m own k) f)) told)
    (sweep_begins h (all_answered stamp own (map answer_of answers) (awaiting course h.last_call own k)))

-- leaves are told before calls
pub leaving_begins : (k mid : Kept) (leaves : List (Option Ticket)) (new : List Told) → leaves ≡ mid.leaves → mid ≡ k
    → Begins new (mid.replies ++ leaves_told leaves) → Begins new (left_by k).replies
leaving_begins k mid leaves new e f told =
    subst (λ (x : Kept). Begins new (left_by x).replies) f
    (begins_on _ _ _
    (begins_as new new _ _ refl (ap (λ (l : List (Option Ticket)). mid.replies ++ leaves_told l) e) told)
    (begins_front (mid.replies ++ leaves_told mid.leaves) (flat_map call_refused mid.calls)))

pub where_refused : {T E P : Type 0} (r : Result T E) → P → OnErr r P
where_refused (Ok x) h = tt
where_refused (Err e) h = h
