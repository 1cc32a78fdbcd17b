-- Counts behind one reply more.
use Rattle.std.proofs.Common.{ℕ, ◌+◌, ◌-◌, ◌==◌, ◌≡◌, Bool, true, false, ◌&&◌, List, [], ◌∷◌, ◌++◌, Result, Ok, Err, if◌then◌else◌, ap, refl, ◌∙◌, arith}
use Rattle.std.proofs.lemmas.Bool.{eq-eqb, and_from}
use Rattle.term.specs.declared.lock_id.LockId.{LockId}
use Rattle.transaction.specs.declared.reply.LockReply.{LockReply}
use Rattle.transaction.specs.Counts.{is_lock, recount, count_after, count_of, set_replies, deletion_replies}

-- an id is itself
pub is_lock-same : (id : LockId) → is_lock id id ≡ true
is_lock-same id = and_from (id.resource == id.resource) (id.requester == id.requester)
    (eq-eqb id.resource id.resource refl) (eq-eqb id.requester id.requester refl)

-- one reply more is counted last
pub count_after-append : (id : LockId) (n : ℕ) (replies more : List LockReply)
    → count_after id n (replies ++ more) ≡ count_after id (count_after id n replies) more
count_after-append id n [] more = refl
count_after-append id n (reply ∷ replies) more = count_after-append id (recount id reply n) replies more

-- one more and one less
pub less_one : (n : ℕ) → n + 1 - 1 ≡ n
less_one n = omega arith

-- a grant
pub count-granted : (E : Type 0) (id : LockId) (replies : List LockReply)
    → count_of id (replies ++ set_replies {E = E} id (Ok true)) ≡ count_of id replies + 1
count-granted E id replies = count_after-append id 0 replies _
    ∙ ap (λ (b : Bool). if b && true then count_of id replies + 1 else count_of id replies) (is_lock-same id)

-- a refusal
pub count-refused : (E : Type 0) (id : LockId) (replies : List LockReply)
    → count_of id (replies ++ set_replies {E = E} id (Ok false)) ≡ count_of id replies
count-refused E id replies = count_after-append id 0 replies _
    ∙ ap (λ (b : Bool). if b && false then count_of id replies + 1 else count_of id replies) (is_lock-same id)

-- a deletion
pub count-deleted : (E : Type 0) (id : LockId) (replies : List LockReply)
    → count_of id (replies ++ deletion_replies {E = E} id (Ok tt)) ≡ count_of id replies - 1
count-deleted E id replies = count_after-append id 0 replies _
    ∙ ap (λ (b : Bool). if b then count_of id replies - 1 else count_of id replies) (is_lock-same id)

-- what another lock was answered
pub count-set-other : {E : Type 0} (id other : LockId) (answer : Result Bool E) (replies : List LockReply)
    → is_lock id other ≡ false → count_of other (replies ++ set_replies id answer) ≡ count_of other replies
count-set-other id other (Ok granted) replies e = count_after-append other 0 replies _
    ∙ ap (λ (b : Bool). if b && granted then count_of other replies + 1 else count_of other replies) e
count-set-other id other (Err fault) replies e = count_after-append other 0 replies _

pub count-deleted-other : {E : Type 0} (id other : LockId) (answer : Result Unit E) (replies : List LockReply)
    → is_lock id other ≡ false → count_of other (replies ++ deletion_replies id answer) ≡ count_of other replies
count-deleted-other id other (Ok _) replies e = count_after-append other 0 replies _
    ∙ ap (λ (b : Bool). if b then count_of other replies - 1 else count_of other replies) e
count-deleted-other id other (Err fault) replies e = count_after-append other 0 replies _
