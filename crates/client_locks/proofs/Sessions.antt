-- What is on its way between a live process and a node that runs, and how it settles to the count there.
use Rattle.std.proofs.Common.{ℕ, Bool, true, false, ◌≡◌, ◌≤◌, ◌+◌, ◌-◌, Option, Some, None, List, [], ◌∷◌, ◌++◌, refl, sym, ap, ◌∙◌, subst, arith}
use Rattle.std.specs.Prelude.{◌&&◌, if◌then◌else◌}
use Rattle.protocol_model.specs.Round.{Mark, Out, Later, Owes, Granted, Refused, Lost, Gone}
use Rattle.protocol_model.specs.Letter.{Id, is_id}
use Rattle.protocol_model.specs.Node.{LockPhase, LockCall}
use Rattle.protocol_model.proofs.Ids.{is_id_self}

-- what a process asks of a lock table; an `Acks` is to be answered
pub data Ask : Type 0 where
  Takes : (id : Id) → Ask
  Backs : (id : Id) → Ask
  Acks : (id : Id) → Ask
  Frees : Ask

-- what it hears
pub data Echo : Type 0 where
  Answers : (id : Id) → (granted : Bool) → Echo
  Backed : Echo

-- where a process stands with a node
pub data View : Type 0 where
  Idle : View
  Owed : (id : Id) → View  -- was asked, and owes an answer
  Won : (id : Id) → View  -- has granted
  Denied : View
  Due : View  -- owes its acknowledgement
  Down : View  -- is held to have left

abbrev pub view_of : Id → Mark → View
view_of id Out = Idle
view_of id Later = Idle
view_of id Owes = Owed id
view_of id Granted = Won id
view_of id Refused = Denied
view_of id Lost = Down
view_of id Gone = Down

abbrev pub due_if : Bool → View
due_if b = if b then Due else Idle

abbrev pub view_in : Id → LockPhase → ℕ → View
view_in id (LockPhase.Asking r) x = view_of id (r.mark x)
view_in id LockPhase.Waiting x = Idle
view_in id (LockPhase.Deleting owing) x = due_if (owing x)

abbrev pub view : Option LockCall → ℕ → View
view None x = Idle
view (Some c) x = view_in c.id c.phase x

-- the count when all that is on its way has come, but for what a take brings
abbrev pub settled : Id → List Ask → ℕ → ℕ
settled id [] k = k
settled id (Takes j ∷ ls) k = settled id ls k
settled id (Backs j ∷ ls) k = settled id ls (if is_id j id then k - 1 else k)
settled id (Acks j ∷ ls) k = settled id ls (if is_id j id then k - 1 else k)
settled id (Frees ∷ ls) k = settled id ls 0

abbrev pub none_left : List Ask → Bool
none_left [] = true
none_left (l ∷ ls) = false

-- only give-backs that nobody waits for
abbrev pub only_backs : List Ask → Bool
only_backs [] = true
only_backs (Backs j ∷ ls) = only_backs ls
only_backs (Takes j ∷ ls) = false
only_backs (Acks j ∷ ls) = false
only_backs (Frees ∷ ls) = false

-- the same, and a take of this id as the last
abbrev pub ends_take : Id → List Ask → Bool
ends_take id [] = false
ends_take id (Backs j ∷ ls) = ends_take id ls
ends_take id (Takes j ∷ ls) = is_id j id && none_left ls
ends_take id (Acks j ∷ ls) = false
ends_take id (Frees ∷ ls) = false

-- the same, and one that is to be answered as the last
abbrev pub ends_ack : List Ask → Bool
ends_ack [] = false
ends_ack (Backs j ∷ ls) = ends_ack ls
ends_ack (Acks j ∷ ls) = none_left ls
ends_ack (Takes j ∷ ls) = false
ends_ack (Frees ∷ ls) = false

-- what may be on its way
abbrev pub fits : View → List Ask → List Echo → Bool
fits Idle ups [] = only_backs ups
fits (Won id) ups [] = only_backs ups
fits Denied ups [] = only_backs ups
fits (Owed id) ups [] = ends_take id ups
fits (Owed id) [] (Answers j g ∷ []) = is_id j id
fits Due ups [] = ends_ack ups
fits Due [] (Backed ∷ []) = true
fits _ _ _ = false

abbrev pub one_if : Bool → ℕ
one_if b = if b then 1 else 0

-- one more, where the process was granted what it doesn't hold yet
abbrev pub due : Id → View → List Echo → ℕ
due id (Won j) downs = one_if (is_id j id)
due id (Owed j) (Answers k true ∷ downs) = one_if (is_id j id)
due id _ _ = 0

-- held: the counts in the node's lock table. num: how often the process holds each lock there
pub record Live (v : View) (ups : List Ask) (downs : List Echo) (held num : Id → ℕ) : Type 0 where
  pub fit : fits v ups downs ≡ true
  pub sum : (id : Id) → settled id ups (held id) ≡ num id + due id v downs

-- the same facts about what is the same
pub live_along : (v v2 : View) (ups ups2 : List Ask) (downs downs2 : List Echo) (held held2 num num2 : Id → ℕ)
    → v2 ≡ v → ups2 ≡ ups → downs2 ≡ downs → ((i : Id) → held2 i ≡ held i) → ((i : Id) → num2 i ≡ num i)
    → Live v ups downs held num → Live v2 ups2 downs2 held2 num2
live_along v v2 ups ups2 downs downs2 held held2 num num2 ev eu ed eh en l =
    let one : Live v2 ups downs held num = subst (λ (x : View). Live x ups downs held num) (sym ev) l in
    let two : Live v2 ups2 downs held num = subst (λ (x : List Ask). Live v2 x downs held num) (sym eu) one in
    let three : Live v2 ups2 downs2 held num = subst (λ (x : List Echo). Live v2 ups2 x held num) (sym ed) two in
    record {
      fit = three.fit;
      sum = λ i. ap (settled i ups2) (eh i) ∙ three.sum i ∙ ap (λ (k : ℕ). k + due i v2 downs2) (sym (en i));
    }

pub settled-append : (id : Id) (xs ys : List Ask) (k : ℕ) → settled id (xs ++ ys) k ≡ settled id ys (settled id xs k)
settled-append id [] ys k = refl
settled-append id (Takes j ∷ xs) ys k = settled-append id xs ys k
settled-append id (Backs j ∷ xs) ys k = settled-append id xs ys (if is_id j id then k - 1 else k)
settled-append id (Acks j ∷ xs) ys k = settled-append id xs ys (if is_id j id then k - 1 else k)
settled-append id (Frees ∷ xs) ys k = settled-append id xs ys 0

one_off_le : (b : Bool) (k : ℕ) → (if b then k - 1 else k) ≤ k
one_off_le true k = omega arith
one_off_le false k = omega arith

pub settled_le : (id : Id) (xs : List Ask) (k : ℕ) → settled id xs k ≤ k
settled_le id [] k = omega arith
settled_le id (Takes j ∷ xs) k = settled_le id xs k
settled_le id (Backs j ∷ xs) k = omega (
  arith,
  settled_le id xs (if is_id j id then k - 1 else k),
  one_off_le
      (is_id j id) k,
)
settled_le id (Acks j ∷ xs) k = omega (
  arith,
  settled_le id xs (if is_id j id then k - 1 else k),
  one_off_le
      (is_id j id) k,
)
settled_le id (Frees ∷ xs) k = omega (arith, settled_le id xs 0)

pub backs-take : (id : Id) (xs : List Ask) → only_backs xs ≡ true → ends_take id (xs ++ Takes id ∷ []) ≡ true
backs-take id [] h = rw (is_id_self id) refl
backs-take id (Backs j ∷ xs) h = backs-take id xs h
backs-take id (Takes j ∷ xs) h = cc
backs-take id (Acks j ∷ xs) h = cc
backs-take id (Frees ∷ xs) h = cc

pub backs-back : (id : Id) (xs : List Ask) → only_backs xs ≡ true → only_backs (xs ++ Backs id ∷ []) ≡ true
backs-back id [] h = refl
backs-back id (Backs j ∷ xs) h = backs-back id xs h
backs-back id (Takes j ∷ xs) h = cc
backs-back id (Acks j ∷ xs) h = cc
backs-back id (Frees ∷ xs) h = cc

pub backs-ack : (id : Id) (xs : List Ask) → only_backs xs ≡ true → ends_ack (xs ++ Acks id ∷ []) ≡ true
backs-ack id [] h = refl
backs-ack id (Backs j ∷ xs) h = backs-ack id xs h
backs-ack id (Takes j ∷ xs) h = cc
backs-ack id (Acks j ∷ xs) h = cc
backs-ack id (Frees ∷ xs) h = cc

pub none_left_nil : (xs : List Ask) → none_left xs ≡ true → xs ≡ []
none_left_nil [] h = refl
none_left_nil (x ∷ xs) h = cc
