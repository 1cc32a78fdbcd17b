-- What name calls make of tables, in words.
use Rattle.std.proofs.Common.{ℕ, Bool, true, false, ◌≡◌, Some, None, List, ◌∷◌, ◌++◌, refl, sym, subst}
use Rattle.std.specs.Prelude.{if◌then◌else◌}
use Rattle.registry_model.specs.Process.{Text, Nodes}
use Rattle.registry_model.specs.Table.{Pair, Table, Change, Put, Remove, is_rising, changed}
use Rattle.registry_model.specs.Call.{NameCall, Register, ReRegister, Unregister, Reply, Yes, No, Ok, UnknownNode, is_grant, change_of}
use Rattle.registry_model.specs.SharedLaws.{IsReplyTo, IsGiven, IsCarriedOut, IsTheTable}
use Rattle.registry_model.specs.SharedLaws.IsReplyTo.{ForStranger, AgainForStranger, OfUsedName, ForOwner, OfFreeName, OfAnyName, ToGiveUp}
use Rattle.registry_model.specs.SharedLaws.IsCarriedOut.{Registered, Reregistered, Unregistered, Refused, OwnerUnknown}
use Rattle.registry_model.specs.Registry.{Registry, table_of, with_table, view, members}
use Rattle.registry_model.specs.History.{Entry, Name, effect, registry_of, Standing, standing_of}
use Rattle.registry_model.specs.Legal.{IsLegal}
use Rattle.registry_model.specs.HistoryLaws.{IsDecided, CallsAreCarriedOut}
use Rattle.registry_model.proofs.Changes.{change_law}
use Rattle.registry_model.proofs.Replies.{reply_law}
use Rattle.registry_model.proofs.HistoryParts.{registry_of-push, registry-standing_of, is_legal-at}
use Rattle.registry_model.proofs.Groups.{joined-with_table, told-with_table, left-with_table, notices-with_table, table_of-with_table, table_of-with_table_other}
use Rattle.registry_model.proofs.Rising.{Rises, Rises-registry_of, is_rising-table_of}
use Rattle.registry_model.proofs.Legality.{NameIsLegal, name_is_legal}
use Rattle.registry_model.proofs.Deaths.{dead-with_table}

-- the table after a name call with this reply
abbrev pub outcome : NameCall → Reply → Table → Table
outcome call reply t = if is_grant reply then changed (change_of call) t else t

-- how the table is after a call with this reply
abbrev pub IsOutcome : NameCall → Reply → Table → Table → Type 0
IsOutcome call reply t u = IsCarriedOut t u call reply

-- what a given name is, said of a call, holds of the table of the change and of no other
given_law : (call : NameCall) (reply : Reply) (t : Table) (c : Change) (IsSo : Table → Type 0) →
    IsTheTable IsSo (changed c t) → ((u : Table) → IsSo u → IsOutcome call reply t u) →
    ((u : Table) → IsOutcome call reply t u → IsSo u) → IsTheTable (IsOutcome call reply t) (changed c t)
given_law call reply t c IsSo l to from = record {
  rises = l.rises;
  so = to (changed c t) l.so;
  alone = λ u r h. l.alone u r (from u h);
}

-- `register` gives the name
given_by_register : (new : Pair) (t u : Table) → IsOutcome (Register new) Yes t u →
    IsGiven new.name (Some new) t u
given_by_register new t u (Registered e g) = g

-- `re_register` gives the name
given_by_re_register : (new : Pair) (t u : Table) → IsOutcome (ReRegister new) Yes t u →
    IsGiven new.name (Some new) t u
given_by_re_register new t u (Reregistered e g) = g

-- `unregister` gives it to nobody
given_by_unregister : (x : Text) (t u : Table) → IsOutcome (Unregister x) Ok t u → IsGiven x None t u
given_by_unregister x t u (Unregistered y g) = g

-- a `no` leaves the table
same_by_no : (call : NameCall) (t u : Table) → IsOutcome call No t u → u ≡ t
same_by_no call t u (Refused c e) = e

-- so does `unknown_node`
same_by_unknown_node : (call : NameCall) (t u : Table) → IsOutcome call UnknownNode t u → u ≡ t
same_by_unknown_node call t u (OwnerUnknown c e) = e

-- what each name call makes of a rising table
pub outcome_law : (members : Nodes) (view t : Table) (call : NameCall) (r : Reply) → is_rising t ≡ true →
    IsReplyTo members view call r → IsTheTable (IsOutcome call r t) (outcome call r t)
outcome_law members view t call r rises (ForStranger e m) =
    record { rises = rises; so = OwnerUnknown call refl; alone = λ u s h. same_by_unknown_node call t u h }
outcome_law members view t call r rises (AgainForStranger e m) =
    record { rises = rises; so = OwnerUnknown call refl; alone = λ u s h. same_by_unknown_node call t u h }
outcome_law members view t call r rises (OfUsedName e q m g) =
    record { rises = rises; so = Refused call refl; alone = λ u s h. same_by_no call t u h }
outcome_law members view t call r rises (ForOwner e m o) =
    record { rises = rises; so = Refused call refl; alone = λ u s h. same_by_no call t u h }
outcome_law members view t call r rises (OfFreeName e m g f) =
    given_law (Register e) Yes t (Put e) (IsGiven e.name (Some e) t) (change_law (Put e) t rises)
    (λ u g. Registered e g) (given_by_register e t)
outcome_law members view t call r rises (OfAnyName e m) =
    given_law (ReRegister e) Yes t (Put e) (IsGiven e.name (Some e) t) (change_law (Put e) t rises)
    (λ u g. Reregistered e g) (given_by_re_register e t)
outcome_law members view t call r rises (ToGiveUp x) =
    given_law (Unregister x) Ok t (Remove x) (IsGiven x None t) (change_law (Remove x) t rises)
    (λ u g. Unregistered x g) (given_by_unregister x t)

-- a name call in the registry
decided : (r : Registry) (n k : ℕ) (call : NameCall) (reply : Reply) → Rises r →
    IsReplyTo (members r n) (view r n) call reply → IsDecided r (effect (Name n k call reply) r) n call reply
decided r n k call reply g said = go (is_grant reply) refl
  where
    carried : (b : Bool) → is_grant reply ≡ b → (a : ℕ) →
        IsOutcome call reply (table_of r a) (if b then changed (change_of call) (table_of r a) else table_of r a)
    carried b k a =
        subst (λ (c : Bool). IsOutcome call reply (table_of r a)
        (if c then changed (change_of call) (table_of r a) else table_of r a)) k
        (outcome_law (members r n) (view r n) (table_of r a) call reply (is_rising-table_of r g a) said).so

    go : (b : Bool) → is_grant reply ≡ b →
        IsDecided r (if b then with_table n (changed (change_of call)) r else r) n call reply
    go false k = record {
      answer = said;
      here = λ a i. carried false k a;
      elsewhere = λ a i. refl;
      joined = refl;
      left = refl;
      told = refl;
      dead = refl;
      notices = refl;
    }
    go true k = record {
      answer = said;
      here = λ a i. subst (IsOutcome call reply (table_of r a))
          (sym (table_of-with_table n (changed (change_of call)) r a i)) (carried true k a);
      elsewhere = λ a i. table_of-with_table_other n (changed (change_of call)) r a i;
      joined = joined-with_table n (changed (change_of call)) r;
      left = left-with_table n (changed (change_of call)) r;
      told = told-with_table n (changed (change_of call)) r;
      dead = dead-with_table n (changed (change_of call)) r;
      notices = notices-with_table n (changed (change_of call)) r;
    }

-- each name call of a legal history
pub carried_law : (cluster : Nodes) (h : List Entry) → IsLegal cluster h → CallsAreCarriedOut cluster h
carried_law cluster h l before later n k call reply s =
    let legal : IsLegal cluster (before ++ Name n k call reply ∷ later) =
    subst (λ (h : List Entry). IsLegal cluster h) s l in
    let t : Standing = standing_of cluster before in
    let a : NameIsLegal t n call reply =
    name_is_legal t n call reply (is_legal-at cluster before later (Name n k call reply) legal) in
    let said : IsReplyTo (members t.registry n) (view t.registry n) call reply =
    (reply_law (members t.registry n) (view t.registry n) call reply).1 a.answer in
    let here : IsReplyTo (members (registry_of cluster before) n) (view (registry_of cluster before) n) call reply =
    subst (λ (r : Registry). IsReplyTo (members r n) (view r n) call reply)
    (registry-standing_of cluster before) said in
    subst (λ (r : Registry). IsDecided (registry_of cluster before) r n call reply)
    (sym (registry_of-push cluster before (Name n k call reply)))
    (decided (registry_of cluster before) n k call reply (Rises-registry_of cluster before) here)
