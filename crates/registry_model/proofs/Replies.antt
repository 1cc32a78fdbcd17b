-- The replies to name calls, in words.
use Rattle.std.proofs.Common.{Bool, true, false, ◌≡◌, Option, Some, None, refl, sym, subst}
use Rattle.std.specs.Prelude.{◌↔◌, if◌then◌else◌, not, ◌||◌, is_some}
use Rattle.registry_model.specs.Process.{Process, Nodes}
use Rattle.registry_model.specs.Table.{Table, get, owns}
use Rattle.registry_model.specs.Call.{NameCall, Register, ReRegister, Unregister, Reply, Yes, No, UnknownNode, reply_to}
use Rattle.registry_model.specs.SharedLaws.{IsReplyTo}
use Rattle.registry_model.specs.SharedLaws.IsReplyTo.{ForStranger, AgainForStranger, OfUsedName, ForOwner, OfFreeName, OfAnyName, ToGiveUp}
use Rattle.registry_model.proofs.Owners.{owns-true, owns-false, owns-from_pair}

-- the reply in words is the function's
pub reply_to-from_words : (members : Nodes) (table : Table) (call : NameCall) (r : Reply) →
    IsReplyTo members table call r → r ≡ reply_to members table call
reply_to-from_words members table call r (ForStranger e m) = rw m refl
reply_to-from_words members table call r (AgainForStranger e m) = rw m refl
reply_to-from_words members table call r (OfUsedName e q m g) = rw (m, g) refl
reply_to-from_words members table call r (ForOwner e m (own, c, i)) =
    rw (m, owns-from_pair e.owner table own c i) (either (is_some (get e.name table)))
  where
    either : (b : Bool) → No ≡ (if b || true then No else Yes)
    either true = refl
    either false = refl
reply_to-from_words members table call r (OfFreeName e m g f) = rw (m, g, owns-false e.owner table f) refl
reply_to-from_words members table call r (OfAnyName e m) = rw m refl
reply_to-from_words members table call r (ToGiveUp x) = refl

-- the function's reply in words
pub reply_to_words : (members : Nodes) (table : Table) (call : NameCall) →
    IsReplyTo members table call (reply_to members table call)
reply_to_words members table (Register e) =
    go (members e.owner.node) refl (get e.name table) refl (owns e.owner table) refl
  where
    go : (m : Bool) → members e.owner.node ≡ m → (o : Option Process) → get e.name table ≡ o → (b : Bool) →
        owns e.owner table ≡ b →
        IsReplyTo members table (Register e) (if not m then UnknownNode else (if is_some o || b then No else Yes))
    go false k o g b h = ForStranger e k
    go true k (Some q) g b h = OfUsedName e q k g
    go true k None g true h = ForOwner e k (owns-true e.owner table h)
    go true k None g false h = OfFreeName e k g
        (λ (own, c, i). let w : owns e.owner table ≡ true = owns-from_pair e.owner table own c i in cc)
reply_to_words members table (ReRegister e) = go (members e.owner.node) refl
  where
    go : (m : Bool) → members e.owner.node ≡ m →
        IsReplyTo members table (ReRegister e) (if not m then UnknownNode else Yes)
    go false k = AgainForStranger e k
    go true k = OfAnyName e k
reply_to_words members table (Unregister x) = ToGiveUp x

-- each name call has one reply
pub reply_law : (members : Nodes) (table : Table) (call : NameCall) (r : Reply) →
    IsReplyTo members table call r ↔ (r ≡ reply_to members table call)
reply_law members table call r = (
  reply_to-from_words members table call r,
  λ e. subst (λ (s : Reply). IsReplyTo members table call s) (sym e) (reply_to_words members table call),
)
