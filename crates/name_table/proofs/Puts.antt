-- A put: what stands under a name after it, and who has it, and that the index agrees with the owners again.
use Rattle.std.proofs.Common.{Bool, true, false, ◌==◌, ◌≡◌, Some, None, refl, sym, ap, ◌∙◌}
use Rattle.std.specs.Prelude.{if◌then◌else◌}
use Rattle.std.proofs.Math.Path.{ap₂}
use Rattle.registry_model.specs.Process.{Text, Process, is_process}
use Rattle.registry_model.proofs.Lists.{is_process-true}
use Rattle.name_table.specs.declared.change.Registration.{Registration}
use Rattle.name_table.specs.Index.{Owners, Owned, standing, owner_under, owner_of, is_owner, HaveNames, Agrees, Lists}
use Rattle.name_table.proofs.Agreement.{agrees-put}

-- what stands under a name after an entry is put into the same owners
pub standing-put : (old same new : Owners) (x z : Text) (e f : Registration) → same ≡ old → z ≡ x → f ≡ e →
    ((y : Text) → standing y new ≡ (if z == y then Some f else standing y same)) → (y : Text) →
    standing y new ≡ (if x == y then Some e else standing y old)
standing-put old same new x z e f i j k h y = h y ∙ rw (i, j, k) refl

-- and who has it
pub owner_of-put : (old new : Owners) (x : Text) (e : Registration) →
    ((y : Text) → standing y new ≡ (if x == y then Some e else standing y old)) → (y : Text) →
    owner_of y new ≡ (if x == y then Some e.owner else owner_of y old)
owner_of-put old new x e h y = ap owner_under (h y) ∙ go (x == y)
  where
    go : (b : Bool) →
        owner_under (if b then Some e else standing y old) ≡ (if b then Some e.owner else owner_of y old)
    go true = refl
    go false = refl

-- what stood there
pub standing-same : (old same : Owners) (x z : Text) → same ≡ old → z ≡ x → standing x old ≡ standing z same
standing-same old same x z e i = sym (ap₂ standing i e)

-- the name had no owner
pub agrees-put_new : (owners after : Owners) (owned later : Owned) (x : Text) (p : Process) → Agrees owners owned →
    ((y : Text) → owner_of y after ≡ (if x == y then Some p else owner_of y owners)) →
    Lists p x owned later → HaveNames later → owner_of x owners ≡ None → Agrees after later
agrees-put_new owners after owned later x p a h l n none =
    agrees-put owners after owned later x p a h l n (λ q i. absurd (let e = ap (is_owner q) none in cc))

-- the name had this owner already
pub agrees-put_same : (owners after : Owners) (owned later : Owned) (x : Text) (p o : Process) → Agrees owners owned →
    ((y : Text) → owner_of y after ≡ (if x == y then Some p else owner_of y owners)) →
    Lists p x owned later → HaveNames later → owner_of x owners ≡ Some o → is_process o p ≡ true → Agrees after later
agrees-put_same owners after owned later x p o a h l n had s =
    agrees-put owners after owned later x p a h l n
    (λ q i. ap (λ (r : Process). is_process r q) (sym (is_process-true o p s)) ∙ sym (ap (is_owner q) had) ∙ i)
