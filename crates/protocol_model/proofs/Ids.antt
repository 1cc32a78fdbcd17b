-- Ids of locks that are one, or of one resource.
use Rattle.std.proofs.Common.{ℕ, true, ◌==◌, ◌≡◌, refl, sym, ap, ◌∙◌}
use Rattle.std.proofs.lemmas.Bool.{eqb-true, eq-eqb, and_parts}
use Rattle.protocol_model.specs.Letter.{Id, Global, Client, is_id, is_resource}

-- an id is itself
pub is_id_self : (i : Id) → is_id i i ≡ true
is_id_self (Global a) = eq-eqb a a refl
is_id_self (Client r q) = rw (eq-eqb r r refl, eq-eqb q q refl) refl

-- of one resource, said the other way round
pub is_resource_swap : (i j : Id) → is_resource i j ≡ true → is_resource j i ≡ true
is_resource_swap (Global a) (Global b) e = refl
is_resource_swap (Client r q) (Client s z) e = eq-eqb s r (sym (eqb-true r s e))
is_resource_swap (Global a) (Client s z) e = cc
is_resource_swap (Client r q) (Global b) e = cc

-- ids that pass the test are one
pub is_id_same : (i j : Id) → is_id i j ≡ true → i ≡ j
is_id_same (Global a) (Global b) e = ap Global (eqb-true a b e)
is_id_same (Client r q) (Client s z) e =
    let parts : ((r == s) ≡ true) × ((q == z) ≡ true) = and_parts (r == s) (q == z) e in
    ap (λ (x : ℕ). Client x q) (eqb-true r s parts.0) ∙ ap (Client s) (eqb-true q z parts.1)
is_id_same (Global a) (Client s z) e = cc
is_id_same (Client r q) (Global b) e = cc
