-- Operations that were copied one by one.
use Rattle.std.proofs.Common.{Bool, ◌≡◌, List, [], ◌∷◌, ap, refl}
use Rattle.std.specs.Prelude.{◌||◌, map}
use Rattle.std.specs.List.{list_any, AllZip}
use Rattle.std.proofs.Math.Path.{ap₂}
use Rattle.protocol_model.specs.Node.{Op as AnyOp}
use Rattle.protocol_model.specs.Event.{is_join}
use Rattle.transaction.specs.declared.op.Op.{Op}
use Rattle.transaction.specs.Ops.{op_of}

abbrev Copies : List Op → List Op → Type 0
Copies = AllZip (λ o p. op_of p ≡ op_of o)

-- they are the same to the protocol
pub copied_same : (os ps : List Op) → Copies os ps → map op_of ps ≡ map op_of os
copied_same [] [] h = refl
copied_same [] (p ∷ ps) h = absurd h
copied_same (o ∷ os) [] h = absurd h
copied_same (o ∷ os) (p ∷ ps) h = ap₂ (λ (q : AnyOp) (qs : List AnyOp). q ∷ qs) h.0 (copied_same os ps h.1)

-- and a join is among them where one was
pub copied_join : (os ps : List Op) → Copies os ps
    → list_any (λ op. is_join (op_of op)) ps ≡ list_any (λ op. is_join (op_of op)) os
copied_join [] [] h = refl
copied_join [] (p ∷ ps) h = absurd h
copied_join (o ∷ os) [] h = absurd h
copied_join (o ∷ os) (p ∷ ps) h = ap₂ (λ (b c : Bool). b || c) (ap is_join h.0) (copied_join os ps h.1)
