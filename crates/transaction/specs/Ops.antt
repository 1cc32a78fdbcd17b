-- Operations, as the protocol has them.
use Rattle.std.specs.Prelude.{Bool, true, false}
use Rattle.registry_model.specs.Call.{NameCall as AnyNameCall}
use Rattle.protocol_model.specs.Node.{Op as AnyOp}
use Rattle.transaction.specs.declared.op.NameCall.{NameCall}
use Rattle.transaction.specs.declared.op.NameCall.TheVariants.{Register, ReRegister, Unregister}
use Rattle.transaction.specs.declared.op.Op.{Op}
use Rattle.transaction.specs.declared.op.Op.TheVariants.{Name, Strike, Join, Admission}

abbrev pub name_call_of : NameCall → AnyNameCall
name_call_of (Register pair) = AnyNameCall.Register pair
name_call_of (ReRegister pair) = AnyNameCall.ReRegister pair
name_call_of (Unregister x) = AnyNameCall.Unregister x

abbrev pub op_of : Op → AnyOp
op_of (Name k c) = AnyOp.Name k (name_call_of c)
op_of (Strike p) = AnyOp.Strike p
op_of (Join k m) = AnyOp.Join k m
op_of (Admission j pairs) = AnyOp.Admission j pairs.items

-- it carries a list of names, so a copy takes memory
abbrev pub is_admission : Op → Bool
is_admission (Admission j pairs) = true
is_admission _ = false
