use Rattle.std.proofs.Common.{◌≡◌, ◌==◌, List, ℕ, length, arith, subst, sym}
use Rattle.std.proofs.lemmas.Result.{err_from_is_err_and}
use Rattle.std.specs.List.{position_or_len}
use Rattle.term.specs.Spelling.{IsNodeText, RefusesNode, node_part, dot}
use Rattle.term.proofs.ExactPids.{bad_serial-split, bad_serial-whole, refused-part}
use Rattle.term.proofs.Parts.{front-whole}
use Rattle.term.proofs.pid.parse_pid.Goals as goal

-- where there is no dot, the first part is the whole
whole : (bytes : List ℕ) → position_or_len (λ b. b == dot) bytes ≡ length bytes → bytes ≡ node_part bytes
whole bytes e = sym (front-whole dot bytes (omega (arith, e)))

pub returns-in_default : goal.returns-in_default
returns-in_default c =
    let nowhere : position_or_len (λ b. b == dot) c.args.text.now ≡ length c.args.text.now =
    c.in_default.ensures.byte (omega arith) (λ w o h. h) in
    bad_serial-whole c.args.text.now (omega (arith, nowhere))
    (subst IsNodeText (whole c.args.text.now nowhere) (c.in_ok-parse_node.field-0, c.in_ok-parse_node.ensures))

pub returns-in_err-parse_node : goal.returns-in_err-parse_node
returns-in_err-parse_node c =
    let p = err_from_is_err_and c.from_residual.result c.from_residual.ensures.1 in
    let nowhere : position_or_len (λ b. b == dot) c.args.text.now ≡ length c.args.text.now =
    c.in_default.ensures.byte (omega arith) (λ w o h. h) in
    rw (p.1, p.2)
    (refused-part c.args.text.now _
    (subst (λ (bs : List ℕ). RefusesNode bs c.in_err-parse_node.field-0.0) (whole c.args.text.now nowhere)
    c.in_err-parse_node.ensures))

pub returns-in_err-node : goal.returns-in_err-node
returns-in_err-node c =
    let p = err_from_is_err_and c.from_residual-in_err-node.result c.from_residual-in_err-node.ensures.1 in
    let split = c.in-Some.ensures.byte (omega arith) (λ w o h. h) in
    rw (p.1, p.2)
    (refused-part c.args.text.now _
    (subst (λ (bs : List ℕ). RefusesNode bs c.in_err-node.field-0.0) split.0 c.in_err-node.ensures))

pub returns-in-None : goal.returns-in-None
returns-in-None c =
    let split = c.in-Some.ensures.byte (omega arith) (λ w o h. h) in
    bad_serial-split c.args.text.now c.in-Some.node.now c.in-Some.digits.now split.0 split.1
    (c.in_ok-node.node, c.in_ok-node.ensures) c.in-None.ensures
