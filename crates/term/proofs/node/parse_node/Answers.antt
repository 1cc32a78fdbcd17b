use Rattle.std.proofs.Common.{◌≡◌, ◌∷◌, ◌++◌, arith}
use Rattle.term.specs.Spelling.{slash}
use Rattle.term.proofs.OneNode.{bad_creation, spells_later}
use Rattle.term.proofs.Parts.{parts-split}
use Rattle.term.proofs.node.parse_node.Goals as goal

pub returns-in-None : goal.returns-in-None
returns-in-None c =
    let split = c.in-Some.ensures.byte (omega arith) (λ w o h. h) in
    let parts : c.args.text.now ≡ c.in-Some.name.now ++ slash ∷ c.in-Some.digits.now =
    rw (split.0, split.1) (parts-split slash c.args.text.now split.2) in
    bad_creation c.args.text.now c.in-Some.name.now c.in-Some.digits.now parts c.in_ok-name-2.ensures.text
    c.in-None.ensures

pub returns-in-Some-parse_creation : goal.returns-in-Some-parse_creation
returns-in-Some-parse_creation c =
    let split = c.in-Some.ensures.byte (omega arith) (λ w o h. h) in
    let parts : c.args.text.now ≡ c.in-Some.name.now ++ slash ∷ c.in-Some.digits.now =
    rw (split.0, split.1) (parts-split slash c.args.text.now split.2) in
    rw (c.of.ensures.node) (spells_later c.args.text.now c.in-Some.name.now c.in-Some.digits.now
    c.in_ok-name-2.name c.in-Some-parse_creation.creation c.in_ok-name-2.ensures c.in-Some-parse_creation.ensures parts)
