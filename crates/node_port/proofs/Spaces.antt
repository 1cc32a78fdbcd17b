-- Texts that have no space.
use Rattle.std.proofs.Common.{◌≡◌, ℕ, ◌^◌, ◌<◌, ◌==◌, Bool, true, false, List, [], ◌∷◌, arith, subst, sym, ap, refl, decimal, if◌then◌else◌}
use Rattle.std.proofs.lemmas.Bool.{ne_eqb}
use Rattle.std.proofs.lemmas.Fmt.{digits_decimal}
use Rattle.std.proofs.lemmas.List.Elements.{All-append, All-nil, All-cons, All-from_get_or}
use Rattle.std.proofs.lemmas.Str.Parse.{digit_at}
use Rattle.term.specs.Nodes.{creation_of}
use Rattle.term.specs.Spelling.{IsText, is_allowed, SpellsNode, creation_bytes, slash}
use Rattle.term.proofs.Serials.{digits_model}
use Rattle.node_port.specs.Commands.{HasNoSpace}
use Rattle.node_port.specs.Numbers.{SpellsNumber}

-- digits
decimal-lacks : (n : ℕ) → n < 2 ^ 64 → HasNoSpace (decimal n)
decimal-lacks n fits =
    All-from_get_or (λ b. (b == 32) ≡ false) (decimal n) 0
    (λ i inside. ne_eqb _ _ (λ e. omega (arith, e, (digit_at (decimal n) i (digits_decimal digits_model n fits) inside).0)))

pub number-lacks : (ds : List ℕ) (n : ℕ) → SpellsNumber ds n → HasNoSpace ds
number-lacks ds n s = subst HasNoSpace (sym s.written) (decimal-lacks n s.high)

-- texts of nodes
text-lacks : (bytes : List ℕ) → IsText bytes → HasNoSpace bytes
text-lacks bytes t k d inside =
    let banned : is_allowed 32 ≡ false = refl in
    ne_eqb _ _ (λ e. cc (t.allowed k d inside, ap is_allowed e, banned))

creation-lacks : (c : ℕ) (t : Bool) → c < 2 ^ 32 → HasNoSpace (if t then [] else slash ∷ decimal c)
creation-lacks c true small = All-nil (λ b. (b == 32) ≡ false)
creation-lacks c false small = All-cons (λ b. (b == 32) ≡ false) slash (decimal c) refl (decimal-lacks c (omega (arith, small)))

pub node-lacks : (text : List ℕ) (n : ℕ) → SpellsNode text n → HasNoSpace text
node-lacks text n s =
    subst HasNoSpace (sym s.parts)
    (All-append (λ b. (b == 32) ≡ false) s.name (creation_bytes (creation_of n))
    (text-lacks s.name s.name_spelled.text) (creation-lacks (creation_of n) (creation_of n == 1) s.fits))
