-- What the answers of tests and calls say.
use Rattle.std.proofs.Common.{ℕ, Bool, true, false, ◌==◌, ◌≡◌, Option, Some, None, Result, Ok, Err, refl, sym, ◌∙◌}
use Rattle.std.specs.Prelude.{◌&&◌, not, IfNone, MatchBool, OnErr}
use Rattle.std.proofs.lemmas.Bool.{eqb-true}

-- both of two tests that hold together
pub both : (a b : Bool) → (a && b) ≡ true → (a ≡ true) × (b ≡ true)
both true true h = (refl, refl)
both true false h = cc
both false b h = cc

-- the answers of `!=`
pub unlike : (a b : ℕ) (r : Bool) → r ≡ not (a == b) → r ≡ true → (a == b) ≡ false
unlike a b r e i = go (a == b) (sym e ∙ i)
  where
    go : (x : Bool) → not x ≡ true → x ≡ false
    go true h = cc
    go false h = refl

pub alike : (a b : ℕ) (r : Bool) → r ≡ not (a == b) → r ≡ false → a ≡ b
alike a b r e i = eqb-true a b (go (a == b) (sym e ∙ i))
  where
    go : (x : Bool) → not x ≡ false → x ≡ true
    go true h = refl
    go false h = cc

-- what is so where a test fails
pub where_false : (P Q : Type 0) (b r : Bool) → r ≡ not b → r ≡ true → MatchBool b P Q → Q
where_false P Q true r e i h = absurd (cc (e, i))
where_false P Q false r e i h = h

-- what is so of the missing and of the other results is so of the missing
pub on_none_given : {X P : Type 0} (r : Option X) → P → IfNone r P
on_none_given None h = h
on_none_given (Some x) h = tt

-- what follows from what is so of the missing
pub on_none : {X P Q : Type 0} (r : Option X) → IfNone r P → (P → Q) → IfNone r Q
on_none None h f = f h
on_none (Some x) h f = tt

-- what is so in any case is so where something is refused
pub where_refused : {T E P : Type 0} (r : Result T E) → P → OnErr r P
where_refused (Ok x) h = tt
where_refused (Err e) h = h
