-- What is read of the options of `serve`, and faults that are handed on.
use Rattle.std.proofs.Common.{◌≡◌, ◌∙◌, ◌==◌, ◌<◌, ◌^◌, ℕ, Bool, cond, true, false, refl, sym, ap, subst, List, [], ◌∷◌, drop, Option, Some, None, Result, Ok, Err, IsErrAnd, IfSome, MatchResult, codes, option_map, pos, unwrap_or, inl, inr, arith}
use Rattle.std.specs.Str.Parse.{ParsesUnsigned, digits_value, starts_with_minus, without_leading_plus}
use Rattle.std.proofs.lemmas.Int.{ints}
use Rattle.clap.specs.Words.{IsSignedIn, ReadsOne, without_minus}
use Rattle.clap.proofs.CallerReads.{signed_reads}
use Rattle.term.specs.declared.limits.TheConstants.{MOST_CONSOLES_AT_ONCE, LONGEST_SILENCE}
use Rattle.arguments.specs.Nodes.{RefusesPlacing}
use Rattle.arguments.specs.Reading.{Counts, CountsConsoles, CountsSeconds, IsFlagText, RefusesTold, Values, is_set}
use Rattle.arguments.specs.declared.faults.ArgFault.{ArgFault}
use Rattle.arguments.specs.declared.faults.ArgFault.TheVariants as fault

without_minus-cond : (t : List ℕ) → without_minus t ≡ cond (starts_with_minus t) (drop 1 t) t
without_minus-cond [] = refl
without_minus-cond (x ∷ xs) = go (x == 45)
  where
    go : (b : Bool) → unwrap_or (cond b (Some xs) None) (x ∷ xs) ≡ cond b xs (x ∷ xs)
    go true = refl
    go false = refl

-- a number from 1 on has no minus
no_minus : (most : ℕ) (t : List ℕ) → IsSignedIn (pos 1) (pos most) t → without_minus t ≡ t
no_minus most t passed = go (starts_with_minus t) refl
  where
    go : (b : Bool) → starts_with_minus t ≡ b → without_minus t ≡ t
    go true minus =
        let low = rw minus at passed.2 in
        absurd (omega (arith, ints))
    go false minus = without_minus-cond t ∙ ap (λ (b : Bool). cond b (drop 1 t) t) minus

-- the number that is read of a text in its range
number_read : (E : Type 0) (G : List ℕ → Result ℕ E → Type 0) (bits most : ℕ) (t : List ℕ) (r : Option ℕ)
    → ((u : List ℕ) (x : Result ℕ E) → G u x → ParsesUnsigned bits 10 u x) → most < 2 ^ bits → IsSignedIn (pos 1) (pos most) t
    → ReadsOne G (without_minus t) r → (n : ℕ) × (r ≡ Some n) × Counts most t n
number_read E G bits most t r only fits passed read =
    let got = signed_reads E G bits 1 most t r read only fits passed in
    let parsed = only (without_minus t) (Ok got.0) (subst (λ (x : Option ℕ). ReadsOne G (without_minus t) x) got.1 read) in (
      got.0,
      got.1,
      (got.2, got.3, parsed.1 ∙ ap (λ (u : List ℕ). digits_value 10 (without_leading_plus u)) (no_minus most t passed)),
    )

-- the number of consoles, by the text of its option
pub counted : (E : Type 0) (G : List ℕ → Result ℕ E → Type 0) (given one : Option (List ℕ)) (r : Option ℕ) (n : ℕ)
    → ((u : List ℕ) (x : Result ℕ E) → G u x → ParsesUnsigned 16 10 u x) → IfSome given (IsSignedIn (pos 1) (pos MOST_CONSOLES_AT_ONCE))
    → one ≡ option_map without_minus given → (one ≡ None → r ≡ None) → ((t : List ℕ) → one ≡ Some t → ReadsOne G t r)
    → (stay : Bool) (most : ℕ) → CountsConsoles stay None most → n ≡ unwrap_or r most → CountsConsoles stay given n
counted E G None one r n only passed text none some stay most untold is = is ∙ ap (λ (o : Option ℕ). unwrap_or o most) (none text) ∙ untold
counted E G (Some t) one r n only passed text none some stay most untold is =
    let got = number_read E G 16 MOST_CONSOLES_AT_ONCE t r only (omega arith) passed (some (without_minus t) text) in
    let same : n ≡ got.0 = is ∙ ap (λ (o : Option ℕ). unwrap_or o most) got.1 in
    (rw same got.2.0, rw same got.2.1, same ∙ got.2.2)

-- the seconds that a console may be silent, by the text of its option
pub seconds_counted : (E : Type 0) (G : List ℕ → Result ℕ E → Type 0) (given one : Option (List ℕ)) (r : Option ℕ)
    → ((u : List ℕ) (x : Result ℕ E) → G u x → ParsesUnsigned 32 10 u x) → IfSome given (IsSignedIn (pos 1) (pos LONGEST_SILENCE))
    → one ≡ option_map without_minus given → (one ≡ None → r ≡ None) → ((t : List ℕ) → one ≡ Some t → ReadsOne G t r)
    → CountsSeconds given r
seconds_counted E G None one r only passed text none some = none text
seconds_counted E G (Some t) one r only passed text none some =
    number_read E G 32 LONGEST_SILENCE t r only (omega arith) passed (some (without_minus t) text)

-- whether the flag is set, by the text of its option
pub flag_read : (given one : Option (List ℕ)) (b : Bool) → IfSome given IsFlagText → one ≡ given → (one ≡ None → b ≡ false)
    → (one ≡ Some (codes "true") → b ≡ true) → (one ≡ Some (codes "false") → b ≡ false) → b ≡ is_set given
flag_read None one b text same none set unset = none same
flag_read (Some t) one b (inl e) same none set unset =
    set (same ∙ ap Some e) ∙ ap (λ (o : Option (List ℕ)). is_set o) (sym (ap Some e))
flag_read (Some t) one b (inr e) same none set unset =
    unset (same ∙ ap Some e) ∙ ap (λ (o : Option (List ℕ)). is_set o) (sym (ap Some e))

-- lists that are refused are values that are
pub lists_refused : (v : Values) (list : List ℕ) (lone : Option (List ℕ)) (f : ArgFault) → v (codes "nodes") ≡ Some list → lone ≡ v (codes "lone")
    → RefusesPlacing list lone f → RefusesTold v f
lists_refused v list second (fault.Words e) nodes same h = absurd h
lists_refused v list second (fault.Options f) nodes same h = absurd h
lists_refused v list second (fault.Text f) nodes same h =
    record { list = list; nodes = nodes; refused = subst (λ o. RefusesPlacing list o (fault.Text f)) same h }
lists_refused v list second fault.SameNode nodes same h =
    record { list = list; nodes = nodes; refused = subst (λ o. RefusesPlacing list o fault.SameNode) same h }
lists_refused v list second fault.TooManyNodes nodes same h =
    record { list = list; nodes = nodes; refused = subst (λ o. RefusesPlacing list o fault.TooManyNodes) same h }
lists_refused v list second fault.NoSuchNode nodes same h = absurd h

-- what is true of a fault is true where it is handed on
pub handed_on : {T : Type 0} (P : T → Type 0) (Q : ArgFault → Type 0) (r : Result T ArgFault) (f : ArgFault) → IsErrAnd r (λ y. y ≡ f) → Q f
    → MatchResult r P Q
handed_on P Q (Ok t) f is h = absurd is
handed_on P Q (Err y) f is h = subst Q (sym is) h
