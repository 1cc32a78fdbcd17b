-- What a reader has at hand of a line.
use Rattle.std.proofs.Common.{ℕ, Bool, true, false, List, [], ◌∷◌, ◌++◌, ◌≡◌, ◌<◌, ◌≤◌, ◌+◌, ◌==◌, length, take, drop, slice_index, get_or, Option, Some, None, refl, sym, ap, subst, ◌∙◌, arith}
use Rattle.std.specs.Prelude.{if◌then◌else◌, unwrap_or, is_some}
use Rattle.std.proofs.lemmas.Bool.{eqb-true}
use mir.Val.{bool_byte}
use Rattle.std.specs.Io.KnownBytes.{Consumes, prepend_known}
use Rattle.std.specs.Io.BufRead.{DropsConsumable}
use Rattle.std.specs.Io.Buffered.{reader_remaining, reader_buffer, reader_capacity}
use Rattle.std.specs.declared.io.buffered.BufReader.{BufReader}
use Rattle.std.specs.Str.TwoWay.{Nowhere}
use Rattle.std.proofs.lemmas.List.{take-append-le, take-append-drop}
use Rattle.std.proofs.lemmas.Grind.{common_steps, take_at_read}
use Rattle.memchr.specs.Find.{Passes, is_byte, IsFirstByte}
use Rattle.text_lines.specs.Lines.{HasNoFeed, TakesSome}

-- the first bytes at hand are consumed
front : (bytes : List ℕ) (c : Bool) (inner new : Option (List ℕ)) (n : ℕ) → n ≤ length bytes
    → DropsConsumable (if c then None else prepend_known bytes inner) new (Some (length bytes)) n
    → Consumes (if c then None else prepend_known bytes inner) new (take n bytes)
front bytes true inner new n l d = tt
front bytes false None new n l d = tt
front bytes false (Some rest) new n l d =
    subst (λ (o : Option (List ℕ)). Consumes (Some (bytes ++ rest)) o (take n bytes)) (sym (d l)) (
    sym (take-append-drop n (bytes ++ rest))
    ∙ ap (λ (xs : List ℕ). xs ++ drop n (bytes ++ rest)) (take-append-le n bytes rest l)
    )

Consumes-at_hand : {R A : Type 0} (remaining : R → Option (List ℕ)) (r : BufReader R A) (new : Option (List ℕ)) (n : ℕ)
    → n ≤ length (reader_buffer r)
    → DropsConsumable (reader_remaining remaining r) new (Some (length (reader_buffer r))) n
    → Consumes (reader_remaining remaining r) new (take n (reader_buffer r))
Consumes-at_hand remaining r new n l d = front (reader_buffer r) (reader_capacity r == 0) (remaining r.inner) new n l d

is_false : (b : Bool) → (b ≡ true → ⊥) → b ≡ false
is_false true h = absurd (h refl)
is_false false h = refl

-- before the first line feed there is none
HasNoFeed-before : (bytes : List ℕ) (n : ℕ) → Nowhere (Passes (is_byte 10) bytes) 0 n → n ≤ length bytes
    → HasNoFeed (take n bytes)
HasNoFeed-before bytes n h l = λ k d m.
    let i : k < n = grind (arith, common_steps) in
    let e : get_or (take n bytes) k d ≡ slice_index bytes k = grind (arith, common_steps) in
    ap (λ (b : ℕ). b == 10) e ∙ is_false (slice_index bytes k == 10) (h k (omega arith) i)

-- with the first line feed
take-through : (bytes : List ℕ) (n : ℕ) → n < length bytes → (slice_index bytes n == 10) ≡ true
    → take (n + 1) bytes ≡ take n bytes ++ 10 ∷ []
take-through bytes n l h =
    (take_at_read bytes n 0 l).1 ∙ ap (λ (b : ℕ). take n bytes ++ b ∷ []) (eqb-true (slice_index bytes n) 10 h)

-- what is at hand of a line is taken
pub TakesSome-at_hand : {R A : Type 0} (remaining : R → Option (List ℕ)) (r : BufReader R A) (new : Option (List ℕ))
    (found : Option ℕ) (n one : ℕ) → IsFirstByte (is_byte 10) (reader_buffer r) found
    → n ≡ unwrap_or found (length (reader_buffer r)) → one ≡ bool_byte (is_some found)
    → DropsConsumable (reader_remaining remaining r) new (Some (length (reader_buffer r))) (n + one)
    → HasNoFeed (take n (reader_buffer r))
    × TakesSome (reader_remaining remaining r) new (is_some found) (take n (reader_buffer r))
TakesSome-at_hand remaining r new (Some place) n one first is_n is_one dropped =
    let bytes = reader_buffer r in
    let l : place < length bytes = first.0.high in
    let m : n + one ≡ place + 1 = omega (arith, is_n, is_one) in
    let taken = Consumes-at_hand remaining r new (place + 1) (omega (arith, l))
    (subst (λ (k : ℕ). DropsConsumable (reader_remaining remaining r) new (Some (length bytes)) k) m dropped) in (
      subst (λ (k : ℕ). HasNoFeed (take k bytes)) (sym is_n) (HasNoFeed-before bytes place first.0.before (omega (arith, l))),
      subst (λ (k : ℕ). Consumes (reader_remaining remaining r) new (take k bytes ++ 10 ∷ [])) (sym is_n) (
          subst (λ (xs : List ℕ). Consumes (reader_remaining remaining r) new xs)
          (take-through bytes place l first.1) taken
          ),
    )
TakesSome-at_hand remaining r new None n one none is_n is_one dropped =
    let bytes = reader_buffer r in
    let m : n + one ≡ length bytes = omega (arith, is_n, is_one) in (
      subst (λ (k : ℕ). HasNoFeed (take k bytes)) (sym is_n) (HasNoFeed-before bytes (length bytes) none (omega arith)),
      subst (λ (k : ℕ). Consumes (reader_remaining remaining r) new (take k bytes)) (sym is_n) (
          Consumes-at_hand remaining r new (length bytes) (omega arith)
          (subst (λ (k : ℕ). DropsConsumable (reader_remaining remaining r) new (Some (length bytes)) k) m dropped)
          ),
    )
