-- Letters of a turn, by receiver; and links with more letters, or one fewer.
use Rattle.std.proofs.Common.{ℕ, zero, suc, ◌≡◌, ◌==◌, Bool, true, false, List, [], ◌∷◌, ◌++◌, refl, sym, ap, ◌∙◌, subst, arith, inl, inr}
use Rattle.std.specs.Prelude.{if◌then◌else◌, nat_lt, ◌&&◌, map, filter}
use Rattle.std.proofs.lemmas.List.{append-nil}
use Rattle.std.proofs.lemmas.Bool.Decides.{nat_tests}
use Rattle.std.proofs.lemmas.Bool.{cases_eq, eq-eqb, ne_eqb, lt-ltb, le-ltb}
use Rattle.registry_model.specs.Process.{Nodes, nodes_of}
use Rattle.protocol_model.specs.Letter.{Letter}
use Rattle.protocol_model.specs.Turn.{Send, sent_to}

pub sent_to-append : (c : ℕ) (xs ys : List Send) → sent_to c (xs ++ ys) ≡ sent_to c xs ++ sent_to c ys
sent_to-append c [] ys = refl
sent_to-append c (s ∷ xs) ys = go (s.to == c) (sent_to-append c xs ys)
  where
    go : (t : Bool) → sent_to c (xs ++ ys) ≡ sent_to c xs ++ sent_to c ys
        → map (λ x. x.letter) (if t then s ∷ filter (λ x. x.to == c) (xs ++ ys) else filter (λ x. x.to == c) (xs ++ ys))
        ≡ map (λ x. x.letter) (if t then s ∷ filter (λ x. x.to == c) xs else filter (λ x. x.to == c) xs) ++ sent_to c ys
    go true e = ap (λ (l : List Letter). s.letter ∷ l) e
    go false e = e

-- one letter
pub sent_to-one : (c d : ℕ) (l : Letter) → sent_to c (record { to = d; letter = l } ∷ [])
    ≡ (if d == c then l ∷ [] else [])
sent_to-one c d l = go (d == c)
  where
    go : (t : Bool) → map (λ (x : Send). x.letter) (if t then record { to = d; letter = l } ∷ [] else [])
        ≡ (if t then l ∷ [] else [])
    go true = refl
    go false = refl

-- the same letter to each node of a list
abbrev pub to_each : List ℕ → Letter → List Send
to_each cs l = map (λ c. record { to = c; letter = l }) cs

pub to_each-append : (xs ys : List ℕ) (l : Letter) → to_each (xs ++ ys) l ≡ to_each xs l ++ to_each ys l
to_each-append [] ys l = refl
to_each-append (x ∷ xs) ys l = ap (λ (s : List Send). record { to = x; letter = l } ∷ s) (to_each-append xs ys l)

-- a letter to each node of a set below n comes to each of them once
pub sent_to-all : (n : ℕ) (s : Nodes) (l : Letter) (c : ℕ)
    → sent_to c (to_each (nodes_of n s) l) ≡ (if nat_lt c n && s c then l ∷ [] else [])
sent_to-all zero s l c = rw (le-ltb c 0 (omega arith))
sent_to-all (suc n) s l c =
    ap (sent_to c) (to_each-append (nodes_of n s) (if s n then n ∷ [] else []) l)
    ∙ sent_to-append c (to_each (nodes_of n s) l) (to_each (if s n then n ∷ [] else []) l)
    ∙ ap (λ (ls : List Letter). ls ++ sent_to c (to_each (if s n then n ∷ [] else []) l)) (sent_to-all n s l c)
    ∙ elim (cases_eq c n) [
      | inl e ↦ subst (λ (y : ℕ). (if nat_lt y n && s y then l ∷ [] else [])
          ++ sent_to y (to_each (if s n then n ∷ [] else []) l) ≡ (if nat_lt y (suc n) && s y then l ∷ [] else []))
          (sym e) here
      | inr ne ↦ there ne
    ]
  where
    last : (t : Bool) → sent_to n (to_each (if t then n ∷ [] else []) l) ≡ (if t then l ∷ [] else [])
    last true = rw (eq-eqb n n refl)
    last false = refl

    here : (if nat_lt n n && s n then l ∷ [] else []) ++ sent_to n (to_each (if s n then n ∷ [] else []) l)
        ≡ (if nat_lt n (suc n) && s n then l ∷ [] else [])
    here = rw (le-ltb n n (omega arith), lt-ltb n (suc n) (omega arith)) (last (s n))

    other : (c ≡ n → ⊥) → (t : Bool) → sent_to c (to_each (if t then n ∷ [] else []) l) ≡ []
    other ne true = rw (ne_eqb n c (λ e. ne (sym e)))
    other ne false = refl

    there : (c ≡ n → ⊥) → (if nat_lt c n && s c then l ∷ [] else [])
        ++ sent_to c (to_each (if s n then n ∷ [] else []) l) ≡ (if nat_lt c (suc n) && s c then l ∷ [] else [])
    there ne = ap (λ (ls : List Letter). (if nat_lt c n && s c then l ∷ [] else []) ++ ls) (other ne (s n))
        ∙ append-nil _ ∙ ap (λ (t : Bool). if t && s c then l ∷ [] else []) same
      where
        same : nat_lt c n ≡ nat_lt c (suc n)
        same = grind (arith, nat_tests)
