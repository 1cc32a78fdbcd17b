-- Lists of letters: what holds of each, how many pass a test, and which of them a scene has.
use Rattle.std.proofs.Common.{ℕ, Bool, true, false, ◌==◌, ◌≡◌, ◌+◌, List, [], ◌∷◌, ◌++◌, filter, refl, ap, ◌∙◌, arith}
use Rattle.std.specs.Prelude.{if◌then◌else◌, not, ◌&&◌, ◌||◌, map}
use Rattle.std.specs.List.{list_any}
use Rattle.std.proofs.lemmas.Bool.{and_parts, and_from}
use Rattle.std.proofs.lemmas.List.Elements.{filter-append}
use Rattle.protocol_model.specs.Letter.{Letter}
use Rattle.protocol_model.specs.Turn.{Send, sent_to}
use Rattle.moves.proofs.Invariants.{Each}
use Rattle.replicas.proofs.Scenes.{is_mine, mine, one_if, count_of}

-- what stands of each letter of two lists stands of each of both
pub Each-append : (P : Letter → Type 0) (xs ys : List Letter) → Each P xs → Each P ys → Each P (xs ++ ys)
Each-append P [] ys e f = f
Each-append P (l ∷ xs) ys e f = (e.0, Each-append P xs ys e.1 f)

-- what follows for each letter
pub Each-map : (P Q : Letter → Type 0) (xs : List Letter) → ((l : Letter) → P l → Q l) → Each P xs → Each Q xs
Each-map P Q [] h e = tt
Each-map P Q (l ∷ xs) h e = (h l e.0, Each-map P Q xs h e.1)

-- what holds of each letter of a scene's kinds, and of all others, holds of each
pub Each-mine : (P : Letter → Type 0) (xs : List Letter) → ((l : Letter) → is_mine l ≡ false → P l) → Each P (mine xs)
    → Each P xs
Each-mine P [] h e = tt
Each-mine P (l ∷ xs) h e = go (is_mine l) refl e (λ f. Each-mine P xs h f)
  where
    go : (b : Bool) → is_mine l ≡ b → Each P (if b then l ∷ mine xs else mine xs) → (Each P (mine xs) → Each P xs)
        → P l × Each P xs
    go true k e more = (e.0, more e.1)
    go false k e more = (h l k, more e)

-- letters of which none passes
pub Each-none : (test : Letter → Bool) (P : Letter → Type 0) (xs : List Letter) → count_of test xs ≡ 0
    → Each (λ l. test l ≡ true → P l) xs
Each-none test P [] e = tt
Each-none test P (l ∷ xs) e = go (test l) refl e (λ f. Each-none test P xs f)
  where
    go : (b : Bool) → test l ≡ b → one_if b + count_of test xs ≡ 0
        → (count_of test xs ≡ 0 → Each (λ l. test l ≡ true → P l) xs)
        → (test l ≡ true → P l) × Each (λ l. test l ≡ true → P l) xs
    go true k e more = absurd (omega arith)
    go false k e more = (λ f. absurd (cc (k, f)), more (omega arith))

-- counts of two lists add up
pub count_of-append : (test : Letter → Bool) (xs ys : List Letter)
    → count_of test (xs ++ ys) ≡ count_of test xs + count_of test ys
count_of-append test [] ys = omega arith
count_of-append test (l ∷ xs) ys = let h : count_of test (xs ++ ys) ≡ count_of test xs + count_of test ys =
    count_of-append test xs ys in omega arith

-- letters of which none passes have no such letter
pub list_any-none : (test : Letter → Bool) (xs : List Letter) → count_of test xs ≡ 0 → list_any test xs ≡ false
list_any-none test [] e = refl
list_any-none test (l ∷ xs) e = go (test l) e (list_any-none test xs)
  where
    go : (b : Bool) → one_if b + count_of test xs ≡ 0 → (count_of test xs ≡ 0 → list_any test xs ≡ false)
        → (b || list_any test xs) ≡ false
    go true e more = absurd (omega arith)
    go false e more = more (omega arith)

-- a list is told by whether some letter passes where more letters that don't pass come behind
pub list_any-more : (test : Letter → Bool) (xs ys : List Letter) → list_any test ys ≡ false
    → list_any test (xs ++ ys) ≡ list_any test xs
list_any-more test [] ys e = e
list_any-more test (l ∷ xs) ys e = ap (λ (b : Bool). test l || b) (list_any-more test xs ys e)

-- a list whose last letter passes has one that passes
pub list_any-last : (test : Letter → Bool) (xs : List Letter) (l : Letter) → test l ≡ true
    → list_any test (xs ++ l ∷ []) ≡ true
list_any-last test [] l e = rw e refl
list_any-last test (x ∷ xs) l e = go (test x) (list_any-last test xs l e)
  where
    go : (b : Bool) → list_any test (xs ++ l ∷ []) ≡ true → (b || list_any test (xs ++ l ∷ [])) ≡ true
    go true h = refl
    go false h = h

-- a scene's letters of two lists
pub mine-append : (xs ys : List Letter) → mine (xs ++ ys) ≡ mine xs ++ mine ys
mine-append xs ys = filter-append is_mine xs ys

-- a letter of another kind is not of the scene
pub mine-other : (l : Letter) (ls : List Letter) → is_mine l ≡ false → mine (l ∷ ls) ≡ mine ls
mine-other l ls e = ap (λ (b : Bool). if b then l ∷ mine ls else mine ls) e

-- a letter of a scene's kinds
pub mine-same : (l : Letter) (ls : List Letter) → is_mine l ≡ true → mine (l ∷ ls) ≡ l ∷ mine ls
mine-same l ls e = ap (λ (b : Bool). if b then l ∷ mine ls else mine ls) e

-- none of the letters sent is of a scene's kinds
abbrev pub is_silent : List Send → Bool
is_silent [] = true
is_silent (s ∷ ss) = not (is_mine s.letter) && is_silent ss

-- so no receiver is sent one
pub mine-silent : (ss : List Send) (c : ℕ) → is_silent ss ≡ true → mine (sent_to c ss) ≡ []
mine-silent [] c e = refl
mine-silent (s ∷ ss) c e = go (s.to == c) (is_mine s.letter) refl e (mine-silent ss c)
  where
    go : (b k : Bool) → is_mine s.letter ≡ k → (not k && is_silent ss) ≡ true
        → (is_silent ss ≡ true → mine (sent_to c ss) ≡ [])
        → mine (map (λ (x : Send). x.letter) (if b then s ∷ filter (λ (x : Send). x.to == c) ss else filter
        (λ (x : Send). x.to == c) ss)) ≡ []
    go b true k e more = cc
    go true false k e more = mine-other s.letter (sent_to c ss) k ∙ more e
    go false false k e more = more e

-- one letter of another kind to many
pub silent-each : (cs : List ℕ) (l : Letter) → is_mine l ≡ false
    → is_silent (map (λ c. let s : Send = record { to = c; letter = l } in s) cs) ≡ true
silent-each [] l e = refl
silent-each (c ∷ cs) l e = and_from _ _ (ap not e) (silent-each cs l e)

-- two such lists
pub silent-append : (xs ys : List Send) → is_silent xs ≡ true → is_silent ys ≡ true → is_silent (xs ++ ys) ≡ true
silent-append [] ys e f = f
silent-append (s ∷ xs) ys e f =
    let parts : (not (is_mine s.letter) ≡ true) × (is_silent xs ≡ true) =
    and_parts (not (is_mine s.letter)) (is_silent xs) e in
    and_from _ _ parts.0 (silent-append xs ys parts.1 f)

-- some letter passes, and of it stands what stands of each
pub Each-find : (test : Letter → Bool) (P Q : Letter → Type 0) (ls : List Letter) → list_any test ls ≡ true
    → Each P ls → Each Q ls
    → (l : Letter) × (test l ≡ true) × P l × Q l
Each-find test P Q [] k e f = cc
Each-find test P Q (l ∷ ls) k e f = go (test l) refl k (λ h. Each-find test P Q ls h e.1 f.1)
  where
    go : (b : Bool) → test l ≡ b → (b || list_any test ls) ≡ true
        → (list_any test ls ≡ true → (l : Letter) × (test l ≡ true) × P l × Q l)
        → (l : Letter) × (test l ≡ true) × P l × Q l
    go true i k more = (l, i, e.0, f.0)
    go false i k more = more k
