-- Tests that all letters of a turn's sends pass.
use Rattle.std.proofs.Common.{ℕ, Bool, true, false, ◌==◌, ◌≡◌, List, [], ◌∷◌, ◌++◌, refl, ap, ◌∙◌}
use Rattle.std.specs.Prelude.{◌&&◌, if◌then◌else◌, map, filter}
use Rattle.std.specs.List.{list_all}
use Rattle.std.proofs.lemmas.List.Folds.{list_all-append}
use Rattle.protocol_model.specs.Letter.{Letter}
use Rattle.protocol_model.specs.Turn.{Send, sent_to}
use Rattle.moves.proofs.Indices.{both}
use Rattle.moves.proofs.Sends.{to_each}

-- each of these letters passes the test
abbrev pub all_pass : (Letter → Bool) → List Send → Bool
all_pass test ss = list_all (λ s. test s.letter) ss

pub pass_append : (test : Letter → Bool) (xs ys : List Send) → all_pass test xs ≡ true → all_pass test ys ≡ true
    → all_pass test (xs ++ ys) ≡ true
pass_append test xs ys h k =
    list_all-append (λ (s : Send). test s.letter) xs ys ∙ ap (λ (b : Bool). b && all_pass test ys) h ∙ k

pub pass_each : (test : Letter → Bool) (cs : List ℕ) (l : Letter) → test l ≡ true → all_pass test (to_each cs l) ≡ true
pass_each test [] l h = refl
pass_each test (c ∷ cs) l h = rw (h, pass_each test cs l h) refl

-- so do those to one receiver
pub pass_sent : (test : Letter → Bool) (y : ℕ) (ss : List Send) → all_pass test ss ≡ true
    → list_all test (sent_to y ss) ≡ true
pass_sent test y [] h = refl
pass_sent test y (s ∷ ss) h =
    let parts : (test s.letter ≡ true) × (all_pass test ss ≡ true) = both (test s.letter) (all_pass test ss) h in
    go (s.to == y) parts.0 (pass_sent test y ss parts.1)
  where
    go : (b : Bool) → test s.letter ≡ true → list_all test (sent_to y ss) ≡ true
        → list_all test (map (λ (x : Send). x.letter) (if b then s ∷ filter (λ x. x.to == y) ss
        else filter (λ x. x.to == y) ss)) ≡ true
    go true i k = rw (i, k) refl
    go false i k = k

-- what passes one test passes a weaker one
pub pass_more : (test more : Letter → Bool) → ((l : Letter) → test l ≡ true → more l ≡ true) → (ss : List Send)
    → all_pass test ss ≡ true → all_pass more ss ≡ true
pass_more test more on [] h = refl
pass_more test more on (s ∷ ss) h =
    let parts : (test s.letter ≡ true) × (all_pass test ss ≡ true) = both (test s.letter) (all_pass test ss) h in
    rw (on s.letter parts.0, pass_more test more on ss parts.1) refl
