-- A letter to one node after another.
use Rattle.std.proofs.Common.{ℕ, ◌≡◌, ◌<◌, List, [], ◌∷◌, ◌++◌, length, get_or, take, ◌+◌, map, sym, ap, ◌∙◌}
use Rattle.std.proofs.lemmas.List.{map-append, append_assoc}
use Rattle.std.proofs.lemmas.Grind.{take_at_read}
use Rattle.protocol_model.specs.Letter.{Letter as AnyLetter}
use Rattle.protocol_model.specs.Turn.{Send}
use Rattle.node_events.specs.declared.events.Letter.{Letter}
use Rattle.node_events.specs.Made.{Made, sent, SendsAll, each}
use Rattle.node_events.specs.Letters.{send_of, letter_of}

-- one letter more of those to all
pub sends_next : (cs : List ℕ) (l m : Letter) (i c : ℕ) (t u v : Made) → i < length cs → c ≡ get_or cs i c
    → letter_of m ≡ letter_of l → v ≡ sent c m u → SendsAll (take i cs) l t u → SendsAll (take (i + 1) cs) l t v
sends_next cs l m i c t u v below item copied made S = record {
  sends = ap (λ (x : Made). map send_of x.letters) made ∙ map-append send_of u.letters ((c, m) ∷ [])
      ∙ ap (λ (ss : List Send). ss ++ record { to = c; letter = letter_of m } ∷ []) S.sends
      ∙ append_assoc (map send_of t.letters) (each (take i cs) l) (record { to = c; letter = letter_of m } ∷ [])
      ∙ ap (λ (ss : List Send). map send_of t.letters ++ ss) (
      ap (λ (x : AnyLetter). each (take i cs) l ++ record { to = c; letter = x } ∷ []) copied
      ∙ sym (map-append (λ d. record { to = d; letter = letter_of l }) (take i cs) (c ∷ []))
      ∙ ap (λ (xs : List ℕ). each xs l) (ap (λ (d : ℕ). take i cs ++ d ∷ []) item ∙ sym (take_at_read cs i c below).1));
  entries = ap (λ (x : Made). x.entries) made ∙ S.entries;
  answers = ap (λ (x : Made). x.answers) made ∙ S.answers;
}
