-- What is to be printed, more and more.
use Rattle.std.proofs.Common.{ℕ, ◌≡◌, List, [], ◌∷◌, ◌++◌, sym, ap, subst, ◌∙◌, append-nil, append_assoc, string_bytes}
use Rattle.std.proofs.lemmas.Grind.{flat_map-append}
use Rattle.node_port.specs.Edits.{Changed, changed_line, changed_lines}
use Rattle.node_port.specs.Shown.{Shown, shown_line, shown_lines}
use Rattle.node_port.specs.Working.{Grows, IsEmpty}
use Rattle.node_port.specs.declared.output.Output.{Output}

pub shown_more : (xs ys : List Shown) → shown_lines (xs ++ ys) ≡ shown_lines xs ++ shown_lines ys
shown_more xs ys = flat_map-append shown_line xs ys

pub changed_more : (cs ds : List Changed) → shown_lines (changed_lines (cs ++ ds)) ≡ shown_lines (changed_lines cs) ++ shown_lines (changed_lines ds)
changed_more cs ds = ap shown_lines (flat_map-append changed_line cs ds) ∙ shown_more (changed_lines cs) (changed_lines ds)

-- the line of one is the line
pub one_line : (s : Shown) → shown_lines (s ∷ []) ≡ shown_line s
one_line s = append-nil (shown_line s)

-- nothing more
pub grows_none : (a : Output) → Grows [] [] a a
grows_none a = record { changes_are = sym (append-nil (string_bytes a.changes)); answers_are = sym (append-nil (string_bytes a.answers)) }

pub grows_on : (cs ds : List Changed) (xs ys : List Shown) (a b c : Output) → Grows cs xs a b → Grows ds ys b c → Grows (cs ++ ds) (xs ++ ys) a c
grows_on cs ds xs ys a b c G H = record {
  changes_are = H.changes_are
      ∙ (ap (λ (t : List ℕ). t ++ shown_lines (changed_lines ds)) G.changes_are
      ∙ (append_assoc (string_bytes a.changes) (shown_lines (changed_lines cs)) (shown_lines (changed_lines ds))
      ∙ ap (λ (t : List ℕ). string_bytes a.changes ++ t) (sym (changed_more cs ds))));
  answers_are = H.answers_are
      ∙ (ap (λ (t : List ℕ). t ++ shown_lines ys) G.answers_are
      ∙ (append_assoc (string_bytes a.answers) (shown_lines xs) (shown_lines ys)
      ∙ ap (λ (t : List ℕ). string_bytes a.answers ++ t) (sym (shown_more xs ys))));
}

-- the same, said otherwise
pub grows_as : (cs ds : List Changed) (xs ys : List Shown) (a b : Output) → cs ≡ ds → xs ≡ ys → Grows cs xs a b → Grows ds ys a b
grows_as cs ds xs ys a b e f G = subst (λ (x : List Changed). Grows x ys a b) e (subst (λ (x : List Shown). Grows cs x a b) f G)

pub grows_from : (cs : List Changed) (xs : List Shown) (a b c : Output) → b ≡ a → Grows cs xs b c → Grows cs xs a c
grows_from cs xs a b c e G = subst (λ (o : Output). Grows cs xs o c) e G

-- what is printed of a node where nothing was to be
pub changes_now : (cs : List Changed) (xs : List Shown) (a b : Output) → IsEmpty a → Grows cs xs a b
    → string_bytes b.changes ≡ shown_lines (changed_lines cs)
changes_now cs xs a b e G = G.changes_are ∙ ap (λ (t : List ℕ). t ++ shown_lines (changed_lines cs)) e.0

pub answers_now : (cs : List Changed) (xs : List Shown) (a b : Output) → IsEmpty a → Grows cs xs a b → string_bytes b.answers ≡ shown_lines xs
answers_now cs xs a b e G = G.answers_are ∙ ap (λ (t : List ℕ). t ++ shown_lines xs) e.1

-- one change more is to be printed, or one answer
pub grows_change : (c : Changed) (s : Shown) (a b : Output) → changed_line c ≡ s ∷ []
    → string_bytes b.changes ≡ string_bytes a.changes ++ shown_line s → string_bytes b.answers ≡ string_bytes a.answers → Grows (c ∷ []) [] a b
grows_change c s a b is changes answers = record {
  changes_are = changes
      ∙ ap (λ (t : List ℕ). string_bytes a.changes ++ t) (sym (ap shown_lines (append-nil (changed_line c) ∙ is) ∙ one_line s));
  answers_are = answers ∙ sym (append-nil (string_bytes a.answers));
}

pub grows_answer : (s : Shown) (a b : Output) → string_bytes b.changes ≡ string_bytes a.changes
    → string_bytes b.answers ≡ string_bytes a.answers ++ shown_line s → Grows [] (s ∷ []) a b
grows_answer s a b changes answers = record {
  changes_are = changes ∙ sym (append-nil (string_bytes a.changes));
  answers_are = answers ∙ ap (λ (t : List ℕ). string_bytes a.answers ++ t) (sym (one_line s));
}
