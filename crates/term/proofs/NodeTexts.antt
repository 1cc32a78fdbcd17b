-- The text of a printed set, and that its parts are the names of the nodes.
use Rattle.std.proofs.Common.{◌≡◌, ℕ, zero, suc, ◌+◌, ◌<◌, ◌==◌, List, [], ◌∷◌, ◌++◌, length, arith, subst, sym, ◌∙◌, ap, refl, map, append-nil, append_assoc, get_or, take, add-one}
use Rattle.std.proofs.lemmas.List.{take_more, length-take-le}
use Rattle.std.proofs.lemmas.List.Concat.{flat_map-append}
use Rattle.std.proofs.lemmas.List.Elements.{All-head, All-push, All-tail}
use Rattle.std.proofs.lemmas.List.Splits.{slice_split_none, slice_split_at}
use Rattle.std.specs.List.{All, AllZip, join_by}
use Rattle.term.specs.NodeLists.{SpellsNodes, parts_of, comma, list_of}
use Rattle.term.specs.NodeSets.{IsNodeSet}
use Rattle.term.specs.Spelling.{IsText, SpellsNodeName, name_bytes}
use Rattle.term.proofs.Parts.{Lacks, Lacks-text}

-- the number is that of a name
abbrev pub IsName : ℕ → Type 0
IsName c = SpellsNodeName (name_bytes c) c

-- what stands before the next name
abbrev pub separator_of : ℕ → List ℕ
separator_of zero = []
separator_of (suc k) = comma ∷ []

-- behind a name stands a comma
pub separator_of-more : (i : ℕ) → comma ∷ [] ≡ separator_of (i + 1)
separator_of-more i = rw add-one refl

-- the text with one more name
regroup : (xs ys zs : List ℕ) → xs ++ (ys ++ comma ∷ (zs ++ [])) ≡ ((xs ++ ys) ++ comma ∷ []) ++ zs
regroup xs ys zs = simp (append-nil {A = ℕ}, append_assoc {A = ℕ}) refl

list-push : (f : ℕ → List ℕ) (xs : List ℕ) (c : ℕ) → join_by f (comma ∷ []) (xs ++ c ∷ [])
    ≡ (join_by f (comma ∷ []) xs ++ separator_of (length xs)) ++ f c
list-push f [] c = append-nil (f c)
list-push f (x ∷ xs) c =
    ap (λ (ys : List ℕ). f x ++ ys) (flat_map-append (λ y. (comma ∷ []) ++ f y) xs (c ∷ []))
    ∙ regroup (f x) _ (f c)

-- one more behind the first i nodes, each written in this way
pub list-more : (f : ℕ → List ℕ) (xs : List ℕ) (i c : ℕ) → i < length xs → c ≡ get_or xs i c
    → (join_by f (comma ∷ []) (take i xs) ++ separator_of i) ++ f c ≡ join_by f (comma ∷ []) (take (i + 1) xs)
list-more f xs i c inside is =
    let long : length (take i xs) ≡ i = length-take-le i xs (omega arith) in
    sym (ap (join_by f (comma ∷ [])) (take_more xs i c inside ∙ ap (λ (x : ℕ). take i xs ++ x ∷ []) (sym is))
    ∙ (list-push f (take i xs) c
    ∙ ap (λ (k : ℕ). (join_by f (comma ∷ []) (take i xs) ++ separator_of k) ++ f c) long))

pub names-more : (xs : List ℕ) (i c : ℕ) → i < length xs → c ≡ get_or xs i c → All IsName (take i xs) → IsName c
    → All IsName (take (i + 1) xs)
names-more xs i c inside is names name =
    subst (All IsName) (sym (take_more xs i c inside ∙ ap (λ (x : ℕ). take i xs ++ x ∷ []) (sym is)))
    (All-push IsName (take i xs) c names name)

-- no comma is allowed in a name
no_comma : (bs : List ℕ) → IsText bs → Lacks comma bs
no_comma bs t = Lacks-text comma bs refl t

-- the parts of a printed set are the texts of its nodes
parts_of-list_of : (x : ℕ) (xs : List ℕ) → All IsName (x ∷ xs) → parts_of (list_of (x ∷ xs)) ≡ map name_bytes (x ∷ xs)
parts_of-list_of x [] names =
    ap parts_of (append-nil (name_bytes x))
    ∙ slice_split_none (λ b. b == comma) (name_bytes x) (no_comma (name_bytes x) (All-head IsName x [] names).text)
parts_of-list_of x (y ∷ ys) names =
    slice_split_at (λ b. b == comma) (name_bytes x) comma (list_of (y ∷ ys))
    (no_comma (name_bytes x) (All-head IsName x (y ∷ ys) names).text) refl
    ∙ ap (λ (ps : List (List ℕ)). name_bytes x ∷ ps) (parts_of-list_of y ys (All-tail IsName x (y ∷ ys) names))

spelled-names : (xs : List ℕ) → All IsName xs → AllZip SpellsNodeName (map name_bytes xs) xs
spelled-names [] names = tt
spelled-names (x ∷ xs) names = (All-head IsName x xs names, spelled-names xs (All-tail IsName x xs names))

-- a printed set is spelled
pub list_of-spells : (nodes : List ℕ) → 0 < length nodes → IsNodeSet nodes → All IsName nodes
    → SpellsNodes (list_of nodes) nodes
list_of-spells [] some set names = absurd (omega arith)
list_of-spells (x ∷ xs) some set names = record {
  listed = record {
    names = x ∷ xs;
    spelled =
        subst (λ (ps : List (List ℕ)). AllZip SpellsNodeName ps (x ∷ xs)) (sym (parts_of-list_of x xs names))
        (spelled-names (x ∷ xs) names);
    rising = set.rising;
    named = λ c. refl;
  };
  fits = set.fits;
}
