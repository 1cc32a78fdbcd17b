-- The text of a node: its name, and its creation behind a slash from the second on.
use Rattle.std.proofs.Common.{◌≡◌, ℕ, ◌+◌, ◌-◌, ◌^◌, ◌<◌, ◌≤◌, ◌==◌, ◌⊎◌, inl, inr, List, [], ◌∷◌, ◌++◌, length, Bool, true, false, arith, subst, sym, ◌∙◌, ap, refl, append-nil, if◌then◌else◌}
use Rattle.std.proofs.lemmas.Bool.{cases_lt, eq-eqb, ne_eqb, eqb-true}
use Rattle.std.proofs.lemmas.Fmt.{decimal_injective, digits_decimal}
use Rattle.std.proofs.lemmas.List.{append_cancel_left}
use Rattle.std.proofs.lemmas.List.Elements.{All-append, All-nil, All-cons, All-from_get_or}
use Rattle.std.proofs.lemmas.Str.Parse.{digit_at}
use Rattle.std.specs.Fmt.{decimal}
use Rattle.std.specs.List.{after_first, position_or_len}
use Rattle.registry_model.specs.Process.{Text, text_of}
use Rattle.term.specs.declared.faults.TextFault.{TextFault}
use Rattle.term.specs.declared.faults.TextFault.TheVariants.{Empty, TooLong, BadByte, BadCreation, BadSerial, BadRule, TooManyNodes}
use Rattle.term.specs.Laws.{IsExact, NodeNamesKeepByteOrder}
use Rattle.term.specs.Nodes.{first_node, text_in, name_of, creation_of, IsFirst}
use Rattle.term.specs.Spelling.{IsText, SpellsText, RefusesText, SpellsNodeName, SpellsNode, RefusesNode, SpellsCreation, name_bytes, name_part, creation_bytes, node_bytes, slash, dot}
use Rattle.term.proofs.ExactTexts as texts
use Rattle.term.proofs.Numbers.{of_both, text_in-both, creation_of-both, creation_of-packed, name_of-packed, text_in-first_node, IsFirst-first_node, nat_cmp-first_node}
use Rattle.term.proofs.Parts.{Lacks, Lacks-text, front-parts, front-whole, position-whole, parts-split}
use Rattle.term.proofs.Serials.{digits_model, serial-search, serial-unique}
use Rattle.term.proofs.Texts.{bytes_of-spells, nat_cmp-text_of}

-- the name of a node is spelled as the text of it is
pub name-text : (bytes : List ℕ) (v : ℕ) → SpellsNodeName bytes v → SpellsText bytes (text_in v)
name-text bytes v s = record { text = s.text; number = ap text_in s.number ∙ text_in-first_node (text_of bytes) }

pub text-name : (bytes : List ℕ) (t : Text) → SpellsText bytes t → SpellsNodeName bytes (first_node t)
text-name bytes t s = record { text = s.text; number = ap first_node s.number }

-- it is its first node
pub name-first : (bytes : List ℕ) (v : ℕ) → SpellsNodeName bytes v → IsFirst v
name-first bytes v s = subst IsFirst (sym s.number) (IsFirst-first_node (text_of bytes))

-- the bytes of the name are its text
pub name_bytes-spells : (bytes : List ℕ) (v : ℕ) → SpellsNodeName bytes v → name_bytes v ≡ bytes
name_bytes-spells bytes v s = bytes_of-spells bytes (text_in v) (name-text bytes v s)

-- names of nodes are spelled exactly
pub exact_node_names : IsExact SpellsNodeName RefusesText
exact_node_names = record {
  one_value = λ bytes v w s u. s.number ∙ sym u.number;
  one_text = λ bytes others v s u.
      texts.one_text bytes others (text_in v) (name-text bytes v s) (name-text others v u);
  one_fault = texts.one_fault;
  never_both = λ bytes v f s r. texts.never_both bytes (text_in v) f (name-text bytes v s) r;
  always_either = λ bytes. elim (texts.always_either bytes) [
    | inl name ↦ inl (first_node name.0, text-name bytes name.0 name.1)
    | inr refused ↦ inr refused
  ];
}

-- the order of names of nodes is the byte order of their texts
pub node_name_order : NodeNamesKeepByteOrder
node_name_order bytes others v w s u =
    rw (s.number, u.number) (nat_cmp-first_node (text_of bytes) (text_of others) ∙ nat_cmp-text_of bytes others s.text u.text)

-- digits of a number lack what is no digit
decimal-lacks : (s n : ℕ) → s < 48 → n < 2 ^ 64 → Lacks s (decimal n)
decimal-lacks s n below small =
    All-from_get_or (λ b. (b == s) ≡ false) (decimal n) 0
    (λ i inside. ne_eqb _ _ (λ e. omega (arith, e, below, (digit_at (decimal n) i (digits_decimal digits_model n small) inside).0)))

-- what stands behind a name for its creation lacks the dot
creation-lacks_dot : (c : ℕ) (t : Bool) → c < 2 ^ 32 → Lacks dot (if t then [] else slash ∷ decimal c)
creation-lacks_dot c true small = All-nil (λ b. (b == dot) ≡ false)
creation-lacks_dot c false small =
    All-cons (λ b. (b == dot) ≡ false) slash (decimal c) refl (decimal-lacks dot c (omega arith) (omega (arith, small)))

-- the text of a node lacks the dot
pub node-lacks_dot : (bytes : List ℕ) (n : ℕ) → SpellsNode bytes n → Lacks dot bytes
node-lacks_dot bytes n s =
    subst (Lacks dot) (sym s.parts)
    (All-append (λ b. (b == dot) ≡ false) s.name (creation_bytes (creation_of n))
    (Lacks-text dot s.name refl s.name_spelled.text) (creation-lacks_dot (creation_of n) (creation_of n == 1) s.fits))

-- the part before the first slash is the name
name_part-creation : (name : List ℕ) (c : ℕ) (t : Bool) → IsText name
    → name_part (name ++ (if t then [] else slash ∷ decimal c)) ≡ name
name_part-creation name c true text =
    let lacks = Lacks-text slash name refl text in
    ap name_part (append-nil name) ∙ front-whole slash name (omega (arith, position-whole slash name lacks))
name_part-creation name c false text = front-parts slash name (decimal c) (Lacks-text slash name refl text)

pub name-is : (bytes : List ℕ) (n : ℕ) (s : SpellsNode bytes n) → name_part bytes ≡ s.name
name-is bytes n s =
    ap name_part s.parts ∙ name_part-creation s.name (creation_of n) (creation_of n == 1) s.name_spelled.text

-- what stands behind a name tells the creation
same_creation : (c d : ℕ) (t u : Bool) → (c == 1) ≡ t → (d == 1) ≡ u → c < 2 ^ 32 → d < 2 ^ 32
    → (if t then [] else slash ∷ decimal c) ≡ (if u then [] else slash ∷ decimal d) → c ≡ d
same_creation c d true true e f c_fits d_fits same = eqb-true c 1 e ∙ sym (eqb-true d 1 f)
same_creation c d true false e f c_fits d_fits same = absurd (cc same)
same_creation c d false true e f c_fits d_fits same = absurd (cc same)
same_creation c d false false e f c_fits d_fits same =
    let digits : decimal c ≡ decimal d = cc same in
    decimal_injective c d (omega (arith, c_fits)) (omega (arith, d_fits)) digits

-- a text spells one node
one_value : (bytes : List ℕ) (m n : ℕ) → SpellsNode bytes m → SpellsNode bytes n → m ≡ n
one_value bytes m n s t =
    let names : s.name ≡ t.name = sym (name-is bytes m s) ∙ name-is bytes n t in
    let first : name_of m ≡ name_of n =
    s.name_spelled.number ∙ (ap (λ (bs : List ℕ). first_node (text_of bs)) names ∙ sym t.name_spelled.number) in
    let behind : creation_bytes (creation_of m) ≡ creation_bytes (creation_of n) =
    append_cancel_left t.name _ _
    (ap (λ (bs : List ℕ). bs ++ creation_bytes (creation_of m)) (sym names) ∙ (sym s.parts ∙ t.parts)) in
    let creation : creation_of m ≡ creation_of n =
    same_creation (creation_of m) (creation_of n) _ _ refl refl s.fits t.fits behind in
    omega (arith, of_both m, of_both n, first, creation)

-- a node has one text
one_text : (bytes others : List ℕ) (n : ℕ) → SpellsNode bytes n → SpellsNode others n → bytes ≡ others
one_text bytes others n s t =
    let names : s.name ≡ t.name = exact_node_names.one_text s.name t.name (name_of n) s.name_spelled t.name_spelled in
    s.parts ∙ (ap (λ (bs : List ℕ). bs ++ creation_bytes (creation_of n)) names ∙ sym t.parts)

-- a text that spells a node has a name in front
pub name_part-text : (bytes : List ℕ) (n : ℕ) → SpellsNode bytes n → IsText (name_part bytes)
name_part-text bytes n s = subst IsText (sym (name-is bytes n s)) s.name_spelled.text

-- a text that spells a node is refused for no fault
pub never_both : (bytes : List ℕ) (n : ℕ) (f : TextFault) → SpellsNode bytes n → RefusesNode bytes f → ⊥
never_both bytes n BadCreation s r = r.1 n s
never_both bytes n Empty s r = texts.text-refused (name_part bytes) Empty (name_part-text bytes n s) r
never_both bytes n TooLong s r = texts.text-refused (name_part bytes) TooLong (name_part-text bytes n s) r
never_both bytes n (BadByte p) s r = texts.text-refused (name_part bytes) (BadByte p) (name_part-text bytes n s) r
never_both bytes n BadSerial s r = r
never_both bytes n BadRule s r = r
never_both bytes n TooManyNodes s r = r

-- a refused text has a bad creation behind a name, or its first part is refused as a name
part-refused : (bytes : List ℕ) (f : TextFault) → RefusesNode bytes f
    → (IsText (name_part bytes) × (f ≡ BadCreation)) ⊎ RefusesText (name_part bytes) f
part-refused bytes BadCreation r = inl (r.0, refl)
part-refused bytes Empty r = inr r
part-refused bytes TooLong r = inr r
part-refused bytes (BadByte p) r = inr r
part-refused bytes BadSerial r = absurd r
part-refused bytes BadRule r = absurd r
part-refused bytes TooManyNodes r = absurd r

-- a text is refused as a node for one fault
pub one_fault : (bytes : List ℕ) (f g : TextFault) → RefusesNode bytes f → RefusesNode bytes g → f ≡ g
one_fault bytes f g r t =
    elim (part-refused bytes f r) [
      | inl a ↦ elim (part-refused bytes g t) [
        | inl b ↦ a.1 ∙ sym b.1
        | inr y ↦ absurd (texts.text-refused (name_part bytes) g a.0 y)
      ]
      | inr x ↦ elim (part-refused bytes g t) [
        | inl b ↦ absurd (texts.text-refused (name_part bytes) f b.0 x)
        | inr y ↦ texts.one_fault (name_part bytes) f g x y
      ]
    ]

-- a text whose first part is refused as a name is refused as a node
pub refused-name : (bytes : List ℕ) (f : TextFault) → RefusesText (name_part bytes) f → RefusesNode bytes f
refused-name bytes Empty r = r
refused-name bytes TooLong r = r
refused-name bytes (BadByte p) r = r
refused-name bytes BadCreation r = absurd r
refused-name bytes BadSerial r = absurd r
refused-name bytes BadRule r = absurd r
refused-name bytes TooManyNodes r = absurd r

-- a name and what stands behind it for a creation spell the node of both
pub spells_both : (bytes name : List ℕ) (v c : ℕ) → SpellsNodeName name v → 1 ≤ c → c < 2 ^ 32
    → bytes ≡ name ++ creation_bytes c → SpellsNode bytes (v + (c - 1))
spells_both bytes name v c s low fits parts =
    subst (λ (x : ℕ). SpellsNode bytes (x + (c - 1))) (sym s.number) (record {
      name = name;
      parts = parts ∙ ap (λ (d : ℕ). name ++ creation_bytes d) (sym creation);
      name_spelled = record { text = s.text; number = name_of-packed (text_of name) (c - 1) (omega arith) };
      fits = subst (λ (d : ℕ). d < 2 ^ 32) (sym creation) fits;
    })
  where
    creation : creation_of (first_node (text_of name) + (c - 1)) ≡ c
    creation = creation_of-packed (text_of name) (c - 1) (omega arith) ∙ omega arith

-- the bytes of a node are those of its name, and what stands behind them for its creation
pub node_bytes-both : (name : List ℕ) (v c : ℕ) → SpellsNodeName name v → 1 ≤ c → c < 2 ^ 32
    → node_bytes (v + (c - 1)) ≡ name ++ creation_bytes c
node_bytes-both name v c s low fits =
    let first = name-first name v s in
    rw (text_in-both v (c - 1) first (omega arith), creation_of-both v c first low fits)
    (ap (λ (bs : List ℕ). bs ++ creation_bytes c) (name_bytes-spells name v s))

-- they spell it
pub node_bytes-spell : (name : List ℕ) (v c : ℕ) → SpellsNodeName name v → 1 ≤ c → c < 2 ^ 32
    → SpellsNode (node_bytes (v + (c - 1))) (v + (c - 1))
node_bytes-spell name v c s low fits =
    spells_both (node_bytes (v + (c - 1))) name v c s low fits (node_bytes-both name v c s low fits)

-- a name alone spells its first node
pub spells_first : (bytes : List ℕ) (v : ℕ) → SpellsNodeName bytes v → SpellsNode bytes v
spells_first bytes v s =
    let zero_more : v + (1 - 1) ≡ v = omega arith in
    subst (SpellsNode bytes) zero_more
    (spells_both bytes bytes v 1 s (omega arith) (omega arith) (sym (append-nil bytes)))

-- what is written behind a slash for a creation from the second on
creation_bytes-later : (c : ℕ) → 2 ≤ c → creation_bytes c ≡ slash ∷ decimal c
creation_bytes-later c later = rw (ne_eqb c 1 (λ e. omega (arith, e, later))) refl

-- a name, a slash and a creation spell the node of both
pub spells_later : (bytes name digits : List ℕ) (v c : ℕ) → SpellsNodeName name v → SpellsCreation digits c
    → bytes ≡ name ++ slash ∷ digits → SpellsNode bytes (v + (c - 1))
spells_later bytes name digits v c s creation parts =
    spells_both bytes name v c s (omega (arith, creation.later)) creation.number.high
    (parts
    ∙ ap (λ (bs : List ℕ). name ++ bs)
    (ap (λ (ds : List ℕ). slash ∷ ds) creation.number.written ∙ sym (creation_bytes-later c creation.later)))

-- what stands behind a slash that spells no creation refuses the whole
pub bad_creation : (bytes name digits : List ℕ) → bytes ≡ name ++ slash ∷ digits → IsText name
    → ((c : ℕ) → SpellsCreation digits c → ⊥) → RefusesNode bytes BadCreation
bad_creation bytes name digits parts text none = (subst IsText (sym first) text, refused)
  where
    first : name_part bytes ≡ name
    first = ap name_part parts ∙ front-parts slash name digits (Lacks-text slash name refl text)

    refused : (n : ℕ) → SpellsNode bytes n → ⊥
    refused n s = tested (creation_of n == 1) refl
      where
        same : s.name ≡ name
        same = sym (name-is bytes n s) ∙ first

        behind : creation_bytes (creation_of n) ≡ slash ∷ digits
        behind =
            append_cancel_left name _ _
            (ap (λ (bs : List ℕ). bs ++ creation_bytes (creation_of n)) (sym same) ∙ (sym s.parts ∙ parts))

        first_only : (c : ℕ) → (c == 1) ≡ false → c ≡ 1 → ⊥
        first_only c e first = cc (e, eq-eqb c 1 first)

        tested : (t : Bool) → (creation_of n == 1) ≡ t → ⊥
        tested true e = let written : [] ≡ slash ∷ digits = rw e at behind in cc written
        tested false e =
            let written : slash ∷ decimal (creation_of n) ≡ slash ∷ digits = rw e at behind in
            let later : 2 ≤ creation_of n = omega (arith, first_only (creation_of n) e, s.fits) in
            none (creation_of n)
            (record { number = record { written = cc written; low = omega arith; high = s.fits }; later = later })

-- each text spells a node or is refused
pub always_either : (bytes : List ℕ) → ((n : ℕ) × SpellsNode bytes n) ⊎ ((f : TextFault) × RefusesNode bytes f)
always_either bytes =
    elim (exact_node_names.always_either (name_part bytes)) [
      | inr refused ↦ inr (refused.0, refused-name bytes refused.0 refused.1)
      | inl name ↦ elim (cases_lt (position_or_len (λ b. b == slash) bytes) (length bytes)) [
        | inr outside ↦ inl (
          name.0,
          spells_first bytes name.0
              (subst (λ (bs : List ℕ). SpellsNodeName bs name.0) (front-whole slash bytes outside) name.1),
        )
        | inl inside ↦ written name.0 name.1 (parts-split slash bytes inside)
            (creation-search (after_first (λ b. b == slash) bytes))
      ]
    ]
  where
    creation-search : (ds : List ℕ) → ((c : ℕ) × SpellsCreation ds c) ⊎ ((c : ℕ) → SpellsCreation ds c → ⊥)
    creation-search ds =
        elim (serial-search ds) [
          | inr none ↦ inr (λ c s. none c s.number)
          | inl found ↦ elim (cases_lt found.0 2) [
            | inr later ↦ inl (found.0, record { number = found.1; later = later })
            | inl first ↦ inr (λ c s. omega (arith, s.later, first, serial-unique ds c found.0 s.number found.1))
          ]
        ]

    written : (v : ℕ) → SpellsNodeName (name_part bytes) v
        → bytes ≡ name_part bytes ++ slash ∷ after_first (λ b. b == slash) bytes
        → ((c : ℕ) × SpellsCreation (after_first (λ b. b == slash) bytes) c)
        ⊎ ((c : ℕ) → SpellsCreation (after_first (λ b. b == slash) bytes) c → ⊥)
        → ((n : ℕ) × SpellsNode bytes n) ⊎ ((f : TextFault) × RefusesNode bytes f)
    written v s parts (inl creation) = inl (
      v + (creation.0 - 1),
      spells_later bytes (name_part bytes) (after_first (λ b. b == slash) bytes) v creation.0 s creation.1 parts,
    )
    written v s parts (inr none) =
        inr (BadCreation, bad_creation bytes (name_part bytes) (after_first (λ b. b == slash) bytes) parts s.text none)

-- nodes are spelled exactly
pub exact_nodes : IsExact SpellsNode RefusesNode
exact_nodes = record {
  one_value = one_value;
  one_text = one_text;
  one_fault = one_fault;
  never_both = never_both;
  always_either = always_either;
}
