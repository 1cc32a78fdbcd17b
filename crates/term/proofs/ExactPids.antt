-- Processes are spelled and refused exactly.
use Rattle.std.proofs.Common.{◌≡◌, ℕ, ◌≤◌, ◌==◌, ◌⊎◌, inl, inr, List, ◌∷◌, ◌++◌, length, arith, subst, sym, ◌∙◌, ap, refl, length-append}
use Rattle.std.proofs.lemmas.Bool.{cases_lt}
use Rattle.std.specs.List.{after_first, position_or_len}
use Rattle.registry_model.specs.Process.{Process}
use Rattle.term.specs.declared.faults.TextFault.{TextFault}
use Rattle.term.specs.declared.faults.TextFault.TheVariants.{Empty, TooLong, BadByte, BadCreation, BadSerial, BadRule, TooManyNodes}
use Rattle.term.specs.Laws.{IsExact}
use Rattle.term.specs.Spelling.{IsNodeText, SpellsNode, RefusesNode, SpellsSerial, SpellsPid, RefusesPid, node_part, dot}
use Rattle.term.proofs.OneNode as nodes
use Rattle.term.proofs.Parts.{front-parts, behind-parts, position-parts, parts-split}
use Rattle.term.proofs.Serials.{serial-unique, serial-search}

-- the node is the part before the first dot
node-is : (bytes : List ℕ) (p : Process) (s : SpellsPid bytes p) → node_part bytes ≡ s.node
node-is bytes p s =
    ap node_part s.parts ∙ front-parts dot s.node s.digits (nodes.node-lacks_dot s.node p.node s.node_spelled)

-- the digits are the part behind it
digits-is : (bytes : List ℕ) (p : Process) (s : SpellsPid bytes p) → after_first (λ b. b == dot) bytes ≡ s.digits
digits-is bytes p s =
    ap (after_first (λ b. b == dot)) s.parts
    ∙ behind-parts dot s.node s.digits (nodes.node-lacks_dot s.node p.node s.node_spelled)

-- that part spells the node
node_part-spells : (bytes : List ℕ) (p : Process) → SpellsPid bytes p → SpellsNode (node_part bytes) p.node
node_part-spells bytes p s = subst (λ (bs : List ℕ). SpellsNode bs p.node) (sym (node-is bytes p s)) s.node_spelled

-- the part behind the first dot spells the serial
after_first-spells : (bytes : List ℕ) (p : Process) → SpellsPid bytes p
    → SpellsSerial (after_first (λ b. b == dot) bytes) p.serial
after_first-spells bytes p s =
    subst (λ (bs : List ℕ). SpellsSerial bs p.serial) (sym (digits-is bytes p s)) s.serial_spelled

-- digits behind the first dot that spell no serial refuse the whole
pub bad_serial-split : (bytes node digits : List ℕ) → node ≡ node_part bytes → digits ≡ after_first (λ b. b == dot) bytes
    → IsNodeText node → ((n : ℕ) → SpellsSerial digits n → ⊥) → RefusesPid bytes BadSerial
bad_serial-split bytes node digits node_is digits_is t none = (
  subst IsNodeText node_is t,
  λ p s. none p.serial
      (subst (λ (bs : List ℕ). SpellsSerial bs p.serial) (sym digits_is) (after_first-spells bytes p s)),
)

-- a text with no dot spells no process
pub bad_serial-whole : (bytes : List ℕ) → length bytes ≤ position_or_len (λ b. b == dot) bytes
    → IsNodeText (node_part bytes) → RefusesPid bytes BadSerial
bad_serial-whole bytes no_dot t = (t, refused)
  where
    refused : (p : Process) → SpellsPid bytes p → ⊥
    refused p s =
        let first : position_or_len (λ b. b == dot) bytes ≡ length s.node =
        ap (position_or_len (λ b. b == dot)) s.parts
        ∙ position-parts dot s.node s.digits (nodes.node-lacks_dot s.node p.node s.node_spelled) in
        let long : length bytes ≡ length (s.node ++ dot ∷ s.digits) = ap length s.parts in
        omega (arith, first, long, no_dot, length-append s.node (dot ∷ s.digits))

-- two processes of one node and one serial are one
same_process : (p q : Process) → p.node ≡ q.node → p.serial ≡ q.serial → p ≡ q
same_process p q e f = λ i. record { node = e i; serial = f i }

-- a text spells one process
one_value : (bytes : List ℕ) (p q : Process) → SpellsPid bytes p → SpellsPid bytes q → p ≡ q
one_value bytes p q s t =
    same_process p q
    (nodes.exact_nodes.one_value (node_part bytes) p.node q.node (node_part-spells bytes p s)
    (node_part-spells bytes q t))
    (serial-unique (after_first (λ b. b == dot) bytes) p.serial q.serial (after_first-spells bytes p s)
    (after_first-spells bytes q t))

-- a process has one text
one_text : (bytes others : List ℕ) (p : Process) → SpellsPid bytes p → SpellsPid others p → bytes ≡ others
one_text bytes others p s t =
    let same : s.node ≡ t.node = nodes.exact_nodes.one_text s.node t.node p.node s.node_spelled t.node_spelled in
    let digits : s.digits ≡ t.digits = s.serial_spelled.written ∙ sym t.serial_spelled.written in
    cc (same, digits, s.parts, t.parts)

-- a text that spells a process is refused for no fault
never_both : (bytes : List ℕ) (p : Process) (f : TextFault) → SpellsPid bytes p → RefusesPid bytes f → ⊥
never_both bytes p BadSerial s r = r.1 p s
never_both bytes p TooManyNodes s r = r
never_both bytes p BadRule s r = r
never_both bytes p Empty s r = nodes.never_both (node_part bytes) p.node Empty (node_part-spells bytes p s) r
never_both bytes p TooLong s r = nodes.never_both (node_part bytes) p.node TooLong (node_part-spells bytes p s) r
never_both bytes p (BadByte k) s r = nodes.never_both (node_part bytes) p.node (BadByte k) (node_part-spells bytes p s)
    r
never_both bytes p BadCreation s r = nodes.never_both (node_part bytes) p.node BadCreation (node_part-spells bytes p s)
    r

-- a refused text has a bad serial behind a node, or its first part is refused as a node
part-refused : (bytes : List ℕ) (f : TextFault) → RefusesPid bytes f
    → (IsNodeText (node_part bytes) × (f ≡ BadSerial)) ⊎ RefusesNode (node_part bytes) f
part-refused bytes BadSerial r = inl (r.0, refl)
part-refused bytes Empty r = inr r
part-refused bytes TooLong r = inr r
part-refused bytes (BadByte k) r = inr r
part-refused bytes BadCreation r = inr r
part-refused bytes TooManyNodes r = absurd r
part-refused bytes BadRule r = absurd r

-- a text is refused as a process for one fault
one_fault : (bytes : List ℕ) (f g : TextFault) → RefusesPid bytes f → RefusesPid bytes g → f ≡ g
one_fault bytes f g r t =
    elim (part-refused bytes f r) [
      | inl a ↦ elim (part-refused bytes g t) [
        | inl b ↦ a.1 ∙ sym b.1
        | inr y ↦ absurd (nodes.never_both (node_part bytes) a.0.0 g a.0.1 y)
      ]
      | inr x ↦ elim (part-refused bytes g t) [
        | inl b ↦ absurd (nodes.never_both (node_part bytes) b.0.0 f b.0.1 x)
        | inr y ↦ nodes.one_fault (node_part bytes) f g x y
      ]
    ]

-- a text whose first part is refused as a node is refused as a process
pub refused-part : (bytes : List ℕ) (f : TextFault) → RefusesNode (node_part bytes) f → RefusesPid bytes f
refused-part bytes BadSerial r = absurd r
refused-part bytes Empty r = r
refused-part bytes TooLong r = r
refused-part bytes (BadByte k) r = r
refused-part bytes BadCreation r = r
refused-part bytes TooManyNodes r = r
refused-part bytes BadRule r = r

-- each text spells a process or is refused
always_either : (bytes : List ℕ) → ((p : Process) × SpellsPid bytes p) ⊎ ((f : TextFault) × RefusesPid bytes f)
always_either bytes =
    elim (nodes.always_either (node_part bytes)) [
      | inr refused ↦ inr (refused.0, refused-part bytes refused.0 refused.1)
      | inl node ↦ elim (cases_lt (position_or_len (λ b. b == dot) bytes) (length bytes)) [
        | inr outside ↦ inr (BadSerial, bad_serial-whole bytes outside node)
        | inl inside ↦ elim (serial-search (after_first (λ b. b == dot) bytes)) [
          | inl serial ↦ inl (
            record { node = node.0; serial = serial.0 },
            record {
              node = node_part bytes;
              digits = after_first (λ b. b == dot) bytes;
              parts = parts-split dot bytes inside;
              node_spelled = node.1;
              serial_spelled = serial.1;
            },
          )
          | inr none ↦ inr (
            BadSerial,
            bad_serial-split bytes (node_part bytes) (after_first (λ b. b == dot) bytes) refl refl node none,
          )
        ]
      ]
    ]

-- processes are spelled exactly
pub exact_pids : IsExact SpellsPid RefusesPid
exact_pids = record {
  one_value = one_value;
  one_text = one_text;
  one_fault = one_fault;
  never_both = never_both;
  always_either = always_either;
}
