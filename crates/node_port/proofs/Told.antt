-- What lines tell, and that others tell nothing.
use Rattle.std.proofs.Common.{ℕ, ◌≡◌, List, ◌∷◌, ◌++◌, codes, arith, sym, subst, ap, ◌∙◌, refl, get_or, Option, Some, None, Result, Ok, Err, MatchOption, MatchResult}
use Rattle.std.proofs.lemmas.List.{append_cancel_left}
use Rattle.term.specs.declared.faults.TextFault.{TextFault}
use Rattle.term.specs.NodeLists.{SpellsNodeSet}
use Rattle.term.specs.Spelling.{SpellsNode, RefusesNode}
use Rattle.term.proofs.OneNode.{exact_nodes}
use Rattle.command_lines.specs.Commands.{unread}
use Rattle.command_lines.specs.declared.faults.LineFault.{LineFault}
use Rattle.letter_lines.specs.declared.faults.LetterFault.{LetterFault}
use Rattle.letter_lines.specs.Grammar.{TextReads}
use Rattle.letter_lines.specs.Laws.{PartsAreExact}
use Rattle.wire_end.specs.declared.line.LinkLine.{LinkLine}
use Rattle.node_port.specs.Numbers.{SpellsNumber, SpellsNoNumber}
use Rattle.node_port.specs.Asking.{Reader}
use Rattle.node_port.specs.Beginnings.{IsBeginText, IsBeginLine}
use Rattle.node_port.specs.Commands.{IsCut, HasNoCut, TellsLine, TellsNoLine, TellsNoPart, IsTagged, HasNoTag, Says, SaysNothing, Refuses, RefusedFor, IsRefused}
use Rattle.node_port.specs.declared.commands.Beginning.{Beginning}
use Rattle.node_port.specs.declared.commands.Command.{Command}
use Rattle.node_port.specs.declared.commands.Refused.{Refused}
use Rattle.node_port.proofs.Cuts.{cut_once}
use Rattle.node_port.proofs.Spaces.{number-lacks, node-lacks}

-- a text that is refused is no part
pub no_part : PartsAreExact → (text : List ℕ) (fault : LetterFault) → TextReads text (Err fault) → TellsNoPart text
no_part exact text fault refused part read = absurd (cc (exact.one_reading text (Err fault) (Ok part) refused read))

-- a text that is refused is no node
pub no_node : (text : List ℕ) (fault : TextFault) → RefusesNode text fault → (node : ℕ) → SpellsNode text node → ⊥
no_node text fault refused node spells = exact_nodes.never_both text node fault spells refused

-- a line of a link is cut behind its number, and behind its stamp
number-cut : (text : List ℕ) (line : LinkLine) (t : TellsLine text line) → IsCut text t.number (t.stamp ++ 32 ∷ t.text)
number-cut text line t = record { is = t.is; first = number-lacks t.number line.number t.place }

stamp-cut : (text : List ℕ) (line : LinkLine) (t : TellsLine text line) → IsCut (t.stamp ++ 32 ∷ t.text) t.stamp t.text
stamp-cut text line t = record { is = refl; first = number-lacks t.stamp line.stamp t.sent }

pub uncut_tells : (text : List ℕ) → HasNoCut text → TellsNoLine text
uncut_tells text none line t = none t.number (t.stamp ++ 32 ∷ t.text) (number-cut text line t)

-- so what stands there are they
module _ (text number rest : List ℕ) (cut : IsCut text number rest) where
  once : (line : LinkLine) (t : TellsLine text line) → (number ≡ t.number) × (rest ≡ t.stamp ++ 32 ∷ t.text)
  once line t = cut_once text number rest t.number (t.stamp ++ 32 ∷ t.text) cut (number-cut text line t)

  pub number_tells : SpellsNoNumber number → TellsNoLine text
  number_tells none line t = none line.number (subst (λ (ds : List ℕ). SpellsNumber ds line.number) (sym (once line t).0) t.place)

  behind : (line : LinkLine) (t : TellsLine text line) → IsCut rest t.stamp t.text
  behind line t = subst (λ (bs : List ℕ). IsCut bs t.stamp t.text) (sym (once line t).1) (stamp-cut text line t)

  pub behind_tells : HasNoCut rest → TellsNoLine text
  behind_tells none line t = none t.stamp t.text (behind line t)

  module _ (stamp last : List ℕ) (next : IsCut rest stamp last) where
    again : (line : LinkLine) (t : TellsLine text line) → (stamp ≡ t.stamp) × (last ≡ t.text)
    again line t = cut_once rest stamp last t.stamp t.text next (behind line t)

    pub stamp_tells : SpellsNoNumber stamp → TellsNoLine text
    stamp_tells none line t = none line.stamp (subst (λ (ds : List ℕ). SpellsNumber ds line.stamp) (sym (again line t).0) t.sent)

    pub part_tells : TellsNoPart last → TellsNoLine text
    part_tells none line t = none line.part (subst (λ (bs : List ℕ). TextReads bs (Ok line.part)) (sym (again line t).1) t.says)

-- lines that begin otherwise are no other lines
first_byte : (bytes : List ℕ) (a b : ℕ) (front back : List ℕ) → bytes ≡ a ∷ front → bytes ≡ b ∷ back → a ≡ b
first_byte bytes a b front back e f = ap (λ (bs : List ℕ). get_or bs 0 0) (sym e ∙ f)

-- a line that begins as one of a link says nothing, where it is none
pub no_letter : (bytes text : List ℕ) → bytes ≡ codes "letter " ++ text
    → ((from : ℕ) (line : LinkLine) (node rest : List ℕ) → text ≡ node ++ 32 ∷ rest → SpellsNode node from → TellsLine rest line → ⊥)
    → SaysNothing bytes
no_letter bytes text is none = record {
  letter = λ from line h.
      none from line h.node h.rest (append_cancel_left (codes "letter ") text (h.node ++ 32 ∷ h.rest) (sym is ∙ h.is)) h.sender h.tells;
  down = λ node h. omega (arith, first_byte bytes 108 100 _ _ is h.is);
  started = λ node h. omega (arith, first_byte bytes 108 115 _ _ is h.is);
  tick = λ e. omega (arith, first_byte bytes 108 116 _ _ is e);
}

-- it is cut behind its sender
sender-cut : (text node rest : List ℕ) (from : ℕ) → text ≡ node ++ 32 ∷ rest → SpellsNode node from → IsCut text node rest
sender-cut text node rest from is sender = record { is = is; first = node-lacks node from sender }

pub uncut_letter : (bytes text : List ℕ) → bytes ≡ codes "letter " ++ text → HasNoCut text → SaysNothing bytes
uncut_letter bytes text is none =
    no_letter bytes text is (λ from line node rest e sender tells. none node rest (sender-cut text node rest from e sender))

module _ (bytes text node rest : List ℕ) (is : bytes ≡ codes "letter " ++ text) (cut : IsCut text node rest) where
  pub sender_letter : ((from : ℕ) → SpellsNode node from → ⊥) → SaysNothing bytes
  sender_letter none =
      no_letter bytes text is (λ from line other behind e sender tells.
      none from (subst (λ (bs : List ℕ). SpellsNode bs from)
      (sym (cut_once text node rest other behind cut (sender-cut text other behind from e sender)).0) sender))

  pub line_letter : TellsNoLine rest → SaysNothing bytes
  line_letter none =
      no_letter bytes text is (λ from line other behind e sender tells.
      none line (subst (λ (bs : List ℕ). TellsLine bs line)
      (sym (cut_once text node rest other behind cut (sender-cut text other behind from e sender)).1) tells))

-- a line that begins as one of a lost node says nothing, where it names none
pub no_down : (bytes text : List ℕ) → bytes ≡ codes "down " ++ text → ((node : ℕ) → SpellsNode text node → ⊥) → SaysNothing bytes
no_down bytes text is none = record {
  letter = λ from line h. omega (arith, first_byte bytes 100 108 _ _ is h.is);
  down = λ node h.
      none node (subst (λ (bs : List ℕ). SpellsNode bs node)
      (sym (append_cancel_left (codes "down ") text h.text (sym is ∙ h.is))) h.spells);
  started = λ node h. omega (arith, first_byte bytes 100 115 _ _ is h.is);
  tick = λ e. omega (arith, first_byte bytes 100 116 _ _ is e);
}

-- nor does one that begins as one of a node that has started
pub no_started : (bytes text : List ℕ) → bytes ≡ codes "started " ++ text → ((node : ℕ) → SpellsNode text node → ⊥) → SaysNothing bytes
no_started bytes text is none = record {
  letter = λ from line h. omega (arith, first_byte bytes 115 108 _ _ is h.is);
  down = λ node h. omega (arith, first_byte bytes 115 100 _ _ is h.is);
  started = λ node h.
      none node (subst (λ (bs : List ℕ). SpellsNode bs node)
      (sym (append_cancel_left (codes "started ") text h.text (sym is ∙ h.is))) h.spells);
  tick = λ e. omega (arith, first_byte bytes 115 116 _ _ is e);
}

-- a text that says who has left is cut behind its stamp
pub begin-cut : (text digits list : List ℕ) (stamp : ℕ) → text ≡ digits ++ 32 ∷ list → SpellsNumber digits stamp → IsCut text digits list
begin-cut text digits list stamp is number = record { is = is; first = number-lacks digits stamp number }

abbrev pub NeverBegins : List ℕ → Type 0
NeverBegins bytes = (stamp : ℕ) (left : List ℕ) → IsBeginText bytes stamp left → ⊥

module _ (bytes text : List ℕ) (is : bytes ≡ codes "behind " ++ text) where
  -- what stands behind its word
  behind_word : (stamp : ℕ) (left : List ℕ) (t : IsBeginText bytes stamp left) → text ≡ t.digits ++ 32 ∷ t.list
  behind_word stamp left t = append_cancel_left (codes "behind ") text (t.digits ++ 32 ∷ t.list) (sym is ∙ t.is)

  pub uncut_begin : HasNoCut text → NeverBegins bytes
  uncut_begin none stamp left t = none t.digits t.list (begin-cut text t.digits t.list stamp (behind_word stamp left t) t.number)

  module _ (digits list : List ℕ) (cut : IsCut text digits list) where
    cut_so : (stamp : ℕ) (left : List ℕ) (t : IsBeginText bytes stamp left) → (digits ≡ t.digits) × (list ≡ t.list)
    cut_so stamp left t =
        cut_once text digits list t.digits t.list cut (begin-cut text t.digits t.list stamp (behind_word stamp left t) t.number)

    pub number_begin : SpellsNoNumber digits → NeverBegins bytes
    number_begin none stamp left t = none stamp (subst (λ (ds : List ℕ). SpellsNumber ds stamp) (sym (cut_so stamp left t).0) t.number)

    pub list_begin : ((nodes : List ℕ) → SpellsNodeSet list nodes → ⊥) → NeverBegins bytes
    list_begin none stamp left t = none left (subst (λ (bs : List ℕ). SpellsNodeSet bs left) (sym (cut_so stamp left t).1) t.listed)

    pub begins_so : (stamp : ℕ) (left : List ℕ) → SpellsNumber digits stamp → SpellsNodeSet list left → IsBeginText bytes stamp left
    begins_so stamp left number listed = record {
      digits = digits;
      list = list;
      is = is ∙ ap (λ (bs : List ℕ). codes "behind " ++ bs) cut.is;
      number = number;
      listed = listed;
    }

-- a line that begins otherwise says nothing of it
pub other_begin : (bytes : List ℕ) → ((rest : List ℕ) → bytes ≡ codes "behind " ++ rest → ⊥) → NeverBegins bytes
other_begin bytes none stamp left t = none (t.digits ++ 32 ∷ t.list) t.is

-- what a text says of a beginning that can be read, its line says
pub begin_said : (bytes text : List ℕ) (r : Option Beginning) → text ≡ bytes → unread bytes ≡ None
    → MatchOption r (NeverBegins text) (λ b. IsBeginText text b.stamp b.left)
    → MatchOption r ((stamp : ℕ) (left : List ℕ) → IsBeginLine bytes stamp left → ⊥) (λ b. IsBeginLine bytes b.stamp b.left)
begin_said bytes text None same e h = λ stamp left l. h stamp left (subst (λ (bs : List ℕ). IsBeginText bs stamp left) (sym same) l.1)
begin_said bytes text (Some b) same e h = (e, subst (λ (bs : List ℕ). IsBeginText bs b.stamp b.left) same h)

-- a line that can't be read says nothing of one
pub unread_begin : (bytes : List ℕ) (fault : LineFault) → unread bytes ≡ Some fault → (stamp : ℕ) (left : List ℕ) → IsBeginLine bytes stamp left → ⊥
unread_begin bytes fault e stamp left l = cc (e, l.0)

-- a tagged line is cut behind its tag
tag-cut : (bytes : List ℕ) (tag : ℕ) (text : List ℕ) (t : IsTagged bytes tag text) → IsCut bytes t.digits text
tag-cut bytes tag text t = record { is = t.is; first = number-lacks t.digits tag t.number }

pub uncut_tag : (bytes : List ℕ) → HasNoCut bytes → HasNoTag bytes
uncut_tag bytes none tag text t = none t.digits text (tag-cut bytes tag text t)

pub no_tag : (bytes front back : List ℕ) → IsCut bytes front back → SpellsNoNumber front → HasNoTag bytes
no_tag bytes front back cut none tag text t =
    none tag (subst (λ (ds : List ℕ). SpellsNumber ds tag)
    (sym (cut_once bytes front back t.digits text cut (tag-cut bytes tag text t)).0) t.number)

-- what a text says that can be read, its line says
pub read_said : (reader : Reader) (bytes text : List ℕ) (r : Result Command Refused) → text ≡ bytes → unread bytes ≡ None
    → MatchResult r (Says reader text) (λ refused. Refuses text refused.tag) → MatchResult r (Says reader bytes) (IsRefused bytes)
read_said reader bytes text (Ok command) same e h = subst (λ (bs : List ℕ). Says reader bs command) same h
read_said reader bytes text (Err refused) same e h =
    subst (λ (u : Option LineFault). RefusedFor u bytes refused) (sym e)
    (subst (λ (bs : List ℕ). Refuses bs refused.tag) same h)
