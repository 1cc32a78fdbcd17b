-- What is shown of a node.
use Rattle.std.proofs.Common.{ℕ, Bool, true, false, List, [], ◌∷◌, ◌≡◌, Option, Some, None, refl, sym, ap, subst, ◌∙◌, append-nil, Result, Ok, Err, String, Global, string_bytes}
use Rattle.std.proofs.lemmas.Result.{IfOk-weaker}
use Rattle.std.proofs.Math.Bool.{and-true}
use Rattle.std.specs.Prelude.{not, is_some, option_map, IfOk, if◌then◌else◌}
use Rattle.std.specs.List.{list_all}
use Rattle.std.specs.Io.KnownBytes.{Appends}
use Rattle.registry_model.specs.Table.{Table}
use Rattle.protocol_model.specs.Event.{NoSuchNode, NodeLeft}
use Rattle.protocol_model.specs.World.{left}
use Rattle.protocol_model.specs.NamedEvents.{Plain, NamedLine, NamedOutput, Error, TableIs, MembersAre}
use Rattle.term.specs.Nodes.{text_in}
use Rattle.term.specs.NodeSets.{set_of, IsNodeSet}
use Rattle.cluster_world.specs.NodeCoreState.{AreOf}
use Rattle.cluster_world.specs.NodeNames.{is_name}
use Rattle.cluster_world.specs.NamedScript.{shown_at}
use Rattle.cluster_world.specs.WorldState.{WorldState, nodes_of as nodes_in}
use Rattle.cluster_world.specs.Seen.{names_of, named}
use Rattle.command_lines.specs.Grammar.{Scripted}
use Rattle.command_lines.specs.Printing.{output_line, error_line, refusal_word, is_fine, is_fine_output, shown_text, Shown, Shows}
use Rattle.text_lines.specs.declared.faults.WriteFault.{WriteFault}
use Rattle.text_lines.specs.Writing.{AppendsPart, Writes}
use Rattle.cluster_script.specs.Script.{Plays, shown, behind, made_of}
use Rattle.cluster_script.specs.Played.{IsShown, PlaysAsked, shown_on, text_for, has_line, node_at, table_of, members_of}
use Rattle.cluster_script.proofs.Nodes.{nodes_of-listed}
use Rattle.cluster_script.proofs.Playing.{refused-memory}

module _ (h : WorldState) (x : ℕ) (output : NamedOutput) where
  -- what is shown, by whether there is such a name, and its node has left
  abbrev by : Bool → Bool → NamedOutput
  by known gone = if not known then Error (Plain NoSuchNode) else (if gone then Error (Plain NodeLeft) else output)

  shown_by : (known gone : Bool) → is_name (names_of h) (text_in x) ≡ known → left (named h).world (node_at h x) ≡ gone
      → by known gone ≡ shown_at (names_of h) (named h) (text_in x) output
  shown_by known gone k g = ap (λ (b : Bool). by b gone) (sym k)
      ∙ ap (λ (b : Bool). by (is_name (names_of h) (text_in x)) b) (sym g)

  -- there is no such name
  pub IsShown-none : is_name (names_of h) (text_in x) ≡ false → IsShown h x output None
  IsShown-none k =
      let shown = shown_by false (left (named h).world (node_at h x)) k refl in record {
        text = ap (λ (b : Bool). error_line (refusal_word (if b then Plain NodeLeft else Plain NoSuchNode))) k
            ∙ ap output_line shown;
        fine = ap is_fine_output shown;
      }

  -- its node has left
  pub IsShown-left : is_name (names_of h) (text_in x) ≡ true → left (named h).world (node_at h x) ≡ true → IsShown h x output None
  IsShown-left k g =
      let shown = shown_by true true k g in record {
        text = ap (λ (b : Bool). error_line (refusal_word (if b then Plain NodeLeft else Plain NoSuchNode))) k
            ∙ ap output_line shown;
        fine = ap is_fine_output shown;
      }

  -- a running node is shown
  pub IsShown-some : (line : List ℕ) → is_name (names_of h) (text_in x) ≡ true → left (named h).world (node_at h x) ≡ false
      → is_fine_output output ≡ true → line ≡ output_line output → IsShown h x output (Some line)
  IsShown-some line k g f l =
      let shown = shown_by true false k g in record {
        text = l ∙ ap output_line shown;
        fine = sym f ∙ ap is_fine_output shown;
      }

-- the node of a name has left, or stays
pub left_at : (h : WorldState) (x n : ℕ) (b : Bool) → n ≡ node_at h x → left (named h).world n ≡ b → left (named h).world (node_at h x) ≡ b
left_at h x n b e g = ap (λ (m : ℕ). left (named h).world m) (sym e) ∙ g

-- its table is shown
pub IsShown-table : (h : WorldState) (x n : ℕ) (t : Table) (line : List ℕ) → is_name (names_of h) (text_in x) ≡ true
    → n ≡ node_at h x → left (named h).world n ≡ false → t ≡ ((named h).world.node n).replica.table
    → line ≡ output_line (TableIs t) → IsShown h x (table_of h x) (Some line)
IsShown-table h x n t line k e g q l = IsShown-some h x (table_of h x) line k (left_at h x n false e g) refl
    (l ∙ ap (λ (u : Table). output_line (TableIs u)) (q ∙ ap (λ (m : ℕ). ((named h).world.node m).replica.table) e))

-- its members are shown
pub IsShown-members : (h : WorldState) (x n : ℕ) (xs : List ℕ) (line : List ℕ) → is_name (names_of h) (text_in x) ≡ true
    → n ≡ node_at h x → left (named h).world n ≡ false → IsNodeSet xs → AreOf (nodes_in h) xs
    → set_of xs ≡ ((named h).world.node n).replica.members → line ≡ output_line (MembersAre xs)
    → IsShown h x (members_of h x) (Some line)
IsShown-members h x n xs line k e g set within q l =
    IsShown-some h x (members_of h x) line k (left_at h x n false e g) refl
    (l ∙ ap (λ (cs : List ℕ). output_line (MembersAre cs))
    (sym (nodes_of-listed h xs ((named h).world.node (node_at h x)).replica.members set within
    (q ∙ ap (λ (m : ℕ). ((named h).world.node m).replica.members) e))))

-- a line that prints one output and plays nothing was played, where that was written
module _ (h : WorldState) (l : NamedLine) (x : NamedOutput) (s : shown (names_of h) (named h) (Plays l) ≡ Shows x ∷ [])
    (same : behind (names_of h) (named h) (Plays l) ≡ named h) (a b : Option (List ℕ)) where
  text_of : output_line x ≡ shown_on h (Plays l)
  text_of = sym (append-nil (output_line x)) ∙ sym (ap shown_text s)

  pub PlaysAsked-shown : (r : Result Bool WriteFault) → Writes a b r (output_line x)
      → IfOk r (λ fine. fine ≡ is_fine_output x) → PlaysAsked (Ok (Scripted l)) h h a b r
  PlaysAsked-shown (Err f) w q = (Plays l, refl, subst (λ (t : List ℕ). AppendsPart a b t) text_of w)
  PlaysAsked-shown (Ok fine) w q = (
    Plays l,
    refl,
    record {
      opening = refl;
      world = sym same;
      wrote = subst (λ (t : List ℕ). Appends a b t) text_of w;
      fine_is = q ∙ sym (and-true (is_fine_output x)) ∙ sym (ap (λ (ss : List Shown). list_all is_fine ss) s);
    },
  )

-- what is shown of a name's node was written, or why it isn't
pub PlaysAsked-node : {E : Type 0} (h : WorldState) (x : ℕ) (output : NamedOutput) (l : NamedLine) (line : Result (Option (String Global)) E)
    → shown (names_of h) (named h) (Plays l) ≡ Shows (shown_at (names_of h) (named h) (text_in x) output) ∷ []
    → behind (names_of h) (named h) (Plays l) ≡ named h
    → (old new : Option (List ℕ)) (r : Result Bool WriteFault)
    → IfOk line (λ line. IsShown h x output (option_map string_bytes line))
    → Writes old new r (text_for h x (made_of (option_map string_bytes) line)) → IfOk r (λ fine. fine ≡ has_line line)
    → PlaysAsked (Ok (Scripted l)) h h old new r
PlaysAsked-node h x output l (Err f) s same old new r i w q = refused-memory (Ok (Scripted l)) h h old new r refl refl w q
PlaysAsked-node h x output l (Ok line) s same old new r i w q =
    PlaysAsked-shown h l (shown_at (names_of h) (named h) (text_in x) output) s same old new r
    (subst (λ (t : List ℕ). Writes old new r t) i.text w)
    (IfOk-weaker r _ _ (λ fine e. e ∙ sym (some_map line) ∙ i.fine) q)
  where
    some_map : (line : Option (String Global)) → is_some (option_map string_bytes line) ≡ is_some line
    some_map None = refl
    some_map (Some text) = refl
