-- What the program of a node did by its lines.
use Rattle.std.specs.Prelude.{ℕ, Bool, true, false, ◌≡◌, ◌≢◌, codes, flat_map, List, [], ◌∷◌, ◌++◌, Option, Ok}
use Rattle.std.specs.List.{All}
use Rattle.std.specs.Io.KnownBytes.{Appends}
use Rattle.protocol_model.specs.Event.{Answer as AnyAnswer}
use Rattle.protocol_model.specs.World.{Opening}
use Rattle.text_lines.specs.Lines.{LosesLines, LosesInto, HasNoLine}
use Rattle.text_lines.specs.Writing.{AppendsPart}
use Rattle.text_lines.specs.declared.faults.StreamFault.{StreamFault}
use Rattle.node_loop.specs.declared.edit.Edition.{Edition}
use Rattle.node_loop.specs.declared.edit.Update.{Update}
use Rattle.node_loop.specs.NodeCoreState.{CoreState, fresh}
use Rattle.node_loop.specs.Returning.{IsByName, IsNodeAmong}
use Rattle.term.specs.Nodes.{creation_of}
use Rattle.node_loop.specs.NodeCoreSeen.{node_of}
use Rattle.node_loop.specs.Answers.{LogsAnswer}
use Rattle.node_loop.specs.Coming.{begun, IsLoopOf, IsLoopFrom}
use Rattle.node_loop.specs.Editions.{updated, opening}
use Rattle.node_loop.specs.Held.{Written}
use Rattle.node_loop.specs.Owing.{shown_by}
use Rattle.node_loop.specs.Sound.{IsNodeOf, opened}
use Rattle.node_loop.specs.Told.{Answered}
use Rattle.wire_end.specs.declared.line.LinkLine.{LinkLine}
use Rattle.wire_end.specs.Order.{InOrder, KeepsOwn}
use Rattle.wire_end.specs.Wirings.{begun as begun_end}
use Rattle.node_port.specs.Beginnings.{Beginning, IsBeginning, plain_beginning, core_behind}
use Rattle.node_port.specs.Commands.{IsLinkLine, IsStartedLine}
use Rattle.node_port.specs.Deeds.{Stand}
use Rattle.node_port.specs.Edits.{updates_of}
use Rattle.node_port.specs.Playing.{Printed, printed_text, PlaysAll}
use Rattle.node_port.specs.Shown.{Shown, Stands, Tells, shown_lines}
use Rattle.node_port.specs.Soundness.{IsSoundIn, IsSoundFromIn}
use Rattle.node_port.specs.declared.port.Standing.{Standing}
use Rattle.node_port.specs.declared.port.Standing.TheVariants.{Runs, HasLeft, Broken, Spent}

-- a line of the input is this line of a link, which was taken, or none was
abbrev pub ReadsOne : List ℕ → List (ℕ × LinkLine) → Type 0
ReadsOne bytes [] = Unit {0}
ReadsOne bytes (x ∷ []) = IsLinkLine bytes x.0 x.1
ReadsOne bytes (x ∷ y ∷ xs) = ⊥

-- of these lines those of links that weren't refused were read, in their order
abbrev pub Reads : List (List ℕ) → List (ℕ × LinkLine) → Type 0
Reads [] xs = xs ≡ []
Reads (l ∷ ls) xs = (first : List (ℕ × LinkLine)) × (rest : List (ℕ × LinkLine)) × (xs ≡ first ++ rest) × ReadsOne l first × Reads ls rest

-- what is shown behind updates, one behind the other
abbrev pub shown_behind : Edition → List Update → Edition
shown_behind e [] = e
shown_behind e (u ∷ us) = shown_behind (updated e u) us

-- the updates that were printed, and the letters
abbrev pub all_updates : List Printed → List Update
all_updates out = flat_map (λ p. updates_of p.changes) out

abbrev pub all_letters : List Printed → List ℕ
all_letters out = flat_map (λ p. p.letters) out

abbrev pub all_answers : List Printed → List Shown
all_answers out = flat_map (λ p. p.answers) out

-- an answer to a call was given by a step of the log, with its stamp
abbrev pub IsGiven : Written → Shown → Type 0
IsGiven log (Tells told) = (stamp : ℕ) (answer : AnyAnswer) → told.outcome ≡ Ok (Answered stamp answer) → LogsAnswer log stamp answer
IsGiven log _ = Unit {0}

-- none of these lines says that a node has started
abbrev pub NobodyStarts : List (List ℕ) → Type 0
NobodyStarts lines = All (λ l. (node : ℕ) → IsStartedLine l node → ⊥) lines

-- Where a node that began with this core, behind this stamp, stands so behind these lines, for which so much was printed. In each world that
-- opens so its loop is sound, or ended so, with the letters that its end took and sent, where nobody starts; and in each world of names it is so
-- from its start on, whatever nodes come back. The lines of its links that were read are among these lines, in their order; they spell what came of each other node, and the lines of letters that were printed are those of the letters that were
-- sent. The changes that were printed, one behind the other, make of no table the one that the node has. And each answer that was
-- printed was given by a step of the node's log, with its stamp, and no reply is left that wasn't printed
pub record IsRun (stamp : ℕ) (core : CoreState) (lines : List (List ℕ)) (standing : Standing) (out : List Printed) (b : Stand) : Type 0 where
  pub node : b.end.node ≡ core.name
  pub sound : (o : Opening) → IsNodeOf o core → node_of core ≡ opened o core → NobodyStarts lines → IsSoundIn standing o b
  pub sound_from : (o : Opening) → IsByName o → IsNodeAmong o core
      → IsSoundFromIn standing o (record { node = node_of core; stamp = stamp }) b
  pub read : Reads lines b.end.read
  pub order : InOrder (all_letters out) b.end
  pub own : KeepsOwn b.end
  pub shown : shown_behind (opening core.name) (all_updates out) ≡ shown_by b.loop
  pub came : core.told ≡ [] → NobodyStarts lines → IsLoopOf core.name b.loop
  pub came_from : IsLoopFrom stamp core b.loop
  pub told : b.loop.desk.replies ≡ []
  pub answered : All (IsGiven b.loop.log) (all_answers out)

-- how a node opens by its first line: it founds its cluster; or that tells who has left; or it says anything else, and is done then
pub data Opens : Type 0 where
  Founds : Opens
  Behind : (beginning : Beginning) → Opens
  Plainly : Opens

-- the first line of a node says neither
pub record IsPlain (node : ℕ) (names bytes : List ℕ) : Type 0 where
  pub no_founder : creation_of node ≡ 1 → bytes ≢ codes "founds"
  pub no_word : (b : Beginning) → IsBeginning node names bytes b → ⊥

-- The first of these lines opens a node of a world with these names so, and those are played then. A first node alone can found its cluster
abbrev pub OpensBy : ℕ → List ℕ → List (List ℕ) → Opens → List (List ℕ) → Type 0
OpensBy node names [] Plainly played = played ≡ []
OpensBy node names [] how played = ⊥
OpensBy node names (l ∷ ls) Founds played = (creation_of node ≡ 1) × (l ≡ codes "founds") × (played ≡ ls)
OpensBy node names (l ∷ ls) (Behind b) played = IsBeginning node names l b × (played ≡ ls)
OpensBy node names (l ∷ ls) Plainly played = IsPlain node names l × (played ≡ l ∷ ls)

-- how the node begins then
abbrev pub beginning_of : ℕ → Opens → Beginning
beginning_of node Founds = record { stamp = 0; left = [] }
beginning_of node (Behind b) = b
beginning_of node Plainly = plain_beginning node

-- as it opens: joined with itself where it founds its cluster; and else lone, and told of those that have left
abbrev pub core_of : ℕ → List ℕ → Opens → CoreState
core_of node names Founds = fresh node names (node ∷ []) true
core_of node names how = core_behind node names (beginning_of node how).left

abbrev pub opened_so : ℕ → List ℕ → Opens → Stand
opened_so node names how = record {
  loop = begun (beginning_of node how).stamp (core_of node names how);
  end = begun_end node (core_of node names how).world;
}

-- the first line of a founder is answered by how it stands
abbrev pub first_text : Opens → ℕ → List ℕ
first_text Founds node = shown_lines (Stands true (node ∷ []) ∷ [])
first_text how node = []

-- These lines of the input were played at the node of a world with these names, and so much is printed for them
pub record Done (node : ℕ) (names : List ℕ) (lines : List (List ℕ)) (standing : Standing) (text : List ℕ) : Type 0 where
  pub how : Opens
  pub played : List (List ℕ)
  pub opens : OpensBy node names lines how played
  pub out : List Printed
  pub stand : Stand
  pub plays : PlaysAll played standing (opened_so node names how) out stand
  pub run : IsRun (beginning_of node how).stamp (core_of node names how) played standing out stand
  pub text_is : text ≡ first_text how node ++ flat_map printed_text out

-- why a program ended: its input did, or the node has left, with each line of a link in its place; or one wasn't, or no stamp was left
abbrev pub Ends : Bool → Option (List ℕ) → Standing → Type 0
Ends true rest Runs = HasNoLine rest
Ends true rest HasLeft = Unit {0}
Ends false rest Broken = Unit {0}
Ends false rest Spent = Unit {0}
Ends in_order rest standing = ⊥

-- The program of this node of a world with these names was run by the lines that its input lost, and printed what comes of them: whether each line of a
-- link was the next of it, and each step had a stamp
pub record NodeRan (node : ℕ) (names : List ℕ) (input rest old new : Option (List ℕ)) (in_order : Bool) : Type 0 where
  pub lines : List (List ℕ)
  pub lost : LosesLines input rest lines
  pub standing : Standing
  pub text : List ℕ
  pub done : Done node names lines standing text
  pub wrote : Appends old new text
  pub ended : Ends in_order rest standing

-- It stopped, since lines can't be read or answered: a part of what they print was written
pub record NodeStopped (node : ℕ) (names : List ℕ) (input rest old new : Option (List ℕ)) (fault : StreamFault) : Type 0 where
  pub lines : List (List ℕ)
  pub part : List ℕ
  pub read : LosesInto input rest lines part
  pub standing : Standing
  pub text : List ℕ
  pub done : Done node names lines standing text
  pub wrote : AppendsPart old new text
