-- The lines of the grammar: the word of each, the kinds of its texts, and what it asks for.
use Rattle.std.specs.Prelude.{ℕ, Bool, true, false, bytes_eq, codes, ◌≡◌, ◌&&◌, ◌⊎◌, List, [], ◌∷◌, Option, Some, None, Result, Ok, Err}
use Rattle.std.specs.List.{find}
use Rattle.registry_model.specs.Process.{Process, Text as AText}
use Rattle.registry_model.specs.Table.{Pair}
use Rattle.registry_model.specs.Call.{Register, ReRegister, Unregister, Whereis, RegisteredNames, NoticesOf}
use Rattle.protocol_model.specs.Event.{Event, Calling, Retry, Exiting, Leave, Call, Spawn, OnName, LookUp, SetLock, DelLock, JoinBy}
use Rattle.protocol_model.specs.Node.{Target, Retries as Tries}
use Rattle.protocol_model.specs.NamedEvents.{NamedLine, Play, Settle, TableAt, MembersAt, At, AtNode, Deliver, Restart}
use Rattle.term.specs.declared.faults.TextFault.{TextFault}
use Rattle.term.specs.Nodes.{text_in}
use Rattle.term.specs.declared.rule.Rule.{Rule as ARule}
use Rattle.term.specs.declared.rule.Rule.TheVariants.{Exit}
use Rattle.term.specs.Rules.{rule_of, SpellsRule, RefusesRule}
use Rattle.term.specs.Spelling.{SpellsText, RefusesText, SpellsNodeName, SpellsNode, RefusesNode, SpellsPid, RefusesPid}
use Rattle.command_lines.specs.declared.faults.LineFault.{LineFault}
use Rattle.command_lines.specs.declared.faults.LineFault.TheVariants.{BadLine, Text}
use Rattle.command_lines.specs.LockTexts.{SpellsTarget, RefusesTarget, SpellsRetries}

-- what a text can stand for
pub data Kind : Type 0 where
  Node : Kind  -- by its name: the present node of it
  Contact : Kind  -- a node that is asked to take another in
  Name : Kind
  Pid : Kind
  Rule : Kind  -- what becomes of a name in a clash
  Resource : Kind
  Requester : Kind
  Nodes : Kind  -- whom a lock call asks
  Retries : Kind  -- how often it may begin anew

-- the values of a kind
abbrev pub Value : Kind → Type 0
Value Node = ℕ
Value Contact = ℕ
Value Name = ℕ
Value Pid = Process
Value Rule = ARule
Value Resource = AText
Value Requester = AText
Value Nodes = Target
Value Retries = Tries

-- the text spells this value
abbrev pub Spells : (k : Kind) → List ℕ → Value k → Type 0
Spells Node text v = SpellsNodeName text v
Spells Contact text v = SpellsNode text v
Spells Name text v = SpellsText text v
Spells Pid text v = SpellsPid text v
Spells Rule text v = SpellsRule text v
Spells Resource text v = SpellsText text v
Spells Requester text v = SpellsNodeName text v
Spells Nodes text v = SpellsTarget text v
Spells Retries text v = SpellsRetries text v

-- the text spells no value, for this fault; a text of retries has none
abbrev pub RefusedAs : Kind → List ℕ → TextFault → Type 0
RefusedAs Node text f = RefusesText text f
RefusedAs Contact text f = RefusesNode text f
RefusedAs Name text f = RefusesText text f
RefusedAs Pid text f = RefusesPid text f
RefusedAs Rule text f = RefusesRule text f
RefusedAs Resource text f = RefusesText text f
RefusedAs Requester text f = RefusesText text f
RefusedAs Nodes text f = RefusesTarget text f
RefusedAs Retries text f = ⊥

-- what a line of a script asks for: what a line of the protocol's scripts does, or that the world is finished
pub data ScriptLine : Type 0 where
  Scripted : (line : NamedLine) → ScriptLine
  Finish : ScriptLine

-- what is asked for, by the values of texts of these kinds
abbrev pub Asks : List Kind → Type 0
Asks [] = ScriptLine
Asks (k ∷ ks) = Value k → Asks ks

-- a line of the grammar
pub record Row : Type 0 where
  pub word : List ℕ
  pub texts : List Kind
  pub asks : Asks texts

-- the line of this word
abbrev pub row : List ℕ → (texts : List Kind) → Asks texts → Row
row word texts asks = record { word = word; texts = texts; asks = asks }

-- an event at a node
abbrev pub at_node : ℕ → Event → ScriptLine
at_node n e = Scripted (Play (AtNode n e))

-- a call at a node
abbrev pub call_at : ℕ → Call → ScriptLine
call_at n c = at_node n (Calling c)

-- an event at the present node of a name
abbrev pub at_name : ℕ → Event → ScriptLine
at_name n e = Scripted (Play (At (text_in n) e))

-- a call there
abbrev pub call_to : ℕ → Call → ScriptLine
call_to n c = at_name n (Calling c)

-- a name for a process, under this rule
abbrev pub pair_for : ℕ → Process → ARule → Pair
pair_for x p rule = record { name = x; owner = p; rule = rule_of rule }

-- all lines of the grammar; where a line may have a rule and has none, that is `exit`
abbrev pub grammar : List Row
grammar =
    row (codes "spawn") (Node ∷ []) (λ n. call_to n Spawn)
    ∷ row (codes "exit") (Pid ∷ []) (λ p. at_node p.node (Exiting p))
    ∷ row (codes "register") (Node ∷ Name ∷ Pid ∷ []) (λ n x p. call_to n (OnName (Register (pair_for x p Exit))))
    ∷ row (codes "register") (Node ∷ Name ∷ Pid ∷ Rule ∷ []) (λ n x p r. call_to n (OnName (Register (pair_for x p r))))
    ∷ row (codes "re_register") (Node ∷ Name ∷ Pid ∷ []) (λ n x p. call_to n (OnName (ReRegister (pair_for x p Exit))))
    ∷ row (codes "re_register") (Node ∷ Name ∷ Pid ∷ Rule ∷ []) (λ n x p r. call_to n (OnName (ReRegister (pair_for x p r))))
    ∷ row (codes "unregister") (Node ∷ Name ∷ []) (λ n x. call_to n (OnName (Unregister x)))
    ∷ row (codes "whereis") (Node ∷ Name ∷ []) (λ n x. call_to n (LookUp (Whereis x)))
    ∷ row (codes "names") (Node ∷ []) (λ n. call_to n (LookUp RegisteredNames))
    ∷ row (codes "notices") (Pid ∷ []) (λ p. call_at p.node (LookUp (NoticesOf p)))
    ∷ row (codes "set_lock") (Pid ∷ Resource ∷ Requester ∷ Nodes ∷ Retries ∷ [])
    (λ p r q t n. call_at p.node (SetLock p r q t n))
    ∷ row (codes "del_lock") (Pid ∷ Resource ∷ Requester ∷ Nodes ∷ []) (λ p r q t. call_at p.node (DelLock p r q t))
    ∷ row (codes "join") (Node ∷ Contact ∷ []) (λ n m. call_to n (JoinBy m))
    ∷ row (codes "deliver") (Node ∷ Node ∷ []) (λ f t. Scripted (Play (Deliver (text_in f) (text_in t))))
    ∷ row (codes "retry") (Node ∷ []) (λ n. at_name n Retry)
    ∷ row (codes "leave") (Node ∷ []) (λ n. at_name n Leave)
    ∷ row (codes "restart") (Node ∷ []) (λ n. Scripted (Play (Restart (text_in n))))
    ∷ row (codes "settle") [] (Scripted Settle)
    ∷ row (codes "finish") [] Finish
    ∷ row (codes "members") (Node ∷ []) (λ n. Scripted (MembersAt (text_in n)))
    ∷ row (codes "table") (Node ∷ []) (λ n. Scripted (TableAt (text_in n)))
    ∷ []

-- texts of these kinds spell values by which this is asked for
abbrev pub AllSpelled : (kinds : List Kind) → Asks kinds → List (List ℕ) → Result ScriptLine LineFault → Type 0
AllSpelled [] line [] r = r ≡ Ok line
AllSpelled (k ∷ kinds) asks (text ∷ texts) r = (v : Value k) × Spells k text v × AllSpelled kinds (asks v) texts r
AllSpelled _ _ _ r = ⊥

-- this is the fault of the first of these texts that spells no value
abbrev pub FirstRefused : List Kind → List (List ℕ) → TextFault → Type 0
FirstRefused (k ∷ kinds) (text ∷ texts) f =
    RefusedAs k text f ⊎ ((v : Value k) × Spells k text v × FirstRefused kinds texts f)
FirstRefused _ _ f = ⊥

-- what texts of these kinds ask for: they are read from left to right, and the first fault counts
abbrev pub TextsAsk : (kinds : List Kind) → Asks kinds → List (List ℕ) → Result ScriptLine LineFault → Type 0
TextsAsk kinds asks texts r =
    AllSpelled kinds asks texts r ⊎ ((f : TextFault) × FirstRefused kinds texts f × (r ≡ Err (Text f)))

-- each text of retries spells them
abbrev pub HasRetries : List Kind → List (List ℕ) → Type 0
HasRetries (Retries ∷ kinds) (text ∷ texts) = ((r : Tries) × SpellsRetries text r) × HasRetries kinds texts
HasRetries (k ∷ kinds) (text ∷ texts) = HasRetries kinds texts
HasRetries _ _ = Unit {0}

-- there are as many texts as a line of these kinds has
abbrev pub fits : List Kind → List (List ℕ) → Bool
fits [] [] = true
fits (k ∷ kinds) (text ∷ texts) = fits kinds texts
fits _ _ = false

-- the line with this word and as many texts, if there is one
abbrev pub row_of : List ℕ → List (List ℕ) → List Row → Option Row
row_of word texts rows = find (λ row. fits row.texts texts && bytes_eq word row.word) rows

-- what texts ask for behind the word of this line: retries that are none make a bad line, whatever the other texts are
abbrev pub AsksBy : Option Row → List (List ℕ) → Result ScriptLine LineFault → Type 0
AsksBy None texts r = r ≡ Err BadLine
AsksBy (Some row) texts r =
    (HasRetries row.texts texts × TextsAsk row.texts row.asks texts r)
    ⊎ ((HasRetries row.texts texts → ⊥) × (r ≡ Err BadLine))

-- what words ask for: no such line, or the wrong number of texts, is a bad line
abbrev pub WordsAsk : List (List ℕ) → Result ScriptLine LineFault → Type 0
WordsAsk [] r = r ≡ Err BadLine
WordsAsk (word ∷ texts) r = AsksBy (row_of word texts grammar) texts r

-- Words ask for a lock call that names nodes
pub record WordsNameNodes (ws : List (List ℕ)) : Type 0 where
  pub holder : Process
  pub resource : AText
  pub requester : AText
  pub names : List (List ℕ)
  pub asks : WordsAsk ws (Ok (call_at holder.node (DelLock holder resource requester (Target.Named names))))
      ⊎ ((retries : Tries) × WordsAsk ws
      (Ok (call_at holder.node (SetLock holder resource requester (Target.Named names) retries))))
