-- What the other lines of a script print in a world of named nodes, behind restarts, too.
-- x and y are node names, n is a node, p a process, e an event.
use Rattle.std.specs.Prelude.{ℕ, true, false, ◌+◌, ◌*◌, ◌≡◌, Some, None, map, List, [], ◌∷◌, ◌++◌}
use Rattle.registry_model.specs.Process.{Process}
use Rattle.registry_model.specs.SharedLaws.{AreNodesBelow}
use Rattle.protocol_model.specs.Event.{Call, Event, NoSuchNode, NodeLeft}
use Rattle.protocol_model.specs.Node.{Node}
use Rattle.protocol_model.specs.World.{left}
use Rattle.creations.specs.NodeNames.{NamedOpening, span, is_name, node_of}
use Rattle.creations.specs.NamedWorld.{NamedWorld, NamedEvent, At, AtNode, Deliver, Restart, NamedRefusal, Plain, named_refusal, named_answers, run_named, after_events}
use Rattle.creations.specs.NamedScript.{NamedLine, Play, TableAt, MembersAt, NamedOutput, Said, Okay, Started, Error, TableIs, MembersAre, events_in, printed, output_of}

-- What is printed of an accepted event before its answers, by what happens at its node: of an exit and a leave that they were
-- accepted, and of a call or a retry nothing
pub data BeginsAtNode : Event → List NamedOutput → Type 0 where
  Exits : (p : Process) → BeginsAtNode (Event.Exiting p) (Okay ∷ [])
  Leaves : BeginsAtNode Event.Leave (Okay ∷ [])
  Calls : (call : Call) → BeginsAtNode (Event.Calling call) []
  Retries : BeginsAtNode Event.Retry []

module _ (o : NamedOpening) (w : NamedWorld) where
  -- and of a restart which node has started
  pub data Begins : NamedEvent → List NamedOutput → Type 0 where
    ByName : (x : ℕ) (e : Event) (first : List NamedOutput) → BeginsAtNode e first → Begins (At x e) first
    ByNode : (n : ℕ) (e : Event) (first : List NamedOutput) → BeginsAtNode e first → Begins (AtNode n e) first
    Delivers : (x y : ℕ) → Begins (Deliver x y) []
    Starts : (x : ℕ) → Begins (Restart x) (Started (node_of o x (w.present x + 1)) ∷ [])

  -- the present node of x
  abbrev pub node_at : ℕ → Node
  node_at x = w.world.node (node_of o x (w.present x))

  -- What a line prints that looks at the present node of x, where it prints this of a node that is there
  pub record Looks (x : ℕ) (prints shown : List NamedOutput) : Type 0 where
    pub unknown : is_name o x ≡ false → prints ≡ Error (Plain NoSuchNode) ∷ []
    pub gone : is_name o x ≡ true → left w.world (node_of o x (w.present x)) ≡ true → prints ≡ Error (Plain NodeLeft) ∷ []
    pub there : is_name o x ≡ true → left w.world (node_of o x (w.present x)) ≡ false → prints ≡ shown

  -- What lines print
  pub record PrintsByName : Type 0 where
    -- an event its answers, or why it is refused
    pub accepted : (e : NamedEvent) (es : List NamedEvent) → named_refusal o w e ≡ None →
        (first : List NamedOutput) × Begins e first × (printed o w (Play e) es ≡ first ++ map Said (named_answers o w e))
    pub refused : (e : NamedEvent) (es : List NamedEvent) (why : NamedRefusal) → named_refusal o w e ≡ Some why →
        printed o w (Play e) es ≡ Error why ∷ []
    -- a look at a node its table, or its members, rising
    pub table : (x : ℕ) (es : List NamedEvent) → Looks x (printed o w (TableAt x) es) (TableIs (node_at x).replica.table ∷ [])
    pub members : (x : ℕ) (es : List NamedEvent) → (ns : List ℕ) × AreNodesBelow (o.bound * span o) (node_at x).replica.members ns
        × Looks x (printed o w (MembersAt x) es) (MembersAre ns ∷ [])
    -- lines are printed one after the other, each in the world behind those before it
    pub nothing : (most : ℕ) → output_of o most w [] ≡ []
    pub lines : (most : ℕ) (l : NamedLine) (ls : List NamedLine) → output_of o most w (l ∷ ls)
        ≡ printed o w l (events_in o most w l) ++ output_of o most (run_named o w (events_in o most w l)) ls
    -- and an event line plays its event, a look none
    pub plays : (most : ℕ) (e : NamedEvent) → events_in o most w (Play e) ≡ e ∷ []
    pub looks : (most x : ℕ) → (events_in o most w (TableAt x) ≡ []) × (events_in o most w (MembersAt x) ≡ [])

-- So it is behind all events
abbrev pub PrintingByName : Type 0
PrintingByName = (o : NamedOpening) (es : List NamedEvent) → PrintsByName o (after_events o es)
