-- Calls that change or read a table, and what is answered.
use Rattle.std.specs.Prelude.{Bool, true, false, not, ◌&&◌, ◌||◌, ◌==◌, bytes_eq, Option, Some, None, is_some, List, [], ◌∷◌, if◌then◌else◌}
use Rattle.registry_model.specs.Process.{Text, Process, is_process, Nodes}
use Rattle.registry_model.specs.Table.{Pair, Table, get, owns, names, Change, Put, Remove}
use Rattle.registry_model.specs.Settlement.{Notice}
use Rattle.registry_model.specs.Registry.{Replica}

-- a call that goes through the registry
pub data NameCall : Type 0 where
  Register : (pair : Pair) → NameCall
  ReRegister : (pair : Pair) → NameCall
  Unregister : (name : Text) → NameCall

-- a look-up at one node: of one name, of all names, or of what a process of it was sent
pub data Look : Type 0 where
  Whereis : (name : Text) → Look
  RegisteredNames : Look
  NoticesOf : (process : Process) → Look

-- all replies, those to lock calls and to `spawn` among them
pub data Reply : Type 0 where
  Yes : Reply
  No : Reply
  Ok : Reply
  UnknownNode : Reply
  True : Reply
  False : Reply
  Joined : Reply
  NotMember : Reply
  ContactLeft : Reply
  Pid : (process : Process) → Reply
  Undefined : Reply
  Names : (names : List Text) → Reply
  Notices : (notices : List Notice) → Reply

-- whether two lists of texts are one
abbrev pub are_texts : List Text → List Text → Bool
are_texts = bytes_eq

-- whether two processes are one, if there are any
abbrev pub is_other : Option Process → Option Process → Bool
is_other None None = true
is_other (Some p) (Some q) = is_process p q
is_other _ _ = false

-- whether two notices are one
abbrev pub is_notice : Notice → Notice → Bool
is_notice f g = (f.name == g.name) && is_other f.other g.other

-- whether two lists of notices are one
abbrev pub are_notices : List Notice → List Notice → Bool
are_notices [] [] = true
are_notices (f ∷ fs) (g ∷ gs) = is_notice f g && are_notices fs gs
are_notices _ _ = false

-- whether two replies are one
abbrev pub is_reply : Reply → Reply → Bool
is_reply Yes Yes = true
is_reply No No = true
is_reply Ok Ok = true
is_reply UnknownNode UnknownNode = true
is_reply True True = true
is_reply False False = true
is_reply Joined Joined = true
is_reply NotMember NotMember = true
is_reply ContactLeft ContactLeft = true
is_reply (Pid p) (Pid q) = is_process p q
is_reply Undefined Undefined = true
is_reply (Names xs) (Names ys) = are_texts xs ys
is_reply (Notices fs) (Notices gs) = are_notices fs gs
is_reply _ _ = false

-- the replies that grant a name call: only then it has its effect
abbrev pub is_grant : Reply → Bool
is_grant Yes = true
is_grant Ok = true
is_grant _ = false

-- what a granted name call does
abbrev pub change_of : NameCall → Change
change_of (Register pair) = Put pair
change_of (ReRegister pair) = Put pair
change_of (Unregister x) = Remove x

-- the reply to a name call, by the members and the table of the node that runs it
abbrev pub reply_to : Nodes → Table → NameCall → Reply
reply_to members table (Register pair) =
    if not (members pair.owner.node)
    then UnknownNode
    else (if is_some (get pair.name table) || owns pair.owner table then No else Yes)
reply_to members table (ReRegister pair) = if not (members pair.owner.node) then UnknownNode else Yes
reply_to members table (Unregister x) = Ok

-- the owner, if there is one
abbrev pub pid_or_undefined : Option Process → Reply
pid_or_undefined None = Undefined
pid_or_undefined (Some p) = Pid p

-- the reply to a look-up at a node that shows this
abbrev pub seen_in : Replica → Look → Reply
seen_in shown (Whereis x) = pid_or_undefined (get x shown.table)
seen_in shown RegisteredNames = Names (names shown.table)
seen_in shown (NoticesOf p) = Notices (shown.notices p.serial)
