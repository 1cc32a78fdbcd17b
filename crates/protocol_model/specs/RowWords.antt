-- The words in which rows are written.
use Rattle.std.specs.Prelude.{ℕ, ◌==◌, Some, None, map, List, [], ◌∷◌, ◌++◌}
use Rattle.std.specs.List.{list_any}
use Rattle.registry_model.specs.declared.limits.TheConstants.{SETTLE_LIMIT}
use Rattle.registry_model.specs.Process.{Text, Process}
use Rattle.registry_model.specs.Table.{Rule, Table}
use Rattle.registry_model.specs.Call.{NameCall, Reply, Whereis, RegisteredNames, NoticesOf}
use Rattle.registry_model.specs.Settlement.{Notice}
use Rattle.protocol_model.specs.Node.{Target, All, Named, Retries, Times}
use Rattle.protocol_model.specs.Event.{Call, Event}
use Rattle.protocol_model.specs.World.{Opening, At, Deliver}
use Rattle.protocol_model.specs.Script.{Line, Play, Output, Said, Row}

-- a row with the limit of scripts
abbrev pub row : Opening → List Line → List Output → Row
row o lines prints = record { opening = o; limit = SETTLE_LIMIT; lines = lines; prints = prints }

-- the first of these nodes are joined with each other, the second are lone; all are below the bound
abbrev pub world_of : ℕ → List ℕ → List ℕ → Opening
world_of bound joined lone = record {
  bound = bound;
  nodes = λ c. list_any (λ n. n == c) (joined ++ lone);
  cluster = λ c. list_any (λ n. n == c) joined;
}

-- The nodes a to e, numbered in the order of their names
abbrev pub a : ℕ
a = 0

abbrev pub b : ℕ
b = 1

abbrev pub c : ℕ
c = 2

abbrev pub d : ℕ
d = 3

abbrev pub e : ℕ
e = 4

-- a node of no row's world
abbrev pub stranger : ℕ
stranger = 25

-- Names, resources and requesters, numbered in the order of their bytes
abbrev pub nosuch : Text
nosuch = 14

abbrev pub p : Text
p = 16

abbrev pub q : Text
q = 17

abbrev pub r : Text
r = 18

abbrev pub s : Text
s = 19

abbrev pub w : Text
w = 23

abbrev pub x : Text
x = 24

abbrev pub y : Text
y = 25

abbrev pub z : Text
z = 26

abbrev pub zz : Text
zz = 27

-- the process of this serial at node n
abbrev pub pid : ℕ → ℕ → Process
pid n serial = record { node = n; serial = serial }

-- a call at node n
abbrev pub call : ℕ → Call → Line
call n deed = Play (At n (Event.Calling deed))

abbrev pub spawn : ℕ → Line
spawn n = call n Call.Spawn

abbrev pub register_under : ℕ → Text → Process → Rule → Line
register_under n name owner rule =
    call n (Call.OnName (NameCall.Register (record { name = name; owner = owner; rule = rule })))

-- a `register` under the usual rule
abbrev pub register : ℕ → Text → Process → Line
register n name owner = register_under n name owner Rule.Exit

-- a `re_register` under the usual rule
abbrev pub re_register : ℕ → Text → Process → Line
re_register n name owner =
    call n (Call.OnName (NameCall.ReRegister (record { name = name; owner = owner; rule = Rule.Exit })))

abbrev pub unregister : ℕ → Text → Line
unregister n name = call n (Call.OnName (NameCall.Unregister name))

abbrev pub whereis : ℕ → Text → Line
whereis n name = call n (Call.LookUp (Whereis name))

abbrev pub names : ℕ → Line
names n = call n (Call.LookUp RegisteredNames)

abbrev pub notices : Process → Line
notices process = call process.node (Call.LookUp (NoticesOf process))

-- a `set_lock` of all members, with this many retries
abbrev pub set_lock : Process → Text → Text → ℕ → Line
set_lock holder resource requester retries =
    call holder.node (Call.SetLock holder resource requester All (Times retries))

-- these names, each with its only node
abbrev pub lone_names : List ℕ → Target
lone_names nodes = Named (map (λ n. n ∷ []) nodes)

-- a `set_lock` of named nodes
abbrev pub set_lock_at : Process → Text → Text → List ℕ → ℕ → Line
set_lock_at holder resource requester nodes retries =
    call holder.node (Call.SetLock holder resource requester (lone_names nodes) (Times retries))

-- a `set_lock` of all members that is tried without end
abbrev pub set_lock_endless : Process → Text → Text → Line
set_lock_endless holder resource requester =
    call holder.node (Call.SetLock holder resource requester All Retries.Endless)

-- a `del_lock` of all members
abbrev pub del_lock : Process → Text → Text → Line
del_lock holder resource requester = call holder.node (Call.DelLock holder resource requester All)

-- a `del_lock` of named nodes
abbrev pub del_lock_at : Process → Text → Text → List ℕ → Line
del_lock_at holder resource requester nodes = call holder.node (Call.DelLock holder resource requester (lone_names nodes))

abbrev pub join : ℕ → ℕ → Line
join joiner contact = call joiner (Call.JoinBy contact)

abbrev pub deliver : ℕ → ℕ → Line
deliver from to = Play (Deliver from to)

abbrev pub retry : ℕ → Line
retry n = Play (At n Event.Retry)

abbrev pub exit : Process → Line
exit process = Play (At process.node (Event.Exiting process))

abbrev pub leave : ℕ → Line
leave n = Play (At n Event.Leave)

-- node n answers its numbered call
abbrev pub said : ℕ → ℕ → Reply → Output
said n number reply = Said (record { node = n; number = number; reply = reply })

-- node n answers a look-up or a `spawn`
abbrev pub shown : ℕ → Reply → Output
shown n reply = said n 0 reply

-- a `spawn` gave this process
abbrev pub given : Process → Output
given process = shown process.node (Reply.Pid process)

-- the process was sent these
abbrev pub sent : Process → List Notice → Output
sent process notices = shown process.node (Reply.Notices notices)

-- it lost the name to another process
abbrev pub lost : Text → Notice
lost name = record { name = name; other = None }

-- it lost the name, and so did the other
abbrev pub lost_as : Text → Process → Notice
lost_as name other = record { name = name; other = Some other }

-- the table with one pair in front
abbrev pub owned_under : Text → Process → Rule → Table → Table
owned_under name owner rule table = record { name = name; owner = owner; rule = rule } ∷ table

-- one under the usual rule
abbrev pub owned : Text → Process → Table → Table
owned name owner table = owned_under name owner Rule.Exit table
