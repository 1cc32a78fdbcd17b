-- Which entries are legal after which history.
use Rattle.std.specs.Prelude.{ℕ, Bool, true, false, not, ◌&&◌, ◌||◌, List, [], ◌∷◌, IsTrue}
use Rattle.registry_model.specs.Process.{Process, Nodes}
use Rattle.registry_model.specs.Call.{NameCall, Look, Reply, Joined, NotMember, ContactLeft, is_reply, reply_to, seen_in}
use Rattle.registry_model.specs.Registry.{view, members, replica_of}
use Rattle.registry_model.specs.History.{Entry, Name, Strike, Join, Done, Exit, Left, Told, Read, Standing, is_free, is_holding, old, after, nothing_yet}

-- node n may decide an operation: none holds in its group, and n hasn't left
abbrev pub may_decide : Standing → ℕ → Bool
may_decide s n = is_free s n && not (s.registry.left n)

-- a name call has the reply that the view and the members of its node give it
abbrev pub is_legal_name : Standing → ℕ → NameCall → Reply → Bool
is_legal_name s n call reply =
    may_decide s n && is_reply reply (reply_to (members s.registry n) (view s.registry n) call)

-- only the dead are struck
abbrev pub is_legal_strike : Standing → Process → Bool
is_legal_strike s p = may_decide s p.node && s.registry.dead p

-- a lone node joins by a joined node that wasn't told that it left, while no operation holds in either group
abbrev pub is_legal_admission : Standing → ℕ → ℕ → Bool
is_legal_admission s j m =
    not (s.registry.joined j) && is_free s j && s.registry.joined m && may_decide s m && not (s.registry.told m j)

-- a node that isn't joined refuses, and a contact that the joiner was told has left ends its join
abbrev pub is_legal_join_entry : Standing → ℕ → ℕ → Reply → Bool
is_legal_join_entry s j m Joined = is_legal_admission s j m
is_legal_join_entry s j m NotMember = not ((old s m).joined m)
is_legal_join_entry s j m ContactLeft = s.registry.told j m
is_legal_join_entry s j m _ = false

-- a node leaves once, and not while an operation of its own holds
abbrev pub is_legal_left : Standing → ℕ → Bool
is_legal_left s d = not (s.registry.left d) && not (is_holding s d)

-- a look-up sees the registry with or without the operation that holds
abbrev pub is_legal_read : Standing → ℕ → Look → Reply → Bool
is_legal_read s n look reply =
    is_reply reply (seen_in (replica_of s.registry n) look) || is_reply reply (seen_in (replica_of (old s n) n) look)

-- whether the entry is legal next
abbrev pub is_legal : Standing → Entry → Bool
is_legal s (Name n k call reply) = is_legal_name s n call reply
is_legal s (Strike p) = is_legal_strike s p
is_legal s (Join j k m reply) = is_legal_join_entry s j m reply
is_legal s (Done n) = is_holding s n
is_legal s (Exit p) = true
is_legal s (Left d) = is_legal_left s d
is_legal s (Told n d) = s.registry.left d
is_legal s (Read n look reply) = is_legal_read s n look reply

-- whether each entry is legal after those before it
abbrev pub all_legal : Standing → List Entry → Bool
all_legal s [] = true
all_legal s (e ∷ es) = is_legal s e && all_legal (after s e) es

-- a history is legal where each entry is legal after those before it
abbrev pub IsLegal : Nodes → List Entry → Type 0
IsLegal cluster h = IsTrue (all_legal (nothing_yet cluster) h)
