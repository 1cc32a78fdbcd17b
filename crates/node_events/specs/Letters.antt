-- What a node sends, as the protocol has it.
use Rattle.std.specs.Prelude.{ℕ, Bool, true, false}
use Rattle.protocol_model.specs.Letter.{Letter as AnyLetter}
use Rattle.protocol_model.specs.Turn.{Send}
use Rattle.name_table.specs.Changes.{change_of}
use Rattle.lock_table.specs.Ids.{id_of}
use Rattle.exchange.specs.Bodies.{admit_letter, welcome_letter}
use Rattle.node_events.specs.declared.events.Letter.{Letter}
use Rattle.node_events.specs.declared.events.Letter.TheVariants.{
  SetLock,
  LockAnswer,
  GiveBack,
  GivenBack,
  ReleaseOf,
  Apply,
  Applied,
  JoinAsk,
  JoinRefused,
  Admit,
  Welcome,
  Down,
}

abbrev pub letter_of : Letter → AnyLetter
letter_of (SetLock id p) = AnyLetter.SetLock (id_of id) p
letter_of (LockAnswer id p granted) = AnyLetter.LockAnswer (id_of id) p granted
letter_of (GiveBack id p ack) = AnyLetter.GiveBack (id_of id) p ack
letter_of (GivenBack p) = AnyLetter.GivenBack p
letter_of (ReleaseOf p) = AnyLetter.ReleaseOf p
letter_of (Apply change) = AnyLetter.Apply (change_of change)
letter_of Applied = AnyLetter.Applied
letter_of (JoinAsk pairs) = AnyLetter.JoinAsk pairs.items
letter_of JoinRefused = AnyLetter.JoinRefused
letter_of (Admit body) = admit_letter body
letter_of (Welcome body) = welcome_letter body.value
letter_of Down = AnyLetter.Down

-- it carries lists of names or processes, so a copy takes memory
abbrev pub has_lists : Letter → Bool
has_lists (JoinAsk pairs) = true
has_lists (Admit body) = true
has_lists (Welcome body) = true
has_lists _ = false

-- a letter with its receiver
abbrev pub send_of : ℕ × Letter → Send
send_of s = record { to = s.0; letter = letter_of s.1 }
