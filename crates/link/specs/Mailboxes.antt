-- What a clause reads of the ends of an inbox.
use Rattle.std.specs.Prelude.{ℕ, List, Option}
use Rattle.std.specs.declared.alloc.Global.{Global}
use Rattle.atomic_table.specs.declared.badge.Badge.{Badge}
use Rattle.crossbeam_channel.specs.declared.flavors.array.Doing.{Doing}
use Rattle.crossbeam_channel.specs.declared.flavors.array.Key.{Key}
use Rattle.crossbeam_channel.specs.declared.flavors.array.Lockers.{Lockers}
use Rattle.crossbeam_channel.specs.declared.flavors.array.Rounds.{Rounds}
use Rattle.crossbeam_channel.specs.declared.flavors.array.Rows.{Rows}
use Rattle.crossbeam_channel.specs.declared.flavors.array.Whole.{Whole}
use Rattle.crossbeam_channel.specs.Claims.{view}
use Rattle.crossbeam_channel.specs.Ends.{sends_on, receives_on}
use Rattle.link.specs.declared.mailbox.rule.Hand.{Hand}
use Rattle.link.specs.declared.mailbox.rule.InOrder.{InOrder}
use Rattle.link.specs.declared.mailbox.Root.{Root}
use Rattle.link.specs.declared.mailbox.Port.{Port}
use Rattle.link.specs.declared.mailbox.Mailbox.{Mailbox}

-- where the items of an inbox lie: its ends share it
abbrev pub Room : Type 0 → Type 0
Room T = Rows (Badge (Key T)) (Doing T (Hand T)) (Rounds InOrder) (Option T) (Key T) (Lockers Whole) Global

module _ {T : Type 0} where
  -- how many ports were made
  abbrev pub made_of : Root T → ℕ
  made_of r = r.made

  -- the sender's number
  abbrev pub number_of : Port T → ℕ
  number_of p = p.number

  -- all that the sender put, the oldest first
  abbrev pub put : Port T → List T
  put p = (view p.pass).put

  -- all that was taken, the oldest first
  abbrev pub taken : Mailbox T → List T
  taken m = (view m.pass).taken

  -- the inbox that each of them is of
  abbrev pub root_room : Root T → Room T
  root_room r = sends_on r.end

  abbrev pub port_room : Port T → Room T
  port_room p = sends_on p.end

  abbrev pub mailbox_room : Mailbox T → Room T
  mailbox_room m = receives_on m.end
