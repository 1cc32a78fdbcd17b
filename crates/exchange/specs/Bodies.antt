-- The bodies of letters, as the protocol's letters.
use Rattle.registry_model.specs.Settlement.{Fate, Settled}
use Rattle.protocol_model.specs.Letter.{Letter}
use Rattle.term.specs.NodeSets.{set_of, with_older}
use Rattle.exchange.specs.declared.bodies.Admission.{Admission}
use Rattle.exchange.specs.declared.bodies.Welcome.{Welcome}

-- what is settled, as a member is told
abbrev pub settled_in : Admission → Settled
settled_in a = record {
  puts = a.puts.items;
  removes = a.removes.items;
  fate = record { kills = a.kills.items; notices = a.notices.items };
}

-- the letter to a member
abbrev pub admit_letter : Admission → Letter
admit_letter a = Letter.Admit a.joiner (settled_in a)

-- what becomes of processes, as the joiner is told
abbrev pub fate_in : Welcome → Fate
fate_in w = record { kills = w.kills.items; notices = w.notices.items }

-- the letter to the joiner
abbrev pub welcome_letter : Welcome → Letter
welcome_letter w = Letter.Welcome (set_of w.members) w.pairs.items (with_older w.told) (fate_in w)
