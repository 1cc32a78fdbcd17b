-- Whom a lock call asks.
use Rattle.std.proofs.Common.{ℕ, List, ◌≡◌, ◌<◌, ◌∙◌, true, Option, None, Some, length, map, refl, sym, ap, subst}
use Rattle.std.specs.Prelude.{is_some}
use Rattle.std.proofs.lemmas.List.{length-map}
use Rattle.protocol_model.specs.Node.{Target}
use Rattle.term.proofs.ExactNodes.{spelled_some}
use Rattle.term.specs.Nodes.{nodes_of}
use Rattle.term.specs.NodeLists.{SpellsNodes}
use Rattle.command_lines.specs.LockTexts.{target_in, SpellsTarget, NamesSome, Lists}

-- a text that spells nodes names one
pub names_some : (text : List ℕ) (named : Option (List ℕ)) → SpellsTarget text (target_in named) → NamesSome named
names_some text None s = tt
names_some text (Some names) s = names_one text names s.1
  where
    names_one : (text names : List ℕ) → Lists text (map nodes_of names) → 0 < length names
    names_one text names l = subst (λ (k : ℕ). 0 < k)
        (sym (length-map l.names nodes_of) ∙ ap length (sym l.stand) ∙ length-map names nodes_of) (spelled_some text l.names l.spelled)

-- nodes that a text spells, where it spells some
pub named_nodes : (text : List ℕ) (named : Option (List ℕ)) → is_some named ≡ true → SpellsTarget text (target_in named)
    → (names : List (List ℕ)) × SpellsTarget text (Target.Named names)
named_nodes text None e s = cc
named_nodes text (Some names) e s = (map nodes_of names, s)

-- names that are spelled stand for their nodes
pub lists : (text names : List ℕ) → SpellsNodes text names → Lists text (map nodes_of names)
lists text names s = record { names = names; spelled = s; stand = refl }
