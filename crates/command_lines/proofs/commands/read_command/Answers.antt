use Rattle.std.proofs.Common.{ℕ, List, map, take, subst, ap, ◌∙◌}
use denote.Bor.{Bor}
use Rattle.term.specs.declared.limits.TheConstants.{MOST_WORDS}
use Rattle.text_lines.specs.Words.{words}
use Rattle.command_lines.specs.Grammar.{WordsNameNodes}
use Rattle.command_lines.proofs.Words.{first_words_named}
use Rattle.command_lines.proofs.commands.read_command.Goals as goal

pub returns-clause-memory : goal.returns-clause-memory
returns-clause-memory c = λ e bytes k.
    let t = c.in_ok-text_of.ensures bytes k in
    let first = ap (λ (ws : List (Bor (List ℕ))). map (λ w. w.now) ws) c.deref.ensures.0 ∙ c.first_words.ensures
    ∙ ap (λ (text : List ℕ). take MOST_WORDS (words text)) t.1 in
    (t.0, first_words_named (words bytes) (subst WordsNameNodes first (c.read_words.ensures.memory e)))
