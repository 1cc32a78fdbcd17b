-- The line that tells which lines there are.
use Rattle.std.specs.Prelude.{ℕ, codes, flat_map, List, [], ◌∷◌, ◌++◌}
use Rattle.command_lines.specs.Printing.{ended}

-- the words with which the lines of a console begin that a server has which stays
abbrev pub help_words : List (List ℕ)
help_words =
    codes "spawn" ∷ codes "spawn_link" ∷ codes "exit" ∷ codes "register" ∷ codes "re_register" ∷ codes "unregister" ∷ codes "whereis"
    ∷ codes "names" ∷ codes "describe" ∷ codes "find" ∷ codes "wait" ∷ codes "notices" ∷ codes "set_lock" ∷ codes "del_lock"
    ∷ codes "join" ∷ codes "leave" ∷ codes "quit" ∷ codes "status" ∷ codes "fence" ∷ codes "help" ∷ codes "shutdown" ∷ []

-- the line of all of these
abbrev pub help_line : List ℕ
help_line = ended (codes "help" ++ flat_map (λ word. 32 ∷ word) help_words)
