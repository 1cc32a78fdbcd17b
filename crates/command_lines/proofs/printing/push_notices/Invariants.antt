use Rattle.std.proofs.Common.{◌≡◌, ◌++◌, ◌∷◌, string_bytes, codes, take}
use Rattle.std.specs.Prelude.{flat_map}
use Rattle.command_lines.specs.Printing.{notice_text}
use Rattle.command_lines.proofs.printing.push_notices.Given as goal

-- the text has the notices so far behind it
abbrev pub invariant-loop-notice : goal.invariant-loop-notice
invariant-loop-notice l = string_bytes l.text ≡ string_bytes l.fn.text ++ (codes "notices"
    ++ flat_map (λ n. 32 ∷ notice_text n) (take l.notice-index l.notices))
