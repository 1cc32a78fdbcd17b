-- Lines as texts.
use Rattle.std.proofs.Common.{ℕ, true, List, ◌≡◌, length, arith, nat_lt}
use Rattle.std.specs.Str.{IsUtf8}
use Rattle.std.proofs.lemmas.Str.{IsUtf8-from_ascii}
use Rattle.std.proofs.lemmas.Str.Ascii.{IsAscii-from_reads}
use Rattle.std.proofs.lemmas.List.Sums.{AllPass-from_list_all}
use Rattle.std.proofs.lemmas.Bool.{ltb-true}
use Rattle.command_lines.specs.Commands.{is_ascii}

-- bytes that are ASCII are a text
pub is_ascii-utf8 : (bytes : List ℕ) → is_ascii bytes ≡ true → IsUtf8 bytes
is_ascii-utf8 bytes h =
    let each = AllPass-from_list_all (λ b. nat_lt b 128) bytes h in
    IsUtf8-from_ascii bytes (IsAscii-from_reads bytes (length bytes) (omega arith) (λ k l. ltb-true _ _ (each k 0 l)))
