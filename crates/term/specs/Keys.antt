-- The key of a text: its first bytes as a number, which rises as they do.
use Rattle.std.specs.Prelude.{◌≡◌, ℕ, List, take}
use Rattle.registry_model.specs.Process.{place_in}
use Rattle.term.specs.declared.text.TheConstants.{KEY_BYTES}
use Rattle.term.specs.Spelling.{IsText}

-- the first bytes as digits behind a point, with 0 for each that isn't there
abbrev pub key_of : List ℕ → ℕ
key_of bytes = place_in KEY_BYTES (take KEY_BYTES bytes)

-- the bytes are a text, and this is their key
pub record IsKeyed (bytes : List ℕ) (key : ℕ) : Type 0 where
  pub text : IsText bytes
  pub keyed : key ≡ key_of bytes
