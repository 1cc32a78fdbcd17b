-- The cookie that a file has, and why one has none.
use Rattle.std.specs.Prelude.{ℕ, ◌≡◌, ◌≢◌, ◌⊎◌, ⊤, bit_and, codes, List, [], ◌∷◌, Option, Some, None}
use Rattle.std.specs.Fs.{IsFile, file_type, metadata_mode}
use Rattle.std.specs.declared.fs.attrs.Metadata.{Metadata}
use Rattle.text_lines.specs.Lines.{BeginsWithLines, HasNoLine}
use Rattle.text_lines.specs.declared.faults.StreamFault.{StreamFault}
use Rattle.text_lines.specs.declared.faults.StreamFault.TheVariants.{TooManyLines}
use Rattle.server.specs.Cookies.{IsCookie}
use Rattle.cluster_main.specs.declared.cookies.CookieFault.{CookieFault}
use Rattle.cluster_main.specs.declared.cookies.CookieFault.TheVariants.{NotAFile, OthersMayRead, NoCookie, Unread, System}

-- what is told of the fault, where the system doesn't say it
abbrev pub cookie_words : CookieFault → Option (List ℕ)
cookie_words NotAFile = Some (codes "not a file")
cookie_words OthersMayRead = Some (codes "others may read it")
cookie_words NoCookie = Some (codes "no cookie in its first line")
cookie_words Unread = Some (codes "can't be read")
cookie_words (System e) = None

-- whether an open file may have a cookie: a regular file does that is its owner's alone
abbrev pub Guards : Metadata → Option CookieFault → Type 0
Guards m None = IsFile (file_type m) × (bit_and (metadata_mode m) 0o077 ≡ 0)
Guards m (Some NotAFile) = IsFile (file_type m) → ⊥
Guards m (Some OthersMayRead) = IsFile (file_type m) × (bit_and (metadata_mode m) 0o077 ≢ 0)
Guards m (Some _) = ⊥

-- what a fault of reading lines says of the first one: there are too many where that is too long
abbrev pub fault_of_reading : StreamFault → CookieFault
fault_of_reading TooManyLines = NoCookie
fault_of_reading _ = Unread

-- known bytes begin with a line that is this cookie
abbrev pub HasCookie : Option (List ℕ) → List ℕ → Type 0
HasCookie input cookie = BeginsWithLines input (cookie ∷ []) × IsCookie cookie

-- known bytes have no first line, or one that is no cookie; or they couldn't be read
abbrev pub HasNoCookie : Option (List ℕ) → CookieFault → Type 0
HasNoCookie input NoCookie = HasNoLine input ⊎ ((line : List ℕ) × BeginsWithLines input (line ∷ []) × (IsCookie line → ⊥))
HasNoCookie input Unread = ⊤
HasNoCookie input _ = ⊥
