use Rattle.std.proofs.Common.{ℕ, Bool, List, Option, sym, ap, ◌∙◌, subst, take, length}
use Rattle.std.specs.Prelude.{unwrap_or}
use Rattle.std.specs.Io.Buffered.{reader_remaining, reader_buffer}
use Rattle.memchr.specs.Find.{IsFirstByte, is_byte}
use mir.Val.{bool_byte}
use Rattle.text_lines.specs.Lines.{GrowsByBytes, TakesSome}
use Rattle.text_lines.proofs.AtHand.{TakesSome-at_hand}
use Rattle.text_lines.proofs.lines.take_at_hand.Goals as goal

pub returns : goal.returns
returns g c =
    let old = reader_remaining g.R.Read.remaining c.args.reader.now in
    let new = reader_remaining g.R.Read.remaining c.consume.new.self in
    let bytes : List ℕ = reader_buffer c.args.reader.now in
    let found : Option ℕ = c.memchr-end.result in
    let n : ℕ = c.unwrap_or-len.result in
    let same = c.buffer-bytes.ensures in
    let taken = TakesSome-at_hand g.R.Read.remaining c.args.reader.now new found n c.from.result
    (subst (λ (xs : List ℕ). IsFirstByte (is_byte 10) xs found) same c.memchr-end.ensures)
    (c.unwrap_or-len.ensures ∙ ap (λ (xs : List ℕ). unwrap_or found (length xs)) same)
    (c.from.ensures ∙ ap bool_byte c.is_some.ensures) c.consume.ensures.bytes in (
      take n bytes,
      taken.0,
      subst (λ (xs : List ℕ). GrowsByBytes (take n xs) c.args.part.now c.extend.new.self) same c.in_ok-extend.ensures,
      subst (λ (b : Bool). TakesSome old new b (take n bytes)) (sym c.is_some-2.ensures) taken.1,
    )
