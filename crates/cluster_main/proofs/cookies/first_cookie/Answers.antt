use Rattle.std.proofs.Common.{◌∙◌, Some, ap}
use Rattle.std.specs.Io.Buffered.{reader_remaining}
use Rattle.cluster_main.proofs.CookieText.{too_long}
use Rattle.cluster_main.proofs.cookies.first_cookie.Goals as goal

pub returns-in-Some-TooLong : goal.returns-in-Some-TooLong
returns-in-Some-TooLong g c =
    too_long (reader_remaining g.R.Read.remaining c.args.reader.now) (reader_remaining g.R.Read.remaining c.read_line.new.reader) 1
    c.read_line.new.left c.in_ok-bytes.field-0 c.in_ok-bytes.ensures.read (c.in-Some-TooLong.is ∙ ap Some c.in-Some-TooLong.field-0-is)
