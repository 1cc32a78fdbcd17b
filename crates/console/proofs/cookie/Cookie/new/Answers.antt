use Rattle.std.proofs.Common.{rules}
use Rattle.std.proofs.lemmas.List.Sums.{list_all-from_AllPass}
use Rattle.console.specs.Cookies.{is_printable as is_printable_byte}
use Rattle.console.proofs.cookie.Cookie.new.Goals as goal
use Rattle.console.proofs.cookie.Cookie.new.Goals.{then-text-lt-SHORTEST_COOKIE-via-then-text-lt-SHORTEST_COOKIE, then-text-lt-SHORTEST_COOKIE-via-else-text-lt-SHORTEST_COOKIE+then-not-all_printable}

pub returns-then-text-lt-SHORTEST_COOKIE : goal.returns-then-text-lt-SHORTEST_COOKIE
returns-then-text-lt-SHORTEST_COOKIE c = λ is. elim c.then-text-lt-SHORTEST_COOKIE.branch [
  | then-text-lt-SHORTEST_COOKIE-via-then-text-lt-SHORTEST_COOKIE w ↦ let long = is.long in search rules
  | then-text-lt-SHORTEST_COOKIE-via-else-text-lt-SHORTEST_COOKIE+then-not-all_printable w ↦
      let all = list_all-from_AllPass is_printable_byte c.args.text.now is.printable in search rules
]
