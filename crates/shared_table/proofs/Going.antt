-- What a publisher has to do with a loop, it has to do with whatever the loop comes to.
use Rattle.std.proofs.Common.{◌≡◌, [], sym, subst}
use Rattle.node_books.specs.Held.{Looping}
use Rattle.node_books.specs.Owing.{Owes}
use Rattle.node_books.specs.Onward.{ComesFrom}
use Rattle.node_books.specs.Moments.{shown_at}
use Rattle.node_books.proofs.Taking.{follows_on}
use Rattle.shared_table.specs.Publishing.{Progress, Publishes}

pub goes_on : (p : Progress) (a b : Looping) → Publishes a p → ComesFrom a b → Owes b (shown_at p.known.log) → Publishes b p
goes_on p a b h comes owes = (follows_on p.known.log a b h.0 comes owes, owes)

-- it has handed replies out alone
pub aside : (p : Progress) (a b : Looping) → Publishes a p → ComesFrom a b → b ≡ record a { desk = record a.desk { replies = [] } } → Publishes b p
aside p a b h comes is = goes_on p a b h comes
    (subst (λ (x : Looping). Owes x (shown_at p.known.log)) (sym is) (record { world = h.1.world; length = h.1.length; leads = h.1.leads }))
