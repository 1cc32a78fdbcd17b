-- What a caller is told, where its reader hears of the moment.
use Rattle.std.proofs.Common.{ℕ, max, true, false, Bool, ◌≡◌, ◌≤◌, ◌<◌, ◌∙◌, Option, Some, None, Result, IfSome, List, [], ◌∷◌, ◌++◌, length, inr, refl, ap, sym, subst, arith, append-nil, All}
use Rattle.std.specs.Prelude.{Contains, nat_le, if◌then◌else◌}
use Rattle.std.proofs.lemmas.Bool.Decides.{nat_tests}
use Rattle.std.proofs.lemmas.List.Elements.{Contains-append_left, Contains-append_right, All-contains_itself}
use mathlib.Core.List.{IsPrefix}
use Rattle.shared_table.specs.declared.Effect.{Effect}
use Rattle.shared_table.specs.declared.Moment.{Moment}
use Rattle.shared_table.specs.declared.TaskFault.{TaskFault}
use Rattle.shared_table.specs.declared.Ticket.{Ticket}
use Rattle.shared_table.specs.Coming.{IsLoopOf}
use Rattle.shared_table.specs.Held.{Looping}
use Rattle.shared_table.specs.Moments.{moment, last_from, shown_at, AreMoments, Rises}
use Rattle.shared_table.specs.Pages.{Book}
use Rattle.shared_table.specs.Publishing.{Progress, IsWritten}
use Rattle.shared_table.specs.Readers.{Seen, Hears}
use Rattle.shared_table.specs.Told.{Told}
use Rattle.shared_table.proofs.Reading.{moments_front, same_node}
use Rattle.shared_table.proofs.Taking.{own_on}
use Rattle.node_seats.specs.Callers.{Learns}
use Rattle.node_seats.specs.Replies.{replies_at, AreHeld, IsHeld, Lying, IsLaid, is_late, later_of, Tells, HasShown}

-- the last of these is among them
last_among : (m : Moment) (ms : List Moment) → Contains (m ∷ ms) (last_from m ms)
last_among m [] = (0, omega arith, refl)
last_among m (n ∷ ns) = Contains-append_right (m ∷ []) (n ∷ ns) (last_from n ns) (last_among n ns)

-- what stands in a beginning stands in the whole
pub contains_on : {A : Type 0} (xs ys : List A) (x : A) → IsPrefix xs ys → Contains xs x → Contains ys x
contains_on {A} xs ys x p c = subst (λ (zs : List A). Contains zs x) p.1 (Contains-append_left xs p.0 x c)

last_snoc : (m : Moment) (ms : List Moment) (n : Moment) → last_from m (ms ++ n ∷ []) ≡ n
last_snoc m [] n = refl
last_snoc m (k ∷ ms) n = last_snoc k ms n

-- the moment at which a loop stands has its replies
replies_behind : (ms : List Moment) (a : Looping) → replies_at (ms ++ moment false a ∷ []) ≡ a.desk.replies
replies_behind [] a = refl
replies_behind (m ∷ ms) a = ap (λ (k : Moment). k.node.desk.replies) (last_snoc m ms (moment false a))

pub held_where_written : (a : Looping) (p : Progress) → IsWritten a p → AreHeld p.known.log a.desk.replies
held_where_written a p w = subst (λ (ms : List Moment). AreHeld ms a.desk.replies) (sym w.1)
    (subst (λ (rs : List Told). All (Contains rs) a.desk.replies) (sym (replies_behind w.0 a)) (All-contains_itself a.desk.replies))

-- there is a moment where a reply is held
pub some_held : (ms : List Moment) (told : Told) → Contains (replies_at ms) told → 0 < length ms
some_held [] told c = absurd (omega (arith, c.1))
some_held (m ∷ ms) told c = omega arith

-- what lies there, if it is to this one
pub laid_to : (own ticket : Ticket) (o : Option (Result Effect TaskFault)) (outcome : Result Effect TaskFault) (ms : List Moment) (count long : ℕ)
    → IsLaid own o ms count long → o ≡ Some outcome → own ≡ ticket → IsHeld (record { ticket = ticket; outcome = outcome }) ms count long
laid_to own ticket o outcome ms count long laid is same =
    subst (λ (t : Ticket). IsHeld (record { ticket = t; outcome = outcome }) ms count long) same
    (subst (λ (x : Option (Result Effect TaskFault)). IsLaid own x ms count long) is laid)

-- the later one of two is of the book of both
pub later_book : (reply : Lying) (o : Option Lying) (b : Book) → reply.seen.book ≡ b → IfSome o (λ lying. lying.seen.book ≡ b)
    → (later_of reply o).seen.book ≡ b
later_book reply None b mine other = mine
later_book reply (Some lying) b mine other = go (is_late reply lying)
  where
    go : (late : Bool) → (if late then lying else reply).seen.book ≡ b
    go true = other
    go false = mine

-- each of a node's moments is one of its loop
last_own : (m : Moment) (ms : List Moment) → IsLoopOf m.node.log.node m.node → Rises m ms → IsLoopOf (last_from m ms).node.log.node (last_from m ms).node
last_own m [] is h = is
last_own m (n ∷ ns) is h = last_own n ns (own_on m.node n.node is h.0.1) h.1

-- the loop at the last of the moments that were heard of is this node's
heard_loop : (name : ℕ) (m : Moment) (ms : List Moment) (old new : Seen) → Hears name (m ∷ ms) old new → IsLoopOf name (last_from m ms).node
heard_loop name m ms old new H =
    let got : List Moment = m ∷ ms in
    let front : AreMoments got = moments_front got H.begins.0 (subst AreMoments (sym H.begins.1) H.moments) in
    let all : IsPrefix new.known.log new.known.log = ([], append-nil new.known.log) in
    let any : 0 < length new.known.log = long got new.known.log H.begins (omega arith) in
    let same : (shown_at new.known.log).node ≡ (shown_at got).node = same_node got new.known.log new.known.log H.begins all (omega arith) any H.moments in
    subst (λ (n : ℕ). IsLoopOf n (last_from m ms).node) (sym same ∙ H.own) (last_own m ms front.0 front.1)
  where
    long : (xs ys : List Moment) → IsPrefix xs ys → 0 < length xs → 0 < length ys
    long [] ys p some = absurd (omega (arith, some))
    long (x ∷ xs) [] p some = absurd (cc (p.1))
    long (x ∷ xs) (y ∷ ys) p some = omega arith

-- what it held there it told at a moment that is then known
pub tells : (name : ℕ) (told : Told) (got : List Moment) (old new : Seen) → Hears name got old new → Contains (replies_at got) told → Tells name told new
tells name told [] old new H c = absurd (omega (arith, c.1))
tells name told (m ∷ ms) old new H c =
    let long : new.told ≡ max old.told (last_from m ms).node.owed.length = H.length_is in record {
      moment = last_from m ms;
      among = contains_on (m ∷ ms) new.known.log (last_from m ms) H.begins (last_among m ms);
      came = heard_loop name m ms old new H;
      held = c;
      within = omega (arith, long);
    }

-- the node has shown an edition of a log as long as is then known
pub hear_told : (name : ℕ) (got : List Moment) (old new : Seen) → Hears name got old new → 0 < length got → HasShown name old.told → HasShown name new.told
hear_told name [] old new H some before = absurd (omega (arith, some))
hear_told name (m ∷ ms) old new H some before = go (nat_le (shown_at (m ∷ ms)).length old.told) refl
  where
    last : Looping
    last = (last_from m ms).node

    go : (b : Bool) → nat_le (shown_at (m ∷ ms)).length old.told ≡ b → HasShown name new.told
    go true is =
        let less : (shown_at (m ∷ ms)).length ≤ old.told = grind (arith, nat_tests) in
        subst (HasShown name) (omega (arith, H.length_is, less)) before
    go false is =
        let more : old.told < last.owed.length = grind (arith, nat_tests) in
        let length_is : new.told ≡ max old.told last.owed.length = H.length_is in
        ∣ record { node = last; came = heard_loop name m ms old new H; long = omega (arith, length_is, more) } ∣₁

-- it learns of them
pub learns : (name : ℕ) (got : List Moment) (old new : Seen) → Hears name got old new → Learns old new
learns name got old new H = inr (record { book = H.book; later = H.later; rises = omega (arith, H.length_is) })
