-- A node's loop over its end stays sound, turn by turn, and its thread gives back what tells of it.
use Rattle.std.proofs.Common.{true, false, ◌≡◌, inl, inr, Option, List, [], ◌∷◌, ◌++◌, map, Ok, Err, is_ok, refl, sym, ap, subst, ◌∙◌}
use Rattle.std.specs.Prelude.{Result, IfOk}
use Rattle.std.specs.Result.{result_ok}
use Rattle.protocol_model.specs.World.{Opening}
use Rattle.link.specs.declared.mailbox.Mailbox.{Mailbox}
use Rattle.link.specs.Mailboxes.{taken, mailbox_room}
use Rattle.node_loop.specs.declared.item.Item.{Item}
use Rattle.node_loop.specs.Coming.{IsLoopOf}
use Rattle.node_loop.specs.Held.{Looping, written}
use Rattle.node_loop.specs.Steps.{Outcome}
use Rattle.node_loop.specs.Dealings.{Dealt}
use Rattle.node_loop.specs.Sound.{IsSound, EndsSound, Tells, LeavesSound}
use Rattle.node_loop.proofs.Standing.{besides}
use Rattle.node_seats.specs.declared.parcel.Parcel.{Parcel}
use Rattle.node_seats.specs.Lines.{Sent}
use Rattle.node_seats.specs.Pages.{Book}
use Rattle.node_seats.specs.Books.{Known}
use Rattle.node_seats.specs.Moments.{moment}
use Rattle.node_seats.specs.declared.host.Stop.{Stop}
use Rattle.node_seats.specs.Stops.{ends_alone}
use Rattle.replay.specs.Ends.{End}
use Rattle.node_threads.specs.declared.ruled_end.Traffic.{Traffic}
use Rattle.node_threads.specs.Givers.{receivers, letters_of}
use Rattle.node_threads.specs.Traffics.{begun}
use Rattle.node_threads.specs.Wires.{unused}
use Rattle.node_threads.specs.Ends.{are_inside, leads_inside, fixed}
use Rattle.node_threads.specs.Dealings.{sent_to, taken_from, dealt_of, dealt_by}
use Rattle.node_threads.specs.Soundness.{IsSoundAt, StaysSound, LastsSound, IsBesides}
use Rattle.node_threads.specs.Stops.{StopsSo}
use Rattle.node_threads.specs.Ended.{IsLeftBy, IsEndOf, IsOver}
use Rattle.node_threads.proofs.Lines.{receivers_unused}
use Rattle.node_threads.proofs.Pasts.{past_of}

-- what is shown and handed out changes nothing of it
sound_besides : (o : Opening) (b c : Looping) (d : Dealt) → IsBesides b c → IsSound o b d → IsSound o c d
sound_besides o b c d is S =
    subst (λ (l : Looping). IsSound o l d) (sym is) (besides o (λ f. []) b d S c.desk b.wait b.worked c.owed)

ended_besides : (o : Opening) (b c : Looping) (d : Dealt) → IsBesides b c → EndsSound o b d → EndsSound o c d
ended_besides o b c d is E = subst (λ (l : Looping). EndsSound o l d) (sym is) (record {
  of = E.of;
  named = E.named;
  course = E.course;
  logged = E.logged;
  node = E.node;
  vouches = E.vouches;
})

-- a turn, behind which it is shown what it did, and replies are handed out
module _ (a : Looping) (s : Traffic) (b : Looping) (t : Traffic) (c : Looping) (is : IsBesides b c) where
  pub sound_on : (r : Outcome) → StaysSound a s r b t → is_ok r ≡ true → (o : Opening) → IsSoundAt o a s → IsSoundAt o c t
  sound_on (Ok u) stays goes o here = ((stays o here).0, sound_besides o b c (dealt_of t) is (stays o here).1)
  sound_on (Err why) stays goes o here = cc

  pub sound_to_end : (r : Outcome) → StaysSound a s r b t → is_ok r ≡ false → LastsSound a s c t
  sound_to_end (Ok u) stays ends o here = cc
  sound_to_end (Err why) stays ends o here = inr (ended_besides o b c (dealt_of t) is (stays o here).1)

-- behind turns
pub ends_on : (a : Looping) (s : Traffic) (b : Looping) (t : Traffic) → ((o : Opening) → IsSoundAt o a s → IsSoundAt o b t) → LastsSound a s b t
ends_on a s b t stays o here = inl (stays o here).1

pub ends_behind : (a : Looping) (s : Traffic) (b : Looping) (t : Traffic) (c : Looping) (u : Traffic)
    → ((o : Opening) → IsSoundAt o a s → IsSoundAt o b t) → LastsSound b t c u → LastsSound a s c u
ends_behind a s b t c u stays ends o here = ends o (stays o here)

-- What a thread gives back: it began with the loop a and an end that stood as s, and behind its last turn they were b and t
module _ (a : Looping) (lines : List (Sent Item)) (mailbox : Mailbox (Parcel Item)) (s : Traffic) (b : Looping) (t : Traffic) (e : End) (rows : List (Sent Item)) (box : Mailbox (Parcel Item))
    (first : s ≡ begun a.log.node lines mailbox)
    (began : IsLoopOf a.log.node a) (came : IsLoopOf a.log.node b) (node : b.log.node ≡ a.log.node) (sound : LastsSound a s b t) (same : fixed t ≡ fixed s)
    (log : written e.log ≡ b.log) (table : e.table ≡ b.core.table) (stop : Stop) (stopped : StopsSo stop a b)
    (alone : e.ended_alone ≡ ends_alone stop b.left) (leaves : LeavesSound b (written e.log) e.table)
    (row : rows ≡ t.lines) (took : letters_of (receivers t.lines) (taken box) ≡ t.letters) (room : mailbox_room box ≡ mailbox_room t.first) where
  t_node : t.node ≡ a.log.node
  t_node = ap (λ (x : Traffic). x.node) same ∙ ap (λ (x : Traffic). x.node) first

  t_first : t.first ≡ mailbox
  t_first = ap (λ (x : Traffic). x.first) same ∙ ap (λ (x : Traffic). x.first) first

  t_lines : map unused t.lines ≡ map unused lines
  t_lines = ap (λ (x : Traffic). x.lines) same ∙ ap (λ (x : Traffic). map unused x.lines) first

  -- the same nodes are reached
  t_row : receivers t.lines ≡ receivers lines
  t_row = sym (receivers_unused t.lines) ∙ ap receivers t_lines ∙ receivers_unused lines

  dealt : dealt_of t ≡ dealt_by rows (taken box)
  dealt = λ j. record {
    sent = λ x. sent_to x (sym row j);
    taken = λ f. taken_from f ((sym took ∙ ap (λ (ls : List (Sent Item)). letters_of (receivers ls) (taken box)) (sym row)) j);
  }

  -- what the loop left behind
  abbrev left_behind : IsLeftBy a.log.node e
  left_behind = record {
    loop = b;
    came = came;
    node = ap (λ w. w.node) log ∙ node;
    log = log;
    table = table;
    first = a;
    began = began;
    stop = stop;
    stopped = stopped;
    alone = alone;
  }

  is_end : IsEndOf a lines mailbox e rows box
  is_end = record {
    left = left_behind;
    first = refl;
    kept = ap (map unused) row ∙ t_lines;
    room = room ∙ ap mailbox_room t_first;
    tells = λ o inside begun. subst (Tells o (written e.log) e.table) dealt
        (leaves o (dealt_of t) (sound o (here o inside begun)));
  }
    where
      here : (o : Opening) → are_inside o a.log.node (receivers lines) ≡ true → IsSound o a (dealt_by lines (taken mailbox))
          → IsSoundAt o a s
      here o inside begun = (
        ap (leads_inside o) first ∙ inside,
        subst (λ (x : Traffic). IsSound o a (dealt_of x)) (sym first) begun,
      )

  -- with the book, where it was sealed with that loop
  pub gives_back : {F : Type 0} (known : Known) (book : Book) → known.book ≡ book → (sealed : Result Known F)
      → IfOk sealed (λ past. past ≡ record known { log = known.log ++ moment true b ∷ [] }) → (o : Option Known) → o ≡ result_ok sealed
      → IsOver a lines mailbox book e rows box o
  gives_back known book own sealed ends o ok = record {
    end = is_end;
    past_is = past_of a.log.node e left_behind known book own sealed ends o ok;
  }
