-- What a step of a node changes is owed to its readers.
use Rattle.std.proofs.Common.{◌≡◌, ◌<◌, ◌≤◌, ◌+◌, ◌==◌, ◌&&◌, ℕ, Bool, true, false, not, Option, Vec, Global, List, [], ◌∷◌, ◌++◌, length, refl, sym, ap, subst, ◌∙◌, inl, inr, arith}
use Rattle.std.specs.Prelude.{if◌then◌else◌}
use Rattle.std.proofs.lemmas.List.{length-append}
use Rattle.registry_model.specs.Table.{Table, changed, without}
use Rattle.registry_model.specs.Registry.{Replica}
use Rattle.protocol_model.specs.Node.{Node, unless_told}
use Rattle.protocol_model.specs.Turn.{Turn as AnyTurn}
use Rattle.protocol_model.specs.Letter.{Letter as AnyLetter, is_down}
use Rattle.table_steps.specs.Behind.{behind, behind_letter}
use Rattle.table_steps.proofs.Steps.{letters_write, events_keep}
use Rattle.name_table.specs.declared.change.Change.{Change}
use Rattle.name_table.specs.declared.change.Pair.{Pair}
use Rattle.name_table.specs.Changes.{change_of}
use Rattle.term.specs.NodeSets.{set_of, with_older}
use Rattle.term.proofs.Older.{held}
use Rattle.node_log.specs.declared.LocalEvent.{LocalEvent}
use Rattle.node_log.specs.declared.LocalEvent.TheVariants as event
use Rattle.node_log.specs.declared.Answer.{Answer}
use Rattle.node_log.specs.NodeEvents.TheVariants.{FromPeer}
use Rattle.node_log.specs.declared.Letter.{Letter}
use Rattle.node_log.specs.declared.Letter.TheVariants.{SetLock, LockAnswer, GiveBack, GivenBack, ReleaseOf, Apply, Applied, JoinAsk, JoinRefused, Admit, Welcome, Down}
use Rattle.node_core.specs.CoreState.{CoreState, bound_of}
use Rattle.node_core.specs.Made.{Made as Turn}
use Rattle.node_core.specs.Seen.{node_of}
use Rattle.node_core.specs.Steps.{Steps, IsSaidBy}
use Rattle.node_log.specs.NodeEventsLetters.{letter_of}
use Rattle.node_log.specs.Entries.{SeatedEntry}
use Rattle.node_log.specs.Events.{node_event, own_event_of, knows_contact}
use Rattle.node_loop.specs.declared.edit.Edit.TheVariants as edit
use Rattle.node_loop.specs.declared.edit.Edition.{Edition}
use Rattle.node_loop.specs.declared.edit.Note.{Note}
use Rattle.node_loop.specs.declared.edit.Note.TheVariants.{Nothing, One, Whole}
use Rattle.node_loop.specs.declared.edit.Owed.{Owed}
use Rattle.node_loop.specs.Editions.{edited, Does, showing, suits, NotedBy, Notes}
use Rattle.node_loop.specs.Owing.{first_note, with_note, shown_by, LeadsTo, Owes, KeepsOwing}
use Rattle.node_loop.specs.Held.{Looping, Written, with_next}
use Rattle.node_loop.specs.declared.item.Ticket.{Ticket}
use Rattle.node_loop.specs.declared.item.Stamped.{Stamped}
use Rattle.node_loop.specs.Steps.{Cause, by_event, by_letter, entry_of, IsNoted, Makes, Rests}
use Rattle.node_loop.specs.Coming.{Turns}
use Rattle.node_loop.specs.Items.{by_leave, with_leave}
use Rattle.node_loop.proofs.Doing.{own_turn}
use Rattle.node_loop.proofs.Moving.{IsKept, turns}

-- a note leads to an edition of the same node, and to no shorter a log
pub node_led : (note : Note) (e f : Edition) → LeadsTo note e f → e.node ≡ f.node
node_led Nothing e f h = ap (λ (x : Edition). x.node) h
node_led (One edit) e f h = ap (λ (x : Edition). x.node) h.0
node_led Whole e f h = h.0

no_shorter : (note : Note) (e f : Edition) → LeadsTo note e f → e.length ≤ f.length
no_shorter Nothing e f h = omega (arith, ap (λ (x : Edition). x.length) h)
no_shorter (One edit) e f h = omega (arith, h.1)
no_shorter Whole e f h = omega (arith, h.1)

-- what a step does is owed besides what was: f was shown, and g is behind the step
leads_more : (o : Owed) (note : Note) (n : ℕ) (e f g : Edition) → LeadsTo o.note e f → f.length ≡ o.length → o.length < n → Does note f g
    → LeadsTo (with_note note n o).note e (record g { length = (with_note note n o).length })
leads_more o Nothing n e f g h at l does =
    subst (λ (x : Edition). LeadsTo o.note e x)
    (λ j. record (sym does j) { length = at j }) h
leads_more o (One edit) n e f g h at l does = first o.note h
  where
    longer : e.length ≤ f.length → e.length < n
    longer w = omega (arith, w, at, l)

    first : (note : Note) → LeadsTo note e f → LeadsTo (first_note note edit) e (record g { length = n })
    first Nothing h = (
      (λ j. record (edited edit (h j)) { length = n }) ∙ (λ j. record (sym does j) { length = n }),
      longer (no_shorter Nothing e f h),
    )
    first (One other) h = (
      node_led (One other) e f h ∙ ap (λ (x : Edition). x.node) (sym does),
      longer (no_shorter (One other) e f h),
    )
    first Whole h = (node_led Whole e f h ∙ ap (λ (x : Edition). x.node) (sym does), longer (no_shorter Whole e f h))
leads_more o Whole n e f g h at l does = (node_led o.note e f h ∙ sym does, omega (arith, no_shorter o.note e f h, at, l))

-- the length is that of the log, or as it was
length_within : (o : Owed) (note : Note) (n : ℕ) → o.length < n → (with_note note n o).length ≤ n
length_within o Nothing n l = omega (arith, l)
length_within o (One edit) n l = omega arith
length_within o Whole n l = omega arith

-- b is behind a step of a, with an entry more, and notes what it does
pub record Noted (note : Note) (a b : Looping) : Type 0 where
  pub world : b.world ≡ a.world
  pub core_world : b.core.world ≡ a.core.world
  pub entries : length b.log.entries ≡ length a.log.entries + 1
  pub owed : b.owed ≡ with_note note (length a.log.entries + 1) a.owed
  pub does : Does note (shown_by a) (record (shown_by b) { length = a.owed.length })

pub noted : (note : Note) (a b : Looping) → Noted note a b → KeepsOwing a b
noted note a b N e O = record {
  world = N.world ∙ (O.world ∙ sym N.core_world);
  length = within;
  leads = subst (λ (o : Owed). LeadsTo o.note e (record (shown_by b) { length = o.length })) (sym N.owed)
      (leads_more a.owed note (length a.log.entries + 1) e (shown_by a) (record (shown_by b) { length = a.owed.length }) O.leads refl less N.does);
}
  where
    less : a.owed.length < length a.log.entries + 1
    less = omega (arith, O.length)

    within : b.owed.length ≤ length b.log.entries
    within = omega (arith, ap (λ (o : Owed). o.length) N.owed, length_within a.owed note (length a.log.entries + 1) less, N.entries)

-- one entry more was put into a log
pub one_more : (n : ℕ) (before mid after : List SeatedEntry) (e : SeatedEntry) → n ≡ length after → after ≡ mid ++ e ∷ [] → mid ≡ before
    → n ≡ length before + 1
one_more n before mid after e at more same =
    at ∙ (ap (λ (l : List SeatedEntry). length l) more ∙ (length-append mid (e ∷ []) ∙ ap (λ (l : List SeatedEntry). length l + 1) same))

-- Behind a step the table is that of the protocol's
module _ (h k : CoreState) (made : Turn) where
  pub behind_letter_read : (f : ℕ) (l : Letter) → Steps (FromPeer f l) h k made → IsSaidBy h.world h.name f l
      → k.table ≡ (behind h.name f (letter_of l) (node_of h)).table
  behind_letter_read f l step said =
      ap (λ (u : AnyTurn). u.node.replica.table) (step.turn (λ _. 0) said)
      ∙ ap (λ (v : Replica). v.table) (letters_write (bound_of h.world) h.name (λ _. 0) f (letter_of l) (node_of h))

  -- no event of its own changes it
  pub behind_event : (e : LocalEvent) → knows_contact h.world e ≡ true → Steps (node_event e) h k made → k.table ≡ h.table
  behind_event e known step =
      ap (λ (u : AnyTurn). u.node.replica.table) (own_turn h k made e step known)
      ∙ ap (λ (v : Replica). v.table) (events_keep (bound_of h.world) h.name (set_of h.world) (own_event_of e) (node_of h))

-- the log has an entry more
entry_more : (k : Cause) (a b : Looping) (answers : List Answer) → b.log ≡ record a.log { entries = a.log.entries ++ entry_of k a answers ∷ [] }
    → length b.log.entries ≡ length a.log.entries + 1
entry_more k a b answers log =
    ap (λ (l : Written). length l.entries) log ∙ length-append a.log.entries (entry_of k a answers ∷ [])

-- nothing is noted for it
notes_nothing : (e : LocalEvent) (h : CoreState) → Notes (node_event e) Nothing h
notes_nothing (event.Call c) h = refl
notes_nothing event.Retry h = refl
notes_nothing (event.Exit p) h = refl
notes_nothing event.Leave h = inl refl

-- a step by an event of its own leaves what it shows
pub owing_by_event : (ticket : Option Ticket) (e : LocalEvent) (a b : Looping) (turn : Turn) → knows_contact a.world e ≡ true
    → Steps (node_event e) a.core b.core turn
    → b.log ≡ record a.log { entries = a.log.entries ++ entry_of (by_event ticket e a) a turn.answers ∷ [] }
    → b.world ≡ a.world → b.left ≡ a.left → b.owed ≡ a.owed → IsNoted (by_event ticket e a) a b × KeepsOwing a b
owing_by_event ticket e a b turn known step log world left owed = (
  record { note = Nothing; noted = notes_nothing e a.core; owed = owed },
  λ x O. noted Nothing a b (record {
    world = world;
    core_world = step.world;
    entries = entry_more (by_event ticket e a) a b turn.answers log;
    owed = owed;
    does = λ j. record {
      node = (log j).node;
      table = behind_event a.core b.core turn e (subst (λ (w : List ℕ). knows_contact w e ≡ true) O.world known) step j;
      length = a.owed.length;
      left = left j;
    };
  }) x O,
)

-- a step by a letter is owed as it was noted
pub owing_by_letter : (note : Note) (from : ℕ) (l : Stamped) (a b : Looping) (turn : Turn) → NotedBy note from l.letter a.core
    → Steps (FromPeer from l.letter) a.core b.core turn
    → b.log ≡ record a.log { entries = a.log.entries ++ entry_of (by_letter from l a) a turn.answers ∷ [] }
    → b.world ≡ a.world → b.left ≡ a.left → b.owed ≡ with_note note (length a.log.entries + 1) a.owed
    → IsNoted (by_letter from l a) a b × KeepsOwing a b
owing_by_letter note from l a b turn by step log world left owed = (
  record {
    note = note;
    noted = by;
    owed = owed ∙ ap (λ (n : ℕ). with_note note n a.owed) (sym (entry_more (by_letter from l a) a b turn.answers log));
  },
  noted note a b (record {
    world = world;
    core_world = step.world;
    entries = entry_more (by_letter from l a) a b turn.answers log;
    owed = owed;
    does = subst (λ (x : Edition). Does note (shown_by a) x)
        (λ j. record { node = sym (ap (λ (w : Written). w.node) log) j; table = b.core.table; length = a.owed.length; left = sym left j })
        (by.does (shown_by a) b.core turn step);
  }),
)

-- so is a leave
pub owing_by_leave : (a m b : Looping) → Makes (by_leave a) a m → m.owed ≡ a.owed
    → b ≡ record m { left = true; desk = b.desk; owed = with_leave m } → IsNoted (by_leave a) a b × KeepsOwing a b
owing_by_leave a m b M owed is = (
  record {
    note = One edit.Leave;
    noted = inr refl;
    owed = ap (λ (l : Looping). l.owed) is
        ∙ λ j. with_note (One edit.Leave) (sym (ap (λ (l : Looping). length l.log.entries) is) j) (owed j);
  },
  noted (One edit.Leave) a b (record {
    world = ap (λ (l : Looping). l.world) is ∙ M.world;
    core_world = ap (λ (l : Looping). l.core.world) is ∙ M.step.world;
    entries = entry_more (by_leave a) a b M.turn.answers log;
    owed = ap (λ (l : Looping). l.owed) is
        ∙ λ j. with_note (One edit.Leave) (entry_more (by_leave a) a m M.turn.answers M.log j) (owed j);
    does = λ j. record {
      node = (log j).node;
      table = (ap (λ (l : Looping). l.core.table) is ∙ behind_event a.core m.core M.turn event.Leave refl M.step) j;
      length = a.owed.length;
      left = ap (λ (l : Looping). l.left) is j;
    };
  }),
)
  where
    log : b.log ≡ record a.log { entries = a.log.entries ++ entry_of (by_leave a) a M.turn.answers ∷ [] }
    log = ap (λ (l : Looping). l.log) is ∙ M.log

-- a letter that leaves the table, or whose writing is known
module _ (f : ℕ) (h : CoreState) where
  -- it is another node of the world
  abbrev known : Bool
  known = set_of h.world f && not (f == h.name)

  noted_as : (note : Note) (l : Letter) → suits note l known ≡ true → IsSaidBy h.world h.name f l
      → ((e : Edition) → Does note (showing h.table e) (showing (behind h.name f (letter_of l) (node_of h)).table e)) → NotedBy note f l h
  noted_as note l fits said does = record {
    fits = fits;
    does = λ e k made step. subst (λ (t : Table). Does note (showing h.table e) (showing t e))
        (sym (behind_letter_read h k made f l step said)) (does e);
  }

  -- a letter of a node that is told to have left is dropped
  pub dropped : (c : Change) → with_older h.told f ≡ true → NotedBy Nothing f (Apply c) h
  dropped c told = noted_as Nothing (Apply c) refl tt (λ e. λ j. showing (at (with_older h.told f) told j) e)
    where
      at : (b : Bool) → b ≡ true
          → (if b && true then (node_of h).replica else behind_letter h.name f (letter_of (Apply c)) (node_of h).current (node_of h).replica).table ≡ h.table
      at true q = refl
      at false q = cc

  pub written : (c w : Change) → with_older h.told f ≡ false → change_of w ≡ unless_told (with_older h.told) (change_of c)
      → NotedBy (One (edit.Write w)) f (Apply c) h
  written c w told is = noted_as (One (edit.Write w)) (Apply c) refl tt
      (λ e. λ j. showing ((at (with_older h.told f) told ∙ ap (λ x. changed x h.table) (sym is)) j) e)
    where
      at : (b : Bool) → b ≡ false
          → (if b && true then (node_of h).replica else behind_letter h.name f (letter_of (Apply c)) (node_of h).current (node_of h).replica).table
          ≡ changed (unless_told (with_older h.told) (change_of c)) h.table
      at true q = cc
      at false q = refl

  pub gone : set_of h.world f ≡ true → (f == h.name) ≡ false → NotedBy (One (edit.Departure f)) f Down h
  gone inside other = noted_as (One (edit.Departure f)) Down refl (held h.world f inside, other) (λ e. λ j. showing (at (with_older h.told f) j) e)
    where
      at : (b : Bool)
          → (if b && false then (node_of h).replica else behind_letter h.name f AnyLetter.Down (node_of h).current (node_of h).replica).table
          ≡ without (λ d. d == f) h.table
      at true = refl
      at false = refl

  -- what writes nothing leaves the table, whether it is read or dropped
  still : (l : Letter) → IsSaidBy h.world h.name f l
      → behind_letter h.name f (letter_of l) (node_of h).current (node_of h).replica ≡ (node_of h).replica → NotedBy Nothing f l h
  still l said same = noted_as Nothing l refl said (λ e. λ j. showing (at (with_older h.told f && not (is_down (letter_of l))) j).table e)
    where
      at : (b : Bool)
          → (if b then (node_of h).replica else behind_letter h.name f (letter_of l) (node_of h).current (node_of h).replica) ≡ (node_of h).replica
      at true = refl
      at false = same

  pub asked : (pairs : Vec Pair Global) → set_of h.world f ≡ true → NotedBy Nothing f (JoinAsk pairs) h
  asked pairs inside = still (JoinAsk pairs) (held h.world f inside) refl

  -- so does any letter but those that say of names or members
  pub quiet : (l : Letter) → ((c : Change) → l ≡ Apply c → ⊥) → ((pairs : _) → l ≡ JoinAsk pairs → ⊥)
      → ((body : _) → l ≡ Admit body → ⊥) → ((body : _) → l ≡ Welcome body → ⊥) → (l ≡ Down → ⊥) → NotedBy Nothing f l h
  quiet (SetLock id p) a k d w g = still (SetLock id p) tt refl
  quiet (LockAnswer id p granted) a k d w g = still (LockAnswer id p granted) tt refl
  quiet (GiveBack id p ack) a k d w g = still (GiveBack id p ack) tt refl
  quiet (GivenBack p) a k d w g = still (GivenBack p) tt refl
  quiet (ReleaseOf p) a k d w g = still (ReleaseOf p) tt refl
  quiet (Apply c) a k d w g = absurd (a c refl)
  quiet Applied a k d w g = still Applied tt refl
  quiet (JoinAsk pairs) a k d w g = absurd (k pairs refl)
  quiet JoinRefused a k d w g = still JoinRefused tt refl
  quiet (Admit body) a k d w g = absurd (d body refl)
  quiet (Welcome body) a k d w g = absurd (w body refl)
  quiet Down a k d w g = absurd (g refl)

-- what a turn of a loop does, it owes
kept : (e : Edition) → IsKept (λ b. Owes b e)
kept e = record {
  besides = λ a tray wait worked O. record { world = O.world; length = O.length; leads = O.leads };
  refuses = λ a ticket fault O. record { world = O.world; length = O.length; leads = O.leads };
  waits = λ a ticket O. record { world = O.world; length = O.length; leads = O.leads };
  makes = λ k a b O M. M.owing e O;
  rests = rests;
  begun = λ k a b O B. B.owing e O;
  departs = λ a b O D. (owing_by_leave a D.stepped b D.step D.owed (D.behind ∙ λ j. record D.stepped {
    left = true;
    desk = sym (ap (λ (l : Looping). l.desk) D.behind) j;
    owed = with_leave D.stepped;
  })).1 e O;
  departing = λ a b O B. B.owing e O;
}
  where
    rests : (a b : Looping) → Owes a e → Rests a b → Owes b e
    rests a b O R = subst (λ (x : Looping). Owes x e) (sym R.others) (record {
      world = O.world ∙ sym R.core.world;
      length = O.length;
      leads = subst (λ (t : Table). LeadsTo a.owed.note e (record (shown_by a) { table = t })) (sym (ap (λ (n : Node). n.replica.table) R.core.node)) O.leads;
    })

pub turns_keep : (a b : Looping) → Turns a b → KeepsOwing a b
turns_keep a b T e O = turns (λ x. Owes x e) (kept e) a b O T

-- that the next node of a name has started changes nothing of that
pub owes_next : (older next : ℕ) (a : Looping) (e : Edition) → Owes a e → Owes (with_next older next a) e
owes_next older next a e h = record { world = refl; length = h.length; leads = h.leads }
