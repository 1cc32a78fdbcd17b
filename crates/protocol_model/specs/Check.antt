-- The headline as a test that runs, asked behind each event, and what it means that a row computes.
-- A test has the name of the definition that it asks, and `keeps_x` asks the clause `x` of the headline.
-- ps: the steps so far; p: the last of them, which t stands before and u behind; w: the world behind it.
use Rattle.std.specs.Prelude.{ℕ, Bool, true, false, not, ◌&&◌, ◌||◌, ◌==◌, ◌-◌, ◌≡◌, Option, Some, None, filter, flat_map, fold, List, [], ◌∷◌, ◌++◌}
use Rattle.std.specs.List.{list_any, list_all, slice_get}
use Rattle.registry_model.specs.Process.{Nodes}
use Rattle.registry_model.specs.Call.{Look, Reply, Yes, Joined, Pid, is_reply}
use Rattle.registry_model.specs.Registry.{Registry, in_group, replica_of}
use Rattle.registry_model.specs.History.{Entry, Standing, Hold, nothing_yet, is_free, is_holding, old, hold_at, after}
use Rattle.registry_model.specs.HistoryLaws.{decided_by}
use Rattle.registry_model.specs.Legal.{all_legal}
use Rattle.protocol_model.specs.Round.{is_empty}
use Rattle.protocol_model.specs.Links.{is_nil}
use Rattle.protocol_model.specs.Event.{Call, Event, Answer, Refusal, HoldsLock}
use Rattle.protocol_model.specs.World.{Opening, in_world, in_cluster, World, WorldEvent, At, opening_world, place, refusal, happens, holder}
use Rattle.protocol_model.specs.Course.{Played, played, entries_of, answers_of, global_given}
use Rattle.protocol_model.specs.Fit.{accepted_at, decided_at, is_exit, is_left, is_told, is_read, exit_of, left_of, notice_of, maker_of, is_by_letter, is_delivery}
use Rattle.protocol_model.specs.Answers.{answer_to, answers_at, entered_at, is_prompt, due, is_admission_of, is_unnumbered, may_have, calls_at, answers_under}
use Rattle.protocol_model.specs.Script.{Row, output, events}
use Rattle.protocol_model.specs.Tests.{are_nodes, is_list, is_prefix, is_replica, is_numbered_call, is_look, is_answer, are_entries}

-- at each node the name and join calls are decided in the order in which it accepted them, and what happens at once is
-- entered in order
abbrev pub fits : Opening → List Played → Bool
fits o ps =
    is_empty o.bound
    (λ a. not (is_prefix is_numbered_call (flat_map (decided_at a) (entries_of ps)) (accepted_at a ps)))
    && are_entries (filter is_exit (entries_of ps)) (flat_map exit_of ps)
    && are_entries (filter is_left (entries_of ps)) (flat_map left_of ps)
    && are_entries (filter is_told (entries_of ps)) (flat_map notice_of ps)

-- the entry is made by the node of its step, and by a letter where it needs one
abbrev pub is_made_in : Played → Entry → Bool
is_made_in p e = (maker_of e == place p.event) && (not (is_by_letter e) || is_delivery p.event)

-- one entry and one answer, of one look-up at a
abbrev pub is_looked_up : ℕ → Look → List Entry → List Answer → Bool
is_looked_up a look (Entry.Read b sight reply ∷ []) (s ∷ []) =
    (a == b) && is_look look sight && is_answer s (answer_to a 0 reply)
is_looked_up a look _ _ = false

-- the answer to a `spawn` at a gives a process of a
abbrev pub is_given_at : ℕ → Answer → Reply → Bool
is_given_at a s (Pid q) = (q.node == a) && is_answer s (answer_to a 0 (Pid q))
is_given_at a s _ = false

-- no entry and one answer, of a `spawn` at a
abbrev pub is_spawned : ℕ → List Entry → List Answer → Bool
is_spawned a [] (s ∷ []) = is_given_at a s s.reply
is_spawned a _ _ = false

-- what the step enters of look-ups, and what it answers under number 0
abbrev pub looks_up_once : Played → Bool
looks_up_once p = elim p.event [
  | At a (Event.Calling (Call.LookUp look)) ↦
      is_looked_up a look (filter is_read p.entries) (filter is_unnumbered p.answers)
  | At a (Event.Calling Call.Spawn) ↦ is_spawned a (filter is_read p.entries) (filter is_unnumbered p.answers)
  | _ ↦ is_nil (filter is_read p.entries) && is_nil (filter is_unnumbered p.answers)
]

-- there is a call, and it may have this reply
abbrev pub may_be_answered : Option Call → Reply → Bool
may_be_answered None reply = false
may_be_answered (Some call) reply = may_have call reply

-- no answer under number k, or one, which its call may have
abbrev pub is_at_most_one : List Call → ℕ → List Answer → Bool
is_at_most_one calls k [] = true
is_at_most_one calls k (s ∷ []) = may_be_answered (slice_get calls (k - 1)) s.reply
is_at_most_one calls k _ = false

-- the answer stands at its own node, and under a number of its own
abbrev pub answers_call : List Played → Played → Answer → Bool
answers_call ps p s =
    (s.node == place p.event)
    && ((s.number == 0) || is_at_most_one (calls_at s.node ps) s.number (answers_under s.node s.number ps))

-- where the answer is `joined`, its admission holds before and behind the step
abbrev pub is_joined_in_time : Standing → Standing → Answer → Bool
is_joined_in_time t u s =
    not (is_reply s.reply Joined) || is_admission_of s (hold_at t s.node) && is_admission_of s (hold_at u s.node)

-- the answers of a step come in time
abbrev pub answers_in_time : Standing → Played → Standing → Bool
answers_in_time t p u =
    is_list is_answer (filter is_prompt p.answers) (due t p.entries) && list_all (is_joined_in_time t u) p.answers

-- node m ends what holds; where that is an admission, its joiner is among those answered, or has left
abbrev pub is_joiner_answered : List Answer → Registry → ℕ → Option Hold → Bool
is_joiner_answered given r m None = true
is_joiner_answered given r m (Some hold) = not (hold.node == m) || (elim hold.entry [
  | Entry.Join j k n Joined ↦ not (n == m) || (r.left j || list_any (is_answer (answer_to j k Joined)) given)
  | _ ↦ true
])

-- the entry ends no admission whose joiner is still to be answered; given: the answers before its step
abbrev pub joiner_is_answered : List Answer → Standing → Entry → Bool
joiner_is_answered given t (Entry.Done m) = is_joiner_answered given t.registry m (hold_at t m)
joiner_is_answered given t _ = true

-- each of these entries passes, as things stand before it
abbrev pub all_entries : (Standing → Entry → Bool) → Standing → List Entry → Bool
all_entries passes t [] = true
all_entries passes t (e ∷ es) = passes t e && all_entries passes (after t e) es

-- a leave is refused for a hold of its own node, or not at all; holds: whether there is one
abbrev pub is_leave : Bool → Option Refusal → Bool
is_leave holds None = not holds
is_leave holds (Some HoldsLock) = holds
is_leave holds (Some cause) = false

-- the holder is the node of what holds in the cluster
abbrev pub is_holder : Option ℕ → Option Hold → Bool
is_holder None None = true
is_holder (Some a) (Some hold) = a == hold.node
is_holder _ _ = false

-- how far events were checked
pub record Checked : Type 0 where
  pub plays : List Played
  pub standing : Standing
  pub world : World
  pub keeps : Bool

module _ (o : Opening) where
  -- node a is of the world and hasn't left
  abbrev pub is_running : Standing → ℕ → Bool
  is_running u a = in_world o a && not (u.registry.left a)

  -- node a shows all that the registry has for it
  abbrev pub shows : Registry → ℕ → World → Bool
  shows r a w = is_replica o.bound (w.node a).replica (replica_of r a)

  -- it shows the registry, or, while an operation of its group holds, the registry without that operation
  abbrev pub shows_with_or_without : Standing → ℕ → World → Bool
  shows_with_or_without u a w = shows u.registry a w || not (is_free u a) && shows (old u a) a w

  -- each running node of the group of a passes
  abbrev pub group_all : Standing → ℕ → Nodes → Bool
  group_all u a passes = is_empty o.bound (λ c. in_group u.registry a c && is_running u c && not (passes c))

  -- all running nodes of the group of a show the registry
  abbrev pub group_shows : Standing → ℕ → World → Bool
  group_shows u a w = group_all u a (λ c. shows u.registry c w)

  -- every running node of the group of a has given the global lock to a, and to no other
  abbrev pub has_the_lock : Standing → ℕ → World → Bool
  has_the_lock t a w = group_all t a (λ c. are_nodes o.bound (global_given (w.node c).locks) (λ b. b == a))

  -- the node that decides an operation has the lock
  abbrev pub decider_has_the_lock : World → Standing → Option ℕ → Bool
  decider_has_the_lock w t None = true
  decider_has_the_lock w t (Some a) = has_the_lock t a w

  -- where the entry decides an operation, its node has the lock
  abbrev pub decided_under_lock : World → Standing → Entry → Bool
  decided_under_lock w t e = decider_has_the_lock w t (decided_by e)

  -- the history is what the events added
  abbrev pub keeps_history : List Played → World → Bool
  keeps_history ps w = are_entries w.history (entries_of ps)

  -- at each node the answers to its name and join calls are those of its entries, in their order, each once
  abbrev pub keeps_replies : List Played → Bool
  keeps_replies ps =
      is_empty o.bound (λ a. not (is_prefix is_answer (answers_at a ps) (flat_map (entered_at a) (entries_of ps))))

  -- a running node shows the registry, or, while an operation of its group holds, the registry without it
  abbrev pub keeps_free_and_held : Standing → World → Bool
  keeps_free_and_held u w = is_empty o.bound (λ a. is_running u a && not (shows_with_or_without u a w))

  -- a leave is refused exactly while an operation of that node holds
  abbrev pub keeps_leave : Standing → World → Bool
  keeps_leave u w =
      is_empty o.bound (λ a. is_running u a && not (is_leave (is_holding u a) (refusal o w (At a Event.Leave))))

  -- the holder is the node of the operation that holds in the cluster
  abbrev pub keeps_holder : Standing → World → Bool
  keeps_holder u w = is_holder (holder o w) u.held

  -- where it answers `yes`, every running node of the group shows the registry
  abbrev pub keeps_written : Standing → Played → World → Bool
  keeps_written u p w = list_all (λ s. not (is_reply s.reply Yes) || group_shows u s.node w) p.answers

  -- all that stands between events
  abbrev pub stands : List Played → Standing → World → Bool
  stands ps u w =
      keeps_history ps w && fits o ps && keeps_replies ps && keeps_free_and_held u w && keeps_leave u w
      && keeps_holder u w

  -- all that stands of a step; before: the steps before it
  abbrev pub step_stands : List Played → List Played → Standing → Played → Standing → World → Bool
  step_stands before ps t p u w =
      all_legal t p.entries && list_all (is_made_in p) p.entries && all_entries (decided_under_lock w) t p.entries
      && looks_up_once p
      && answers_in_time t p u && list_all (answers_call ps p) p.answers
      && all_entries (joiner_is_answered (answers_of before)) t p.entries && keeps_written u p w

  -- behind one accepted event more
  abbrev pub checked_to : Checked → Played → List Played → Standing → World → Checked
  checked_to so_far p ps u w = record {
    plays = ps;
    standing = u;
    world = w;
    keeps = so_far.keeps && step_stands so_far.plays ps so_far.standing p u w && stands ps u w;
  }

  -- what was played is checked
  abbrev pub check_played : Checked → WorldEvent → Played → Checked
  check_played so_far e p =
      checked_to so_far p (so_far.plays ++ p ∷ []) (fold after so_far.standing p.entries) (happens o so_far.world e)

  -- a refused event changes nothing
  abbrev pub check_event : Checked → WorldEvent → Option Refusal → Checked
  check_event so_far e (Some refusal) = so_far
  check_event so_far e None = check_played so_far e (played o so_far.world e)

  -- behind one event more
  abbrev pub checked : Checked → WorldEvent → Checked
  checked so_far e = check_event so_far e (refusal o so_far.world e)

  -- before the first event
  abbrev pub opening_check : Checked
  opening_check = record {
    plays = [];
    standing = nothing_yet (in_cluster o);
    world = opening_world o;
    keeps = stands [] (nothing_yet (in_cluster o)) (opening_world o);
  }

  -- the test: the headline holds before these events and behind each of them
  abbrev pub keeps_headline : List WorldEvent → Bool
  keeps_headline es = (fold checked opening_check es).keeps

-- The definitions compute the row: the world prints what it has to, and the headline holds behind each event
pub record Computes (r : Row) : Type 0 where
  pub prints : output r ≡ r.prints
  pub keeps : keeps_headline r.opening (events r) ≡ true
