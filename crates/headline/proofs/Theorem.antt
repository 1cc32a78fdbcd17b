-- The headline for every list of events, and each of its clauses.
use Rattle.std.proofs.Common.{List}
use Rattle.protocol_model.specs.World.{Opening, WorldEvent}
use Rattle.headline.specs.Worlds.{OfNodes, Agrees}
use Rattle.fitting.proofs.Theorem
use Rattle.headline.specs.Clauses.{world, events, HistoryGrows, HistoryIsLegal, HistoryFits, AnswersAreEntries, AnswersComeInTime, EntriesAreMadeAtHome, IsDecidedUnderLock, EachLookUpOnce, CallsAreAnsweredOnce, JoinersAreAnswered, ShowsWhenFree, ShowsWhenHeld, YesIsWritten, JoinedIsWelcomed, LeaveWaits, HolderHolds}
use Rattle.headline.proofs.Together.{Whole, run_whole, whole_opens}
use Rattle.headline.proofs.Story.{ground, Written, written}
use Rattle.headline.proofs.Fields
use Rattle.headline.proofs.Making
use Rattle.headline.proofs.Deciders
use Rattle.headline.proofs.Answered
use Rattle.headline.proofs.Joiners
use Rattle.headline.proofs.LookingUp.{look_ups_read_the_table}
use Rattle.headline.proofs.NextSerial.{spawns_give_the_next}
use Rattle.headline.proofs.Exiting.{exits_kill_at_once}
use Rattle.headline.proofs.Reasons.{refusals_in_words}
use Rattle.headline.proofs.Welcomed

module _ (o : Opening) (es : List WorldEvent) where
  -- all families hold
  pub whole : Whole o (world o es)
  whole = run_whole o es

  -- the history is that of the events, and `yes` comes when all is written
  pub told : Written o (events o es) (world o es)
  told = written o es

pub history_grows : HistoryGrows
history_grows o es = (told o es).history

pub history_is_legal : HistoryIsLegal
history_is_legal o es = Fields.legal o (events o es) (world o es) (whole o es) (told o es)

pub history_fits : HistoryFits
history_fits o es = Theorem.fits o (Whole o) (ground o) (whole_opens o) es

pub answers_are_entries : AnswersAreEntries
answers_are_entries o es = Theorem.replies o (Whole o) (ground o) (whole_opens o) es

pub answers_come_in_time : AnswersComeInTime
answers_come_in_time o es = Theorem.in_time o (Whole o) (ground o) (whole_opens o) es

pub entries_are_made_at_home : EntriesAreMadeAtHome
entries_are_made_at_home o es = Making.made o es

pub decided_under_lock : IsDecidedUnderLock
decided_under_lock o es = Deciders.decided o es

pub looks_up_once : EachLookUpOnce
looks_up_once o es = Answered.looks o es

pub calls_are_answered_once : CallsAreAnsweredOnce
calls_are_answered_once o es = Answered.calls_answered o es

pub joiners_are_answered : JoinersAreAnswered
joiners_are_answered o es = Joiners.joiner o es

pub shows_when_free : ShowsWhenFree
shows_when_free o es = Fields.free o (events o es) (world o es) (whole o es) (told o es)

pub shows_when_held : ShowsWhenHeld
shows_when_held o es = Fields.held o (events o es) (world o es) (whole o es) (told o es)

pub yes_is_written : YesIsWritten
yes_is_written o es = Fields.written o (events o es) (world o es) (whole o es) (told o es)

pub joined_is_welcomed : JoinedIsWelcomed
joined_is_welcomed o es = Welcomed.joined_is_welcomed o es

pub leave_waits : LeaveWaits
leave_waits o es = Fields.leave o (events o es) (world o es) (whole o es) (told o es)

pub holder_holds : HolderHolds
holder_holds o es = Fields.holder o (events o es) (world o es) (whole o es) (told o es)

-- the headline
pub agreement : OfNodes Agrees
agreement o es = record {
  history = history_grows o es;
  legal = history_is_legal o es;
  fits = history_fits o es;
  replies = answers_are_entries o es;
  in_time = answers_come_in_time o es;
  made = entries_are_made_at_home o es;
  decided = decided_under_lock o es;
  looks = looks_up_once o es;
  reads = look_ups_read_the_table o es;
  spawns = spawns_give_the_next o es;
  exited = exits_kill_at_once o es;
  answered = calls_are_answered_once o es;
  joiner = joiners_are_answered o es;
  free = shows_when_free o es;
  held = shows_when_held o es;
  written = yes_is_written o es;
  welcomed = joined_is_welcomed o es;
  leave = leave_waits o es;
  refusals = refusals_in_words o es;
  holder = holder_holds o es;
}
