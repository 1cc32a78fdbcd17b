-- Of every course: its history fits, and the answers to name and join calls are those of the entries and come in
-- time.
use Rattle.std.proofs.Common.{ℕ, ◌≡◌, List, [], ◌∷◌, ◌++◌}
use Rattle.std.specs.Prelude.{None, flat_map, fold, Contains}
use Rattle.registry_model.specs.History.{after}
use Rattle.protocol_model.specs.World.{Opening, World, WorldEvent, opening_world, refusal, accepted, run}
use Rattle.protocol_model.specs.Course.{Played, played, course, entries_of}
use Rattle.protocol_model.specs.Fit.{IsPrefix, Fits}
use Rattle.protocol_model.specs.Answers.{answers_at, entered_at, LooksUpOnce, AnswersInTime}
use Rattle.protocol_model.specs.Headline.{standing, EachStep}
use Rattle.fitting.proofs.Chains
use Rattle.fitting.proofs.Courses
use Rattle.fitting.proofs.Replies
use Rattle.fitting.proofs.LookUps
use Rattle.fitting.proofs.InTime

-- all that is kept along a course
pub record Kept (o : Opening) (w : World) (ps : List Played) : Type 0 where
  pub book : Chains.Book o w ps
  pub spares : Replies.Spares w ps
  pub apart : Courses.Apart w ps
  pub steps : LookUps.AreOwnSteps ps

module _ (o : Opening) (Good : World → Type 0) (K : Chains.Ground o Good) (G : Good (opening_world o))
    (es : List WorldEvent) where
  -- an accepted event keeps it
  pub kept_on : (w : World) (e : WorldEvent) (ps : List Played) → Good w → refusal o w e ≡ None → Kept o w ps
      → Kept o (accepted o w e) (ps ++ played o w e ∷ [])
  kept_on w e ps H is X = record {
    book = Chains.book_keeps o Good K w e ps H is X.book;
    spares = Replies.spares_keep o w e ps (K.replicas w H) X.book is X.spares;
    apart = Courses.apart_keeps o w e ps (K.walks w e H is) is X.apart;
    steps = LookUps.own_steps_keep o w e ps (K.replicas w H) X.book (Chains.book_keeps o Good K w e ps H is X.book)
        X.spares X.apart.rested is (K.walks w e H is) X.steps;
  }

  -- the world and the course of these events
  pub kept_run : Kept o (run o (opening_world o) es) (course o (opening_world o) es)
  kept_run = Chains.course_keeps o Good K (Kept o) kept_on es (opening_world o) [] G
      (record {
        book = Chains.book_opens o;
        spares = Replies.spares_open o;
        apart = Courses.apart_opens o;
        steps =
            LookUps.own_steps_open;
      })

  -- the history is what the events added
  pub history : (run o (opening_world o) es).history ≡ entries_of (course o (opening_world o) es)
  history = kept_run.book.history

  -- it fits them
  pub fits : Fits (course o (opening_world o) es)
  fits = record {
    calls = Chains.book_calls o (run o (opening_world o) es) (course o (opening_world o) es) kept_run.book;
    exits = kept_run.apart.fits.exits;
    departures = kept_run.apart.fits.departures;
    notices = kept_run.apart.fits.notices;
  }

  -- a look-up is entered once and answered once; nothing but it and `spawn` is answered under number 0
  pub looks : (p : Played) → Contains (course o (opening_world o) es) p → LooksUpOnce p
  looks p c = (kept_run.steps p c).looks

  -- the answers to name and join calls are those of the entries, in their order, each once
  pub replies : (a : ℕ) → IsPrefix (answers_at a (course o (opening_world o) es))
      (flat_map (entered_at a) (entries_of (course o (opening_world o) es)))
  replies = Replies.book_replies o (run o (opening_world o) es)
      (course o (opening_world o) es) kept_run.book kept_run.spares

  -- they come in time
  pub in_time : EachStep (course o (opening_world o) es)
      (λ before p. AnswersInTime (standing o before) p (fold after (standing o before) p.entries))
  in_time = InTime.in_time o Good K G es
