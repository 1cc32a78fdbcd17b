-- How what is printed of a turn comes to be.
use Rattle.std.proofs.Common.{◌≡◌, Some, Result, Ok, Err, List, [], ◌∷◌, ◌++◌, refl, sym, ap, subst, ◌∙◌, append-nil, string_bytes}
use Rattle.std.specs.Prelude.{OnOk}
use Rattle.node_loop.specs.Held.{Looping}
use Rattle.node_loop.specs.Owing.{TakesUpdate}
use Rattle.node_loop.specs.Told.{Told}
use Rattle.node_loop.specs.declared.edit.Note.TheVariants.{Nothing}
use Rattle.node_loop.specs.declared.edit.Owed.{Owed}
use Rattle.node_loop.specs.declared.edit.Update.{Update}
use Rattle.node_port.specs.Deeds.{Stand, Show, Hand, IsHanded, IsAllTold}
use Rattle.node_port.specs.Edits.{Edited, Stood, edit_lines}
use Rattle.node_port.specs.Shown.{Shown, Tells, shown_line, shown_lines}
use Rattle.node_port.specs.Working.{stand_of, Grows, ShowsAll, ShowsStill}
use Rattle.node_port.specs.declared.output.Output.{Output}
use Rattle.node_port.specs.declared.port.Port.{Port}
use Rattle.node_port.proofs.Growing.{grows_none, grows_answer}
use Rattle.node_port.proofs.Working.{shows_on, shows_all}

-- nothing is shown
pub shows_nothing : (a b : Port) → stand_of b ≡ stand_of a → b.output ≡ a.output → ShowsStill a b
shows_nothing a b same output = (
  [],
  record {
    does = same;
    grows = subst (λ (o : Output). Grows [] [] a.output o) (sym output) (grows_none a.output);
    told = λ e. subst (λ (x : Stand). IsAllTold x.loop) (sym same) e;
  },
  refl,
)

-- it is shown how the node stands
pub shows_stood : (a b : Port) → stand_of b ≡ stand_of a
    → Grows (Stood a.node.core.joined a.node.core.members ∷ []) [] a.output b.output → ShowsStill a b
shows_stood a b same grown = (
  Show (Stood a.node.core.joined a.node.core.members) ∷ [],
  record {
    does = (stand_of a, ((refl, refl, refl), refl), same);
    grows = grown;
    told = λ e. subst (λ (x : Stand). IsAllTold x.loop) (sym same) e;
  },
  refl,
)

-- all that is owed to readers of the table is shown
pub shows_edit : (a b : Port) (u : Update) → TakesUpdate (Some u) a.node b.node → b.end ≡ a.end
    → string_bytes b.output.changes ≡ string_bytes a.output.changes ++ shown_lines (edit_lines u.edit)
    → string_bytes b.output.answers ≡ string_bytes a.output.answers → ShowsStill a b
shows_edit a b u takes end changes answers = (
  Show (Edited u) ∷ [],
  record {
    does = (stand_of b, (takes, end), refl);
    grows = record {
      changes_are = changes
          ∙ ap (λ (ss : List Shown). string_bytes a.output.changes ++ shown_lines ss) (sym (append-nil (edit_lines u.edit)));
      answers_are = answers ∙ sym (append-nil (string_bytes a.output.answers));
    };
    told = λ e. (ap (λ (l : Looping). l.owed.note) takes.0, ap (λ (l : Looping). l.desk.replies) takes.0 ∙ e.1);
  },
  refl,
)

-- the oldest reply is shown
pub shows_reply : (a b : Port) (t : Told) → IsHanded t a.node b.node → b.end ≡ a.end
    → string_bytes b.output.changes ≡ string_bytes a.output.changes
    → string_bytes b.output.answers ≡ string_bytes a.output.answers ++ shown_line (Tells t) → ShowsStill a b
shows_reply a b t handed end changes answers = (
  Hand t ∷ [],
  record {
    does = (stand_of b, (handed, end), refl);
    grows = grows_answer (Tells t) a.output b.output changes answers;
    told = λ e. absurd (cc (sym handed.oldest ∙ e.1));
  },
  refl,
)

-- the table is shown, and how the node stands, and all replies: so all is
pub shows_each : {A E : Type 0} (r : Result A E) (a b c d : Port) → ShowsStill a b → b.node.owed.note ≡ Nothing → ShowsStill b c → c.node ≡ b.node
    → OnOk r (ShowsStill c d) → OnOk r (d.node.desk.replies ≡ []) → d.node.owed ≡ c.node.owed → OnOk r (ShowsAll a d)
shows_each (Ok u) a b c d S none T node R replies owed =
    shows_all a d (shows_on a b d S (shows_on b c d T R))
    (ap (λ (o : Owed). o.note) owed ∙ (ap (λ (l : Looping). l.owed.note) node ∙ none), replies)
shows_each (Err e) a b c d S none T node R replies owed = tt
