-- Nodes as their threads start, and what those give back.
use Rattle.std.proofs.Common.{ℕ, ◌≡◌, Bool, true, false, List, [], ◌∷◌, refl, inl, le_refl, ap, sym, subst, ◌∙◌}
use Rattle.std.specs.Prelude.{if◌then◌else◌}
use Rattle.term.specs.NodeSets.{set_of}
use Rattle.node_loop.specs.NodeCoreState.{CoreState, fresh, opening_core}
use Rattle.node_loop.specs.Coming.{begun}
use Rattle.node_loop.specs.Editions.{opening}
use Rattle.node_loop.specs.Owing.{shown_by, Owes}
use Rattle.node_seats.specs.declared.Moment.{Moment}
use Rattle.node_seats.specs.Moments.{moment, shown_at, Follows}
use Rattle.node_seats.specs.Publishing.{Progress, Publishes}
use Rattle.node_seats.proofs.Onward.{comes_from_itself}
use Rattle.link.specs.declared.mailbox.Mailbox.{Mailbox}
use Rattle.link.specs.Mailboxes.{taken}
use Rattle.node_loop.specs.declared.item.Item.{Item}
use Rattle.node_loop.specs.Held.{Looping, written}
use Rattle.node_loop.specs.Dealings.{Dealt}
use Rattle.node_loop.specs.Sound.{IsSound, Tells}
use Rattle.node_seats.specs.declared.parcel.Parcel.{Parcel}
use Rattle.node_seats.specs.Lines.{Sent}
use Rattle.replay.specs.Ends.{End}
use Rattle.node_threads.specs.Givers.{receivers}
use Rattle.node_seats.specs.Addresses.{Inbox}
use Rattle.node_threads.specs.Wires.{Wired}
use Rattle.node_threads.specs.Ends.{are_inside}
use Rattle.node_threads.specs.Dealings.{dealt_by}
use Rattle.node_threads.specs.Starts.{IsAtStart}
use Rattle.node_threads.specs.Drawing.{Drawn}
use Rattle.node_threads.specs.Ended.{IsEndOf, Returns}
use Rattle.node_threads.proofs.Dealing.{deals_nothing}
use Rattle.node_threads.proofs.Stopping.{named}

-- what readers are shown of a node that took no step
pub opens_so : (nodes cluster : List ℕ) (a : Looping) (name stamp : ℕ) (core : CoreState) → a ≡ begun stamp core → core ≡ opening_core nodes cluster name
    → shown_by a ≡ opening a.log.node
opens_so nodes cluster a name stamp core is opens = subst (λ (x : Looping). shown_by x ≡ opening x.log.node) (sym is)
    (λ j. record { node = core.name; table = (ap (λ (h : CoreState). h.table) opens ∙ empty (set_of cluster name)) j; length = 0; left = false })
  where
    empty : (b : Bool) → (if b then fresh name nodes cluster true else fresh name nodes (name ∷ []) false).table ≡ []
    empty true = refl
    empty false = refl

-- nothing is owed to them
pub publishes_first : (a : Looping) (p : Progress) (stamp : ℕ) (core : CoreState) → a ≡ begun stamp core → p.known.log ≡ moment false a ∷ []
    → Publishes a p
publishes_first a p stamp core is first = subst (λ (ms : List Moment). Follows ms a × Owes a (shown_at ms)) (sym first) (
  (comes_from_itself a, inl refl),
  subst (λ (x : Looping). Owes x (shown_by x)) (sym is) (record { world = refl; length = le_refl 0; leads = refl }),
)

-- by other names of the same
pub at_start : (inbox : Inbox) (a b : Looping) (lines rows : List (Sent Item)) (m n : Mailbox (Parcel Item)) → b ≡ a → rows ≡ lines → n ≡ m
    → IsAtStart inbox a lines m → IsAtStart inbox b rows n
at_start inbox a b lines rows m n p q r S =
    subst (λ (x : Looping × List (Sent Item) × Mailbox (Parcel Item)). IsAtStart inbox x.0 x.1 x.2) (λ j. (sym p j, sym q j, sym r j)) S

-- a node that was at its start gives back what tells of it, in each world in which its core is that of its opening
module _ (inbox : Inbox) (a : Looping) (lines : List (Sent Item)) (mailbox : Mailbox (Parcel Item)) (S : IsAtStart inbox a lines mailbox) (e : End) (rows : List (Sent Item)) (box : Mailbox (Parcel Item)) (E : IsEndOf a lines mailbox e rows box) where
  begins_with : dealt_by lines (taken mailbox) ≡ dealt_by lines []
  begins_with = ap (dealt_by lines) S.empty

  pub returns_so : (w : Wired) (d : Drawn) → record { inbox = inbox; core = a.core; lines = lines } ≡ w
      → d ≡ record { inbox = inbox; taken = taken box } → Returns w e rows d
  returns_so w d is drawn = subst (λ (x : Wired). Returns x e rows d) is (record {
    left = named e a.log.node inbox.node (E.left.node ∙ S.node) S.node E.left;
    first = ap (λ (x : Looping). x.core) E.first;
    kept = E.kept ∙ S.fresh;
    inbox = ap (λ (x : Drawn). x.inbox) drawn;
    tells = λ o of opens inside.
        subst (λ (p : List (Parcel Item)). Tells o (written e.log) e.table (dealt_by rows p))
        (sym (ap (λ (x : Drawn). x.taken) drawn))
        (E.tells o (ap (λ (n : ℕ). are_inside o n (receivers lines)) S.node ∙ inside)
        (subst (λ (x : Dealt). IsSound o a x) (sym (begins_with ∙ deals_nothing lines S.fresh)) (S.sound o of opens)));
  })
