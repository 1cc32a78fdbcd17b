-- What a sending over a line of an end comes to.
use Rattle.std.proofs.Common.{ℕ, Bool, true, false, ◌==◌, ◌≡◌, ◌<◌, Some, is_some, Result, Ok, Err, List, [], ◌∷◌, length, get_or, set, zero, suc, sym, ap, subst, ◌∙◌, arith}
use Rattle.std.specs.Prelude.{OnOk, OnErr, IfErr, MatchResult, if◌then◌else◌}
use Rattle.std.proofs.lemmas.List.{set-get_or}
use Rattle.std.proofs.lemmas.List.Quantifiers.{position-Some}
use Rattle.link.specs.declared.faults.Unsent.{Unsent}
use Rattle.link.specs.declared.faults.LinkFault.TheVariants.{Full}
use Rattle.link.specs.declared.mailbox.Mailbox.{Mailbox}
use Rattle.node_loop.specs.declared.item.Item.{Item}
use Rattle.node_loop.specs.declared.item.Task.{Task}
use Rattle.node_seats.specs.declared.parcel.Parcel.{Parcel}
use Rattle.node_seats.specs.Lines.{Sent, place, with_parcel, with_parcel_to}
use Rattle.node_threads.specs.declared.ruled_end.Traffic.{Traffic}
use Rattle.node_threads.specs.Givers.{receivers, letters_of, tasks_of}
use Rattle.node_threads.specs.Traffics.{Posts, Refuses}
use Rattle.node_threads.proofs.Lines.{receivers_kept}
use Rattle.node_threads.proofs.Givers.{end_at}

-- the first line to a node is written with an item more
written : (to : ℕ) (item : Item) (lines : List (Sent Item)) (k : ℕ) (line : Sent Item) → line ≡ get_or lines k line → k < length lines
    → (line.receiver == to) ≡ true → ((n : ℕ) → n < k → ((get_or lines n line).receiver == to) ≡ false)
    → set lines k (with_parcel item line) ≡ with_parcel_to to item lines
written to item [] k line read lt leads before = absurd (omega (arith, lt))
written to item (x ∷ xs) zero line read lt leads before =
    ap (λ (s : Sent Item). with_parcel item s ∷ xs) read
    ∙ sym (ap (λ (b : Bool). if b then with_parcel item x ∷ xs else x ∷ with_parcel_to to item xs)
    (subst (λ (s : Sent Item). (s.receiver == to) ≡ true) read leads))
written to item (x ∷ xs) (suc k) line read lt leads before =
    ap (λ (ls : List (Sent Item)). x ∷ ls)
    (written to item xs k line read (omega (arith, lt)) leads (λ n l. before (suc n) (omega (arith, l))))
    ∙ sym (ap (λ (b : Bool). if b then with_parcel item x ∷ xs else x ∷ with_parcel_to to item xs) (before 0 (omega arith)))

-- the line at the place of a node, which is written back behind it
module _ (node to : ℕ) (first : Mailbox (Parcel Item)) (lines : List (Sent Item)) (parcels : List (Parcel Item)) (waiting : List Task) (row : ℕ) (passed : Bool) (looked : ℕ) (dry : Bool) (item : Item) (k : ℕ) (line new : Sent Item) (found : place to lines ≡ Some k) (read : line ≡ get_or lines k line) where
  abbrev with : List (Sent Item) → Traffic
  with ls = end_at node first ls parcels waiting row passed looked dry

  there : (k < length lines) × ((get_or lines k line).receiver == to ≡ true) × ((n : ℕ) → n < k → ((get_or lines n line).receiver == to) ≡ false)
  there = position-Some (λ l. l.receiver == to) lines k line found

  posts : new ≡ with_parcel item line → Posts (with lines) to item (with (set lines k new))
  posts is = (
    ap is_some found,
    λ j. record {
      node = node;
      first = first;
      lines = more j;
      letters = letters_of (kept j) parcels;
      tasks = tasks_of parcels;
      waiting = waiting;
      in_a_row = row;
      has_passed = passed;
      looks = looked;
      in_vain = dry;
    },
  )
    where
      more : set lines k new ≡ with_parcel_to to item lines
      more = ap (set lines k) is
          ∙ written to item lines k line read there.0 (subst (λ (s : Sent Item). (s.receiver == to) ≡ true) (sym read) there.1) there.2

      kept : receivers (set lines k new) ≡ receivers lines
      kept = ap receivers more ∙ receivers_kept to item lines

  still : new ≡ line → with (set lines k new) ≡ with lines
  still is = ap with (ap (set lines k) (is ∙ read) ∙ set-get_or lines k line)

  abbrev Comes : Result (Unit {0}) (Unsent Item) → Traffic → Type 0
  Comes r s = MatchResult r (λ _. Posts s to item (with (set lines k new)))
      (λ unsent. (unsent.letter ≡ item) × (with (set lines k new) ≡ s) × Refuses s to item unsent.fault)

  comes : (r : Result (Unit {0}) (Unsent Item)) → OnOk r (new ≡ with_parcel item line) → OnErr r (new ≡ line)
      → IfErr r (λ unsent. unsent ≡ record { fault = Full; letter = item }) → Comes r (with lines)
  comes (Ok u) ok unchanged err = posts ok
  comes (Err unsent) ok unchanged err = (
    ap (λ x. x.letter) err,
    still unchanged,
    subst (λ fault. Refuses (with lines) to item fault) (sym (ap (λ x. x.fault) err)) (ap is_some found),
  )

  pub posts_or_not : (s : Traffic) → with lines ≡ s → (r : Result (Unit {0}) (Unsent Item)) → OnOk r (new ≡ with_parcel item line)
      → OnErr r (new ≡ line) → IfErr r (λ unsent. unsent ≡ record { fault = Full; letter = item }) → Comes r s
  posts_or_not s is r ok unchanged err = subst (Comes r) is (comes r ok unchanged err)
