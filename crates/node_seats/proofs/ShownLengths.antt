-- Behind how long a log a node has shown its readers an edition.
use Rattle.std.proofs.Common.{ℕ, ◌≡◌, [], ap, sym, ◌∙◌, subst, refl}
use Rattle.shared_table.specs.declared.Edition.{Edition}
use Rattle.shared_table.specs.Coming.{begun, IsLoopOf}
use Rattle.shared_table.specs.NodeCoreState.{opening_core}
use Rattle.registry_model.specs.Process.{Text}
use Rattle.shared_table.specs.declared.reader.Lookup.{Lookup}
use Rattle.shared_table.specs.declared.reader.Lookup.TheVariants.{Owner, Left, Behind, Gone}
use Rattle.shared_table.specs.Readers.{Seen, Reads, Finds}
use Rattle.shared_table.proofs.Reading.{loop_at}
use Rattle.node_seats.specs.Replies.{HasShown}

-- before its first step
pub nothing_told : (name : ℕ) → HasShown name 0
nothing_told name = ∣ record {
  node = begun 0 (opening_core [] [] name);
  came = record { nodes = []; cluster = []; stamp = 0; moves = 0; comes = refl };
  long = refl;
} ∣₁

-- where its table was read
pub read_told : (name : ℕ) (old new : Seen) → Reads name old new → HasShown name new.told
read_told name old new R =
    let at = loop_at new.known.log R.some R.moments in ∣ record {
      node = at.0;
      came = subst (λ (n : ℕ). IsLoopOf n at.0) R.own at.1;
      long = ap (λ (e : Edition). e.length) (sym at.2) ∙ sym R.told;
    } ∣₁

-- whatever came of a look-up
pub still_told : (r : Lookup) (name : ℕ) (x : Text) (old new : Seen) → Finds r name x old new → HasShown name old.told → HasShown name new.told
still_told (Owner owner) name x old new f h = read_told name old new f.0
still_told Left name x old new f h = read_told name old new f.0
still_told Behind name x old new f h = subst (λ (s : Seen). HasShown name s.told) (sym f.same) h
still_told Gone name x old new f h = subst (λ (s : Seen). HasShown name s.told) (sym f) h

-- the book is the same
pub same_book : (r : Lookup) (name : ℕ) (x : Text) (old new : Seen) → Finds r name x old new → new.known.book ≡ old.known.book
same_book (Owner owner) name x old new f = f.0.book
same_book Left name x old new f = f.0.book
same_book Behind name x old new f = ap (λ (s : Seen). s.known.book) f.same
same_book Gone name x old new f = ap (λ (s : Seen). s.known.book) f
