-- Seats that are given out by a cluster, until it is ended.
use Rattle.std.proofs.Common.{ℕ, zero, suc, Bool, ◌≡◌, ◌≤◌, ◌+◌, List, ◌++◌, length, length-append, Option, None, Result, Ok, Err, refl, sym, ap, subst, inl, inr, ◌∙◌, arith}
use Rattle.std.specs.Prelude.{◌||◌, OnOk, OnErr}
use Rattle.std.specs.Io.KnownBytes.{Appends}
use Rattle.std.proofs.KnownBytes.{Appends-kept, Appends-trans}
use Rattle.term.specs.NodeSets.{set_of}
use Rattle.term.specs.declared.limits.TheConstants.{MOST_NODES}
use Rattle.term.proofs.Subsets.{set_of-append}
use Rattle.text_lines.proofs.Written.{AppendsPart-behind}
use Rattle.node_threads.specs.Openings.{start_refused}
use Rattle.node_threads.proofs.Opening.{few}
use Rattle.node_threads.specs.Wires.{IsCrew}
use Rattle.node_threads.specs.Seating.{no_seats}
use Rattle.node_threads.specs.Clusters.{Crewed, seats_more}
use Rattle.server.specs.declared.faults.StayFault.{StayFault}
use Rattle.server.specs.declared.faults.StayFault.TheVariants.{Start, Write, Memory}
use Rattle.server.specs.Staying.{AreAll, seated, GivesOut, Ending, Ends, EndsAfter, StaysCluster, StaysRunning, TellsEnd, end_line}

none_more : (some : ℕ) → zero + some ≡ some
none_more some = omega arith

one_more : (more some : ℕ) → suc more + some ≡ suc (more + some)
one_more more some = omega arith

seated-both : (more some : ℕ) (c : Crewed) → seated (more + some) c ≡ seated more (seated some c)
seated-both zero some c = ap (λ (n : ℕ). seated n c) (none_more some)
seated-both (suc more) some c =
    ap (λ (n : ℕ). seated n c) (one_more more some) ∙ ap (λ (d : Crewed). seats_more d) (seated-both more some c)

-- none was given out
pub gives_none : (c : Crewed) → GivesOut c c
gives_none c = record { many = zero; is = refl }

-- some were, and then others
pub gives_both : (c m d : Crewed) → GivesOut c m → GivesOut m d → GivesOut c d
gives_both c m d a b = record {
  many = b.many + a.many;
  is = b.is ∙ ap (λ (x : Crewed). seated b.many x) a.is ∙ sym (seated-both b.many a.many c);
}

-- one was asked for, and given or refused
pub gives_asked : {A B : Type 0} (c d : Crewed) (r : Result A B) → OnOk r (d ≡ seats_more c) → OnErr r (d ≡ c) → GivesOut c d
gives_asked c d (Ok seat) made unmade = record { many = suc zero; is = made }
gives_asked c d (Err fault) made unmade = record { many = zero; is = unmade }

-- all else of the cluster stays
seated_keeps : (many : ℕ) (c : Crewed)
    → ((seated many c).cluster ≡ c.cluster) × ((seated many c).lone ≡ c.lone) × ((seated many c).crew ≡ c.crew)
seated_keeps zero c = (refl, refl, refl)
seated_keeps (suc many) c = seated_keeps many c

gives_keep : (c d : Crewed) → GivesOut c d → (d.cluster ≡ c.cluster) × (d.lone ≡ c.lone) × (d.crew ≡ c.crew)
gives_keep c d r = subst (λ (x : Crewed). (x.cluster ≡ c.cluster) × (x.lone ≡ c.lone) × (x.crew ≡ c.crew)) (sym r.is)
    (seated_keeps r.many c)

-- the set of the nodes of both lists has those of a cluster that began with them
pub all_nodes : (cluster lone nodes : List ℕ) (c : Crewed) → start_refused cluster lone ≡ None → c.cluster ≡ cluster → c.lone ≡ lone
    → (length cluster + length lone ≤ MOST_NODES → (n : ℕ) → set_of nodes n ≡ (set_of cluster n || set_of lone n)) → AreAll nodes c
all_nodes cluster lone nodes c fine joined others all n =
    all (omega (arith, few cluster lone fine, length-append cluster lone)) n ∙ sym (set_of-append cluster lone n)
    ∙ (λ j. set_of (sym joined j ++ sym others j) n)

-- the same where seats were given out
pub all_kept : (nodes : List ℕ) (c d : Crewed) → GivesOut c d → AreAll nodes c → AreAll nodes d
all_kept nodes c d r all n = all n ∙ sym (λ j. set_of ((gives_keep c d r).0 j ++ (gives_keep c d r).1 j) n)

-- behind the first line the last one tells what the cluster came to
pub tells_behind : (c : Crewed) (line : List ℕ) (old mid new : Option (List ℕ)) → Appends old mid line → (r : Result Bool StayFault)
    → TellsEnd c mid new r → StaysRunning c line old new r
tells_behind c line old mid new h (Ok good) t = (t.0, t.1, t.2, Appends-trans old mid new line (end_line t.0) h t.3)
tells_behind c line old mid new h (Err Write) t = inr (t.0, t.1, AppendsPart-behind old mid new line (end_line t.0) h t.2)
tells_behind c line old mid new h (Err Memory) t = Appends-kept old mid new line h t
tells_behind c line old mid new h (Err Start) t = absurd t

module _ (cluster lone : List ℕ) (first : Crewed) (joined : first.cluster ≡ cluster) (others : first.lone ≡ lone) (crew : IsCrew cluster lone first.crew) (unused : first.seating ≡ no_seats) where
  ends_after : (last : Crewed) → GivesOut first last → (ending : Ending) → Ends last ending → EndsAfter cluster lone ending
  ends_after last seats ending ends = record {
    first = first;
    crew = crew;
    unused = unused;
    last = last;
    seats = seats;
    of = (kept.0 ∙ joined, kept.1 ∙ others, kept.2);
    ends = ends;
  }
    where
      kept : (last.cluster ≡ first.cluster) × (last.lone ≡ first.lone) × (last.crew ≡ first.crew)
      kept = gives_keep first last seats

  pub stays : (last : Crewed) → GivesOut first last → (line : List ℕ) (old new : Option (List ℕ)) (r : Result Bool StayFault)
      → StaysRunning last line old new r → StaysCluster cluster lone line old new r
  stays last seats line old new (Ok good) t = (t.0, ends_after last seats t.0 t.1, t.2, t.3)
  stays last seats line old new (Err Write) t = elim t [
    | inl p ↦ inl p
    | inr p ↦ inr (p.0, ends_after last seats p.0 p.1, p.2)
  ]
  stays last seats line old new (Err Memory) t = t
  stays last seats line old new (Err Start) t = absurd t
