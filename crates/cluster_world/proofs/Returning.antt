-- A name comes back: the world behind it, by what was done on the way.
use Rattle.std.proofs.Common.{ℕ, true, false, ◌≡◌, ◌<◌, ◌+◌, Some, List, [], ◌∷◌, ◌++◌, length, get_or, take, set, map, refl, sym, ap, subst, ◌∙◌, arith}
use Rattle.std.specs.List.{All}
use Rattle.std.proofs.Math.Seq.{take-append_seam}
use Rattle.std.proofs.lemmas.List.{length-map, length-set, get_or-map, get_or_default}
use Rattle.getting_through.specs.NamedWorld.{next_node}
use Rattle.term.specs.Nodes.{name_of, text_in}
use Rattle.term.specs.NodeSets.{set_of, with_older, succeeded}
use Rattle.term.proofs.NodePlaces.{place-Some}
use Rattle.link.specs.MeshState.{place}
use Rattle.node_core.specs.CoreState.{CoreState, HaveLeft, fresh_behind}
use Rattle.world_events.specs.declared.events.WorldEvent.{WorldEvent}
use Rattle.world_history.specs.declared.entry.HistoryEntry.{HistoryEntry}
use Rattle.cluster_world.specs.WorldState.{WorldState, nodes_of}
use Rattle.cluster_world.specs.Mail.{Mailed, links_of}
use Rattle.cluster_world.specs.Playing.{Played}
use Rattle.cluster_world.specs.Restarting.{replaced_in, CanReplace}
use Rattle.cluster_world.specs.Seen.{names_of, named}
use Rattle.cluster_world.specs.declared.admission.Comeback.{Comeback}
use Rattle.cluster_world.specs.Admissions.{MayStart}
use Rattle.cluster_world.specs.Steps.{IsAdmitted}
use Rattle.cluster_world.specs.Whole.{IsWhole}
use Rattle.cluster_world.proofs.Listed.{known_place}
use Rattle.cluster_world.proofs.Restarting.{gone_then, further, next_named, next_is, can_replace, unanswered, comes_back, names_back, whole_back}
use Rattle.cluster_world.proofs.Succeeding.{not_left, there_now}
use Rattle.cluster_world.proofs.Steps.{core_name}

-- what was written through a slice of all is all there is
pub wrote_all : {A : Type 0} (n : ℕ) (xs more : List A) → length xs ≡ n → take n (xs ++ more) ≡ xs
wrote_all {A} n xs more e = subst (λ (m : ℕ). take m (xs ++ more) ≡ xs) e (take-append_seam xs more)

-- the running nodes took the next node through a slice of all
pub slice_is : (ds : List ℕ) (a b n : ℕ) (was cs now more then : List CoreState) → now ≡ was → cs ≡ map (replaced_in ds a b) now
    → n ≡ length was → then ≡ take n (cs ++ more) → then ≡ map (replaced_in ds a b) was
slice_is ds a b n was cs now more then same took long wrote = wrote
    ∙ wrote_all n cs more (ap (λ (xs : List CoreState). length xs) (took ∙ ap (map (replaced_in ds a b)) same)
    ∙ length-map was (replaced_in ds a b) ∙ sym long)
    ∙ took ∙ ap (map (replaced_in ds a b)) same

-- and a core was put there
pub slice_put : (ds : List ℕ) (a b n p : ℕ) (was then cs more : List CoreState) (core : CoreState) → then ≡ map (replaced_in ds a b) was
    → n ≡ length was → cs ≡ set then p core → take n (cs ++ more) ≡ set then p core
slice_put ds a b n p was then cs more core took long put = wrote_all n cs more (ap (λ (xs : List CoreState). length xs) put
    ∙ length-set then p core ∙ ap (λ (xs : List CoreState). length xs) took ∙ length-map was (replaced_in ds a b) ∙ sym long)
    ∙ put

module _ (old h : WorldState) (is_old : h ≡ old) (whole : IsWhole h) (went : HaveLeft (nodes_of h) h.links.departed) (d : Comeback)
    (M : MayStart d old) where
  abbrev p : ℕ
  p = d.place

  abbrev a : ℕ
  a = d.older

  abbrev x : ℕ
  x = name_of d.older

  here : IsAdmitted p (WorldEvent.Restart x) h
  here = subst (IsAdmitted p (WorldEvent.Restart x)) (sym is_old) M.admitted

  there : place a (nodes_of h) ≡ Some p
  there = ap (λ (k : WorldState). place a (nodes_of k)) is_old ∙ M.older

  own : name_of a ≡ x
  own = refl

  known : set_of (nodes_of h) a ≡ true
  known = known_place (nodes_of h) a p there

  gone : with_older h.links.departed a ≡ true
  gone = gone_then h whole went a x p there own here.accepted

  pub long : p < length h.cores
  long = omega (
    arith,
    (place-Some a (nodes_of h) p there).0,
    ap (λ (ns : List ℕ). length ns) whole.names,
    length-map h.cores core_name,
  )

  abbrev b : ℕ
  b = d.next

  next : b ≡ a + 1
  next = M.next

  pub long_then : (ds : List ℕ) (cs : List CoreState) → cs ≡ map (replaced_in ds a b) h.cores → p < length cs
  long_then ds cs e = omega (arith, long, ap (λ (xs : List CoreState). length xs) e, length-map h.cores (replaced_in ds a b))

  -- the older node is there, and has left
  pub older_known : (links : Mailed) → links.nodes ≡ nodes_of h → set_of links.nodes a ≡ true
  older_known links e = ap (λ (ns : List ℕ). set_of ns a) e ∙ known

  pub older_left : (links : Mailed) → links.departed ≡ h.links.departed → with_older links.departed a ≡ true
  older_left links e = ap (λ (ns : List ℕ). with_older ns a) e ∙ gone

  -- the running nodes were told
  pub were_told : (ds : List ℕ) (cs : List CoreState) → ds ≡ h.links.departed → cs ≡ h.cores → All (CanReplace ds a) cs
  were_told ds cs e f = subst (λ (es : List ℕ). All (CanReplace es a) cs) (sym e)
      (subst (All (CanReplace h.links.departed a)) (sym f) (can_replace h whole went a x p there own here.accepted))

  abbrev later : List ℕ
  later = succeeded a b (nodes_of h)

  -- the next node is there then, and hasn't left
  pub next_known : (ns : List ℕ) → ns ≡ later → set_of ns b ≡ true
  next_known ns e = ap (λ (ms : List ℕ). set_of ms b) e
      ∙ subst (λ (n : ℕ). set_of (succeeded a n (nodes_of h)) n ≡ true) (sym next)
      (there_now (nodes_of h) h.links.departed went a known gone (next_named h whole went a x p there own here.accepted))

  pub next_stays : (ds : List ℕ) → ds ≡ h.links.departed → with_older ds b ≡ false
  next_stays ds e = ap (λ (es : List ℕ). with_older es b) e
      ∙ subst (λ (n : ℕ). with_older h.links.departed n ≡ false) (sym next)
      (not_left (nodes_of h) h.links.departed went a known gone (next_named h whole went a x p there own here.accepted))

  -- it is entered so
  pub restarted_entered : (history : List HistoryEntry) → history ≡ h.history ++ HistoryEntry.Restart b ∷ []
      → history ≡ old.history ++ HistoryEntry.Restart (next_node (names_of old) (named old) (text_in x)) ∷ []
  restarted_entered history entered =
      subst (λ (k : WorldState). history ≡ k.history ++ HistoryEntry.Restart (next_node (names_of k) (named k) (text_in x)) ∷ []) is_old
      (entered ∙ ap (λ (n : ℕ). h.history ++ HistoryEntry.Restart n ∷ [])
      (next ∙ sym (next_is h whole went a x p there own here.accepted)))

  module _ (ds es ns : List ℕ) (cs cores past : List CoreState) (links : Mailed) (history : List HistoryEntry) (fresh : CoreState)
      (ds_are : ds ≡ h.links.departed) (es_are : es ≡ h.links.departed) (ns_are : ns ≡ later)
      (cs_are : cs ≡ map (replaced_in ds a b) h.cores) (is_fresh : fresh ≡ fresh_behind b ns (b ∷ []) es false)
      (cores_are : cores ≡ set cs p fresh) (past_is : past ≡ h.past ++ get_or cs p fresh ∷ [])
      (nodes_are : links.nodes ≡ later) (left_are : links.departed ≡ h.links.departed)
      (linked : links_of links ≡ links_of h.links) (entered : history ≡ h.history ++ HistoryEntry.Restart b ∷ []) where
    abbrev behind : WorldState
    behind = record { cluster = h.cluster; cores = cores; past = past; links = links; history = history }

    cs_so : cs ≡ map (replaced_in h.links.departed a (a + 1)) h.cores
    cs_so = cs_are ∙ ap (λ (xs : List ℕ). map (replaced_in xs a b) h.cores) ds_are
        ∙ ap (λ (n : ℕ). map (replaced_in h.links.departed a n) h.cores) next

    abbrev started : CoreState
    started = fresh_behind (a + 1) (succeeded a (a + 1) (nodes_of h)) ((a + 1) ∷ []) h.links.departed false

    fresh_so : fresh ≡ started
    fresh_so = is_fresh ∙ ap (λ (xs : List ℕ). fresh_behind b xs (b ∷ []) es false) ns_are
        ∙ ap (λ (xs : List ℕ). fresh_behind b later (b ∷ []) xs false) es_are
        ∙ ap (λ (n : ℕ). fresh_behind n (succeeded a n (nodes_of h)) (n ∷ []) h.links.departed false) next

    abbrev core : CoreState
    core = get_or h.cores p fresh

    is : core ≡ get_or h.cores p core
    is = get_or_default h.cores p fresh core long

    made : cores ≡ set (map (replaced_in h.links.departed a (a + 1)) h.cores) p started
    made = cores_are ∙ ap (λ (xs : List CoreState). set xs p fresh) cs_so
        ∙ ap (set (map (replaced_in h.links.departed a (a + 1)) h.cores) p) fresh_so

    was : get_or cs p fresh ≡ replaced_in h.links.departed a (a + 1) core
    was = ap (λ (xs : List CoreState). get_or xs p fresh) cs_so
        ∙ get_or-map (replaced_in h.links.departed a (a + 1)) h.cores p fresh fresh long

    nodes_so : links.nodes ≡ succeeded a (a + 1) (nodes_of h)
    nodes_so = nodes_are ∙ ap (λ (n : ℕ). succeeded a n (nodes_of h)) next

    entered_so : history ≡ h.history ++ HistoryEntry.Restart (a + 1) ∷ []
    entered_so = entered ∙ ap (λ (n : ℕ). h.history ++ HistoryEntry.Restart n ∷ []) next

    pub restarted_whole : IsWhole behind
    restarted_whole = whole_back h whole went a x p there own here.accepted cores past links history core (get_or cs p fresh) is
        made past_is was nodes_so left_are linked entered_so

    pub restarted_played : Played (WorldEvent.Restart x) old behind [] []
    restarted_played = subst (λ (k : WorldState). Played (WorldEvent.Restart x) k behind [] []) is_old (record {
      names = names_back h whole went a x p there own here.accepted cores past links history core (get_or cs p fresh) is made
          past_is was nodes_so left_are linked entered_so;
      cluster = refl;
      accepted = here.accepted;
      happens = comes_back h whole went a x p there own here.accepted cores past links history core (get_or cs p fresh) is made
          past_is was nodes_so left_are linked entered_so;
      answers = unanswered h whole went a x p there own here.accepted;
    })
