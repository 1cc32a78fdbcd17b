-- How a node opens by its first line, and goes on behind it.
use Rattle.std.proofs.Common.{ℕ, Bool, true, false, ◌≡◌, inl, inr, Ok, Err, List, [], ◌∷◌, ◌++◌, Option, refl, sym, ap, subst, ◌∙◌, append-nil, string_bytes}
use Rattle.std.specs.Prelude.{◌⊎◌, ◌==◌, ◌&&◌, flat_map, codes, bytes_eq, Result, MatchResult, IfOk}
use Rattle.std.proofs.lemmas.Bool.{and_parts, eq-eqb, eqb-true, true≢false}
use Rattle.std.proofs.lemmas.Slice.Eq.{bytes_eq-Decides}
use Rattle.term.specs.Nodes.{creation_of}
use Rattle.std.specs.Io.KnownBytes.{Appends, Keeps}
use Rattle.std.proofs.KnownBytes.{Keeps-refl, Keeps-trans, Appends-kept}
use Rattle.text_lines.specs.Writing.{AppendsPart}
use Rattle.text_lines.specs.declared.faults.StreamFault.{StreamFault}
use Rattle.text_lines.proofs.Known.{LosesInto-whole}
use Rattle.node_port.specs.Deeds.{Stand}
use Rattle.node_port.specs.Edits.{Stood, changed_lines}
use Rattle.node_port.specs.Playing.{printed_out, printed_text}
use Rattle.node_loop.specs.Coming.{begun}
use Rattle.node_loop.specs.Held.{Looping}
use Rattle.wire_end.specs.declared.wire_end.Wiring.{Wiring}
use Rattle.wire_end.specs.Wirings.{begun as begun_end}
use Rattle.node_port.specs.Beginnings.{Beginning, IsBeginning, before, core_behind, world_of}
use Rattle.node_port.specs.Ran.{Opens, Founds, Behind, Plainly, IsPlain, first_text, opened_so}
use Rattle.node_port.specs.Shown.{shown_lines}
use Rattle.node_port.specs.Working.{stand_of, Grows, IsEmpty, FoundsBy, HasFounded, OpenedBy, StoppedBy, PrintsLine, PrintsPart, PlaysTo, StopsOn, GoesBehind, StopsBehind, RunsFrom, StopsFrom}
use Rattle.node_port.specs.declared.port.Port.{Port}
use Rattle.node_port.specs.declared.port.Standing.{Standing}
use Rattle.node_port.specs.declared.port.Standing.TheVariants.{Runs, HasLeft, Broken, Spent}
use Rattle.node_port.proofs.Growing.{changes_now, answers_now}
use Rattle.node_port.proofs.Stands.{stand_is}

-- the first line of a first node says that it founds its cluster, or not
abbrev pub founding : ℕ → List ℕ → Bool
founding node bytes = (creation_of node == 1) && bytes_eq bytes (codes "founds")

abbrev stand_as : Looping → Wiring → Stand
stand_as l w = record { loop = l; end = w }

-- what the first line says, and what a node is that has opened by it, or what was written of that
module _ (node : ℕ) (names : List ℕ) where
  abbrev pub IsOpened : List ℕ → Option (List ℕ) → Option (List ℕ) → Result (Port × Standing) StreamFault → Type 0
  IsOpened bytes old new r =
      MatchResult r (λ x. (how : Opens) × OpenedBy how node names bytes x.1 (stand_of x.0) old new)
      (λ f. (how : Opens) × StoppedBy how node names bytes old new)

  -- how a node that founds its cluster stands is to be printed
  pub founder_shown : (a b : Port) → stand_of a ≡ opened_so node names Founds → IsEmpty a.output → stand_of b ≡ stand_of a
      → Grows (Stood a.node.core.joined a.node.core.members ∷ []) [] a.output b.output → FoundsBy node names b
  founder_shown a b opened empty same G = record {
    opened = same ∙ opened;
    changes_are = changes_now (Stood a.node.core.joined a.node.core.members ∷ []) [] a.output b.output empty G
        ∙ ap (λ (x : Stand). shown_lines (changed_lines (Stood x.loop.core.joined x.loop.core.members ∷ []))) opened;
    answers_are = answers_now (Stood a.node.core.joined a.node.core.members ∷ []) [] a.output b.output empty G;
  }

  -- and is written
  module _ (b c : Port) (old new : Option (List ℕ)) (F : FoundsBy node names b) where
    abbrev text_with : List ℕ → List ℕ → Stand → List ℕ
    text_with changes answers s = changes ++ (s.end.orders ++ (s.end.lines ++ answers))

    founder_text : text_with (string_bytes b.output.changes) (string_bytes b.output.answers) (stand_of b) ≡ first_text Founds node
    founder_text =
        ap (λ (t : List ℕ). text_with t (string_bytes b.output.answers) (stand_of b)) F.changes_are
        ∙ (ap (λ (t : List ℕ). text_with (first_text Founds node) t (stand_of b)) F.answers_are
        ∙ (ap (λ (s : Stand). text_with (first_text Founds node) [] s) F.opened ∙ append-nil (first_text Founds node)))

    pub founder_written : c.node ≡ b.node → c.end ≡ record b.end { lines = []; orders = [] } → IsEmpty c.output
        → Appends old new (text_with (string_bytes b.output.changes) (string_bytes b.output.answers) (stand_of b))
        → HasFounded node names old new (Ok (c, Runs))
    founder_written loop end empty w = (
      refl,
      stand_is (stand_of c) b.node (record b.end { lines = []; orders = [] }) loop end ∙ ap printed_out F.opened,
      empty,
      subst (λ (t : List ℕ). Appends old new t) founder_text w,
    )

    pub founder_partly : AppendsPart old new (text_with (string_bytes b.output.changes) (string_bytes b.output.answers) (stand_of b))
        → AppendsPart old new (first_text Founds node)
    founder_partly w = subst (λ (t : List ℕ). AppendsPart old new t) founder_text w

  module _ (old new : Option (List ℕ)) (r : Result (Port × Standing) StreamFault) where
    -- or a part is
    pub founder_stops : (fault : StreamFault) → r ≡ Err fault → AppendsPart old new (first_text Founds node) → HasFounded node names old new r
    founder_stops fault e w = subst (HasFounded node names old new) (sym e) w

    -- the first line says that the node founds its cluster
    pub founds_by : (bytes : List ℕ) → founding node bytes ≡ true → HasFounded node names old new r → IsOpened bytes old new r
    founds_by bytes e F = go r F
      where
        parts : ((creation_of node == 1) ≡ true) × (bytes_eq bytes (codes "founds") ≡ true)
        parts = and_parts (creation_of node == 1) (bytes_eq bytes (codes "founds")) e

        first : creation_of node ≡ 1
        first = eqb-true (creation_of node) 1 parts.0

        is : bytes ≡ codes "founds"
        is = (bytes_eq-Decides bytes (codes "founds")).0 parts.1

        go : (q : Result (Port × Standing) StreamFault) → HasFounded node names old new q → IsOpened bytes old new q
        go (Ok x) F = (Founds, (is, first, F.0, F.1, F.3))
        go (Err f) F = (Founds, (is, first, F))

    pub founds_empty : HasFounded node names old new r → IfOk r (λ x. IsEmpty x.0.output)
    founds_empty F = go r F
      where
        go : (q : Result (Port × Standing) StreamFault) → HasFounded node names old new q → IfOk q (λ x. IsEmpty x.0.output)
        go (Ok x) F = F.2
        go (Err f) F = tt

    -- it says anything else
    pub plainly_by : (bytes : List ℕ) → founding node bytes ≡ false → ((b : Beginning) → IsBeginning node names bytes b → ⊥)
        → MatchResult r (λ x. PrintsLine bytes x.1 (opened_so node names Plainly) (stand_of x.0) old new)
        (λ f. PrintsPart bytes (opened_so node names Plainly) old new ⊎ Keeps old new) → IsOpened bytes old new r
    plainly_by bytes e none P = go r P
      where
        founds : creation_of node ≡ 1 → bytes ≡ codes "founds" → founding node bytes ≡ true
        founds first is =
            ap (λ (b : Bool). b && bytes_eq bytes (codes "founds")) (eq-eqb (creation_of node) 1 first)
            ∙ (bytes_eq-Decides bytes (codes "founds")).1 is

        plain : IsPlain node names bytes
        plain = record { no_founder = λ first is. true≢false (sym (founds first is) ∙ e); no_word = none }

        go : (q : Result (Port × Standing) StreamFault)
            → MatchResult q (λ x. PrintsLine bytes x.1 (opened_so node names Plainly) (stand_of x.0) old new)
            (λ f. PrintsPart bytes (opened_so node names Plainly) old new ⊎ Keeps old new) → IsOpened bytes old new q
        go (Ok x) P = (Plainly, (plain, P))
        go (Err f) (inl P) = (Plainly, inl (plain, P))
        go (Err f) (inr same) = (Plainly, inr same)

    -- which can't be done
    pub plain_stops : (bytes : List ℕ) (fault : StreamFault) → r ≡ Err fault
        → PrintsPart bytes (opened_so node names Plainly) old new ⊎ Keeps old new
        → MatchResult r (λ x. PrintsLine bytes x.1 (opened_so node names Plainly) (stand_of x.0) old new)
        (λ f. PrintsPart bytes (opened_so node names Plainly) old new ⊎ Keeps old new)
    plain_stops bytes fault e h =
        subst (λ (q : Result (Port × Standing) StreamFault). MatchResult q
        (λ x. PrintsLine bytes x.1 (opened_so node names Plainly) (stand_of x.0) old new)
        (λ f. PrintsPart bytes (opened_so node names Plainly) old new ⊎ Keeps old new)) (sym e) h

  -- a node that opens plainly knows that the one before it has left
  pub plain_stand : (left : List ℕ) (s : Stand) → left ≡ before node
      → s ≡ record { loop = begun 0 (core_behind node names left); end = begun_end node (world_of node names left) }
      → s ≡ opened_so node names Plainly
  plain_stand left s is e =
      e ∙ ap (λ (ds : List ℕ). stand_as (begun 0 (core_behind node names ds)) (begun_end node (world_of node names ds))) is

  -- it says who has left
  pub behind_by : (bytes : List ℕ) (b : Beginning) (old : Option (List ℕ)) (r : Result (Port × Standing) StreamFault)
      → IsBeginning node names bytes b → IfOk r (λ x. (x.1 ≡ Runs) × (stand_of x.0 ≡ opened_so node names (Behind b)))
      → IsOpened bytes old old r
  behind_by bytes b old (Ok x) is h = (Behind b, (is, h.0, h.1, Keeps-refl old))
  behind_by bytes b old (Err f) is h = (Behind b, Keeps-refl old)

-- behind the first line a node that runs goes on
pub goes_on_so : (s : Standing) (a b : Stand) (input rest old new : Option (List ℕ)) (r : Result Bool StreamFault) → s ≡ Runs
    → MatchResult r (PlaysTo a input rest old new b) (λ f. StopsOn a input rest old new)
    → MatchResult r (λ in_order. GoesBehind s in_order a input rest old new b) (λ f. (s ≡ Runs) × StopsOn a input rest old new)
goes_on_so s a b input rest old new (Ok in_order) e P = subst (λ (x : Standing). GoesBehind x in_order a input rest old new b) (sym e) P
goes_on_so s a b input rest old new (Err f) e P = (e, P)

-- where what was written is handed on, it is so still
pub goes_kept : (s : Standing) (in_order : Bool) (a b : Stand) (input rest old mid new : Option (List ℕ))
    → GoesBehind s in_order a input rest old mid b → Keeps mid new → GoesBehind s in_order a input rest old new b
goes_kept Runs in_order a b input rest old mid new G k = (
  G.0,
  record {
    lines = G.1.lines;
    lost = G.1.lost;
    out = G.1.out;
    plays = G.1.plays;
    wrote = Appends-kept old mid new (flat_map printed_text G.1.out) G.1.wrote k;
  },
  G.2,
)
goes_kept HasLeft in_order a b input rest old mid new G k = (G.0, Keeps-trans old mid new G.1 k, G.2, G.3)
goes_kept Broken in_order a b input rest old mid new G k = (G.0, Keeps-trans old mid new G.1 k, G.2, G.3)
goes_kept Spent in_order a b input rest old mid new G k = (G.0, Keeps-trans old mid new G.1 k, G.2, G.3)

-- and where it can't be handed on, the node stops there
pub goes_unheard : (s : Standing) (in_order : Bool) (a b : Stand) (input rest old mid new : Option (List ℕ))
    → GoesBehind s in_order a input rest old mid b → Keeps mid new → StopsBehind s a input rest old new
goes_unheard Runs in_order a b input rest old mid new G k = record {
  lines = G.1.lines;
  part = [];
  read = LosesInto-whole input rest G.1.lines G.1.lost;
  out = G.1.out;
  standing = G.0;
  stand = b;
  plays = G.1.plays;
  wrote = (
    flat_map printed_text G.1.out,
    [],
    sym (append-nil (flat_map printed_text G.1.out)),
    Appends-kept old mid new (flat_map printed_text G.1.out) G.1.wrote k,
  );
}
goes_unheard HasLeft in_order a b input rest old mid new G k = (G.0, Keeps-trans old mid new G.1 k)
goes_unheard Broken in_order a b input rest old mid new G k = (G.0, Keeps-trans old mid new G.1 k)
goes_unheard Spent in_order a b input rest old mid new G k = (G.0, Keeps-trans old mid new G.1 k)

-- it stops where its lines do
pub stops_so : (s : Standing) (a : Stand) (input rest old new : Option (List ℕ)) → (s ≡ Runs) × StopsOn a input rest old new
    → StopsBehind s a input rest old new
stops_so s a input rest old new S = subst (λ (x : Standing). StopsBehind x a input rest old new) (sym S.0) S.1

pub behind_stops : (s : Standing) (a b : Stand) (input rest old new : Option (List ℕ)) (r : Result Bool StreamFault) (fault : StreamFault)
    → r ≡ Err fault → StopsBehind s a input rest old new
    → MatchResult r (λ in_order. GoesBehind s in_order a input rest old new b) (λ f. StopsBehind s a input rest old new)
behind_stops s a b input rest old new r fault e S =
    subst (λ (x : Result Bool StreamFault). MatchResult x (λ in_order. GoesBehind s in_order a input rest old new b)
    (λ f. StopsBehind s a input rest old new)) (sym e) S

-- a node that is opened by its first line goes on, or stops
module _ (node : ℕ) (names bytes : List ℕ) (input rest old new : Option (List ℕ)) where
  pub from_opened : (s : Standing) (a b : Stand) (mid : Option (List ℕ)) (r : Result Bool StreamFault)
      → (how : Opens) × OpenedBy how node names bytes s a old mid
      → MatchResult r (λ in_order. GoesBehind s in_order a input rest mid new b) (λ f. StopsBehind s a input rest mid new)
      → MatchResult r (RunsFrom node names bytes input rest old new) (λ f. StopsFrom node names bytes input rest old new)
  from_opened s a b mid (Ok in_order) O G =
      record { how = O.0; standing = s; first = a; mid = mid; opens = O.1; last = b; goes = G }
  from_opened s a b mid (Err f) O S = inr (record { how = O.0; standing = s; first = a; mid = mid; opens = O.1; stops = S })

  -- or can't be opened
  pub from_stopped : (r : Result Bool StreamFault) (fault : StreamFault) → r ≡ Err fault → StopsFrom node names bytes input rest old new
      → MatchResult r (RunsFrom node names bytes input rest old new) (λ f. StopsFrom node names bytes input rest old new)
  from_stopped r fault e S =
      subst (λ (x : Result Bool StreamFault). MatchResult x (RunsFrom node names bytes input rest old new)
      (λ f. StopsFrom node names bytes input rest old new)) (sym e) S
