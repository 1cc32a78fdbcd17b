-- The first line of a script.
use Rattle.std.proofs.Common.{ℕ, true, inl, inr, List, [], ◌∷◌, ◌++◌, ◌≡◌, ◌<◌, ◌+◌, Option, Some, None, refl, sym, ap, subst, ◌∙◌, arith, Result, Ok, Err, map, take, drop, length, get_or, Bor}
use Rattle.std.proofs.lemmas.Grind.{take_at_read}
use Rattle.std.proofs.lemmas.List.{take-append-drop}
use Rattle.term.specs.Spelling.{SpellsNodeName}
use Rattle.command_lines.specs.Openings.{start_refused}
use Rattle.command_lines.specs.declared.faults.LineFault.{LineFault}
use Rattle.std.specs.Prelude.{if◌then◌else◌}
use Rattle.cluster_world.specs.WorldState.{WorldState}
use Rattle.std.specs.Prelude.{unwrap_or, is_some, codes, option_map, MatchResult, ◌⊎◌, ◌≢◌}
use Rattle.term.specs.declared.faults.TextFault.{TextFault}
use Rattle.command_lines.specs.declared.faults.LineFault.TheVariants.{BadLine, LineTooLong, NotAscii, Text, Start, Memory}
use Rattle.cluster_script.specs.Script.{AllSpell, ReadsTexts, made_of, Names, LoneOpens, OpensIn, OpensUnless, texts_behind, unless_refused, is_lone, lone_line, lone_texts, played}
use Rattle.cluster_script.specs.Headers.{ReadsNodes, ReadsHeader, AllReadAs, StandsAt, Starts, StartsBeside, StartsCluster, OpensCluster, OpensLone, OpensHeaders, ReadsLone, ReadsHeaders, StopsOpening}
use Rattle.cluster_script.specs.declared.header.Cluster.{Cluster}
use Rattle.cluster_script.specs.declared.header.Headers.{Headers}
use Rattle.cluster_script.specs.declared.header.Headers.TheVariants.{Open, Ended, Refused}
use Rattle.cluster_world.specs.WorldState.{WorldState}
use Rattle.command_lines.specs.Commands.{LineAsks, asked_by, unread}
use Rattle.text_lines.specs.Words.{words}
use Rattle.command_lines.specs.declared.grammar.LineCommand.{LineCommand}
use Rattle.command_lines.specs.Grammar.{ScriptLine}
use Rattle.text_lines.specs.declared.faults.StreamFault.{StreamFault}
use Rattle.text_lines.specs.Lines.{spoken, count_of_all, LosesLines}
use Rattle.text_lines.proofs.Known.{spoken-append, count_of_all-append, LosesLines-trans, LosesInto-behind, GoesPastFor-behind}
use Rattle.cluster_script.specs.Script.{LineOpens, PrintsOn, PrintsSpoken, opening_for}
use Rattle.cluster_script.specs.Played.{StopsReading}
use Rattle.cluster_script.proofs.Agreeing.{lines_agree, lines_leave_nothing}

-- one more text
pub AllSpell-push : (ts : List (List ℕ)) (ns : List ℕ) (t : List ℕ) (n : ℕ) → AllSpell ts ns → SpellsNodeName t n
    → AllSpell (ts ++ t ∷ []) (ns ++ n ∷ [])
AllSpell-push [] [] t n h s = (s, tt)
AllSpell-push [] (m ∷ ms) t n h s = absurd h
AllSpell-push (u ∷ us) [] t n h s = absurd h
AllSpell-push (u ∷ us) (m ∷ ms) t n h s = (h.0, AllSpell-push us ms t n h.1 s)

-- the texts in three parts
abbrev pub now : Bor (List ℕ) → List ℕ
now b = b.now

pub texts-more : (xs : List (Bor (List ℕ))) (i : ℕ) (d : Bor (List ℕ)) → i < length xs → map now (take (i + 1) xs)
    ≡ map now (take i xs) ++ (get_or xs i d).now ∷ []
texts-more xs i d l = ap (λ (ys : List (Bor (List ℕ))). map now ys) (take_at_read xs i d l).1
    ∙ map-push (take i xs) (get_or xs i d)
  where
    map-push : (ys : List (Bor (List ℕ))) (y : Bor (List ℕ)) → map now (ys ++ y ∷ []) ≡ map now ys ++ y.now ∷ []
    map-push [] y = refl
    map-push (z ∷ zs) y = ap (λ (t : List (List ℕ)). z.now ∷ t) (map-push zs y)

pub texts-parts : (xs : List (Bor (List ℕ))) (i : ℕ) (d : Bor (List ℕ)) → i < length xs
    → map now xs ≡ map now (take i xs) ++ (get_or xs i d).now ∷ map now (drop (i + 1) xs)
texts-parts xs i d l =
    ap (λ (ys : List (Bor (List ℕ))). map now ys) (sym (take-append-drop (i + 1) xs))
    ∙ ap (λ (ys : List (Bor (List ℕ))). map now (ys ++ drop (i + 1) xs)) (take_at_read xs i d l).1
    ∙ map-parts (take i xs) (get_or xs i d) (drop (i + 1) xs)
  where
    map-parts : (ys : List (Bor (List ℕ))) (y : Bor (List ℕ)) (zs : List (Bor (List ℕ)))
        → map now ((ys ++ y ∷ []) ++ zs) ≡ map now ys ++ y.now ∷ map now zs
    map-parts [] y zs = refl
    map-parts (v ∷ vs) y zs = ap (λ (t : List (List ℕ)). v.now ∷ t) (map-parts vs y zs)

-- one more of the texts
pub AllSpell-more : (xs : List (Bor (List ℕ))) (i : ℕ) (d : Bor (List ℕ)) (ns ms : List ℕ) (n : ℕ) → i < length xs
    → AllSpell (map now (take i xs)) ns
    → SpellsNodeName (get_or xs i d).now n → ms ≡ ns ++ n ∷ [] → AllSpell (map now (take (i + 1) xs)) ms
AllSpell-more xs i d ns ms n l h s e =
    subst (λ (ts : List (List ℕ)). AllSpell ts ms) (sym (texts-more xs i d l))
    (subst (λ (ks : List ℕ). AllSpell (map now (take i xs) ++ (get_or xs i d).now ∷ []) ks) (sym e)
    (AllSpell-push (map now (take i xs)) ns (get_or xs i d).now n h s))

-- the fault of the first text that spells no node
pub ReadsNodes-bad : {A : Type 0} (items : A → List ℕ) (texts : List (List ℕ)) (r : Result A LineFault) (y : LineFault)
    (f : TextFault) → r ≡ Err y → y ≡ Text f → ReadsTexts texts (Err f) → ReadsNodes texts (made_of items r)
ReadsNodes-bad items texts r y f e q h = rw e (inl (f, h, q))

-- a header's nodes, by what was read
pub ReadsHeader-by : {A : Type 0} (items : A → List ℕ) (o : Option (List (List ℕ))) (r : Option (Result A LineFault))
    (nodes : Result A LineFault) → r ≡ Some nodes
    → ReadsHeader o (option_map (made_of items) r) → ReadsHeader o (Some (made_of items nodes))
ReadsHeader-by items o r nodes e h =
    subst (λ (x : Option (Result _ LineFault)). ReadsHeader o (option_map (made_of items) x)) e h

-- what a `lone` line names
pub lone_some : (line : List ℕ) (nodes : List ℕ) → ReadsHeader (lone_line line) (Some (Ok nodes))
    → ReadsTexts (lone_texts (line ∷ [])) (Ok nodes) × (played (line ∷ []) ≡ [])
lone_some line nodes h = go (lone_line line) h
  where
    go : (o : Option (List (List ℕ))) → ReadsHeader o (Some (Ok nodes))
        → ReadsTexts (unwrap_or o []) (Ok nodes) × ((if is_some o then [] else line ∷ []) ≡ [])
    go None h = absurd h
    go (Some texts) h = (h, refl)

-- what is said of a line is said of a `lone` line
pub lone_known : (line : List ℕ) (r : Result (List ℕ) LineFault) → ReadsHeader (lone_line line) (Some r)
    → is_lone (line ∷ []) ≡ true
lone_known line r h = go (lone_line line) h
  where
    go : (o : Option (List (List ℕ))) → ReadsHeader o (Some r) → is_some o ≡ true
    go None h = absurd h
    go (Some texts) h = refl

-- another line names none, and is played
pub lone_none : (line : List ℕ) → ReadsHeader (lone_line line) None
    → (lone_texts (line ∷ []) ≡ []) × (played (line ∷ []) ≡ line ∷ [])
lone_none line h = go (lone_line line) h
  where
    go : (o : Option (List (List ℕ))) → ReadsHeader o None
        → (unwrap_or o [] ≡ []) × ((if is_some o then [] else line ∷ []) ≡ line ∷ [])
    go None h = (refl, refl)
    go (Some texts) h = absurd h

-- lone nodes of which a world is started
pub LoneOpens-started : (cluster lone : List ℕ) (line : List ℕ) → ReadsHeader (lone_line line) (Some (Ok lone))
    → start_refused cluster lone ≡ None → LoneOpens cluster (line ∷ []) (Ok lone)
LoneOpens-started cluster lone line h e = (Ok lone, (lone_some line lone h).0, sym (ap (unless_refused lone) e))

-- and of which none is
pub LoneOpens-refused : (cluster lone : List ℕ) (line : List ℕ) (f : LineFault)
    → ReadsHeader (lone_line line) (Some (Ok lone)) → Starts cluster lone (Err f) → LoneOpens cluster (line ∷ []) (Err f)
LoneOpens-refused cluster lone line f h s = elim s [
  | inl e ↦ inl (Ok lone, (lone_some line lone h).0, ap Err e.2 ∙ sym (ap (unless_refused lone) e.1))
  | inr e ↦ inr (lone_known line (Ok lone) h, e)
]

-- texts that spell no nodes
pub LoneOpens-misspelt : (cluster : List ℕ) (line : List ℕ) (f : LineFault)
    → ReadsHeader (lone_line line) (Some (Err f)) → LoneOpens cluster (line ∷ []) (Err f)
LoneOpens-misspelt cluster line f h = go (lone_line line) h
  where
    go : (o : Option (List (List ℕ))) → ReadsHeader o (Some (Err f))
        → Names (λ lone. start_refused cluster lone) (unwrap_or o []) (Err f) ⊎ ((is_some o ≡ true) × (f ≡ Memory))
    go None h = absurd h
    go (Some texts) h = elim h [
      | inl e ↦ inl (Err e.0, e.1, ap Err e.2)
      | inr e ↦ inr (refl, e)
    ]

-- lines that name no lone nodes
pub LoneOpens-none : (cluster : List ℕ) (ls : List (List ℕ)) → lone_texts ls ≡ [] → start_refused cluster [] ≡ None
    → LoneOpens cluster ls (Ok [])
LoneOpens-none cluster ls t e =
    (Ok [], subst (λ (ts : List (List ℕ)). AllSpell ts []) (sym t) tt, sym (ap (unless_refused []) e))

-- a `lone` line opens a world, or is refused
pub OpensLone-lone : (cluster line : List ℕ) (named : Result (List ℕ) LineFault)
    → ReadsHeader (lone_line line) (Some named)
    → (r : Result WorldState LineFault) → StartsBeside cluster named r
    → MatchResult r (λ world. OpensLone cluster line (Open world None)) (λ f. OpensLone cluster line (Refused f))
OpensLone-lone cluster line (Ok lone) h (Ok world) s = (
  lone,
  LoneOpens-started cluster lone line h s.0,
  s.1,
  subst (λ (ls : List (List ℕ)). AllReadAs ls []) (sym (lone_some line lone h).1) tt,
)
OpensLone-lone cluster line (Ok lone) h (Err f) s = LoneOpens-refused cluster lone line f h s
OpensLone-lone cluster line (Err f) h r s =
    subst (λ (x : Result WorldState LineFault). MatchResult x (λ world. OpensLone cluster line (Open world None))
    (λ g. OpensLone cluster line (Refused g))) (sym s) (LoneOpens-misspelt cluster line f h)

-- what was read as a command, or memory was refused
pub read_or_memory : (line : List ℕ) (command : Result LineCommand LineFault) → (command ≢ Err Memory → LineAsks line (asked_by command))
    → LineAsks line (asked_by command) ⊎ (asked_by command ≡ Err Memory)
read_or_memory line (Ok t) h = inl (h ok_err)
  where
    ok_err : ◌≡◌ {A = Result LineCommand LineFault} (Ok t) (Err Memory) → ⊥
    ok_err z = cc
read_or_memory line (Err f) h = go f h
  where
    go : (f : LineFault) → ((◌≡◌ {A = Result LineCommand LineFault} (Err f) (Err Memory) → ⊥) → LineAsks line (Err f))
        → LineAsks line (Err f) ⊎ (◌≡◌ {A = Result ScriptLine LineFault} (Err f) (Err Memory))
    go BadLine h = inl (h (λ z. cc))
    go LineTooLong h = inl (h (λ z. cc))
    go NotAscii h = inl (h (λ z. cc))
    go (Text g) h = inl (h (λ z. cc))
    go (Start g) h = inl (h (λ z. cc))
    go Memory h = inr refl

-- another line is the first that is played
pub OpensLone-none : (cluster line : List ℕ) (world old : WorldState) (command : Result LineCommand LineFault) → world ≡ old
    → ReadsHeader (lone_line line) None → Starts cluster [] (Ok old)
    → LineAsks line (asked_by command) ⊎ (asked_by command ≡ Err Memory)
    → OpensLone cluster line (Open world (Some command))
OpensLone-none cluster line world old command e h s q = (
  [],
  LoneOpens-none cluster (line ∷ []) (lone_none line h).0 s.0,
  subst (λ (w : WorldState). StandsAt (opening_for cluster []) w) (sym e) s.1,
  subst (λ (ls : List (List ℕ)). AllReadAs ls (asked_by command ∷ [])) (sym (lone_none line h).1) (q, tt),
)

-- by its texts it opens one, or none
pub LineOpens-read : (line : List ℕ) (r : Result (List ℕ) LineFault) → unread line ≡ None
    → OpensIn (texts_behind (codes "cluster") (words line)) r → LineOpens line r
LineOpens-read line (Ok nodes) e h = subst (λ (u : Option LineFault). OpensUnless u line (Ok nodes)) (sym e) h
LineOpens-read line (Err f) e h = inl (subst (λ (u : Option LineFault). OpensUnless u line (Err f)) (sym e) h)

-- its texts spell no nodes
pub LineOpens-misspelt : (line : List ℕ) (f : LineFault) → unread line ≡ None
    → ReadsHeader (texts_behind (codes "cluster") (words line)) (Some (Err f)) → LineOpens line (Err f)
LineOpens-misspelt line f e h = go (texts_behind (codes "cluster") (words line)) refl h
  where
    go : (o : Option (List (List ℕ))) → texts_behind (codes "cluster") (words line) ≡ o → ReadsHeader o (Some (Err f))
        → LineOpens line (Err f)
    go None q h = absurd h
    go (Some texts) q h = elim h [
      | inl g ↦
          LineOpens-read line (Err f) e
          (subst (λ (o : Option (List (List ℕ))). OpensIn o (Err f)) (sym q) (Err g.0, g.1, ap Err g.2))
      | inr m ↦ inr m
    ]

-- they spell nodes, of which a world is started or none
pub OpensCluster-by : (line nodes : List ℕ) (r : Result Cluster LineFault) → unread line ≡ None
    → ReadsHeader (texts_behind (codes "cluster") (words line)) (Some (Ok nodes)) → StartsCluster nodes r
    → OpensCluster line r
OpensCluster-by line nodes r e h s = go (texts_behind (codes "cluster") (words line)) refl h r s
  where
    go : (o : Option (List (List ℕ))) → texts_behind (codes "cluster") (words line) ≡ o → ReadsHeader o (Some (Ok nodes))
        → (r : Result Cluster LineFault) → StartsCluster nodes r → OpensCluster line r
    go None q h r s = absurd h
    go (Some texts) q h (Ok c) s = (
      subst (λ (xs : List ℕ). LineOpens line (Ok xs)) (sym s.0)
          (LineOpens-read line (Ok nodes) e
          (subst (λ (o : Option (List (List ℕ))). OpensIn o (Ok nodes)) (sym q)
          (Ok nodes, h, sym (ap (unless_refused nodes) s.1.0)))),
      subst (λ (xs : List ℕ). Starts xs [] (Ok c.world)) (sym s.0) s.1,
    )
    go (Some texts) q h (Err f) s = elim s [
      | inl g ↦
          LineOpens-read line (Err f) e
          (subst (λ (o : Option (List (List ℕ))). OpensIn o (Err f)) (sym q)
          (Ok nodes, h, ap Err g.2 ∙ sym (ap (unless_refused nodes) g.1)))
      | inr m ↦ inr m
    ]

-- the line behind the `cluster` line was read
pub ReadsLone-by : (cluster : List ℕ) (input rest : Option (List ℕ)) (most left : ℕ) (ls : List (List ℕ))
    (line : List ℕ) → LosesLines input rest ls → most ≡ left + count_of_all ls → spoken ls ≡ line ∷ []
    → (h : Headers) → OpensLone cluster line h → ReadsLone cluster input rest most left h
ReadsLone-by cluster input rest most left ls line l e s (Open world first) o = (ls, line, l, e, s, o)
ReadsLone-by cluster input rest most left ls line l e s Ended o = absurd o
ReadsLone-by cluster input rest most left ls line l e s (Refused f) o = (ls, line, l, e, s, o)

-- nothing is printed for empty lines
pub PrintsOn-blank : (ls : List (List ℕ)) → spoken ls ≡ [] → PrintsOn (spoken ls) []
PrintsOn-blank ls s = subst (λ (xs : List (List ℕ)). PrintsOn xs []) (sym s) refl

-- the first line, which opens a cluster
module _ (input mid rest : Option (List ℕ)) (most mid_left : ℕ) (front : List (List ℕ)) (line cluster : List ℕ)
    (l : LosesLines input mid front) (e : most ≡ mid_left + count_of_all front) (s : spoken front ≡ line ∷ [])
    (o : LineOpens line (Ok cluster)) (r : start_refused cluster [] ≡ None) where
  -- nothing is printed for it
  nothing : PrintsOn (line ∷ []) []
  nothing = (
    opening_for cluster [],
    (Ok cluster, o, (Ok [], LoneOpens-none cluster [] refl r, refl)),
    (
      [],
      tt,
      refl,
      lines_agree (opening_for cluster []) [],
      lines_leave_nothing (opening_for cluster []) [],
    ),
  )

  both : (ls more : List (List ℕ)) → spoken ls ≡ more → spoken (front ++ ls) ≡ line ∷ more
  both ls more t = spoken-append front ls ∙ ap (λ (xs : List (List ℕ)). xs ++ spoken ls) s
      ∙ ap (λ (xs : List (List ℕ)). line ∷ xs) t

  -- and the line behind it
  pub ReadsHeaders-by : (left : ℕ) (h : Headers) → ReadsLone cluster mid rest mid_left left h
      → ReadsHeaders input rest most left h
  ReadsHeaders-by left (Open world first) g = (
    front ++ g.0,
    LosesLines-trans input mid rest front g.0 l g.2,
    omega (arith, e, g.3, count_of_all-append front g.0),
    subst (λ (xs : List (List ℕ)). OpensHeaders xs rest (Open world first)) (sym (both g.0 (g.1 ∷ []) g.4))
        (cluster, o, g.5),
  )
  ReadsHeaders-by left Ended g = (
    front ++ g.0,
    LosesLines-trans input mid rest front g.0 l g.1,
    omega (arith, e, g.2, count_of_all-append front g.0),
    (
      g.4,
      subst (λ (xs : List (List ℕ)). PrintsSpoken xs []) (sym (both g.0 [] g.3)) (Ok nothing.0, nothing.1, nothing.2),
    ),
  )
  ReadsHeaders-by left (Refused f) g = (
    front ++ g.0,
    LosesLines-trans input mid rest front g.0 l g.2,
    omega (arith, e, g.3, count_of_all-append front g.0),
    subst (λ (xs : List (List ℕ)). OpensHeaders xs rest (Refused f)) (sym (both g.0 (g.1 ∷ []) g.4))
        (cluster, o, g.5),
  )

  -- which isn't read
  pub StopsOpening-behind : (f : StreamFault) → StopsReading mid rest mid_left f → StopsOpening input rest most f
  StopsOpening-behind f g = (
    front ++ g.0,
    g.1,
    subst (λ (xs : List (List ℕ)). PrintsOn xs []) (sym (both g.0 [] g.2)) nothing,
    LosesInto-behind input mid rest front g.0 g.1 l g.3,
    g.4,
    GoesPastFor-behind f input mid front g.0 most mid_left l e g.5,
  )

  pub headers_behind : (left : ℕ) (q : Result Headers StreamFault)
      → MatchResult q (ReadsLone cluster mid rest mid_left left) (StopsReading mid rest mid_left)
      → MatchResult q (ReadsHeaders input rest most left) (StopsOpening input rest most)
  headers_behind left (Ok h) g = ReadsHeaders-by left h g
  headers_behind left (Err f) g = StopsOpening-behind f g
