-- A line that is printed is read as its part.
use Rattle.std.proofs.Common.{◌≡◌, ℕ, Bool, List, [], ◌∷◌, Option, Some, None, Ok, inl, refl, ap, codes}
use Rattle.registry_model.specs.Process.{Process}
use Rattle.registry_model.specs.Settlement.{Noted, note}
use Rattle.registry_model.specs.Table.{Pair as APair}
use Rattle.name_table.specs.declared.change.Change.TheVariants as change
use Rattle.term.specs.declared.lock_id.LockId.{LockId}
use Rattle.term.specs.declared.rule.Rule.{Rule as ARule}
use Rattle.term.specs.Rules.{rule_of}
use Rattle.term.specs.Spelling.{SpellsText, SpellsNode}
use Rattle.letter_lines.specs.declared.part.Part.{Part}
use Rattle.letter_lines.specs.declared.part.Part.TheVariants.{Pair, Put, Remove, Kill, Notice, Member, Told, SetLock, LockAnswer, GiveBack, GivenBack, ReleaseOf, Apply, Admit}
use Rattle.letter_lines.specs.Grammar.{AllSpelled, TextReads, Name, Pid, Rule, pair_for, granted_text, ack_text}
use Rattle.letter_lines.specs.Lines.{IsLine, LineOfPair, LineOfLock, LineOfLockWith, LineOfNotice, SpellsOther}
use Rattle.letter_lines.specs.Processes.{SpellsProcess}
use Rattle.letter_lines.proofs.Written.{line_reads}

-- lines of a word and a process
abbrev pub LineOfProcess : List ℕ → Process → List ℕ → Type 0
LineOfProcess word p line = (text : List ℕ) × SpellsProcess text p × IsLine (word ∷ text ∷ []) line

pub kill_reads : (p : Process) (line : List ℕ) → LineOfProcess (codes "+kill") p line → TextReads line (Ok (Kill p))
kill_reads p line h = line_reads (codes "+kill" ∷ h.0 ∷ []) line (Kill p) h.2 (inl (tt, inl (p, h.1, refl)))

pub given_reads : (p : Process) (line : List ℕ) → LineOfProcess (codes "given") p line → TextReads line (Ok (GivenBack p))
given_reads p line h = line_reads (codes "given" ∷ h.0 ∷ []) line (GivenBack p) h.2 (inl (tt, inl (p, h.1, refl)))

pub release_reads : (p : Process) (line : List ℕ) → LineOfProcess (codes "release") p line → TextReads line (Ok (ReleaseOf p))
release_reads p line h = line_reads (codes "release" ∷ h.0 ∷ []) line (ReleaseOf p) h.2 (inl (tt, inl (p, h.1, refl)))

pub strike_reads : (p : Process) (line : List ℕ) → LineOfProcess (codes "strike") p line
    → TextReads line (Ok (Apply (change.StrikeOwner p)))
strike_reads p line h =
    line_reads (codes "strike" ∷ h.0 ∷ []) line (Apply (change.StrikeOwner p)) h.2 (inl (tt, inl (p, h.1, refl)))

-- of a word and a node
abbrev pub LineOfNode : List ℕ → ℕ → List ℕ → Type 0
LineOfNode word n line = (text : List ℕ) × SpellsNode text n × IsLine (word ∷ text ∷ []) line

pub member_reads : (n : ℕ) (line : List ℕ) → LineOfNode (codes "+member") n line → TextReads line (Ok (Member n))
member_reads n line h = line_reads (codes "+member" ∷ h.0 ∷ []) line (Member n) h.2 (inl (tt, inl (n, h.1, refl)))

pub told_reads : (n : ℕ) (line : List ℕ) → LineOfNode (codes "+told") n line → TextReads line (Ok (Told n))
told_reads n line h = line_reads (codes "+told" ∷ h.0 ∷ []) line (Told n) h.2 (inl (tt, inl (n, h.1, refl)))

pub admit_reads : (n : ℕ) (line : List ℕ) → LineOfNode (codes "admit") n line → TextReads line (Ok (Admit n))
admit_reads n line h = line_reads (codes "admit" ∷ h.0 ∷ []) line (Admit n) h.2 (inl (tt, inl (n, h.1, refl)))

-- of a word and a name
abbrev pub LineOfName : List ℕ → ℕ → List ℕ → Type 0
LineOfName word x line = (text : List ℕ) × SpellsText text x × IsLine (word ∷ text ∷ []) line

pub item_remove_reads : (x : ℕ) (line : List ℕ) → LineOfName (codes "+remove") x line → TextReads line (Ok (Remove x))
item_remove_reads x line h = line_reads (codes "+remove" ∷ h.0 ∷ []) line (Remove x) h.2 (inl (tt, inl (x, h.1, refl)))

pub remove_reads : (x : ℕ) (line : List ℕ) → LineOfName (codes "remove") x line → TextReads line (Ok (Apply (change.Remove x)))
remove_reads x line h =
    line_reads (codes "remove" ∷ h.0 ∷ []) line (Apply (change.Remove x)) h.2 (inl (tt, inl (x, h.1, refl)))

-- a pair is one of its name, its owner and its rule
same_pair : (e : APair) (r : ARule) → e.rule ≡ rule_of r → e ≡ pair_for e.name e.owner r
same_pair e r same = λ i. record { name = e.name; owner = e.owner; rule = same i }

-- what is made of a pair is spelled by the texts of its name, its owner and its rule
spelled_pair : (e : APair) (word line : List ℕ) (make : APair → Part) (h : LineOfPair word e line)
    → AllSpelled (Name ∷ Pid ∷ Rule ∷ []) (λ x p r. make (pair_for x p r)) (h.name ∷ h.owner ∷ h.text ∷ []) (Ok (make e))
spelled_pair e word line make h = (
  e.name,
  h.name_spelled,
  (
    e.owner,
    h.owner_spelled,
    (h.rule, h.rule_spelled, ap (λ (z : APair). Ok (make z)) (same_pair e h.rule h.same)),
  ),
)

-- lines of a pair
pub pair_reads : (e : APair) (line : List ℕ) → LineOfPair (codes "+pair") e line → TextReads line (Ok (Pair e))
pair_reads e line h =
    line_reads (codes "+pair" ∷ h.name ∷ h.owner ∷ h.text ∷ []) line (Pair e) h.is
    (inl (tt, inl (spelled_pair e (codes "+pair") line Pair h)))

pub item_put_reads : (e : APair) (line : List ℕ) → LineOfPair (codes "+put") e line → TextReads line (Ok (Put e))
item_put_reads e line h =
    line_reads (codes "+put" ∷ h.name ∷ h.owner ∷ h.text ∷ []) line (Put e) h.is
    (inl (tt, inl (spelled_pair e (codes "+put") line Put h)))

pub put_reads : (e : APair) (line : List ℕ) → LineOfPair (codes "put") e line → TextReads line (Ok (Apply (change.Put e)))
put_reads e line h =
    line_reads (codes "put" ∷ h.name ∷ h.owner ∷ h.text ∷ []) line (Apply (change.Put e)) h.is
    (inl (tt, inl (spelled_pair e (codes "put") line (λ z. Apply (change.Put z)) h)))

-- lines of a lock
pub ask_reads : (id : LockId) (p : Process) (line : List ℕ) → LineOfLock (codes "ask") id p line
    → TextReads line (Ok (SetLock id p))
ask_reads id p line h =
    line_reads (codes "ask" ∷ h.resource ∷ h.requester ∷ h.holder ∷ []) line (SetLock id p) h.is
    (inl (tt, inl (id.resource, h.resource_spelled, (id.requester, h.requester_spelled, (p, h.holder_spelled, refl)))))

pub answer_reads : (id : LockId) (p : Process) (g : Bool) (last line : List ℕ) → last ≡ granted_text g
    → LineOfLockWith (codes "answer") id p last line → TextReads line (Ok (LockAnswer id p g))
answer_reads id p g last line e h =
    line_reads (codes "answer" ∷ h.resource ∷ h.requester ∷ h.holder ∷ last ∷ []) line (LockAnswer id p g) h.is
    (inl (
      ((g, e), tt),
      inl (id.resource, h.resource_spelled, (id.requester, h.requester_spelled, (p, h.holder_spelled, (g, e, refl)))),
    ))

pub give_reads : (id : LockId) (p : Process) (a : Bool) (last line : List ℕ) → last ≡ ack_text a
    → LineOfLockWith (codes "give") id p last line → TextReads line (Ok (GiveBack id p a))
give_reads id p a last line e h =
    line_reads (codes "give" ∷ h.resource ∷ h.requester ∷ h.holder ∷ last ∷ []) line (GiveBack id p a) h.is
    (inl (
      ((a, e), tt),
      inl (id.resource, h.resource_spelled, (id.requester, h.requester_spelled, (p, h.holder_spelled, (a, e, refl)))),
    ))

-- lines of a notice
pub notice_reads : (n : Noted) (line : List ℕ) → LineOfNotice n.process n.notice.name n.notice.other line
    → TextReads line (Ok (Notice n))
notice_reads n line h = by n.notice.other h.last h.last_spelled h.is
  where
    by : (other : Option Process) (last : List (List ℕ)) → SpellsOther last other
        → IsLine (codes "+notice" ∷ h.process ∷ h.name ∷ last) line
        → TextReads line (Ok (Notice (note n.process n.notice.name other)))
    by None [] s is =
        line_reads (codes "+notice" ∷ h.process ∷ h.name ∷ []) line (Notice (note n.process n.notice.name None)) is
        (inl (tt, inl (n.process, h.process_spelled, (n.notice.name, h.name_spelled, refl))))
    by None (t ∷ []) s is = absurd s
    by None (t ∷ u ∷ last) s is = absurd s
    by (Some q) [] s is = absurd s
    by (Some q) (t ∷ []) s is =
        line_reads (codes "+notice" ∷ h.process ∷ h.name ∷ t ∷ []) line (Notice (note n.process n.notice.name (Some q))) is
        (inl (tt, inl (n.process, h.process_spelled, (n.notice.name, h.name_spelled, (q, s, refl)))))
    by (Some q) (t ∷ u ∷ last) s is = absurd s
