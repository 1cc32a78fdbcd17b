use Rattle.std.proofs.Common.{◌≡◌, ◌+◌, ◌-◌, ◌==◌, ℕ, List, ◌++◌, length, min, ap, sym, ◌∙◌, arith, take, length-append}
use Rattle.term.specs.declared.limits.TheConstants.{LONGEST_LINE}
use Rattle.text_lines.specs.declared.lines.Part.{Part}
use Rattle.text_lines.proofs.Parts.{take-extend, last-extend, last-same}
use Rattle.text_lines.proofs.lines.Part.extend.Goals as goal
use Rattle.text_lines.proofs.lines.Part.extend.Goals.{in-Some, in_default}

pub returns : goal.returns
returns c before h =
    let bytes : List ℕ = c.args.bytes.now in
    let n : c.min.result ≡ min (length bytes) (LONGEST_LINE + 1 - length before) = c.min.ensures
    ∙ ap (λ (k : ℕ). min (length bytes) k) (c.saturating_sub-room.ensures
    ∙ ap (λ (k : ℕ). LONGEST_LINE + 1 - k) h.len) in
    let kept : c.extend_from_slice.new.self.items ≡ take (LONGEST_LINE + 1) (before ++ bytes) = c.in_ok-extend_from_slice.ensures.items
    ∙ ap (λ (xs : List ℕ). xs ++ take c.min.result bytes) h.text ∙ take-extend before bytes c.min.result n in
    let len : c.args.self.now.len + length bytes ≡ length (before ++ bytes) = omega (
      arith,
      h.len,
      length-append before bytes,
    ) in
    elim c.match-last.branch [
      | in-Some w ↦ record {
        text = ap (λ (p : Part). p.text.items) w.self-is ∙ kept;
        len = ap (λ (p : Part). p.len + length bytes) w.self-is ∙ len;
        ends_in_return = ap (λ (p : Part). p.ends_in_return) w.self-is
            ∙ ap (λ (b : ℕ). b == 13) (w.in-Some.ensures.item.4 (omega arith) 0
            ∙ sym (last-extend before bytes w.in-Some.ensures.item.3.0));
      }
      | in_default w ↦ record {
        text = ap (λ (p : Part). p.text.items) w.self-is ∙ kept;
        len = ap (λ (p : Part). p.len + length bytes) w.self-is ∙ len;
        ends_in_return = ap (λ (p : Part). p.ends_in_return) w.self-is ∙ h.ends_in_return
            ∙ sym (ap (λ (b : ℕ). b == 13) (last-same before bytes w.in_default.ensures.item.3));
      }
    ]
