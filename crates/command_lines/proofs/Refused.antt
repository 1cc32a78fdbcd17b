-- Texts that are refused.
use Rattle.std.proofs.Common.{ℕ, List, [], ◌∷◌, ◌++◌, inl, inr}
use Rattle.term.specs.declared.faults.TextFault.{TextFault}
use Rattle.command_lines.specs.Grammar.{Kind, FirstRefused}

-- the first of some texts that is refused is the first also where others stand behind them
pub refused_before : (kinds more : List Kind) (texts others : List (List ℕ)) (f : TextFault)
    → FirstRefused kinds texts f → FirstRefused (kinds ++ more) (texts ++ others) f
refused_before [] more texts others f h = absurd h
refused_before (k ∷ kinds) more [] others f h = absurd h
refused_before (k ∷ kinds) more (text ∷ texts) others f (inl h) = inl h
refused_before (k ∷ kinds) more (text ∷ texts) others f (inr h) =
    inr (h.0, h.1, refused_before kinds more texts others f h.2)
