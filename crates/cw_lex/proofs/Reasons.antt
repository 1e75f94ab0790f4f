-- Reasons are faults.
use Rattle.std.proofs.Common.{ℕ, List, drop, inl, inr}
use Rattle.cw_model.specs.Tokens.{FaultAt}
use Rattle.cw_text.specs.declared.reasons.At.{At}
use Rattle.cw_lex.specs.declared.reason.Uncut.{Uncut}
use Rattle.cw_lex.specs.declared.reason.Uncut.TheVariants as reason
use Rattle.cw_lex.specs.Faults.{HasNoCut}
use Rattle.cw_lex.specs.Uncut.{IsNoToken, IsUncut, IsUncutFor, IsRejected, fault_of}

with_fault : {P Q : List ℕ → Type 0} (text : List ℕ) (line : ℕ) → ((bytes : List ℕ) → P bytes → Q bytes) → FaultAt P text line → FaultAt Q text line
with_fault text line h f = record { tokens = f.tokens; at = f.at; before = f.before; faulty = h (drop f.at text) f.faulty; same_line = f.same_line }

-- the fault of the reason for the first fault of a text is that first fault
pub no_cut_for : (text : List ℕ) (r : Uncut) (line : ℕ) → FaultAt (IsNoToken r) text line → HasNoCut text (fault_of r line)
no_cut_for text (reason.TooLong n) line f = absurd f.faulty
no_cut_for text (reason.NotAscii b) line f = absurd f.faulty
no_cut_for text (reason.NoToken b) line f = with_fault text line (λ bytes h. inl h.0) f
no_cut_for text (reason.LargeNumber w) line f = with_fault text line (λ bytes h. inr h.0) f
no_cut_for text (reason.LongName w) line f = with_fault text line (λ bytes h. h.0) f

refused_for : (bytes : List ℕ) (r : Uncut) (line : ℕ) → IsUncutFor bytes r line → IsRejected bytes (fault_of r line)
refused_for bytes (reason.TooLong n) line h = inl h.0
refused_for bytes (reason.NotAscii b) line h = inl h.0
refused_for bytes (reason.NoToken b) line h = inr (h.0, no_cut_for bytes (reason.NoToken b) line h.1)
refused_for bytes (reason.LargeNumber w) line h = inr (h.0, no_cut_for bytes (reason.LargeNumber w) line h.1)
refused_for bytes (reason.LongName w) line h = inr (h.0, no_cut_for bytes (reason.LongName w) line h.1)

pub are_faults : (bytes : List ℕ) (found : At Uncut) → IsUncut bytes found → IsRejected bytes (fault_of found.reason found.line)
are_faults bytes found h = refused_for bytes found.reason found.line h
