-- One iteration of the loops over a text.
use Rattle.std.proofs.Common.{◌≡◌, ℕ, ◌+◌, ◌-◌, ◌<◌, ◌≤◌, List, [], ◌∷◌, ◌++◌, length, drop, sym, ◌∙◌, arith, length-drop, add-zero}
use Rattle.std.proofs.lemmas.List.{get_or-drop}
use Rattle.cw_model.specs.Text.{line_at}
use Rattle.cw_model.specs.declared.token.Token.{Token}
use Rattle.cw_model.specs.declared.token.Kind.{Kind}
use Rattle.cw_text.specs.declared.reasons.At.{At}
use Rattle.cw_lex.specs.declared.front.Front.TheVariants as front
use Rattle.cw_lex.specs.declared.reason.Uncut.{Uncut}
use Rattle.cw_lex.specs.Front.{IsFront}
use Rattle.cw_lex.specs.Uncut.{IsNoToken}
use Rattle.cw_lex.specs.Traversal.{IsNextToken, IsNextFault}
use Rattle.cw_lex.specs.lemmas.Gaps.{gap_rises}
use Rattle.cw_model.specs.Tokens.{IsLongest, IsToken, IsGap, none, separator, comment, AreTokens, FaultAt, IsTokenCut}
use Rattle.cw_lex.proofs.Lines.{line_past, line_few}
use Rattle.cw_lex.proofs.Grow.{gap_gap, add_gap, add_token}

-- ---- up to the next token

-- between `from` and `at` there is only a gap, and `line` is the line of `at`
pub record IsAcross (text : List ℕ) (from at line : ℕ) : Type 0 where
  pub within : at ≤ length text
  pub same_line : line ≡ line_at text at
  pub few : line ≤ at + 1
  pub gap : IsGap text from at

pub begin_across : (text : List ℕ) (at line : ℕ) → at ≤ length text → line ≡ line_at text at → IsAcross text at at line
begin_across text at line w l = record { within = w; same_line = l; few = omega (arith, l, line_few text at); gap = none }

longest_within : (text : List ℕ) (at len : ℕ) → at ≤ length text → IsLongest (drop at text) len → at + len ≤ length text
longest_within text at len le l = omega (arith, l.within, length-drop at text)

pub past_comment : (text : List ℕ) (from at line len : ℕ) → IsAcross text from at line → IsFront (drop at text) (front.Comment len) → IsAcross text from (at + len) line
past_comment text from at line len r f = record {
  within = longest_within text at len r.within f.1;
  same_line = r.same_line ∙ sym (line_past text at len f.1.piece);
  few = omega (arith, r.few);
  gap = gap_gap text r.gap (comment len f.1 f.2 none);
}

pub past_separator : (text : List ℕ) (from at line line' : ℕ) → IsAcross text from at line → at < length text
    → IsFront (drop at text) front.Separator → line' ≡ line_at text (at + 1) → IsAcross text from (at + 1) line'
past_separator text from at line line' r lt f l = record {
  within = omega arith;
  same_line = l;
  few = omega (arith, l, line_few text (at + 1));
  gap = gap_gap text r.gap (separator lt (rw (get_or-drop, add-zero) at f) none);
}

pub token_next : (text : List ℕ) (from at line len : ℕ) (k : Kind) → IsAcross text from at line → IsFront (drop at text) (front.Token k len)
    → IsNextToken text from (record { kind = k; start = at; end = at + len; line = line })
token_next text from at line len k r f =
    let len-is : at + len - at ≡ len = omega arith in
    let is : IsToken text (record { kind = k; start = at; end = at + len; line = line }) = record {
      rises = omega (arith, f.0);
      longest = rw len-is f.1;
      spelled = rw len-is f.2;
      line = r.same_line;
    } in
    record {
      gap = r.gap;
      token = is;
      rises = omega (arith, f.0, gap_rises r.gap);
      within = longest_within text at len r.within f.1;
      same_line = r.same_line ∙ sym (line_past text at len f.1.piece);
    }

pub fault_next : (text : List ℕ) (from at line : ℕ) (r : Uncut) → IsAcross text from at line → IsFront (drop at text) (front.Uncut r) → IsNextFault text from (record { line = line; reason = r })
fault_next text from at line r a f = record { at = at; gap = a.gap; faulty = f; same_line = a.same_line }

-- ---- from one token to the next

-- `ts` are the tokens before `at`, and `line` is the line of `at`
pub record IsReached (text : List ℕ) (ts : List Token) (at line : ℕ) : Type 0 where
  pub within : at ≤ length text
  pub same_line : line ≡ line_at text at
  pub cut : AreTokens text 0 ts at

pub past_token : (text : List ℕ) (ts : List Token) (at line : ℕ) (t : Token) → IsReached text ts at line → IsNextToken text at t → IsReached text (ts ++ t ∷ []) t.end t.line
past_token text ts at line t r n = record {
  within = n.within;
  same_line = n.same_line;
  cut = add_token text 0 ts t (add_gap text 0 ts at t.start r.cut n.gap) n.token;
}

pub whole_cut : (text : List ℕ) (ts : List Token) (at line : ℕ) → IsReached text ts at line → IsGap text at (length text) → IsTokenCut text ts
whole_cut text ts at line r g = add_gap text 0 ts at (length text) r.cut g

pub fault_reached : (text : List ℕ) (ts : List Token) (at line : ℕ) (found : At Uncut) → IsReached text ts at line → IsNextFault text at found → FaultAt (IsNoToken found.reason) text found.line
fault_reached text ts at line found r n = record {
  tokens = ts;
  at = n.at;
  before = add_gap text 0 ts at n.at r.cut n.gap;
  faulty = n.faulty;
  same_line = n.same_line;
}
