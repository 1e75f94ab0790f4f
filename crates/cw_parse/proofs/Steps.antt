-- One step of the readers with a positive bound, and the iterations of the loops over operators.
use Rattle.std.proofs.Common.{◌≡◌, ℕ, zero, suc, ◌+◌, ◌-◌, ◌<◌, ◌≤◌, List, length, Some, None, Ok, Err, refl, sym, ap, ◌∙◌, arith, sub-one, add-one}
use Rattle.cw_model.specs.declared.token.Token.{Token}
use Rattle.cw_model.specs.declared.syntax.Operator.{Operator}
use Rattle.cw_model.specs.Grammar.{name_of}
use Rattle.cw_model.specs.Syntax.{Expr, Variable, Element, Binary}
use Rattle.cw_parse.specs.declared.marks.Mark.TheVariants as mark
use Rattle.cw_parse.specs.Marks.{past}
use Rattle.cw_parse.specs.declared.stop.Stop.{Stop}
use Rattle.cw_parse.specs.declared.stop.Stop.TheVariants as stop
use Rattle.cw_parse.specs.Reading.{Read, Reader, ◌>>=◌, Fails, by_first}
use Rattle.cw_parse.proofs.Turns.{if_past}
use Rattle.cw_parse.specs.Parts.{unindexed, closed, named, operator_at, chain_on, chain, level_over, level, operand_after, operand, line_by, line, lines}

pub operand_none : (text : List ℕ) (n : ℕ) (ts : List Token) → n ≡ 0 → operand text n ts ≡ Err (length ts)
unfolding operand
operand_none text n ts e = rw e refl

pub operand_step : (text : List ℕ) (n : ℕ) (ts : List Token) → (n ≡ 0 → ⊥) → operand text n ts ≡ by_first (operand_after text (level text (n - 1) 4) (operand text (n - 1))) ts
unfolding operand
operand_step text zero ts h = absurd (h refl)
operand_step text (suc n) ts h = rw sub-one refl

pub line_none : (text : List ℕ) (n site : ℕ) (ts : List Token) → n ≡ 0 → line text n site ts ≡ Err (length ts)
unfolding line
line_none text n site ts e = rw e refl

pub line_step : (text : List ℕ) (n site : ℕ) (ts : List Token) → (n ≡ 0 → ⊥) → line text n site ts ≡ by_first (line_by text (n - 1) (lines text (n - 1)) site) ts
unfolding line
line_step text zero site ts h = absurd (h refl)
line_step text (suc n) site ts h = rw sub-one refl

-- an array element, before the test for an index after it
pub named_element : (text : List ℕ) (whole : Reader Expr) (t : Token) (ts : List Token) (x : List ℕ) (u : Token) (us : List Token) (e : Expr) (rest : List Token)
    → x ≡ name_of text t → past mark.LeftBracket ts ≡ Some (u, us) → closed mark.RightBracket (λ i. Element x i) whole us ≡ Ok (e, rest) → named text whole t ts ≡ unindexed e rest
unfolding named
named_element text whole t ts x u us e rest same on read =
    if_past mark.LeftBracket (λ _ us. closed mark.RightBracket (λ i. Element (name_of text t) i) whole us >>= λ x. unindexed x.0 x.1) (λ us. Ok (Variable (name_of text t), us)) ts u us on
    ∙ ap (λ r. r >>= λ x. unindexed x.0 x.1) (ap (λ x. closed mark.RightBracket (λ i. Element x i) whole us) (sym same) ∙ read)

-- ---- levels

pub level_start : (text : List ℕ) (n : ℕ) (ts : List Token) (r : Read Expr) → operand text n ts ≡ r → level text n 0 ts ≡ r
unfolding level_over
level_start text n ts r e = e

-- if a level stops, the levels above it stop
pub level_fails : (base : Reader Expr) (n j k : ℕ) (ts : List Token) (m : ℕ) → level_over base n j ts ≡ Err m → j ≤ k → level_over base n k ts ≡ Err m
unfolding level_over
level_fails base n j k ts m e le = go (k - j) k (omega arith)
  where
    go : (d k : ℕ) → k ≡ d + j → level_over base n k ts ≡ Err m
    go zero k h = let same : k ≡ j = omega arith in rw same e
    go (suc d) zero h = absurd (omega arith)
    go (suc d) (suc k) h = ap (λ r. r >>= λ x. chain (level_over base n k) (suc k) n x.0 x.1) (go d k (omega arith))

-- if an operand stops, every level stops
pub level_stops : (text : List ℕ) (n k : ℕ) (ts : List Token) (s : Stop) → Fails s (operand text n ts) → Fails s (level text n k ts)
level_stops text n k ts stop.Memory f = tt
level_stops text n k ts (stop.At m) f = level_fails (operand text n) n 0 k ts m (level_start text n ts (Err m) f) (omega arith)

one_up : (text : List ℕ) (n k : ℕ) (ts : List Token) (d : Expr) (us : List Token) → level text n k ts ≡ Ok (d, us) → level text n (k + 1) ts ≡ chain (level text n k) (k + 1) n d us
unfolding level_over
one_up text n k ts d us e = rw add-one (ap (λ r. r >>= λ x. chain (level text n k) (suc k) n x.0 x.1) e)

pub level_turn : (text : List ℕ) (n k : ℕ) (ts : List Token) (d : Expr) (us : List Token) (r : Read Expr) → level text n k ts ≡ Ok (d, us)
    → chain (level text n k) (k + 1) n d us ≡ r → level text n (k + 1) ts ≡ r
level_turn text n k ts d us r e h = one_up text n k ts d us e ∙ h

pub level_turn_fails : (text : List ℕ) (n k highest : ℕ) (ts : List Token) (d : Expr) (us : List Token) (s : Stop) → level text n k ts ≡ Ok (d, us)
    → Fails s (chain (level text n k) (k + 1) n d us) → k < highest → Fails s (level text n highest ts)
level_turn_fails text n k highest ts d us stop.Memory e f lt = tt
level_turn_fails text n k highest ts d us (stop.At m) e f lt = level_fails (operand text n) n (k + 1) highest ts m (one_up text n k ts d us e ∙ f) (omega arith)

-- ---- the iterations of the loop over operators

chain_step : (next : Reader Expr) (k n i : ℕ) (d : Expr) (ts : List Token) → i < n → chain next k (n - i) d ts ≡ chain_on next (chain next k (n - (i + 1))) d ts (operator_at k ts)
unfolding chain
chain_step next k n i d ts lt = let e : n - i ≡ suc (n - (i + 1)) = omega arith in rw e refl

chain_done : (next : Reader Expr) (k n i : ℕ) (d : Expr) (ts : List Token) → n ≤ i → chain next k (n - i) d ts ≡ Ok (d, ts)
unfolding chain
chain_done next k n i d ts le = let e : n - i ≡ 0 = omega arith in rw e refl

module _ (next : Reader Expr) (k n i : ℕ) (d : Expr) (ts : List Token) (total : Read Expr) (so_far : chain next k (n - i) d ts ≡ total) where
  pub chain_end : n ≤ i → total ≡ Ok (d, ts)
  chain_end le = sym so_far ∙ chain_done next k n i d ts le

  pub chain_stop : i < n → operator_at k ts ≡ None → total ≡ Ok (d, ts)
  chain_stop lt none = sym so_far ∙ chain_step next k n i d ts lt ∙ ap (chain_on next (chain next k (n - (i + 1))) d ts) none

  chain_go : (o : Operator) (us : List Token) → i < n → operator_at k ts ≡ Some (o, us) → (next us >>= λ x. chain next k (n - (i + 1)) (Binary o d x.0) x.1) ≡ total
  chain_go o us lt some = sym (ap (chain_on next (chain next k (n - (i + 1))) d ts) some) ∙ sym (chain_step next k n i d ts lt) ∙ so_far

  pub chain_on_turn : (o : Operator) (us : List Token) (e : Expr) (vs : List Token) → i < n → operator_at k ts ≡ Some (o, us) → next us ≡ Ok (e, vs)
      → chain next k (n - (i + 1)) (Binary o d e) vs ≡ total
  chain_on_turn o us e vs lt some ok = sym (ap (λ r. r >>= λ x. chain next k (n - (i + 1)) (Binary o d x.0) x.1) ok) ∙ chain_go o us lt some

  pub chain_fails : (s : Stop) (o : Operator) (us : List Token) → i < n → operator_at k ts ≡ Some (o, us) → Fails s (next us) → Fails s total
  chain_fails stop.Memory o us lt some f = tt
  chain_fails (stop.At m) o us lt some f = sym (chain_go o us lt some) ∙ ap (λ r. r >>= λ x. chain next k (n - (i + 1)) (Binary o d x.0) x.1) f
