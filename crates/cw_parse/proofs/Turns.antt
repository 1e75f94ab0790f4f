-- The iterations of a loop that reads consecutive parts.
use Rattle.std.proofs.Common.{◌≡◌, ℕ, suc, ◌+◌, ◌-◌, ◌<◌, ◌≤◌, Bool, true, false, cond, List, [], ◌∷◌, ◌++◌, length, Option, Some, None, Ok, Err, refl, sym, ap, ◌∙◌, arith}
use Rattle.cw_model.specs.declared.token.Token.{Token}
use Rattle.cw_parse.specs.declared.stop.Stop.{Stop}
use Rattle.cw_parse.specs.declared.stop.Stop.TheVariants as stop
use Rattle.cw_parse.specs.declared.marks.Mark.{Mark}
use Rattle.cw_parse.specs.Marks.{is_mark, past}
use Rattle.cw_model.specs.declared.syntax.NameKind.TheVariants as name_kind
use Rattle.cw_model.specs.Syntax.{Name, Param, End}
use Rattle.cw_parse.specs.declared.marks.Mark.TheVariants as mark
use Rattle.cw_tree.specs.SyntaxView.{block_from}
use Rattle.cw_parse.specs.Parts.{add_front, Line, put_before, array, single, behind_name, const_array, written, param}
use Rattle.cw_parse.specs.Reading.{Read, Reader, ◌>>=◌, Fails, if_next, row, pile, with_front}

-- ---- a choice by the next token

pub if_past : {A : Type 0} (m : Mark) (f : Token → Reader A) (g : Reader A) (ts : List Token) (t : Token) (us : List Token) → past m ts ≡ Some (t, us) → if_next (is_mark m) f g ts ≡ f t us
if_past m f g [] t us e = absurd cc
if_past {A} m f g (v ∷ vs) t us e = go (is_mark m v.kind) e
  where
    same : (x y : Token × List Token) → Some x ≡ Some y → x ≡ y
    same x y e = cc

    go : (b : Bool) → cond {A = Option (Token × List Token)} b (Some (v, vs)) None ≡ Some (t, us) → cond {A = Read A} b (f v vs) (g (v ∷ vs)) ≡ f t us
    go true e = ap (λ (x : Token × List Token). f x.0 x.1) (same (v, vs) (t, us) e)
    go false e = absurd cc

pub if_not_past : {A : Type 0} (m : Mark) (f : Token → Reader A) (g : Reader A) (ts : List Token) → past m ts ≡ None → if_next (is_mark m) f g ts ≡ g ts
if_not_past m f g [] e = refl
if_not_past {A} m f g (v ∷ vs) e = go (is_mark m v.kind) e
  where
    go : (b : Bool) → cond {A = Option (Token × List Token)} b (Some (v, vs)) None ≡ None → cond {A = Read A} b (f v vs) (g (v ∷ vs)) ≡ g (v ∷ vs)
    go true e = absurd cc
    go false e = refl

-- ---- sequences of parts

pile_push : {A B : Type 0} (join : A → B → B) (front : List A) (a : A) (b : B) → pile join (front ++ a ∷ []) b ≡ pile join front (join a b)
pile_push join [] a b = refl
pile_push join (x ∷ front) a b = ap (join x) (pile_push join front a b)

regroup : {A B : Type 0} (join : A → B → B) (front : List A) (a : A) (read : Read B) → with_front join front (read >>= λ y. Ok (join a y.0, y.1)) ≡ with_front join (front ++ a ∷ []) read
regroup join front a (Ok y) = ap (λ b. Ok (b, y.1)) (sym (pile_push join front a y.0))
regroup join front a (Err m) = refl

module _ {A S B : Type 0} (m : Mark) (end : S → B) (join : A → B → B) (part : S → Reader (A × S)) (n i : ℕ) (front : List A) (s : S) (ts : List Token) (total : Read B)
    (so_far : with_front join front (row (is_mark m) end join part (n - i) s ts) ≡ total) where
  abbrev onward : Reader B
  onward us = part s us >>= λ x. row (is_mark m) end join part (n - (i + 1)) x.0.1 x.1 >>= λ y. Ok (join x.0.0 y.0, y.1)

  pub runs_out : n ≤ i → total ≡ Err (length ts)
  unfolding row
  runs_out le = let e : n - i ≡ 0 = omega arith in sym so_far ∙ (rw e refl)

  one_turn : i < n → row (is_mark m) end join part (n - i) s ts ≡ if_next (is_mark m) (λ _ us. Ok (end s, us)) onward ts
  unfolding row
  one_turn lt = let e : n - i ≡ suc (n - (i + 1)) = omega arith in rw e refl

  pub closes : (t : Token) (us : List Token) → i < n → past m ts ≡ Some (t, us) → total ≡ Ok (pile join front (end s), us)
  closes t us lt e = sym so_far ∙ ap (with_front join front) (one_turn lt ∙ if_past m (λ _ us. Ok (end s, us)) onward ts t us e)

  then_on : i < n → past m ts ≡ None → with_front join front (onward ts) ≡ total
  then_on lt e = sym (ap (with_front join front) (one_turn lt ∙ if_not_past m (λ _ us. Ok (end s, us)) onward ts e)) ∙ so_far

  pub goes_on : (a : A) (s' : S) (us : List Token) → i < n → past m ts ≡ None → part s ts ≡ Ok ((a, s'), us)
      → with_front join (front ++ a ∷ []) (row (is_mark m) end join part (n - (i + 1)) s' us) ≡ total
  goes_on a s' us lt e h =
      sym (regroup join front a (row (is_mark m) end join part (n - (i + 1)) s' us))
      ∙ sym (ap (λ r. with_front join front (r >>= λ x. row (is_mark m) end join part (n - (i + 1)) x.0.1 x.1 >>= λ y. Ok (join x.0.0 y.0, y.1))) h) ∙ then_on lt e

  pub fails : (d : Stop) → i < n → past m ts ≡ None → Fails d (part s ts) → Fails d total
  fails stop.Memory lt e f = tt
  fails (stop.At k) lt e f = sym (then_on lt e) ∙ ap (λ r. with_front join front (r >>= λ x. row (is_mark m) end join part (n - (i + 1)) x.0.1 x.1 >>= λ y. Ok (join x.0.0 y.0, y.1))) f

-- joining parts to the empty list returns the parts
pub pile_all : {A : Type 0} (front : List A) → pile add_front front [] ≡ front
pile_all [] = refl
pile_all (a ∷ front) = ap (add_front a) (pile_all front)

-- joining lines to the end of a block returns the block of these lines
pub block_all : (front : List Line) (n : ℕ) → pile put_before front (End, n) ≡ (block_from front, n)
block_all [] n = refl
block_all (x ∷ front) n = ap (put_before x) (block_all front n)

-- an array parameter, before the test for a second bracket
pub param_array : (x : Name) (ts : List Token) (u : Token) (us : List Token) (p : Param) (rest : List Token)
    → past mark.LeftBracket ts ≡ Some (u, us) → array x us ≡ Ok (p, rest) → behind_name x ts ≡ single p rest
param_array x ts u us p rest on read =
    if_past mark.LeftBracket (λ _ us. array x us >>= λ y. single y.0 y.1) (λ us. Ok (record { name = x; kind = name_kind.Integer }, us)) ts u us on ∙ ap (λ r. r >>= λ y. single y.0 y.1) read

-- a read-only array parameter, before the test for a second bracket
pub param_const : (text : List ℕ) (ts : List Token) (u : Token) (us : List Token) (p : Param) (rest : List Token) → past mark.Const ts ≡ Some (u, us)
    → const_array text us ≡ Ok (p, rest) → param text ts ≡ single p rest
unfolding param
param_const text ts u us p rest on read =
    if_past mark.Const (λ _ us. const_array text us >>= λ y. single y.0 y.1) (λ us. written text us) ts u us on ∙ ap (λ r. r >>= λ y. single y.0 y.1) read
