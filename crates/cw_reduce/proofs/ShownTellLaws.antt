-- Totals that are joined one at a time.
use Rattle.std.specs.Prelude.{◌≡◌, ℕ, zero, suc, ◌+◌, ◌<◌, ◌≤◌, ◌==◌, Bool, true, false, if◌then◌else◌, None, List, [], ◌∷◌, length, take, map, get_or, set, refl}
use Rattle.std.proofs.Common.{sym, ◌∙◌, ap, arith}
use Rattle.std.proofs.lemmas.List.{map-set, get_or-map, length-map, length-set}
use Rattle.std.proofs.Math.ListN as listn
use Rattle.cw_model.specs.declared.total.Total.{Total}
use Rattle.cw_model.specs.declared.total.Total.TheVariants as total
use Rattle.cw_reduce.specs.ReducerState.{ReducerState, held, none_held, held_joined}
use Rattle.cw_reduce.specs.PieceResults.{held_of, total_of, totals_joined, TellsTotals}

first_joined : (F I : List ReducerState) (i : ℕ) → totals_joined (take zero F) I ≡ I
first_joined [] I i = refl
first_joined (x ∷ F) I i = refl

next : (F I : List ReducerState) (i : ℕ) (d : ReducerState) → i < length F → length F ≤ length I
    → set (totals_joined (take i F) I) i (held_joined (get_or F i d) (get_or (totals_joined (take i F) I) i d)) ≡ totals_joined (take (suc i) F) I
next [] I i d h k = absurd (omega arith)
next (x ∷ F) [] i d h k = absurd (omega arith)
next (x ∷ F) (y ∷ I) zero d h k = ap (λ (l : List ReducerState). held_joined x y ∷ l) (sym (first_joined F I zero))
next (x ∷ F) (y ∷ I) (suc i) d h k = ap (λ (l : List ReducerState). held_joined x y ∷ l) (next F I i d (omega arith) (omega arith))

-- the totals before a place were joined
pub record JoinedTo (from into : List Total) (i : ℕ) (now : List Total) : Type 0 where
  pub totals : map held now ≡ totals_joined (take i (map held from)) (map held into)
  pub size : length now ≡ length into

pub one_joined : (from into now : List Total) (i : ℕ) (f n new : Total) → i < length from → length from ≤ length into → f ≡ get_or from i f
    → n ≡ get_or now i n → held new ≡ held_joined (held f) (held n) → JoinedTo from into i now → JoinedTo from into (i + 1) (set now i new)
one_joined from into now i f n new h k e g j a =
    let lf = length-map from held in
    let li = length-map into held in
    let size = a.size in
    let F = map held from in
    let I = map held into in
    let d = none_held in
    let at_f : get_or F i d ≡ held f = get_or-map held from i f d h ∙ ap held (sym e) in
    let at_n : get_or (map held now) i d ≡ held n = get_or-map held now i n d (omega arith) ∙ ap held (sym g) in
    let one : suc i ≡ i + 1 = omega arith in
    record {
      totals =
          map-set held now i new
          ∙ ap (set (map held now) i) (j ∙ ap (λ (w : ReducerState). held_joined w (held n)) (sym at_f) ∙ ap (held_joined (get_or F i d)) (sym at_n))
          ∙ ap (λ (l : List ReducerState). set l i (held_joined (get_or F i d) (get_or l i d))) a.totals
          ∙ next F I i d (omega arith) (omega arith)
          ∙ ap (λ (m : ℕ). totals_joined (take m F) I) one;
      size = length-set now i new ∙ a.size;
    }

-- the state at a place, and the state of a reducer after an update
pub held_at : (totals : List Total) (q : ℕ) → held_of (map held totals) q ≡ held (total_of totals q)
held_at totals q = listn.get_or-map held totals q (total.Max None)

pub told_total : (old new : List Total) (reducer q : ℕ) (more : Total) (x : ReducerState) → TellsTotals old new reducer more → held more ≡ x
    → held_of (map held new) q ≡ (if reducer == q then held_joined (held_of (map held old) q) x else held_of (map held old) q)
told_total old new reducer q more x a e = by_test (reducer == q) (a q)
  where
    by_test : (b : Bool) → held (total_of new q) ≡ (if b then held_joined (held (total_of old q)) (held more) else held (total_of old q))
        → held_of (map held new) q ≡ (if b then held_joined (held_of (map held old) q) x else held_of (map held old) q)
    by_test true h =
        held_at new q ∙ h ∙ ap (λ (w : ReducerState). held_joined w (held more)) (sym (held_at old q)) ∙ ap (held_joined (held_of (map held old) q)) e
    by_test false h = held_at new q ∙ h ∙ sym (held_at old q)
