-- How many values a run can add to its reducers, and how large their totals can become.
use Rattle.std.proofs.Common.{◌≡◌, ℕ, zero, suc, ◌+◌, ◌*◌, ◌≤◌, ℤ, pos, negsuc, ◌+ℤ◌, Bool, true, false, if◌then◌else◌, Option, Some, None, List}
use Rattle.std.proofs.Common.{[], ◌∷◌, ◌++◌, length, refl, sym, ap, ◌∙◌, arith, length-append, unsigned_abs, FitsSigned, w64}
use Rattle.std.specs.Prelude.{map, slice_get}
use Rattle.std.specs.Int.{w128}
use Rattle.std.proofs.lemmas.Int.{ints, int_wrap_fits, fits_signed_from_abs}
use Rattle.cw_model.specs.declared.limits.TheConstants.{MOST_LIMIT}
use Rattle.cw_model.specs.Syntax.{Name, Reducer}
use Rattle.cw_model.specs.Names.{same_name}
use Rattle.cw_model.specs.Outcome.{Trace, Done}
use Rattle.cw_model.specs.Meaning.{Returned}
use Rattle.cw_model.specs.declared.syntax.Reduction.{Reduction}
use Rattle.cw_model.specs.declared.syntax.Reduction.TheVariants.{Sum, Max}
use Rattle.cw_model.specs.declared.total.Total.{Total}
use Rattle.cw_model.specs.declared.total.Total.TheVariants as total
use Rattle.cw_model.specs.Answers.{sum_to, total_to}
use Rattle.cw_code.specs.declared.code.Instr.{Instr}
use Rattle.cw_code.specs.declared.code.Reducer as coded
use Rattle.cw_code.specs.Code.{Code}
use Rattle.cw_code.specs.Run.{State, Transition, On, Ends, Stops, Stuck, synced, settled, back, act, step, go_on, steps, reducers_of}
use Rattle.cw_code.specs.lemmas.Acts.{acts_both, closing, uncutting, returning}
use Rattle.cw_code.specs.Jobs.{WholeCall, Came, Arrives, Returns, Falls, Beyond, Lost, moved, travel}
use Rattle.cw_jobs.specs.Totals.{kept, AllFit, HoldsTotals}

-- after a move, at most `k` values were added
abbrev pub Within : ℕ → Transition → Type 0
Within k (On s) = length s.trace.updates ≤ k
Within k (Ends v arrays t) = length t.updates ≤ k
Within k (Stops trap line lines) = Unit {0}
Within k Stuck = Unit {0}

-- an instruction adds at most one value
pub adds_one : (code : Code) (s : State) (o : Option Instr) → Within (suc (length s.trace.updates)) (act code s o)
adds_one code s o = acts_both code s s.results s.arrived s.around s.trace (λ o w w'. Within (suc (length s.trace.updates)) w) (record {
  stuck = λ o. tt;
  stops = λ o trap line. tt;
  local = λ i place operands slots lines updates here next few. (let n = length-append s.trace.updates updates in omega (arith, n, few));
  makes = λ a line rest xs. same;
  sets = λ a line rest xs. same;
  calls = λ kind c f given lent. same;
  recurs = λ kind c f given. same;
  starts = λ c line f given low captured turns. same;
  scopes = same;
  regions = λ k tag e. same;
  cuts = λ h line xs rest at. same;
  uncuts = uncutting (Within (suc (length s.trace.updates))) tt s (λ b around h left right e q. same);
  syncs = same;
  closes = closing (Within (suc (length s.trace.updates))) tt s (λ b around e. same);
  gives = λ v. back_within (Some v);
  returns = back_within None;
}) o
  where
    same : length (s.trace.updates ++ []) ≤ suc (length s.trace.updates)
    same = let n = length-append s.trace.updates [] in omega (arith, n)

    back_within : (v : Option ℤ) → Within (suc (length s.trace.updates)) (back s.around v (settled s.arrived s.arrays) (synced s.trace))
    back_within v = returning (Within (suc (length s.trace.updates))) tt s.around v (settled s.arrived s.arrays) (synced s.trace) (λ e. same)
        (λ w others e slots homes results arrived. same)

-- a run that ends has added at most one value for each instruction that it was given
pub counted : (code : Code) (n : ℕ) (s : State) (r : Returned) (left : ℕ) (t : Trace) → steps code n s ≡ Some (Done r left t) → length t.updates ≤ length s.trace.updates + n
counted code zero s r left t e = cc
counted code (suc n) s r left t e = cases (step code s) (adds_one code s (slice_get code.instrs s.place)) (λ s'. counted code n s' r left t) e
  where
    cases : (w : Transition) → Within (suc (length s.trace.updates)) w → ((s' : State) → steps code n s' ≡ Some (Done r left t) → length t.updates ≤ length s'.trace.updates + n) →
        go_on w n (λ s'. steps code n s') ≡ Some (Done r left t) → length t.updates ≤ length s.trace.updates + suc n
    cases (On s') h from e = let le = from s' e in omega (arith, h, le)
    cases (Ends v arrays u) h from e = let same : u ≡ t = cc in let is = ap (λ x. length x.updates) same in omega (arith, h, is)
    cases (Stops trap line lines) h from e = cc
    cases Stuck h from e = cc

-- the end of a whole call has at most `k` values
abbrev pub ReturnsWithin : ℕ → Came → Type 0
ReturnsWithin k (Arrives frame t left) = ⊥
ReturnsWithin k (Returns v arrays t left) = length t.updates ≤ k
ReturnsWithin k (Falls trap line lines left) = Unit {0}
ReturnsWithin k Beyond = Unit {0}
ReturnsWithin k Lost = Unit {0}

-- a whole call reaches no join, and at its end it has added at most one value for each instruction that it was given
pub travelled : (code : Code) (n : ℕ) (s : State) → ReturnsWithin (length s.trace.updates + n) (travel WholeCall code n s)
travelled code zero s = tt
travelled code (suc n) s = cases (step code s) (adds_one code s (slice_get code.instrs s.place)) (λ s'. travelled code n s')
  where
    wider : (j k : ℕ) (c : Came) → j ≤ k → ReturnsWithin j c → ReturnsWithin k c
    wider j k (Arrives frame t left) le h = h
    wider j k (Returns v arrays t left) le h = omega (arith, le, h)
    wider j k (Falls trap line lines left) le h = tt
    wider j k Beyond le h = tt
    wider j k Lost le h = tt

    cases : (w : Transition) → Within (suc (length s.trace.updates)) w → ((s' : State) → ReturnsWithin (length s'.trace.updates + n) (travel WholeCall code n s')) →
        ReturnsWithin (length s.trace.updates + suc n) (moved w n (λ s'. travel WholeCall code n s'))
    cases (On s') h more = wider (length s'.trace.updates + n) (length s.trace.updates + suc n) (travel WholeCall code n s') (omega (arith, h)) (more s')
    cases (Ends v arrays u) h more = omega (arith, h)
    cases (Stops trap line lines) h more = tt
    cases Stuck h more = tt

-- the maximum absolute value of a 64-bit integer
abbrev most_abs : ℕ
most_abs = 9223372036854775808

-- the absolute value of a sum is at most the sum of the absolute values
abs_more : (a b : ℤ) (m n : ℕ) → unsigned_abs a ≤ m → unsigned_abs b ≤ n → unsigned_abs (a +ℤ b) ≤ m + n
abs_more a b m n h h' = omega (arith, ints)

abs_fits : (z : ℤ) → FitsSigned w64 z → unsigned_abs z ≤ most_abs
abs_fits (pos n) f = let lt = f.sfits in omega (arith, lt)
abs_fits (negsuc n) f = let lt = f.sfits in omega (arith, lt)

bounded : (name : Name) (ts : List (Name × ℤ)) → AllFit ts → unsigned_abs (sum_to name ts) ≤ length ts * most_abs
bounded name [] h = omega arith
bounded name (a ∷ ts) h = cases (same_name name a.0) (bounded name ts h.1)
  where
    cases : (b : Bool) → unsigned_abs (sum_to name ts) ≤ length ts * most_abs → unsigned_abs (if b then a.1 +ℤ sum_to name ts else sum_to name ts) ≤ suc (length ts) * most_abs
    cases true le = let more = abs_more a.1 (sum_to name ts) most_abs (length ts * most_abs) (abs_fits a.1 h.0) le in omega (arith, more)
    cases false le = omega (arith, le)

-- the totals of this many values fit into 128 bits
pub kept_whole : (how : Reduction) (name : Name) (ts : List (Name × ℤ)) → AllFit ts → length ts ≤ MOST_LIMIT → kept (total_to how name ts) ≡ total_to how name ts
kept_whole Sum name ts h le = ap (λ z. total.Sum z) (int_wrap_fits w128 (sum_to name ts) (fits_signed_from_abs w128 (sum_to name ts) (let b = bounded name ts h in omega (arith, b, le))))
kept_whole Max name ts h le = refl

-- the total of each reducer
abbrev pub totals_of : List (Name × ℤ) → List Reducer → List Total
totals_of ts reducers = map (λ (r : Reducer). total_to r.how r.name ts) reducers

-- the totals of a machine are the totals of its run
pub totals_are : (code : Code) (totals : List Total) (ts : List (Name × ℤ)) → HoldsTotals code totals ts → length ts ≤ MOST_LIMIT → totals_of ts (reducers_of code) ≡ totals
totals_are code totals ts h le = each code.reducers totals h.as_many h.are
  where
    without_line : coded.Reducer → Reducer
    without_line r = record { name = r.name; how = r.how; line = 0 }

    each : (reducers : List coded.Reducer) (totals : List Total) → length totals ≡ length reducers
        → ((k : ℕ) (r : coded.Reducer) → slice_get reducers k ≡ Some r → slice_get totals k ≡ Some (kept (total_to r.how r.name ts))) →
        totals_of ts (map without_line reducers) ≡ totals
    each [] [] n are = refl
    each [] (x ∷ totals) n are = absurd (omega (arith, n))
    each (r ∷ reducers) [] n are = absurd (omega (arith, n))
    each (r ∷ reducers) (x ∷ totals) n are =
        let same : x ≡ kept (total_to r.how r.name ts) = let at = are 0 r refl in cc in
        ap (λ z. z ∷ totals_of ts (map without_line reducers)) (sym (kept_whole r.how r.name ts h.fit le) ∙ sym same)
        ∙ ap (λ l. x ∷ l) (each reducers totals (omega (arith, n)) (λ k other e. are (suc k) other e))
