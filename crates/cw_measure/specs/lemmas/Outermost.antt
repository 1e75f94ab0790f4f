-- Lemmas about tallies: each step of a run preserves the sums over its outermost parts.
use Rattle.std.specs.Prelude.{◌≡◌, ℕ, zero, suc, ◌+◌, ◌==◌, ◌≤◌, ◌<◌, Bool, true, false, if◌then◌else◌, List, [], ◌∷◌}
use Rattle.std.specs.Prelude.{◌++◌, Option, Some, None, sum_by, refl}
use Rattle.std.proofs.Common.{sym, ◌∙◌, ap, subst, true≢false, arith}
use borrow.Author.Tests.{eqb-true}
use Rattle.std.proofs.lemmas.List.Sums.{sum_by-append}
use Rattle.cw_model.specs.Trees.{Mark, Tree, Leaf, Seq, Par, Marked, Event, Work, Join, tree_of, work, span}
use Rattle.cw_model.specs.Rows.{outermost}
use Rattle.cw_model.specs.lemmas.Spans.{span_within}
use Rattle.cw_measure.specs.OpenParts.{Open, marked, event_of, closed, has_spawned, sum_in}
use Rattle.cw_measure.specs.Outermost.{is_counted, one_if, active_in, outer_sum, outer_in, Reading, Meters, BeganAt}
use Rattle.cw_measure.specs.Outermost.{Began, Tally, begun_at, begun, ended_at, ended, Counts, TalliesAreOutermost, unless_at}
use Rattle.cw_measure.specs.Outermost.{unless_open, joined_tally}
use Rattle.cw_measure.specs.lemmas.OpenParts.{Adds, tree_in, adds_none, adds_more, adds_append, tree_in-part_of}

outer_adds : (f : Tree → ℕ) (picks : Mark → Bool) (n : ℕ) → Adds (outer_sum f picks n)
outer_adds f picks zero = record {
  nothing = refl;
  series = λ a b. sum_by-append f (outermost picks a) (outermost picks b);
  fork = λ a b. sum_by-append f (outermost picks a) (outermost picks b);
}
outer_adds f picks (suc n) = record { nothing = refl; series = λ a b. refl; fork = λ a b. refl }

outer_more : (f : Tree → ℕ) (picks : Mark → Bool) (busy : ℕ) (os : List Open) (es : List Event) (e : Event)
    → outer_in f picks busy os (es ++ e ∷ [])
    ≡ outer_in f picks busy os es + outer_sum f picks (active_in picks busy os) (tree_in e)
outer_more f picks busy [] es e = adds_more (outer_sum f picks busy) (outer_adds f picks busy) es e
outer_more f picks busy (o ∷ os) es e =
    let a = adds_more (outer_sum f picks (active_in picks busy (o ∷ os)))
    (outer_adds f picks (active_in picks busy (o ∷ os))) es e in omega arith

outer_leaf : (f : Tree → ℕ) (picks : Mark → Bool) (n k : ℕ) → outer_sum f picks n (Leaf k) ≡ 0
outer_leaf f picks zero k = refl
outer_leaf f picks (suc n) k = refl

outer_begun : (f : Tree → ℕ) (picks : Mark → Bool) (busy : ℕ) (o : Open) (os : List Open)
    → outer_in f picks busy (o ∷ os) [] ≡ outer_in f picks busy os o.outer
outer_begun f picks busy o os =
    let a = adds_none (outer_sum f picks (active_in picks busy (o ∷ os)))
    (outer_adds f picks (active_in picks busy (o ∷ os))) in omega arith

-- the contribution of a part that has ended
outer_some : (f : Tree → ℕ) (picks : Mark → Bool) (n : ℕ) (t : Tree) → 0 < n → outer_sum f picks n t ≡ 0
outer_some f picks zero t h = absurd (omega arith)
outer_some f picks (suc n) t h = refl

abbrev outer_if : (Tree → ℕ) → (Mark → Bool) → Tree → Bool → ℕ
outer_if f picks t b = sum_by f (if b then t ∷ [] else outermost picks t)

outer_other : (f : Tree → ℕ) (picks : Mark → Bool) (n : ℕ) (mark : Option Mark) (t : Tree)
    → is_counted picks mark ≡ false → outer_sum f picks n (marked mark t) ≡ outer_sum f picks n t
outer_other f picks n None t e = refl
outer_other f picks zero (Some m) t e = ap (outer_if f picks t) e
outer_other f picks (suc n) (Some m) t e = refl

outer_own : (f : Tree → ℕ) (picks : Mark → Bool) (n : ℕ) (mark : Option Mark) (t : Tree) → n ≡ 0
    → is_counted picks mark ≡ true → outer_sum f picks n (marked mark t) ≡ f t
outer_own f picks n None t z e = cc
outer_own f picks zero (Some m) t z e = ap (outer_if f picks t) e ∙ omega arith
outer_own f picks (suc n) (Some m) t z e = absurd (omega arith)

left_outer : (f : Tree → ℕ) (picks : Mark → Bool) (busy : ℕ) (o : Open) (os : List Open) (es : List Event)
    → outer_in f picks busy os (closed o es)
    ≡ outer_in f picks busy os o.outer + outer_sum f picks (active_in picks busy os) (marked o.mark (tree_of es))
left_outer f picks busy o os es =
    let a = outer_more f picks busy os o.outer (event_of o es) in
    let b =
    ap (outer_sum f picks (active_in picks busy os)) (tree_in-part_of o.spawned (marked o.mark (tree_of es))) in
    omega arith

left_outer_other : (f : Tree → ℕ) (picks : Mark → Bool) (busy : ℕ) (o : Open) (os : List Open) (es : List Event)
    → is_counted picks o.mark ≡ false → outer_in f picks busy os (closed o es) ≡ outer_in f picks busy (o ∷ os) es
left_outer_other f picks busy o os es e =
    let a = left_outer f picks busy o os es in
    let b = outer_other f picks (active_in picks busy os) o.mark (tree_of es) e in
    let n : active_in picks busy (o ∷ os) ≡ active_in picks busy os =
    ap (λ (x : Bool). one_if x + active_in picks busy os) e ∙ omega arith in
    let c = ap (λ (m : ℕ). outer_sum f picks m (tree_of es)) n in omega arith

-- the start of the outermost open part
began_first : (n : ℕ) (here before : Type 0) → n ≡ 0 → here → BeganAt true n here before
began_first zero here before e h = h
began_first (suc n) here before e h = absurd (omega arith)

began_later : (n : ℕ) (here before : Type 0) → 0 < n → before → BeganAt true n here before
began_later zero here before e h = absurd (omega arith)
began_later (suc n) here before e h = h

first_began : (n : ℕ) (here before : Type 0) → n ≡ 0 → BeganAt true n here before → here
first_began zero here before e h = h
first_began (suc n) here before e h = absurd (omega arith)

later_began : (n : ℕ) (here before : Type 0) → 0 < n → BeganAt true n here before → before
later_began zero here before e h = absurd (omega arith)
later_began (suc n) here before e h = h

nothing_at : (b : Bool) (n : ℕ) (here before : Type 0) → one_if b + n ≡ 0 → before → BeganAt b n here before
nothing_at true n here before z h = absurd (omega arith)
nothing_at false n here before z h = h

-- if no part is open, nothing is required of the start
nothing_began : (read : Reading) (picks : Mark → Bool) (busy : ℕ) (os : List Open) (began : ℕ)
    → active_in picks busy os ≡ 0 → Began read picks busy os began
nothing_began read picks busy [] began z = tt
nothing_began read picks busy (o ∷ os) began z =
    nothing_at (is_counted picks o.mark) (active_in picks busy os) (began ≡ read (o ∷ os) [])
    (Began read picks busy os began) z (nothing_began read picks busy os began (omega arith))

some_active : (n : ℕ) → (n == 0) ≡ false → 0 < n
some_active zero e = cc
some_active (suc n) e = omega arith

some_more : (a n : ℕ) → (a == 1) ≡ false → a ≡ 1 + n → 0 < n
some_more a zero e h = absurd (true≢false (sym (ap (λ (x : ℕ). x == 1) h) ∙ e))
some_more a (suc n) e h = omega arith

-- two tallies with equal readings represent the same run
began_alike : (read : Reading) (picks : Mark → Bool) (busy : ℕ) (os : List Open) (n began began' : ℕ)
    → active_in picks busy os ≡ n → (0 < n → began' ≡ began) → Began read picks busy os began
    → Began read picks busy os began'
began_alike read picks busy os zero began began' e b h = nothing_began read picks busy os began' e
began_alike read picks busy os (suc n) began began' e b h =
    let P : ℕ → Type 0 = λ x. Began read picks busy os x in subst P (sym (b (omega arith))) h

pub counts_alike : (f : Tree → ℕ) (read : Reading) (picks : Mark → Bool) (busy : ℕ) (os : List Open) (es : List Event)
    (t u : Tally) → u.sum ≡ t.sum → u.active ≡ t.active → (0 < t.active → u.began ≡ t.began)
    → Counts f read picks busy os es t → Counts f read picks busy os es u
counts_alike f read picks busy os es t u s a b h = record {
  sum_is = s ∙ h.sum_is;
  active_is = a ∙ h.active_is;
  began_is = began_alike read picks busy os t.active t.began u.began (sym h.active_is) b h.began_is;
}

-- the current block continues
pub counts_work : (f : Tree → ℕ) (read : Reading) (picks : Mark → Bool) (busy : ℕ) (os : List Open) (es : List Event)
    (t : Tally) (k : ℕ) → Counts f read picks busy os es t → Counts f read picks busy os (es ++ Work k ∷ []) t
counts_work f read picks busy os es t k h = record {
  sum_is =
      let a = outer_more f picks busy os es (Work k) in let b = h.sum_is in let c = outer_leaf f picks
      (active_in picks busy os) k in omega arith;
  active_is = h.active_is;
  began_is = h.began_is;
}

pub counts_join : (f : Tree → ℕ) (read : Reading) (picks : Mark → Bool) (busy : ℕ) (os : List Open) (es : List Event)
    (t : Tally) → Counts f read picks busy os es t → Counts f read picks busy os (es ++ Join ∷ []) t
counts_join f read picks busy os es t h = record {
  sum_is =
      let a = outer_more f picks busy os es Join in let b = h.sum_is in let c = outer_leaf f picks
      (active_in picks busy os) 0 in omega arith;
  active_is = h.active_is;
  began_is = h.began_is;
}

-- the start and end of a part that is not counted
pub counts_other : (f : Tree → ℕ) (read : Reading) (picks : Mark → Bool) (busy : ℕ) (o : Open) (os : List Open)
    (t : Tally) → is_counted picks o.mark ≡ false → Counts f read picks busy os o.outer t
    → Counts f read picks busy (o ∷ os) [] t
counts_other f read picks busy o os t e h =
    let n : one_if (is_counted picks o.mark) ≡ 0 = ap one_if e in
    let B : Bool → Type 0 =
    λ b. BeganAt b (active_in picks busy os) (t.began ≡ read (o ∷ os) []) (Began read picks busy os t.began) in
    record {
      sum_is = h.sum_is ∙ sym (outer_begun f picks busy o os);
      active_is = let b = h.active_is in omega arith;
      began_is = subst B (sym e) h.began_is;
    }

pub counts_other_left : (f : Tree → ℕ) (read : Reading) (picks : Mark → Bool) (busy : ℕ) (o : Open) (os : List Open)
    (es : List Event) (t : Tally) → is_counted picks o.mark ≡ false → Counts f read picks busy (o ∷ os) es t
    → Counts f read picks busy os (closed o es) t
counts_other_left f read picks busy o os es t e h =
    let n : one_if (is_counted picks o.mark) ≡ 0 = ap one_if e in
    let B : Bool → Type 0 =
    λ b. BeganAt b (active_in picks busy os) (t.began ≡ read (o ∷ os) []) (Began read picks busy os t.began) in
    record {
      sum_is = h.sum_is ∙ sym (left_outer_other f picks busy o os es e);
      active_is = let b = h.active_is in omega arith;
      began_is = subst B e h.began_is;
    }

-- the start of a counted part
begun_by : (first : Bool) (f : Tree → ℕ) (read : Reading) (picks : Mark → Bool) (busy : ℕ) (o : Open) (os : List Open)
    (t : Tally) → (t.active == 0) ≡ first → is_counted picks o.mark ≡ true → Counts f read picks busy os o.outer t
    → Counts f read picks busy (o ∷ os) [] (begun_at first (read (o ∷ os) []) t)
begun_by true f read picks busy o os t w e h =
    let n : one_if (is_counted picks o.mark) ≡ 1 = ap one_if e in
    let z : t.active ≡ 0 = eqb-true t.active 0 w in
    let idle : active_in picks busy os ≡ 0 = sym h.active_is ∙ z in
    let reading = read (o ∷ os) [] in
    let B : Bool → Type 0 =
    λ b. BeganAt b (active_in picks busy os) (reading ≡ reading) (Began read picks busy os reading) in
    record {
      sum_is = h.sum_is ∙ sym (outer_begun f picks busy o os);
      active_is = let b = h.active_is in omega arith;
      began_is =
          subst B (sym e)
          (began_first (active_in picks busy os) (reading ≡ reading) (Began read picks busy os reading) idle refl);
    }
begun_by false f read picks busy o os t w e h =
    let n : one_if (is_counted picks o.mark) ≡ 1 = ap one_if e in
    let z : 0 < t.active = some_active t.active w in
    let more : 0 < active_in picks busy os = let b = h.active_is in omega arith in
    let B : Bool → Type 0 =
    λ b. BeganAt b (active_in picks busy os) (t.began ≡ read (o ∷ os) []) (Began read picks busy os t.began) in
    record {
      sum_is = h.sum_is ∙ sym (outer_begun f picks busy o os);
      active_is = let b = h.active_is in omega arith;
      began_is =
          subst B (sym e) (began_later (active_in picks busy os) (t.began ≡ read (o ∷ os) [])
          (Began read picks busy os t.began) more h.began_is);
    }

pub counts_begun : (f : Tree → ℕ) (read : Reading) (picks : Mark → Bool) (busy : ℕ) (o : Open) (os : List Open)
    (t : Tally) → is_counted picks o.mark ≡ true → Counts f read picks busy os o.outer t
    → Counts f read picks busy (o ∷ os) [] (begun (read (o ∷ os) []) t)
counts_begun f read picks busy o os t e h = begun_by (t.active == 0) f read picks busy o os t refl e h

-- the end of a counted part
ended_by : (last : Bool) (f : Tree → ℕ) (read : Reading) (picks : Mark → Bool) (busy : ℕ) (M : Meters f read) (o : Open)
    (os : List Open) (es : List Event) (t : Tally) → (t.active == 1) ≡ last → is_counted picks o.mark ≡ true
    → has_spawned es ≡ false → Counts f read picks busy (o ∷ os) es t
    → Counts f read picks busy os (closed o es) (ended_at last (read (o ∷ os) es) t)
ended_by true f read picks busy M o os es t w e j h =
    let n : one_if (is_counted picks o.mark) ≡ 1 = ap one_if e in
    let z : t.active ≡ 1 = eqb-true t.active 1 w in
    let idle : active_in picks busy os ≡ 0 = let b = h.active_is in omega arith in
    let busy_here : 0 < active_in picks busy (o ∷ os) = omega arith in
    let B : Bool → Type 0 =
    λ b. BeganAt b (active_in picks busy os) (t.began ≡ read (o ∷ os) []) (Began read picks busy os t.began) in
    let at =
    first_began (active_in picks busy os) (t.began ≡ read (o ∷ os) []) (Began read picks busy os t.began) idle
    (subst B e h.began_is) in
    record {
      sum_is =
          let a = left_outer f picks busy o os es in let b = outer_own f picks (active_in picks busy os) o.mark
          (tree_of es) idle e in let d = outer_some f picks (active_in picks busy (o ∷ os)) (tree_of es) busy_here in
          let g = h.sum_is in let m = M.at_end o os es j in omega arith;
      active_is = let b = h.active_is in omega arith;
      began_is = nothing_began read picks busy os t.began idle;
    }
ended_by false f read picks busy M o os es t w e j h =
    let n : one_if (is_counted picks o.mark) ≡ 1 = ap one_if e in
    let more : 0 < active_in picks busy os =
    let b = h.active_is in some_more t.active (active_in picks busy os) w (omega arith) in
    let busy_here : 0 < active_in picks busy (o ∷ os) = omega arith in
    let B : Bool → Type 0 =
    λ b. BeganAt b (active_in picks busy os) (t.began ≡ read (o ∷ os) []) (Began read picks busy os t.began) in
    record {
      sum_is =
          let a = left_outer f picks busy o os es in let b = outer_some f picks (active_in picks busy os)
          (marked o.mark (tree_of es)) more in let d = outer_some f picks (active_in picks busy (o ∷ os)) (tree_of es)
          busy_here in let g = h.sum_is in omega arith;
      active_is = let b = h.active_is in omega arith;
      began_is =
          later_began (active_in picks busy os) (t.began ≡ read (o ∷ os) []) (Began read picks busy os t.began) more
          (subst B e h.began_is);
    }

pub counts_ended : (f : Tree → ℕ) (read : Reading) (picks : Mark → Bool) (busy : ℕ) (M : Meters f read) (o : Open)
    (os : List Open) (es : List Event) (t : Tally) → is_counted picks o.mark ≡ true → has_spawned es ≡ false
    → Counts f read picks busy (o ∷ os) es t → Counts f read picks busy os (closed o es) (ended (read (o ∷ os) es) t)
counts_ended f read picks busy M o os es t e j h = ended_by (t.active == 1) f read picks busy M o os es t refl e j h

-- the sum after the end of all parts
pub counts_read : (f : Tree → ℕ) (read : Reading) (picks : Mark → Bool) (busy : ℕ) (es : List Event) (t : Tally)
    → busy ≡ 0 → Counts f read picks busy [] es t → t.sum ≡ sum_by f (outermost picks (tree_of es))
counts_read f read picks busy es t idle h =
    let P : ℕ → Type 0 = λ b. t.sum ≡ outer_sum f picks b (tree_of es) in subst P idle h.sum_is

pub tallies_keep : (f : Tree → ℕ) (read : Reading) (picks : Mark → Bool) (busy : ℕ) → Meters f read
    → TalliesAreOutermost f read picks busy
tallies_keep f read picks busy M = record {
  work = counts_work f read picks busy;
  join = counts_join f read picks busy;
  other_begins = counts_other f read picks busy;
  other_ends = counts_other_left f read picks busy;
  begins = counts_begun f read picks busy;
  ends = counts_ended f read picks busy M;
  reads = counts_read f read picks busy;
}

-- a sum over outermost parts is at most every superadditive bound of its measure
pub record Bounds (f g : Tree → ℕ) : Type 0 where
  pub above : (t : Tree) → f t ≤ g t
  pub series : (a b : Tree) → g a + g b ≤ g (Seq a b)
  pub fork : (a b : Tree) → g a + g b ≤ g (Par a b)
  pub in_mark : (m : Mark) (t : Tree) → g t ≤ g (Marked m t)

within_mark : (f g : Tree → ℕ) (b : Bool) (t : Tree) (ts : List Tree) (k : ℕ) → f t ≤ k → sum_by f ts ≤ k
    → sum_by f (if b then t ∷ [] else ts) ≤ k
within_mark f g true t ts k h i = omega arith
within_mark f g false t ts k h i = i

outermost_within : (f g : Tree → ℕ) (B : Bounds f g) (picks : Mark → Bool) (t : Tree)
    → sum_by f (outermost picks t) ≤ g t
outermost_within f g B picks (Leaf k) = omega arith
outermost_within f g B picks (Seq a b) =
    let e = sum_by-append f (outermost picks a) (outermost picks b) in let i = outermost_within f g B picks a in let h =
    outermost_within f g B picks b in let s = B.series a b in omega arith
outermost_within f g B picks (Par a b) =
    let e = sum_by-append f (outermost picks a) (outermost picks b) in let i = outermost_within f g B picks a in let h =
    outermost_within f g B picks b in let s = B.fork a b in omega arith
outermost_within f g B picks (Marked mark t) =
    let m = B.in_mark mark t in let a = B.above t in let i = outermost_within f g B picks t in
    within_mark f g (picks mark) t (outermost picks t) (g (Marked mark t)) (omega arith) (omega arith)

outer_sum_within : (f g : Tree → ℕ) (B : Bounds f g) (picks : Mark → Bool) (n : ℕ) (t : Tree)
    → outer_sum f picks n t ≤ g t
outer_sum_within f g B picks zero t = outermost_within f g B picks t
outer_sum_within f g B picks (suc n) t = omega arith

pub outer_in_within : (f g : Tree → ℕ) (B : Bounds f g) (picks : Mark → Bool) (busy : ℕ) (os : List Open)
    (es : List Event) → outer_in f picks busy os es ≤ sum_in g os es
outer_in_within f g B picks busy [] es = outer_sum_within f g B picks busy (tree_of es)
outer_in_within f g B picks busy (o ∷ os) es =
    let h = outer_sum_within f g B picks (active_in picks busy (o ∷ os)) (tree_of es) in let i = outer_in_within f g B
    picks busy os o.outer in omega arith

-- pieces that were executed separately
outer_append : (f : Tree → ℕ) (picks : Mark → Bool) (busy : ℕ) (os : List Open) (es fs : List Event)
    → outer_in f picks busy os (es ++ fs)
    ≡ outer_in f picks busy os es + outer_sum f picks (active_in picks busy os) (tree_of fs)
outer_append f picks busy [] es fs = adds_append (outer_sum f picks busy) (outer_adds f picks busy) es fs
outer_append f picks busy (o ∷ os) es fs =
    let a = adds_append (outer_sum f picks (active_in picks busy (o ∷ os)))
    (outer_adds f picks (active_in picks busy (o ∷ os))) es fs in omega arith

-- if counted parts are open around a piece, its sum is left out
left_out_at : (f : Tree → ℕ) (picks : Mark → Bool) (n : ℕ) (t : Tree) (b : Bool) → (n == 0) ≡ b
    → outer_sum f picks n t ≡ unless_at b (outer_sum f picks 0 t)
left_out_at f picks n t true e =
    let P : ℕ → Type 0 = λ x. outer_sum f picks x t ≡ outer_sum f picks 0 t in subst P (sym (eqb-true n 0 e)) refl
left_out_at f picks n t false e = outer_some f picks n t (some_active n e)

left_out : (f : Tree → ℕ) (picks : Mark → Bool) (n : ℕ) (t : Tree)
    → outer_sum f picks n t ≡ unless_open n (outer_sum f picks 0 t)
left_out f picks n t = left_out_at f picks n t (n == 0) refl

told_apart : (f : Tree → ℕ) (there : Reading) (picks : Mark → Bool) (n active : ℕ) (fs : List Event) (u : Tally)
    → active ≡ n → Counts f there picks 0 [] fs u → unless_open active u.sum ≡ outer_sum f picks n (tree_of fs)
told_apart f there picks n active fs u e g =
    ap (λ (x : ℕ). unless_open x u.sum) e ∙ ap (unless_open n) g.sum_is ∙ sym (left_out f picks n (tree_of fs))

pub counts_further : (f : Tree → ℕ) (read there : Reading) (picks : Mark → Bool) (busy : ℕ) (os : List Open)
    (es fs : List Event) (t u : Tally) → Counts f read picks busy os es t → Counts f there picks 0 [] fs u
    → Counts f read picks busy os (es ++ fs) (joined_tally t u)
counts_further f read there picks busy os es fs t u h g = record {
  sum_is =
      let a = outer_append f picks busy os es fs in let b = h.sum_is in let c = told_apart f there picks
      (active_in picks busy os) t.active fs u h.active_is g in omega arith;
  active_is = h.active_is;
  began_is = h.began_is;
}

-- 0 is 0 in either case
pub unless_nothing : (b : Bool) → unless_at b 0 ≡ 0
unless_nothing true = refl
unless_nothing false = refl

pub work_bounds : Bounds work work
work_bounds = record {
  above = λ t. omega arith;
  series = λ a b. omega arith;
  fork = λ a b. omega arith;
  in_mark = λ m t. omega arith;
}

pub span_bounds : Bounds span work
span_bounds = record {
  above = span_within;
  series = λ a b. omega arith;
  fork = λ a b. omega arith;
  in_mark = λ m t. omega arith;
}
