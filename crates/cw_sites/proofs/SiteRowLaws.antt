-- A row represents a run so far, and each step of a run preserves this.
use Rattle.std.specs.Prelude.{◌≡◌, ℕ, ◌+◌, ◌==◌, Bool, true, false, List, [], ◌∷◌, ◌++◌, refl}
use Rattle.std.proofs.Common.{sym, ◌∙◌, ap, subst, arith}
use Rattle.cw_model.specs.Trees.{Event, Work, Join, work, span}
use Rattle.cw_model.specs.Rows.{is_site, calls_of}
use Rattle.cw_measure.specs.OpenParts.{Open, closed, has_spawned, work_in}
use Rattle.cw_measure.specs.Outermost.{is_counted, one_if, Tally, begun_at, begun, ended_at, ended, Counts}
use Rattle.cw_measure.specs.lemmas.OpenParts.{adds_none}
use Rattle.cw_measure.specs.lemmas.Outermost.{counts_work, counts_join, counts_begun, counts_ended}
use Rattle.cw_measure.specs.lemmas.StrandWeights.{work_meters}
use Rattle.cw_sites.specs.declared.rows.Row.{Row}
use Rattle.cw_sites.specs.ChosenPaths.{steps_of}
use Rattle.cw_sites.specs.OpenPaths.{here_in, path_in}
use Rattle.cw_sites.specs.SiteRows.{worked, entered_at, entered, left_at, left, own_tree, work_tally, span_tally, CountsSite}
use Rattle.cw_sites.specs.lemmas.SiteRows.{path_meters, calls_adds, own_leaf, own_nothing, own_adds, calls_more, own_more, left_calls, left_own}

-- the current block continues with instructions
pub row_work : (site base busy : ℕ) (os : List Open) (es : List Event) (r : Row) (k : ℕ) → CountsSite site base busy os es r
    → CountsSite site base busy os (es ++ Work k ∷ []) (worked (steps_of site (here_in base os) k).own r)
row_work site base busy os es r k h = record {
  calls_is = let a = calls_more site os es (Work k) in let b = h.calls_is in omega arith;
  own_is = let a = own_more site base os es (Work k) in let b = h.own_is in let c = own_leaf site (here_in base os) k in omega arith;
  work_is = counts_work work work_in (is_site site) busy os es (work_tally r) k h.work_is;
  span_is = counts_work span (path_in site base) (is_site site) busy os es (span_tally r) k h.span_is;
}

pub row_join : (site base busy : ℕ) (os : List Open) (es : List Event) (r : Row) → CountsSite site base busy os es r → CountsSite site base busy os (es ++ Join ∷ []) r
row_join site base busy os es r h = record {
  calls_is = let a = calls_more site os es Join in let b = h.calls_is in omega arith;
  own_is = let a = own_more site base os es Join in let b = h.own_is in let c = own_nothing site (here_in base os) in omega arith;
  work_is = counts_join work work_in (is_site site) busy os es (work_tally r) h.work_is;
  span_is = counts_join span (path_in site base) (is_site site) busy os es (span_tally r) h.span_is;
}

-- the tallies of a row after the start and the end of an invocation
begun_work : (first : Bool) (count path : ℕ) (r : Row) → begun_at first count (work_tally r) ≡ work_tally (entered_at first count path r)
begun_work true count path r = refl
begun_work false count path r = refl

begun_span : (first : Bool) (count path : ℕ) (r : Row) → begun_at first path (span_tally r) ≡ span_tally (entered_at first count path r)
begun_span true count path r = refl
begun_span false count path r = refl

ended_work : (last : Bool) (count path : ℕ) (r : Row) → ended_at last count (work_tally r) ≡ work_tally (left_at last count path r)
ended_work true count path r = refl
ended_work false count path r = refl

ended_span : (last : Bool) (count path : ℕ) (r : Row) → ended_at last path (span_tally r) ≡ span_tally (left_at last count path r)
ended_span true count path r = refl
ended_span false count path r = refl

entered_calls : (first : Bool) (count path : ℕ) (r : Row) → ((entered_at first count path r).calls ≡ r.calls + 1) × ((entered_at first count path r).own ≡ r.own)
entered_calls true count path r = (refl, refl)
entered_calls false count path r = (refl, refl)

left_same : (last : Bool) (count path : ℕ) (r : Row) → ((left_at last count path r).calls ≡ r.calls) × ((left_at last count path r).own ≡ r.own)
left_same true count path r = (refl, refl)
left_same false count path r = (refl, refl)

-- an invocation of the site begins
pub row_entered : (site base busy : ℕ) (o : Open) (os : List Open) (r : Row) (count path : ℕ) → is_counted (is_site site) o.mark ≡ true
    → count ≡ work_in (o ∷ os) [] → path ≡ path_in site base (o ∷ os) [] → CountsSite site base busy os o.outer r
    → CountsSite site base busy (o ∷ os) [] (entered count path r)
row_entered site base busy o os r count path e c p h =
    let n : one_if (is_counted (is_site site) o.mark) ≡ 1 = ap one_if e in
    let first = r.active == 0 in
    let same = entered_calls first count path r in
    let same_calls = same.0 in
    let same_own = same.1 in
    let W : Tally → Type 0 = λ t. Counts work work_in (is_site site) busy (o ∷ os) [] t in
    let S : Tally → Type 0 = λ t. Counts span (path_in site base) (is_site site) busy (o ∷ os) [] t in
    record {
      calls_is = let b = h.calls_is in let a = adds_none (calls_of site) (calls_adds site) in omega arith;
      own_is = let b = h.own_is in let a = adds_none (own_tree site (here_in base (o ∷ os))) (own_adds site (here_in base (o ∷ os))) in omega arith;
      work_is = subst W (ap (λ (x : ℕ). begun x (work_tally r)) (sym c) ∙ begun_work first count path r) (counts_begun work work_in (is_site site) busy o os (work_tally r) e h.work_is);
      span_is = subst S (ap (λ (x : ℕ). begun x (span_tally r)) (sym p) ∙ begun_span first count path r) (counts_begun span (path_in site base) (is_site site) busy o os (span_tally r) e h.span_is);
    }

-- an invocation of the site ends
pub row_left : (site base busy : ℕ) (o : Open) (os : List Open) (es : List Event) (r : Row) (count path : ℕ)
    → is_counted (is_site site) o.mark ≡ true → has_spawned es ≡ false → count ≡ work_in (o ∷ os) es → path ≡ path_in site base (o ∷ os) es
    → CountsSite site base busy (o ∷ os) es r → CountsSite site base busy os (closed o es) (left count path r)
row_left site base busy o os es r count path e f c p h =
    let last = r.active == 1 in
    let same = left_same last count path r in
    let W : Tally → Type 0 = λ t. Counts work work_in (is_site site) busy os (closed o es) t in
    let S : Tally → Type 0 = λ t. Counts span (path_in site base) (is_site site) busy os (closed o es) t in
    record {
      calls_is = same.0 ∙ h.calls_is ∙ sym (left_calls site o os es);
      own_is = same.1 ∙ h.own_is ∙ sym (left_own site base o os es);
      work_is = subst W (ap (λ (x : ℕ). ended x (work_tally r)) (sym c) ∙ ended_work last count path r)
          (counts_ended work work_in (is_site site) busy work_meters o os es (work_tally r) e f h.work_is);
      span_is = subst S (ap (λ (x : ℕ). ended x (span_tally r)) (sym p) ∙ ended_span last count path r)
          (counts_ended span (path_in site base) (is_site site) busy (path_meters site base) o os es (span_tally r) e f h.span_is);
    }
