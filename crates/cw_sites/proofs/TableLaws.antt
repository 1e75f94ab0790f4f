-- A table represents a run so far, and each step of a run preserves this.
use Rattle.std.specs.Prelude.{◌≡◌, ℕ, ◌+◌, ◌-◌, ◌^◌, ◌==◌, ◌<◌, Bool, true, false, not, List, [], ◌∷◌, ◌++◌, Option, Some, refl, ◌*◌}
use Rattle.std.proofs.Common.{sym, ◌∙◌, ap, subst, arith}
use borrow.Author.Tests.{eqb-true}
use Rattle.cw_model.specs.Trees.{Mark, Invocation, Event, Work, Join, tree_of, work, span}
use Rattle.cw_model.specs.Rows.{SiteRow, site_row, is_site}
use Rattle.cw_measure.specs.OpenParts.{Open, in_fork, closed, has_spawned, IsSince, Since, work_in}
use Rattle.cw_measure.specs.lemmas.OpenParts.{adds_none, work_adds, work_more, sum_begun, left_work, kept_since, has_spawned_since, work_since}
use Rattle.cw_measure.specs.lemmas.Outermost.{counts_read}
use Rattle.cw_sites.specs.declared.rows.Row.{Row}
use Rattle.cw_sites.specs.declared.paths.Paths.{Paths}
use Rattle.cw_sites.specs.declared.table.SiteTable.{SiteTable}
use Rattle.cw_sites.specs.ChosenPaths.{Path, plus, steps_of}
use Rattle.cw_sites.specs.StepSums.{Fits}
use Rattle.cw_sites.specs.BlockPaths.{now_of}
use Rattle.cw_sites.specs.StepLists.{strand_path, IsWithinLimit, Laid}
use Rattle.cw_sites.specs.PathBounds.{most_steps, GrowsWithin, IsBounded, IsTight}
use Rattle.cw_sites.proofs.PathBoundLaws.{looser, tight_within}
use Rattle.cw_sites.specs.StrandPaths.{StrandPath, whole, spawns, ends, joins}
use Rattle.cw_sites.specs.OpenPaths.{here_in, block_path, path_in, Shows}
use Rattle.cw_sites.specs.SiteRows.{row_of, worked, entered, left, work_tally, span_tally, CountsSite, FitsRow}
use Rattle.cw_sites.specs.Laws.{BlocksReadChosenPaths}
use Rattle.cw_sites.specs.Tables.{IsBoundedTable, IsTightTable, IsQuiet, Small, Tracks, called, spawned, Flushed, RowBegun, RowLeft}
use Rattle.cw_sites.proofs.ChosenPathLaws.{path_of-chosen_leaves}
use Rattle.cw_sites.specs.lemmas.BlockPaths.{finished-after_all}
use Rattle.cw_sites.specs.lemmas.OpenPaths.{shows_work, shows_entered, shows_spawned, shows_spawned_again, shows_joined, shows_unjoined, shows_left, shows_ended, shows_all}
use Rattle.cw_sites.specs.lemmas.SiteRows.{steps_if, row_other, row_other_left, left_calls}
use Rattle.cw_sites.proofs.SiteRowLaws.{row_work, row_join, row_entered, row_left}
use Rattle.cw_sites.proofs.Bounds.{whole_within, own_in_within, works_within, spans_within}
use Rattle.cw_sites.specs.lemmas.Tables.{quiet_calls, quiet_inside}

pub fits_row : (q base : ℕ) (busy : ℕ → ℕ) (os : List Open) (es : List Event) (r : Row) → Small busy os es → CountsSite q base (busy q) os es r → FitsRow r
fits_row q base busy os es r small h =
    let w = small.work in
    record {
      calls = let a = small.calls q in let b = h.calls_is in omega arith;
      own = let a = own_in_within q base os es in let b = h.own_is in omega arith;
      work = let a = works_within q (busy q) os es in let b = h.work_is.sum_is in omega arith;
      span = let a = spans_within q (busy q) os es in let b = h.span_is.sum_is in omega arith;
      active = let a = small.active q in let b = h.work_is.active_is in omega arith;
    }

fits_whole : (q base : ℕ) (busy : ℕ → ℕ) (os : List Open) (es : List Event) (t : StrandPath) → Small busy os es → Shows q base os es t → Fits (whole t)
fits_whole q base busy os es t small h = let w = whole_within q base os es t h in let s = small.work in (omega arith, omega arith)

pub small_outer : (busy : ℕ → ℕ) (o : Open) (os : List Open) (es : List Event) → Small busy (o ∷ os) es → Small busy os o.outer
small_outer busy o os es small = record {
  work = let a = small.work in omega arith;
  calls = λ q. let a = small.calls q in omega arith;
  active = λ q. let a = small.active q in omega arith;
}

pub small_closed : (busy : ℕ → ℕ) (o : Open) (os : List Open) (es : List Event) → Small busy (o ∷ os) es → Small busy os (closed o es)
small_closed busy o os es small = record {
  work = let a = small.work in let b = left_work o os es in omega arith;
  calls = λ q. let a = small.calls q in let b = left_calls q o os es in omega arith;
  active = λ q. let a = small.active q in omega arith;
}

-- the row and path of a site represent a run, with `k` instructions still to be attributed to a site
abbrev pub given_row : (q here k : ℕ) → Row → Row
given_row q here k r = worked (steps_of q here k).own r

abbrev pub given_strand_path : (q here k : ℕ) → StrandPath → StrandPath
given_strand_path q here k t = record { now = plus t.now (steps_of q here k); blocks = t.blocks }

own_sum : (b : Bool) (a n k : ℕ) → (a + steps_if b n) + steps_if b k ≡ a + steps_if b (n + k)
own_sum true a n k = omega arith
own_sum false a n k = omega arith

own_none : (b : Bool) (a : ℕ) → a + steps_if b 0 ≡ a
own_none true a = omega arith
own_none false a = omega arith

abbrev row_with : Row → ℕ → Row
row_with r o = record { calls = r.calls; own = o; work = r.work; span = r.span; active = r.active; at_work = r.at_work; at_path = r.at_path }

abbrev strand_path_with : StrandPath → ℕ → ℕ → StrandPath
strand_path_with t w o = record { now = record { weight = w; own = o }; blocks = t.blocks }

strand_path_same : (t : StrandPath) (w w' o o' : ℕ) → w ≡ w' → o ≡ o' → strand_path_with t w o ≡ strand_path_with t w' o'
strand_path_same t w w' o o' e f = cc

row_sum : (q here n k : ℕ) (r : Row) → given_row q here k (given_row q here n r) ≡ given_row q here (n + k) r
row_sum q here n k r = ap (row_with r) (own_sum (here == q) r.own n k)

strand_path_sum : (q here n k : ℕ) (t : StrandPath) → given_strand_path q here k (given_strand_path q here n t) ≡ given_strand_path q here (n + k) t
strand_path_sum q here n k t = strand_path_same t ((t.now.weight + n) + k) (t.now.weight + (n + k))
    ((t.now.own + steps_if (here == q) n) + steps_if (here == q) k) (t.now.own + steps_if (here == q) (n + k)) (omega arith) (own_sum (here == q) t.now.own n k)

row_none : (q here : ℕ) (r : Row) → r ≡ given_row q here 0 r
row_none q here r = sym (ap (row_with r) (own_none (here == q) r.own))

strand_path_none : (q here : ℕ) (t : StrandPath) → t ≡ given_strand_path q here 0 t
strand_path_none q here t = sym (strand_path_same t (t.now.weight + 0) t.now.weight (t.now.own + steps_if (here == q) 0) t.now.own (omega arith) (own_none (here == q) t.now.own))

pub record Both (q base busy : ℕ) (os : List Open) (es : List Event) (r : Row) (t : StrandPath) : Type 0 where
  pub counts : CountsSite q base busy os es r
  pub shows : Shows q base os es t

-- the row and path after the events since the last call
abbrev BothAfter : (q base busy : ℕ) → List Open → Row → StrandPath → List Event → ℕ → Type 0
BothAfter q base busy os r t es n = Both q base busy os es (given_row q (here_in base os) n r) (given_strand_path q (here_in base os) n t)

both_work : (q base busy : ℕ) (os : List Open) (r : Row) (t : StrandPath) (es : List Event) (n k : ℕ) → BothAfter q base busy os r t es n → BothAfter q base busy os r t (es ++ Work k ∷ []) (n + k)
both_work q base busy os r t es n k h =
    let here = here_in base os in
    let R : Row → Type 0 = λ x. CountsSite q base busy os (es ++ Work k ∷ []) x in
    let T : StrandPath → Type 0 = λ x. Shows q base os (es ++ Work k ∷ []) x in
    record {
      counts = subst R (row_sum q here n k r) (row_work q base busy os es (given_row q here n r) k h.counts);
      shows = subst T (strand_path_sum q here n k t) (shows_work q base os es (given_strand_path q here n t) k h.shows);
    }

both_join : (q base busy : ℕ) (os : List Open) (r : Row) (t : StrandPath) (es : List Event) (n : ℕ) → has_spawned es ≡ false
    → BothAfter q base busy os r t es n → BothAfter q base busy os r t (es ++ Join ∷ []) n
both_join q base busy os r t es n e h = record {
  counts = row_join q base busy os es (given_row q (here_in base os) n r) h.counts;
  shows = shows_unjoined q base os es (given_strand_path q (here_in base os) n t) e h.shows;
}

both_since : (q base busy : ℕ) (os : List Open) (es fs : List Event) (r : Row) (t : StrandPath) (k : ℕ) → IsSince (has_spawned es) fs k
    → Both q base busy os es r t → BothAfter q base busy os r t (es ++ fs) k
both_since q base busy os es fs r t k s h =
    let here = here_in base os in
    let P : List Event → ℕ → Type 0 = BothAfter q base busy os r t in
    let R : Row → Type 0 = λ x. CountsSite q base busy os es x in
    let T : StrandPath → Type 0 = λ x. Shows q base os es x in
    let zero_more : BothAfter q base busy os r t es 0 = record { counts = subst R (row_none q here r) h.counts; shows = subst T (strand_path_none q here t) h.shows } in
    let first : 0 + k ≡ k = omega arith in
    let Q : ℕ → Type 0 = P (es ++ fs) in
    subst Q first (kept_since P (record { work = both_work q base busy os r t; join = both_join q base busy os r t }) es fs 0 k s zero_more)

pub table_flushed : (base : ℕ) (busy : ℕ → ℕ) (os : List Open) (es fs : List Event) (old new : SiteTable) (count : ℕ) → Since old.noted count es fs
    → Small busy os (es ++ fs) → Tracks base busy os es old → Flushed old new count → Tracks base busy os (es ++ fs) new
table_flushed base busy os es fs old new count since small h f =
    let k = count - old.noted in
    let same : (q : ℕ) → steps_of q (here_in base os) k ≡ steps_of q old.here k = λ q. ap (λ (x : ℕ). steps_of q x k) (sym h.here_is) in
    let both : (q : ℕ) → Both q base (busy q) os (es ++ fs) (given_row q (here_in base os) k (row_of old.rows q)) (given_strand_path q (here_in base os) k (strand_path q old.paths)) =
    λ q. both_since q base (busy q) os es fs (row_of old.rows q) (strand_path q old.paths) k since.instructions (record { counts = h.rows q; shows = h.paths q }) in
    record {
      rows = λ q.
          let C : Path → Type 0 = λ s. CountsSite q base (busy q) os (es ++ fs) (worked s.own (row_of old.rows q)) in
          let c = subst C (same q) (both q).counts in
          let D : Row → Type 0 = λ r. CountsSite q base (busy q) os (es ++ fs) r in
          subst D (sym (f.rows since.goes_on q (fits_row q base busy os (es ++ fs) (worked (steps_of q old.here k).own (row_of old.rows q)) small c))) c;
      paths = λ q.
          let S : Path → Type 0 = λ s. Shows q base os (es ++ fs) (record { now = plus (strand_path q old.paths).now s; blocks = (strand_path q old.paths).blocks }) in
          let s = subst S (same q) (both q).shows in
          let D : StrandPath → Type 0 = λ t. Shows q base os (es ++ fs) t in
          let w = whole_within q base os (es ++ fs) (record { now = plus (strand_path q old.paths).now (steps_of q old.here k); blocks = (strand_path q old.paths).blocks }) s in
          let l = small.work in
          let fits : Fits (plus (strand_path q old.paths).now (steps_of q old.here k)) = (omega arith, omega arith) in
          subst D (sym (f.paths since.goes_on h.laid q fits)) s;
      laid = f.laid h.laid;
      noted_is = let a = work_since os es fs k since.instructions in let b = h.noted_is in let c = f.noted_is in let d = since.goes_on in omega arith;
      here_is = f.here_is ∙ h.here_is;
    }

-- an invocation begins
entered_row : (first : Bool) (base : ℕ) (busy : ℕ → ℕ) (os : List Open) (es : List Event) (old new : SiteTable) (b : Bool) (site path q : ℕ)
    → (site == q) ≡ first → Small busy (record { spawned = b; mark = Some (Invocation site); outer = es } ∷ os) [] → Tracks base busy os es old
    → ((p : ℕ) → path ≡ path_in p base (record { spawned = b; mark = Some (Invocation site); outer = es } ∷ os) []) → RowBegun old new site path
    → CountsSite q base (busy q) (record { spawned = b; mark = Some (Invocation site); outer = es } ∷ os) [] (row_of new.rows q)
entered_row true base busy os es old new b site path q e small h p f =
    let s : site ≡ q = eqb-true site q e in
    let o : Open = record { spawned = b; mark = Some (Invocation site); outer = es } in
    let P : ℕ → Type 0 = λ x. CountsSite x base (busy x) (o ∷ os) [] (row_of new.rows x) in
    let same : (site == site) ≡ true = ap (λ (x : ℕ). site == x) s ∙ e in
    let c = row_entered site base (busy site) o os (row_of old.rows site) old.noted path same (h.noted_is ∙ sym (sum_begun work work_adds o os)) (p site) (h.rows site) in
    let D : Row → Type 0 = λ r. CountsSite site base (busy site) (o ∷ os) [] r in
    subst P s (subst D (sym (f.own (fits_row site base busy (o ∷ os) [] (entered old.noted path (row_of old.rows site)) small c))) c)
entered_row false base busy os es old new b site path q e small h p f =
    let o : Open = record { spawned = b; mark = Some (Invocation site); outer = es } in
    let D : Row → Type 0 = λ r. CountsSite q base (busy q) (o ∷ os) [] r in
    subst D (sym (f.others q e)) (row_other q base (busy q) o os (row_of old.rows q) e (h.rows q))

pub table_entered : (base : ℕ) (busy : ℕ → ℕ) (os : List Open) (es : List Event) (old new : SiteTable) (b : Bool) (site path : ℕ)
    → Small busy (record { spawned = b; mark = Some (Invocation site); outer = es } ∷ os) [] → Tracks base busy os es old
    → ((p : ℕ) → path ≡ path_in p base (record { spawned = b; mark = Some (Invocation site); outer = es } ∷ os) []) → RowBegun old new site path
    → ((q : ℕ) → Shows q base (record { spawned = b; mark = Some (Invocation site); outer = es } ∷ os) [] (strand_path q new.paths)) → Laid new.paths
    → Tracks base busy (record { spawned = b; mark = Some (Invocation site); outer = es } ∷ os) [] new
table_entered base busy os es old new b site path small h p f s l = record {
  laid = l;
  rows = λ q. entered_row (site == q) base busy os es old new b site path q refl small h p f;
  paths = s;
  noted_is = let a = f.noted_is in let c = h.noted_is in let d = adds_none work work_adds in omega arith;
  here_is = f.here_is;
}

-- an invocation ends
left_row : (own : Bool) (base : ℕ) (busy : ℕ → ℕ) (os : List Open) (before es : List Event) (old new : SiteTable) (b : Bool) (site outer q : ℕ)
    → (old.here == q) ≡ own → has_spawned es ≡ false → Small busy (record { spawned = b; mark = Some (Invocation site); outer = before } ∷ os) es
    → Tracks base busy (record { spawned = b; mark = Some (Invocation site); outer = before } ∷ os) es old → RowLeft old new outer
    → CountsSite q base (busy q) os (closed (record { spawned = b; mark = Some (Invocation site); outer = before }) es) (row_of new.rows q)
left_row true base busy os before es old new b site outer q e n small h f =
    let o : Open = record { spawned = b; mark = Some (Invocation site); outer = before } in
    let s : old.here ≡ q = eqb-true old.here q e in
    let at : site ≡ old.here = sym h.here_is in
    let P : ℕ → Type 0 = λ x. CountsSite x base (busy x) os (closed o es) (row_of new.rows x) in
    let same : (site == old.here) ≡ true = ap (λ (x : ℕ). x == old.here) at ∙ ap (λ (x : ℕ). old.here == x) s ∙ e in
    let path : (strand_path 0 old.paths).now.weight ≡ (now_of (block_path old.here base (o ∷ os) es)).weight = ap (λ (x : Path). x.weight) (h.paths old.here).now_is in
    let c = row_left old.here base (busy old.here) o os es (row_of old.rows old.here) old.noted (strand_path 0 old.paths).now.weight same n h.noted_is path (h.rows old.here) in
    let D : Row → Type 0 = λ r. CountsSite old.here base (busy old.here) os (closed o es) r in
    subst P s (subst D (sym (f.own (fits_row old.here base busy os (closed o es)
    (left old.noted (strand_path 0 old.paths).now.weight (row_of old.rows old.here)) (small_closed busy o os es small) c))) c)
left_row false base busy os before es old new b site outer q e n small h f =
    let o : Open = record { spawned = b; mark = Some (Invocation site); outer = before } in
    let other : (site == q) ≡ false = ap (λ (x : ℕ). x == q) (sym h.here_is) ∙ e in
    let D : Row → Type 0 = λ r. CountsSite q base (busy q) os (closed o es) r in
    subst D (sym (f.others q e)) (row_other_left q base (busy q) o os es (row_of old.rows q) other (h.rows q))

pub table_left : (base : ℕ) (busy : ℕ → ℕ) (os : List Open) (before es : List Event) (old new : SiteTable) (b : Bool) (site outer : ℕ)
    → has_spawned es ≡ false → outer ≡ here_in base os → Small busy (record { spawned = b; mark = Some (Invocation site); outer = before } ∷ os) es
    → Tracks base busy (record { spawned = b; mark = Some (Invocation site); outer = before } ∷ os) es old → RowLeft old new outer
    → ((q : ℕ) → Shows q base os (closed (record { spawned = b; mark = Some (Invocation site); outer = before }) es) (strand_path q new.paths))
    → Laid new.paths → Tracks base busy os (closed (record { spawned = b; mark = Some (Invocation site); outer = before }) es) new
table_left base busy os before es old new b site outer n at small h f s l = record {
  laid = l;
  rows = λ q. left_row (old.here == q) base busy os before es old new b site outer q refl n small h f;
  paths = s;
  noted_is = let a = f.noted_is in let c = h.noted_is in let d = left_work (record { spawned = b; mark = Some (Invocation site); outer = before }) os es in omega arith;
  here_is = f.here_is ∙ at;
}

-- the block joins
pub table_joined : (base : ℕ) (busy : ℕ → ℕ) (os : List Open) (es : List Event) (old new : SiteTable) → has_spawned es ≡ true → Small busy os es
    → Tracks base busy os es old → (Laid old.paths → Laid new.paths) → (Laid old.paths → (q : ℕ) → Fits (whole (strand_path q old.paths))
    → strand_path q new.paths ≡ joins (strand_path q old.paths)) → ((q : ℕ) → row_of new.rows q ≡ row_of old.rows q) → new.noted ≡ old.noted
    → new.here ≡ old.here → Tracks base busy os (es ++ Join ∷ []) new
table_joined base busy os es old new n small h l f r m k = record {
  laid = l h.laid;
  rows = λ q. let D : Row → Type 0 = λ x. CountsSite q base (busy q) os (es ++ Join ∷ []) x in subst D (sym (r q)) (row_join q base (busy q) os es (row_of old.rows q) (h.rows q));
  paths = λ q.
      let D : StrandPath → Type 0 = λ t. Shows q base os (es ++ Join ∷ []) t in
      subst D (sym (f h.laid q (fits_whole q base busy os es (strand_path q old.paths) small (h.paths q)))) (shows_joined q base os es (strand_path q old.paths) n (h.paths q));
  noted_is = let a = h.noted_is in let b = work_more os es Join in omega arith;
  here_is = k ∙ h.here_is;
}

-- if no instruction is to be attributed, a flush changes nothing
pub flushed_none : (t : SiteTable) (count : ℕ) → t.noted ≡ count → Flushed t t count
flushed_none t count e =
    let none : 0 ≡ count - t.noted = omega (arith, e) in
    record {
      rows = λ le q fits. let P : ℕ → Type 0 = λ k. row_of t.rows q ≡ given_row q t.here k (row_of t.rows q) in subst P none (row_none q t.here (row_of t.rows q));
      laid = λ l. l;
      paths = λ le l q fits. let P : ℕ → Type 0 = λ k. strand_path q t.paths ≡ given_strand_path q t.here k (strand_path q t.paths) in subst P none (strand_path_none q t.here (strand_path q t.paths));
      noted_is = e;
      here_is = refl;
    }

-- The public methods.

pub call_begins : (base : ℕ) (busy : ℕ → ℕ) (os : List Open) (es fs : List Event) (old mid new : SiteTable) (count site : ℕ)
    → Since old.noted count es fs → Small busy (called site (es ++ fs) os) [] → Tracks base busy os es old → Flushed old mid count
    → RowBegun mid new site (strand_path 0 mid.paths).now.weight → Tracks base busy (called site (es ++ fs) os) [] new
call_begins base busy os es fs old mid new count site le small h f g =
    let es' = es ++ fs in
    let o : Open = record { spawned = false; mark = Some (Invocation site); outer = es' } in
    let m = table_flushed base busy os es fs old mid count le (small_outer busy o os [] small) h f in
    table_entered base busy os es' mid new false site (strand_path 0 mid.paths).now.weight small m (λ p. ap (λ (x : Path). x.weight) (m.paths p).now_is) g
    (λ q. let D : StrandPath → Type 0 = λ t. Shows q base (o ∷ os) [] t in
    subst D (sym (ap (λ (r : Paths). strand_path q r) g.paths)) (shows_entered q base os es' (strand_path q mid.paths) (Some (Invocation site)) (m.paths q)))
    (subst Laid (sym g.paths) m.laid)

shows_spawned_by : (first : Bool) (q base : ℕ) (os : List Open) (es : List Event) (t : StrandPath) (mark : Option Mark) → has_spawned es ≡ not first
    → Shows q base os es t → Shows q base (record { spawned = true; mark = mark; outer = es } ∷ os) [] (spawns first t)
shows_spawned_by true q base os es t mark e h = shows_spawned q base os es t mark e h
shows_spawned_by false q base os es t mark e h = shows_spawned_again q base os es t mark e h

pub spawn_begins : (base : ℕ) (busy : ℕ → ℕ) (os : List Open) (es fs : List Event) (old mid forked new : SiteTable) (count site : ℕ) (first : Bool)
    → Since old.noted count es fs → has_spawned es ≡ not first → Small busy (spawned site (es ++ fs) os) [] → Tracks base busy os es old
    → Flushed old mid count → (Laid mid.paths → Laid forked.paths) → (Laid mid.paths → (q : ℕ)
    → strand_path q forked.paths ≡ spawns first (strand_path q mid.paths)) → ((q : ℕ) → row_of forked.rows q ≡ row_of mid.rows q)
    → forked.noted ≡ mid.noted → RowBegun forked new site 0 → Tracks base busy (spawned site (es ++ fs) os) [] new
spawn_begins base busy os es fs old mid forked new count site first le n small h f lr r rows mark g =
    let es' = es ++ fs in
    let o : Open = record { spawned = true; mark = Some (Invocation site); outer = es' } in
    let m = table_flushed base busy os es fs old mid count le (small_outer busy o os [] small) h f in
    let R : Row → ℕ → Type 0 = λ x y. FitsRow (entered y 0 x) → row_of new.rows site ≡ entered y 0 x in
    let own : FitsRow (entered mid.noted 0 (row_of mid.rows site)) → row_of new.rows site ≡ entered mid.noted 0 (row_of mid.rows site) =
    (let A : Row → Type 0 = λ x. R x mid.noted in let B : ℕ → Type 0 = λ y. R (row_of forked.rows site) y in subst A (rows site) (subst B mark g.own)) in
    let k : RowBegun mid (record { rows = new.rows; paths = mid.paths; noted = new.noted; here = new.here }) site 0 =
    record { own = own; others = λ q e. g.others q e ∙ rows q; paths = refl; noted_is = g.noted_is ∙ mark; here_is = g.here_is } in
    let l = table_rows base busy os es' mid new site small m k in
    record {
      rows = l;
      laid = subst Laid (sym g.paths) (lr m.laid);
      paths = λ q. let D : StrandPath → Type 0 = λ t. Shows q base (o ∷ os) [] t in
          subst D (sym (ap (λ (r : Paths). strand_path q r) g.paths ∙ r m.laid q))
          (shows_spawned_by first q base os es' (strand_path q mid.paths) (Some (Invocation site))
          (has_spawned_since es fs (count - old.noted) le.instructions ∙ n) (m.paths q));
      noted_is = let a = g.noted_is in let b = m.noted_is in let d = adds_none work work_adds in omega arith;
      here_is = g.here_is;
    }
  where
    table_rows : (base : ℕ) (busy : ℕ → ℕ) (os : List Open) (es : List Event) (mid new : SiteTable) (site : ℕ) → Small busy (spawned site es os) []
        → Tracks base busy os es mid → RowBegun mid (record { rows = new.rows; paths = mid.paths; noted = new.noted; here = new.here }) site 0 → (q : ℕ)
        → CountsSite q base (busy q) (spawned site es os) [] (row_of new.rows q)
    table_rows base busy os es mid new site small m k q = entered_row (site == q) base busy os es mid
        (record { rows = new.rows; paths = mid.paths; noted = new.noted; here = new.here }) true site 0 q refl small m (λ p. refl) k

pub call_ends : (base : ℕ) (busy : ℕ → ℕ) (os : List Open) (before es fs : List Event) (old mid new : SiteTable) (count site outer : ℕ)
    → Since old.noted count es fs → has_spawned es ≡ false → outer ≡ here_in base os → Small busy (called site before os) (es ++ fs)
    → Tracks base busy (called site before os) es old → Flushed old mid count → RowLeft mid new outer
    → Tracks base busy os (closed (record { spawned = false; mark = Some (Invocation site); outer = before }) (es ++ fs)) new
call_ends base busy os before es fs old mid new count site outer le n at small h f g =
    let o : Open = record { spawned = false; mark = Some (Invocation site); outer = before } in
    let es' = es ++ fs in
    let m = table_flushed base busy (o ∷ os) es fs old mid count le small h f in
    let n' = has_spawned_since es fs (count - old.noted) le.instructions ∙ n in
    table_left base busy os before es' mid new false site outer n' at small m g
    (λ q. let D : StrandPath → Type 0 = λ t. Shows q base os (closed o es') t in
    subst D (sym (ap (λ (r : Paths). strand_path q r) g.paths)) (shows_left q base (Some (Invocation site)) before os es'
    (strand_path q mid.paths) n' (m.paths q)))
    (subst Laid (sym g.paths) m.laid)

pub spawn_ends : (base : ℕ) (busy : ℕ → ℕ) (os : List Open) (before es fs : List Event) (old mid closing new : SiteTable) (count site outer : ℕ)
    → Since old.noted count es fs → has_spawned es ≡ false → outer ≡ here_in base os → Small busy (spawned site before os) (es ++ fs)
    → Tracks base busy (spawned site before os) es old → Flushed old mid count → RowLeft mid closing outer → (Laid closing.paths → Laid new.paths)
    → (Laid closing.paths → (q : ℕ) → Fits (whole (strand_path q closing.paths)) → strand_path q new.paths ≡ ends (strand_path q closing.paths))
    → ((q : ℕ) → row_of new.rows q ≡ row_of closing.rows q) → new.noted ≡ closing.noted → new.here ≡ closing.here
    → Tracks base busy os (closed (record { spawned = true; mark = Some (Invocation site); outer = before }) (es ++ fs)) new
spawn_ends base busy os before es fs old mid closing new count site outer le n at small h f g lr r rows mark here =
    let o : Open = record { spawned = true; mark = Some (Invocation site); outer = before } in
    let es' = es ++ fs in
    let m = table_flushed base busy (o ∷ os) es fs old mid count le small h f in
    let n' = has_spawned_since es fs (count - old.noted) le.instructions ∙ n in
    record {
      laid = lr (subst Laid (sym g.paths) m.laid);
      rows = λ q. let D : Row → Type 0 = λ x. CountsSite q base (busy q) os (closed o es') x in
          subst D (sym (rows q)) (left_row (mid.here == q) base busy os before es' mid closing true site outer q refl n' small m g);
      paths = λ q.
          let D : StrandPath → Type 0 = λ t. Shows q base os (closed o es') t in
          let F : StrandPath → Type 0 = λ t. Fits (whole t) in
          let fits = subst F (sym (ap (λ (r : Paths). strand_path q r) g.paths)) (fits_whole q base busy (o ∷ os) es' (strand_path q mid.paths) small (m.paths q)) in
          subst D (sym (r (subst Laid (sym g.paths) m.laid) q fits ∙ ap ends (ap (λ (r : Paths). strand_path q r) g.paths)))
          (shows_ended q base (Some (Invocation site)) before os es' (strand_path q mid.paths) n' (m.paths q));
      noted_is = let a = g.noted_is in let c = m.noted_is in let d = left_work o os es' in omega arith;
      here_is = here ∙ g.here_is ∙ at;
    }

pub record ReadsRow (row : Row) (own : ℕ) (of : SiteRow) : Type 0 where
  pub calls : row.calls ≡ of.calls
  pub own_work : row.own ≡ of.own_work
  pub own_span : own ≡ of.own_span
  pub work : row.work ≡ of.work
  pub span : row.span ≡ of.span

-- the row of a site after the end of the run
pub row_read : (site : ℕ) (busy : ℕ → ℕ) (es : List Event) (table : SiteTable) → busy site ≡ 0 → has_spawned es ≡ false → Small busy [] es
    → Tracks 0 busy [] es table → (own : ℕ) → (Laid table.paths → (strand_path site table.paths).now.own < 2 ^ 64
    → own ≡ (strand_path site table.paths).now.own) → ReadsRow (row_of table.rows site) own (site_row site (tree_of es))
row_read site busy es table idle n small h own o =
    let r = h.rows site in
    let w = whole_within site 0 [] es (strand_path site table.paths) (h.paths site) in
    let s = small.work in
    let fits : (strand_path site table.paths).now.own < 2 ^ 64 = omega arith in
    let c = shows_all site 0 es (strand_path site table.paths) n (h.paths site) in
    record {
      calls = r.calls_is;
      own_work = r.own_is;
      own_span = o h.laid fits ∙ ap (λ (p : Path). p.own) (c ∙ sym (path_of-chosen_leaves site 0 (tree_of es)));
      work = counts_read work work_in (is_site site) (busy site) es (work_tally (row_of table.rows site)) idle r.work_is;
      span = counts_read span (path_in site 0) (is_site site) (busy site) es (span_tally (row_of table.rows site)) idle r.span_is;
    }

-- the half of a loop begins and ends
abbrev with_paths : SiteTable → Paths → SiteTable
with_paths t p = record { rows = t.rows; paths = p; noted = t.noted; here = t.here }

pub half_begins : (base : ℕ) (busy : ℕ → ℕ) (mark : Option Mark) (os : List Open) (es fs : List Event) (old mid : SiteTable) (paths : Paths)
    (count : ℕ) (first : Bool) → IsQuiet mark → Since old.noted count es fs → has_spawned es ≡ not first → Small busy os (es ++ fs)
    → Tracks base busy os es old → Flushed old mid count → (Laid mid.paths → Laid paths)
    → (Laid mid.paths → (q : ℕ) → strand_path q paths ≡ spawns first (strand_path q mid.paths))
    → Tracks base busy (in_fork mark (es ++ fs) os) [] (with_paths mid paths)
half_begins base busy mark os es fs old mid paths count first quiet since n small h f l r =
    let es' = es ++ fs in
    let o : Open = record { spawned = true; mark = mark; outer = es' } in
    let m = table_flushed base busy os es fs old mid count since small h f in
    let e = has_spawned_since es fs (count - old.noted) since.instructions ∙ n in
    record {
      rows = λ q. row_other q base (busy q) o os (row_of mid.rows q) (quiet_calls mark q quiet) (m.rows q);
      paths = λ q. let D : StrandPath → Type 0 = λ t. Shows q base (o ∷ os) [] t in subst D (sym (r m.laid q)) (shows_spawned_by first q base os es' (strand_path q mid.paths) mark e (m.paths q));
      laid = l m.laid;
      noted_is = m.noted_is ∙ sym (sum_begun work work_adds o os);
      here_is = m.here_is ∙ sym (quiet_inside mark (here_in base os) quiet);
    }

pub half_ends : (base : ℕ) (busy : ℕ → ℕ) (mark : Option Mark) (os : List Open) (before es fs : List Event) (old mid : SiteTable) (paths : Paths)
    (count : ℕ) → IsQuiet mark → Since old.noted count es fs → has_spawned es ≡ false → Small busy (in_fork mark before os) (es ++ fs)
    → Tracks base busy (in_fork mark before os) es old → Flushed old mid count → (Laid mid.paths → Laid paths)
    → (Laid mid.paths → (q : ℕ) → Fits (whole (strand_path q mid.paths)) → strand_path q paths ≡ ends (strand_path q mid.paths))
    → Tracks base busy os (closed (record { spawned = true; mark = mark; outer = before }) (es ++ fs)) (with_paths mid paths)
half_ends base busy mark os before es fs old mid paths count quiet since n small h f l r =
    let es' = es ++ fs in
    let o : Open = record { spawned = true; mark = mark; outer = before } in
    let m = table_flushed base busy (o ∷ os) es fs old mid count since small h f in
    let e = has_spawned_since es fs (count - old.noted) since.instructions ∙ n in
    record {
      rows = λ q. row_other_left q base (busy q) o os es' (row_of mid.rows q) (quiet_calls mark q quiet) (m.rows q);
      paths = λ q.
          let D : StrandPath → Type 0 = λ t. Shows q base os (closed o es') t in
          subst D (sym (r m.laid q (fits_whole q base busy (o ∷ os) es' (strand_path q mid.paths) small (m.paths q)))) (shows_ended q base mark before os es' (strand_path q mid.paths) e (m.paths q));
      laid = l m.laid;
      noted_is = m.noted_is ∙ sym (left_work o os es');
      here_is = m.here_is ∙ quiet_inside mark (here_in base os) quiet;
    }

-- a table with equal paths has the same bound
pub bounded_by : (most : ℕ) (old new : SiteTable) (site : ℕ) → new.paths ≡ old.paths → new.here ≡ site → site < most → IsTightTable most old → IsTightTable most new
bounded_by most old new site p e less h = let P : Paths → Type 0 = IsTight most in record { paths = subst P (sym p) h.paths; here = omega arith }

pub tight_bounded : (most : ℕ) (table : SiteTable) → IsTightTable most table → IsBoundedTable most table
tight_bounded most table h = record { paths = looser (most_steps most + 1) (2 * (most_steps most + 1)) most table.paths (omega arith) h.paths; here = h.here }

-- a flush without merging, for a path within its limit and for any path
pub flushed_within : (most : ℕ) (old new : SiteTable) → IsWithinLimit old.paths → GrowsWithin old.here old.paths new.paths → new.here ≡ old.here
    → IsBoundedTable most old → IsTightTable most new
flushed_within most old new le grows e h =
    let less = h.here in
    record { paths = grows (most_steps most + 1) most h.here (omega arith) (tight_within _ most old.paths le h.paths); here = omega arith }

pub moved_within : (most : ℕ) (old mid new : SiteTable) (site : ℕ) → GrowsWithin old.here old.paths mid.paths → new.paths ≡ mid.paths → new.here ≡ site
    → site < most → IsBoundedTable most old → IsBoundedTable most new
moved_within most old mid new site grows p e less h =
    let P : Paths → Type 0 = IsBounded most in
    record { paths = subst P (sym p) (grows (2 * (most_steps most + 1)) most h.here (omega arith) h.paths); here = omega arith }

pub blocks_read_chosen_paths : BlocksReadChosenPaths
blocks_read_chosen_paths = record { blocks = finished-after_all; leaves = path_of-chosen_leaves }
