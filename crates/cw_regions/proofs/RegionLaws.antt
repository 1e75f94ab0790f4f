-- A table represents a run so far, and each step of a run preserves this.
use Rattle.std.specs.Prelude.{◌≡◌, ℕ, ◌==◌, ◌≤◌, ◌<◌, Bool, true, false, List, [], ◌∷◌, ◌++◌, Some, refl}
use Rattle.std.proofs.Common.{sym, ◌∙◌, ap, subst, true≢false, arith}
use borrow.Author.Tests.{eqb-true}
use Rattle.cw_facts.specs.Tests.{equal}
use Rattle.cw_model.specs.declared.burden.Burden.{Burden}
use Rattle.cw_model.specs.Syntax.{Name}
use Rattle.cw_model.specs.Names.{same_name}
use Rattle.cw_model.specs.Trees.{Execution, Tree, Event, tree_of, work, span, burdened_span}
use Rattle.cw_model.specs.Rows.{is_tag, region_row}
use Rattle.cw_model.specs.lemmas.Names.{same_itself}
use Rattle.cw_measure.specs.OpenParts.{Open, closed, has_spawned, sum_in, work_in}
use Rattle.cw_measure.specs.Outermost.{is_counted, Tally, begun_at, begun, ended_at, ended, Counts}
use Rattle.cw_measure.specs.BlockWeights.{burdened_work, burdened_work_in}
use Rattle.cw_measure.specs.lemmas.OpenParts.{left_work, sum_begun, work_adds}
use Rattle.cw_measure.specs.lemmas.Outermost.{Bounds, outer_in_within, counts_begun, counts_ended, counts_read, counts_alike, counts_further, work_bounds, span_bounds}
use Rattle.cw_measure.specs.lemmas.StrandWeights.{span_within, left_burdened_work, work_meters}
use Rattle.cw_regions.specs.declared.rows.Row.{Row}
use Rattle.cw_regions.specs.declared.table.RegionTable.{RegionTable}
use Rattle.cw_regions.specs.RegionRows.{row_of, zero_row, entered_at, entered, left_at, left, work_tally, span_tally, burdened_tally, summed, FitsRow, IsReadAs, JoinsRows}
use Rattle.cw_regions.specs.Regions.{Readings, Tags, CountsTag, TracksRegions, SmallRegions, executed, RegionsKeep, JoinsRegions}
use Rattle.cw_regions.specs.lemmas.Regions.{row_other, row_other_left, regions_need_no_call}

-- the tallies of a row after the start and the end of an execution
begun_work : (first : Bool) (count path heavy : ℕ) (r : Row) → begun_at first count (work_tally r) ≡ work_tally (entered_at first count path heavy r)
begun_work true count path heavy r = refl
begun_work false count path heavy r = refl

begun_span : (first : Bool) (count path heavy : ℕ) (r : Row) → begun_at first path (span_tally r) ≡ span_tally (entered_at first count path heavy r)
begun_span true count path heavy r = refl
begun_span false count path heavy r = refl

begun_burdened : (first : Bool) (count path heavy : ℕ) (r : Row) → begun_at first heavy (burdened_tally r) ≡ burdened_tally (entered_at first count path heavy r)
begun_burdened true count path heavy r = refl
begun_burdened false count path heavy r = refl

ended_work : (last : Bool) (count path heavy : ℕ) (r : Row) → ended_at last count (work_tally r) ≡ work_tally (left_at last count path heavy r)
ended_work true count path heavy r = refl
ended_work false count path heavy r = refl

ended_span : (last : Bool) (count path heavy : ℕ) (r : Row) → ended_at last path (span_tally r) ≡ span_tally (left_at last count path heavy r)
ended_span true count path heavy r = refl
ended_span false count path heavy r = refl

ended_burdened : (last : Bool) (count path heavy : ℕ) (r : Row) → ended_at last heavy (burdened_tally r) ≡ burdened_tally (left_at last count path heavy r)
ended_burdened true count path heavy r = refl
ended_burdened false count path heavy r = refl

row_entered : (burden : Burden) (along : Readings burden) (tag : Name) (busy : ℕ) (o : Open) (os : List Open) (r : Row) (count path heavy : ℕ)
    → is_counted (is_tag tag) o.mark ≡ true → count ≡ work_in (o ∷ os) [] → path ≡ along.path (o ∷ os) [] → heavy ≡ along.burdened (o ∷ os) []
    → CountsTag burden along tag busy os o.outer r → CountsTag burden along tag busy (o ∷ os) [] (entered count path heavy r)
row_entered burden along tag busy o os r count path heavy e c p b h =
    let first = r.active == 0 in
    let W : Tally → Type 0 = λ t. Counts work work_in (is_tag tag) busy (o ∷ os) [] t in
    let S : Tally → Type 0 = λ t. Counts span along.path (is_tag tag) busy (o ∷ os) [] t in
    let B : Tally → Type 0 = λ t. Counts (burdened_span burden) along.burdened (is_tag tag) busy (o ∷ os) [] t in
    record {
      work_is = subst W (ap (λ (x : ℕ). begun x (work_tally r)) (sym c) ∙ begun_work first count path heavy r) (counts_begun work work_in (is_tag tag) busy o os (work_tally r) e h.work_is);
      span_is = subst S (ap (λ (x : ℕ). begun x (span_tally r)) (sym p) ∙ begun_span first count path heavy r) (counts_begun span along.path (is_tag tag) busy o os (span_tally r) e h.span_is);
      burdened_is = subst B (ap (λ (x : ℕ). begun x (burdened_tally r)) (sym b) ∙ begun_burdened first count path heavy r)
          (counts_begun (burdened_span burden) along.burdened (is_tag tag) busy o os (burdened_tally r) e h.burdened_is);
    }

row_left : (burden : Burden) (along : Readings burden) (tag : Name) (busy : ℕ) (o : Open) (os : List Open) (es : List Event) (r : Row)
    (count path heavy : ℕ) → is_counted (is_tag tag) o.mark ≡ true → has_spawned es ≡ false → count ≡ work_in (o ∷ os) es
    → path ≡ along.path (o ∷ os) es → heavy ≡ along.burdened (o ∷ os) es → CountsTag burden along tag busy (o ∷ os) es r
    → CountsTag burden along tag busy os (closed o es) (left count path heavy r)
row_left burden along tag busy o os es r count path heavy e j c p b h =
    let last = r.active == 1 in
    let W : Tally → Type 0 = λ t. Counts work work_in (is_tag tag) busy os (closed o es) t in
    let S : Tally → Type 0 = λ t. Counts span along.path (is_tag tag) busy os (closed o es) t in
    let B : Tally → Type 0 = λ t. Counts (burdened_span burden) along.burdened (is_tag tag) busy os (closed o es) t in
    record {
      work_is = subst W (ap (λ (x : ℕ). ended x (work_tally r)) (sym c) ∙ ended_work last count path heavy r)
          (counts_ended work work_in (is_tag tag) busy work_meters o os es (work_tally r) e j h.work_is);
      span_is = subst S (ap (λ (x : ℕ). ended x (span_tally r)) (sym p) ∙ ended_span last count path heavy r)
          (counts_ended span along.path (is_tag tag) busy along.path_is o os es (span_tally r) e j h.span_is);
      burdened_is = subst B (ap (λ (x : ℕ). ended x (burdened_tally r)) (sym b) ∙ ended_burdened last count path heavy r)
          (counts_ended (burdened_span burden) along.burdened (is_tag tag) busy along.burdened_is o os es (burdened_tally r) e j h.burdened_is);
    }

burdened_bounds : (burden : Burden) → Bounds (burdened_span burden) (burdened_work burden)
burdened_bounds burden = record { above = span_within burden; series = λ a b. omega arith; fork = λ a b. omega arith; in_mark = λ m t. omega arith }

burdened_sum : (burden : Burden) (os : List Open) (es : List Event) → sum_in (burdened_work burden) os es ≤ burdened_work_in burden os es
burdened_sum burden [] es = omega arith
burdened_sum burden (o ∷ os) es = let a = burdened_sum burden os o.outer in omega arith

fits_row : (burden : Burden) (along : Readings burden) (tags : Tags) (busy : ℕ → ℕ) (os : List Open) (es : List Event) (k : ℕ) (r : Row)
    → SmallRegions burden tags busy os es → CountsTag burden along (tags.name k) (busy k) os es r → FitsRow r
fits_row burden along tags busy os es k r small h =
    let picks = is_tag (tags.name k) in
    let w = small.work in
    record {
      work = let a = outer_in_within work work work_bounds picks (busy k) os es in let b = h.work_is.sum_is in omega arith;
      span = let a = outer_in_within span work span_bounds picks (busy k) os es in let b = h.span_is.sum_is in omega arith;
      burdened = let a = outer_in_within (burdened_span burden) (burdened_work burden) (burdened_bounds burden) picks (busy k) os es in let b =
          h.burdened_is.sum_is in let c = burdened_sum burden os es in let d = small.burdened in omega arith;
      active = let a = small.active k in let b = h.work_is.active_is in omega arith;
    }

small_closed : (burden : Burden) (tags : Tags) (busy : ℕ → ℕ) (o : Open) (os : List Open) (es : List Event) → SmallRegions burden tags busy (o ∷ os) es → SmallRegions burden tags busy os (closed o es)
small_closed burden tags busy o os es small = record {
  work = let a = small.work in let b = left_work o os es in omega arith;
  burdened = let a = small.burdened in let b = left_burdened_work burden o os es in omega arith;
  active = λ k. let a = small.active k in omega arith;
}

other_tag : (tags : Tags) (q tag : ℕ) (b : Bool) → same_name (tags.name q) (tags.name tag) ≡ b → q < tags.count → tag < tags.count → (tag == q) ≡ false → b ≡ false
other_tag tags q tag true e l m n =
    let same = tags.differ q tag l m e in
    absurd (true≢false (sym (equal tag tag refl) ∙ ap (λ (x : ℕ). tag == x) (sym same) ∙ n))
other_tag tags q tag false e l m n = refl

-- an execution begins
pub region_begins : (burden : Burden) (along : Readings burden) (tags : Tags) (busy : ℕ → ℕ) (os : List Open) (es : List Event)
    (old new : RegionTable) (tag count path heavy : ℕ) → tag < tags.count → count ≡ work_in os es → path ≡ along.path os es
    → heavy ≡ along.burdened os es → SmallRegions burden tags busy (executed tags tag es os) [] → TracksRegions burden along tags busy os es old
    → (FitsRow (entered count path heavy (row_of old.rows tag)) → row_of new.rows tag ≡ entered count path heavy (row_of old.rows tag))
    → ((q : ℕ) → (tag == q) ≡ false → row_of new.rows q ≡ row_of old.rows q) → TracksRegions burden along tags busy (executed tags tag es os) [] new
region_begins burden along tags busy os es old new tag count path heavy known c p b small h own others = λ q less. by_tag q less (tag == q) refl
  where
    by_tag : (q : ℕ) → q < tags.count → (x : Bool) → (tag == q) ≡ x → CountsTag burden along (tags.name q) (busy q) (executed tags tag es os) [] (row_of new.rows q)
    by_tag q less true e =
        let o : Open = record { spawned = false; mark = Some (Execution (tags.name tag)); outer = es } in
        let at_work = c ∙ sym (sum_begun work work_adds o os) in
        let at_path = p ∙ sym (along.path_is.at_begin o.mark os es) in
        let at_burdened = b ∙ sym (along.burdened_is.at_begin o.mark os es) in
        let row = row_entered burden along (tags.name tag) (busy tag) o os (row_of old.rows tag) count path heavy (same_itself (tags.name tag)) at_work at_path at_burdened (h tag known) in
        let D : Row → Type 0 = λ r. CountsTag burden along (tags.name tag) (busy tag) (o ∷ os) [] r in
        let P : ℕ → Type 0 = λ x. CountsTag burden along (tags.name x) (busy x) (o ∷ os) [] (row_of new.rows x) in
        subst P (eqb-true tag q e) (subst D (sym (own (fits_row burden along tags busy (o ∷ os) [] tag (entered count path heavy (row_of old.rows tag)) small row))) row)
    by_tag q less false e =
        let o : Open = record { spawned = false; mark = Some (Execution (tags.name tag)); outer = es } in
        let D : Row → Type 0 = λ r. CountsTag burden along (tags.name q) (busy q) (o ∷ os) [] r in
        subst D (sym (others q e)) (row_other burden along (tags.name q) (busy q) o os (row_of old.rows q)
        (other_tag tags q tag (same_name (tags.name q) (tags.name tag)) refl less known e) (h q less))

-- an execution ends
pub region_ends : (burden : Burden) (along : Readings burden) (tags : Tags) (busy : ℕ → ℕ) (os : List Open) (before es : List Event)
    (old new : RegionTable) (tag count path heavy : ℕ) → tag < tags.count → count ≡ work_in (executed tags tag before os) es
    → path ≡ along.path (executed tags tag before os) es → heavy ≡ along.burdened (executed tags tag before os) es → has_spawned es ≡ false
    → SmallRegions burden tags busy (executed tags tag before os) es → TracksRegions burden along tags busy (executed tags tag before os) es old
    → (FitsRow (left count path heavy (row_of old.rows tag)) → row_of new.rows tag ≡ left count path heavy (row_of old.rows tag))
    → ((q : ℕ) → (tag == q) ≡ false → row_of new.rows q ≡ row_of old.rows q)
    → TracksRegions burden along tags busy os (closed (record { spawned = false; mark = Some (Execution (tags.name tag)); outer = before }) es) new
region_ends burden along tags busy os before es old new tag count path heavy known c p b j small h own others = λ q less. by_tag q less (tag == q) refl
  where
    by_tag : (q : ℕ) → q < tags.count → (x : Bool) → (tag == q) ≡ x → CountsTag burden along (tags.name q) (busy q) os
        (closed (record { spawned = false; mark = Some (Execution (tags.name tag)); outer = before }) es) (row_of new.rows q)
    by_tag q less true e =
        let o : Open = record { spawned = false; mark = Some (Execution (tags.name tag)); outer = before } in
        let row = row_left burden along (tags.name tag) (busy tag) o os es (row_of old.rows tag) count path heavy (same_itself (tags.name tag)) j c p b (h tag known) in
        let D : Row → Type 0 = λ r. CountsTag burden along (tags.name tag) (busy tag) os (closed o es) r in
        let P : ℕ → Type 0 = λ x. CountsTag burden along (tags.name x) (busy x) os (closed o es) (row_of new.rows x) in
        subst P (eqb-true tag q e) (subst D (sym (own (fits_row burden along tags busy os (closed o es) tag
        (left count path heavy (row_of old.rows tag)) (small_closed burden tags busy o os es small) row))) row)
    by_tag q less false e =
        let o : Open = record { spawned = false; mark = Some (Execution (tags.name tag)); outer = before } in
        let D : Row → Type 0 = λ r. CountsTag burden along (tags.name q) (busy q) os (closed o es) r in
        subst D (sym (others q e)) (row_other_left burden along (tags.name q) (busy q) o os es (row_of old.rows q)
        (other_tag tags q tag (same_name (tags.name q) (tags.name tag)) refl less known e) (h q less))

-- the start of a run
pub regions_start : (burden : Burden) (along : Readings burden) (tags : Tags) (table : RegionTable) → ((q : ℕ) → row_of table.rows q ≡ zero_row) → TracksRegions burden along tags (λ k. 0) [] [] table
regions_start burden along tags table none = λ k less.
    let D : Row → Type 0 = λ r. CountsTag burden along (tags.name k) 0 [] [] r in
    subst D (sym (none k)) (record {
      work_is = record { sum_is = refl; active_is = refl; began_is = tt };
      span_is = record { sum_is = refl; active_is = refl; began_is = tt };
      burdened_is = record { sum_is = refl; active_is = refl; began_is = tt };
    })

-- the readings at the end
pub record ReadsRow (row : Row) (burden : Burden) (tag : Name) (t : Tree) : Type 0 where
  pub work_is : row.work ≡ (region_row burden tag t).work
  pub span_is : row.span ≡ (region_row burden tag t).span
  pub burdened_is : row.burdened ≡ (region_row burden tag t).burdened

pub region_read : (burden : Burden) (along : Readings burden) (tags : Tags) (busy : ℕ → ℕ) (es : List Event) (table : RegionTable) (tag : ℕ)
    → tag < tags.count → busy tag ≡ 0 → TracksRegions burden along tags busy [] es table → ReadsRow (row_of table.rows tag) burden (tags.name tag) (tree_of es)
region_read burden along tags busy es table tag known idle h =
    let r = h tag known in
    let picks = is_tag (tags.name tag) in
    record {
      work_is = counts_read work work_in picks (busy tag) es (work_tally (row_of table.rows tag)) idle r.work_is;
      span_is = counts_read span along.path picks (busy tag) es (span_tally (row_of table.rows tag)) idle r.span_is;
      burdened_is = counts_read (burdened_span burden) along.burdened picks (busy tag) es (burdened_tally (row_of table.rows tag)) idle r.burdened_is;
    }

pub regions_keep : RegionsKeep
regions_keep = regions_need_no_call

-- pieces that were executed separately
row_further : (burden : Burden) (along there : Readings burden) (tag : Name) (busy : ℕ) (os : List Open) (es fs : List Event) (r s : Row)
    → CountsTag burden along tag busy os es r → CountsTag burden there tag 0 [] fs s → CountsTag burden along tag busy os (es ++ fs) (summed r s)
row_further burden along there tag busy os es fs r s h g = record {
  work_is = counts_further work work_in work_in (is_tag tag) busy os es fs (work_tally r) (work_tally s) h.work_is g.work_is;
  span_is = counts_further span along.path there.path (is_tag tag) busy os es fs (span_tally r) (span_tally s) h.span_is g.span_is;
  burdened_is = counts_further (burdened_span burden) along.burdened there.burdened (is_tag tag) busy os es fs (burdened_tally r) (burdened_tally s) h.burdened_is g.burdened_is;
}

-- a row with equal readings represents the same run
row_alike : (burden : Burden) (along : Readings burden) (tag : Name) (busy : ℕ) (os : List Open) (es : List Event) (r s : Row) → IsReadAs s r
    → CountsTag burden along tag busy os es r → CountsTag burden along tag busy os es s
row_alike burden along tag busy os es r s a h = record {
  work_is = counts_alike work work_in (is_tag tag) busy os es (work_tally r) (work_tally s) a.work a.active a.at_work h.work_is;
  span_is = counts_alike span along.path (is_tag tag) busy os es (span_tally r) (span_tally s) a.span a.active a.at_path h.span_is;
  burdened_is = counts_alike (burdened_span burden) along.burdened (is_tag tag) busy os es (burdened_tally r) (burdened_tally s) a.burdened a.active a.at_burdened h.burdened_is;
}

pub regions_join : (old right new : RegionTable) → JoinsRows old.rows right.rows new.rows → JoinsRegions old right new
regions_join old right new j burden along there tags busy os es fs small h g k less =
    let row = row_further burden along there (tags.name k) (busy k) os es fs (row_of old.rows k) (row_of right.rows k) (h k less) (g k less) in
    let sum = summed (row_of old.rows k) (row_of right.rows k) in
    row_alike burden along (tags.name k) (busy k) os (es ++ fs) sum (row_of new.rows k) (j k (fits_row burden along tags busy os (es ++ fs) k sum small row) (g k less).work_is.active_is) row
