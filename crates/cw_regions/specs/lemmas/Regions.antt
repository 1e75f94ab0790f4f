-- Lemmas about region tables: events outside of regions need no call.
use Rattle.std.specs.Prelude.{◌≡◌, ℕ, false, List, [], ◌∷◌, ◌++◌, Option, Some, None, refl}
use Rattle.cw_model.specs.declared.burden.Burden.{Burden}
use Rattle.cw_model.specs.Syntax.{Name}
use Rattle.cw_model.specs.Trees.{Mark, Invocation, Execution, Event, Work, Join, work, span, burdened_span}
use Rattle.cw_model.specs.Rows.{is_tag}
use Rattle.cw_measure.specs.OpenParts.{Open, closed, work_in}
use Rattle.cw_measure.specs.Outermost.{is_counted}
use Rattle.cw_measure.specs.lemmas.Outermost.{counts_work, counts_join, counts_other, counts_other_left}
use Rattle.cw_regions.specs.declared.rows.Row.{Row}
use Rattle.cw_regions.specs.declared.table.RegionTable.{RegionTable}
use Rattle.cw_regions.specs.RegionRows.{row_of, work_tally, span_tally, burdened_tally}
use Rattle.cw_regions.specs.Regions.{Readings, Tags, CountsTag, IsNoExecution, RegionsNeedNoCall}

-- a row, by each of its tallies
row_work : (burden : Burden) (along : Readings burden) (tag : Name) (busy : ℕ) (os : List Open) (es : List Event)
    (r : Row)
    (k : ℕ) → CountsTag burden along tag busy os es r → CountsTag burden along tag busy os (es ++ Work k ∷ []) r
row_work burden along tag busy os es r k h = record {
  work_is = counts_work work work_in (is_tag tag) busy os es (work_tally r) k h.work_is;
  span_is = counts_work span along.path (is_tag tag) busy os es (span_tally r) k h.span_is;
  burdened_is =
      counts_work (burdened_span burden) along.burdened (is_tag tag) busy os es (burdened_tally r) k h.burdened_is;
}

row_join : (burden : Burden) (along : Readings burden) (tag : Name) (busy : ℕ) (os : List Open) (es : List Event)
    (r : Row)
    → CountsTag burden along tag busy os es r → CountsTag burden along tag busy os (es ++ Join ∷ []) r
row_join burden along tag busy os es r h = record {
  work_is = counts_join work work_in (is_tag tag) busy os es (work_tally r) h.work_is;
  span_is = counts_join span along.path (is_tag tag) busy os es (span_tally r) h.span_is;
  burdened_is =
      counts_join (burdened_span burden) along.burdened (is_tag tag) busy os es (burdened_tally r) h.burdened_is;
}

pub row_other : (burden : Burden) (along : Readings burden) (tag : Name) (busy : ℕ) (o : Open) (os : List Open)
    (r : Row)
    → is_counted (is_tag tag) o.mark ≡ false → CountsTag burden along tag busy os o.outer r
    → CountsTag burden along tag busy (o ∷ os) [] r
row_other burden along tag busy o os r e h = record {
  work_is = counts_other work work_in (is_tag tag) busy o os (work_tally r) e h.work_is;
  span_is = counts_other span along.path (is_tag tag) busy o os (span_tally r) e h.span_is;
  burdened_is =
      counts_other (burdened_span burden) along.burdened (is_tag tag) busy o os (burdened_tally r) e h.burdened_is;
}

pub row_other_left : (burden : Burden) (along : Readings burden) (tag : Name) (busy : ℕ) (o : Open) (os : List Open)
    (es : List Event) (r : Row) → is_counted (is_tag tag) o.mark ≡ false
    → CountsTag burden along tag busy (o ∷ os) es r → CountsTag burden along tag busy os (closed o es) r
row_other_left burden along tag busy o os es r e h = record {
  work_is = counts_other_left work work_in (is_tag tag) busy o os es (work_tally r) e h.work_is;
  span_is = counts_other_left span along.path (is_tag tag) busy o os es (span_tally r) e h.span_is;
  burdened_is =
      counts_other_left (burdened_span burden) along.burdened (is_tag tag) busy o os es (burdened_tally r) e
      h.burdened_is;
}

-- parts that are not executions
no_execution : (mark : Option Mark) (tag : Name) → IsNoExecution mark → is_counted (is_tag tag) mark ≡ false
no_execution None tag h = refl
no_execution (Some (Invocation site)) tag h = refl
no_execution (Some (Execution other)) tag h = absurd h

pub regions_need_no_call : (burden : Burden) (along : Readings burden) (tags : Tags) (busy : ℕ → ℕ) (os : List Open)
    (table : RegionTable) → RegionsNeedNoCall burden along tags busy os table
regions_need_no_call burden along tags busy os table = record {
  work = λ es k h q less. row_work burden along (tags.name q) (busy q) os es (row_of table.rows q) k (h q less);
  join = λ es h q less. row_join burden along (tags.name q) (busy q) os es (row_of table.rows q) (h q less);
  begins =
      λ o quiet h q less. row_other burden along (tags.name q) (busy q) o os (row_of table.rows q)
      (no_execution o.mark (tags.name q) quiet) (h q less);
  ends =
      λ o es quiet h q less. row_other_left burden along (tags.name q) (busy q) o os es (row_of table.rows q)
      (no_execution o.mark (tags.name q) quiet) (h q less);
}
