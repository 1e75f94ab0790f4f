-- Lemmas about tables: each run has a table that represents it, and quiet parts need no call.
use Rattle.std.specs.Prelude.{◌≡◌, ℕ, ◌+◌, false, List, Option, Some, None, refl, slice_get}
use Rattle.std.proofs.Common.{sym, ◌∙◌, arith}
use Rattle.cw_model.specs.Trees.{Tree, Mark, Invocation, Execution, work}
use Rattle.cw_model.specs.Rows.{is_site, site_row}
use Rattle.cw_measure.specs.OpenParts.{Open}
use Rattle.cw_measure.specs.Outermost.{is_counted}
use Rattle.cw_measure.specs.lemmas.OpenParts.{adds_none, work_adds, left_work}
use Rattle.cw_sites.specs.declared.table.SiteRow as declared
use Rattle.cw_sites.specs.declared.table.SiteTable.{SiteTable}
use Rattle.cw_sites.specs.StepLists.{strand_path}
use Rattle.cw_sites.specs.OpenPaths.{inside, here_in}
use Rattle.cw_sites.specs.SiteRows.{row_of}
use Rattle.cw_sites.specs.Laws.{AllRunsAreShown}
use Rattle.cw_sites.specs.Tables.{IsQuiet, IsRow, QuietParts}
use Rattle.cw_sites.specs.lemmas.OpenPaths.{shows_work, shows_entered, shows_spawned, shows_spawned_again}
use Rattle.cw_sites.specs.lemmas.OpenPaths.{shows_joined, shows_unjoined, shows_left, shows_ended, shows_all}
use Rattle.cw_sites.specs.lemmas.SiteRows.{row_other, row_other_left}

-- parts that are not invocations
pub quiet_calls : (mark : Option Mark) (q : ℕ) → IsQuiet mark → is_counted (is_site q) mark ≡ false
quiet_calls None q h = refl
quiet_calls (Some (Invocation site)) q h = absurd h
quiet_calls (Some (Execution tag)) q h = refl

pub quiet_inside : (mark : Option Mark) (here : ℕ) → IsQuiet mark → inside mark here ≡ here
quiet_inside None here h = refl
quiet_inside (Some (Invocation site)) here h = absurd h
quiet_inside (Some (Execution tag)) here h = refl

pub quiet_parts : (base : ℕ) (busy : ℕ → ℕ) (os : List Open) (table : SiteTable) → QuietParts base busy os table
quiet_parts base busy os table = record {
  begins = λ mark es quiet h. record {
    rows =
        λ q. row_other q base (busy q) (record { spawned = false; mark = mark; outer = es }) os (row_of table.rows q)
        (quiet_calls mark q quiet) (h.rows q);
    paths = λ q. shows_entered q base os es (strand_path q table.paths) mark (h.paths q);
    laid = h.laid;
    noted_is = let a = h.noted_is in let d = adds_none work work_adds in omega arith;
    here_is = h.here_is ∙ sym (quiet_inside mark (here_in base os) quiet);
  };
  ends = λ mark outer es quiet n h. record {
    rows =
        λ q. row_other_left q base (busy q) (record { spawned = false; mark = mark; outer = outer }) os es
        (row_of table.rows q) (quiet_calls mark q quiet) (h.rows q);
    paths = λ q. shows_left q base mark outer os es (strand_path q table.paths) n (h.paths q);
    laid = h.laid;
    noted_is =
        let a = h.noted_is in let d = left_work (record { spawned = false; mark = mark; outer = outer }) os es in omega
        arith;
    here_is = h.here_is ∙ quiet_inside mark (here_in base os) quiet;
  };
}

-- the laws
pub all_runs_are_shown : AllRunsAreShown
all_runs_are_shown = λ site base. record {
  work = shows_work site base;
  enter = shows_entered site base;
  spawn = shows_spawned site base;
  spawn_again = shows_spawned_again site base;
  join = shows_joined site base;
  no_join = shows_unjoined site base;
  leave = shows_left site base;
  child_end = shows_ended site base;
  end = shows_all site base;
}

-- rows by their numbers, from a number on
abbrev pub AreRowsFrom : ℕ → Tree → List declared.SiteRow → Type 0
AreRowsFrom n t rows =
    (k site : ℕ) (row : declared.SiteRow) → site ≡ n + k → slice_get rows k ≡ Some row → IsRow row (site_row site t)
