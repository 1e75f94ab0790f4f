-- Tables of pieces that were executed separately are joined.
use Rattle.std.specs.Prelude.{◌≡◌, ℕ, ◌+◌, ◌<◌, ◌^◌, Bool, List, [], ◌∷◌, ◌++◌}
use Rattle.std.proofs.Common.{sym, ◌∙◌, subst, arith}
use Rattle.cw_model.specs.Trees.{Event, tree_of, work, span}
use Rattle.cw_model.specs.Rows.{is_site}
use Rattle.cw_measure.specs.OpenParts.{Open, work_in}
use Rattle.cw_measure.specs.lemmas.OpenParts.{adds_append, work_append}
use Rattle.cw_measure.specs.lemmas.Outermost.{counts_alike, counts_further}
use Rattle.cw_sites.specs.declared.rows.Row.{Row}
use Rattle.cw_sites.specs.declared.table.SiteTable.{SiteTable}
use Rattle.cw_sites.specs.ChosenPaths.{plus}
use Rattle.cw_sites.specs.StepSums.{Fits}
use Rattle.cw_sites.specs.StepLists.{strand_path, Laid, Appends}
use Rattle.cw_sites.specs.StrandPaths.{StrandPath, whole}
use Rattle.cw_sites.specs.OpenPaths.{here_in, path_in, Shows}
use Rattle.cw_sites.specs.SiteRows.{row_of, own_tree, own_in, work_tally, span_tally, summed, CountsSite, IsReadAs, JoinsRows}
use Rattle.cw_sites.specs.Tables.{JoinsPiece}
use Rattle.cw_sites.specs.lemmas.SiteRows.{calls_append, own_adds}
use Rattle.cw_sites.proofs.Bounds.{whole_within}
use Rattle.cw_sites.proofs.PieceShowLaws.{shows_piece}
use Rattle.cw_sites.proofs.TableLaws.{fits_row}

-- sums over a concatenation of events
own_append : (site base : ℕ) (os : List Open) (es fs : List Event) → own_in site base os (es ++ fs) ≡ own_in site base os es + own_tree site (here_in base os) (tree_of fs)
own_append site base [] es fs = adds_append (own_tree site base) (own_adds site base) es fs
own_append site base (o ∷ os) es fs = let a = adds_append (own_tree site (here_in base (o ∷ os))) (own_adds site (here_in base (o ∷ os))) es fs in omega arith

row_further : (site base busy : ℕ) (os : List Open) (es fs : List Event) (r s : Row) → CountsSite site base busy os es r
    → CountsSite site (here_in base os) 0 [] fs s → CountsSite site base busy os (es ++ fs) (summed r s)
row_further site base busy os es fs r s h g = record {
  calls_is = let a = calls_append site os es fs in let b = h.calls_is in let c = g.calls_is in omega arith;
  own_is = let a = own_append site base os es fs in let b = h.own_is in let c = g.own_is in omega arith;
  work_is = counts_further work work_in work_in (is_site site) busy os es fs (work_tally r) (work_tally s) h.work_is g.work_is;
  span_is = counts_further span (path_in site base) (path_in site (here_in base os)) (is_site site) busy os es fs (span_tally r) (span_tally s) h.span_is g.span_is;
}

-- a row with equal readings represents the same run
row_alike : (site base busy : ℕ) (os : List Open) (es : List Event) (r s : Row) → IsReadAs s r → CountsSite site base busy os es r → CountsSite site base busy os es s
row_alike site base busy os es r s a h = record {
  calls_is = a.calls ∙ h.calls_is;
  own_is = a.own ∙ h.own_is;
  work_is = counts_alike work work_in (is_site site) busy os es (work_tally r) (work_tally s) a.work a.active a.at_work h.work_is;
  span_is = counts_alike span (path_in site base) (is_site site) busy os es (span_tally r) (span_tally s) a.span a.active a.at_path h.span_is;
}

-- the paths of both fit
fits_both : (q base : ℕ) (busy : ℕ → ℕ) (os : List Open) (es fs : List Event) (n : ℕ) (t u : StrandPath) → work_in os es + work (tree_of fs) ≡ n
    → n < 2 ^ 64 → Shows q base os es t → Shows q (here_in base os) [] fs u → Fits (plus (whole t) (whole u))
fits_both q base busy os es fs n t u e small h g =
    let a = whole_within q base os es t h in let a0 = a.0 in let a1 = a.1 in
    let b = whole_within q (here_in base os) [] fs u g in let b0 = b.0 in let b1 = b.1 in
    (omega arith, omega arith)

pub table_piece : (old piece new : SiteTable) (first : Bool) → JoinsRows old.rows piece.rows new.rows → (Laid old.paths → Laid new.paths)
    → Appends old.paths piece.paths new.paths first → (old.noted + piece.noted < 2 ^ 64 → new.noted ≡ old.noted + piece.noted) → new.here ≡ old.here
    → JoinsPiece old piece new first
table_piece old piece new first rows laid paths noted here = λ base busy os es fs s n small h g.
    let a = work_append os es fs in
    let l = small.work in
    record {
      rows = λ q.
          let row = row_further q base (busy q) os es fs (row_of old.rows q) (row_of piece.rows q) (h.rows q) (g.rows q) in
          let sum = summed (row_of old.rows q) (row_of piece.rows q) in
          row_alike q base (busy q) os (es ++ fs) sum (row_of new.rows q) (rows q (fits_row q base busy os (es ++ fs) sum small row) (g.rows q).work_is.active_is) row;
      paths = λ q.
          let t = strand_path q old.paths in
          let u = strand_path q piece.paths in
          let D : StrandPath → Type 0 = λ x. Shows q base os (es ++ fs) x in
          subst D (sym (paths h.laid g.laid q (fits_both q base busy os es fs (work_in os (es ++ fs)) t u (sym a) l (h.paths q) (g.paths q))))
          (shows_piece q base os es fs t u first s n (h.paths q) (g.paths q));
      laid = laid h.laid;
      noted_is = let b = h.noted_is in let c = g.noted_is in let d = noted (omega arith) in omega arith;
      here_is = here ∙ h.here_is;
    }
