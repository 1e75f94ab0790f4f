-- `row` reads the words as the words of a row: a `&` to a row with cells out holds the same as a `&` to a row.
use Rattle.cw_slices.proofs.Steps.{[], ◌∷◌, List, refl, sym, ◌∙◌, proved, id⊢, Val, vptr, named, tables, ‵, raw, ◌⊛◌, at_ret, ◌$◌, ◌∵◌, !, qed, done, move, keep, drop, use1, split}
use Rattle.cw_slices.proofs.Steps.{fsplit, fjoin, feq_i, addr, enter, of_opd, stop, first, blocks, exec, returns, alloc_all, pass_all, free_all, look_at, get, through, sets}
use Rattle.cw_slices.proofs.Steps.{sets_last, env, owns, plain, types_at, yes, nothing, alive, suffices, Stays, walk_of, stay_dropped, Goes-dropped, ends_at}
use denote.Builtin.{RefOf}
use Rattle.core.proofs.mem.Facts.{says_three}
use denote.Memory.{hidden_shr}
use denote.Ref.{shr_vals, shr_Tells}
use Rattle.cw_slices.proofs.RowCalls.{Row}
use Rattle.cw_slices.specs.Blocks.{numbers, marks}
use Rattle.cw_slices.specs.lemmas.Patches.{length_numbers, length_marks}
use Rattle.cw_slices.specs.contracts.cell_row.CellRow as CellRow
use Rattle.cw_slices.specs.contracts.cell_row.CellRow.row as f
use Rattle.cw_slices.proofs.cell_row.CellRow.row.Statement.{statement}
use Rattle.cw_slices.proofs.cell_row.CellRow.row.Code as code

abbrev stayed : Stays f.ended.signature.params f.ended.kept
stayed = (stay_dropped (RefOf (0 ∷ []) tt (plain (λ _. CellRow.the_row)) (λ _. tt)) yes, tt)

pub row_spec : {M : Type 1} → statement M
row_spec 𝓤 𝓛 𝓜 𝓡 wired =
    let H = 𝓛.H in let c = f.clauses 𝓛 𝓜.mem 𝓡.returns in let W = walk_of 𝓛 f.ended stayed c in let 𝓣 = tables 𝓤 H 𝓜 𝓡 𝓡.env in
    proved 𝓛 f.ended stayed c 𝓜 𝓡 (Goes-dropped 𝓛 1 (RefOf (0 ∷ []) tt (plain (λ _. CellRow.the_row)) (λ _. tt)) yes (λ κs x w. refl), tt) f.Key.name code.function (code.unfolded 𝓤 H 𝓜 𝓡 wired)
    (λ κs. (shr_vals, tt)) (λ κs. (shr_Tells (named 0) κs.0 CellRow.the_row, tt)) (λ κs qs bounds a gh are.
    let b = a.0.ref_ptr.0 in let o = a.0.ref_ptr.1 in let h = a.0.now in
    let y : W.Ghost = ((κs, qs, bounds, a, (vptr b o ∷ [], tt)), gh) in
    let r : Row.Denot = record {
      ptr = h.ptr;
      len = h.len;
      items = numbers h.cells;
      filled = marks h.cells;
      ok = (h.ok.0 ∙ sym (length_numbers h.cells), h.ok.0 ∙ sym (length_marks h.cells));
      small = h.small;
    } in
    qed 𝓛 ((raw (alive 𝓛 f.ended.signature κs qs) ⊛ ‵ (owns (types_at f.ended.signature.params κs) a y.0.4)) ∷ raw ((c κs a).requires gh) ∷ []) ∵
    keep ! (0 ∷ []) $ split ! $ move ! (1 ∷ []) $ fsplit ! $ fsplit ! $ drop ! $ keep ! (0 ∷ 2 ∷ []) $
    -- [what the `&` holds; the tokens]
    use1 𝓛 (‵ (hidden_shr Row κs.0 r b o)) (id⊢ 𝓤 _) $
    enter ! 𝓣.C 𝓣.Λ code.function (vptr b o ∷ []) _ $ alloc_all ! (λ l. pass_all ! refl ((tt, tt), tt) $
    first ! $ blocks ! $ sets ! (addr ! (through ! refl (stop !))) refl (tt, tt) $ sets ! (of_opd ! (get ! refl)) refl (tt, tt) $
    sets_last ! (addr ! (through ! refl (stop !))) refl (tt, tt) $
    exec ! 𝓣.C 𝓣.Λ (env code.Mir.locals l) code.Mir.t-2 (at_ret _ (W.post y)) $ sets ! (of_opd ! (get ! refl)) refl (tt, tt) $
    returns ! (look_at ! 0 refl) $ free_all ! refl $
    suffices ! _ (ends_at 𝓛 f.ended stayed c y (vptr b o) (record { ref_ptr = (b, o); now = r }) (tt, tt) (tt, tt)) $ says_three ! (h.ok.0, refl, refl) $
    feq_i ! (List Val) (vptr b o ∷ []) (vptr b o ∷ []) refl $ fjoin ! $
    nothing ! $ nothing ! $ fjoin ! $ move ! (2 ∷ 0 ∷ 1 ∷ []) $ done !))
