-- `disown` takes the span out of cells.
use Rattle.cw_slices.proofs.Steps.{List, [], ◌∷◌, refl, sym, ◌∙◌, proved, Val, tables, ‵, raw, ◌⊛◌, ◌$◌, ◌∵◌, !, qed, done, move, keep, split, fsplit, fjoin, feq_i, rewrite, agg, sub, whole}
use Rattle.cw_slices.proofs.Steps.{stop, fld, enter, of_opd, no_more, and_then, returns, alloc_all, pass_all, free_all, look_at, get, get_in, sets, owns, plain, types_at, yes, RawPtr}
use Rattle.cw_slices.proofs.Steps.{ptr_val, nothing, alive, says, suffices, Stays, walk_of, stay_dropped, Goes-dropped, ends_at, bare, both, span_made, pair_made}
use Rattle.core.proofs.slots.Opens.{words_val}
use Rattle.cw_slices.proofs.RowCalls.{ptr_good, row_good, left_good}
use Rattle.cw_slices.proofs.Holds.{cells_told}
use Rattle.cw_slices.specs.OwnedMemory.{held_owned}
use Rattle.cw_slices.specs.contracts.memory.Span as Span
use Rattle.cw_slices.specs.contracts.cells.Cells as Cells
use Rattle.cw_slices.specs.contracts.cells.Cells.disown as f
use Rattle.cw_slices.proofs.cells.Cells.disown.Statement.{statement}
use Rattle.cw_slices.proofs.cells.Cells.disown.Code as code

abbrev stayed : Stays f.ended.signature.params f.ended.kept
stayed = (stay_dropped (plain (λ _. Cells.the_row)) yes, tt)

pub disown_spec : {M : Type 1} → statement M
disown_spec 𝓤 𝓛 𝓜 𝓡 wired =
    let H = 𝓛.H in let c = f.clauses 𝓛 𝓜.mem 𝓡.returns in let W = walk_of 𝓛 f.ended stayed c in let 𝓣 = tables 𝓤 H 𝓜 𝓡 𝓡.env in
    proved 𝓛 f.ended stayed c 𝓜 𝓡
    (Goes-dropped 𝓛 0 (plain (λ _. Cells.the_row)) yes (λ κs x w. refl), tt)
    f.Key.name code.function (code.unfolded 𝓤 H 𝓜 𝓡 wired)
    (λ κs. ((λ x. words_val x.ptr x.len ∷ []), tt)) (λ κs. (cells_told, tt)) (λ κs qs bounds a gh are.
    let h = a.0 in
    let y : W.Ghost = ((κs, qs, bounds, a, (words_val h.ptr h.len ∷ [], tt)), gh) in
    qed 𝓛 ((raw (alive 𝓛 f.ended.signature κs qs) ⊛ ‵ (owns (types_at f.ended.signature.params κs) a y.0.4)) ∷ raw ((c κs a).requires gh) ∷ []) ∵
    keep ! (0 ∷ []) $ split ! $ move ! (1 ∷ []) $ fsplit ! $ fsplit ! $ keep ! (1 ∷ 3 ∷ []) $
    -- [the cells; the tokens]
    rewrite ! 0 (λ n. ‵ (held_owned h.halved h.ptr n h.items h.filled)) h.ok.0 refl $
    let s : (Span.the_row).Denot = record { at = h.ptr; items = h.items; filled = h.filled; halved = h.halved; as_many = sym h.ok.1 ∙ h.ok.0 } in
    enter ! 𝓣.C 𝓣.Λ code.function (words_val h.ptr h.len ∷ []) _ $ alloc_all ! (λ l. pass_all ! refl (row_good h.ptr h.len h.small, tt) $
    span_made ! s $ feq_i ! (List Val) (ptr_val h.ptr ∷ []) (ptr_val h.ptr ∷ []) refl $ pair_made ! RawPtr Span.the_row h.ptr s (ptr_val h.ptr) bare $
    sets ! (of_opd ! (get_in ! (fld ! refl (stop !)) (sub ! 0 refl (whole !)))) refl (ptr_good h.ptr) $
    sets ! (agg ! (no_more !)) refl (tt, tt) $ sets ! (agg ! (and_then ! (get ! refl) (and_then ! (get ! refl) (no_more !)))) refl (left_good h.ptr) $
    returns ! (look_at ! 0 refl) $ free_all ! refl $
    suffices ! _ (ends_at 𝓛 f.ended stayed c y (both (ptr_val h.ptr) bare) (h.ptr, s) (tt, tt) (tt, tt)) $ says ! (refl, refl, refl, refl, refl) $
    nothing ! $ nothing ! $ fjoin ! $ move ! (2 ∷ 0 ∷ 1 ∷ []) $ done !))
