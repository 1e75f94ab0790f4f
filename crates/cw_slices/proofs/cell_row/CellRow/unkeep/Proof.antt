-- `unkeep` takes the span out of a row that is all in.
use Rattle.cw_slices.proofs.Steps.{◌≡◌, List, [], ◌∷◌, refl, sym, ◌∙◌, proved, Val, fact, tables, ‵, raw, ◌⊛◌, ◌$◌, ◌∵◌, !, qed, done, move, keep, use1, split, fsplit, fjoin, feq_i, rewrite, agg}
use Rattle.cw_slices.proofs.Steps.{sub, whole, stop, fld, enter, of_opd, no_more, and_then, returns, alloc_all, pass_all, free_all, look_at, get, get_in, sets, owns, plain, types_at, yes, RawPtr}
use Rattle.cw_slices.proofs.Steps.{ptr_val, nothing, heard, alive, suffices, Stays, walk_of, stay_dropped, Goes-dropped, ends_at, bare, both, span_made, pair_made}
use Rattle.core.proofs.slots.Opens.{words_val}
use Rattle.cw_slices.proofs.RowCalls.{ptr_good, row_good, left_good}
use Rattle.cw_slices.proofs.Holds.{kept_told}
use Rattle.std.specs.Prelude.{ℤ, true, length, replicate}
use mathlib.Core.Path.{ap}
use Rattle.core.proofs.mem.Facts.{says_three}
use Rattle.cw_slices.proofs.Lots.{all_out}
use Rattle.cw_slices.specs.Memory.{span_owned, kept_owned}
use Rattle.cw_slices.specs.Blocks.{ins, marks}
use Rattle.cw_slices.specs.lemmas.Patches.{length_marks, length_ins, marks_ins}
use Rattle.cw_slices.specs.contracts.memory.Span as Span
use Rattle.cw_slices.specs.contracts.cell_row.CellRow as CellRow
use Rattle.cw_slices.specs.contracts.cell_row.CellRow.unkeep as f
use Rattle.cw_slices.proofs.cell_row.CellRow.unkeep.Statement.{statement}
use Rattle.cw_slices.proofs.cell_row.CellRow.unkeep.Code as code

abbrev stayed : Stays f.ended.signature.params f.ended.kept
stayed = (stay_dropped (plain (λ _. CellRow.the_row)) yes, tt)

pub unkeep_spec : {M : Type 1} → statement M
unkeep_spec 𝓤 𝓛 𝓜 𝓡 wired =
    let H = 𝓛.H in let c = f.clauses 𝓛 𝓜.mem 𝓡.returns in let W = walk_of 𝓛 f.ended stayed c in let 𝓣 = tables 𝓤 H 𝓜 𝓡 𝓡.env in
    proved 𝓛 f.ended stayed c 𝓜 𝓡
    (Goes-dropped 𝓛 0 (plain (λ _. CellRow.the_row)) yes (λ κs x w. refl), tt)
    f.Key.name code.function (code.unfolded 𝓤 H 𝓜 𝓡 wired)
    (λ κs. ((λ x. words_val x.ptr x.len ∷ []), tt)) (λ κs. (kept_told, tt)) (λ κs qs bounds a gh are.
    let h = a.0 in
    let There = (xs : List ℤ) × (h.cells ≡ ins xs) in let Alike = h.rights ≡ replicate (length h.cells) h.base in
    let y : W.Ghost = ((κs, qs, bounds, a, (words_val h.ptr h.len ∷ [], tt)), gh) in
    qed 𝓛 ((raw (alive 𝓛 f.ended.signature κs qs) ⊛ ‵ (owns (types_at f.ended.signature.params κs) a y.0.4)) ∷ (raw (fact 𝓤 There) ⊛ raw (fact 𝓤 Alike)) ∷ []) ∵
    move ! (1 ∷ []) $ split ! $ heard ! There (λ asked. heard ! Alike (λ even. split ! $ move ! (1 ∷ []) $ fsplit ! $ fsplit ! $ keep ! (1 ∷ 3 ∷ []) $
    -- [the cells; the tokens]
    let xs = asked.0 in let as_many : h.len ≡ length xs = h.ok.0 ∙ ap length asked.1 ∙ length_ins xs in let count : length h.cells ≡ length xs = ap length asked.1 ∙ length_ins xs in
    rewrite ! 0 (λ ds. ‵ (kept_owned h.ptr h.cells ds)) (even ∙ ap (λ k. replicate k h.base) count) refl $
    rewrite ! 0 (λ cs. ‵ (kept_owned h.ptr cs (replicate (length xs) h.base))) asked.1 refl $ use1 𝓛 (‵ (span_owned h.ptr xs (marks (ins xs)) h.base)) (all_out 𝓛 h.ptr xs h.base) $
    let s : (Span.the_row).Denot = record { at = h.ptr; items = xs; filled = marks (ins xs); halved = h.base; as_many = length_marks (ins xs) ∙ length_ins xs } in
    enter ! 𝓣.C 𝓣.Λ code.function (words_val h.ptr h.len ∷ []) _ $ alloc_all ! (λ l. pass_all ! refl (row_good h.ptr h.len h.small, tt) $
    span_made ! s $ feq_i ! (List Val) (ptr_val h.ptr ∷ []) (ptr_val h.ptr ∷ []) refl $ pair_made ! RawPtr Span.the_row h.ptr s (ptr_val h.ptr) bare $
    sets ! (of_opd ! (get_in ! (fld ! refl (stop !)) (sub ! 0 refl (whole !)))) refl (ptr_good h.ptr) $
    sets ! (agg ! (no_more !)) refl (tt, tt) $ sets ! (agg ! (and_then ! (get ! refl) (and_then ! (get ! refl) (no_more !)))) refl (left_good h.ptr) $
    returns ! (look_at ! 0 refl) $ free_all ! refl $
    suffices ! _ (ends_at 𝓛 f.ended stayed c y (both (ptr_val h.ptr) bare) (h.ptr, s) (tt, tt) (tt, tt)) $ says_three !
    ((refl, (refl, as_many, marks_ins xs ∙ ap (λ k. replicate k true) (sym as_many))), sym asked.1, refl) $
    nothing ! $ nothing ! $ fjoin ! $ move ! (2 ∷ 0 ∷ 1 ∷ []) $ done !))))
