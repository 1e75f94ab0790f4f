-- `keep` makes a row that is all in from a span.
use Rattle.cw_slices.proofs.Steps.{◌^◌, ◌<◌, [], ◌∷◌, refl, sym, ◌∙◌, w64, proved, vint, fact, tables, ‵, raw, ◌⊛◌, ◌$◌, ◌∵◌, !, qed, done, move, keep, use1, split, fsplit, fsplit3, fjoin, rewrite}
use Rattle.cw_slices.proofs.Steps.{agg, enter, no_more, and_then, returns, alloc_all, pass_all, free_all, look_at, get, sets, owns, plain, types_at, yes, usize, RawPtr, ptr_val, rawptr_vals}
use Rattle.cw_slices.proofs.Steps.{rawptr_Tells, uint_vals, uint_Tells, nothing, heard, alive, suffices, Stays, walk_of, stay_dropped, Goes-dropped, ends_at, span_owned, bare}
use Rattle.core.proofs.slots.Opens.{words_val}
use Rattle.cw_slices.proofs.RowCalls.{ptr_good, row_good}
use Rattle.cw_slices.proofs.Holds.{kept_made}
use Rattle.cw_slices.proofs.Lots.{all_in}
use Rattle.cw_slices.specs.Memory.{kept_owned}
use Rattle.core.proofs.mem.Facts.{says_three}
use Rattle.std.specs.Prelude.{true, length, replicate}
use mathlib.Core.Path.{ap}
use Rattle.cw_slices.specs.Loose.{IsRun}
use Rattle.cw_slices.specs.Blocks.{ins}
use Rattle.cw_slices.specs.lemmas.Patches.{length_ins, length_replicated, marks_ins}
use Rattle.cw_slices.specs.contracts.memory.Span as Span
use Rattle.cw_slices.specs.contracts.cell_row.CellRow as CellRow
use Rattle.cw_slices.specs.contracts.cell_row.CellRow.keep as f
use Rattle.cw_slices.proofs.cell_row.CellRow.keep.Statement.{statement}
use Rattle.cw_slices.proofs.cell_row.CellRow.keep.Code as code

abbrev stayed : Stays f.ended.signature.params f.ended.kept
stayed = (stay_dropped (plain (λ _. RawPtr)) yes, (stay_dropped (plain (λ _. usize)) yes, (stay_dropped (plain (λ _. Span.the_row)) yes, tt)))

pub keep_spec : {M : Type 1} → statement M
keep_spec 𝓤 𝓛 𝓜 𝓡 wired =
    let H = 𝓛.H in let c = f.clauses 𝓛 𝓜.mem 𝓡.returns in let W = walk_of 𝓛 f.ended stayed c in let 𝓣 = tables 𝓤 H 𝓜 𝓡 𝓡.env in
    proved 𝓛 f.ended stayed c 𝓜 𝓡
    (Goes-dropped 𝓛 0 (plain (λ _. RawPtr)) yes (λ κs x w. refl), (Goes-dropped 𝓛 0 (plain (λ _. usize)) yes (λ κs x w. refl), (Goes-dropped 𝓛 0 (plain (λ _. Span.the_row)) yes (λ κs x w. refl), tt)))
    f.Key.name code.function (code.unfolded 𝓤 H 𝓜 𝓡 wired)
    (λ κs. (rawptr_vals, (uint_vals w64, ((λ _. bare ∷ []), tt)))) (λ κs. (rawptr_Tells, (uint_Tells w64, ((λ x vs so. so.0.1.0), tt)))) (λ κs qs bounds a gh are.
    let p = a.0 in let n = a.1.0 in let s = a.1.1.0 in let small : n < 2 ^ 64 = are.1.0.1 in
    let Asked = IsRun p n s in
    let y : W.Ghost = ((κs, qs, bounds, a, (ptr_val p ∷ [], (vint w64 n ∷ [], (bare ∷ [], tt)))), gh) in
    qed 𝓛 ((raw (alive 𝓛 f.ended.signature κs qs) ⊛ ‵ (owns (types_at f.ended.signature.params κs) a y.0.4)) ∷ raw (fact 𝓤 Asked) ∷ []) ∵
    move ! (1 ∷ []) $ heard ! Asked (λ asked. split ! $ move ! (1 ∷ []) $ fsplit3 ! $ move ! (2 ∷ []) $ fsplit ! $ fsplit ! $ keep ! (1 ∷ 5 ∷ []) $
    -- [the cells; the tokens]
    rewrite ! 0 (λ r. ‵ (span_owned r s.items s.filled s.halved)) asked.0 refl $ rewrite ! 0 (λ fs. ‵ (span_owned p s.items fs s.halved))
    (asked.2 ∙ ap (λ k. replicate k true) asked.1 ∙ sym (marks_ins s.items)) refl $
    use1 𝓛 (‵ (kept_owned p (ins s.items) (replicate (length s.items) s.halved))) (all_in 𝓛 p s.items s.halved) $
    enter ! 𝓣.C 𝓣.Λ code.function (ptr_val p ∷ vint w64 n ∷ bare ∷ []) _ $ alloc_all ! (λ l. pass_all ! refl (ptr_good p, ((tt, record { fits = small }), ((tt, tt), tt))) $
    let h : (CellRow.the_row).Denot = record {
      ptr = p;
      len = n;
      cells = ins s.items;
      rights = replicate (length s.items) s.halved;
      base = s.halved;
      ok = (asked.1 ∙ sym (length_ins s.items), asked.1 ∙ sym (length_replicated (length s.items) s.halved));
      small = small;
    } in
    kept_made ! h $
    sets ! (agg ! (and_then ! (get ! refl) (and_then ! (get ! refl) (no_more !)))) refl (row_good p n small) $
    returns ! (look_at ! 0 refl) $ free_all ! refl $
    suffices ! _ (ends_at 𝓛 f.ended stayed c y (words_val p n) h (tt, (tt, (tt, tt))) (tt, (tt, (tt, tt)))) $ says_three ! ((refl, refl, refl), refl, ap (λ k. replicate k s.halved) (sym asked.1)) $
    nothing ! $ nothing ! $ fjoin ! $ nothing ! $ fjoin ! $ nothing ! $ fjoin ! $ move ! (2 ∷ 0 ∷ 1 ∷ []) $ done !)))
