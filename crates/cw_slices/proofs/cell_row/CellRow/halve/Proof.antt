-- `halve` takes half of the right to a run out of a row, and returns where the run begins.
use Rattle.cw_slices.proofs.Steps.{◌≡◌, ◌+◌, ◌*◌, ◌^◌, ◌<◌, ◌≤◌, ◌∙◌, List, [], ◌∷◌, true, length, replicate, refl, sym, ap, arith, named, proved, fact, id⊢, ftrue, flft, Val, vint, vptr}
use Rattle.cw_slices.proofs.Steps.{w64, tables, ‵, raw, ◌⊛◌, at_ret, ◌$◌, ◌∵◌, !, qed, done, move, keep, drop, use1, split, join, fsplit, fsplit3, fjoin, fjoin3, feq_i, flt_i, flt_l}
use Rattle.cw_slices.proofs.Steps.{rewrite, suffices, agg, sub, whole, stop, fld, load, lit, bin, of_opd, no_more, and_then, enter, first, blocks, exec, returns, alloc_all, pass_all}
use Rattle.cw_slices.proofs.Steps.{free_all, look_at, get, through, sets, sets_last, env, owns, plain, types_at, yes, usize, RawPtr, block_ptr, ◌+ₚ◌, uint_vals, uint_Tells, in_a_block}
use Rattle.cw_slices.proofs.Steps.{nothing, heard, Stays, walk_of, stay_dropped, Goes-dropped, ends_at, span_owned, bare, both, span_made, pair_made}
use Prim.Native.Nat.{ℕ, suc}
use base.Fraction.{full_share}
use base.Logic.{never}
use denote.Laws.{Is, shows}
use denote.Memory.{cell_at}
use denote.Ref.{mut_vals, mut_Tells}
use denote.Steps.{opens, closes, peeks}
use denote.RawPtr.{Ptr, in_block}
use denote.Triple.Walked.{stay_ref, Goes-ref}
use types.Part.{look_in}
use Rattle.core.proofs.mem.Facts.{says_three}
use Rattle.core.proofs.slots.Opens.{words_val}
use Rattle.cw_slices.proofs.Holds.{kept_told, kept_made}
use Rattle.cw_slices.proofs.Lots.{halved}
use Rattle.cw_slices.specs.Memory.{cells_in, kept_owned}
use Rattle.cw_slices.specs.Blocks.{ins, patched, marks, AreIn, AreHalved, AreAlike}
use Rattle.cw_slices.specs.lemmas.Patches.{length_ins, length_marks, length_patched, length_replicated, marks_ins}
use Rattle.cw_slices.specs.contracts.memory.Span as Span
use Rattle.cw_slices.specs.contracts.cell_row.CellRow as CellRow
use Rattle.cw_slices.specs.contracts.cell_row.CellRow.halve as f
use Rattle.cw_slices.proofs.cell_row.CellRow.halve.Statement.{statement}
use Rattle.cw_slices.proofs.cell_row.CellRow.halve.Code as code

abbrev stayed : Stays f.ended.signature.params f.ended.kept
stayed = (stay_ref (0 ∷ []) tt (plain (λ _. CellRow.the_row)), (stay_dropped (plain (λ _. usize)) yes, (stay_dropped (plain (λ _. usize)) yes, tt)))

pub halve_spec : {M : Type 1} → statement M
halve_spec 𝓤 𝓛 𝓜 𝓡 wired =
    let H = 𝓛.H in let c = f.clauses 𝓛 𝓜.mem 𝓡.returns in let W = walk_of 𝓛 f.ended stayed c in let 𝓣 = tables 𝓤 H 𝓜 𝓡 𝓡.env in
    let goes = Goes-dropped 𝓛 1 (plain (λ _. usize)) yes (λ κs x w. refl) in
    proved 𝓛 f.ended stayed c 𝓜 𝓡
    (Goes-ref 𝓛 1 0 tt (plain (λ _. CellRow.the_row)), (goes, (goes, tt)))
    f.Key.name code.function (code.unfolded 𝓤 H 𝓜 𝓡 wired)
    (λ κs. (mut_vals, (uint_vals w64, (uint_vals w64, tt)))) (λ κs. (mut_Tells (named 0) κs.0 CellRow.the_row, (uint_Tells w64, (uint_Tells w64, tt)))) (λ κs qs bounds a gh are.
    let rb = a.0.ref_ptr.0 in let ro = a.0.ref_ptr.1 in let h = a.0.now in let n : ℕ = a.1.0 in let k : ℕ = a.1.1.0 in
    let κ = κs.0 in let q = qs.0 in
    let Within = n + k ≤ length h.cells in let There = AreIn h.cells n k in let Alike = AreAlike h.rights n k in
    let y : W.Ghost = ((κs, qs, bounds, a, (vptr rb ro ∷ [], (vint w64 n ∷ [], (vint w64 k ∷ [], tt)))), gh) in
    qed 𝓛 (((‵ (flft κ q) ⊛ ‵ ftrue) ⊛ ‵ (owns (types_at f.ended.signature.params κs) a y.0.4)) ∷ (raw (fact 𝓤 Within) ⊛ (raw (fact 𝓤 There) ⊛ raw (fact 𝓤 Alike))) ∷ []) ∵
    move ! (1 ∷ []) $ split ! $ heard ! Within (λ within. split ! $ heard ! There
    (λ there. heard ! Alike (λ even. split ! $ split ! $ move ! (2 ∷ []) $ fsplit3 ! $ fsplit3 ! $ move ! (4 ∷ []) $ fsplit ! $ keep ! (3 ∷ 4 ∷ 6 ∷ 7 ∷ []) $
    -- [the state of the borrow; the borrow; its token; the other tokens]
    let xs = there.0 in let count : length xs ≡ k = there.1 in let fits : n + length xs ≤ length h.cells = omega (arith, within, count) in
    enter ! 𝓣.C 𝓣.Λ code.function (vptr rb ro ∷ vint w64 n ∷ vint w64 k ∷ []) _ $ alloc_all !
    (λ l. pass_all ! refl ((tt, tt), ((tt, record { fits = are.1.0.1 }), ((tt, record { fits = are.1.1.0.1 }), tt))) $
    opens ! tt CellRow.the_row {h = h} rb ro (λ us. move ! (1 ∷ []) $ peeks ! CellRow.the_row (Is CellRow.the_row) (shows 𝓛 CellRow.the_row) h us (λ so. fsplit ! $ drop ! $ fsplit ! $ flt_l ! (λ small.
    in_a_block ! h.ptr (λ p. in_block p (cells_in p h.cells h.rights)) (id⊢ 𝓤 (never 𝓤)) (λ b o at.
    let words = words_val (block_ptr b o) h.len in
    rewrite ! 1 (λ (ws : List Val). ‵ (cell_at full_share (CellRow.the_row).mir ws rb ro)) (kept_told h us so ∙ ap (λ p. words_val p h.len ∷ []) at) refl $
    flt_i ! (length h.cells * 8) (2 ^ 63) small $ fjoin ! $
    let e : ℕ = even.0 in let left = patched n (replicate (length xs) (suc e)) h.rights in let alike : AreHalved h.rights n (length xs) e =
    λ j lt. even.1 j (omega (arith, lt, count)) in let offset : n * 8 < 2 ^ 64 = omega (arith, small, within) in
    let there_is : o + n * 8 ≡ n * 8 + o = omega arith in let place : Ptr = block_ptr b (n * 8 + o) in
    use1 𝓛 (‵ (kept_owned (block_ptr b o) h.cells left) ⊛ ‵ (span_owned (block_ptr b (o + n * 8)) xs (marks (ins xs)) (suc e)))
    (halved 𝓛 n xs h.cells h.rights fits (sym h.ok.1 ∙ h.ok.0) e (block_ptr b o) there.2 alike) $ split ! $
    rewrite ! 1 (λ m. ‵ (span_owned (block_ptr b m) xs (marks (ins xs)) (suc e))) there_is refl $
    -- [the row; the run; the two words; the open borrow, in three entries; the other tokens]
    first ! $ blocks ! $ sets ! (of_opd ! (load ! (through ! refl (fld ! refl (stop !))) (look_in ! 2 (sub ! 0 refl (whole !))))) refl (tt, tt) $
    sets ! (bin ! (get ! refl) (lit ! tt) (record { fits = offset })) refl (tt, record { fits = offset }) $ sets ! (bin ! (get ! refl) (get ! refl) tt) refl (tt, tt) $
    sets ! (agg ! (no_more !)) refl (tt, tt) $ sets_last ! (agg ! (and_then ! (get ! refl) (and_then ! (get ! refl) (no_more !)))) refl (tt, (tt, (tt, tt))) $
    exec ! 𝓣.C 𝓣.Λ (env code.Mir.locals l) code.Mir.t-2 (at_ret _ (W.post y)) $ sets ! (of_opd ! (get ! refl)) refl (tt, (tt, (tt, tt))) $
    let as_many : h.len ≡ length left = h.ok.1 ∙ sym (length_patched n (replicate (length xs) (suc e)) h.rights (omega (arith, fits, length_replicated (length xs) (suc e), h.ok))) in
    let r : (CellRow.the_row).Denot = record { ptr = block_ptr b o; len = h.len; cells = h.cells; rights = left; base = h.base; ok = (h.ok.0, as_many); small = h.small } in
    let s : (Span.the_row).Denot = record { at = place; items = xs; filled = marks (ins xs); halved = suc e; as_many = length_marks (ins xs) ∙ length_ins xs } in
    kept_made ! r $ move ! (2 ∷ 0 ∷ 3 ∷ 4 ∷ 5 ∷ []) $ closes ! tt CellRow.the_row r (words ∷ []) rb ro $
    returns ! (look_at ! 0 refl) $ free_all ! refl $
    suffices ! _ (ends_at 𝓛 f.ended stayed c y (both (vptr b (n * 8 + o)) bare) (place, s) (r, (tt, (tt, tt))) (tt, (tt, (tt, tt)))) $
    says_three ! (
      (
        ap (λ m. block_ptr b m) (sym there_is) ∙ ap (λ p. p +ₚ (n * 8)) (sym at),
        (refl, sym count, marks_ins xs ∙ ap (λ m. replicate m true) count),
        there.2,
      ),
      (sym at, refl, refl, refl),
      (e, refl, (λ j lt. even.1 j lt), ap (λ m. patched n (replicate m (suc e)) h.rights) count),
    ) $
    feq_i ! (List Val) (vptr rb ro ∷ []) (vptr rb ro ∷ []) refl $ fjoin3 ! $ nothing ! $ nothing ! $ fjoin ! $ nothing ! $ fjoin ! $ move ! (1 ∷ 0 ∷ []) $ fjoin ! $
    move ! (1 ∷ 3 ∷ []) $ join ! $ move ! (2 ∷ []) $ span_made ! s $ feq_i ! (List Val) (vptr b (n * 8 + o) ∷ [])
    (vptr b (n * 8 + o) ∷ []) refl $ pair_made ! RawPtr Span.the_row place s (vptr b (n * 8 + o)) bare $
    keep ! (1 ∷ 2 ∷ 0 ∷ []) $ done !)))))))))
