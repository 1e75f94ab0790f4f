-- `put` writes one place that is in, through the pointer.
use Rattle.cw_slices.proofs.Steps.{◌≡◌, ◌+◌, ◌*◌, ◌^◌, ◌<◌, ◌∙◌, List, [], ◌∷◌, length, refl, sym, ap, arith, named, proved, fact, id⊢, ftrue, flft, froom, Val, vint, vptr, vunit, w64, tables, ‵, raw}
use Rattle.cw_slices.proofs.Steps.{◌⊛◌, at_ret, ◌$◌, ◌∵◌, !, qed, done, move, keep, drop, use1, use3, split, join, fsplit, fsplit3}
use Rattle.cw_slices.proofs.Steps.{fjoin, fjoin3, feq_i, flt_i, flt_l, rewrite, suffices, sub, whole, stop}
use Rattle.cw_slices.proofs.Steps.{fld, load, lit, bin, of_opd, unit_lit, enter, first, blocks, exec, returns, alloc_all}
use Rattle.cw_slices.proofs.Steps.{pass_all, free_all, look_at, get, through, sets, env, owns, plain, types_at, yes}
use Rattle.cw_slices.proofs.Steps.{i64, usize, block_ptr, uint_vals, uint_Tells, in_a_block, nothing, heard, Stays, walk_of, stay_dropped, Goes-dropped, ends_at}
use Prim.Native.Nat.{ℕ}
use lib.ListN.{length-set}
use base.Fraction.{full_share}
use base.Logic.{never}
use denote.Laws.{Is, shows}
use denote.Memory.{cell_at}
use denote.Ref.{mut_vals, mut_Tells}
use denote.Signed.{sint_vals, sint_Tells}
use denote.Steps.{opens, closes, peeks}
use denote.RawPtr.{in_block}
use denote.Triple.Walked.{stay_ref, Goes-ref}
use mir.Val.{of_z}
use types.Part.{look_in}
use types.Run.{init, assigns_last}
use Rattle.std.proofs.VecSteps.Shapes.{after}
use Rattle.core.proofs.mem.Facts.{says_two}
use Rattle.core.proofs.mem.Param.{elτ, lawful}
use Rattle.core.proofs.slots.Opens.{words_val}
use Rattle.std.proofs.Common.{Some, slice_get, slice_set}
use Rattle.std.proofs.lemmas.Option.{slice_get_within}
use Rattle.cw_slices.proofs.Lots.{beside, room_of, number_in}
use Rattle.cw_slices.proofs.Holds.{kept_told, kept_made}
use Rattle.cw_slices.proofs.Runs.{number}
use Rattle.cw_slices.specs.Memory.{cells_in}
use Rattle.cw_slices.specs.Blocks.{IsIn}
use Rattle.cw_slices.specs.contracts.cell_row.CellRow as CellRow
use Rattle.cw_slices.specs.contracts.cell_row.CellRow.put as f
use Rattle.cw_slices.proofs.cell_row.CellRow.put.Statement.{statement}
use Rattle.cw_slices.proofs.cell_row.CellRow.put.Code as code

abbrev stayed : Stays f.ended.signature.params f.ended.kept
stayed = (stay_ref (0 ∷ []) tt (plain (λ _. CellRow.the_row)), (stay_dropped (plain (λ _. usize)) yes, (stay_dropped (plain (λ _. i64)) yes, tt)))

pub put_spec : {M : Type 1} → statement M
put_spec 𝓤 𝓛 𝓜 𝓡 wired =
    let H = 𝓛.H in let c = f.clauses 𝓛 𝓜.mem 𝓡.returns in let W = walk_of 𝓛 f.ended stayed c in let 𝓣 = tables 𝓤 H 𝓜 𝓡 𝓡.env in
    proved 𝓛 f.ended stayed c 𝓜 𝓡
    (Goes-ref 𝓛 1 0 tt (plain (λ _. CellRow.the_row)), (Goes-dropped 𝓛 1 (plain (λ _. usize)) yes (λ κs x w. refl), (Goes-dropped 𝓛 1 (plain (λ _. i64)) yes (λ κs x w. refl), tt)))
    f.Key.name code.function (code.unfolded 𝓤 H 𝓜 𝓡 wired)
    (λ κs. (mut_vals, (uint_vals w64, (sint_vals w64, tt)))) (λ κs. (mut_Tells (named 0) κs.0 CellRow.the_row, (uint_Tells w64, (sint_Tells w64, tt)))) (λ κs qs bounds a gh are.
    let rb = a.0.ref_ptr.0 in let ro = a.0.ref_ptr.1 in let h = a.0.now in let i : ℕ = a.1.0 in let x = a.1.1.0 in
    let κ = κs.0 in let q = qs.0 in let small : i < 2 ^ 64 = are.1.0.1 in
    let v : Val = vint w64 (of_z w64 x) in let vs = v ∷ [] in let good = ((lawful number 𝓛).typed x vs are.1.1.0).0 in
    let Asked = IsIn h.cells i in let Own = slice_get h.rights i ≡ Some 0 in
    let y : W.Ghost = ((κs, qs, bounds, a, (vptr rb ro ∷ [], (vint w64 i ∷ [], (vs, tt)))), gh) in
    qed 𝓛 (((‵ (flft κ q) ⊛ ‵ ftrue) ⊛ ‵ (owns (types_at f.ended.signature.params κs) a y.0.4)) ∷ (raw (fact 𝓤 Asked) ⊛ raw (fact 𝓤 Own)) ∷ []) ∵
    move ! (1 ∷ []) $ split ! $ heard ! Asked (λ asked. heard ! Own (λ own. split ! $ split ! $ move ! (2 ∷ []) $ fsplit3 ! $ fsplit3 ! $ move ! (4 ∷ []) $ fsplit ! $ keep ! (3 ∷ 4 ∷ 6 ∷ 0 ∷ 7 ∷ []) $
    -- [the state of the borrow; the borrow; its token; the number; the other tokens]
    let ix : i < h.len = omega (arith, slice_get_within h.cells i (Some asked.0) asked.1, h.ok.0) in
    enter ! 𝓣.C 𝓣.Λ code.function (vptr rb ro ∷ vint w64 i ∷ v ∷ []) _ $ alloc_all ! (λ l. pass_all ! refl ((tt, tt), ((tt, record { fits = small }), (good, tt))) $
    opens ! tt CellRow.the_row {h = h} rb ro (λ us. move ! (1 ∷ []) $ peeks ! CellRow.the_row (Is CellRow.the_row) (shows 𝓛 CellRow.the_row) h us (λ so. fsplit ! $ drop ! $
    fsplit ! $ flt_l ! (λ fit.
    in_a_block ! h.ptr (λ p. in_block p (cells_in p h.cells h.rights)) (id⊢ 𝓤 (never 𝓤)) (λ b o at.
    let words = words_val (block_ptr b o) h.len in
    rewrite ! 1 (λ (ws : List Val). ‵ (cell_at full_share (CellRow.the_row).mir ws rb ro)) (kept_told h us so ∙ ap (λ p. words_val p h.len ∷ []) at) refl $
    use1 𝓛 (‵ (froom (elτ number) b (i * 8 + o)) ⊛ ‵ (beside 𝓛 b o h.cells h.rights i)) (room_of 𝓛 b o h.cells h.rights i asked.0 asked.1 own) $ split ! $
    -- [the place; the other places; the two words; the open borrow, in three entries; the number; the other tokens]
    let offset : i * 8 < 2 ^ 64 = omega (arith, fit, ix, h.ok.0) in
    first ! $ blocks ! $ sets ! (of_opd ! (load ! (through ! refl (fld ! refl (stop !))) (look_in ! 2 (sub ! 0 refl (whole !))))) refl (tt, tt) $
    sets ! (bin ! (get ! refl) (lit ! tt) (record { fits = offset })) refl (tt, record { fits = offset }) $ sets ! (bin ! (get ! refl) (get ! refl) tt) refl (tt, tt) $
    assigns_last ! (of_opd ! (get ! refl)) (through ! refl (stop !)) (init ! 0 refl good) $
    exec ! 𝓣.C 𝓣.Λ (env code.Mir.locals l) (after 1 (code.function).body) (at_ret _ (W.post y)) $ sets ! (of_opd ! (unit_lit !)) refl (tt, tt) $
    let cs = slice_set h.cells i (Some x) in let as_many : length cs ≡ length h.cells = length-set h.cells i (Some x) in
    move ! (0 ∷ 6 ∷ []) $ use3 𝓛 (‵ (cells_in (block_ptr b o) cs h.rights)) (number_in 𝓛 b o h.cells h.rights i asked.0 asked.1 own x v) $
    flt_i ! (length cs * 8) (2 ^ 63) (omega (arith, fit, as_many)) $ fjoin ! $
    let r : (CellRow.the_row).Denot = record { ptr = block_ptr b o; len = h.len; cells = cs; rights = h.rights; base = h.base; ok = (h.ok.0 ∙ sym as_many, h.ok.1); small = h.small } in
    kept_made ! r $ move ! (1 ∷ 0 ∷ []) $ closes ! tt CellRow.the_row r (words ∷ []) rb ro $
    returns ! (look_at ! 0 refl) $ free_all ! refl $
    suffices ! _ (ends_at 𝓛 f.ended stayed c y vunit tt (r, (tt, (tt, tt))) (tt, (tt, (tt, tt)))) $ says_two ! ((sym at, refl, refl, refl), refl) $
    feq_i ! (List Val) (vptr rb ro ∷ []) (vptr rb ro ∷ []) refl $ fjoin3 ! $ nothing ! $ nothing ! $ fjoin ! $ nothing ! $ fjoin ! $ move ! (1 ∷ 0 ∷ []) $ fjoin ! $
    move ! (1 ∷ 2 ∷ []) $ join ! $ feq_i ! (List Val) (vunit ∷ []) (vunit ∷ []) refl $ keep ! (1 ∷ 2 ∷ 0 ∷ []) $ done !))))))))
