-- `heal` puts half of the right to a run back into a row.
use Rattle.cw_slices.proofs.Steps.{◌≡◌, ◌+◌, ◌*◌, ◌≤◌, ◌∙◌, List, [], ◌∷◌, length, refl, sym, arith, named, proved, fact, ftrue, flft, Val, vint, vptr, vunit, w64, tables}
use Rattle.cw_slices.proofs.Steps.{‵, raw, ◌⊛◌, ◌$◌, ◌∵◌, !, qed, done, move, keep, drop, use2, split, join, fsplit, fsplit3, fjoin, fjoin3, feq_i, rewrite, suffices}
use Rattle.cw_slices.proofs.Steps.{of_opd, unit_lit, enter, returns, alloc_all, pass_all, free_all, look_at, sets, owns, plain, types_at, yes, usize, ◌+ₚ◌, uint_vals}
use Rattle.cw_slices.proofs.Steps.{uint_Tells, nothing, heard, Stays, walk_of, stay_dropped, Goes-dropped, ends_at, span_owned, bare}
use Prim.Native.Nat.{ℕ, suc}
use Rattle.std.proofs.Common.{◌-◌, ◌<◌, replicate, Some, ap}
use base.Fraction.{full_share}
use denote.Laws.{Is, shows}
use denote.Memory.{cell_at}
use denote.Ref.{mut_vals, mut_Tells}
use denote.Steps.{opens, closes, peeks}
use denote.Triple.Walked.{stay_ref, Goes-ref}
use Rattle.core.proofs.mem.Facts.{says_two}
use Rattle.core.proofs.slots.Opens.{words_val}
use Rattle.cw_slices.proofs.Holds.{kept_told, kept_made}
use Rattle.cw_slices.proofs.Lots.{healed}
use Rattle.cw_slices.specs.Memory.{kept_owned}
use Rattle.cw_slices.specs.Loose.{IsRun}
use Rattle.cw_slices.specs.Blocks.{ins, patched, marks, Have, AreHalved}
use Rattle.cw_slices.specs.lemmas.Patches.{length_patched, length_replicated, marks_ins}
use Rattle.cw_slices.specs.contracts.memory.Span as Span
use Rattle.cw_slices.specs.contracts.cell_row.CellRow as CellRow
use Rattle.cw_slices.specs.contracts.cell_row.CellRow.heal as f
use Rattle.cw_slices.proofs.cell_row.CellRow.heal.Statement.{statement}
use Rattle.cw_slices.proofs.cell_row.CellRow.heal.Code as code

abbrev stayed : Stays f.ended.signature.params f.ended.kept
stayed = (stay_ref (0 ∷ []) tt (plain (λ _. CellRow.the_row)), (stay_dropped (plain (λ _. usize)) yes, (stay_dropped (plain (λ _. Span.the_row)) yes, tt)))

pub heal_spec : {M : Type 1} → statement M
heal_spec 𝓤 𝓛 𝓜 𝓡 wired =
    let H = 𝓛.H in let c = f.clauses 𝓛 𝓜.mem 𝓡.returns in let W = walk_of 𝓛 f.ended stayed c in let 𝓣 = tables 𝓤 H 𝓜 𝓡 𝓡.env in
    proved 𝓛 f.ended stayed c 𝓜 𝓡
    (Goes-ref 𝓛 1 0 tt (plain (λ _. CellRow.the_row)), (Goes-dropped 𝓛 1 (plain (λ _. usize)) yes (λ κs x w. refl), (Goes-dropped 𝓛 1 (plain (λ _. Span.the_row)) yes (λ κs x w. refl), tt)))
    f.Key.name code.function (code.unfolded 𝓤 H 𝓜 𝓡 wired)
    (λ κs. (mut_vals, (uint_vals w64, ((λ _. bare ∷ []), tt)))) (λ κs. (mut_Tells (named 0) κs.0 CellRow.the_row, (uint_Tells w64, ((λ x vs so. so.0.1.0), tt)))) (λ κs qs bounds a gh are.
    let rb = a.0.ref_ptr.0 in let ro = a.0.ref_ptr.1 in let h = a.0.now in let n : ℕ = a.1.0 in let s = a.1.1.0 in
    let κ = κs.0 in let q = qs.0 in
    let Within = n + length s.items ≤ length h.cells in let There = IsRun (h.ptr +ₚ (n * 8)) (length s.items) s in let Same =
    Have h.cells n s.items in let Some_out = 0 < s.halved in let Alike = AreHalved h.rights n (length s.items) s.halved in
    let y : W.Ghost = ((κs, qs, bounds, a, (vptr rb ro ∷ [], (vint w64 n ∷ [], (bare ∷ [], tt)))), gh) in
    qed 𝓛 (((‵ (flft κ q) ⊛ ‵ ftrue) ⊛ ‵ (owns (types_at f.ended.signature.params κs) a y.0.4))
    ∷ (raw (fact 𝓤 Within) ⊛ (raw (fact 𝓤 There) ⊛ (raw (fact 𝓤 Same) ⊛ (raw (fact 𝓤 Some_out) ⊛ raw (fact 𝓤 Alike))))) ∷ []) ∵
    move ! (1 ∷ []) $ split ! $ heard ! Within (λ within. split ! $ heard ! There
    (λ there. split ! $ heard ! Same (λ same. split ! $ heard ! Some_out
    (λ some_out. heard ! Alike (λ even. split ! $ split ! $ move ! (2 ∷ []) $ fsplit3 ! $ fsplit3 ! $ move !
    (4 ∷ []) $ fsplit ! $ fsplit ! $ keep ! (4 ∷ 5 ∷ 7 ∷ 1 ∷ 8 ∷ []) $
    -- [the state of the borrow; the borrow; its token; the run; the other tokens]
    rewrite ! 3 (λ p. ‵ (span_owned p s.items s.filled s.halved)) there.0 refl $ rewrite ! 3 (λ fs. ‵ (span_owned (h.ptr +ₚ (n * 8)) s.items fs s.halved)) (there.2 ∙ sym (marks_ins s.items)) refl $
    enter ! 𝓣.C 𝓣.Λ code.function (vptr rb ro ∷ vint w64 n ∷ bare ∷ []) _ $ alloc_all ! (λ l. pass_all ! refl ((tt, tt), ((tt, record { fits = are.1.0.1 }), ((tt, tt), tt))) $
    opens ! tt CellRow.the_row {h = h} rb ro (λ us. move ! (1 ∷ []) $ peeks ! CellRow.the_row (Is CellRow.the_row) (shows 𝓛 CellRow.the_row) h us (λ so. fsplit ! $ drop ! $
    let words = words_val h.ptr h.len in let e : ℕ = s.halved - 1 in let more : s.halved ≡ suc e = omega (arith, some_out) in let left = patched n (replicate (length s.items) e) h.rights in
    rewrite ! 1 (λ (ws : List Val). ‵ (cell_at full_share (CellRow.the_row).mir ws rb ro)) (kept_told h us so) refl $
    -- [the row; the two words; the open borrow, in three entries; the run; the other tokens]
    move ! (0 ∷ 5 ∷ []) $ rewrite ! 1 (λ k. ‵ (span_owned (h.ptr +ₚ (n * 8)) s.items (marks (ins s.items)) k)) more refl $
    use2 𝓛 (‵ (kept_owned h.ptr h.cells left)) (healed 𝓛 n s.items h.cells h.rights within (sym h.ok.1 ∙ h.ok.0) e h.ptr same (λ j lt. even j lt ∙ ap Some more)) $
    let as_many : h.len ≡ length left = h.ok.1 ∙ sym (length_patched n (replicate (length s.items) e) h.rights (omega (arith, within, length_replicated (length s.items) e, h.ok))) in
    let r : (CellRow.the_row).Denot = record { ptr = h.ptr; len = h.len; cells = h.cells; rights = left; base = h.base; ok = (h.ok.0, as_many); small = h.small } in
    kept_made ! r $ move ! (1 ∷ 0 ∷ []) $ closes ! tt CellRow.the_row r (words ∷ []) rb ro $
    sets ! (of_opd ! (unit_lit !)) refl (tt, tt) $ returns ! (look_at ! 0 refl) $ free_all ! refl $
    suffices ! _ (ends_at 𝓛 f.ended stayed c y vunit tt (r, (tt, (tt, tt))) (tt, (tt, (tt, tt)))) $ says_two ! ((refl, refl, refl, refl), refl) $
    feq_i ! (List Val) (vptr rb ro ∷ []) (vptr rb ro ∷ []) refl $ fjoin3 ! $ nothing ! $ nothing ! $ fjoin ! $ nothing ! $ fjoin ! $ move ! (1 ∷ 0 ∷ []) $ fjoin ! $
    move ! (1 ∷ 2 ∷ []) $ join ! $ feq_i ! (List Val) (vunit ∷ []) (vunit ∷ []) refl $ keep ! (1 ∷ 2 ∷ 0 ∷ []) $ done !)))))))))
