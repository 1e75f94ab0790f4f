-- The words of a `Cells` or a `CellRow`. Assumes `Logic`.
use Rattle.cw_slices.proofs.Steps.{◌≡◌, ◌^◌, List, [], ◌∷◌, refl, ◌∙◌, ◌++◌, w64, Val, vint, vstruct, Logic, ‵, ◌$◌, fjoin, fpack, feq_i, flt_i, Valss, ptr_val, nothing}
use seplogic.Ra.Ura.{Ura}
use types.Kit.{Goal, Step, step, Item}
use mir.Val.{of_list}
use denote.Laws.{Is}
use denote.Struct.Struct.{within}
use denote.Struct.Owning.{shape}
use Rattle.core.proofs.slots.Opens.{words_val}
use Rattle.cw_slices.specs.OwnedMemory.{held_owned}
use Rattle.cw_slices.specs.contracts.cells.Cells as Cells
use Rattle.cw_slices.specs.contracts.cell_row.CellRow as CellRow
use Rattle.cw_slices.specs.Memory.{kept_owned}

pub cells_told : (x : (Cells.the_row).Denot) (vs : List Val) → Is Cells.the_row x vs → vs ≡ words_val x.ptr x.len ∷ []
cells_told x vs so = so.0.1.0 ∙ (λ i. vstruct (of_list (so.0.1.1.0 i ++ (so.0.1.1.1.0.0 i ++ []))) ∷ [])

pub kept_told : (x : (CellRow.the_row).Denot) (vs : List Val) → Is CellRow.the_row x vs → vs ≡ words_val x.ptr x.len ∷ []
kept_told x vs so = so.0.1.0 ∙ (λ i. vstruct (of_list (so.0.1.1.0 i ++ (so.0.1.1.1.0.0 i ++ []))) ∷ [])

module _ {M : Type 1} {𝓤 : Ura M} {𝓛 : Logic 𝓤} {K : Type 0} {Γ : List (Item 𝓤)} {G : Goal 𝓤 𝓛.H} where
  pub kept_made : K → (x : (CellRow.the_row).Denot) → Step K 𝓛 (‵ ((CellRow.the_row).own_val x (words_val x.ptr x.len ∷ [])) ∷ Γ) G (‵ (kept_owned x.ptr x.cells x.rights) ∷ Γ) G
  kept_made t x = step (λ s.
      nothing t $ flt_i t x.len (2 ^ 64) x.small $ feq_i t (List Val) (vint w64 x.len ∷ []) (vint w64 x.len ∷ []) refl $ fjoin t $ fjoin t $
      feq_i t (List Val) (ptr_val x.ptr ∷ []) (ptr_val x.ptr ∷ []) refl $ fjoin t $ feq_i t (List Val) (words_val x.ptr x.len ∷ []) (words_val x.ptr x.len ∷ []) refl $ fjoin t $
      fpack t (Valss (shape CellRow.the_type).fields) (within (shape CellRow.the_type) (x.ptr, (x.len, tt)) (words_val x.ptr x.len ∷ [])) (ptr_val x.ptr ∷ [], (vint w64 x.len ∷ [], tt)) $ fjoin t $ s)

  pub cells_made : K → (x : (Cells.the_row).Denot) → Step K 𝓛 (‵ ((Cells.the_row).own_val x (words_val x.ptr x.len ∷ [])) ∷ Γ) G (‵ (held_owned x.halved x.ptr x.len x.items x.filled) ∷ Γ) G
  cells_made t x = step (λ s.
      nothing t $ flt_i t x.len (2 ^ 64) x.small $ feq_i t (List Val) (vint w64 x.len ∷ []) (vint w64 x.len ∷ []) refl $ fjoin t $ fjoin t $
      feq_i t (List Val) (ptr_val x.ptr ∷ []) (ptr_val x.ptr ∷ []) refl $ fjoin t $ feq_i t (List Val) (words_val x.ptr x.len ∷ []) (words_val x.ptr x.len ∷ []) refl $ fjoin t $
      fpack t (Valss (shape Cells.the_type).fields) (within (shape Cells.the_type) (x.ptr, (x.len, tt)) (words_val x.ptr x.len ∷ [])) (ptr_val x.ptr ∷ [], (vint w64 x.len ∷ [], tt)) $ fjoin t $ s)
