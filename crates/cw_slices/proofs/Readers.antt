-- Every holder of a `&` to a part of the right may read the cells. Assumes `Logic`.
use Rattle.std.proofs.Common.{◌≡◌, ℕ, ◌*◌, ◌^◌, ℤ, pos, Bool, true, false, List, [], ◌∷◌, length, Option, Some, None, sym, ◌∙◌, subst, arith}
use Prim.Native.Nat.{zero, suc}
use seplogic.Ra.Ura.{Ura}
use base.Logic.{sep, emp, id⊢}
use base.Fml.{Lft, Incl, Incl-trans, Share, ftrue, flt, fbor}
use types.Logic.{Logic, sem, lfts}
use types.Kit.{‵, raw, ◌⊛◌, later, await, ◌$◌, !, qed, use0, use2, split, fjoin, updating, now, done}
use denote.Builtin.{i64}
use denote.Memory.{part_at, shared_of}
use denote.RawPtr.{Ptr, block_ptr, null_ptr, in_block, lies_at, ◌+ₚ◌}
use denote.Sharing.{ShrLaws, said}
use denote.SharingLaws.{nothing_shr_laws, said_shr_laws, beside_shr_laws}
use denote.Struct.Laws.{i64-copy}
use denote.Struct.Lending.{Lends, Lends-false, Lends-said, Lends-nothing, Lends-both, lent_at, lent_at_shr_laws}
use Rattle.core.specs.Mem.Slots.Ownership.{bytes_of, slot, slots, slot_lent, slots_lent, lent}
use Rattle.cw_slices.specs.OwnedMemory.{halves, part_of_slot, part_of_slots, held, held_owned}
use Rattle.cw_slices.specs.Memory.{cell_owned, cells_in, kept_owned}
use Rattle.cw_slices.specs.Blocks.{numbers, marks}
use Rattle.cw_slices.proofs.Runs.{number_laws}

slot_laws : (f : Bool) (p : Ptr) (x : ℤ) → ShrLaws (slot_lent i64 f p x)
slot_laws true p x = lent_at_shr_laws i64 number_laws.shr_laws p x
slot_laws false p x = nothing_shr_laws

slots_laws : (p : Ptr) (xs : List ℤ) (fs : List Bool) → ShrLaws (slots_lent i64 p xs fs)
slots_laws p [] fs = nothing_shr_laws
slots_laws p (x ∷ xs) [] = nothing_shr_laws
slots_laws p (x ∷ xs) (f ∷ fs) = beside_shr_laws (slot_lent i64 f p x) (slots_lent i64 (p +ₚ bytes_of i64) xs fs) (slot_laws f p x) (slots_laws (p +ₚ bytes_of i64) xs fs)

pub lent_laws : (p : Ptr) (n : ℕ) (xs : List ℤ) (fs : List Bool) → ShrLaws (lent i64 p n xs fs)
lent_laws p n xs fs = let small = flt (n * bytes_of i64) (2 ^ 63) in beside_shr_laws (said small) (slots_lent i64 p xs fs) (said_shr_laws small tt) (slots_laws p xs fs)

module _ {M : Type 1} {𝓤 : Ura M} (𝓛 : Logic 𝓤) where
  open 𝓛 use {H, A}

  module _ (l : Lft) (within : Incl l i64.lives) where
    -- a part of the right to a number permits reading it
    Lends-lies : (q : Share) (p : Ptr) (x : ℤ) → Lends 𝓛 (lies_at i64 q p x) (lent_at i64 p x) l
    Lends-lies q (block_ptr b o) x κ ts inc sp = qed 𝓛 (‵ (fbor κ (part_at i64 q x b o)) ∷ raw (lfts 𝓛 ts) ∷ []) {P = H.⇛ (sep 𝓤 (sem 𝓛 (lent_at i64 (block_ptr b o) x κ)) (lfts 𝓛 ts))} (
        updating ! $ use2 𝓛 (later (‵ (shared_of i64 x b o κ) ⊛ raw (lfts 𝓛 ts))) ((i64-copy.copied M 𝓤 𝓛).shares q i64.lives x κ ts b o (Incl-trans inc within) sp) $ await ! tt $ split ! $
        use0 𝓛 (‵ ftrue) (id⊢ 𝓤 (emp 𝓤)) $ fjoin ! $ now ! $ done !)
    Lends-lies q null_ptr x κ ts inc sp = Lends-false 𝓛 (lent_at i64 null_ptr x) l κ ts inc sp

    Lends-slot : (f : Bool) (p : Ptr) (x : ℤ) → Lends 𝓛 (slot i64 f p x) (slot_lent i64 f p x) l
    Lends-slot true p x = Lends-lies (halves 0) p x
    Lends-slot false p x = Lends-nothing 𝓛 (slot i64 false p x) l

    Lends-slots : (p : Ptr) (xs : List ℤ) (fs : List Bool) → Lends 𝓛 (slots i64 p xs fs) (slots_lent i64 p xs fs) l
    Lends-slots p [] fs = Lends-nothing 𝓛 ftrue l
    Lends-slots p (x ∷ xs) [] = Lends-nothing 𝓛 ftrue l
    Lends-slots p (x ∷ xs) (f ∷ fs) =
        Lends-both 𝓛 (slot i64 f p x) (slots i64 (p +ₚ bytes_of i64) xs fs) (slot_lent i64 f p x) (slots_lent i64 (p +ₚ bytes_of i64) xs fs) l
        (Lends-slot f p x) (Lends-slots (p +ₚ bytes_of i64) xs fs)

    Lends-part : (q : Share) (f : Bool) (p : Ptr) (x : ℤ) → Lends 𝓛 (part_of_slot q f p x) (slot_lent i64 f p x) l
    Lends-part q true p x = Lends-lies q p x
    Lends-part q false p x = Lends-nothing 𝓛 ftrue l

    Lends-parts : (q : Share) (p : Ptr) (xs : List ℤ) (fs : List Bool) → Lends 𝓛 (part_of_slots q p xs fs) (slots_lent i64 p xs fs) l
    Lends-parts q p [] fs = Lends-nothing 𝓛 ftrue l
    Lends-parts q p (x ∷ xs) [] = Lends-nothing 𝓛 ftrue l
    Lends-parts q p (x ∷ xs) (f ∷ fs) =
        Lends-both 𝓛 (part_of_slot q f p x) (part_of_slots q (p +ₚ bytes_of i64) xs fs) (slot_lent i64 f p x)
        (slots_lent i64 (p +ₚ bytes_of i64) xs fs) l (Lends-part q f p x) (Lends-parts q (p +ₚ bytes_of i64) xs fs)

    Lends-run : (d : ℕ) (p : Ptr) (xs : List ℤ) (fs : List Bool) → Lends 𝓛 (held d p xs fs) (slots_lent i64 p xs fs) l
    Lends-run zero p xs fs = Lends-slots p xs fs
    Lends-run (suc d) p xs fs = Lends-parts (halves (suc d)) p xs fs

    Lends-row : (d : ℕ) (p : Ptr) (xs : List ℤ) (fs : List Bool) → Lends 𝓛 (in_block p (held d p xs fs)) (slots_lent i64 p xs fs) l
    Lends-row d (block_ptr b o) xs fs = Lends-run d (block_ptr b o) xs fs
    Lends-row d null_ptr xs fs = Lends-false 𝓛 (slots_lent i64 null_ptr xs fs) l

    pub Lends-held : (d : ℕ) (p : Ptr) (n : ℕ) (xs : List ℤ) (fs : List Bool) → Lends 𝓛 (held_owned d p n xs fs) (lent i64 p n xs fs) l
    Lends-held d p n xs fs = let small = flt (n * bytes_of i64) (2 ^ 63) in
        Lends-both 𝓛 small (in_block p (held d p xs fs)) (said small) (slots_lent i64 p xs fs) l (Lends-said 𝓛 small tt l) (Lends-row d p xs fs)

    -- the cells that are in may be read
    Lends-in : (p : Ptr) (cs : List (Option ℤ)) (ds : List ℕ) → length ds ≡ length cs → Lends 𝓛 (cells_in p cs ds) (slots_lent i64 p (numbers cs) (marks cs)) l
    Lends-in p [] ds e = Lends-nothing 𝓛 ftrue l
    Lends-in p (c ∷ cs) [] e = let e' : 0 ≡ suc (length cs) = e in absurd (omega (arith, e'))
    Lends-in p (Some x ∷ cs) (d ∷ ds) e = let e' : suc (length ds) ≡ suc (length cs) = e in
        Lends-both 𝓛 (cell_owned p (Some x) d) (cells_in (p +ₚ bytes_of i64) cs ds) (slot_lent i64 true p x)
        (slots_lent i64 (p +ₚ bytes_of i64) (numbers cs) (marks cs)) l (Lends-lies (halves d) p x) (Lends-in (p +ₚ bytes_of i64) cs ds (omega (arith, e')))
    Lends-in p (None ∷ cs) (d ∷ ds) e = let e' : suc (length ds) ≡ suc (length cs) = e in
        Lends-both 𝓛 ftrue (cells_in (p +ₚ bytes_of i64) cs ds) (slot_lent i64 false p (pos 0))
        (slots_lent i64 (p +ₚ bytes_of i64) (numbers cs) (marks cs)) l (Lends-nothing 𝓛 ftrue l) (Lends-in (p +ₚ bytes_of i64) cs ds (omega (arith, e')))

    Lends-here : (p : Ptr) (cs : List (Option ℤ)) (ds : List ℕ) → length ds ≡ length cs → Lends 𝓛 (in_block p (cells_in p cs ds)) (slots_lent i64 p (numbers cs) (marks cs)) l
    Lends-here (block_ptr b o) cs ds e = Lends-in (block_ptr b o) cs ds e
    Lends-here null_ptr cs ds e = Lends-false 𝓛 (slots_lent i64 null_ptr (numbers cs) (marks cs)) l

    pub Lends-kept : (p : Ptr) (n : ℕ) (cs : List (Option ℤ)) (ds : List ℕ) → (n ≡ length cs) × (n ≡ length ds) → Lends 𝓛 (kept_owned p cs ds) (lent i64 p n (numbers cs) (marks cs)) l
    Lends-kept p n cs ds e = let small = flt (length cs * bytes_of i64) (2 ^ 63) in subst (λ (k : ℕ). Lends 𝓛 (kept_owned p cs ds) (lent i64 p k (numbers cs) (marks cs)) l) (sym e.0)
        (Lends-both 𝓛 small (in_block p (cells_in p cs ds)) (said small) (slots_lent i64 p (numbers cs) (marks cs)) l (Lends-said 𝓛 small tt l) (Lends-here p cs ds (sym e.1 ∙ e.0)))
