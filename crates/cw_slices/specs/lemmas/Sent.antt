-- Slices, shares and blocks may go to another thread.
use Rattle.std.proofs.Common.{ℕ, ℤ, Bool, true, false, List, [], ◌∷◌, Option, Some, None}
use Prim.Native.Nat.{zero, suc}
use mir.Syntax.{Ty}
use base.Fml.{Share, Fml}
use base.Shift.{Keyless}
use denote.RattleType.{RattleType}
use denote.RawPtr.{Ptr, block_ptr, null_ptr, lies_at, in_block}
use denote.Builtin.{i64}
use denote.Param.Send.{IsSend, Frees, part_keyless, owning_send, sendable}
use Rattle.std_alloc.proofs.SendSync.{lies}
use Rattle.core.specs.Mem.Slots.Ownership.{slot, slots}
use Rattle.std.specs.declared.alloc.Allocator.{Ghosts}
use Rattle.cw_slices.specs.contracts.memory.Title as Title
use Rattle.cw_slices.specs.contracts.slice.Slice as C
use Rattle.cw_slices.specs.contracts.slice.Slice.TheInside as Inside
use Rattle.cw_slices.specs.Placed.{Placed, placed_code}
use Rattle.cw_slices.specs.OwnedMemory.{halves, part_of_slot, part_of_slots, held, held_owned}
use denote.Param.Send.{view_send, recorded_send, struct_send}
use denote.Struct.Declared as declared
use Rattle.std_heap.specs.contracts.Global as G
use Rattle.std_heap.specs.contracts.GlobalAllocator.TheImpl.{ghosts}
use Rattle.std.proofs.Crossing.{frees}
use Rattle.cw_slices.specs.Memory.{right_owned, cell_owned, cells_in}
use Rattle.cw_slices.specs.Blocks.{Lodged, lodged_code}
use Rattle.cw_slices.specs.contracts.cell_row.CellRow as CellRow
use Rattle.cw_slices.specs.contracts.block.ArrayBlock as Block
use Rattle.cw_slices.specs.contracts.block.ArrayBlock.TheInside as BlockInside
use Rattle.cw_slices.specs.contracts.cells.Cells as Hold

number_send : IsSend i64
number_send = search sendable

place : (f : Bool) (p : Ptr) (x : ℤ) → Keyless (slot i64 f p x)
place true p x = lies i64 number_send p x
place false (block_ptr b o) x = tt
place false null_ptr x = tt

places : (xs : List ℤ) (p : Ptr) (fs : List Bool) → Keyless (slots i64 p xs fs)
places [] p fs = tt
places (x ∷ xs) p [] = tt
places (x ∷ xs) p (f ∷ fs) = (place f p x, places xs _ fs)

inside : (p : Ptr) (F : Fml) → Keyless F → Keyless (in_block p F)
inside (block_ptr b o) F k = k
inside null_ptr F k = tt

right : (t : Ty → Ptr → Fml) → ((τ : Ty) (p : Ptr) → Keyless (t τ p)) → (p : Ptr) (n : ℕ) → Keyless (right_owned t p n)
right t frees p zero = tt
right t frees p (suc n) = frees _ p

pub title_send : (A : RattleType) (g : Ghosts A.Denot) → IsSend A → Frees g g.dealloc_token → IsSend (Title.the_row A g)
title_send A g s f =
    owning_send (Title.the_type A g) (search sendable)
    (λ d. right (g.dealloc_token d.heap) (f.frees d.heap) d.at d.frees) (λ k x w. tt)

global_send : IsSend G.the_row
global_send = search sendable

frees_anywhere : Frees ghosts ghosts.dealloc_token
frees_anywhere = frees

title_global : IsSend (Title.the_row G.the_row ghosts)
title_global = title_send G.the_row ghosts global_send frees_anywhere

part : (q : Share) (p : Ptr) (x : ℤ) → Keyless (lies_at i64 q p x)
part q (block_ptr b o) x = part_keyless i64 number_send q x b o
part q null_ptr x = tt

part_place : (q : Share) (f : Bool) (p : Ptr) (x : ℤ) → Keyless (part_of_slot q f p x)
part_place q true p x = part q p x
part_place q false p x = tt

part_places : (q : Share) (xs : List ℤ) (p : Ptr) (fs : List Bool) → Keyless (part_of_slots q p xs fs)
part_places q [] p fs = tt
part_places q (x ∷ xs) p [] = tt
part_places q (x ∷ xs) p (f ∷ fs) = (part_place q f p x, part_places q xs _ fs)

held_keyless : (d : ℕ) (p : Ptr) (xs : List ℤ) (fs : List Bool) → Keyless (held d p xs fs)
held_keyless zero p xs fs = places xs p fs
held_keyless (suc d) p xs fs = part_places (halves (suc d)) xs p fs

cells_keyless : (d : ℕ) (p : Ptr) (n : ℕ) (xs : List ℤ) (fs : List Bool) → Keyless (held_owned d p n xs fs)
cells_keyless d p n xs fs = (tt, inside p (held d p xs fs) (held_keyless d p xs fs))

pub hold_send : IsSend Hold.the_row
hold_send =
    owning_send Hold.the_type (search sendable) (λ d. cells_keyless d.halved d.ptr d.len d.items d.filled)
    (λ k x w. tt)

cell_keyless : (p : Ptr) (c : Option ℤ) (d : ℕ) → Keyless (cell_owned p c d)
cell_keyless p (Some x) d = part (halves d) p x
cell_keyless p None d = tt

kept_keyless : (cs : List (Option ℤ)) (ds : List ℕ) (p : Ptr) → Keyless (cells_in p cs ds)
kept_keyless [] ds p = tt
kept_keyless (c ∷ cs) [] p = tt
kept_keyless (c ∷ cs) (d ∷ ds) p = (cell_keyless p c d, kept_keyless cs ds _)

pub kept_send : IsSend CellRow.the_row
kept_send =
    owning_send CellRow.the_type (search sendable)
    (λ d. (tt, inside d.ptr (cells_in d.ptr d.cells d.rights) (kept_keyless d.cells d.rights d.ptr)))
    (λ k x w. tt)

inside_send : IsSend (declared.row Inside.the_type)
inside_send =
    recorded_send (Inside.the_field).row _ _ (Inside.the_type).to_one
    (struct_send (declared.shape Inside.the_type)
    (hold_send, (search sendable, (title_global, (search sendable, tt)))))

-- the check of what a new thread takes finds this lemma if it is listed
pub slice_send : IsSend C.the_row
slice_send = view_send (declared.row Inside.the_type) Placed placed_code C.the_view C.the_invariant inside_send

block_inside_send : IsSend (declared.row BlockInside.the_type)
block_inside_send =
    recorded_send (BlockInside.the_field).row _ _ (BlockInside.the_type).to_one
    (struct_send (declared.shape BlockInside.the_type)
    (kept_send, (search sendable, (search sendable, (title_global, (search sendable, tt))))))

-- the check of what a new thread takes finds this lemma if it is listed
pub block_send : IsSend Block.the_row
block_send =
    view_send (declared.row BlockInside.the_type) Lodged lodged_code Block.the_view Block.the_invariant
    block_inside_send
