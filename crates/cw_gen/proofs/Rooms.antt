-- Each function has a slot for each name that its text declares.
use Rattle.std.proofs.Common.{ℕ, suc, ◌≤◌, List, [], ◌∷◌, length, arith, max}
use Rattle.cw_model.specs.Syntax as model
use Rattle.cw_model.specs.Syntax.{Declare, DeclareArray, If, IfElse, While, Scope, Cut, Region, End, Then}
use Rattle.cw_tree.specs.Resolved.{Lists, Locals, with_array, locals_after, locals_of}
use Rattle.cw_loops.specs.Slotted as slotted
use Rattle.cw_loops.specs.Slotted.{slotted_stmt, slotted_block}
use Rattle.cw_gen.specs.Emit.{ints_in, ints_in_block, arrays_in, arrays_in_block}
use Rattle.cw_gen.proofs.Fine.{Room, room_of}
use Rattle.cw_gen.proofs.TextAgreement.{RoomStmt, RoomBlock, AllHaveRooms}

mutual
  -- a statement does not decrease the number of slots
  pub ints_grow : (n : ℕ) (s : slotted.Stmt) → n ≤ ints_in n s
  ints_grow n (slotted.Declare u e) = omega arith
  ints_grow n (slotted.If e b) = ints_grow_in n b
  ints_grow n (slotted.IfElse e b c) = omega (arith, ints_grow_in n b, ints_grow_in (ints_in_block n b) c)
  ints_grow n (slotted.While e b) = ints_grow_in n b
  ints_grow n (slotted.Scope b) = ints_grow_in n b
  ints_grow n (slotted.Cut a e l r b) = ints_grow_in n b
  ints_grow n (slotted.Region tag b) = ints_grow_in n b
  ints_grow n _ = omega arith

  pub ints_grow_in : (n : ℕ) (b : slotted.Block) → n ≤ ints_in_block n b
  ints_grow_in n slotted.End = omega arith
  ints_grow_in n (slotted.Then line s b) = omega (arith, ints_grow n s, ints_grow_in (ints_in n s) b)

mutual
  -- a statement does not decrease the number of array slots
  pub arrays_grow : (n : ℕ) (s : slotted.Stmt) → n ≤ arrays_in n s
  arrays_grow n (slotted.DeclareArray u e) = omega arith
  arrays_grow n (slotted.If e b) = arrays_grow_in n b
  arrays_grow n (slotted.IfElse e b c) = omega (arith, arrays_grow_in n b, arrays_grow_in (arrays_in_block n b) c)
  arrays_grow n (slotted.While e b) = arrays_grow_in n b
  arrays_grow n (slotted.Scope b) = arrays_grow_in n b
  arrays_grow n (slotted.Cut a e l r b) = omega (arith, arrays_grow_in (max n (suc r)) b)
  arrays_grow n (slotted.Region tag b) = arrays_grow_in n b
  arrays_grow n _ = omega arith

  pub arrays_grow_in : (n : ℕ) (b : slotted.Block) → n ≤ arrays_in_block n b
  arrays_grow_in n slotted.End = omega arith
  arrays_grow_in n (slotted.Then line s b) = omega (arith, arrays_grow n s, arrays_grow_in (arrays_in n s) b)

module _ (lists : Lists) (room : Room) where
  mutual
    -- a statement whose slots are within the room
    stmt_room : (n m : ℕ) (locals : Locals) (s : model.Stmt) → ints_in n (slotted_stmt lists locals s) ≤ room.ints → arrays_in m (slotted_stmt lists locals s) ≤ room.arrays → RoomStmt room locals s
    stmt_room n m locals (Declare x e) h k = omega (arith, h)
    stmt_room n m locals (DeclareArray a e) h k = omega (arith, k)
    stmt_room n m locals (If e b) h k = block_room n m locals b h k
    stmt_room n m locals (IfElse e b c) h k =
        let first = slotted_block lists locals b in
        let second = slotted_block lists locals c in (
          block_room n m locals b (omega (arith, h, ints_grow_in (ints_in_block n first) second)) (omega (arith, k, arrays_grow_in (arrays_in_block m first) second)),
          block_room (ints_in_block n first) (arrays_in_block m first) locals c h k,
        )
    stmt_room n m locals (While e b) h k = block_room n m locals b h k
    stmt_room n m locals (Scope b) h k = block_room n m locals b h k
    stmt_room n m locals (Cut a e l r b) h k =
        let wide = max m (suc (suc (length locals.arrays))) in
        let inner = with_array r (with_array l locals) in (
          omega (arith, k, arrays_grow_in wide (slotted_block lists inner b)),
          block_room n wide inner b h k,
        )
    stmt_room n m locals (Region tag b) h k = block_room n m locals b h k
    stmt_room n m locals _ h k = tt

    -- a block whose slots are within the room
    block_room : (n m : ℕ) (locals : Locals) (b : model.Block) → ints_in_block n (slotted_block lists locals b) ≤ room.ints
        → arrays_in_block m (slotted_block lists locals b) ≤ room.arrays → RoomBlock room locals b
    block_room n m locals End h k = tt
    block_room n m locals (Then line s b) h k =
        let here = slotted_stmt lists locals s in
        let after = slotted_block lists (locals_after locals s) b in (
          stmt_room n m locals s (omega (arith, h, ints_grow_in (ints_in n here) after)) (omega (arith, k, arrays_grow_in (arrays_in m here) after)),
          block_room (ints_in n here) (arrays_in m here) (locals_after locals s) b h k,
        )

-- functions whose rooms are sufficient for their texts
pub all_have_rooms : (lists : Lists) (fs : List model.Function) → AllHaveRooms lists fs
all_have_rooms lists [] = tt
all_have_rooms lists (f ∷ fs) =
    let locals = locals_of f.params in
    let body = slotted_block lists locals f.body in
    let ints = ints_in_block (length locals.ints) body in
    let arrays = arrays_in_block (length locals.arrays) body in (
      record {
        ints = ints_grow_in (length locals.ints) body;
        arrays = arrays_grow_in (length locals.arrays) body;
        body = block_room lists (room_of lists f) (length locals.ints) (length locals.arrays) locals f.body (omega arith) (omega arith);
      },
      all_have_rooms lists fs,
    )
