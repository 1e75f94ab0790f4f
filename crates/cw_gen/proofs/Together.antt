-- Functions with known and free names, slots, lists and sites satisfy the conditions on their code.
use Rattle.std.proofs.Common.{◌≡◌, ℕ, ◌+◌, List, [], ◌∷◌, Bool, true, false, not, ◌||◌, if◌then◌else◌, Option, Some, None, refl, ap, subst}
use Rattle.std.specs.List.{list_any}
use Rattle.cw_model.specs.Syntax.{is_array_kind, is_written_kind, Name, Expr, Number, Variable, Element, Length, Negative, Not, Binary, Stmt, Declare, DeclareArray, Assign}
use Rattle.cw_model.specs.Syntax.{AssignElement, Reduce, Call, Start, Begin, Sync, If, IfElse, While, For, Scope, Cut, Region, Print, Return, Block, End, Then, Param, Function}
use Rattle.cw_model.specs.Meaning.{function_named}
use Rattle.cw_model.specs.Typing.{Returns, Nowhere, WithInt, Alone}
use Rattle.cw_model.specs.Ownership.{Taken, CutOf, is_taken, is_held, names_in, target_names, arrays_given, given, are_free}
use Rattle.cw_tree.specs.Resolved.{Lists, params_of, slot_of, Locals, with_array, locals_after, locals_of}
use Rattle.cw_tree.specs.lemmas.Names.{front_among, later_among}
use Rattle.cw_gen.specs.Emit.{Tables, first_list, half_list, passed_in, lent_in}
use Rattle.cw_gen.proofs.FreeTexts.{free_first, free_second, loose_each}
use Rattle.cw_gen.proofs.Takens.{loose_free}
use Rattle.cw_gen.proofs.OwnNames.{OwnName, OwnAll, OwnArg, OwnArgs, OwnStmt, OwnBlock, AllOwnNames}
use Rattle.cw_gen.specs.Marks.{Marks}
use Rattle.cw_loops.specs.Slotted.{slotted_arguments}
use Rattle.cw_loops.specs.lemmas.Naming.{among_left, among_right}
use Rattle.cw_model.specs.declared.syntax.NameKind.{NameKind}
use Rattle.cw_model.specs.declared.syntax.NameKind.TheVariants as name_kind
use Rattle.cw_model.specs.Names.{is_among}
use Rattle.cw_gen.proofs.HeldNames.{held_after}
use Rattle.cw_gen.proofs.Fine.{marks_for, IsWritable, AllWritable, IsPassed, ExprFine, ArgFine, ArgsFine, TargetFine, ReturnFine}
use Rattle.cw_gen.proofs.Fine.{AllUsable, Room, room_of, StmtFine, BlockFine, FunctionFine, FunctionsFine}
use Rattle.cw_gen.proofs.Kept.{ExprKnown, ArgKnown, ArgsKnown, TargetKnown, ReturnKnown, AllKnown, StmtKnown, BlockKnown}
use Rattle.cw_gen.proofs.Kept.{FunctionKnown, AllFunctionsKnown, ExprsFree, ReturnFree, StmtFree, BlockFree, AllFree}
use Rattle.cw_gen.proofs.TextAgreement.{PassesStmt, PassesBlock, AllPass, RoomStmt, RoomBlock, HasRooms, AllHaveRooms, ListedStmt, ListedBlock, AllListed}

free_one : (taken : Taken) (x : Name) (xs : List Name) → are_free taken (x ∷ xs) ≡ true → is_taken taken x ≡ false
free_one taken x xs h = test (is_taken taken x) h
  where
    test : (b : Bool) → not (b || list_any (λ z. is_taken taken z) xs) ≡ true → b ≡ false
    test true h' = cc
    test false h' = refl

module _ (locals : Locals) (taken : Taken) where
  expr_fine : (e : Expr) → ExprKnown locals e → are_free taken (names_in e) ≡ true → ExprFine locals taken e
  expr_fine (Number n) known free = tt
  expr_fine (Variable x) known free = record { declared = known; free = free_one taken x [] free }
  expr_fine (Element a e) known free =
      (record { declared = known.0; free = free_one taken a (names_in e) free }, expr_fine e known.1 (free_second taken (a ∷ []) (names_in e) free))
  expr_fine (Length a) known free = record { declared = known; free = free_one taken a [] free }
  expr_fine (Negative e) known free = expr_fine e known free
  expr_fine (Not e) known free = expr_fine e known free
  expr_fine (Binary operator d e) known free =
      (expr_fine d known.0 (free_first taken (names_in d) (names_in e) free), expr_fine e known.1 (free_second taken (names_in d) (names_in e) free))

  arg_fine : (marks : Marks) (k : NameKind) (e : Expr) → ArgKnown (is_array_kind k) locals e → are_free taken (names_in e) ≡ true
      → OwnArg k marks locals e → ((x : Name) → is_among x (if is_written_kind k then names_in e else []) ≡ true → is_held taken x ≡ false)
      → ArgFine k marks locals taken e
  arg_fine marks name_kind.Integer e known free own loose = (expr_fine e known.0 free, known.1)
  arg_fine marks name_kind.Array (Variable a) known free own loose = record { usable = record { declared = known; free = free_one taken a [] free }; loose = loose a (front_among a []); own = own }
  arg_fine marks name_kind.Array _ known free own loose = absurd known
  arg_fine marks name_kind.Const (Variable a) known free own loose = record { declared = known; free = free_one taken a [] free }
  arg_fine marks name_kind.Const _ known free own loose = absurd known

  args_fine : (marks : Marks) (ps : List Param) (es : List Expr) → ArgsKnown locals ps es → ExprsFree taken es → OwnArgs marks locals ps es
      → ((x : Name) → is_among x (arrays_given ps es) ≡ true → is_held taken x ≡ false) → ArgsFine marks locals taken ps es
  args_fine marks [] [] known free own loose = tt
  args_fine marks [] (e ∷ es) known free own loose = absurd known
  args_fine marks (p ∷ ps) [] known free own loose = absurd known
  args_fine marks (p ∷ ps) (e ∷ es) known free own loose = (
    arg_fine marks p.kind e known.0 free.0 own.0 (λ x h. loose x (among_left x (if is_written_kind p.kind then names_in e else []) (arrays_given ps es) h)),
    args_fine marks ps es known.1 free.1 own.1 (λ x h. loose x (among_right x (if is_written_kind p.kind then names_in e else []) (arrays_given ps es) h)),
  )

  writable : (marks : Marks) (a : Name) → is_among a locals.arrays ≡ true → is_held taken a ≡ false → OwnName marks locals a → IsWritable marks locals.arrays taken a
  writable marks a known loose own = record { usable = record { declared = known; free = loose_free a taken loose }; loose = loose; own = own }

  all_writable : (marks : Marks) (xs : List Name) → AllKnown locals.arrays xs → OwnAll marks locals xs
      → ((x : Name) → is_among x xs ≡ true → is_held taken x ≡ false) → AllWritable marks locals.arrays taken xs
  all_writable marks [] known own loose = tt
  all_writable marks (x ∷ xs) known own loose = (writable marks x known.0 (loose x (front_among x xs)) own.0, all_writable marks xs known.1 own.1 (λ y h. loose y (later_among y x xs h)))

  target_fine : (f : Function) (target : Option Name) → TargetKnown locals f target → are_free taken (target_names target) ≡ true → TargetFine locals taken f target
  target_fine f None known free = tt
  target_fine f (Some x) known free = (record { declared = known.0; free = free_one taken x [] free }, known.1)

  return_fine : (returns : Returns) (e : Option Expr) → ReturnKnown returns locals e → ReturnFree taken e → ReturnFine returns locals taken e
  return_fine WithInt (Some e) known free = expr_fine e known free
  return_fine WithInt None known free = absurd known
  return_fine Alone None known free = tt
  return_fine Alone (Some e) known free = absurd known
  return_fine Nowhere None known free = absurd known
  return_fine Nowhere (Some e) known free = absurd known

  all_usable : (names xs : List Name) → AllKnown names xs → are_free taken xs ≡ true → AllUsable names taken xs
  all_usable names [] known free = tt
  all_usable names (x ∷ xs) known free =
      (record { declared = known.0; free = free_one taken x xs free }, all_usable names xs known.1 (free_second taken (x ∷ []) xs free))

module _ (fs : List Function) (lists : Lists) (callees_are : lists.callees ≡ fs) (tables : Tables) (marks : Marks) (room : Room) where
  -- the parameters of the function that a name lists
  callee : (f : Name) → params_of lists f ≡ (function_named f fs).params
  callee f = ap (λ l. (function_named f l).params) callees_are

  mutual
    stmt_fine : (returns : Returns) (depth : ℕ) (locals : Locals) (taken : Taken) (s : Stmt) → StmtKnown fs room.given returns locals s
        → StmtFree fs depth taken s → OwnStmt fs marks locals s → PassesStmt lists tables marks locals s → RoomStmt room locals s
        → ListedStmt lists tables s → StmtFine fs lists tables marks room returns depth locals taken s
    stmt_fine returns depth locals taken (Declare x e) known free own passes there listed = (there, expr_fine locals taken e known free)
    stmt_fine returns depth locals taken (DeclareArray a e) known free own passes there listed = (there, expr_fine locals taken e known.0 free, known.1, own)
    stmt_fine returns depth locals taken (AssignElement a i e) known free own passes there listed =
        (writable locals taken marks a known.0 free.0 own, expr_fine locals taken i known.1 free.1, expr_fine locals taken e known.2 free.2)
    stmt_fine returns depth locals taken (Assign x e) known free own passes there listed = (record { declared = known.0; free = free.0 }, expr_fine locals taken e known.1 free.1)
    stmt_fine returns depth locals taken (Reduce how s e) known free own passes there listed = (listed, expr_fine locals taken e known free)
    stmt_fine returns depth locals taken (Call kind site target f es) known free own passes there listed = (
      known.0,
      target_fine locals taken (function_named f fs) target known.1 free.0,
      args_fine locals taken marks (function_named f fs).params es known.2 free.1 own (loose_each taken (given fs f es) free.3),
      free.2,
      subst (λ ps. IsPassed tables.passed site (passed_in marks (slotted_arguments locals ps es))) (callee f) passes.0,
      listed,
      subst (λ ps. IsPassed tables.lent site (lent_in marks (slotted_arguments locals ps es))) (callee f) passes.1,
      free.4,
      callee f,
    )
    stmt_fine returns depth locals taken (Start kind f es) known free own passes there listed = (
      known.0,
      known.1,
      args_fine locals taken marks (function_named f fs).params es known.2 free.0 own (loose_each taken (given fs f es) free.2),
      free.1,
      subst (λ ps. IsPassed tables.passed (half_list (first_list tables.sites) kind (slot_of f lists.functions)) (passed_in marks (slotted_arguments locals ps es))) (callee f) passes,
      known.3,
      callee f,
    )
    stmt_fine returns depth locals taken (Begin f from to captured over) known free own passes there listed = (
      known.0,
      known.1,
      expr_fine locals taken from known.2 free.0,
      expr_fine locals taken to known.3 free.1,
      all_usable locals taken locals.ints captured known.4 free.2,
      all_writable locals taken marks over known.5 own (loose_each taken over free.3),
      known.6,
      passes,
    )
    stmt_fine returns depth locals taken Sync known free own passes there listed = tt
    stmt_fine returns depth locals taken (If e b) known free own passes there listed =
        (expr_fine locals taken e known.0 free.0, block_fine returns depth locals taken b known.1 free.1 own passes there listed, free.2)
    stmt_fine returns depth locals taken (IfElse e b c) known free own passes there listed = (
      expr_fine locals taken e known.0 free.0,
      (block_fine returns depth locals taken b known.1 free.1.0 own.0 passes.0 there.0 listed.0, free.1.1),
      (block_fine returns depth locals taken c known.2 free.2.0 own.1 passes.1 there.1 listed.1, free.2.1),
    )
    stmt_fine returns depth locals taken (While e b) known free own passes there listed =
        let all = held_after fs depth (While e b) taken in
        (expr_fine locals all e known.0 free.0, block_fine returns depth locals all b known.1 free.1 own passes there listed, free.2, known.2)
    stmt_fine returns depth locals taken (Scope b) known free own passes there listed =
        (block_fine Nowhere (depth + 1) locals taken b known free.0 own passes there listed, free.1)
    stmt_fine returns depth locals taken (Cut a e l r b) known free own passes there listed = (
      writable locals taken marks a known.0 free.0 own.0,
      expr_fine locals taken e known.1 free.1,
      record { left = known.2; right = known.3; there = there.0; behind = own.1; begins = known.4 },
      block_fine Nowhere (depth + 1) (with_array r (with_array l locals)) ((a, CutOf) ∷ taken) b known.5 free.2 own.2 passes there.1 listed,
      free.3,
    )
    stmt_fine returns depth locals taken (Region tag b) known free own passes there listed =
        (listed.0, block_fine Nowhere (depth + 1) locals taken b known free.0 own passes there listed.1, free.1)
    stmt_fine returns depth locals taken (Print e) known free own passes there listed = expr_fine locals taken e known free
    stmt_fine returns depth locals taken (Return e) known free own passes there listed = (return_fine locals taken returns e known.0 free, known.1)
    stmt_fine returns depth locals taken (For x y z from to grain over b) known free own passes there listed = absurd known

    block_fine : (returns : Returns) (depth : ℕ) (locals : Locals) (taken : Taken) (b : Block) → BlockKnown fs room.given returns locals b
        → BlockFree fs depth taken b → OwnBlock fs marks locals b → PassesBlock lists tables marks locals b → RoomBlock room locals b
        → ListedBlock lists tables b → BlockFine fs lists tables marks room returns depth locals taken b
    block_fine returns depth locals taken End known free own passes there listed = tt
    block_fine returns depth locals taken (Then line s b) known free own passes there listed = (
      stmt_fine returns depth locals taken s known.0 free.0 own.0 passes.0 there.0 listed.0,
      block_fine returns depth (locals_after locals s) (held_after fs depth s taken) b known.1 free.1 own.1 passes.1 there.1 listed.1,
    )

-- the function satisfies the conditions
function_fine : (fs : List Function) (lists : Lists) → lists.callees ≡ fs → (tables : Tables) (f : Function) → FunctionKnown fs f
    → BlockFree fs 1 [] f.body → OwnBlock fs (marks_for f.params) (locals_of f.params) f.body
    → PassesBlock lists tables (marks_for f.params) (locals_of f.params) f.body → HasRooms lists f → ListedBlock lists tables f.body → FunctionFine fs lists tables f
function_fine fs lists callees_are tables f known free own passes there listed = record {
  apart = known.apart;
  room = there.ints;
  array_room = there.arrays;
  body = block_fine fs lists callees_are tables (marks_for f.params) (room_of lists f) (if f.gives_int then WithInt else Alone) 1
      (locals_of f.params) [] f.body known.body free own passes there.body listed;
  returns = known.returns;
}

-- the functions satisfy the conditions
pub functions_fine : (fs : List Function) (lists : Lists) → lists.callees ≡ fs → (tables : Tables) (gs : List Function) → AllFunctionsKnown fs gs
    → AllFree fs gs → AllOwnNames fs gs → AllPass lists tables gs → AllHaveRooms lists gs → AllListed lists tables gs → FunctionsFine fs lists tables gs
functions_fine fs lists callees_are tables [] known free own passes there listed = tt
functions_fine fs lists callees_are tables (f ∷ gs) known free own passes there listed =
    (function_fine fs lists callees_are tables f known.0 free.0 own.0 passes.0 there.0 listed.0, functions_fine fs lists callees_are tables gs known.1 free.1 own.1 passes.1 there.1 listed.1)
