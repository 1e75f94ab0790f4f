-- The agreement of the code of a lowered program with its text: rooms, lists of array slots, sites, reducers and tags.
use Rattle.std.specs.Prelude.{suc, ◌<◌, ◌≤◌, List, [], ◌∷◌, length, map}
use Rattle.cw_model.specs.Syntax.{Stmt, Declare, DeclareArray, Reduce, Call, Start, Begin, If, IfElse, While, Scope, Cut, Region, Block, End, Then, Function}
use Rattle.cw_tree.specs.Resolved.{Lists, params_of, Locals, slot_of, with_array, locals_after, locals_of}
use Rattle.cw_loops.specs.Slotted.{slotted_arguments}
use Rattle.cw_gen.specs.Emit.{Tables, first_list, whole_list, half_list, passed_in, lent_in}
use Rattle.cw_gen.specs.Marks.{Marks, array_at}
use Rattle.cw_gen.proofs.Fine.{marks_for, Room, room_of, IsListed, IsPassed, HasSite}

abbrev mutual
  -- each call of a statement has its list of array slots
  pub PassesStmt : Lists → Tables → Marks → Locals → Stmt → Type 0
  PassesStmt lists tables marks locals (Call kind site target f es) =
      IsPassed tables.passed site (passed_in marks (slotted_arguments locals (params_of lists f) es)) × IsPassed tables.lent site (lent_in marks (slotted_arguments locals (params_of lists f) es))
  PassesStmt lists tables marks locals (Start kind f es) =
      IsPassed tables.passed (half_list (first_list tables.sites) kind (slot_of f lists.functions)) (passed_in marks (slotted_arguments locals (params_of lists f) es))
  PassesStmt lists tables marks locals (Begin f from to captured over) =
      IsPassed tables.passed (whole_list (first_list tables.sites) (slot_of f lists.functions)) (map (array_at marks) (map (λ a. slot_of a locals.arrays) over))
  PassesStmt lists tables marks locals (If e b) = PassesBlock lists tables marks locals b
  PassesStmt lists tables marks locals (IfElse e b c) = PassesBlock lists tables marks locals b × PassesBlock lists tables marks locals c
  PassesStmt lists tables marks locals (While e b) = PassesBlock lists tables marks locals b
  PassesStmt lists tables marks locals (Scope b) = PassesBlock lists tables marks locals b
  PassesStmt lists tables marks locals (Cut a e l r b) = PassesBlock lists tables marks (with_array r (with_array l locals)) b
  PassesStmt lists tables marks locals (Region tag b) = PassesBlock lists tables marks locals b
  PassesStmt lists tables marks locals _ = Unit {0}

  -- each call of a block has its list of array slots
  pub PassesBlock : Lists → Tables → Marks → Locals → Block → Type 0
  PassesBlock lists tables marks locals End = Unit {0}
  PassesBlock lists tables marks locals (Then line s b) = PassesStmt lists tables marks locals s × PassesBlock lists tables marks (locals_after locals s) b

-- each call of each function has its list of array slots
abbrev pub AllPass : Lists → Tables → List Function → Type 0
AllPass lists tables [] = Unit {0}
AllPass lists tables (f ∷ fs) = PassesBlock lists tables (marks_for f.params) (locals_of f.params) f.body × AllPass lists tables fs

abbrev mutual
  -- there is a slot for each name that a statement declares
  pub RoomStmt : Room → Locals → Stmt → Type 0
  RoomStmt room locals (Declare x e) = length locals.ints < room.ints
  RoomStmt room locals (DeclareArray a e) = length locals.arrays < room.arrays
  RoomStmt room locals (If e b) = RoomBlock room locals b
  RoomStmt room locals (IfElse e b c) = RoomBlock room locals b × RoomBlock room locals c
  RoomStmt room locals (While e b) = RoomBlock room locals b
  RoomStmt room locals (Scope b) = RoomBlock room locals b
  RoomStmt room locals (Cut a e l r b) = (suc (suc (length locals.arrays)) ≤ room.arrays) × RoomBlock room (with_array r (with_array l locals)) b
  RoomStmt room locals (Region tag b) = RoomBlock room locals b
  RoomStmt room locals _ = Unit {0}

  -- there is a slot for each name that a block declares
  pub RoomBlock : Room → Locals → Block → Type 0
  RoomBlock room locals End = Unit {0}
  RoomBlock room locals (Then line s b) = RoomStmt room locals s × RoomBlock room (locals_after locals s) b

-- a function has a slot for each of its parameters and for each name that its text declares
pub record HasRooms (lists : Lists) (f : Function) : Type 0 where
  pub ints : length (locals_of f.params).ints ≤ (room_of lists f).ints
  pub arrays : length (locals_of f.params).arrays ≤ (room_of lists f).arrays
  pub body : RoomBlock (room_of lists f) (locals_of f.params) f.body

abbrev pub AllHaveRooms : Lists → List Function → Type 0
AllHaveRooms lists [] = Unit {0}
AllHaveRooms lists (f ∷ fs) = HasRooms lists f × AllHaveRooms lists fs

abbrev mutual
  -- the reducers, the tags and the sites that a statement refers to exist
  pub ListedStmt : Lists → Tables → Stmt → Type 0
  ListedStmt lists tables (Reduce how s e) = IsListed lists.reducers s
  ListedStmt lists tables (Call kind site target f es) = HasSite tables.sites kind site (slot_of f lists.functions)
  ListedStmt lists tables (If e b) = ListedBlock lists tables b
  ListedStmt lists tables (IfElse e b c) = ListedBlock lists tables b × ListedBlock lists tables c
  ListedStmt lists tables (While e b) = ListedBlock lists tables b
  ListedStmt lists tables (Scope b) = ListedBlock lists tables b
  ListedStmt lists tables (Cut a e l r b) = ListedBlock lists tables b
  ListedStmt lists tables (Region tag b) = IsListed lists.tags tag × ListedBlock lists tables b
  ListedStmt lists tables _ = Unit {0}

  -- the reducers, the tags and the sites that a block refers to exist
  pub ListedBlock : Lists → Tables → Block → Type 0
  ListedBlock lists tables End = Unit {0}
  ListedBlock lists tables (Then line s b) = ListedStmt lists tables s × ListedBlock lists tables b

-- the reducers, the tags and the sites that functions refer to exist
abbrev pub AllListed : Lists → Tables → List Function → Type 0
AllListed lists tables [] = Unit {0}
AllListed lists tables (f ∷ fs) = ListedBlock lists tables f.body × AllListed lists tables fs
