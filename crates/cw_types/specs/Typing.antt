-- The rules of names and types, divided into the parts that the code tests.
use Rattle.std.specs.Prelude.{ℕ, nat_le, Bool, true, false, not, ◌&&◌, ◌||◌, List, [], ◌∷◌, ◌++◌}
use Rattle.std.specs.Prelude.{Some, if◌then◌else◌}
use Rattle.std.specs.List.{list_any}
use Rattle.cw_model.specs.Answers.{main_name}
use Rattle.cw_model.specs.declared.syntax.NameKind.TheVariants as name_kind
use Rattle.cw_model.specs.Names.{same_name}
use Rattle.cw_model.specs.Syntax.{Param, Function, Program, Stmt, Declare, DeclareArray, Assign, AssignElement}
use Rattle.cw_model.specs.Syntax.{Reduce, Call, Start, Begin, Sync, If, IfElse, While, For, Scope, Cut, Region, Print}
use Rattle.cw_model.specs.Syntax.{Return, is_array_param}
use Rattle.cw_model.specs.Typing.{Known, Returns, Nowhere, is_fine, is_new, is_int, is_writable, is_reducer, is_call}
use Rattle.cw_model.specs.Typing.{called, is_head_of_loop, is_cut, may_return, block_returns, faults_in_block}
use Rattle.cw_tree.specs.declared.syntax.Call.{Call as Made}
use Rattle.cw_tree.specs.declared.syntax.Head.{Head}
use Rattle.cw_tree.specs.declared.syntax.Cut.{Cut as Parts}
use Rattle.cw_tree.specs.SyntaxView.{expr_of, exprs_of}

-- the head of a loop of the code keeps the rules
abbrev pub is_head : Program → Known → Head → Bool
is_head program known h =
    is_head_of_loop program known h.variable h.tested h.stepped (expr_of h.from) (expr_of h.to) h.grain h.over.items

-- a call of the code keeps the rules
abbrev pub calls : Program → Known → Made → Bool
calls program known c = is_call known c.target (called c.callee program.functions) (exprs_of c.arguments.items)

-- a call of this function keeps the rules
abbrev pub calls_of : Known → Function → Made → Bool
calls_of known f c = is_call known c.target (Some f) (exprs_of c.arguments.items)

-- a cut of the code keeps the rules
abbrev pub cuts : Program → Known → Parts → Bool
cuts program known c = is_cut program known c.array (expr_of c.at) c.left c.right

-- a statement keeps the rules, apart from its inner blocks
abbrev pub keeps_rules : Program → Returns → Known → Stmt → Bool
keeps_rules program returns known (Declare x e) = is_fine known e && is_new program known x
keeps_rules program returns known (DeclareArray a e) = is_fine known e && is_new program known a
keeps_rules program returns known (Assign x e) = is_int known x && is_fine known e
keeps_rules program returns known (AssignElement a i e) = is_writable known a && is_fine known i && is_fine known e
keeps_rules program returns known (Reduce how s e) = is_reducer program how s && is_fine known e
keeps_rules program returns known (Call kind site target f es) = is_call known target (called f program.functions) es
keeps_rules program returns known (Start kind callee es) = false
keeps_rules program returns known (Begin callee from to captured over) = false
keeps_rules program returns known Sync = true
keeps_rules program returns known (If e b) = is_fine known e
keeps_rules program returns known (IfElse e b c) = is_fine known e
keeps_rules program returns known (While e b) = is_fine known e
keeps_rules program returns known (For x y z from to grain over b) =
    is_head_of_loop program known x y z from to grain over
keeps_rules program returns known (Scope b) = true
keeps_rules program returns known (Cut a e l r b) = is_cut program known a e l r
keeps_rules program returns known (Region tag b) = true
keeps_rules program returns known (Print e) = is_fine known e
keeps_rules program returns known (Return e) = may_return returns known e

-- the lines of the inner blocks of a statement that break a rule
abbrev pub faults_inside : Program → Returns → Known → Stmt → List ℕ
faults_inside program returns known (If e b) = faults_in_block program returns known b
faults_inside program returns known (IfElse e b c) =
    faults_in_block program returns known b ++ faults_in_block program returns known c
faults_inside program returns known (While e b) = faults_in_block program returns known b
faults_inside program returns known (For x y z from to grain over b) =
    faults_in_block program Nowhere ((x, name_kind.Integer) ∷ known) b
faults_inside program returns known (Scope b) = faults_in_block program Nowhere known b
faults_inside program returns known (Cut a e l r b) =
    faults_in_block program Nowhere ((r, name_kind.Array) ∷ (l, name_kind.Array) ∷ known) b
faults_inside program returns known (Region tag b) = faults_in_block program Nowhere known b
faults_inside program returns known _ = []

-- parameters are new and distinct names, if these names are known
abbrev pub are_new : Program → Known → List Param → Bool
are_new program known [] = true
are_new program known (p ∷ ps) = is_new program known p.name && are_new program ((p.name, p.kind) ∷ known) ps

-- a function that returns an integer surely returns
abbrev pub returns_well : Function → Bool
returns_well f = not f.gives_int || block_returns f.body

-- main returns an integer and takes integers
abbrev pub is_right_main : Function → Bool
is_right_main f = not (same_name f.name main_name) || (f.gives_int && not (list_any (λ p. is_array_param p) f.params))

-- the later of two lines
abbrev pub later_line : ℕ → ℕ → ℕ
later_line line other = if nat_le line other then other else line

-- the earlier of two lines
abbrev pub earlier_line : ℕ → ℕ → ℕ
earlier_line line other = if nat_le line other then line else other
