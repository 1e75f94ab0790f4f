-- The names that lowered programs use are known.
use Rattle.std.proofs.Common.{◌≡◌, ℕ, ◌+◌, true, List, [], ◌∷◌, ◌++◌, Some, sym, ◌∙◌, ap, append-nil}
use Rattle.std.specs.Prelude.{if◌then◌else◌, not, ◌&&◌, ◌||◌, map, flat_map}
use Rattle.std.specs.List.{list_all, list_any}
use Rattle.std.proofs.lemmas.Bool.{and_parts}
use Rattle.cw_model.specs.Lines.{unless}
use Rattle.cw_model.specs.Syntax.{is_array_param, Name, Stmt, Declare, DeclareArray, Assign, AssignElement, Reduce, Call, Start, Begin, Sync, If}
use Rattle.cw_model.specs.Syntax.{IfElse, While, For, Scope, Cut, Region, Print, Return, Block, End, Then, Function, Program}
use Rattle.cw_model.specs.Captured.{captured}
use Rattle.cw_model.specs.Names.{same_name, is_among, differ}
use Rattle.cw_model.specs.Answers.{main_name}
use Rattle.cw_model.specs.Typing.{WithInt, Alone, globals, block_returns, faults_in_block, known_of, is_head, called, faults_of, repeated_names, IsWellTyped}
use Rattle.cw_model.specs.lemmas.Kept.{kept, left_none, right_none}
use Rattle.cw_model.specs.lemmas.Names.{names_of}
use Rattle.cw_tree.specs.Resolved.{locals_of}
use Rattle.cw_loops.specs.Lowered.{is_plain, loop_name, loop_function, loop_count, loop_count_in, lower_block, lower_function, lower_functions, made_by, made_in, made_of, lowered}
use Rattle.cw_loops.specs.Lowerable.{nothing_around, integers_of, arrays_of, can_lower_function, is_lowerable}
use Rattle.cw_loops.specs.LoweringLaws.{IsOwnedSource}
use Rattle.cw_loops.specs.lemmas.Heads.{array_kind}
use Rattle.cw_gen.proofs.OwnNames.{AllOwnNames, unread_own, head_written, block_own}
use Rattle.cw_gen.proofs.KnownParams.{local_arrays, loop_unread}
use Rattle.cw_gen.proofs.Fine.{marks_for}
use Rattle.cw_gen.proofs.Kept.{FunctionKnown, AllFunctionsKnown}
use Rattle.cw_gen.proofs.KnownFunctions.{AllFound, found_first, found_second, loops_found, CallFound, call_found}
use Rattle.cw_gen.proofs.KnownPlaces.{agree_head}
use Rattle.cw_gen.proofs.KnownStatements.{returns_same, block_known}
use Rattle.cw_gen.proofs.KnownLoops.{both_known, made_in_known}

-- the facts that the types guarantee for the head of a function
record HeadOf (f : Function) : Type 0 where
  apart : differ (names_of f.params) ≡ true
  returns : (not f.gives_int || block_returns f.body) ≡ true

head_of : (program : Program) (f : Function) → is_head program f ≡ true → HeadOf f
head_of program f h =
    let three = (and_parts _ (not (same_name f.name main_name) || (f.gives_int && not (list_any (λ p. (is_array_param p)) f.params))) h).0 in
    let two = and_parts _ (not f.gives_int || block_returns f.body) three in
    record { apart = (and_parts (differ (names_of f.params)) (not (list_any (λ p. is_among p.name (globals program)) f.params)) two.0).0; returns = two.1 }

module _ (program : Program) (all : List Function) (calls : (f : Name) (g : Function) → called f program.functions ≡ Some g → CallFound all f g) where
  -- a function of the source and the functions of its loops use known names
  source_known : (k : ℕ) (f : Function) → faults_of program f ≡ [] → can_lower_function program.functions f ≡ true → AllFound all (made_in k f.body)
      → FunctionKnown all (lower_function k f) × AllFunctionsKnown all (made_in k f.body)
  source_known k f typed can found =
      let returns = if f.gives_int then WithInt else Alone in
      let test = unless (is_head program f) f.line in
      let inner = faults_in_block program returns (known_of f.params) f.body in
      let head = head_of program f (kept (is_head program f) f.line (left_none test inner typed)) in
      let typed_body = right_none test inner typed in
      let can_body = (and_parts (differ (arrays_of f.params)) _ (and_parts (is_plain f.name) _ can).1).1 in
      let agree = agree_head program.functions f.params head.apart in
      let around = nothing_around program.functions in
      let locals = locals_of f.params in (
        record {
          apart = head.apart;
          body = block_known program all calls locals.arrays returns around (integers_of f.params) (arrays_of f.params)
              (known_of f.params) locals agree (record { more = []; is = sym (append-nil locals.arrays) }) k f.body typed_body can_body found;
          returns = λ e. returns_same [] k f.body ∙ sym (ap (λ b. not b || block_returns f.body) e) ∙ head.returns;
        },
        made_in_known program all calls returns around (integers_of f.params) (arrays_of f.params) (known_of f.params) locals agree k f.body typed_body can_body found,
      )

  -- the functions of a source and the functions of their loops use known names
  sources_known : (k : ℕ) (fs : List Function) → flat_map (faults_of program) fs ≡ [] → list_all (can_lower_function program.functions) fs ≡ true → AllFound all (made_of k fs) →
      AllFunctionsKnown all (lower_functions k fs) × AllFunctionsKnown all (made_of k fs)
  sources_known k [] typed can found = (tt, tt)
  sources_known k (f ∷ fs) typed can found =
      let two = and_parts (can_lower_function program.functions f) (list_all (can_lower_function program.functions) fs) can in
      let made = made_in k f.body in
      let made' = made_of (k + loop_count_in f.body) fs in
      let here = source_known k f (left_none (faults_of program f) (flat_map (faults_of program) fs) typed) two.0 (found_first all made made' found) in
      let there = sources_known (k + loop_count_in f.body) fs (right_none (faults_of program f) (flat_map (faults_of program) fs) typed) two.1 (found_second all made made' found) in
      ((here.0, there.0), both_known all made made' here.1 there.1)

-- the functions of a well-typed program that can be lowered use known names
pub lowerable_known : (program : Program) → IsWellTyped program → is_lowerable program ≡ true → AllFunctionsKnown (lowered program).functions (lowered program).functions
lowerable_known program typed can =
    let fs = program.functions in
    let typed' = right_none (repeated_names program) (flat_map (faults_of program) fs)
    (right_none (unless (is_among main_name (map (λ f. f.name) fs)) 1) (repeated_names program ++ flat_map (faults_of program) fs) typed) in
    let two = sources_known program (lowered program).functions (call_found 0 fs (made_of 0 fs)) 0 fs typed' can (loops_found fs fs can) in
    both_known (lowered program).functions (lower_functions 0 fs) (made_of 0 fs) two.0 two.1

-- the functions of a program that types and ownership accept use known names; by the law `owned_is_lowerable` it can be
-- lowered
pub functions_known : (program : Program) → IsOwnedSource program → is_lowerable program ≡ true → AllFunctionsKnown (lowered program).functions (lowered program).functions
functions_known program owned can = lowerable_known program owned.typed can

both_own : (all xs ys : List Function) → AllOwnNames all xs → AllOwnNames all ys → AllOwnNames all (xs ++ ys)
both_own all [] ys h g = g
both_own all (x ∷ xs) ys h g = (h.0, both_own all xs ys h.1 g)

-- the functions of loops have no read-only parameter
mutual
  loops_own : (all : List Function) (line k : ℕ) (s : Stmt) → AllOwnNames all (made_by line k s)
  loops_own all line k (If e b) = loops_own_in all k b
  loops_own all line k (IfElse e b c) = both_own all (made_in k b) (made_in (k + loop_count_in b) c) (loops_own_in all k b) (loops_own_in all (k + loop_count_in b) c)
  loops_own all line k (While e b) = loops_own_in all k b
  loops_own all line k (For x y z from to grain over b) =
      let g = loop_function (loop_name (k + loop_count_in b)) line x grain (captured x b) over (lower_block over k b) in
      both_own all (made_in k b) (g ∷ []) (loops_own_in all k b) (unread_own all g (loop_unread (captured x b) over), tt)
  loops_own all line k (Scope b) = loops_own_in all k b
  loops_own all line k (Cut a e l r b) = loops_own_in all k b
  loops_own all line k (Region tag b) = loops_own_in all k b
  loops_own all line k (Declare x e) = tt
  loops_own all line k (DeclareArray a e) = tt
  loops_own all line k (Assign x e) = tt
  loops_own all line k (AssignElement a i e) = tt
  loops_own all line k (Reduce how s e) = tt
  loops_own all line k (Call kind site target f es) = tt
  loops_own all line k (Start kind f es) = tt
  loops_own all line k (Begin f from to captured' over) = tt
  loops_own all line k Sync = tt
  loops_own all line k (Print e) = tt
  loops_own all line k (Return e) = tt

  loops_own_in : (all : List Function) (k : ℕ) (b : Block) → AllOwnNames all (made_in k b)
  loops_own_in all k End = tt
  loops_own_in all k (Then line s b) = both_own all (made_by line k s) (made_in (k + loop_count s) b) (loops_own all line k s) (loops_own_in all (k + loop_count s) b)

module _ (program : Program) (all : List Function) (calls : (f : Name) (g : Function) → called f program.functions ≡ Some g → CallFound all f g) where
  sources_own : (k : ℕ) (fs : List Function) → flat_map (faults_of program) fs ≡ [] → AllOwnNames all (lower_functions k fs) × AllOwnNames all (made_of k fs)
  sources_own k [] typed = (tt, tt)
  sources_own k (f ∷ fs) typed =
      let returns = if f.gives_int then WithInt else Alone in
      let test = unless (is_head program f) f.line in
      let inner = faults_in_block program returns (known_of f.params) f.body in
      let typed_here = left_none (faults_of program f) (flat_map (faults_of program) fs) typed in
      let head = head_of program f (kept (is_head program f) f.line (left_none test inner typed_here)) in
      let more = sources_own (k + loop_count_in f.body) fs (right_none (faults_of program f) (flat_map (faults_of program) fs) typed) in
      let here = block_own program all calls (marks_for f.params) returns [] (known_of f.params) (locals_of f.params)
      (head_written f.params head.apart (λ x. array_kind f.params head.apart x ∙ sym (ap (is_among x) (local_arrays f.params)))) k f.body
      (right_none test inner typed_here) in
      ((here, more.0), both_own all (made_in k f.body) (made_of (k + loop_count_in f.body) fs) (loops_own_in all k f.body) more.1)

-- in the functions of a well-typed program, written arrays are not read-only parameters
pub functions_own : (program : Program) → IsWellTyped program → AllOwnNames (lowered program).functions (lowered program).functions
functions_own program typed =
    let fs = program.functions in
    let typed' = right_none (repeated_names program) (flat_map (faults_of program) fs)
    (right_none (unless (is_among main_name (map (λ f. f.name) fs)) 1) (repeated_names program ++ flat_map (faults_of program) fs) typed) in
    let two = sources_own program (lowered program).functions (call_found 0 fs (made_of 0 fs)) 0 fs typed' in
    both_own (lowered program).functions (lower_functions 0 fs) (made_of 0 fs) two.0 two.1
