-- The contract of the generator, derived from the generated code and the theorems about it.
use Rattle.std.proofs.Common.{◌≡◌, ◌≤◌, ◌<◌, Bool, true, false, length, [], ◌∷◌, ◌++◌, List, Some, refl, sym, ap, ◌∙◌, subst, arith}
use Rattle.std.specs.Prelude.{nat_le, map}
use Rattle.std.proofs.lemmas.List.{length-map}
use Rattle.cw_facts.specs.Tests.{at_most, not_at_most}
use Rattle.cw_model.specs.declared.limits.TheConstants.{MOST_INSTRUCTIONS, MOST_CALL_STATEMENTS}
use Rattle.cw_model.specs.Lines.{unless, IsLeastLine}
use Rattle.cw_model.specs.Sites.{call_sites, are_numbered}
use Rattle.cw_model.specs.Sizes.{static_size, call_count, limit_faults, loop_faults, program_faults}
use Rattle.cw_model.specs.Syntax.{Program}
use Rattle.cw_model.specs.Typing.{type_faults}
use Rattle.cw_model.specs.Ownership.{ownership_faults}
use Rattle.cw_model.specs.Answers.{main_name}
use Rattle.cw_model.specs.WhileLaw.{WhilesAreLeast}
use Rattle.cw_model.specs.lemmas.Lowest.{least_line}
use Rattle.cw_tree.specs.declared.resolved.Function.{Function}
use Rattle.cw_tree.specs.declared.resolved.Tree as source
use Rattle.cw_tree.specs.Resolved.{lists_of, resolved}
use Rattle.cw_tree.specs.Slots.{is_resolved}
use Rattle.cw_tree.specs.ResolvedView.{resolved_of, program_of, function_of}
use Rattle.cw_tree.specs.lemmas.Looked.{slots_are_right}
use Rattle.cw_code.specs.declared.code.Code as declared
use Rattle.cw_code.specs.declared.code.Site.{Site}
use Rattle.cw_code.specs.Code.{Code, code_view, site_view}
use Rattle.cw_loops.specs.declared.tree.Tree.{Tree}
use Rattle.cw_loops.specs.Lowered.{lowered}
use Rattle.cw_loops.specs.LoweringLaws.{IsOwnedSource, OwnedIsLowerable, LoweringKeepsAnswers, LoweringKeepsSize}
use Rattle.cw_loops.specs.Seen.{functions_of, IsLowered}
use Rattle.cw_loops.specs.SlotLaws.{IsWithinLimits}
use Rattle.cw_loops.specs.Slotted.{lowered_lists, slotted_functions}
use Rattle.cw_loops.specs.SourceLike.{is_source_like}
use Rattle.cw_gen.specs.Emit.{most_jump, emitted_sites_of, emitted}
use Rattle.cw_gen.specs.Generates.{Generates}
use Rattle.cw_gen.proofs.FewFunctions.{few_functions}
use Rattle.cw_gen.proofs.Counts.{code_count}
use Rattle.cw_gen.proofs.Fine.{ProgramFine}
use Rattle.cw_gen.proofs.FitsWhole.{generated_fits}
use Rattle.cw_gen.proofs.FreeTurns.{turns_close}
use Rattle.cw_gen.proofs.FreeWhole.{functions_free}
use Rattle.cw_gen.proofs.KnownLowered.{functions_known}
use Rattle.cw_gen.proofs.ListsStand.{all_pass}
use Rattle.cw_gen.proofs.Program.{table_of, same_run, same_params}
use Rattle.cw_gen.proofs.MainKept.{source_main, lowered_main, program_fine}
use Rattle.cw_gen.proofs.SourceSites.{same_sites, as_many_sites}
use Rattle.cw_gen.proofs.Tags.{tags_are_told, tags_are_apart, head_is}
use Rattle.cw_gen.proofs.Texts.{code_of, tables_in}

-- the conditions on the code of a lowered program
abbrev pub Relied : Program → Type 0
Relied program = ProgramFine (lowered program) (lowered_lists program) (tables_in (code_of program))

-- all jumps of the code of a program fit in instructions
abbrev pub IsShort : Program → Type 0
IsShort program = length (code_of program).instrs ≤ most_jump

-- if both limits are kept, no line is reported
none_passed : (a b : Bool) → a ≡ true → b ≡ true → unless a 1 ++ unless b 1 ≡ []
none_passed true true h k = refl
none_passed true false h k = cc
none_passed false b h k = cc

first_passed : (a b : Bool) → a ≡ false → IsLeastLine (unless a 1 ++ unless b 1) 1
first_passed true b h = cc
first_passed false true h = least_line (1 ∷ []) 1 refl
first_passed false false h = least_line (1 ∷ 1 ∷ []) 1 refl

second_passed : (a b : Bool) → b ≡ false → IsLeastLine (unless a 1 ++ unless b 1) 1
second_passed a true h = cc
second_passed true false h = least_line (1 ∷ []) 1 refl
second_passed false false h = least_line (1 ∷ 1 ∷ []) 1 refl

-- a correctly resolved tree has a call site for each call statement of its program
pub as_many_as_told : (tree : source.Tree) → is_resolved (resolved_of tree) ≡ true → (sites : List Site)
    → map site_view sites ≡ emitted_sites_of (resolved_of tree).functions → length sites ≡ call_count (program_of tree)
as_many_as_told tree slots sites is =
    let same : resolved_of tree ≡ resolved (program_of tree) = slots_are_right (resolved_of tree) slots in
    sym (length-map sites site_view) ∙ ap length is ∙ ap (λ t. length (emitted_sites_of t.functions)) same ∙ as_many_sites (program_of tree)

-- a source that is lowered, its code, and the laws
module _ (least : WhilesAreLeast) (lowerable : OwnedIsLowerable) (answers : LoweringKeepsAnswers) (sizes : LoweringKeepsSize) (tree : source.Tree)
    (bodies : Tree) (slots : is_resolved (resolved_of tree) ≡ true) (typed : type_faults (program_of tree) ≡ [])
    (owned : ownership_faults (program_of tree) ≡ []) (limits : limit_faults (program_of tree) ≡ []) (few : loop_faults (program_of tree) ≡ [])
    (lowers : IsLowered tree bodies) (source_like : is_source_like (program_of tree) ≡ true) (numbered : are_numbered 0 (call_sites (program_of tree)) ≡ true) where
  abbrev program : Program
  program = program_of tree

  -- each name of the tree is looked up correctly
  same_tree : resolved_of tree ≡ resolved program
  same_tree = slots_are_right (resolved_of tree) slots

  owned_source : IsOwnedSource program
  owned_source = record { typed = typed; owned = owned; source_like = source_like }

  -- the number of sites is the number of call statements
  site_count : (sites : List Site) → map site_view sites ≡ emitted_sites_of (resolved_of tree).functions → length sites ≡ call_count program
  site_count = as_many_as_told tree slots

  -- the program has more call statements than the limit
  pub too_many_sites : (sites : List Site) → map site_view sites ≡ emitted_sites_of (resolved_of tree).functions → MOST_CALL_STATEMENTS < length sites → IsLeastLine (program_faults program) 1
  too_many_sites sites is h =
      let count = site_count sites is in
      second_passed (nat_le (static_size program) MOST_INSTRUCTIONS) (nat_le (call_count program) MOST_CALL_STATEMENTS)
      (not_at_most (call_count program) MOST_CALL_STATEMENTS (omega (arith, count, h)))

  module _ (sites : List Site) (sites_are : map site_view sites ≡ emitted_sites_of (resolved_of tree).functions)
      (few_sites : length sites ≤ MOST_CALL_STATEMENTS) (made : declared.Code) (is : code_view made ≡ emitted (resolved_of tree) (functions_of tree bodies)) where
    few_calls : length (call_sites program) ≤ MOST_CALL_STATEMENTS
    few_calls = omega (arith, site_count sites sites_are, few_sites)

    keeps : IsWithinLimits program
    keeps = record { limits = limits; loops = few }

    -- the conditions on the code
    fine : Relied program
    fine =
        program_fine program owned_source numbered (functions_known program owned_source (lowerable program owned_source)) (functions_free program least owned_source (lowerable program owned_source))
        (all_pass program owned_source numbered few_calls (few_functions program keeps) (as_many_sites program))

    -- the code is the code of the program with each name looked up
    code_is : code_view made ≡ code_of program
    code_is = is ∙ ap (emitted (resolved_of tree)) (lowers source_like) ∙ ap (λ t. emitted t (slotted_functions program)) same_tree

    -- the number of instructions is the static size of the source
    size : length made.instrs.items ≡ static_size program
    size = ap (λ (c : Code). length c.instrs) code_is ∙ code_count program fine ∙ sizes program owned_source

    -- the number of instructions exceeds the limit
    pub too_long : MOST_INSTRUCTIONS < length made.instrs.items → IsLeastLine (program_faults program) 1
    too_long h = first_passed (nat_le (static_size program) MOST_INSTRUCTIONS) (nat_le (call_count program) MOST_CALL_STATEMENTS)
        (not_at_most (static_size program) MOST_INSTRUCTIONS (omega (arith, size, h)))

    -- the code satisfies the contract of the generator
    pub generated : length made.instrs.items ≤ MOST_INSTRUCTIONS → Generates program (code_view made)
    generated h =
        let closes = turns_close program least in
        let within_limit : length (code_of program).instrs ≤ MOST_INSTRUCTIONS = omega (arith, code_count program fine, sizes program owned_source, size, h) in
        let short : IsShort program = omega (arith, within_limit) in
        let main = lowered_main program typed in
        let params = ap length main.params in
        subst (λ c. Generates program c) (sym code_is) (record {
          serial = λ args fit enough n. same_run program short closes fine args (enough ∙ sym params) n ∙ ap (λ a. Some a) (answers program owned_source args n fit enough);
          fits = generated_fits program (source_main program typed) keeps within_limit closes (table_of program fine) fine (tags_are_apart program);
          params = same_params program short fine ∙ params;
          sites = same_sites program;
          main_line = head_is (lists_of program) program.functions main_name (source_main program typed);
          reducers = refl;
          tags = tags_are_told program;
          small = none_passed (nat_le (static_size program) MOST_INSTRUCTIONS) (nat_le (call_count program) MOST_CALL_STATEMENTS)
              (at_most (static_size program) MOST_INSTRUCTIONS (omega (arith, size, h))) (at_most (call_count program) MOST_CALL_STATEMENTS few_calls);
        })

-- the sites of the same functions
pub emitted_same : {fs gs : List Function} → fs ≡ gs → emitted_sites_of (map function_of fs) ≡ emitted_sites_of (map function_of gs)
emitted_same e = ap (λ l. emitted_sites_of (map function_of l)) e
