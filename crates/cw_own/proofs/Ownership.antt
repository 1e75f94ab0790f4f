-- The lines by slots are the lines of the language definition.
use Rattle.std.proofs.Common.{◌≡◌, Bool, true, false, not, ◌&&◌, ◌||◌, if◌then◌else◌, List, [], ◌∷◌, map, flat_map, None, inr, refl, sym, ap, ◌∙◌}
use Rattle.std.specs.List.{list_all, list_any}
use Rattle.std.proofs.Math.Bool.{and-false}
use Rattle.cw_facts.specs.Tests.{first_true, second_true}
use Rattle.cw_model.specs.Lines.{unless, lowest}
use Rattle.cw_model.specs.Names.{is_among, differ}
use Rattle.cw_model.specs.Syntax.{Program, Param}
use Rattle.cw_model.specs.Syntax as model
use Rattle.cw_model.specs.Answers.{main_name}
use Rattle.cw_model.specs.Typing.{WithInt, Alone, globals, block_returns, known_of, is_head, faults_of, faults_in_block, repeated_names, type_faults}
use Rattle.cw_model.specs.Ownership.{NoLoop, Joins, owner_faults_of, ownership_faults}
use Rattle.cw_tree.specs.Resolved.{Function, Resolved, Lists, locals_of, lists_of, resolved_block, plain, plain_function}
use Rattle.cw_tree.specs.Slots.{is_right_function, is_resolved}
use Rattle.cw_own.specs.Sets.{no_slot, no_local}
use Rattle.cw_own.specs.Taken.{no_restrictions, nothing, with_params}
use Rattle.cw_own.specs.Rules.{block_lines, function_lines}
use Rattle.cw_own.proofs.Showing.{shows_none}
use Rattle.cw_own.proofs.After.{all_none}
use Rattle.cw_own.proofs.Beginning.{head_row, head_known, head_names}
use Rattle.cw_own.proofs.Lines.{Same, same_append, block_whole}
use Rattle.cw_own.proofs.Lines as lines
use Rattle.cw_own.proofs.Holding as holding
use Rattle.cw_own.proofs.Showing as showing
use Rattle.cw_own.proofs.Following as following
use Rattle.cw_model.specs.Ownership.{Holder, SpawnIn, ReaderIn, CutOf}
use Rattle.cw_model.specs.lemmas.Kept.{left_none, right_none, kept}
use Rattle.cw_tree.specs.lemmas.Looked.{body_is, all_right}
use Rattle.cw_own.proofs.Keeping.{same_rows}

-- the lines of a function
function_by_slot : (program : Program) (lists : Lists) → lists.callees ≡ program.functions → (f : Function) → is_right_function lists f ≡ true
    → faults_of program (plain_function f) ≡ [] → Same (owner_faults_of program.functions (plain_function f)) (function_lines f)
function_by_slot program lists same f right fine =
    let g = plain_function f in
    let head = kept (is_head program g) f.line (left_none (unless (is_head program g) f.line) _ fine) in
    let body = right_none (unless (is_head program g) f.line) (faults_in_block program (if f.gives_int then WithInt else Alone) (known_of f.params) g.body) fine in
    let apart = first_true (differ (map (λ (p : Param). p.name) f.params)) (not (list_any (λ (p : Param). is_among p.name (globals program)) f.params))
    (first_true (differ (map (λ (p : Param). p.name) f.params) && not (list_any (λ (p : Param). is_among p.name (globals program)) f.params)) (not f.gives_int || block_returns g.body)
    (first_true (differ (map (λ (p : Param). p.name) f.params) && not (list_any (λ (p : Param). is_among p.name (globals program)) f.params) && (not f.gives_int || block_returns g.body)) _ head)) in
    record {
      at = λ o. (block_whole program lists (map (λ (p : Param). p.name) f.params) (locals_of f.params) 1 no_restrictions NoLoop None Joins g.body [] no_restrictions no_slot
          (lines.block_lines program lists same (if f.gives_int then WithInt else Alone) (known_of f.params) (map (λ (p : Param). p.name) f.params)
          (locals_of f.params) 1 (λ p. no_local) no_restrictions NoLoop None Joins g.body [] no_restrictions no_slot []
          (head_known f.params apart) (head_names f.params apart) (record
          { steady = record { spawns = λ d le p. refl; cuts = λ p. refl }; taken = refl; held = refl }) (inr (λ p. refl, λ k. refl)) tt body
          (λ p. nothing_held p))).at o
          ∙ ap (λ k. lowest o (block_lines None k nothing Joins (resolved_block lists (locals_of f.params) g.body))) (sym (head_row f.params))
          ∙ ap (λ b. lowest o (block_lines None (with_params 0 0 f.params no_local) nothing Joins b)) (sym (body_is lists f right));
    }
  where
    no_array : (q d c : Bool) → false ≡ (((q && false) || (d && false)) || (c && false))
    no_array q d c = sym (all_none q d c)

    nothing_held : (p : Holder → Bool) → showing.Shows (locals_of f.params) (λ x. holding.held p [] x) (following.all_of p 1 (λ p. no_local) no_restrictions no_slot)
    nothing_held p =
        showing.shows_row (locals_of f.params) (λ x. false) no_local (following.all_of p 1 (λ p. no_local) no_restrictions no_slot)
        (same_rows no_local (following.all_of p 1 (λ p. no_local) no_restrictions no_slot) (λ k. sym (and-false (p (SpawnIn 1)))) (λ k. no_array (p (SpawnIn 1)) (p (ReaderIn 1)) (p CutOf)))
        (shows_none (locals_of f.params))

functions_by_slot : (program : Program) (lists : Lists) → lists.callees ≡ program.functions → (fs : List Function)
    → list_all (is_right_function lists) fs ≡ true → flat_map (faults_of program) (map plain_function fs) ≡ [] →
    Same (flat_map (owner_faults_of program.functions) (map plain_function fs)) (flat_map function_lines fs)
functions_by_slot program lists same [] right fine = record { at = λ o. refl }
functions_by_slot program lists same (f ∷ fs) right fine =
    same_append (owner_faults_of program.functions (plain_function f)) (function_lines f) (flat_map (owner_faults_of program.functions) (map plain_function fs)) (flat_map function_lines fs)
    (function_by_slot program lists same f (first_true (is_right_function lists f) (list_all (is_right_function lists) fs) right)
    (left_none (faults_of program (plain_function f)) (flat_map (faults_of program) (map plain_function fs)) fine))
    (functions_by_slot program lists same fs (second_true (is_right_function lists f) (list_all (is_right_function lists) fs) right)
    (right_none (faults_of program (plain_function f)) (flat_map (faults_of program) (map plain_function fs)) fine))

-- the least line by slots is the least line of the language definition
pub ownership_by_slot : (tree : Resolved) → is_resolved tree ≡ true → type_faults (plain tree) ≡ [] →
    lowest None (ownership_faults (plain tree)) ≡ lowest None (flat_map function_lines tree.functions)
ownership_by_slot tree right none =
    let program = plain tree in
    let faults = right_none (repeated_names program) (flat_map (faults_of program) program.functions)
    (right_none (unless (is_among main_name (map (λ (f : model.Function). f.name) program.functions)) 1) _ none) in
    (functions_by_slot program (lists_of program) refl tree.functions (all_right tree right) faults).at None
