-- A lowered program has the main and the reducers of its source; the conditions on its code, combined.
use Rattle.std.proofs.Common.{◌≡◌, ℕ, ◌+◌, List, [], ◌∷◌, ◌++◌, Bool, true, false, not, ◌&&◌, ◌||◌, if◌then◌else◌, refl, sym, ap, ◌∙◌, true≢false}
use Rattle.std.specs.Prelude.{map, flat_map}
use Rattle.std.specs.List.{list_all, list_any}
use Rattle.std.proofs.lemmas.Slice.Eq.{bytes_eq-Decides}
use Rattle.cw_facts.specs.Tests.{first_true, second_true, neither_first, neither_second, not_true}
use Rattle.cw_model.specs.Syntax.{is_array_param, Name, Param, Function, Reducer, Program}
use Rattle.cw_model.specs.Names.{same_name, is_among}
use Rattle.cw_model.specs.Lines.{unless}
use Rattle.cw_model.specs.Meaning.{function_named}
use Rattle.cw_model.specs.Answers.{main_name}
use Rattle.cw_model.specs.Sites.{call_sites, are_numbered}
use Rattle.cw_model.specs.Typing.{is_head, faults_of, repeated, repeated_names, type_faults}
use Rattle.cw_model.specs.lemmas.Kept.{kept, left_none, right_none}
use Rattle.cw_tree.specs.Resolved.{reducer_names}
use Rattle.cw_code.specs.Fits as fits
use Rattle.cw_loops.specs.Lowered.{loop_count_in, lower_function, lower_functions, made_of, lowered}
use Rattle.cw_loops.specs.LoweringLaws.{IsOwnedSource}
use Rattle.cw_loops.specs.Slotted.{lowered_lists}
use Rattle.cw_loops.specs.lemmas.Heads.{heads_kept}
use Rattle.cw_gen.proofs.Fine.{is_function, ProgramFine}
use Rattle.cw_gen.proofs.Kept.{AllFunctionsKnown, AllFree}
use Rattle.cw_gen.proofs.NamedLowered.{all_listed}
use Rattle.cw_gen.proofs.Rooms.{all_have_rooms}
use Rattle.cw_gen.proofs.Rules.{function_there}
use Rattle.cw_gen.proofs.Texts.{code_of, tables_in}
use Rattle.cw_gen.proofs.KnownLowered.{functions_own}
use Rattle.cw_gen.proofs.Together.{functions_fine}
use Rattle.cw_gen.proofs.TextAgreement.{AllPass}

-- main returns an integer and takes integers
record MainFine (fs : List Function) : Type 0 where
  pub gives : (function_named main_name fs).gives_int ≡ true
  pub ints : list_all (λ p. not (is_array_param p)) (function_named main_name fs).params ≡ true

-- no parameter is an array
all_ints : (ps : List Param) → list_any (λ p. (is_array_param p)) ps ≡ false → list_all (λ p. not (is_array_param p)) ps ≡ true
all_ints [] h = refl
all_ints (p ∷ ps) h = test (all_ints ps (neither_second (is_array_param p) (list_any (λ q. (is_array_param q)) ps) h)) (is_array_param p) (neither_first (is_array_param p) (list_any (λ q. (is_array_param q)) ps) h)
  where
    test : list_all (λ q. not (is_array_param q)) ps ≡ true → (b : Bool) → b ≡ false → (not b && list_all (λ q. not (is_array_param q)) ps) ≡ true
    test rest true e = cc
    test rest false e = rest

-- main in a well-typed program
main_fine : (program : Program) (fs : List Function) → flat_map (faults_of program) fs ≡ [] → is_function main_name fs ≡ true → MainFine fs
main_fine program [] typed h = cc
main_fine program (f ∷ fs) typed h = test (main_fine program fs (right_none (faults_of program f) _ typed)) (same_name main_name f.name) refl h
  where
    head : is_head program f ≡ true
    head = kept (is_head program f) f.line (left_none (unless (is_head program f) f.line) _ (left_none (faults_of program f) _ typed))

    both : same_name f.name main_name ≡ true → (f.gives_int && not (list_any (λ p. (is_array_param p)) f.params)) ≡ true
    both e =
        let last = second_true _ (not (same_name f.name main_name) || (f.gives_int && not (list_any (λ p. (is_array_param p)) f.params))) head in
        sym (ap (λ b. not b || (f.gives_int && not (list_any (λ p. (is_array_param p)) f.params))) e) ∙ last

    test : (is_function main_name fs ≡ true → MainFine fs) → (b : Bool) → same_name main_name f.name ≡ b → (if b then true else is_function main_name fs) ≡ true → MainFine (f ∷ fs)
    test more true e h' =
        let two = both ((bytes_eq-Decides f.name main_name).1 (sym ((bytes_eq-Decides main_name f.name).0 e))) in
        record {
          gives = ap (λ b. (if b then f else function_named main_name fs).gives_int) e ∙ first_true f.gives_int (not (list_any (λ p. (is_array_param p)) f.params)) two;
          ints = ap (λ b. list_all (λ p. not (is_array_param p)) (if b then f else function_named main_name fs).params) e
              ∙ all_ints f.params (not_true (list_any (λ p. (is_array_param p)) f.params) (second_true f.gives_int (not (list_any (λ p. (is_array_param p)) f.params)) two));
        }
    test more false e h' =
        let rest = more h' in
        record {
          gives = ap (λ b. (if b then f else function_named main_name fs).gives_int) e ∙ rest.gives;
          ints = ap (λ b. list_all (λ p. not (is_array_param p)) (if b then f else function_named main_name fs).params) e ∙ rest.ints;
        }

-- a function of the source is found in the lowered program, with the same head
pub record SameHead (name : Name) (fs gs : List Function) : Type 0 where
  pub there : is_function name gs ≡ true
  pub gives : (function_named name gs).gives_int ≡ (function_named name fs).gives_int
  pub params : (function_named name gs).params ≡ (function_named name fs).params

-- lowering changes no head
pub same_head : (name : Name) (k : ℕ) (fs more : List Function) → is_function name fs ≡ true → SameHead name fs (lower_functions k fs ++ more)
same_head name k [] more h = cc
same_head name k (f ∷ fs) more h = test (same_head name (k + loop_count_in f.body) fs more) (same_name name f.name) refl h
  where
    rest : List Function
    rest = lower_functions (k + loop_count_in f.body) fs ++ more

    here : Bool → Function
    here b = if b then lower_function k f else function_named name rest

    source : Bool → Function
    source b = if b then f else function_named name fs

    test : (is_function name fs ≡ true → SameHead name fs rest) → (b : Bool) → same_name name f.name ≡ b
        → (if b then true else is_function name fs) ≡ true → SameHead name (f ∷ fs) (lower_functions k (f ∷ fs) ++ more)
    test next true e h' = record {
      there = ap (λ b. if b then true else is_function name rest) e;
      gives = ap (λ b. (here b).gives_int) e ∙ sym (ap (λ b. (source b).gives_int) e);
      params = ap (λ b. (here b).params) e ∙ sym (ap (λ b. (source b).params) e);
    }
    test next false e h' =
        let same = next h' in
        record {
          there = ap (λ b. if b then true else is_function name rest) e ∙ same.there;
          gives = ap (λ b. (here b).gives_int) e ∙ same.gives ∙ sym (ap (λ b. (source b).gives_int) e);
          params = ap (λ b. (here b).params) e ∙ same.params ∙ sym (ap (λ b. (source b).params) e);
        }

-- if no rule rejects the reducers, their names are distinct
no_earlier : (ds : List (Name × ℕ)) (earlier : List Name) → repeated ds earlier ≡ [] → (x : Name) → is_among x earlier ≡ true → fits.is_among x (map (λ d. d.0) ds) ≡ false
no_earlier [] earlier h x a = refl
no_earlier (d ∷ ds) earlier h x a = test (no_earlier ds (d.0 ∷ earlier) (right_none (unless (not (is_among d.0 earlier)) d.1) (repeated ds (d.0 ∷ earlier)) h) x (further d.0)) (same_name x d.0) refl
  where
    new : is_among d.0 earlier ≡ false
    new = not_true (is_among d.0 earlier) (kept (not (is_among d.0 earlier)) d.1 (left_none (unless (not (is_among d.0 earlier)) d.1) (repeated ds (d.0 ∷ earlier)) h))

    further : (y : Name) → is_among x (y ∷ earlier) ≡ true
    further y = inner (same_name x y)
      where
        inner : (b : Bool) → (if b then true else is_among x earlier) ≡ true
        inner true = refl
        inner false = a

    test : fits.is_among x (map (λ e. e.0) ds) ≡ false → (b : Bool) → same_name x d.0 ≡ b → (same_name x d.0 || fits.is_among x (map (λ e. e.0) ds)) ≡ false
    test rest true e = absurd (true≢false (sym a ∙ ap (λ z. is_among z earlier) ((bytes_eq-Decides x d.0).0 e) ∙ new))
    test rest false e = ap (λ b. b || fits.is_among x (map (λ z. z.0) ds)) e ∙ rest

reducers_apart : (ds : List (Name × ℕ)) (earlier : List Name) → repeated ds earlier ≡ [] → fits.are_apart (map (λ d. d.0) ds) ≡ true
reducers_apart [] earlier h = refl
reducers_apart (d ∷ ds) earlier h =
    let more = right_none (unless (not (is_among d.0 earlier)) d.1) (repeated ds (d.0 ∷ earlier)) h in
    ap (λ b. not b && fits.are_apart (map (λ e. e.0) ds)) (no_earlier ds (d.0 ∷ earlier) more d.0
    (ap (λ b. if b then true else is_among d.0 earlier) ((bytes_eq-Decides d.0 d.0).1 refl))) ∙ reducers_apart ds (d.0 ∷ earlier) more

reducer_names_are : (rs : List Reducer) → map (λ r. r.name) rs ≡ map (λ (d : Name × ℕ). d.0) (map (λ (r : Reducer). (r.name, r.line)) rs)
reducer_names_are [] = refl
reducer_names_are (r ∷ rs) = ap (λ l. r.name ∷ l) (reducer_names_are rs)

-- a well-typed program has a main
pub source_main : (program : Program) → type_faults program ≡ [] → is_function main_name program.functions ≡ true
source_main program typed =
    let main = is_among main_name (map (λ f. f.name) program.functions) in
    function_there main_name program.functions (kept main 1 (left_none (unless main 1) _ typed))

-- the lowered program has the main of its source, with the same head
pub lowered_main : (program : Program) → type_faults program ≡ [] → SameHead main_name program.functions (lowered program).functions
lowered_main program typed = same_head main_name 0 program.functions (made_of 0 program.functions) (source_main program typed)

-- the names of reducers are distinct
apart_reducers : (program : Program) → type_faults program ≡ [] → fits.are_apart (reducer_names program.reducers) ≡ true
apart_reducers program typed =
    let behind_main = right_none (unless (is_among main_name (map (λ f. f.name) program.functions)) 1) _ typed in
    let functions = map (λ (f : Function). (f.name, f.line)) program.functions in
    let reducers = map (λ (r : Reducer). (r.name, r.line)) program.reducers in
    let repeats = left_none (repeated reducers []) _ (right_none (repeated functions []) _ (left_none (repeated_names program) _ behind_main)) in
    ap fits.are_apart (reducer_names_are program.reducers) ∙ reducers_apart reducers [] repeats

-- the code of a lowered program satisfies its conditions
pub program_fine : (program : Program) → IsOwnedSource program → are_numbered 0 (call_sites program) ≡ true →
    AllFunctionsKnown (lowered program).functions (lowered program).functions → AllFree (lowered program).functions (lowered program).functions →
    AllPass (lowered_lists program) (tables_in (code_of program)) (lowered program).functions → ProgramFine (lowered program) (lowered_lists program) (tables_in (code_of program))
program_fine program source numbered known free passes =
    let lists = lowered_lists program in
    let tables = tables_in (code_of program) in
    let fs = (lowered program).functions in
    let head = lowered_main program source.typed in
    let main = main_fine program program.functions (heads_kept program source.typed) (source_main program source.typed) in
    record {
      functions = functions_fine fs lists refl tables fs known free (functions_own program source.typed) passes (all_have_rooms lists fs) (all_listed program source numbered);
      names = refl;
      main = head.there;
      gives = head.gives ∙ main.gives;
      ints = ap (list_all (λ p. not (is_array_param p))) head.params ∙ main.ints;
      reducers = apart_reducers program source.typed;
    }
