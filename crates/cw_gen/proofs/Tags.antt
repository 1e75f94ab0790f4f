-- The distinct tags of a program, in the order of their first occurrences; reports have the same tags. The line of
-- main's head.
use Rattle.std.proofs.Common.{◌≡◌, ℕ, suc, List, [], ◌∷◌, ◌++◌, Bool, true, false, not, ◌&&◌, ◌||◌, if◌then◌else◌, refl, sym, ap, ◌∙◌, true≢false}
use Rattle.std.proofs.lemmas.Slice.Eq.{bytes_eq-Decides}
use Rattle.std.proofs.lemmas.List.{map-append}
use Rattle.std.specs.Prelude.{map, flat_map, slice_get}
use Rattle.cw_model.specs.Syntax.{Name, Stmt, Declare, DeclareArray, Assign, AssignElement, Reduce, Call, Start, Begin, Sync, If, IfElse}
use Rattle.cw_model.specs.Syntax.{While, For, Scope, Cut, Region, Print, Return, Block, End, Then, Function, Program}
use Rattle.cw_model.specs.Names.{same_name, is_among, new_names}
use Rattle.cw_model.specs.Meaning.{function_named}
use Rattle.cw_model.specs.Report.{tags_in, tags_in_block}
use Rattle.cw_model.specs.Report as report
use Rattle.cw_model.specs.Sizes.{first_places, regions_in, regions_in_block}
use Rattle.cw_tree.specs.Resolved.{Lists, slot_of, function_names, resolved_function, tags_of}
use Rattle.cw_code.specs.Fits as fits
use Rattle.cw_gen.specs.Emit.{head_line}
use Rattle.cw_gen.proofs.Fine.{is_function}

-- a known name is not a new name
known_is_none : (xs known : List Name) (x : Name) → is_among x known ≡ true → fits.is_among x (new_names xs known) ≡ false
known_is_none [] known x h = refl
known_is_none (y ∷ xs) known x h = test (known_is_none xs known x h) (λ k. known_is_none xs (y ∷ known) x k) (is_among y known) refl
  where
    further : is_among x (y ∷ known) ≡ true
    further = inner (same_name x y)
      where
        inner : (b : Bool) → (if b then true else is_among x known) ≡ true
        inner true = refl
        inner false = h

    other : (is_among x (y ∷ known) ≡ true → fits.is_among x (new_names xs (y ∷ known)) ≡ false) → is_among y known ≡ false → (b : Bool)
        → same_name x y ≡ b → (same_name x y || fits.is_among x (new_names xs (y ∷ known))) ≡ false
    other more new true e = absurd (true≢false (sym h ∙ ap (λ z. is_among z known) ((bytes_eq-Decides x y).0 e) ∙ new))
    other more new false e = ap (λ b. b || fits.is_among x (new_names xs (y ∷ known))) e ∙ more further

    test : fits.is_among x (new_names xs known) ≡ false → (is_among x (y ∷ known) ≡ true → fits.is_among x (new_names xs (y ∷ known)) ≡ false)
        → (b : Bool) → is_among y known ≡ b → fits.is_among x (if b then new_names xs known else y ∷ new_names xs (y ∷ known)) ≡ false
    test rest more true e = rest
    test rest more false e = other more e (same_name x y) refl

-- new names are distinct
new_are_apart : (xs known : List Name) → fits.are_apart (new_names xs known) ≡ true
new_are_apart [] known = refl
new_are_apart (x ∷ xs) known = test (new_are_apart xs known) (new_are_apart xs (x ∷ known)) (is_among x known)
  where
    test : fits.are_apart (new_names xs known) ≡ true → fits.are_apart (new_names xs (x ∷ known)) ≡ true → (b : Bool)
        → fits.are_apart (if b then new_names xs known else x ∷ new_names xs (x ∷ known)) ≡ true
    test rest more true = rest
    test rest more false =
        ap (λ b. not b && fits.are_apart (new_names xs (x ∷ known))) (known_is_none xs (x ∷ known) x (ap (λ b. if b then true else is_among x known) ((bytes_eq-Decides x x).1 refl)))
        ∙ more

-- the names of the first occurrences are the new names
names_first : (ds : List (Name × ℕ)) (known : List Name) → map (λ d. d.0) (first_places ds known) ≡ new_names (map (λ d. d.0) ds) known
names_first [] known = refl
names_first (d ∷ ds) known = test (names_first ds known) (names_first ds (d.0 ∷ known)) (is_among d.0 known)
  where
    test : map (λ (e : Name × ℕ). e.0) (first_places ds known) ≡ new_names (map (λ e. e.0) ds) known
        → map (λ (e : Name × ℕ). e.0) (first_places ds (d.0 ∷ known)) ≡ new_names (map (λ e. e.0) ds) (d.0 ∷ known) → (b : Bool) →
        map (λ (e : Name × ℕ). e.0) (if b then first_places ds known else d ∷ first_places ds (d.0 ∷ known))
        ≡ (if b then new_names (map (λ e. e.0) ds) known else d.0 ∷ new_names (map (λ e. e.0) ds) (d.0 ∷ known))
    test rest more true = rest
    test rest more false = ap (λ l. d.0 ∷ l) more

both : (a b : List (Name × ℕ)) (c d : List Name) → map (λ e. e.0) a ≡ c → map (λ e. e.0) b ≡ d → map (λ e. e.0) (a ++ b) ≡ c ++ d
both a b c d p q = map-append (λ e. e.0) a b ∙ ap (λ l. l ++ map (λ e. e.0) b) p ∙ ap (λ l. c ++ l) q

mutual
  tags_are : (line : ℕ) (s : Stmt) → map (λ d. d.0) (regions_in line s) ≡ tags_in s
  tags_are line (Declare x e) = refl
  tags_are line (DeclareArray a e) = refl
  tags_are line (Assign x e) = refl
  tags_are line (AssignElement a i e) = refl
  tags_are line (Reduce how s e) = refl
  tags_are line (Call kind site target f es) = refl
  tags_are line (Start kind f es) = refl
  tags_are line (Begin f from to captured over) = refl
  tags_are line Sync = refl
  tags_are line (If e b) = tags_are_in b
  tags_are line (IfElse e b c) = both (regions_in_block b) (regions_in_block c) _ _ (tags_are_in b) (tags_are_in c)
  tags_are line (While e b) = tags_are_in b
  tags_are line (For x y z from to grain over b) = tags_are_in b
  tags_are line (Scope b) = tags_are_in b
  tags_are line (Cut a e l r b) = tags_are_in b
  tags_are line (Region tag b) = ap (λ l. tag ∷ l) (tags_are_in b)
  tags_are line (Print e) = refl
  tags_are line (Return e) = refl

  tags_are_in : (b : Block) → map (λ d. d.0) (regions_in_block b) ≡ tags_in_block b
  tags_are_in End = refl
  tags_are_in (Then line s b) = both (regions_in line s) (regions_in_block b) _ _ (tags_are line s) (tags_are_in b)

tags_of_all : (fs : List Function) → map (λ d. d.0) (flat_map (λ f. regions_in_block f.body) fs) ≡ flat_map (λ f. tags_in_block f.body) fs
tags_of_all [] = refl
tags_of_all (f ∷ fs) = both (regions_in_block f.body) (flat_map (λ f. regions_in_block f.body) fs) _ _ (tags_are_in f.body) (tags_of_all fs)

-- the tags of a resolved program are the tags of reports
pub tags_are_told : (program : Program) → tags_of program ≡ report.tags_of program
tags_are_told program =
    names_first (flat_map (λ f. regions_in_block f.body) program.functions) []
    ∙ ap (λ l. new_names l []) (tags_of_all program.functions)

-- tags are distinct
pub tags_are_apart : (program : Program) → fits.are_apart (tags_of program) ≡ true
tags_are_apart program =
    ap fits.are_apart (names_first (flat_map (λ f. regions_in_block f.body) program.functions) [])
    ∙ new_are_apart (map (λ d. d.0) (flat_map (λ f. regions_in_block f.body) program.functions)) []

-- the line of the head of an existing function
pub head_is : (lists : Lists) (fs : List Function) (name : Name) → is_function name fs ≡ true
    → head_line (slice_get (map (resolved_function lists) fs) (slot_of name (function_names fs))) ≡ (function_named name fs).line
head_is lists [] name h = cc
head_is lists (f ∷ fs) name h = test (λ h'. head_is lists fs name h') (same_name name f.name) h
  where
    test : (is_function name fs ≡ true → head_line (slice_get (map (resolved_function lists) fs) (slot_of name (function_names fs)))
        ≡ (function_named name fs).line) → (b : Bool) → (if b then true else is_function name fs) ≡ true →
        head_line (slice_get (map (resolved_function lists) (f ∷ fs)) (if b then 0 else suc (slot_of name (function_names fs)))) ≡ (if b then f else function_named name fs).line
    test more true h' = refl
    test more false h' = more h'
