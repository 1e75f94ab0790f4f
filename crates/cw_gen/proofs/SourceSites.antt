-- The call sites of code are the call statements of its source, and each is at its number.
use Rattle.std.proofs.Common.{◌≡◌, ℕ, suc, ◌+◌, ◌-◌, ◌<◌, List, [], ◌∷◌, ◌++◌, length, true, Some, refl, sym, ap, ◌∙◌, subst, arith, append_assoc, length-append}
use Rattle.std.specs.Prelude.{slice_get, map, flat_map, nat_eq}
use Rattle.std.proofs.Math.Seq.{get_or-append_seam}
use Rattle.std.proofs.lemmas.List.{length-map, map-append}
use Rattle.std.proofs.lemmas.Option.{slice_get-get_or}
use Rattle.cw_facts.specs.Tests.{first_true, second_true, eq_of}
use Rattle.cw_model.specs.Syntax.{Stmt, Declare, DeclareArray, Assign, AssignElement, Reduce, Call, Start, Begin, Sync, If, IfElse}
use Rattle.cw_model.specs.Syntax.{While, For, Scope, Cut, Region, Print, Return, Block, End, Then, Function, Program}
use Rattle.cw_model.specs.Sites.{sites_in, sites_in_block, call_sites, are_numbered}
use Rattle.cw_tree.specs.Resolved.{Lists, Locals, with_int, with_array, locals_after, locals_of, lists_of, resolved_stmt, resolved_block, resolved_function, resolved}
use Rattle.cw_code.specs.Code.{CodeSite, reported_sites}
use Rattle.cw_gen.specs.Emit.{emitted_sites, emitted_sites_in, emitted_sites_of}
use Rattle.cw_gen.proofs.Rules.{Each}
use Rattle.cw_gen.proofs.Texts.{code_of}

module _ (lists : Lists) where
  mutual
    -- the call sites of a statement are its call statements, including the call statements in its loops
    told_stmt : (locals : Locals) (line : ℕ) (s : Stmt) → map (λ q. q.told) (emitted_sites line (resolved_stmt lists locals s)) ≡ sites_in line s
    told_stmt locals line (Declare x e) = refl
    told_stmt locals line (DeclareArray x e) = refl
    told_stmt locals line (AssignElement x i e) = refl
    told_stmt locals line (Assign x e) = refl
    told_stmt locals line (Reduce how s e) = refl
    told_stmt locals line (Print e) = refl
    told_stmt locals line (Call kind site target f es) = refl
    told_stmt locals line (Start kind f es) = refl
    told_stmt locals line (Begin f from to captured over) = refl
    told_stmt locals line Sync = refl
    told_stmt locals line (If e b) = told_block locals b
    told_stmt locals line (IfElse e b c) =
        map-append (λ q. q.told) (emitted_sites_in (resolved_block lists locals b)) (emitted_sites_in (resolved_block lists locals c))
        ∙ ap (λ l. l ++ map (λ q. q.told) (emitted_sites_in (resolved_block lists locals c))) (told_block locals b)
        ∙ ap (λ l. sites_in_block b ++ l) (told_block locals c)
    told_stmt locals line (While e b) = told_block locals b
    told_stmt locals line (For x y z from to grain over b) = told_block (with_int x locals) b
    told_stmt locals line (Scope b) = told_block locals b
    told_stmt locals line (Cut a e l r b) = told_block (with_array r (with_array l locals)) b
    told_stmt locals line (Region tag b) = told_block locals b
    told_stmt locals line (Return e) = refl

    told_block : (locals : Locals) (b : Block) → map (λ q. q.told) (emitted_sites_in (resolved_block lists locals b)) ≡ sites_in_block b
    told_block locals End = refl
    told_block locals (Then line s b) =
        map-append (λ q. q.told) (emitted_sites line (resolved_stmt lists locals s)) (emitted_sites_in (resolved_block lists (locals_after locals s) b))
        ∙ ap (λ l. l ++ map (λ q. q.told) (emitted_sites_in (resolved_block lists (locals_after locals s) b))) (told_stmt locals line s)
        ∙ ap (λ l. sites_in line s ++ l) (told_block (locals_after locals s) b)

  -- the call sites of functions
  told_of : (gs : List Function) → map (λ q. q.told) (emitted_sites_of (map (resolved_function lists) gs)) ≡ flat_map (λ f. sites_in_block f.body) gs
  told_of [] = refl
  told_of (g ∷ gs) =
      let here = emitted_sites_in (resolved_block lists (locals_of g.params) g.body) in
      let there = emitted_sites_of (map (resolved_function lists) gs) in
      map-append (λ q. q.told) here there
      ∙ ap (λ l. l ++ map (λ q. q.told) there) (told_block (locals_of g.params) g.body)
      ∙ ap (λ l. sites_in_block g.body ++ l) (told_of gs)

-- the sites of the code are the sites of the program
pub same_sites : (program : Program) → reported_sites (code_of program) ≡ call_sites program
same_sites program = told_of (lists_of program) program.functions

-- the number of sites is the number of call statements
pub as_many_sites : (program : Program) → length (emitted_sites_of (resolved program).functions) ≡ length (call_sites program)
as_many_sites program =
    sym (length-map (emitted_sites_of (resolved program).functions) (λ q. q.told)) ∙ ap length (same_sites program)

-- a site is at its number
pub record IsAtItsNumber (sites : List CodeSite) (s : CodeSite) : Type 0 where
  pub positive : 0 < s.told.number
  pub there : slice_get sites (s.told.number - 1) ≡ Some s

-- numbered sites are at their numbers
pub numbered_stand : (before now : List CodeSite) → are_numbered (length before) (map (λ s. s.told) now) ≡ true → Each (IsAtItsNumber (before ++ now)) now
numbered_stand before [] h = tt
numbered_stand before (s ∷ now) h =
    let within : length before < length (before ++ s ∷ now) = omega (arith, length-append before (s ∷ now)) in
    let at = slice_get-get_or (before ++ s ∷ now) (length before) s within ∙ ap Some (get_or-append_seam before s now s) in
    let n : length (before ++ s ∷ []) ≡ length before + 1 = omega (arith, length-append before (s ∷ [])) in
    let next : suc (length before) ≡ length (before ++ s ∷ []) = omega (arith, n) in
    let here = nat_eq s.told.number (suc (length before)) in
    let there = are_numbered (suc (length before)) (map (λ q. q.told) now) in
    let number : s.told.number ≡ suc (length before) = eq_of s.told.number (suc (length before)) (first_true here there h) in
    let place : length before ≡ s.told.number - 1 = omega (arith, number) in
    let more : are_numbered (length (before ++ s ∷ [])) (map (λ q. q.told) now) ≡ true = subst (λ m. are_numbered m (map (λ q. q.told) now) ≡ true) next (second_true here there h) in
    let rest = subst (λ l. Each (IsAtItsNumber l) now) (append_assoc before (s ∷ []) now) (numbered_stand (before ++ s ∷ []) now more) in
    (record { positive = omega (arith, number); there = subst (λ m. slice_get (before ++ s ∷ now) m ≡ Some s) place at }, rest)

-- the sites of a numbered program are at their numbers
pub sites_stand : (program : Program) → are_numbered 0 (call_sites program) ≡ true → Each (IsAtItsNumber (code_of program).sites) (emitted_sites_of (resolved program).functions)
sites_stand program h = numbered_stand [] (emitted_sites_of (resolved program).functions) (ap (are_numbered 0) (same_sites program) ∙ h)
