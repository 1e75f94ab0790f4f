-- The number of slots that a body needs is at most the number of names that its function declares.
use Rattle.std.proofs.Common.{Bool, true, false, not, if◌then◌else◌, map, filter, ◌≡◌, ℕ, suc, ◌+◌, ◌≤◌, max, List}
use Rattle.std.proofs.Common.{[], ◌∷◌, ◌++◌, length, refl, ap, arith}
use Rattle.std.proofs.lemmas.List.{length_push}
use Rattle.cw_model.specs.Syntax as model
use Rattle.cw_model.specs.Syntax.{Name, Param}
use Rattle.cw_tree.specs.Declares.{declares_in, declares_in_block}
use Rattle.cw_tree.specs.Resolved as spec
use Rattle.cw_model.specs.Syntax.{is_array_param}

ints_after : (l : spec.Locals) (s : model.Stmt) → length (spec.locals_after l s).ints ≤ length l.ints + declares_in s
ints_after l (model.Declare x e) = let one = length_push l.ints x in omega (arith, one)
ints_after l (model.DeclareArray a e) = omega arith
ints_after l (model.Assign x e) = omega arith
ints_after l (model.AssignElement a i e) = omega arith
ints_after l (model.Reduce how s e) = omega arith
ints_after l (model.Call kind site target f es) = omega arith
ints_after l (model.Start kind f es) = omega arith
ints_after l (model.Begin f from to captured over) = omega arith
ints_after l model.Sync = omega arith
ints_after l (model.If e b) = omega arith
ints_after l (model.IfElse e b c) = omega arith
ints_after l (model.While e b) = omega arith
ints_after l (model.For x y z from to grain over b) = omega arith
ints_after l (model.Scope b) = omega arith
ints_after l (model.Cut a e left right b) = omega arith
ints_after l (model.Region tag b) = omega arith
ints_after l (model.Print e) = omega arith
ints_after l (model.Return e) = omega arith

arrays_after : (l : spec.Locals) (s : model.Stmt)
    → length (spec.locals_after l s).arrays ≤ length l.arrays + declares_in s
arrays_after l (model.Declare x e) = omega arith
arrays_after l (model.DeclareArray a e) = let one = length_push l.arrays a in omega (arith, one)
arrays_after l (model.Assign x e) = omega arith
arrays_after l (model.AssignElement a i e) = omega arith
arrays_after l (model.Reduce how s e) = omega arith
arrays_after l (model.Call kind site target f es) = omega arith
arrays_after l (model.Start kind f es) = omega arith
arrays_after l (model.Begin f from to captured over) = omega arith
arrays_after l model.Sync = omega arith
arrays_after l (model.If e b) = omega arith
arrays_after l (model.IfElse e b c) = omega arith
arrays_after l (model.While e b) = omega arith
arrays_after l (model.For x y z from to grain over b) = omega arith
arrays_after l (model.Scope b) = omega arith
arrays_after l (model.Cut a e left right b) = omega arith
arrays_after l (model.Region tag b) = omega arith
arrays_after l (model.Print e) = omega arith
arrays_after l (model.Return e) = omega arith

mutual
  few_ints : (lists : spec.Lists) (l : spec.Locals) (n : ℕ) (s : model.Stmt)
      → spec.ints_in n (spec.resolved_stmt lists l s) ≤ max n (length l.ints + declares_in s)
  few_ints lists l n (model.Declare x e) = omega arith
  few_ints lists l n (model.DeclareArray a e) = omega arith
  few_ints lists l n (model.Assign x e) = omega arith
  few_ints lists l n (model.AssignElement a i e) = omega arith
  few_ints lists l n (model.Reduce how s e) = omega arith
  few_ints lists l n (model.Call kind site target f es) = omega arith
  few_ints lists l n (model.Start kind f es) = omega arith
  few_ints lists l n (model.Begin f from to captured over) = omega arith
  few_ints lists l n model.Sync = omega arith
  few_ints lists l n (model.If e b) = few_ints_in lists l n b
  few_ints lists l n (model.IfElse e b c) =
      let m = spec.ints_in_block n (spec.resolved_block lists l b) in
      let first = few_ints_in lists l n b in
      let second = few_ints_in lists l m c in omega (arith, first, second)
  few_ints lists l n (model.While e b) = few_ints_in lists l n b
  few_ints lists l n (model.For x y z from to grain over b) =
      let one = length_push l.ints x in
      let body = few_ints_in lists (spec.with_int x l) (max n (suc (length l.ints))) b in omega (arith, one, body)
  few_ints lists l n (model.Scope b) = few_ints_in lists l n b
  few_ints lists l n (model.Cut a e left right b) =
      let body = few_ints_in lists (spec.with_array right (spec.with_array left l)) n b in omega (arith, body)
  few_ints lists l n (model.Region tag b) = few_ints_in lists l n b
  few_ints lists l n (model.Print e) = omega arith
  few_ints lists l n (model.Return e) = omega arith

  pub few_ints_in : (lists : spec.Lists) (l : spec.Locals) (n : ℕ) (b : model.Block)
      → spec.ints_in_block n (spec.resolved_block lists l b) ≤ max n (length l.ints + declares_in_block b)
  few_ints_in lists l n model.End = omega arith
  few_ints_in lists l n (model.Then line s b) =
      let here = few_ints lists l n s in
      let after = ints_after l s in
      let rest =
      few_ints_in lists (spec.locals_after l s) (spec.ints_in n (spec.resolved_stmt lists l s)) b in omega
      (arith, here, after, rest)

mutual
  few_arrays : (lists : spec.Lists) (l : spec.Locals) (n : ℕ) (s : model.Stmt)
      → spec.arrays_in n (spec.resolved_stmt lists l s) ≤ max n (length l.arrays + declares_in s)
  few_arrays lists l n (model.Declare x e) = omega arith
  few_arrays lists l n (model.DeclareArray a e) = omega arith
  few_arrays lists l n (model.Assign x e) = omega arith
  few_arrays lists l n (model.AssignElement a i e) = omega arith
  few_arrays lists l n (model.Reduce how s e) = omega arith
  few_arrays lists l n (model.Call kind site target f es) = omega arith
  few_arrays lists l n (model.Start kind f es) = omega arith
  few_arrays lists l n (model.Begin f from to captured over) = omega arith
  few_arrays lists l n model.Sync = omega arith
  few_arrays lists l n (model.If e b) = few_arrays_in lists l n b
  few_arrays lists l n (model.IfElse e b c) =
      let m = spec.arrays_in_block n (spec.resolved_block lists l b) in
      let first = few_arrays_in lists l n b in
      let second = few_arrays_in lists l m c in omega (arith, first, second)
  few_arrays lists l n (model.While e b) = few_arrays_in lists l n b
  few_arrays lists l n (model.For x y z from to grain over b) =
      let body = few_arrays_in lists (spec.with_int x l) n b in omega (arith, body)
  few_arrays lists l n (model.Scope b) = few_arrays_in lists l n b
  few_arrays lists l n (model.Cut a e left right b) =
      let one = length_push l.arrays left in
      let two = length_push (l.arrays ++ left ∷ []) right in
      let body =
      few_arrays_in lists (spec.with_array right (spec.with_array left l))
      (max n (suc (length (l.arrays ++ left ∷ [])))) b in omega (arith, one, two, body)
  few_arrays lists l n (model.Region tag b) = few_arrays_in lists l n b
  few_arrays lists l n (model.Print e) = omega arith
  few_arrays lists l n (model.Return e) = omega arith

  pub few_arrays_in : (lists : spec.Lists) (l : spec.Locals) (n : ℕ) (b : model.Block)
      → spec.arrays_in_block n (spec.resolved_block lists l b) ≤ max n (length l.arrays + declares_in_block b)
  few_arrays_in lists l n model.End = omega arith
  few_arrays_in lists l n (model.Then line s b) =
      let here = few_arrays lists l n s in
      let after = arrays_after l s in
      let rest =
      few_arrays_in lists (spec.locals_after l s) (spec.arrays_in n (spec.resolved_stmt lists l s)) b in omega
      (arith, here, after, rest)

-- each parameter is an integer or an array
pub params_count : (ps : List Param) → length (spec.locals_of ps).ints + length (spec.locals_of ps).arrays ≡ length ps
params_count [] = refl
params_count (p ∷ ps) = first (is_array_param p) (params_count ps)
  where
    first : (b : Bool) → length (spec.locals_of ps).ints + length (spec.locals_of ps).arrays ≡ length ps →
        length
        (map (λ p. p.name) (if not b then p ∷ filter (λ p. not (is_array_param p)) ps else filter (λ p. not (is_array_param p)) ps))
        + length (map (λ p. p.name) (if b then p ∷ filter (λ p. is_array_param p) ps else filter (λ p. is_array_param p) ps))
        ≡ suc (length ps)
    first true h = omega (arith, h)
    first false h = omega (arith, h)

pub ints_fit : (lists : spec.Lists) (ints arrays : List Name) (ps : List Param) (b : model.Block)
    → ints ≡ (spec.locals_of ps).ints → length ps + declares_in_block b ≤ 256 →
    spec.ints_in_block (length ints) (spec.resolved_block lists (record { ints = ints; arrays = arrays }) b) ≤ 256
ints_fit lists ints arrays ps b same few =
    let body = few_ints_in lists (record { ints = ints; arrays = arrays }) (length ints) b in
    let counted = params_count ps in
    let as_long = ap length same in omega (arith, few, body, counted, as_long)

pub arrays_fit : (lists : spec.Lists) (ints arrays : List Name) (ps : List Param) (b : model.Block)
    → arrays ≡ (spec.locals_of ps).arrays → length ps + declares_in_block b ≤ 256 →
    spec.arrays_in_block (length arrays) (spec.resolved_block lists (record { ints = ints; arrays = arrays }) b) ≤ 256
arrays_fit lists ints arrays ps b same few =
    let body = few_arrays_in lists (record { ints = ints; arrays = arrays }) (length arrays) b in
    let counted = params_count ps in
    let as_long = ap length same in omega (arith, few, body, counted, as_long)
