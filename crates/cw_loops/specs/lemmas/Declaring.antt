-- The names that a well-typed statement declares are new.
use Rattle.std.proofs.Common.{◌≡◌, ℕ, Bool, true, false, List, [], ◌∷◌, ◌++◌, sym, subst, refl}
use Rattle.std.specs.Prelude.{if◌then◌else◌, not, ◌||◌, nat_le}
use Rattle.std.specs.List.{list_all}
use Rattle.std.proofs.lemmas.Bool.{and_parts}
use Rattle.cw_facts.specs.Tests.{not_true}
use Rattle.cw_model.specs.declared.syntax.NameKind.{NameKind}
use Rattle.cw_model.specs.declared.limits.TheConstants.{MOST_GRAIN}
use Rattle.cw_model.specs.Lines.{unless}
use Rattle.cw_model.specs.declared.syntax.NameKind.TheVariants as name_kind
use Rattle.cw_model.specs.Syntax.{Name, Expr, Stmt, Declare, DeclareArray, Assign, AssignElement, Reduce, Call, Start}
use Rattle.cw_model.specs.Syntax.{Begin, Sync, If, IfElse, While, For, Scope, Cut, Region, Print, Return, Block, End}
use Rattle.cw_model.specs.Syntax.{Then, Program, is_array_kind}
use Rattle.cw_model.specs.Names.{same_name, is_among}
use Rattle.cw_model.specs.Captured.{declared_in, declared_in_block}
use Rattle.cw_model.specs.Typing.{Known, is_fine, is_int, is_array, is_writable, is_new, is_head_of_loop, is_cut}
use Rattle.cw_model.specs.Typing.{ends_block}
use Rattle.cw_model.specs.Typing.{surely_returns, faults_in, faults_in_block, declares, Returns, Nowhere}
use Rattle.cw_model.specs.lemmas.Fits.{writable_array, writable_arrays}
use Rattle.cw_model.specs.lemmas.Kept.{left_none, right_none, kept}
use Rattle.cw_tree.specs.Resolved.{Locals, locals_after}
use Rattle.cw_loops.specs.lemmas.Naming.{Placed, at_front, after_it, placed, Side, in_first, in_second, side}
use Rattle.cw_loops.specs.lemmas.Knowing.{Unknown, new_unknown, Adds, an_int, an_array, nothing, adds}
use Rattle.cw_loops.specs.Lowered.{lower_stmt}

-- the rules that the head of a loop keeps
pub record HeadKept (program : Program) (known : Known) (x : Name) (from to : Expr) (grain : ℕ) (over : List Name) :
    Type 0 where
  pub new : is_new program known x ≡ true
  pub from_fine : is_fine known from ≡ true
  pub to_fine : is_fine known to ≡ true
  pub some : nat_le 1 grain ≡ true
  pub arrays : list_all (λ a. is_array known a) over ≡ true
  pub writables : list_all (λ a. is_writable known a) over ≡ true

pub head_kept : (program : Program) (known : Known) (x y z : Name) (from to : Expr) (grain : ℕ) (over : List Name) →
    is_head_of_loop program known x y z from to grain over ≡ true → HeadKept program known x from to grain over
head_kept program known x y z from to grain over h =
    let a = and_parts _ (list_all (λ a. is_writable known a) over) h in
    let b = and_parts _ (nat_le grain MOST_GRAIN) a.0 in
    let c = and_parts _ (nat_le 1 grain) b.0 in
    let d = and_parts _ (is_fine known to) c.0 in
    let e = and_parts _ (is_fine known from) d.0 in
    let f = and_parts _ (same_name z x) e.0 in
    record {
      new = (and_parts (is_new program known x) (same_name y x) f.0).0;
      from_fine = e.1;
      to_fine = d.1;
      some = c.1;
      arrays = writable_arrays known over a.1;
      writables = a.1;
    }

-- the rules that a cut keeps
pub record CutKept (program : Program) (known : Known) (a : Name) (e : Expr) (l r : Name) : Type 0 where
  pub array : is_array known a ≡ true
  pub writable : is_writable known a ≡ true
  pub fine : is_fine known e ≡ true
  pub left : is_new program known l ≡ true
  pub right : is_new program known r ≡ true
  pub two : same_name l r ≡ false

pub cut_kept : (program : Program) (known : Known) (a : Name) (e : Expr) (l r : Name) →
    is_cut program known a e l r ≡ true → CutKept program known a e l r
cut_kept program known a e l r h =
    let p = and_parts _ (not (same_name l r)) h in
    let q = and_parts _ (is_new program known r) p.0 in
    let s = and_parts _ (is_new program known l) q.0 in
    let t = and_parts (is_writable known a) (is_fine known e) s.0 in
    record {
      array = writable_array known a t.0;
      writable = t.0;
      fine = t.1;
      left = s.1;
      right = q.1;
      two = not_true (same_name l r) p.1;
    }

-- a name that is unknown after a declaration was unknown before it
pub unknown_before : (known : Known) (y x : Name) (kind : NameKind) → Unknown ((y, kind) ∷ known) x → Unknown known x
unknown_before known y x kind u = go (same_name x y) (is_array_kind kind) u.no_int u.no_array
  where
    go : (s k : Bool) → (if s then not k else is_int known x) ≡ false → (if s then k else is_array known x) ≡ false →
        Unknown known x
    go true true h g = absurd cc
    go true false h g = absurd cc
    go false k h g = record { no_int = h; no_array = g }

module _ (program : Program) where
  -- the names that a statement declares are unknown before it
  abbrev StmtNew : Stmt → Type 0
  StmtNew s =
      (returns : Returns) (known : Known) (line : ℕ) → faults_in program returns known line s ≡ [] → (x : Name)
      → is_among x (declared_in s) ≡ true → Unknown known x

  abbrev BlockNew : Block → Type 0
  BlockNew b =
      (returns : Returns) (known : Known) → faults_in_block program returns known b ≡ [] → (x : Name)
      → is_among x (declared_in_block b) ≡ true → Unknown known x

  for_new : (x y z : Name) (from to : Expr) (grain : ℕ) (over : List Name) (b : Block) → BlockNew b →
      StmtNew (For x y z from to grain over b)
  for_new x y z from to grain over b more returns known line h v o =
      let head = head_kept program known x y z from to grain over (kept _ line (left_none _ _ h)) in
      go (placed v x (declared_in_block b) o) (new_unknown program known x head.new)
      (λ p. unknown_before known x v name_kind.Integer
      (more Nowhere ((x, name_kind.Integer) ∷ known) (right_none _ _ h) v p))
    where
      go : Placed v x (declared_in_block b) → Unknown known x →
          (is_among v (declared_in_block b) ≡ true → Unknown known v) → Unknown known v
      go (at_front same) fresh inner = subst (Unknown known) (sym same) fresh
      go (after_it other p) fresh inner = inner p

  cut_new : (a : Name) (e : Expr) (l r : Name) (b : Block) → BlockNew b → StmtNew (Cut a e l r b)
  cut_new a e l r b more returns known line h v o =
      let k = cut_kept program known a e l r (kept _ line (left_none _ _ h)) in
      go (placed v l (r ∷ declared_in_block b) o) (new_unknown program known l k.left)
      (new_unknown program known r k.right)
      (λ p. unknown_before known l v name_kind.Array
      (unknown_before ((l, name_kind.Array) ∷ known) r v name_kind.Array
      (more Nowhere ((r, name_kind.Array) ∷ (l, name_kind.Array) ∷ known) (right_none _ _ h) v p)))
    where
      second : Placed v r (declared_in_block b) → Unknown known r →
          (is_among v (declared_in_block b) ≡ true → Unknown known v) → Unknown known v
      second (at_front same) fresh inner = subst (Unknown known) (sym same) fresh
      second (after_it other p) fresh inner = inner p

      go : Placed v l (r ∷ declared_in_block b) → Unknown known l → Unknown known r →
          (is_among v (declared_in_block b) ≡ true → Unknown known v) → Unknown known v
      go (at_front same) fresh fresh' inner = subst (Unknown known) (sym same) fresh
      go (after_it other p) fresh fresh' inner = second (placed v r (declared_in_block b) p) fresh' inner

  choice_new : (e : Expr) (b d : Block) → BlockNew b → BlockNew d → StmtNew (IfElse e b d)
  choice_new e b d one other returns known line h v o = go (side v (declared_in_block b) (declared_in_block d) o)
    where
      rest : faults_in_block program returns known b ++ faults_in_block program returns known d ≡ []
      rest = right_none (unless (is_fine known e) line) _ h

      go : Side v (declared_in_block b) (declared_in_block d) → Unknown known v
      go (in_first p) = one returns known (left_none _ _ rest) v p
      go (in_second p) = other returns known (right_none _ _ rest) v p

  -- a single declared name is unknown before the declaration
  one_new : (known : Known) (x v : Name) → is_new program known x ≡ true → is_among v (x ∷ []) ≡ true → Unknown known v
  one_new known x v fresh o = go (placed v x [] o)
    where
      go : Placed v x [] → Unknown known v
      go (at_front same) = subst (Unknown known) (sym same) (new_unknown program known x fresh)
      go (after_it other p) = absurd cc

  -- a name that is unknown after a statement was unknown before it
  before_it : (s : Stmt) (known : Known) (v : Name) → Unknown (declares s known) v → Unknown known v
  before_it s known v u = go (adds s)
    where
      go : Adds s → Unknown known v
      go (an_int x e same) =
          unknown_before known x v name_kind.Integer (subst (λ t. Unknown (declares t known) v) same u)
      go (an_array a e same) =
          unknown_before known a v name_kind.Array (subst (λ t. Unknown (declares t known) v) same u)
      go (nothing same ints arrays owners) = subst (λ k. Unknown k v) (same known) u

  by_side : (s : Stmt) (b : Block) (returns : Returns) (known : Known) (line : ℕ) →
      faults_in_block program returns known (Then line s b) ≡ [] → (v : Name) →
      Side v (declared_in s) (declared_in_block b) → StmtNew s → BlockNew b → Unknown known v
  by_side s b returns known line h v (in_first o) here more = here returns known line (left_none _ _ h) v o
  by_side s b returns known line h v (in_second o) here more =
      before_it s known v (more returns (declares s known)
      (right_none (unless (not (surely_returns s) || ends_block b) line) _
      (right_none (faults_in program returns known line s) _ h)) v o)

  mutual
    pub stmt_new : (s : Stmt) → StmtNew s
    stmt_new (Declare x e) returns known line h v o =
        one_new known x v (and_parts (is_fine known e) (is_new program known x) (kept _ line h)).1 o
    stmt_new (DeclareArray x e) returns known line h v o =
        one_new known x v (and_parts (is_fine known e) (is_new program known x) (kept _ line h)).1 o
    stmt_new (Assign x e) returns known line h v o = absurd cc
    stmt_new (AssignElement a i e) returns known line h v o = absurd cc
    stmt_new (Reduce how s e) returns known line h v o = absurd cc
    stmt_new (Call kind site target f es) returns known line h v o = absurd cc
    stmt_new (Start kind f es) returns known line h v o = absurd cc
    stmt_new (Begin f from to captured over) returns known line h v o = absurd cc
    stmt_new Sync returns known line h v o = absurd cc
    stmt_new (If e b) returns known line h v o = block_new b returns known (right_none _ _ h) v o
    stmt_new (IfElse e b d) returns known line h v o =
        choice_new e b d (block_new b) (block_new d) returns known line h v o
    stmt_new (While e b) returns known line h v o = block_new b returns known (right_none _ _ h) v o
    stmt_new (For x y z from to grain over b) returns known line h v o =
        for_new x y z from to grain over b (block_new b) returns known line h v o
    stmt_new (Scope b) returns known line h v o = block_new b Nowhere known h v o
    stmt_new (Cut a e l r b) returns known line h v o = cut_new a e l r b (block_new b) returns known line h v o
    stmt_new (Region tag b) returns known line h v o = block_new b Nowhere known h v o
    stmt_new (Print e) returns known line h v o = absurd cc
    stmt_new (Return e) returns known line h v o = absurd cc

    pub block_new : (b : Block) → BlockNew b
    block_new End returns known h v o = absurd cc
    block_new (Then line s b) returns known h v o =
        by_side s b returns known line h v (side v (declared_in s) (declared_in_block b) o) (stmt_new s) (block_new b)

-- a lowered statement declares the same locals as its source
pub same_after : (over : List Name) (k : ℕ) (locals : Locals) (s : Stmt) → locals_after locals (lower_stmt over k s) ≡ locals_after locals s
same_after over k locals (Declare x e) = refl
same_after over k locals (DeclareArray a e) = refl
same_after over k locals (Assign x e) = refl
same_after over k locals (AssignElement a i e) = refl
same_after over k locals (Reduce how s e) = refl
same_after over k locals (Call kind site target f es) = refl
same_after over k locals (Start kind f es) = refl
same_after over k locals (Begin f from to captured' over') = refl
same_after over k locals Sync = refl
same_after over k locals (If e b) = refl
same_after over k locals (IfElse e b c) = refl
same_after over k locals (While e b) = refl
same_after over k locals (For x y z from to grain over' b) = refl
same_after over k locals (Scope b) = refl
same_after over k locals (Cut a e l r b) = refl
same_after over k locals (Region tag b) = refl
same_after over k locals (Print e) = refl
same_after over k locals (Return e) = refl
