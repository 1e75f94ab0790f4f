-- The names that the statements of a block add, and whether a block surely returns.
use Rattle.std.proofs.Common.{◌≡◌, List, [], ◌∷◌, ◌++◌, Bool, true, false, ◌&&◌, if◌then◌else◌, refl, sym, ap, ◌∙◌, append_assoc}
use Rattle.std.proofs.lemmas.List.{append-nil}
use Rattle.cw_model.specs.Syntax.{Name, Stmt, Declare, DeclareArray, IfElse, Block, End, Then}
use Rattle.cw_model.specs.Names.{same_name, is_among}
use Rattle.cw_model.specs.Typing.{surely_returns, block_returns}
use Rattle.cw_model.specs.Ownership.{own_names}
use Rattle.cw_tree.specs.Resolved.{Lists, Locals, with_int, with_array, locals_after}
use Rattle.cw_tree.specs.lemmas.Names.{later_among}
use Rattle.cw_loops.specs.Slotted.{slotted_stmt, slotted_block}
use Rattle.cw_gen.specs.Emit.{stmt_returns, returns}

-- the known locals after the statements of a block
abbrev pub locals_after_all : Locals → Block → Locals
locals_after_all locals End = locals
locals_after_all locals (Then line s b) = locals_after_all (locals_after locals s) b

-- locals with more integers and arrays appended
abbrev pub extended : Locals → (ints arrays : List Name) → Locals
extended locals ints arrays = record { ints = locals.ints ++ ints; arrays = locals.arrays ++ arrays }

-- the names that a block adds are its own names
pub record More (locals : Locals) (b : Block) : Type 0 where
  pub ints : List Name
  pub arrays : List Name
  pub same : locals_after_all locals b ≡ extended locals ints arrays
  pub own : (x : Name) → is_among x ints ≡ true → is_among x (own_names b) ≡ true
  pub own_arrays : (x : Name) → is_among x arrays ≡ true → is_among x (own_names b) ≡ true

abbrev pub locals_with : List Name → List Name → Locals
locals_with x y = record { ints = x; arrays = y }

pub same_locals : (a b c d : List Name) → a ≡ b → c ≡ d → locals_with a c ≡ locals_with b d
same_locals a b c d e f = ap (λ x. locals_with x c) e ∙ ap (locals_with b) f

behind : (x y : Name) (names others : List Name) → (is_among x names ≡ true → is_among x others ≡ true) → is_among x (y ∷ names) ≡ true → is_among x (y ∷ others) ≡ true
behind x y names others more h = test (same_name x y) h
  where
    test : (b : Bool) → (if b then true else is_among x names) ≡ true → (if b then true else is_among x others) ≡ true
    test true h' = refl
    test false h' = more h'

pub names_extend : (b : Block) (locals : Locals) → More locals b
names_extend End locals = record {
  ints = [];
  arrays = [];
  same = same_locals locals.ints (locals.ints ++ []) locals.arrays (locals.arrays ++ [])
      (sym (append-nil locals.ints)) (sym (append-nil locals.arrays));
  own = λ x h. cc;
  own_arrays = λ x h. cc;
}
names_extend (Then line (Declare x e) b) locals =
    let all = names_extend b (with_int x locals) in
    record {
      ints = x ∷ all.ints;
      arrays = all.arrays;
      same = all.same ∙ same_locals ((locals.ints ++ x ∷ []) ++ all.ints) (locals.ints ++ x ∷ all.ints) (locals.arrays ++ all.arrays)
          (locals.arrays ++ all.arrays) (append_assoc locals.ints (x ∷ []) all.ints) refl;
      own = λ y h. behind y x all.ints (own_names b) (all.own y) h;
      own_arrays = λ y h. later_among y x (own_names b) (all.own_arrays y h);
    }
names_extend (Then line (DeclareArray a e) b) locals =
    let all = names_extend b (with_array a locals) in
    record {
      ints = all.ints;
      arrays = a ∷ all.arrays;
      same = all.same ∙ same_locals (locals.ints ++ all.ints) (locals.ints ++ all.ints) ((locals.arrays ++ a ∷ []) ++ all.arrays)
          (locals.arrays ++ a ∷ all.arrays) refl (append_assoc locals.arrays (a ∷ []) all.arrays);
      own = λ y h. later_among y a (own_names b) (all.own y h);
      own_arrays = λ y h. behind y a all.arrays (own_names b) (all.own_arrays y) h;
    }
names_extend (Then line s b) locals =
    let all = names_extend b locals in
    record { ints = all.ints; arrays = all.arrays; same = all.same; own = all.own; own_arrays = all.own_arrays }

-- looking names up does not change whether a statement returns
mutual
  stmt_same : (lists : Lists) (locals : Locals) (s : Stmt) → stmt_returns (slotted_stmt lists locals s) ≡ surely_returns s
  stmt_same lists locals (IfElse e b c) =
      ap (λ r. r && returns (slotted_block lists locals c)) (returns_same lists locals b) ∙ ap (λ r. block_returns b && r) (returns_same lists locals c)
  stmt_same lists locals _ = refl

  pub returns_same : (lists : Lists) (locals : Locals) (b : Block) → returns (slotted_block lists locals b) ≡ block_returns b
  returns_same lists locals End = refl
  returns_same lists locals (Then line s End) = stmt_same lists locals s
  returns_same lists locals (Then line s (Then line' s' b)) = returns_same lists (locals_after locals s) (Then line' s' b)
