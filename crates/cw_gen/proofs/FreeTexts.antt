-- Properties of a text that lowering keeps: whether a block returns, the names that it declares, and the arrays given
-- to calls.
use Rattle.std.proofs.Common.{◌≡◌, ℕ, ◌+◌, Bool, true, false, List, [], ◌∷◌, ◌++◌, refl, ap, ◌∙◌}
use Rattle.std.specs.Prelude.{◌&&◌, ◌||◌, not, if◌then◌else◌}
use Rattle.std.specs.List.{list_any}
use Rattle.std.proofs.lemmas.Bool.{and_parts}
use Rattle.cw_facts.specs.Tests.{not_true}
use Rattle.cw_model.specs.declared.syntax.NameKind.{NameKind}
use Rattle.cw_model.specs.declared.syntax.NameKind.TheVariants.{Integer, Array, Const}
use Rattle.cw_model.specs.Syntax.{is_written_kind, is_const_kind, Name, Expr, Number, Variable, Element, Length, Negative, Not, Binary, Stmt, Declare, DeclareArray, IfElse, Block, End, Then, Param}
use Rattle.cw_model.specs.Names.{is_among}
use Rattle.cw_model.specs.Captured.{read_by, declared_in, declared_in_block}
use Rattle.cw_model.specs.Typing.{Known, is_argument, are_arguments, surely_returns, block_returns}
use Rattle.cw_model.specs.Ownership.{Taken, is_taken, is_held, own_names, names_in, arrays_given, arrays_lent, are_free, are_loose}
use Rattle.cw_tree.specs.lemmas.Names.{front_among, later_among}
use Rattle.cw_loops.specs.Lowered.{low, lower_index, lower_expr, lower_exprs, lower_stmt, lower_block, loop_count, loop_count_in}
use Rattle.cw_loops.specs.lemmas.Naming.{Placed, at_front, after_it, placed, Side, in_first, in_second, side, none_any, among_left, among_right}

mutual
  -- a lowered statement surely returns exactly if its source does
  pub surely_same : (over : List Name) (s : Stmt) (k : ℕ) → surely_returns (lower_stmt over k s) ≡ surely_returns s
  surely_same over (IfElse e b c) k = ap (λ t. t && block_returns (lower_block over (k + loop_count_in b) c)) (returns_same over b k)
      ∙ ap (λ t. block_returns b && t) (returns_same over c (k + loop_count_in b))
  surely_same over _ k = refl

  -- a lowered block surely returns exactly if its source does
  pub returns_same : (over : List Name) (b : Block) (k : ℕ) → block_returns (lower_block over k b) ≡ block_returns b
  returns_same over End k = refl
  returns_same over (Then line s End) k = surely_same over s k
  returns_same over (Then line s (Then line' s' b)) k = returns_same over (Then line' s' b) (k + loop_count s)

-- a lowered block declares the names that its source declares
pub own_same : (over : List Name) (b : Block) (k : ℕ) → own_names (lower_block over k b) ≡ own_names b
own_same over End k = refl
own_same over (Then line s b) k = by s (own_same over b (k + loop_count s))
  where
    by : (s : Stmt) → own_names (lower_block over (k + loop_count s) b) ≡ own_names b → own_names (lower_block over k (Then line s b)) ≡ own_names (Then line s b)
    by (Declare x e) h = ap (λ l. x ∷ l) h
    by (DeclareArray x e) h = ap (λ l. x ∷ l) h
    by _ h = h

-- the names that a block itself declares are among all names that it declares
pub own_declared : (b : Block) (x : Name) → is_among x (own_names b) ≡ true → is_among x (declared_in_block b) ≡ true
own_declared End x h = h
own_declared (Then line s b) x h = by s h (own_declared b x)
  where
    one : (y : Name) → Placed x y (own_names b) → (is_among x (own_names b) ≡ true → is_among x (declared_in_block b) ≡ true) → is_among x (y ∷ declared_in_block b) ≡ true
    one y (at_front same) more = ap (λ z. is_among z (y ∷ declared_in_block b)) same ∙ front_among y (declared_in_block b)
    one y (after_it other o) more = later_among x y (declared_in_block b) (more o)

    by : (s : Stmt) → is_among x (own_names (Then line s b)) ≡ true → (is_among x (own_names b) ≡ true → is_among x (declared_in_block b) ≡ true)
        → is_among x (declared_in_block (Then line s b)) ≡ true
    by (Declare y e) o more = one y (placed x y (own_names b) o) more
    by (DeclareArray y e) o more = one y (placed x y (own_names b) o) more
    by s' o more = among_right x (declared_in s') (declared_in_block b) (more o)

-- the same arrays are given away
pub given_same : (over : List Name) (known : Known) (ps : List Param) (es : List Expr) → are_arguments known ps es ≡ true → arrays_given ps (lower_exprs over es) ≡ arrays_given ps es
given_same over known [] es h = refl
given_same over known (p ∷ ps) [] h = refl
given_same over known (p ∷ ps) (e ∷ es) h =
    let f = and_parts (is_argument known p.kind e) (are_arguments known ps es) h in
    ap (λ l. l ++ arrays_given ps (lower_exprs over es)) (one p.kind e f.0) ∙ ap (λ l. (if is_written_kind p.kind then names_in e else []) ++ l) (given_same over known ps es f.1)
  where
    one : (k : NameKind) (e : Expr) → is_argument known k e ≡ true → (if is_written_kind k then names_in (lower_expr over e) else []) ≡ (if is_written_kind k then names_in e else [])
    one Integer e g = refl
    one Const e g = refl
    one Array (Variable x) g = refl
    one Array _ g = absurd cc

-- the same arrays are only read
pub lent_same : (over : List Name) (known : Known) (ps : List Param) (es : List Expr) → are_arguments known ps es ≡ true → arrays_lent ps (lower_exprs over es) ≡ arrays_lent ps es
lent_same over known [] es h = refl
lent_same over known (p ∷ ps) [] h = refl
lent_same over known (p ∷ ps) (e ∷ es) h =
    let f = and_parts (is_argument known p.kind e) (are_arguments known ps es) h in
    ap (λ l. l ++ arrays_lent ps (lower_exprs over es)) (one p.kind e f.0) ∙ ap (λ l. (if is_const_kind p.kind then names_in e else []) ++ l) (lent_same over known ps es f.1)
  where
    one : (k : NameKind) (e : Expr) → is_argument known k e ≡ true → (if is_const_kind k then names_in (lower_expr over e) else []) ≡ (if is_const_kind k then names_in e else [])
    one Integer e g = refl
    one Array e g = refl
    one Const (Variable x) g = refl
    one Const _ g = absurd cc

-- a variable of an expression is a name of the expression
pub read_is_in : (e : Expr) (x : Name) → is_among x (read_by e) ≡ true → is_among x (names_in e) ≡ true
read_is_in (Number n) x h = h
read_is_in (Variable y) x h = h
read_is_in (Element a e) x h = later_among x a (names_in e) (read_is_in e x h)
read_is_in (Length a) x h = absurd cc
read_is_in (Negative e) x h = read_is_in e x h
read_is_in (Not e) x h = read_is_in e x h
read_is_in (Binary operator d e) x h = go (side x (read_by d) (read_by e) h) (read_is_in d x) (read_is_in e x)
  where
    go : Side x (read_by d) (read_by e) → (is_among x (read_by d) ≡ true → is_among x (names_in d) ≡ true)
        → (is_among x (read_by e) ≡ true → is_among x (names_in e) ≡ true) → is_among x (names_in d ++ names_in e) ≡ true
    go (in_first o) one other = among_left x (names_in d) (names_in e) (one o)
    go (in_second o) one other = among_right x (names_in d) (names_in e) (other o)

-- tests of several names, name by name

-- each of the free names is free
pub free_each : (taken : Taken) (xs : List Name) → are_free taken xs ≡ true → (x : Name) → is_among x xs ≡ true → is_taken taken x ≡ false
free_each taken xs h = none_any (λ x. is_taken taken x) xs (not_true _ h)

-- each of the names that are not held is not held
pub loose_each : (taken : Taken) (xs : List Name) → are_loose taken xs ≡ true → (x : Name) → is_among x xs ≡ true → is_held taken x ≡ false
loose_each taken xs h = none_any (λ x. is_held taken x) xs (not_true _ h)

-- if each name is not held, none of the names is held
pub loose_all : (taken : Taken) (xs : List Name) → ((x : Name) → is_among x xs ≡ true → is_held taken x ≡ false) → are_loose taken xs ≡ true
loose_all taken [] h = refl
loose_all taken (x ∷ xs) h = ap (λ b. not (b || list_any (λ z. is_held taken z) xs)) (h x (front_among x xs)) ∙ loose_all taken xs (λ y o. h y (later_among y x xs o))

-- if each name is free, all names are free
pub free_all : (taken : Taken) (xs : List Name) → ((x : Name) → is_among x xs ≡ true → is_taken taken x ≡ false) → are_free taken xs ≡ true
free_all taken [] h = refl
free_all taken (x ∷ xs) h = ap (λ b. not (b || list_any (λ z. is_taken taken z) xs)) (h x (front_among x xs)) ∙ free_all taken xs (λ y o. h y (later_among y x xs o))

-- a list of one free name is free
pub free_one : (taken : Taken) (x : Name) → is_taken taken x ≡ false → are_free taken (x ∷ []) ≡ true
free_one taken x h = ap (λ b. not (b || false)) h

-- the names of a lowered index are the names of its source, and the lower end of the range
pub index_free : (taken : Taken) (b : Bool) (e : Expr) → is_taken taken low ≡ false → are_free taken (names_in e) ≡ true → are_free taken (names_in (lower_index b e)) ≡ true
index_free taken true e l h = free_all taken (names_in e ++ low ∷ []) (λ x o. go x (side x (names_in e) (low ∷ []) o))
  where
    last : (x : Name) → Placed x low [] → is_taken taken x ≡ false
    last x (at_front same) = ap (is_taken taken) same ∙ l
    last x (after_it other o) = absurd cc

    go : (x : Name) → Side x (names_in e) (low ∷ []) → is_taken taken x ≡ false
    go x (in_first o) = free_each taken (names_in e) h x o
    go x (in_second o) = last x (placed x low [] o)
index_free taken false e l h = h

free_both : (taken : Taken) (xs ys : List Name) → are_free taken xs ≡ true → are_free taken ys ≡ true → are_free taken (xs ++ ys) ≡ true
free_both taken xs ys h g = free_all taken (xs ++ ys) (λ x o. go x (side x xs ys o))
  where
    go : (x : Name) → Side x xs ys → is_taken taken x ≡ false
    go x (in_first o) = free_each taken xs h x o
    go x (in_second o) = free_each taken ys g x o

-- the first of two lists is free if their concatenation is
pub free_first : (taken : Taken) (xs ys : List Name) → are_free taken (xs ++ ys) ≡ true → are_free taken xs ≡ true
free_first taken xs ys h = free_all taken xs (λ x o. free_each taken (xs ++ ys) h x (among_left x xs ys o))

-- the second of two lists is free if their concatenation is
pub free_second : (taken : Taken) (xs ys : List Name) → are_free taken (xs ++ ys) ≡ true → are_free taken ys ≡ true
free_second taken xs ys h = free_all taken ys (λ x o. free_each taken (xs ++ ys) h x (among_right x xs ys o))

-- the names of a lowered expression are free
pub expr_free : (taken : Taken) (over : List Name) (e : Expr) → is_taken taken low ≡ false → are_free taken (names_in e) ≡ true → are_free taken (names_in (lower_expr over e)) ≡ true
expr_free taken over (Number n) l h = refl
expr_free taken over (Variable x) l h = h
expr_free taken over (Element a e) l h =
    free_both taken (a ∷ []) (names_in (lower_index (is_among a over) (lower_expr over e))) (free_first taken (a ∷ []) (names_in e) h)
    (index_free taken (is_among a over) (lower_expr over e) l (expr_free taken over e l (free_second taken (a ∷ []) (names_in e) h)))
expr_free taken over (Length a) l h = h
expr_free taken over (Negative e) l h = expr_free taken over e l h
expr_free taken over (Not e) l h = expr_free taken over e l h
expr_free taken over (Binary operator d e) l h =
    free_both taken (names_in (lower_expr over d)) (names_in (lower_expr over e))
    (expr_free taken over d l (free_first taken (names_in d) (names_in e) h)) (expr_free taken over e l (free_second taken (names_in d) (names_in e) h))
