-- A name that a statement reads is a known integer, an array of the iteration itself, or declared before it.
use Rattle.std.proofs.Common.{◌≡◌, ℕ, ◌+◌, Bool, true, false, List, [], ◌∷◌, ◌++◌, refl, sym, ◌∙◌, ap, subst}
use Rattle.std.specs.Prelude.{if◌then◌else◌, not, ◌&&◌, ◌||◌, Option, Some, None}
use Rattle.std.specs.List.{list_all}
use Rattle.std.proofs.lemmas.Bool.{and_parts, or_parts}
use Rattle.cw_facts.specs.Tests.{not_true, never}
use Rattle.cw_model.specs.declared.syntax.NameKind.{NameKind}
use Rattle.cw_model.specs.lemmas.Fits.{fits_kind, fit_kinds, arguments_fit}
use Rattle.cw_model.specs.Lines.{unless}
use Rattle.cw_model.specs.declared.syntax.CallKind.{CallKind}
use Rattle.cw_model.specs.declared.syntax.NameKind.TheVariants as name_kind
use Rattle.cw_model.specs.Syntax.{Name, Expr, Number, Variable, Element, Length, Negative, Not, Binary, Stmt, Declare}
use Rattle.cw_model.specs.Syntax.{DeclareArray, Assign, AssignElement, Reduce, Call, Start, Begin, Sync, If, IfElse}
use Rattle.cw_model.specs.Syntax.{While, For, Scope, Cut, Region, Print, Return, Block, End, Then, Param, Function}
use Rattle.cw_model.specs.Syntax.{Program, is_array_kind, is_written_kind, is_const_kind, is_array_param}
use Rattle.cw_model.specs.Names.{same_name, is_among, differ}
use Rattle.cw_model.specs.Meaning.{function_named}
use Rattle.cw_model.specs.Answers.{main_name}
use Rattle.cw_model.specs.Captured.{read_by, read_by_all, read_in, read_in_block, declared_in, declared_in_block}
use Rattle.cw_model.specs.Typing.{Known, is_int, is_array, is_fine, is_new, is_reducer, are_arguments}
use Rattle.cw_model.specs.Typing.{called, is_target, is_call, is_head_of_loop, may_return, ends_block, surely_returns}
use Rattle.cw_model.specs.Typing.{faults_in, faults_in_block, declares, Returns, Nowhere, WithInt, Alone, is_writable}
use Rattle.cw_model.specs.Ownership.{Around, InLoop, for_head, is_outer, may_read, may_write, are_inner}
use Rattle.cw_model.specs.Ownership.{names_in, arrays_given, given, target_names, known_after, Taken, Declared}
use Rattle.cw_model.specs.Ownership.{Closing, Leaves, Joins, CutOf, taken_after, declared_by, owner_faults}
use Rattle.cw_model.specs.Ownership.{owner_faults_in, are_loose, may_lend, lent, arrays_lent}
use Rattle.cw_model.specs.lemmas.Kept.{left_none, right_none, kept}
use Rattle.cw_model.specs.lemmas.Names.{same_are}
use Rattle.cw_tree.specs.lemmas.Names.{called_is, front_among, later_among}
use Rattle.cw_loops.specs.Lowered.{is_plain}
use Rattle.cw_loops.specs.SourceLike.{is_source_expr, is_source_stmt, is_source_block, is_source_target}
use Rattle.cw_loops.specs.lemmas.Naming.{Placed, at_front, after_it, placed, Side, in_first, in_second, side}
use Rattle.cw_loops.specs.lemmas.Naming.{none_any, among_left, among_right}
use Rattle.cw_loops.specs.lemmas.Knowing.{Adds, an_int, an_array, nothing, adds, known_more, known_array_more}
use Rattle.cw_loops.specs.lemmas.Declaring.{HeadKept, head_kept, CutKept, cut_kept}

-- the origin of a name that is read
pub data Place (around : Around) (known : Known) (declared : List Name) (x : Name) : Type 0 where
  inner : is_among x declared ≡ true → Place around known declared x
  integer : is_int known x ≡ true → Place around known declared x
  array : is_array known x ≡ true → is_outer around x ≡ false → Place around known declared x

pub record Seen (around : Around) (known : Known) (declared : List Name) (x : Name) : Type 0 where
  pub plain : is_plain x ≡ true
  pub place : Place around known declared x

pub expr_seen : (known : Known) (e : Expr) → is_source_expr e ≡ true → is_fine known e ≡ true → (x : Name) →
    is_among x (read_by e) ≡ true → (is_plain x ≡ true) × (is_int known x ≡ true)
expr_seen known (Number n) source fine x o = absurd cc
expr_seen known (Variable y) source fine x o = go (placed x y [] o)
  where
    go : Placed x y [] → (is_plain x ≡ true) × (is_int known x ≡ true)
    go (at_front same) = (ap is_plain same ∙ source, ap (is_int known) same ∙ fine)
    go (after_it other p) = absurd cc
expr_seen known (Element a e) source fine x o =
    expr_seen known e (and_parts (is_plain a) (is_source_expr e) source).1
    (and_parts (is_array known a) (is_fine known e) fine).1 x o
expr_seen known (Length a) source fine x o = absurd cc
expr_seen known (Negative e) source fine x o = expr_seen known e source fine x o
expr_seen known (Not e) source fine x o = expr_seen known e source fine x o
expr_seen known (Binary operator d e) source fine x o =
    let s = and_parts (is_source_expr d) (is_source_expr e) source in
    let f = and_parts (is_fine known d) (is_fine known e) fine in
    go (side x (read_by d) (read_by e) o) (expr_seen known d s.0 f.0 x) (expr_seen known e s.1 f.1 x)
  where
    go : Side x (read_by d) (read_by e) →
        (is_among x (read_by d) ≡ true → (is_plain x ≡ true) × (is_int known x ≡ true)) →
        (is_among x (read_by e) ≡ true → (is_plain x ≡ true) × (is_int known x ≡ true)) →
        (is_plain x ≡ true) × (is_int known x ≡ true)
    go (in_first p) one other = one p
    go (in_second p) one other = other p

pub record CallKept (fs : List Function) (known : Known) (target : Option Name) (f : Name) (es : List Expr) : Type 0
  where
    pub target_fine : is_target known (function_named f fs) target ≡ true
    pub arguments : are_arguments known (function_named f fs).params es ≡ true

pub call_kept : (fs : List Function) (known : Known) (target : Option Name) (f : Name) (es : List Expr) →
    is_call known target (called f fs) es ≡ true → CallKept fs known target f es
call_kept fs known target f es h = go (called f fs) refl h
  where
    go : (o : Option Function) → called f fs ≡ o → is_call known target o es ≡ true → CallKept fs known target f es
    go None same g = absurd cc
    go (Some k) same g =
        let p = and_parts _ (not (same_name k.name main_name)) g in
        let q = and_parts (is_target known k target) (are_arguments known k.params es) p.0 in
        let is = called_is f fs k same in
        record {
          target_fine = ap (λ w. is_target known w target) is ∙ q.0;
          arguments = ap (λ w. are_arguments known w.params es) is ∙ q.1;
        }

pub inner_names : (around : Around) (xs : List Name) → are_inner around xs ≡ true → (x : Name) → is_among x xs ≡ true →
    is_outer around x ≡ false
inner_names around xs h = none_any (is_outer around) xs (not_true _ h)

abbrev pub AllInner : Around → List Name → Type 0
AllInner around xs = (x : Name) → is_among x xs ≡ true → is_outer around x ≡ false

-- the arrays that are passed, whether given away or only read
abbrev pub arrays_passed : List Param → List Expr → List Name
arrays_passed [] es = []
arrays_passed (p ∷ ps) [] = []
arrays_passed (p ∷ ps) (e ∷ es) = (if is_array_param p then names_in e else []) ++ arrays_passed ps es

either_inner : (around : Around) (x : Name) (xs ys : List Name) → (is_among x xs ≡ true → is_outer around x ≡ false) →
    (is_among x ys ≡ true → is_outer around x ≡ false) → is_among x (xs ++ ys) ≡ true → is_outer around x ≡ false
either_inner around x xs ys one more o = go (side x xs ys o)
  where
    go : Side x xs ys → is_outer around x ≡ false
    go (in_first q) = one q
    go (in_second q) = more q

-- each array that is passed is given away or only read
passed_inner : (around : Around) (ps : List Param) (es : List Expr) → AllInner around (arrays_given ps es) →
    AllInner around (arrays_lent ps es) → AllInner around (arrays_passed ps es)
passed_inner around [] es given' lent' x o = absurd cc
passed_inner around (p ∷ ps) [] given' lent' x o = absurd cc
passed_inner around (p ∷ ps) (e ∷ es) given' lent' x o =
    by p.kind given' lent' (λ g l. passed_inner around ps es g l x) o
  where
    rest : (xs ys : List Name) → AllInner around (xs ++ ys) → AllInner around ys
    rest xs ys h v q = h v (among_right v xs ys q)

    by : (k : NameKind) → AllInner around ((if is_written_kind k then names_in e else []) ++ arrays_given ps es) →
        AllInner around ((if is_const_kind k then names_in e else []) ++ arrays_lent ps es) →
        (AllInner around (arrays_given ps es) → AllInner around (arrays_lent ps es) →
        is_among x (arrays_passed ps es) ≡ true → is_outer around x ≡ false) →
        is_among x ((if is_array_kind k then names_in e else []) ++ arrays_passed ps es) ≡ true →
        is_outer around x ≡ false
    by name_kind.Integer g l more o = more g l o
    by name_kind.Array g l more o =
        either_inner around x (names_in e) (arrays_passed ps es)
        (λ q. g x (among_left x (names_in e) (arrays_given ps es) q))
        (more (rest (names_in e) (arrays_given ps es) g) l) o
    by name_kind.Const g l more o =
        either_inner around x (names_in e) (arrays_passed ps es)
        (λ q. l x (among_left x (names_in e) (arrays_lent ps es) q))
        (more g (rest (names_in e) (arrays_lent ps es) l)) o

-- the rules of ownership that a call keeps
pub record GivenKept (around : Around) (taken : Taken) (fs : List Function) (target : Option Name) (f : Name)
    (es : List Expr) : Type 0 where
  pub reads : list_all (λ e. may_read around taken e) es ≡ true
  pub targets : AllInner around (target_names target)
  pub arrays : AllInner around (given fs f es)
  pub readers : AllInner around (lent fs f es)

pub given_kept : (around : Around) (taken : Taken) (fs : List Function) (target : Option Name) (f : Name)
    (es : List Expr) →
    (list_all (λ e. may_read around taken e) es && may_write around taken (target_names target ++ given fs f es)
    && differ (given fs f es) && may_lend around (given fs f es) (lent fs f es)) ≡ true
    → GivenKept around taken fs target f es
given_kept around taken fs target f es h =
    let m = and_parts _ (may_lend around (given fs f es) (lent fs f es)) h in
    let p = and_parts _ (differ (given fs f es)) m.0 in
    let q =
    and_parts (list_all (λ e. may_read around taken e) es)
    (may_write around taken (target_names target ++ given fs f es)) p.0 in
    let w =
    and_parts (are_loose taken (target_names target ++ given fs f es))
    (are_inner around (target_names target ++ given fs f es)) q.1 in
    let each = inner_names around (target_names target ++ given fs f es) w.1 in
    record {
      reads = q.0;
      targets = λ x o. each x (among_left x (target_names target) (given fs f es) o);
      arrays = λ x o. each x (among_right x (target_names target) (given fs f es) o);
      readers = inner_names around (lent fs f es) (and_parts (are_inner around (lent fs f es)) _ m.1).0;
    }

-- no array that is passed is from outside the loop
pub passed_kept : (around : Around) (taken : Taken) (fs : List Function) (target : Option Name) (f : Name)
    (es : List Expr) → GivenKept around taken fs target f es →
    AllInner around (arrays_passed (function_named f fs).params es)
passed_kept around taken fs target f es g = passed_inner around (function_named f fs).params es g.arrays g.readers

module _ (around : Around) (known : Known) (declared : List Name) where
  -- the names in an expression of integers
  fine_seen : (e : Expr) → is_source_expr e ≡ true → is_fine known e ≡ true → (x : Name) →
      is_among x (read_by e) ≡ true → Seen around known declared x
  fine_seen e source fine x o = let s = expr_seen known e source fine x o in record { plain = s.0; place = integer s.1 }

  argument_seen : (array : Bool) (e : Expr) → is_source_expr e ≡ true → fits_kind known array e ≡ true →
      AllInner around (if array then names_in e else []) → (x : Name) → is_among x (read_by e) ≡ true →
      Seen around known declared x
  argument_seen false e source fine inner' x o = fine_seen e source fine x o
  argument_seen true (Variable y) source fine inner' x o = go (placed x y [] o)
    where
      go : Placed x y [] → Seen around known declared x
      go (at_front same) =
          record { plain = ap is_plain same ∙ source; place = array (ap (is_array known) same ∙ fine) (inner' x o) }
      go (after_it other p) = absurd cc
  argument_seen true (Number n) source fine inner' x o = absurd cc
  argument_seen true (Element a e) source fine inner' x o = absurd cc
  argument_seen true (Length a) source fine inner' x o = absurd cc
  argument_seen true (Negative e) source fine inner' x o = absurd cc
  argument_seen true (Not e) source fine inner' x o = absurd cc
  argument_seen true (Binary operator d e) source fine inner' x o = absurd cc

  arguments_seen : (ps : List Param) (es : List Expr) → list_all is_source_expr es ≡ true →
      fit_kinds known ps es ≡ true → AllInner around (arrays_passed ps es) → (x : Name) →
      is_among x (read_by_all es) ≡ true → Seen around known declared x
  arguments_seen [] [] source fine inner' x o = absurd cc
  arguments_seen [] (e ∷ es) source fine inner' x o = absurd cc
  arguments_seen (p ∷ ps) [] source fine inner' x o = absurd cc
  arguments_seen (p ∷ ps) (e ∷ es) source fine inner' x o =
      let s = and_parts (is_source_expr e) (list_all is_source_expr es) source in
      let f = and_parts (fits_kind known (is_array_param p) e) (fit_kinds known ps es) fine in
      go (side x (read_by e) (read_by_all es) o)
      (argument_seen (is_array_param p) e s.0 f.0
      (λ v q. inner' v (among_left v (if is_array_param p then names_in e else []) (arrays_passed ps es) q)) x)
      (arguments_seen ps es s.1 f.1
      (λ v q. inner' v (among_right v (if is_array_param p then names_in e else []) (arrays_passed ps es) q)) x)
    where
      go : Side x (read_by e) (read_by_all es) → (is_among x (read_by e) ≡ true → Seen around known declared x) →
          (is_among x (read_by_all es) ≡ true → Seen around known declared x) → Seen around known declared x
      go (in_first q) one more = one q
      go (in_second q) one more = more q

-- the known names are the names that ownership knows
abbrev pub SameKnown : Known → List Name → Type 0
SameKnown known owners = (x : Name) → is_among x owners ≡ (is_int known x || is_array known x)

pub after_known : (s : Stmt) (known : Known) (owners : List Name) → SameKnown known owners →
    SameKnown (declares s known) (known_after owners s)
after_known s known owners h = go (adds s)
  where
    go : Adds s → SameKnown (declares s known) (known_after owners s)
    go (an_int y e same) =
        subst (λ t. SameKnown (declares t known) (known_after owners t)) (sym same)
        (λ x. known_more x y owners (is_int known x) (is_array known x) (h x))
    go (an_array y e same) =
        subst (λ t. SameKnown (declares t known) (known_after owners t)) (sym same)
        (λ x. known_array_more x y owners (is_int known x) (is_array known x) (h x))
    go (nothing same ints arrays owners_same) =
        λ x. ap (is_among x) (owners_same owners) ∙ h x ∙ sym (ap (λ k. is_int k x || is_array k x) (same known))

-- the origin of a name that the body of a loop reads, relative to its head: an outer array is not a name of an
-- iteration
pub data Home (v : Name) (known : Known) (declared : List Name) (x : Name) : Type 0 where
  declared_there : is_among x (v ∷ declared) ≡ true → Home v known declared x
  known_before : is_int known x ≡ true → Home v known declared x

pub home : (v : Name) (known : Known) (owners : List Name) → SameKnown known owners →
    (over declared : List Name) (x : Name) →
    Place (InLoop (v ∷ owners) v over) ((v, name_kind.Integer) ∷ known) declared x → Home v known declared x
home v known owners same over declared x s = by s
  where
    of_array : (r : Bool) → same_name x v ≡ r → (if r then false else is_array known x) ≡ true →
        is_among x (v ∷ owners) ≡ false → Home v known declared x
    of_array true e p out = absurd cc
    of_array false e p out =
        never (is_array known x) p (or_parts (is_int known x) (is_array known x)
        (sym (same x) ∙ ap (λ r. if r then true else is_among x owners) (sym e) ∙ out)).1

    of_int : (r : Bool) → same_name x v ≡ r → (if r then true else is_int known x) ≡ true → Home v known declared x
    of_int true e p = declared_there (ap (λ r. if r then true else is_among x declared) e)
    of_int false e p = known_before p

    by : Place (InLoop (v ∷ owners) v over) ((v, name_kind.Integer) ∷ known) declared x → Home v known declared x
    by (inner p) = declared_there (later_among x v declared p)
    by (integer p) = of_int (same_name x v) refl p
    by (array p out) = of_array (same_name x v) refl p out

-- adding declared names keeps the origin of a name

seen_more : (around : Around) (known : Known) (declared declared' : List Name) (x : Name) →
    (is_among x declared ≡ true → is_among x declared' ≡ true) → Seen around known declared x →
    Seen around known declared' x
seen_more around known declared declared' x h s = record { plain = s.plain; place = go s.place }
  where
    go : Place around known declared x → Place around known declared' x
    go (inner o) = inner (h o)
    go (integer o) = integer o
    go (array o out) = array o out

-- a name moves from the known names to the declared names
seen_before : (around : Around) (known : Known) (y : Name) (kind : NameKind) (declared declared' : List Name)
    (x : Name) → (is_among x declared ≡ true → is_among x declared' ≡ true) → is_among y declared' ≡ true
    → Seen around ((y, kind) ∷ known) declared x → Seen around known declared' x
seen_before around known y kind declared declared' x h here s = record { plain = s.plain; place = go s.place }
  where
    named : same_name x y ≡ true → Place around known declared' x
    named e = inner (ap (λ z. is_among z declared') (same_are x y e) ∙ here)

    of_int : (b k : Bool) → same_name x y ≡ b → (if b then not k else is_int known x) ≡ true →
        Place around known declared' x
    of_int true k e o = named e
    of_int false k e o = integer o

    of_array : (b k : Bool) → same_name x y ≡ b → (if b then k else is_array known x) ≡ true →
        is_outer around x ≡ false → Place around known declared' x
    of_array true k e o out = named e
    of_array false k e o out = array o out

    go : Place around ((y, kind) ∷ known) declared x → Place around known declared' x
    go (inner o) = inner (h o)
    go (integer o) = of_int (same_name x y) (is_array_kind kind) refl o
    go (array o out) = of_array (same_name x y) (is_array_kind kind) refl o out

module _ (program : Program) (fs : List Function) (fs_is : program.functions ≡ fs) where
  abbrev StmtSeen : Stmt → Type 0
  StmtSeen s =
      (returns : Returns) (known : Known) (owners : List Name) (around : Around) → SameKnown known owners
      → (depth line : ℕ) (taken : Taken) → is_source_stmt s ≡ true →
      faults_in program returns known line s ≡ [] → owner_faults fs around owners depth taken line s ≡ [] → (x : Name)
      → is_among x (read_in s) ≡ true → Seen around known (declared_in s) x

  abbrev BlockSeen : Block → Type 0
  BlockSeen b =
      (returns : Returns) (known : Known) (owners : List Name) (around : Around) → SameKnown known owners
      → (depth : ℕ) (closing : Closing) (taken : Taken) (declared : Declared) → is_source_block b ≡ true →
      faults_in_block program returns known b ≡ []
      → owner_faults_in fs around owners depth closing taken declared b ≡ [] → (x : Name)
      → is_among x (read_in_block b) ≡ true → Seen around known (declared_in_block b) x

  call_seen : (kind : CallKind) (site : ℕ) (target : Option Name) (f : Name) (es : List Expr) →
      StmtSeen (Call kind site target f es)
  call_seen kind site target f es returns known owners around same depth line taken source types owns x o =
      let s = and_parts (is_source_target target) _ source in
      let t = and_parts (is_plain f) (list_all is_source_expr es) s.1 in
      let k =
      call_kept fs known target f es
      (ap (λ w. is_call known target (called f w) es) (sym fs_is) ∙ kept _ line types) in
      let g = given_kept around taken fs target f es (kept _ line owns) in
      arguments_seen around known [] (function_named f fs).params es t.1
      (arguments_fit known (function_named f fs).params es k.arguments)
      (passed_kept around taken fs target f es g) x o

  tested_seen : (e : Expr) (b : Block) (returns : Returns) (known : Known) (around : Around) → is_source_expr e ≡ true →
      is_fine known e ≡ true → (x : Name) →
      (is_among x (read_in_block b) ≡ true → Seen around known (declared_in_block b) x)
      → is_among x (read_by e ++ read_in_block b) ≡ true → Seen around known (declared_in_block b) x
  tested_seen e b returns known around source fine x more o = go (side x (read_by e) (read_in_block b) o)
    where
      go : Side x (read_by e) (read_in_block b) → Seen around known (declared_in_block b) x
      go (in_first p) = fine_seen around known (declared_in_block b) e source fine x p
      go (in_second p) = more p

  element_seen : (known : Known) (around : Around) (i e : Expr) → is_source_expr i ≡ true → is_source_expr e ≡ true →
      is_fine known i ≡ true → is_fine known e ≡ true → (x : Name) → is_among x (read_by i ++ read_by e) ≡ true →
      Seen around known [] x
  element_seen known around i e si se fi fe x o = go (side x (read_by i) (read_by e) o)
    where
      go : Side x (read_by i) (read_by e) → Seen around known [] x
      go (in_first p) = fine_seen around known [] i si fi x p
      go (in_second p) = fine_seen around known [] e se fe x p

  choice_seen : (e : Expr) (b d : Block) → BlockSeen b → BlockSeen d → StmtSeen (IfElse e b d)
  choice_seen e b d one other returns known owners around same depth line taken source types owns x o =
      go (side x (read_by e) (read_in_block b ++ read_in_block d) o)
    where
      s1 : (is_source_expr e ≡ true) × ((is_source_block b && is_source_block d) ≡ true)
      s1 = and_parts (is_source_expr e) _ source

      s2 : (is_source_block b ≡ true) × (is_source_block d ≡ true)
      s2 = and_parts (is_source_block b) (is_source_block d) s1.1

      types' : faults_in_block program returns known b ++ faults_in_block program returns known d ≡ []
      types' = right_none (unless (is_fine known e) line) _ types

      owns' : owner_faults_in fs around owners depth Leaves taken [] b
          ++ owner_faults_in fs around owners depth Leaves taken [] d ≡ []
      owns' = right_none (unless (may_read around taken e) line) _ owns

      declared : List Name
      declared = declared_in_block b ++ declared_in_block d

      branch : Side x (read_in_block b) (read_in_block d) → Seen around known declared x
      branch (in_first p) =
          seen_more around known (declared_in_block b) declared x
          (among_left x (declared_in_block b) (declared_in_block d))
          (one returns known owners around same depth Leaves taken [] s2.0 (left_none _ _ types')
          (left_none _ _ owns') x p)
      branch (in_second p) =
          seen_more around known (declared_in_block d) declared x
          (among_right x (declared_in_block b) (declared_in_block d))
          (other returns known owners around same depth Leaves taken [] s2.1 (right_none _ _ types')
          (right_none _ _ owns') x p)

      go : Side x (read_by e) (read_in_block b ++ read_in_block d) → Seen around known declared x
      go (in_first p) = fine_seen around known declared e s1.0 (kept _ line (left_none _ _ types)) x p
      go (in_second p) = branch (side x (read_in_block b) (read_in_block d) p)

  for_seen : (v y z : Name) (from to : Expr) (grain : ℕ) (over : List Name) (b : Block) → BlockSeen b →
      StmtSeen (For v y z from to grain over b)
  for_seen v y z from to grain over b more returns known owners around same depth line taken source types owns x o =
      go (side x (read_by from) (read_by to ++ read_in_block b) o)
    where
      head : HeadKept program known v from to grain over
      head =
          head_kept program known v y z from to grain over
          (kept _ line (left_none (unless (is_head_of_loop program known v y z from to grain over) line) _ types))

      s1 : (is_plain v ≡ true) ×
          ((is_source_expr from && (is_source_expr to && (list_all is_plain over && is_source_block b))) ≡ true)
      s1 = and_parts (is_plain v) _ source

      s2 : (is_source_expr from ≡ true) × ((is_source_expr to && (list_all is_plain over && is_source_block b)) ≡ true)
      s2 = and_parts (is_source_expr from) _ s1.1

      s3 : (is_source_expr to ≡ true) × ((list_all is_plain over && is_source_block b) ≡ true)
      s3 = and_parts (is_source_expr to) _ s2.1

      declared : List Name
      declared = v ∷ declared_in_block b

      inside_known : SameKnown ((v, name_kind.Integer) ∷ known) (v ∷ owners)
      inside_known w = known_more w v owners (is_int known w) (is_array known w) (same w)

      types' : faults_in_block program Nowhere ((v, name_kind.Integer) ∷ known) b ≡ []
      types' = right_none (unless (is_head_of_loop program known v y z from to grain over) line) _ types

      owns' : owner_faults_in fs (InLoop (v ∷ owners) v over) (v ∷ owners) (depth + 1) Joins taken [] b ≡ []
      owns' =
          right_none (unless (may_read (for_head around) taken from && may_read (for_head around) taken to
          && may_write around taken over && differ over) line) _ owns

      at_home : Home v known (declared_in_block b) x → Place around known declared x
      at_home (declared_there p) = inner p
      at_home (known_before p) = integer p

      body : is_among x (read_in_block b) ≡ true → Seen around known declared x
      body p =
          let s =
          more Nowhere ((v, name_kind.Integer) ∷ known) (v ∷ owners) (InLoop (v ∷ owners) v over) inside_known
          (depth + 1) Joins taken [] (and_parts (list_all is_plain over) (is_source_block b) s3.1).1 types' owns' x p in
          record { plain = s.plain; place = at_home (home v known owners same over (declared_in_block b) x s.place) }

      late : Side x (read_by to) (read_in_block b) → Seen around known declared x
      late (in_first p) = fine_seen around known declared to s3.0 head.to_fine x p
      late (in_second p) = body p

      go : Side x (read_by from) (read_by to ++ read_in_block b) → Seen around known declared x
      go (in_first p) = fine_seen around known declared from s2.0 head.from_fine x p
      go (in_second p) = late (side x (read_by to) (read_in_block b) p)

  cut_seen : (a : Name) (e : Expr) (l r : Name) (b : Block) → BlockSeen b → StmtSeen (Cut a e l r b)
  cut_seen a e l r b more returns known owners around same depth line taken source types owns x o =
      go (side x (read_by e) (read_in_block b) o)
    where
      k : CutKept program known a e l r
      k = cut_kept program known a e l r (kept _ line (left_none _ _ types))

      s1 : (is_plain a ≡ true) × ((is_source_expr e && (is_plain l && (is_plain r && is_source_block b))) ≡ true)
      s1 = and_parts (is_plain a) _ source

      s2 : (is_source_expr e ≡ true) × ((is_plain l && (is_plain r && is_source_block b)) ≡ true)
      s2 = and_parts (is_source_expr e) _ s1.1

      s3 : (is_plain r ≡ true) × (is_source_block b ≡ true)
      s3 = and_parts (is_plain r) (is_source_block b) (and_parts (is_plain l) _ s2.1).1

      declared : List Name
      declared = l ∷ r ∷ declared_in_block b

      inside_known : SameKnown ((r, name_kind.Array) ∷ (l, name_kind.Array) ∷ known) (r ∷ l ∷ owners)
      inside_known w =
          known_array_more w r (l ∷ owners) (is_int ((l, name_kind.Array) ∷ known) w)
          (is_array ((l, name_kind.Array) ∷ known) w)
          (known_array_more w l owners (is_int known w) (is_array known w) (same w))

      go : Side x (read_by e) (read_in_block b) → Seen around known declared x
      go (in_first p) = fine_seen around known declared e s2.0 k.fine x p
      go (in_second p) =
          seen_before around known l name_kind.Array (r ∷ declared_in_block b) declared x
          (later_among x l (r ∷ declared_in_block b)) (front_among l (r ∷ declared_in_block b))
          (seen_before around ((l, name_kind.Array) ∷ known) r name_kind.Array (declared_in_block b)
          (r ∷ declared_in_block b) x (later_among x r (declared_in_block b)) (front_among r (declared_in_block b))
          (more Nowhere ((r, name_kind.Array) ∷ (l, name_kind.Array) ∷ known) (r ∷ l ∷ owners) around inside_known
          (depth + 1) Joins ((a, CutOf) ∷ taken) [] s3.1 (right_none _ _ types) (right_none _ _ owns) x p))

  -- a name that is read after a statement, relative to the point before it
  later_seen : (s : Stmt) (known : Known) (around : Around) (rest : List Name) (x : Name) →
      Seen around (declares s known) rest x → Seen around known (declared_in s ++ rest) x
  later_seen s known around rest x h = go (adds s)
    where
      go : Adds s → Seen around known (declared_in s ++ rest) x
      go (an_int y e same) = subst (λ t. Seen around known (declared_in t ++ rest) x) (sym same)
          (seen_before around known y name_kind.Integer rest (y ∷ rest) x (later_among x y rest) (front_among y rest)
          (subst (λ t. Seen around (declares t known) rest x) same h))
      go (an_array y e same) = subst (λ t. Seen around known (declared_in t ++ rest) x) (sym same)
          (seen_before around known y name_kind.Array rest (y ∷ rest) x (later_among x y rest) (front_among y rest)
          (subst (λ t. Seen around (declares t known) rest x) same h))
      go (nothing same ints arrays owners_same) =
          seen_more around known rest (declared_in s ++ rest) x (among_right x (declared_in s) rest)
          (subst (λ k. Seen around k rest x) (same known) h)

  then_seen : (line : ℕ) (s : Stmt) (b : Block) → StmtSeen s → BlockSeen b → BlockSeen (Then line s b)
  then_seen line s b here more returns known owners around same depth closing taken declared source types owns x o =
      go (side x (read_in s) (read_in_block b) o)
    where
      both : (is_source_stmt s ≡ true) × (is_source_block b ≡ true)
      both = and_parts (is_source_stmt s) (is_source_block b) source

      go : Side x (read_in s) (read_in_block b) → Seen around known (declared_in s ++ declared_in_block b) x
      go (in_first p) =
          seen_more around known (declared_in s) (declared_in s ++ declared_in_block b) x
          (among_left x (declared_in s) (declared_in_block b))
          (here returns known owners around same depth line taken both.0 (left_none _ _ types) (left_none _ _ owns) x
          p)
      go (in_second p) = later_seen s known around (declared_in_block b) x
          (more returns (declares s known) (known_after owners s) around (after_known s known owners same) depth
          closing (taken_after fs depth s taken) (declared_by line s declared) both.1
          (right_none (unless (not (surely_returns s) || ends_block b) line) _
          (right_none (faults_in program returns known line s) _ types)) (right_none _ _ owns) x p)

  returned_seen : (e : Expr) (returns : Returns) (known : Known) → may_return returns known (Some e) ≡ true →
      is_fine known e ≡ true
  returned_seen e WithInt known h = h
  returned_seen e Alone known h = absurd cc
  returned_seen e Nowhere known h = absurd cc

  mutual
    pub stmt_seen : (s : Stmt) → StmtSeen s
    stmt_seen (Declare y e) returns known owners around same depth line taken source types owns x o =
        fine_seen around known (y ∷ []) e (and_parts (is_plain y) (is_source_expr e) source).1
        (and_parts (is_fine known e) (is_new program known y) (kept _ line types)).0 x o
    stmt_seen (DeclareArray y e) returns known owners around same depth line taken source types owns x o =
        fine_seen around known (y ∷ []) e (and_parts (is_plain y) (is_source_expr e) source).1
        (and_parts (is_fine known e) (is_new program known y) (kept _ line types)).0 x o
    stmt_seen (Assign y e) returns known owners around same depth line taken source types owns x o =
        fine_seen around known [] e (and_parts (is_plain y) (is_source_expr e) source).1
        (and_parts (is_int known y) (is_fine known e) (kept _ line types)).1 x o
    stmt_seen (AssignElement a i e) returns known owners around same depth line taken source types owns x o =
        let s = and_parts (is_source_expr i) (is_source_expr e) (and_parts (is_plain a) _ source).1 in
        let f = and_parts (is_writable known a && is_fine known i) (is_fine known e) (kept _ line types) in
        element_seen known around i e s.0 s.1 (and_parts (is_writable known a) (is_fine known i) f.0).1 f.1 x o
    stmt_seen (Reduce how r e) returns known owners around same depth line taken source types owns x o =
        fine_seen around known [] e (and_parts (is_plain r) (is_source_expr e) source).1
        (and_parts (is_reducer program how r) (is_fine known e) (kept _ line types)).1 x o
    stmt_seen (Call kind site target f es) returns known owners around same depth line taken source types owns x o =
        call_seen kind site target f es returns known owners around same depth line taken source types owns x o
    stmt_seen (Start kind f es) returns known owners around same depth line taken source types owns x o = absurd cc
    stmt_seen (Begin f from to captured over) returns known owners around same depth line taken source types owns x o =
        absurd cc
    stmt_seen Sync returns known owners around same depth line taken source types owns x o = absurd cc
    stmt_seen (If e b) returns known owners around same depth line taken source types owns x o =
        let s = and_parts (is_source_expr e) (is_source_block b) source in
        tested_seen e b returns known around s.0 (kept _ line (left_none _ _ types)) x
        (block_seen b returns known owners around same depth Leaves taken [] s.1 (right_none _ _ types)
        (right_none _ _ owns) x) o
    stmt_seen (IfElse e b d) returns known owners around same depth line taken source types owns x o =
        choice_seen e b d (block_seen b) (block_seen d) returns known owners around same depth line taken source types
        owns x o
    stmt_seen (While e b) returns known owners around same depth line taken source types owns x o =
        let s = and_parts (is_source_expr e) (is_source_block b) source in
        tested_seen e b returns known around s.0 (kept _ line (left_none _ _ types)) x
        (block_seen b returns known owners around same depth Leaves (taken_after fs depth (While e b) taken) [] s.1
        (right_none _ _ types) (right_none _ _ owns) x) o
    stmt_seen (For v y z from to grain over b) returns known owners around same depth line taken source types owns x o =
        for_seen v y z from to grain over b (block_seen b) returns known owners around same depth line taken source
        types owns x o
    stmt_seen (Scope b) returns known owners around same depth line taken source types owns x o =
        block_seen b Nowhere known owners around same (depth + 1) Joins taken [] source types owns x o
    stmt_seen (Cut a e l r b) returns known owners around same depth line taken source types owns x o =
        cut_seen a e l r b (block_seen b) returns known owners around same depth line taken source types owns x o
    stmt_seen (Region tag b) returns known owners around same depth line taken source types owns x o =
        block_seen b Nowhere known owners around same (depth + 1) Joins taken [] source types owns x o
    stmt_seen (Print e) returns known owners around same depth line taken source types owns x o =
        fine_seen around known [] e source (kept _ line types) x o
    stmt_seen (Return None) returns known owners around same depth line taken source types owns x o = absurd cc
    stmt_seen (Return (Some e)) returns known owners around same depth line taken source types owns x o =
        fine_seen around known [] e source (returned_seen e returns known (kept _ line types)) x o

    pub block_seen : (b : Block) → BlockSeen b
    block_seen End returns known owners around same depth closing taken declared source types owns x o = absurd cc
    block_seen (Then line s b) returns known owners around same depth closing taken declared source types owns x o =
        then_seen line s b (stmt_seen s) (block_seen b) returns known owners around same depth closing taken declared
        source types owns x o
