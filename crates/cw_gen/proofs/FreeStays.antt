-- In the body of a loop, names that were held outside stay held, and no expression reads them.
use Rattle.cw_model.specs.declared.syntax.NameKind.TheVariants as name_kind
use Rattle.std.proofs.Common.{◌≡◌, ℕ, ◌+◌, List, [], ◌∷◌, ◌++◌, Bool, true, false, refl, sym, ap, ◌∙◌, inr, subst}
use Rattle.std.specs.Prelude.{map, not, ◌&&◌, ◌||◌, if◌then◌else◌, Some, None}
use Rattle.std.specs.List.{list_all}
use Rattle.std.proofs.lemmas.Slice.Eq.{bytes_eq-Decides}
use Rattle.std.proofs.lemmas.Bool.{and_parts}
use Rattle.cw_facts.specs.Tests.{never, refuted}
use Rattle.cw_model.specs.declared.syntax.CallKind.TheVariants.{Plain, Spawned}
use Rattle.cw_model.specs.Lines.{unless}
use Rattle.cw_model.specs.Syntax.{Name, Expr, Stmt, Declare, DeclareArray, Assign, AssignElement, Reduce, Call, Start, Begin, Sync, If}
use Rattle.cw_model.specs.Syntax.{IfElse, While, For, Scope, Cut, Region, Print, Return, Block, End, Then, Program}
use Rattle.cw_model.specs.Names.{same_name, is_among, differ}
use Rattle.cw_model.specs.Captured.{read_by, read_by_all, read_in, read_in_block}
use Rattle.cw_model.specs.Typing.{Known, Returns, Nowhere, is_fine, is_int, is_array, is_cut, is_new, is_head_of_loop, surely_returns, block_returns, declares, ends_block, faults_in, faults_in_block}
use Rattle.cw_model.specs.Ownership.{Holder, SpawnIn, ReaderIn, CutOf, Taken, is_reader, is_taken, is_held, is_spawn_in, is_cut_of, freed, taken_by, without, own_names, where_it_goes_on}
use Rattle.cw_model.specs.Ownership.{target_names, given, lent, names_in, are_free, are_loose, may_read, may_write, may_lend, may_index, keeps_loop, are_inner, for_head, Around, InLoop}
use Rattle.cw_model.specs.Ownership.{Closing, Joins, Leaves, Declared, declared_by, known_after, taken_after, taken_after_all, owner_faults, owner_faults_in}
use Rattle.cw_model.specs.lemmas.Kept.{left_none, right_none, kept}
use Rattle.cw_tree.specs.lemmas.Names.{front_among, later_among}
use Rattle.cw_loops.specs.lemmas.Naming.{none_among}
use Rattle.cw_loops.specs.lemmas.Knowing.{Unknown, new_unknown, known_more, known_array_more}
use Rattle.cw_loops.specs.lemmas.Declaring.{CutKept, cut_kept, head_kept, block_new}
use Rattle.cw_loops.specs.lemmas.Seeing.{SameKnown, after_known}
use Rattle.cw_gen.proofs.FreeTexts.{own_declared, read_is_in, free_each, loose_each}
use Rattle.cw_gen.proofs.FreeMembers.{In, in_left, in_right, in_kept, in_taken, in_held, Outer, outer_more, outer_not}

-- the name stays held, and it is not read unless its holder only reads it
pub record Stays (t : Name × Holder) (after : Taken) (reads : List Name) : Type 0 where
  pub stays : In t after
  pub unread : is_reader t.1 ≡ false → is_among t.0 reads ≡ false

unread_expr : (around : Around) (taken : Taken) (e : Expr) (t : Name × Holder) → may_read around taken e ≡ true → In t taken → is_reader t.1 ≡ false → is_among t.0 (read_by e) ≡ false
unread_expr around taken e t h i loud =
    refuted (is_among t.0 (read_by e)) (λ o. never (is_taken taken t.0) (in_taken t taken i loud)
    (free_each taken (names_in e) (and_parts (are_free taken (names_in e)) (keeps_loop around e) h).0 t.0 (read_is_in e t.0 o)))

unread_all : (around : Around) (taken : Taken) (es : List Expr) (t : Name × Holder) → list_all (λ e. may_read around taken e) es ≡ true → In t taken
    → is_reader t.1 ≡ false → is_among t.0 (read_by_all es) ≡ false
unread_all around taken [] t h i loud = refl
unread_all around taken (e ∷ es) t h i loud =
    let p = and_parts (may_read around taken e) (list_all (λ e. may_read around taken e) es) h in
    none_among t.0 (read_by e) (read_by_all es) (unread_expr around taken e t p.0 i loud) (unread_all around taken es t p.1 i loud)

-- an unknown name is not a name of the owners
pub unknown_out : (known : Known) (owners : List Name) (x : Name) → SameKnown known owners → Unknown known x → is_among x owners ≡ false
unknown_out known owners x same u = same x ∙ ap (λ q. q || is_array known x) u.no_int ∙ u.no_array

-- names of the owners stay names of the owners
pub more_owners : (s : Stmt) (owners : List Name) (x : Name) → is_among x owners ≡ true → is_among x (known_after owners s) ≡ true
more_owners (Declare y e) owners x h = later_among x y owners h
more_owners (DeclareArray y e) owners x h = later_among x y owners h
more_owners _ owners x h = h

-- the end of an inner sync block
leave : (depth : ℕ) (own : List Name) (after : Taken) (t : Name × Holder) → In t after → is_among t.0 own ≡ false → Outer (depth + 1) t.1 → In t (freed (depth + 1) (without own after))
leave depth own after t h n o =
    in_kept (λ u. not (is_spawn_in (depth + 1) u.1)) t (without own after) (in_kept (λ u. not (is_among u.0 own)) t after h (ap not n)) (ap not (outer_not (depth + 1) t.1 o))

joined : (depth : ℕ) (taken : Taken) (t : Name × Holder) → In t taken → Outer depth t.1 → In t (freed depth taken)
joined depth taken t i o = in_kept (λ u. not (is_spawn_in depth u.1)) t taken i (ap not (outer_not depth t.1 o))

-- a cut of an array that is not held is a new cut
other_cut : (a : Name) (taken : Taken) (t : Name × Holder) → is_held taken a ≡ false → In t taken → is_cut_of a t ≡ false
other_cut a taken (x, SpawnIn d) free i = refl
other_cut a taken (x, ReaderIn d) free i = refl
other_cut a taken (x, CutOf) free i =
    refuted (same_name a x) (λ e. never (is_held taken x) (in_held (x, CutOf) taken i) (ap (is_held taken) (sym ((bytes_eq-Decides a x).0 e)) ∙ free))

module _ (program : Program) where
  -- the names that a block declares are not names of the owners
  pub not_own : (returns : Returns) (known : Known) (owners : List Name) → SameKnown known owners → (b : Block)
      → faults_in_block program returns known b ≡ [] → (x : Name) → is_among x owners ≡ true → is_among x (own_names b) ≡ false
  not_own returns known owners same b types x n =
      refuted (is_among x (own_names b)) (λ o. never (is_among x owners) n (unknown_out known owners x same (block_new program b returns known types x (own_declared b x o))))

  mutual
    stmt_goes_on : (known : Known) (line : ℕ) (s : Stmt) → faults_in program Nowhere known line s ≡ [] → surely_returns s ≡ false
    stmt_goes_on known line (Return None) types = absurd cc
    stmt_goes_on known line (Return (Some e)) types = absurd cc
    stmt_goes_on known line (IfElse e b c) types =
        ap (λ q. q && block_returns c) (goes_on known b (left_none (faults_in_block program Nowhere known b)
        (faults_in_block program Nowhere known c) (right_none (unless (is_fine known e) line) _ types)))
    stmt_goes_on known line _ types = refl

    -- if no return is allowed, no block surely returns
    goes_on : (known : Known) (b : Block) → faults_in_block program Nowhere known b ≡ [] → block_returns b ≡ false
    goes_on known End types = refl
    goes_on known (Then line s End) types = stmt_goes_on known line s (left_none _ _ types)
    goes_on known (Then line s (Then line' s' b)) types =
        goes_on (declares s known) (Then line' s' b) (right_none (unless (not (surely_returns s) || ends_block (Then line' s' b)) line) _ (right_none (faults_in program Nowhere known line s) _ types))

  abbrev StmtStays : Stmt → Type 0
  StmtStays s = (known : Known) (owners : List Name) (around : Around) → SameKnown known owners → (depth line : ℕ) (taken : Taken) → faults_in program Nowhere known line s ≡ [] →
      owner_faults program.functions around owners depth taken line s ≡ [] → (t : Name × Holder) → In t taken → Outer depth t.1
      → is_among t.0 owners ≡ true → Stays t (taken_after program.functions depth s taken) (read_in s)

  abbrev BlockStays : Block → Type 0
  BlockStays b = (known : Known) (owners : List Name) (around : Around) → SameKnown known owners
      → (depth : ℕ) (closing : Closing) (taken : Taken) (declared : Declared) → faults_in_block program Nowhere known b ≡ [] →
      owner_faults_in program.functions around owners depth closing taken declared b ≡ [] → (t : Name × Holder) → In t taken → Outer depth t.1
      → is_among t.0 owners ≡ true → Stays t (taken_after_all program.functions depth b taken) (read_in_block b)

  choice_stays : (e : Expr) (b c : Block) → BlockStays b → BlockStays c → StmtStays (IfElse e b c)
  choice_stays e b c one other known owners around same depth line taken types owns t i o n = record {
    stays = in_left t _ _ (subst (λ r. In t (where_it_goes_on r (without (own_names b) (taken_after_all program.functions depth b taken)))) (sym (goes_on known b (left_none _ _ types')))
        (in_kept (λ u. not (is_among u.0 (own_names b))) t (taken_after_all program.functions depth b taken) first.stays (ap not (not_own Nowhere known owners same b (left_none _ _ types') t.0 n))));
    unread = λ loud. none_among t.0 (read_by e) (read_in_block b ++ read_in_block c)
        (unread_expr around taken e t (kept (may_read around taken e) line (left_none _ _ owns)) i loud)
        (none_among t.0 (read_in_block b) (read_in_block c) (first.unread loud) (second.unread loud));
  }
    where
      types' : faults_in_block program Nowhere known b ++ faults_in_block program Nowhere known c ≡ []
      types' = right_none (unless (is_fine known e) line) _ types

      owns' : owner_faults_in program.functions around owners depth Leaves taken [] b ++ owner_faults_in program.functions around owners depth Leaves taken [] c ≡ []
      owns' = right_none (unless (may_read around taken e) line) _ owns

      first : Stays t (taken_after_all program.functions depth b taken) (read_in_block b)
      first = one known owners around same depth Leaves taken [] (left_none _ _ types') (left_none _ _ owns') t i o n

      second : Stays t (taken_after_all program.functions depth c taken) (read_in_block c)
      second =
          other known owners around same depth Leaves taken [] (right_none (faults_in_block program Nowhere known b) (faults_in_block program Nowhere known c) types')
          (right_none (owner_faults_in program.functions around owners depth Leaves taken [] b) (owner_faults_in program.functions around owners depth Leaves taken [] c) owns') t i o n

  -- a name that a holder outside of the loop's body held stays held after the loop
  abbrev ForStays : Stmt → Type 0
  ForStays s = (known : Known) (owners : List Name) (around : Around) → SameKnown known owners → (depth line : ℕ) (taken : Taken) → faults_in program Nowhere known line s ≡ [] →
      owner_faults program.functions around owners depth taken line s ≡ [] → (t : Name × Holder) → In t taken → Outer (depth + 1) t.1
      → is_among t.0 owners ≡ true → Stays t (taken_after program.functions depth s taken) (read_in s)

  for_stays : (x y z : Name) (from to : Expr) (grain : ℕ) (over : List Name) (b : Block) → BlockStays b → ForStays (For x y z from to grain over b)
  for_stays x y z from to grain over b more known owners around same depth line taken types owns t i o n = record {
    stays = leave depth (x ∷ own_names b) (taken_after_all program.functions (depth + 1) b taken) t inner.stays
        (none_among t.0 (x ∷ []) (own_names b) (ap (λ q. if q then true else false) not_variable) (not_own Nowhere known' owners' same' b types' t.0 n')) o;
    unread = λ loud. none_among t.0 (read_by from) (read_by to ++ read_in_block b) (unread_expr (for_head around) taken from t reads.0 i loud)
        (none_among t.0 (read_by to) (read_in_block b) (unread_expr (for_head around) taken to t reads.1 i loud) (inner.unread loud));
  }
    where
      known' : Known
      known' = (x, name_kind.Integer) ∷ known

      owners' : List Name
      owners' = x ∷ owners

      types' : faults_in_block program Nowhere ((x, name_kind.Integer) ∷ known) b ≡ []
      types' = right_none (unless (is_head_of_loop program known x y z from to grain over) line) _ types

      rule : Bool
      rule = may_read (for_head around) taken from && may_read (for_head around) taken to && may_write around taken over && differ over

      rules : rule ≡ true
      rules = kept rule line (left_none (unless rule line) (owner_faults_in program.functions (InLoop (x ∷ owners) x over) (x ∷ owners) (depth + 1) Joins taken [] b) owns)

      owns' : owner_faults_in program.functions (InLoop (x ∷ owners) x over) (x ∷ owners) (depth + 1) Joins taken [] b ≡ []
      owns' = right_none (unless rule line) _ owns

      reads : (may_read (for_head around) taken from ≡ true) × (may_read (for_head around) taken to ≡ true)
      reads = and_parts (may_read (for_head around) taken from) (may_read (for_head around) taken to) (and_parts _ (may_write around taken over) (and_parts _ (differ over) rules).0).0

      same' : SameKnown ((x, name_kind.Integer) ∷ known) (x ∷ owners)
      same' w = known_more w x owners (is_int known w) (is_array known w) (same w)

      n' : is_among t.0 (x ∷ owners) ≡ true
      n' = later_among t.0 x owners n

      -- the variable is new
      not_variable : same_name t.0 x ≡ false
      not_variable = refuted (same_name t.0 x) (λ e. never (is_among t.0 owners) n
          (ap (λ z. is_among z owners) ((bytes_eq-Decides t.0 x).0 e) ∙ unknown_out known owners x same (new_unknown program known x is_new_here)))
        where
          is_new_here : is_new program known x ≡ true
          is_new_here = (head_kept program known x y z from to grain over (kept _ line (left_none (unless (is_head_of_loop program known x y z from to grain over) line) _ types))).new

      inner : Stays t (taken_after_all program.functions (depth + 1) b taken) (read_in_block b)
      inner = more ((x, name_kind.Integer) ∷ known) (x ∷ owners) (InLoop (x ∷ owners) x over) same' (depth + 1) Joins taken [] types' owns' t i o n'

  cut_stays : (a : Name) (e : Expr) (l r : Name) (b : Block) → BlockStays b → StmtStays (Cut a e l r b)
  cut_stays a e l r b more known owners around same depth line taken types owns t i o n = record {
    stays = in_kept (λ u. not (is_cut_of a u)) t (freed (depth + 1) (without (l ∷ r ∷ own_names b) after))
        (leave depth (l ∷ r ∷ own_names b) after t inner.stays not_parts (outer_more depth t.1 o)) (ap not (other_cut a taken t free i));
    unread = λ loud. none_among t.0 (read_by e) (read_in_block b) (unread_expr around taken e t rules.0 i loud) (inner.unread loud);
  }
    where
      after : Taken
      after = taken_after_all program.functions (depth + 1) b ((a, CutOf) ∷ taken)

      k : CutKept program known a e l r
      k = cut_kept program known a e l r (kept (is_cut program known a e l r) line (left_none _ _ types))

      types' : faults_in_block program Nowhere ((r, name_kind.Array) ∷ (l, name_kind.Array) ∷ known) b ≡ []
      types' = right_none (unless (is_cut program known a e l r) line) _ types

      rules : (may_read around taken e ≡ true) × (may_write around taken (a ∷ []) ≡ true)
      rules = and_parts (may_read around taken e) (may_write around taken (a ∷ [])) (kept _ line (left_none _ _ owns))

      owns' : owner_faults_in program.functions around (r ∷ l ∷ owners) (depth + 1) Joins ((a, CutOf) ∷ taken) [] b ≡ []
      owns' = right_none (unless (may_read around taken e && may_write around taken (a ∷ [])) line) _ owns

      free : is_held taken a ≡ false
      free = loose_each taken (a ∷ []) (and_parts (are_loose taken (a ∷ [])) (are_inner around (a ∷ [])) rules.1).0 a (front_among a [])

      same' : SameKnown ((r, name_kind.Array) ∷ (l, name_kind.Array) ∷ known) (r ∷ l ∷ owners)
      same' w = known_array_more w r (l ∷ owners) (is_int ((l, name_kind.Array) ∷ known) w) (is_array ((l, name_kind.Array) ∷ known) w)
          (known_array_more w l owners (is_int known w) (is_array known w) (same w))

      n' : is_among t.0 (r ∷ l ∷ owners) ≡ true
      n' = later_among t.0 r (l ∷ owners) (later_among t.0 l owners n)

      part : (y : Name) → Unknown known y → same_name t.0 y ≡ false
      part y u = refuted (same_name t.0 y) (λ e. never (is_among t.0 owners) n (ap (λ z. is_among z owners) ((bytes_eq-Decides t.0 y).0 e) ∙ unknown_out known owners y same u))

      not_parts : is_among t.0 (l ∷ r ∷ own_names b) ≡ false
      not_parts =
          none_among t.0 (l ∷ []) (r ∷ own_names b) (ap (λ q. if q then true else false) (part l (new_unknown program known l k.left)))
          (none_among t.0 (r ∷ []) (own_names b) (ap (λ q. if q then true else false) (part r (new_unknown program known r k.right)))
          (not_own Nowhere ((r, name_kind.Array) ∷ (l, name_kind.Array) ∷ known) (r ∷ l ∷ owners) same' b types' t.0 n'))

      inner : Stays t after (read_in_block b)
      inner = more ((r, name_kind.Array) ∷ (l, name_kind.Array) ∷ known) (r ∷ l ∷ owners) around same' (depth + 1) Joins ((a, CutOf) ∷ taken) [] types' owns' t (inr i) (outer_more depth t.1 o) n'

  -- names stay held after the block of a scope
  scope_stays : (b : Block) → BlockStays b → (known : Known) (owners : List Name) (around : Around) → SameKnown known owners
      → (depth : ℕ) (taken : Taken) → faults_in_block program Nowhere known b ≡ [] →
      owner_faults_in program.functions around owners (depth + 1) Joins taken [] b ≡ [] → (t : Name × Holder) → In t taken → Outer depth t.1
      → is_among t.0 owners ≡ true → Stays t (freed (depth + 1) (without (own_names b) (taken_after_all program.functions (depth + 1) b taken))) (read_in_block b)
  scope_stays b more known owners around same depth taken types owns t i o n =
      let inner = more known owners around same (depth + 1) Joins taken [] types owns t i (outer_more depth t.1 o) n in
      record {
        stays = leave depth (own_names b) (taken_after_all program.functions (depth + 1) b taken) t inner.stays
            (not_own Nowhere known owners same b types t.0 n) (outer_more depth t.1 o);
        unread = λ loud. (inner.unread loud);
      }

  mutual
    -- names stay held after a statement
    pub stmt_stays : (s : Stmt) → StmtStays s
    stmt_stays (Declare x e) known owners around same depth line taken types owns t i o n = record { stays = i; unread = λ loud. unread_expr around taken e t (kept _ line owns) i loud }
    stmt_stays (DeclareArray x e) known owners around same depth line taken types owns t i o n = record { stays = i; unread = λ loud. unread_expr around taken e t (kept _ line owns) i loud }
    stmt_stays (Assign x e) known owners around same depth line taken types owns t i o n =
        record { stays = i; unread = λ loud. unread_expr around taken e t (and_parts (may_read around taken e) (may_write around taken (x ∷ [])) (kept _ line owns)).0 i loud }
    stmt_stays (AssignElement a j e) known owners around same depth line taken types owns t i o n =
        let three = and_parts (may_read around taken j && may_read around taken e && are_loose taken (a ∷ [])) (may_index around a j) (kept _ line owns) in
        let two = and_parts (may_read around taken j && may_read around taken e) (are_loose taken (a ∷ [])) three.0 in
        let one = and_parts (may_read around taken j) (may_read around taken e) two.0 in
        record { stays = i; unread = λ loud. none_among t.0 (read_by j) (read_by e) (unread_expr around taken j t one.0 i loud) (unread_expr around taken e t one.1 i loud) }
    stmt_stays (Reduce how s e) known owners around same depth line taken types owns t i o n = record { stays = i; unread = λ loud. unread_expr around taken e t (kept _ line owns) i loud }
    stmt_stays (Call Plain site target f es) known owners around same depth line taken types owns t i o n =
        let three = and_parts _ (may_lend around (given program.functions f es) (lent program.functions f es)) (kept _ line owns) in
        let two = and_parts _ (differ (given program.functions f es)) three.0 in
        let one = and_parts (list_all (λ e. may_read around taken e) es) (may_write around taken (target_names target ++ given program.functions f es)) two.0 in
        record { stays = i; unread = λ loud. unread_all around taken es t one.0 i loud }
    stmt_stays (Call Spawned site target f es) known owners around same depth line taken types owns t i o n =
        let three = and_parts _ (may_lend around (given program.functions f es) (lent program.functions f es)) (kept _ line owns) in
        let two = and_parts _ (differ (given program.functions f es)) three.0 in
        let one = and_parts (list_all (λ e. may_read around taken e) es) (may_write around taken (target_names target ++ given program.functions f es)) two.0 in
        record {
          stays = in_right t (map (λ x. (x, ReaderIn depth)) (lent program.functions f es))
              (taken_by depth (target_names target ++ given program.functions f es) taken)
              (in_right t (map (λ x. (x, SpawnIn depth)) (target_names target ++ given program.functions f es)) taken i);
          unread =
              λ loud. unread_all around taken es t one.0 i loud;
        }
    stmt_stays (Start kind f es) known owners around same depth line taken types owns t i o n = absurd cc
    stmt_stays (Begin f from to captured over) known owners around same depth line taken types owns t i o n = absurd cc
    stmt_stays Sync known owners around same depth line taken types owns t i o n = record { stays = joined depth taken t i o; unread = λ loud. refl }
    stmt_stays (If e b) known owners around same depth line taken types owns t i o n =
        let inner = block_stays b known owners around same depth Leaves taken [] (right_none (unless (is_fine known e) line) _ types)
        (right_none (unless (may_read around taken e) line) _ owns) t i o n in
        record {
          stays = in_right t (where_it_goes_on (block_returns b) (without (own_names b) (taken_after_all program.functions depth b taken))) taken i;
          unread = λ loud. none_among t.0 (read_by e) (read_in_block b) (unread_expr around taken e t (kept (may_read around taken e) line (left_none _ _ owns)) i loud) (inner.unread loud);
        }
    stmt_stays (IfElse e b c) known owners around same depth line taken types owns t i o n =
        choice_stays e b c (block_stays b) (block_stays c) known owners around same depth line taken types owns t i o n
    stmt_stays (While e b) known owners around same depth line taken types owns t i o n =
        let all = taken_after program.functions depth (While e b) taken in
        let i' : In t all = in_left t taken (where_it_goes_on (block_returns b) (without (own_names b) (taken_after_all program.functions depth b taken))) i in
        let inner = block_stays b known owners around same depth Leaves all [] (right_none (unless (is_fine known e) line) _ types)
        (right_none (unless (may_read around all e) line) _ owns) t i' o n in
        record {
          stays = i';
          unread = λ loud. none_among t.0 (read_by e) (read_in_block b)
              (unread_expr around all e t (kept (may_read around all e) line (left_none _ _ owns)) i' loud) (inner.unread loud);
        }
    stmt_stays (For x y z from to grain over b) known owners around same depth line taken types owns t i o n =
        for_stays x y z from to grain over b (block_stays b) known owners around same depth line taken types owns t i (outer_more depth t.1 o) n
    stmt_stays (Scope b) known owners around same depth line taken types owns t i o n = scope_stays b (block_stays b) known owners around same depth taken types owns t i o n
    stmt_stays (Cut a e l r b) known owners around same depth line taken types owns t i o n = cut_stays a e l r b (block_stays b) known owners around same depth line taken types owns t i o n
    stmt_stays (Region tag b) known owners around same depth line taken types owns t i o n = scope_stays b (block_stays b) known owners around same depth taken types owns t i o n
    stmt_stays (Print e) known owners around same depth line taken types owns t i o n = record { stays = i; unread = λ loud. unread_expr around taken e t (kept _ line owns) i loud }
    stmt_stays (Return None) known owners around same depth line taken types owns t i o n = absurd cc
    stmt_stays (Return (Some e)) known owners around same depth line taken types owns t i o n = absurd cc

    -- names stay held after a block
    pub block_stays : (b : Block) → BlockStays b
    block_stays End known owners around same depth closing taken declared types owns t i o n = record { stays = i; unread = λ loud. refl }
    block_stays (Then line s b) known owners around same depth closing taken declared types owns t i o n =
        let here = stmt_stays s known owners around same depth line taken (left_none _ _ types) (left_none _ _ owns) t i o n in
        let rest = block_stays b (declares s known) (known_after owners s) around (after_known s known owners same) depth closing
        (taken_after program.functions depth s taken) (declared_by line s declared)
        (right_none (unless (not (surely_returns s) || ends_block b) line) _ (right_none (faults_in program Nowhere known line s) _ types))
        (right_none (owner_faults program.functions around owners depth taken line s) _ owns) t here.stays o (more_owners s owners t.0 n) in
        record { stays = rest.stays; unread = λ loud. none_among t.0 (read_in s) (read_in_block b) (here.unread loud) (rest.unread loud) }

  -- every `cilk_for` satisfies `ForStays`
  pub for_keeps : (x y z : Name) (from to : Expr) (grain : ℕ) (over : List Name) (b : Block) → ForStays (For x y z from to grain over b)
  for_keeps x y z from to grain over b = for_stays x y z from to grain over b (block_stays b)
