-- No name that a lowered program uses is taken.
use Rattle.cw_facts.specs.Tests.{not_true, never, refuted, either_right}
use Rattle.cw_model.specs.declared.syntax.NameKind.TheVariants as name_kind
use Rattle.std.proofs.Common.{◌≡◌, ℕ, zero, suc, ◌+◌, ◌≤◌, List, [], ◌∷◌, ◌++◌, true, false, refl, sym, ap, ◌∙◌, arith, inr}
use Rattle.std.specs.Prelude.{map, flat_map, not, ◌&&◌, ◌||◌, if◌then◌else◌, Option, Some, None}
use Rattle.std.specs.List.{list_all, list_any}
use Rattle.std.proofs.lemmas.Bool.{and_parts}
use Rattle.cw_model.specs.declared.syntax.CallKind.{CallKind}
use Rattle.cw_model.specs.Lines.{unless}
use Rattle.cw_model.specs.Syntax.{Name, Expr, Stmt, Declare, DeclareArray, Assign, AssignElement, Reduce, Call, Start, Begin, Sync, If}
use Rattle.cw_model.specs.Syntax.{IfElse, While, For, Scope, Cut, Region, Print, Return, Block, End, Then, Function, Program}
use Rattle.cw_model.specs.Names.{is_among, differ}
use Rattle.cw_model.specs.Captured.{captured, read_by, read_in_block, declared_in_block}
use Rattle.cw_model.specs.Meaning.{function_named}
use Rattle.cw_model.specs.Typing.{Known, Returns, Nowhere, WithInt, Alone, is_fine, is_int, is_array, is_call, called, is_cut, is_head}
use Rattle.cw_model.specs.Typing.{is_head_of_loop, surely_returns, declares, ends_block, known_of, faults_in, faults_in_block, faults_of}
use Rattle.cw_model.specs.Ownership.{Holder, CutOf, Taken, is_reader, is_taken, is_held, freed, own_names, target_names, given, lent, names_in, are_free, are_loose}
use Rattle.cw_model.specs.Ownership.{are_inner, keeps_loop, may_read, may_write, may_lend, may_index, for_head, Around, NoLoop, InLoop, Closing, Joins, Leaves, Declared}
use Rattle.cw_model.specs.Ownership.{declared_by, known_after, taken_after, taken_after_all, owner_faults, owner_faults_in, owner_faults_of}
use Rattle.cw_model.specs.WhileLaw.{WhilesAreLeast}
use Rattle.cw_model.specs.lemmas.Kept.{left_none, right_none, kept}
use Rattle.cw_tree.specs.lemmas.Names.{front_among, later_among}
use Rattle.cw_loops.specs.Lowered.{is_plain, low, lower_expr, lower_exprs, lower_stmt, lower_block, loop_count, loop_count_in}
use Rattle.cw_loops.specs.Lowered.{made_by, made_in, made_of, loop_name, loop_function, lower_functions, lowered}
use Rattle.cw_loops.specs.Lowerable.{is_lowerable}
use Rattle.cw_loops.specs.SourceLike.{is_source_expr, is_source_target, is_source_stmt, is_source_block, is_source_function}
use Rattle.cw_loops.specs.LoweringLaws.{IsOwnedSource}
use Rattle.cw_loops.specs.lemmas.Naming.{Placed, at_front, after_it, placed, each_of, among_left, among_right, new_are_there}
use Rattle.cw_loops.specs.lemmas.Knowing.{known_more, known_array_more, new_unknown, not_both}
use Rattle.cw_loops.specs.lemmas.Declaring.{HeadKept, head_kept, CutKept, cut_kept}
use Rattle.cw_loops.specs.lemmas.Seeing.{SameKnown, after_known, call_kept, Seen, Home, declared_there, known_before, home, block_seen}
use Rattle.cw_loops.specs.lemmas.Heads.{parameters_known, head_of, heads_kept}
use Rattle.cw_loops.specs.lemmas.Finding.{Found, found_left, found_right, all_found, params_same}
use Rattle.cw_gen.proofs.HeldNames.{held_after, held_after_all}
use Rattle.cw_gen.proofs.Fine.{EndsFree}
use Rattle.cw_gen.proofs.Kept.{ExprsFree, StmtFree, BlockFree, AllFree}
use Rattle.cw_gen.proofs.Takens.{ends_free, loose_free}
use Rattle.cw_gen.proofs.FreeTexts.{own_same, free_each, free_all, loose_each, loose_all, index_free, expr_free}
use Rattle.cw_gen.proofs.FreeMembers.{In, not_in, free_after}
use Rattle.cw_gen.proofs.FreeStays.{for_keeps, unknown_out}
use Rattle.cw_gen.proofs.FreeCarried.{deeper, AllCarried, deeper_all, inside_more, inside_outer, reader_moved, free_carried, loose_carried, plain_carried, named_carried, end_carried, cut_carried}
use Rattle.cw_gen.proofs.FreeAfter.{call_same, lent_call_same, stmt_carries, block_carries}
use Rattle.cw_gen.proofs.FreeLoops.{Nothing, loop_free}

-- the difference between the depth of a loop's body in the source and in its function
record Shift (source : ℕ) : Type 0 where
  shift : ℕ
  is : source + 1 ≡ 2 + shift

shift_of : (source : ℕ) → 1 ≤ source → Shift source
shift_of zero h = absurd (omega (arith, h))
shift_of (suc n) h = record { shift = n; is = omega arith }

both_free : (gs xs ys : List Function) → AllFree gs xs → AllFree gs ys → AllFree gs (xs ++ ys)
both_free gs [] ys h g = g
both_free gs (x ∷ xs) ys h g = (h.0, both_free gs xs ys h.1 g)

-- names that are free in the source are free in the lowered text
module _ (shift depth : ℕ) (owners : List Name) (held taken : Taken) (all : AllCarried shift depth owners held taken) where
  names_free : (xs : List Name) → are_free taken xs ≡ true → are_free held xs ≡ true
  names_free xs h = free_all held xs (λ x o. free_carried shift depth owners held taken all x (free_each taken xs h x o))

  low_free : is_taken held low ≡ false
  low_free = loose_free low held (plain_carried shift depth owners held taken all low refl)

  -- names that are not held in the source are not held in the lowered text
  names_loose : (xs : List Name) → are_loose taken xs ≡ true → are_loose held xs ≡ true
  names_loose xs h = loose_all held xs (λ x o. loose_carried shift depth owners held taken all x (loose_each taken xs h x o))

  lowered_free : (over : List Name) (e : Expr) → are_free taken (names_in e) ≡ true → are_free held (names_in (lower_expr over e)) ≡ true
  lowered_free over e h = expr_free held over e low_free (names_free (names_in e) h)

  read_free : (around : Around) (over : List Name) (e : Expr) → may_read around taken e ≡ true → are_free held (names_in (lower_expr over e)) ≡ true
  read_free around over e h = lowered_free over e (and_parts (are_free taken (names_in e)) (keeps_loop around e) h).0

  reads_free : (around : Around) (over : List Name) (es : List Expr) → list_all (λ e. may_read around taken e) es ≡ true → ExprsFree held (lower_exprs over es)
  reads_free around over [] h = tt
  reads_free around over (e ∷ es) h =
      let p = and_parts (may_read around taken e) (list_all (λ e. may_read around taken e) es) h in
      (read_free around over e p.0, reads_free around over es p.1)

  write_loose : (around : Around) (x : Name) → may_write around taken (x ∷ []) ≡ true → is_held held x ≡ false
  write_loose around x h = loose_carried shift depth owners held taken all x (loose_each taken (x ∷ []) (and_parts (are_loose taken (x ∷ [])) (are_inner around (x ∷ [])) h).0 x (front_among x []))

  write_free : (around : Around) (x : Name) → may_write around taken (x ∷ []) ≡ true → is_taken held x ≡ false
  write_free around x h = loose_free x held (write_loose around x h)

module _ (program : Program) (least : WhilesAreLeast) (gs : List Function) (same_params : (g : Name) → is_plain g ≡ true
    → (function_named g gs).params ≡ (function_named g program.functions).params) where
  abbrev StmtFrees : Stmt → Type 0
  StmtFrees s = (over : List Name) (k : ℕ) (known : Known) (owners : List Name) (around : Around) → SameKnown known owners
      → (returns : Returns) (line depth source shift : ℕ) → 1 ≤ source → source ≡ depth + shift → (held taken : Taken) →
      is_source_stmt s ≡ true → faults_in program returns known line s ≡ [] → owner_faults program.functions around owners source taken line s ≡ []
      → AllCarried shift depth owners held taken → Found gs (made_by line k s) →
      StmtFree gs depth held (lower_stmt over k s) × AllFree gs (made_by line k s)

  abbrev BlockFrees : Block → Type 0
  BlockFrees b = (over : List Name) (k : ℕ) (known : Known) (owners : List Name) (around : Around) → SameKnown known owners
      → (returns : Returns) (depth source shift : ℕ) → 1 ≤ source → source ≡ depth + shift → (closing : Closing) (held taken : Taken) (declared : Declared) →
      is_source_block b ≡ true → faults_in_block program returns known b ≡ []
      → owner_faults_in program.functions around owners source closing taken declared b ≡ [] → AllCarried shift depth owners held taken → Found gs (made_in k b) →
      BlockFree gs depth held (lower_block over k b) × AllFree gs (made_in k b)

  -- the names of a block are free at its end
  block_ends : (b : Block) (over : List Name) (k : ℕ) (known : Known) (owners : List Name) (around : Around) → SameKnown known owners
      → (returns : Returns) (depth source shift : ℕ) → source ≡ depth + shift → (closing : Closing) (held taken : Taken) →
      is_source_block b ≡ true → faults_in_block program returns known b ≡ []
      → owner_faults_in program.functions around owners source closing taken [] b ≡ [] → AllCarried shift depth owners held taken →
      EndsFree gs depth closing held (lower_block over k b)
  block_ends b over k known owners around same returns depth source shift e closing held taken src types owns all x o =
      loose_carried shift depth (own_names b ++ owners) _ _ (end_carried shift depth source (own_names b ++ owners) closing
      (held_after_all gs depth (lower_block over k b) held) (taken_after_all program.functions source b taken) e
      (block_carries program least gs same_params b over k known owners around same returns depth source shift e closing held taken [] src types owns all))
      x (ends_free program.functions around owners source closing taken [] b owns x (inr (ap (is_among x) (sym (own_same over b k)) ∙ o)))

  -- no taken name is used in the block of a branch
  branch_frees : (b : Block) → BlockFrees b → (over : List Name) (k : ℕ) (known : Known) (owners : List Name) (around : Around)
      → SameKnown known owners → (returns : Returns) (depth source shift : ℕ) → 1 ≤ source → source ≡ depth + shift → (closing : Closing) (held taken : Taken) →
      is_source_block b ≡ true → faults_in_block program returns known b ≡ []
      → owner_faults_in program.functions around owners source closing taken [] b ≡ [] → AllCarried shift depth owners held taken → Found gs (made_in k b) →
      (BlockFree gs depth held (lower_block over k b) × EndsFree gs depth closing held (lower_block over k b)) × AllFree gs (made_in k b)
  branch_frees b more over k known owners around same returns depth source shift some e closing held taken src types owns all found =
      let r = more over k known owners around same returns depth source shift some e closing held taken [] src types owns all found in
      ((r.0, block_ends b over k known owners around same returns depth source shift e closing held taken src types owns all), r.1)

  call_frees : (kind : CallKind) (site : ℕ) (target : Option Name) (f : Name) (es : List Expr) → StmtFrees (Call kind site target f es)
  call_frees kind site target f es over k known owners around same returns line depth source shift some e held taken src types owns all found =
      let s = and_parts (is_source_target target) (is_plain f && list_all is_source_expr es) src in
      let t = and_parts (is_plain f) (list_all is_source_expr es) s.1 in
      let c = call_kept program.functions known target f es (kept (is_call known target (called f program.functions) es) line types) in
      let gives = given program.functions f es in
      let lends = lent program.functions f es in
      let three = and_parts _ (may_lend around gives lends) (kept _ line owns) in
      let two = and_parts (list_all (λ e. may_read around taken e) es && may_write around taken (target_names target ++ gives)) (differ gives) three.0 in
      let one = and_parts (list_all (λ e. may_read around taken e) es) (may_write around taken (target_names target ++ gives)) two.0 in
      let loose = names_loose shift depth owners held taken all (target_names target ++ gives)
      (and_parts (are_loose taken (target_names target ++ gives)) (are_inner around (target_names target ++ gives)) one.1).0 in
      let same_given = call_same program.functions gs over known target f es (same_params f t.0) c in
      let same_lent = lent_call_same program.functions gs over known target f es (same_params f t.0) c in
      let lending = and_parts (are_inner around lends) (not (list_any (λ a. is_among a gives) lends)) three.1 in (
        (
          free_all held (target_names target) (λ x o. loose_free x held (loose_each held (target_names target ++ gives) loose x (among_left x (target_names target) gives o))),
          reads_free shift depth owners held taken all around over es one.0,
          ap differ same_given ∙ two.1,
          ap (are_loose held) same_given ∙ loose_all held gives (λ x o. loose_each held (target_names target ++ gives) loose x (among_right x (target_names target) gives o)),
          ap (λ g. list_any (λ a. is_among a g) (lent gs f (lower_exprs over es))) same_given
              ∙ ap (λ l. list_any (λ a. is_among a gives) l) same_lent ∙ not_true (list_any (λ a. is_among a gives) lends) lending.1,
        ),
        tt,
      )

  cut_frees : (a : Name) (at : Expr) (l r : Name) (b : Block) → BlockFrees b → StmtFrees (Cut a at l r b)
  cut_frees a at l r b more over k known owners around same returns line depth source shift some e held taken src types owns all found = (
    (
      write_loose shift depth owners held taken all around a rules.1,
      read_free shift depth owners held taken all around over at rules.0,
      inner.0.0,
      (λ x o. ends x (placed x l (r ∷ own_names (lower_block over k b)) o)),
    ),
    inner.1,
  )
    where
      c : CutKept program known a at l r
      c = cut_kept program known a at l r (kept (is_cut program known a at l r) line (left_none _ (faults_in_block program Nowhere ((r, name_kind.Array) ∷ (l, name_kind.Array) ∷ known) b) types))

      rules : (may_read around taken at ≡ true) × (may_write around taken (a ∷ []) ≡ true)
      rules = and_parts (may_read around taken at) (may_write around taken (a ∷ []))
          (kept _ line (left_none _ (owner_faults_in program.functions around (r ∷ l ∷ owners) (source + 1) Joins ((a, CutOf) ∷ taken) [] b) owns))

      s1 : (is_plain a ≡ true) × ((is_source_expr at && (is_plain l && (is_plain r && is_source_block b))) ≡ true)
      s1 = and_parts (is_plain a) (is_source_expr at && (is_plain l && (is_plain r && is_source_block b))) src

      s2 : is_source_block b ≡ true
      s2 = (and_parts (is_plain r) (is_source_block b) (and_parts (is_plain l) (is_plain r && is_source_block b)
          (and_parts (is_source_expr at) (is_plain l && (is_plain r && is_source_block b)) s1.1).1).1).1

      same' : SameKnown ((r, name_kind.Array) ∷ (l, name_kind.Array) ∷ known) (r ∷ l ∷ owners)
      same' w = known_array_more w r (l ∷ owners) (is_int ((l, name_kind.Array) ∷ known) w) (is_array ((l, name_kind.Array) ∷ known) w)
          (known_array_more w l owners (is_int known w) (is_array known w) (same w))

      cut : AllCarried shift depth owners ((a, CutOf) ∷ held) ((a, CutOf) ∷ taken)
      cut = cut_carried shift depth owners a held taken s1.0 (same a ∙ either_right (is_int known a) (is_array known a) c.array) all

      all' : AllCarried shift (depth + 1) (r ∷ l ∷ owners) ((a, CutOf) ∷ held) ((a, CutOf) ∷ taken)
      all' t h = let q = cut t h in record { there = q.there; plain = q.plain; named = later_among t.0 r (l ∷ owners) (later_among t.0 l owners q.named); inside = inside_more depth t.1 q.inside }

      inner : (BlockFree gs (depth + 1) ((a, CutOf) ∷ held) (lower_block over k b) × EndsFree gs (depth + 1) Joins ((a, CutOf) ∷ held) (lower_block over k b)) × AllFree gs (made_in k b)
      inner =
          branch_frees b more over k ((r, name_kind.Array) ∷ (l, name_kind.Array) ∷ known) (r ∷ l ∷ owners) around same' Nowhere (depth + 1)
          (source + 1) shift (omega arith) (omega (arith, e)) Joins ((a, CutOf) ∷ held) ((a, CutOf) ∷ taken) s2
          (right_none (unless (is_cut program known a at l r) line) (faults_in_block program Nowhere ((r, name_kind.Array) ∷ (l, name_kind.Array) ∷ known) b) types)
          (right_none (unless (may_read around taken at && may_write around taken (a ∷ [])) line)
          (owner_faults_in program.functions around (r ∷ l ∷ owners) (source + 1) Joins ((a, CutOf) ∷ taken) [] b) owns) all' found

      part_free : (x y : Name) → x ≡ y → is_among y owners ≡ false → is_held (freed (depth + 1) (held_after_all gs (depth + 1) (lower_block over k b) ((a, CutOf) ∷ held))) x ≡ false
      part_free x y e' new =
          ap (is_held (freed (depth + 1) (held_after_all gs (depth + 1) (lower_block over k b) ((a, CutOf) ∷ held)))) e'
          ∙ free_after gs (depth + 1) (lower_block over k b) ((a, CutOf) ∷ held) y (named_carried shift depth owners ((a, CutOf) ∷ held) ((a, CutOf) ∷ taken) cut y new)

      later : (x : Name) → Placed x r (own_names (lower_block over k b)) → is_held (freed (depth + 1) (held_after_all gs (depth + 1) (lower_block over k b) ((a, CutOf) ∷ held))) x ≡ false
      later x (at_front e') = part_free x r e' (unknown_out known owners r same (new_unknown program known r c.right))
      later x (after_it other o) = inner.0.1 x o

      ends : (x : Name) → Placed x l (r ∷ own_names (lower_block over k b)) → is_held (freed (depth + 1) (held_after_all gs (depth + 1) (lower_block over k b) ((a, CutOf) ∷ held))) x ≡ false
      ends x (at_front e') = part_free x l e' (unknown_out known owners l same (new_unknown program known l c.left))
      ends x (after_it other o) = later x (placed x r (own_names (lower_block over k b)) o)

  for_frees : (x y z : Name) (from to : Expr) (grain : ℕ) (on : List Name) (b : Block) → BlockFrees b → StmtFrees (For x y z from to grain on b)
  for_frees x y z from to grain on b more over k known owners around same returns line depth source shift some e held taken src types owns all found = (
    (
      read_free shift depth owners held taken all (for_head around) over from reads.0,
      read_free shift depth owners held taken all (for_head around) over to reads.1,
      free_all held (captured x b) (λ v o. not_in v held (λ h i loud. never (is_among v (read_by from ++ (read_by to ++ read_in_block b))) (read_here v (there v o).0) (unread (v, h) i loud))),
      names_loose shift depth owners held taken all on over_loose,
    ),
    both_free gs (made_in k b) (loop_function (loop_name (k + loop_count_in b)) line x grain (captured x b) on (lower_block on k b) ∷ []) (inside [] (λ t i. i)).1 (
      loop_free gs (loop_name (k + loop_count_in b)) line x grain (captured x b) on (lower_block on k b)
          (found_right gs (made_in k b) (loop_function (loop_name (k + loop_count_in b)) line x grain (captured x b) on (lower_block on k b) ∷ []) found).0
          (λ v o. (seen v o).plain) (each_of is_plain on s4.0) no_int apart (λ h n. (inside h n).0),
      tt,
    ),
  )
    where
      head : HeadKept program known x from to grain on
      head = head_kept program known x y z from to grain on (kept (is_head_of_loop program known x y z from to grain on) line
          (left_none (unless (is_head_of_loop program known x y z from to grain on) line) (faults_in_block program Nowhere ((x, name_kind.Integer) ∷ known) b) types))

      types' : faults_in_block program Nowhere ((x, name_kind.Integer) ∷ known) b ≡ []
      types' = right_none (unless (is_head_of_loop program known x y z from to grain on) line) (faults_in_block program Nowhere ((x, name_kind.Integer) ∷ known) b) types

      kept_rules : ((may_read (for_head around) taken from && may_read (for_head around) taken to && may_write around taken on && differ on) ≡ true)
          × (owner_faults_in program.functions (InLoop (x ∷ owners) x on) (x ∷ owners) (source + 1) Joins taken [] b ≡ [])
      kept_rules =
          let r = may_read (for_head around) taken from && may_read (for_head around) taken to && may_write around taken on && differ on in
          let f = owner_faults_in program.functions (InLoop (x ∷ owners) x on) (x ∷ owners) (source + 1) Joins taken [] b in
          (kept r line (left_none (unless r line) f owns), right_none (unless r line) f owns)

      three : ((may_read (for_head around) taken from && may_read (for_head around) taken to && may_write around taken on) ≡ true) × (differ on ≡ true)
      three = and_parts (may_read (for_head around) taken from && may_read (for_head around) taken to && may_write around taken on) (differ on) kept_rules.0

      apart : differ on ≡ true
      apart = three.1

      two : ((may_read (for_head around) taken from && may_read (for_head around) taken to) ≡ true) × (may_write around taken on ≡ true)
      two = and_parts (may_read (for_head around) taken from && may_read (for_head around) taken to) (may_write around taken on) three.0

      reads : (may_read (for_head around) taken from ≡ true) × (may_read (for_head around) taken to ≡ true)
      reads = and_parts (may_read (for_head around) taken from) (may_read (for_head around) taken to) two.0

      over_loose : are_loose taken on ≡ true
      over_loose = (and_parts (are_loose taken on) (are_inner around on) two.1).0

      s1 : (is_plain x ≡ true) × ((is_source_expr from && (is_source_expr to && (list_all is_plain on && is_source_block b))) ≡ true)
      s1 = and_parts (is_plain x) (is_source_expr from && (is_source_expr to && (list_all is_plain on && is_source_block b))) src

      s2 : (is_source_expr from ≡ true) × ((is_source_expr to && (list_all is_plain on && is_source_block b)) ≡ true)
      s2 = and_parts (is_source_expr from) (is_source_expr to && (list_all is_plain on && is_source_block b)) s1.1

      s4 : (list_all is_plain on ≡ true) × (is_source_block b ≡ true)
      s4 = and_parts (list_all is_plain on) (is_source_block b) (and_parts (is_source_expr to) (list_all is_plain on && is_source_block b) s2.1).1

      same' : SameKnown ((x, name_kind.Integer) ∷ known) (x ∷ owners)
      same' w = known_more w x owners (is_int known w) (is_array known w) (same w)

      there : (v : Name) → is_among v (captured x b) ≡ true → (is_among v (read_in_block b) ≡ true) × (is_among v (x ∷ declared_in_block b) ≡ false)
      there v o = new_are_there v (read_in_block b) (x ∷ declared_in_block b) o

      read_here : (v : Name) → is_among v (read_in_block b) ≡ true → is_among v (read_by from ++ (read_by to ++ read_in_block b)) ≡ true
      read_here v o = among_right v (read_by from) (read_by to ++ read_in_block b) (among_right v (read_by to) (read_in_block b) o)

      unread : (t : Name × Holder) → In t held → is_reader t.1 ≡ false → is_among t.0 (read_by from ++ (read_by to ++ read_in_block b)) ≡ false
      unread t i loud =
          let c = all t i in
          (for_keeps program x y z from to grain on b known owners around same source line taken types owns (t.0, deeper shift t.1) c.there
          (inside_outer shift depth source t.1 e c.inside) c.named).unread (reader_moved shift t.1 ∙ loud)

      seen : (v : Name) → is_among v (captured x b) ≡ true → Seen (InLoop (x ∷ owners) x on) ((x, name_kind.Integer) ∷ known) (declared_in_block b) v
      seen v o = block_seen program program.functions refl b Nowhere ((x, name_kind.Integer) ∷ known) (x ∷ owners) (InLoop (x ∷ owners) x on) same'
          (source + 1) Joins taken [] s4.1 types' kept_rules.1 v (there v o).0

      no_int : (v : Name) → is_among v (captured x b) ≡ true → is_among v on ≡ false
      no_int v o = refuted (is_among v on) (λ p. never (is_array known v) (each_of (is_array known) on head.arrays v p)
          (by_home (home x known owners same on (declared_in_block b) v (seen v o).place)))
        where
          by_home : Home x known (declared_in_block b) v → is_array known v ≡ false
          by_home (declared_there p) = never (is_among v (x ∷ declared_in_block b)) p (there v o).1
          by_home (known_before p) = not_both known v p

      inside : (h : Taken) → Nothing h → (BlockFree gs 2 h (lower_block on k b) × EndsFree gs 2 Joins h (lower_block on k b)) × AllFree gs (made_in k b)
      inside h n =
          let d = shift_of source some in
          branch_frees b more on k ((x, name_kind.Integer) ∷ known) (x ∷ owners) (InLoop (x ∷ owners) x on) same' Nowhere 2 (source + 1) d.shift
          (omega arith) d.is Joins h taken s4.1 types' kept_rules.1 (λ t i. absurd (n t i))
          (found_left gs (made_in k b) (loop_function (loop_name (k + loop_count_in b)) line x grain (captured x b) on (lower_block on k b) ∷ []) found)

  while_frees : (e : Expr) (b : Block) → BlockFrees b → StmtFrees (While e b)
  while_frees test b more over k known owners around same returns line depth source shift some e held taken src types owns all found =
      let held' = held_after gs depth (While (lower_expr over test) (lower_block over k b)) held in
      let taken' = taken_after program.functions source (While test b) taken in
      let all' : AllCarried shift depth owners held' taken' = stmt_carries program least gs same_params
      (While test b) over k known owners around same returns line depth source shift e held taken src types owns all in
      let s = and_parts (is_source_expr test) (is_source_block b) src in
      let inner = branch_frees b more over k known owners around same returns depth source shift some e Leaves held' taken' s.1
      (right_none (unless (is_fine known test) line) _ types) (right_none (unless (may_read around taken' test) line) _ owns) all' found in
      ((read_free shift depth owners held' taken' all' around over test (kept (may_read around taken' test) line (left_none _ _ owns)), inner.0.0, inner.0.1), inner.1)

  choice_frees : (e : Expr) (b c : Block) → BlockFrees b → BlockFrees c → StmtFrees (IfElse e b c)
  choice_frees test b c one other over k known owners around same returns line depth source shift some e held taken src types owns all found =
      let s = and_parts (is_source_expr test) (is_source_block b && is_source_block c) src in
      let s' = and_parts (is_source_block b) (is_source_block c) s.1 in
      let types' = right_none (unless (is_fine known test) line) (faults_in_block program returns known b ++ faults_in_block program returns known c) types in
      let owns' = right_none (unless (may_read around taken test) line)
      (owner_faults_in program.functions around owners source Leaves taken [] b
      ++ owner_faults_in program.functions around owners source Leaves taken [] c) owns in
      let k' = k + loop_count_in b in
      let first = branch_frees b one over k known owners around same returns depth source shift some e Leaves held taken s'.0 (left_none _ _ types')
      (left_none _ _ owns') all (found_left gs (made_in k b) (made_in k' c) found) in
      let second = branch_frees c other over k' known owners around same returns depth source shift some e Leaves held taken s'.1
      (right_none _ _ types') (right_none _ _ owns') all (found_right gs (made_in k b) (made_in k' c) found) in (
        (
          read_free shift depth owners held taken all around over test (kept (may_read around taken test) line (left_none _ _ owns)),
          first.0,
          second.0,
        ),
        both_free gs (made_in k b) (made_in k' c) first.1 second.1,
      )

  element_frees : (a : Name) (i e : Expr) → StmtFrees (AssignElement a i e)
  element_frees a i e' over k known owners around same returns line depth source shift some e held taken src types owns all found =
      let three = and_parts (may_read around taken i && may_read around taken e' && are_loose taken (a ∷ [])) (may_index around a i) (kept _ line owns) in
      let two = and_parts (may_read around taken i && may_read around taken e') (are_loose taken (a ∷ [])) three.0 in
      let one = and_parts (may_read around taken i) (may_read around taken e') two.0 in (
        (
          loose_carried shift depth owners held taken all a (loose_each taken (a ∷ []) two.1 a (front_among a [])),
          index_free held (is_among a over) (lower_expr over i) (low_free shift depth owners held taken all) (read_free shift depth owners held taken all around over i one.0),
          read_free shift depth owners held taken all around over e' one.1,
        ),
        tt,
      )

  scope_frees : (b : Block) → BlockFrees b → (over : List Name) (k : ℕ) (known : Known) (owners : List Name) (around : Around)
      → SameKnown known owners → (depth source shift : ℕ) → source ≡ depth + shift → (held taken : Taken) →
      is_source_block b ≡ true → faults_in_block program Nowhere known b ≡ []
      → owner_faults_in program.functions around owners (source + 1) Joins taken [] b ≡ [] → AllCarried shift depth owners held taken → Found gs (made_in k b) →
      (BlockFree gs (depth + 1) held (lower_block over k b) × EndsFree gs (depth + 1) Joins held (lower_block over k b)) × AllFree gs (made_in k b)
  scope_frees b more over k known owners around same depth source shift e held taken src types owns all found =
      branch_frees b more over k known owners around same Nowhere (depth + 1) (source + 1) shift (omega arith)
      (omega (arith, e)) Joins held taken src types owns (deeper_all shift depth owners held taken all) found

  mutual
    -- no taken name is used in a statement and in the functions of its loops
    pub stmt_frees : (s : Stmt) → StmtFrees s
    stmt_frees (Declare x e') over k known owners around same returns line depth source shift some e held taken src types owns all found =
        (read_free shift depth owners held taken all around over e' (kept (may_read around taken e') line owns), tt)
    stmt_frees (DeclareArray x e') over k known owners around same returns line depth source shift some e held taken src types owns all found =
        (read_free shift depth owners held taken all around over e' (kept (may_read around taken e') line owns), tt)
    stmt_frees (Assign x e') over k known owners around same returns line depth source shift some e held taken src types owns all found =
        let p = and_parts (may_read around taken e') (may_write around taken (x ∷ [])) (kept _ line owns) in
        ((write_free shift depth owners held taken all around x p.1, read_free shift depth owners held taken all around over e' p.0), tt)
    stmt_frees (AssignElement a i e') over k known owners around same returns line depth source shift some e held taken src types owns all found =
        element_frees a i e' over k known owners around same returns line depth source shift some e held taken src types owns all found
    stmt_frees (Reduce how s e') over k known owners around same returns line depth source shift some e held taken src types owns all found =
        (read_free shift depth owners held taken all around over e' (kept (may_read around taken e') line owns), tt)
    stmt_frees (Call kind site target f es) over k known owners around same returns line depth source shift some e held taken src types owns all found =
        call_frees kind site target f es over k known owners around same returns line depth source shift some e held taken src types owns all found
    stmt_frees (Start kind f es) over k known owners around same returns line depth source shift some e held taken src types owns all found = absurd cc
    stmt_frees (Begin f from to ints on) over k known owners around same returns line depth source shift some e held taken src types owns all found = absurd cc
    stmt_frees Sync over k known owners around same returns line depth source shift some e held taken src types owns all found = (tt, tt)
    stmt_frees (If e' b) over k known owners around same returns line depth source shift some e held taken src types owns all found =
        let s = and_parts (is_source_expr e') (is_source_block b) src in
        let inner = branch_frees b (block_frees b) over k known owners around same returns depth source shift some e Leaves held taken s.1
        (right_none (unless (is_fine known e') line) _ types) (right_none (unless (may_read around taken e') line) _ owns) all found in
        ((read_free shift depth owners held taken all around over e' (kept (may_read around taken e') line (left_none _ _ owns)), inner.0.0, inner.0.1), inner.1)
    stmt_frees (IfElse e' b c) over k known owners around same returns line depth source shift some e held taken src types owns all found =
        choice_frees e' b c (block_frees b) (block_frees c) over k known owners around same returns line depth source shift some e held taken src types owns all found
    stmt_frees (While e' b) over k known owners around same returns line depth source shift some e held taken src types owns all found =
        while_frees e' b (block_frees b) over k known owners around same returns line depth source shift some e held taken src types owns all found
    stmt_frees (For x y z from to grain on b) over k known owners around same returns line depth source shift some e held taken src types owns all found =
        for_frees x y z from to grain on b (block_frees b) over k known owners around same returns line depth source shift some e held taken src types owns all found
    stmt_frees (Scope b) over k known owners around same returns line depth source shift some e held taken src types owns all found =
        scope_frees b (block_frees b) over k known owners around same depth source shift e held taken src types owns all found
    stmt_frees (Cut a at l r b) over k known owners around same returns line depth source shift some e held taken src types owns all found =
        cut_frees a at l r b (block_frees b) over k known owners around same returns line depth source shift some e held taken src types owns all found
    stmt_frees (Region tag b) over k known owners around same returns line depth source shift some e held taken src types owns all found =
        scope_frees b (block_frees b) over k known owners around same depth source shift e held taken src types owns all found
    stmt_frees (Print e') over k known owners around same returns line depth source shift some e held taken src types owns all found =
        (read_free shift depth owners held taken all around over e' (kept (may_read around taken e') line owns), tt)
    stmt_frees (Return None) over k known owners around same returns line depth source shift some e held taken src types owns all found = (tt, tt)
    stmt_frees (Return (Some e')) over k known owners around same returns line depth source shift some e held taken src types owns all found =
        (read_free shift depth owners held taken all around over e' (kept (may_read around taken e') line owns), tt)

    -- no taken name is used in a block and in the functions of its loops
    pub block_frees : (b : Block) → BlockFrees b
    block_frees End over k known owners around same returns depth source shift some e closing held taken declared src types owns all found = (tt, tt)
    block_frees (Then line s b) over k known owners around same returns depth source shift some e closing held taken declared src types owns all found =
        let q = and_parts (is_source_stmt s) (is_source_block b) src in
        let types_s = left_none (faults_in program returns known line s) _ types in
        let owns_s = left_none (owner_faults program.functions around owners source taken line s) _ owns in
        let here = stmt_frees s over k known owners around same returns line depth source shift some e held taken q.0 types_s owns_s all
        (found_left gs (made_by line k s) (made_in (k + loop_count s) b) found) in
        let after = stmt_carries program least gs same_params s over k known owners around same returns line depth source shift e held taken q.0 types_s owns_s all in
        let rest = block_frees b over (k + loop_count s) (declares s known) (known_after owners s) around
        (after_known s known owners same) returns depth source shift some e closing (held_after gs depth (lower_stmt over k s) held)
        (taken_after program.functions source s taken) (declared_by line s declared) q.1
        (right_none (unless (not (surely_returns s) || ends_block b) line) _ (right_none (faults_in program returns known line s) _ types))
        (right_none (owner_faults program.functions around owners source taken line s) _ owns) after
        (found_right gs (made_by line k s) (made_in (k + loop_count s) b) found) in
        ((here.0, rest.0), both_free gs (made_by line k s) (made_in (k + loop_count s) b) here.1 rest.1)

  -- no taken name is used in a function of the source and in the functions of its loops
  function_frees : (f : Function) (k : ℕ) → faults_of program f ≡ [] → owner_faults_of program.functions f ≡ [] → is_source_function f ≡ true
      → Found gs (made_in k f.body) → BlockFree gs 1 [] (lower_block [] k f.body) × AllFree gs (made_in k f.body)
  function_frees f k types owns src found =
      let returns = if f.gives_int then WithInt else Alone in
      block_frees f.body [] k (known_of f.params) (map (λ p. p.name) f.params) NoLoop (parameters_known f.params (head_of program f types).params) returns 1 1 0 (omega arith) refl Joins [] [] []
      (and_parts (is_plain f.name) (is_source_block f.body) src).1 (right_none (unless (is_head program f) f.line) _ types) owns (λ t i. absurd i) found

  functions_walk : (fs : List Function) (k : ℕ) → flat_map (faults_of program) fs ≡ [] → flat_map (owner_faults_of program.functions) fs ≡ []
      → list_all is_source_function fs ≡ true → Found gs (made_of k fs) → AllFree gs (lower_functions k fs) × AllFree gs (made_of k fs)
  functions_walk [] k types owns src found = (tt, tt)
  functions_walk (f ∷ fs) k types owns src found =
      let q = and_parts (is_source_function f) (list_all is_source_function fs) src in
      let here = function_frees f k (left_none _ _ types) (left_none _ _ owns) q.0 (found_left gs (made_in k f.body) (made_of (k + loop_count_in f.body) fs) found) in
      let rest = functions_walk fs (k + loop_count_in f.body) (right_none (faults_of program f) _ types)
      (right_none (owner_faults_of program.functions f) _ owns) q.1 (found_right gs (made_in k f.body) (made_of (k + loop_count_in f.body) fs) found) in
      ((here.0, rest.0), both_free gs (made_in k f.body) (made_of (k + loop_count_in f.body) fs) here.1 rest.1)

-- no taken name is used in the functions of a lowered program
pub functions_free : (program : Program) → WhilesAreLeast → IsOwnedSource program → is_lowerable program ≡ true → AllFree (lowered program).functions (lowered program).functions
functions_free program least source can =
    let gs : List Function = (lowered program).functions in
    let walk = functions_walk program least gs (params_same program.functions can) program.functions 0
    (heads_kept program source.typed) source.owned source.source_like (all_found program.functions can) in
    both_free gs (lower_functions 0 program.functions) (made_of 0 program.functions) walk.0 walk.1
