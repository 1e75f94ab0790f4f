-- If a lowered function holds at most the names that its source holds before a statement, it does so after the
-- statement.
use Rattle.cw_model.specs.declared.syntax.NameKind.TheVariants as name_kind
use Rattle.std.proofs.Common.{◌≡◌, ℕ, ◌+◌, List, [], ◌∷◌, ◌++◌, true, sym, ap, ◌∙◌, subst, arith}
use Rattle.std.specs.Prelude.{not, ◌&&◌, ◌||◌, Option}
use Rattle.std.specs.List.{list_all}
use Rattle.std.proofs.lemmas.Bool.{and_parts}
use Rattle.cw_facts.specs.Tests.{either_right}
use Rattle.cw_model.specs.declared.syntax.CallKind.TheVariants.{Plain, Spawned}
use Rattle.cw_model.specs.Lines.{unless}
use Rattle.cw_model.specs.Syntax.{Name, Expr, Stmt, Declare, DeclareArray, Assign, AssignElement, Reduce, Call, Start, Begin, Sync, If}
use Rattle.cw_model.specs.Syntax.{IfElse, While, For, Scope, Cut, Region, Print, Return, Block, End, Then, Function, Program}
use Rattle.cw_model.specs.Names.{is_among}
use Rattle.cw_model.specs.Meaning.{function_named}
use Rattle.cw_model.specs.Typing.{Known, Returns, Nowhere, is_fine, is_int, is_array, is_call, called, is_cut, surely_returns, block_returns, declares, ends_block, faults_in, faults_in_block}
use Rattle.cw_model.specs.Ownership.{CutOf, Taken, freed, taken_by, frozen_by, without, own_names, where_it_goes_on, target_names, arrays_given, arrays_lent, given, lent, may_read}
use Rattle.cw_model.specs.Ownership.{may_write, Around, Closing, Joins, Leaves, Declared, declared_by, known_after, taken_after, taken_after_all, owner_faults, owner_faults_in}
use Rattle.cw_model.specs.WhileLaw.{WhilesAreLeast}
use Rattle.cw_model.specs.lemmas.Kept.{left_none, right_none, kept}
use Rattle.cw_tree.specs.lemmas.Names.{later_among}
use Rattle.cw_loops.specs.Lowered.{is_plain, lower_exprs, lower_stmt, lower_block, loop_count, loop_count_in}
use Rattle.cw_loops.specs.SourceLike.{is_source_expr, is_source_target, is_source_stmt, is_source_block}
use Rattle.cw_loops.specs.lemmas.Knowing.{known_array_more}
use Rattle.cw_loops.specs.lemmas.Declaring.{CutKept, cut_kept}
use Rattle.cw_loops.specs.lemmas.Seeing.{SameKnown, after_known, CallKept, call_kept}
use Rattle.cw_gen.proofs.HeldNames.{held_after, held_after_all}
use Rattle.cw_gen.proofs.FreeTexts.{returns_same, own_same, given_same, lent_same}
use Rattle.cw_gen.proofs.FreeMembers.{in_append, in_left, in_contains, contains_in, either_way}
use Rattle.cw_gen.proofs.FreeStays.{for_keeps}
use Rattle.cw_gen.proofs.FreeCarried.{deeper, AllCarried, carried_in, deeper_all, inside_more, inside_outer, freed_carried, left_carried, goes_carried, both_carried}
use Rattle.cw_gen.proofs.FreeCarried.{cut_carried, ended_carried, spawned_carried, frozen_carried, more_carried, call_plain, lent_call_plain, then_names, part_names}

-- a lowered block returns exactly where its source does
goes_same : (over : List Name) (k : ℕ) (b : Block) (held : Taken) →
    where_it_goes_on (block_returns (lower_block over k b)) (without (own_names (lower_block over k b)) held) ≡ where_it_goes_on (block_returns b) (without (own_names b) held)
goes_same over k b held =
    ap (λ r. where_it_goes_on r (without (own_names (lower_block over k b)) held)) (returns_same over b k) ∙ ap (λ o. where_it_goes_on (block_returns b) (without o held)) (own_same over b k)

-- the source and the lowered text give the same arrays to a call
pub call_same : (fs gs : List Function) (over : List Name) (known : Known) (target : Option Name) (f : Name) (es : List Expr)
    → (function_named f gs).params ≡ (function_named f fs).params → CallKept fs known target f es →
    given gs f (lower_exprs over es) ≡ given fs f es
call_same fs gs over known target f es e k = ap (λ ps. arrays_given ps (lower_exprs over es)) e ∙ given_same over known (function_named f fs).params es k.arguments

-- the source and the lowered text lend the same arrays to a call
pub lent_call_same : (fs gs : List Function) (over : List Name) (known : Known) (target : Option Name) (f : Name) (es : List Expr)
    → (function_named f gs).params ≡ (function_named f fs).params → CallKept fs known target f es →
    lent gs f (lower_exprs over es) ≡ lent fs f es
lent_call_same fs gs over known target f es e k = ap (λ ps. arrays_lent ps (lower_exprs over es)) e ∙ lent_same over known (function_named f fs).params es k.arguments

module _ (program : Program) (least : WhilesAreLeast) (gs : List Function) (same_params : (g : Name) → is_plain g ≡ true
    → (function_named g gs).params ≡ (function_named g program.functions).params) where
  abbrev StmtCarries : Stmt → Type 0
  StmtCarries s = (over : List Name) (k : ℕ) (known : Known) (owners : List Name) (around : Around) → SameKnown known owners
      → (returns : Returns) (line depth source shift : ℕ) → source ≡ depth + shift → (held taken : Taken) →
      is_source_stmt s ≡ true → faults_in program returns known line s ≡ [] → owner_faults program.functions around owners source taken line s ≡ [] → AllCarried shift depth owners held taken →
      AllCarried shift depth (known_after owners s) (held_after gs depth (lower_stmt over k s) held) (taken_after program.functions source s taken)

  abbrev BlockCarries : Block → Type 0
  BlockCarries b = (over : List Name) (k : ℕ) (known : Known) (owners : List Name) (around : Around) → SameKnown known owners
      → (returns : Returns) (depth source shift : ℕ) → source ≡ depth + shift → (closing : Closing) (held taken : Taken) (declared : Declared) →
      is_source_block b ≡ true → faults_in_block program returns known b ≡ []
      → owner_faults_in program.functions around owners source closing taken declared b ≡ [] → AllCarried shift depth owners held taken →
      AllCarried shift depth (own_names b ++ owners) (held_after_all gs depth (lower_block over k b) held) (taken_after_all program.functions source b taken)

  -- names stay carried after the block of a branch or of an iteration
  branch_carries : (b : Block) → BlockCarries b → (over : List Name) (k : ℕ) (known : Known) (owners : List Name) (around : Around)
      → SameKnown known owners → (returns : Returns) (depth source shift : ℕ) → source ≡ depth + shift → (held taken : Taken) →
      is_source_block b ≡ true → faults_in_block program returns known b ≡ []
      → owner_faults_in program.functions around owners source Leaves taken [] b ≡ [] → AllCarried shift depth owners held taken →
      AllCarried shift depth owners (where_it_goes_on (block_returns (lower_block over k b))
      (without (own_names (lower_block over k b)) (held_after_all gs depth (lower_block over k b) held)))
      (where_it_goes_on (block_returns b) (without (own_names b) (taken_after_all program.functions source b taken)))
  branch_carries b more over k known owners around same returns depth source shift e held taken src types owns all =
      subst (λ h. AllCarried shift depth owners h (where_it_goes_on (block_returns b)
      (without (own_names b) (taken_after_all program.functions source b taken)))) (sym (goes_same over k b (held_after_all gs depth (lower_block over k b) held)))
      (goes_carried shift depth (block_returns b) (own_names b) owners (held_after_all gs depth (lower_block over k b) held)
      (taken_after_all program.functions source b taken) (more over k known owners around same returns depth source shift e Leaves held taken
      [] src types owns all))

  -- names stay carried after the block of a scope
  scope_carries : (b : Block) → BlockCarries b → (over : List Name) (k : ℕ) (known : Known) (owners : List Name) (around : Around)
      → SameKnown known owners → (depth source shift : ℕ) → source ≡ depth + shift → (held taken : Taken) →
      is_source_block b ≡ true → faults_in_block program Nowhere known b ≡ []
      → owner_faults_in program.functions around owners (source + 1) Joins taken [] b ≡ [] → AllCarried shift depth owners held taken →
      AllCarried shift depth owners (freed (depth + 1) (without (own_names (lower_block over k b))
      (held_after_all gs (depth + 1) (lower_block over k b) held))) (freed (source + 1)
      (without (own_names b) (taken_after_all program.functions (source + 1) b taken)))
  scope_carries b more over k known owners around same depth source shift e held taken src types owns all =
      let after = held_after_all gs (depth + 1) (lower_block over k b) held in
      let after' = taken_after_all program.functions (source + 1) b taken in
      subst (λ o. AllCarried shift depth owners (freed (depth + 1) (without o after)) (freed (source + 1) (without (own_names b) after'))) (sym (own_same over b k))
      (left_carried shift depth source (own_names b) owners after after' e
      (more over k known owners around same Nowhere (depth + 1) (source + 1) shift (omega (arith, e)) Joins held taken [] src types owns
      (deeper_all shift depth owners held taken all)))

  for_carries : (x y z : Name) (from to : Expr) (grain : ℕ) (on : List Name) (b : Block) → StmtCarries (For x y z from to grain on b)
  for_carries x y z from to grain on b over k known owners around same returns line depth source shift e held taken src types owns all t h =
      let c = all t h in
      carried_in shift depth owners taken (taken_after program.functions source (For x y z from to grain on b) taken) t c
      (λ i. (for_keeps program x y z from to grain on b known owners around same source line taken types owns (t.0, deeper shift t.1) i (inside_outer shift depth source t.1 e c.inside) c.named).stays)

  while_carries : (e : Expr) (b : Block) → BlockCarries b → StmtCarries (While e b)
  while_carries test b more over k known owners around same returns line depth source shift e held taken src types owns all t h =
      let all' = taken_after program.functions source (While test b) taken in
      let turn = where_it_goes_on (block_returns b) (without (own_names b) (taken_after_all program.functions source b all')) in
      let turn' = where_it_goes_on (block_returns (lower_block over k b)) (without (own_names (lower_block over k b)) (held_after_all gs depth (lower_block over k b) held)) in
      let more_taken : AllCarried shift depth owners held all' = λ u i. carried_in shift depth owners taken all' u (all u i)
      (in_left (u.0, deeper shift u.1) taken (where_it_goes_on (block_returns b) (without (own_names b) (taken_after_all program.functions source b taken)))) in
      let s = and_parts (is_source_expr test) (is_source_block b) src in
      let turned : AllCarried shift depth owners turn' turn = branch_carries b more over k known owners around same returns depth source shift e held
      all' s.1 (right_none (unless (is_fine known test) line) _ types) (right_none (unless (may_read around all' test) line) _ owns) more_taken in
      either_way (in_append t held turn' h) (λ i. more_taken t i)
      (λ i. carried_in shift depth owners turn all' t (turned t i) (λ q. contains_in (t.0, deeper shift t.1) all'
      ((least program.functions source test b taken).closed (t.0, deeper shift t.1) (in_contains (t.0, deeper shift t.1) turn q))))

  cut_carries : (a : Name) (at : Expr) (l r : Name) (b : Block) → BlockCarries b → StmtCarries (Cut a at l r b)
  cut_carries a at l r b more over k known owners around same returns line depth source shift e held taken src types owns all =
      ended_carried shift depth owners a (freed (depth + 1) (without (l ∷ r ∷ own_names (lower_block over k b)) after)) (freed (source + 1) (without (l ∷ r ∷ own_names b) after'))
      (subst (λ o. AllCarried shift depth owners (freed (depth + 1) (without (l ∷ r ∷ o) after)) (freed (source + 1) (without (l ∷ r ∷ own_names b) after'))) (sym (own_same over b k))
      (left_carried shift depth source (l ∷ r ∷ own_names b) owners after after' e
      (more_carried shift (depth + 1) (own_names b ++ (r ∷ l ∷ owners)) ((l ∷ r ∷ own_names b) ++ owners) after after'
      (part_names l r (own_names b) owners) inner)))
    where
      after : Taken
      after = held_after_all gs (depth + 1) (lower_block over k b) ((a, CutOf) ∷ held)

      after' : Taken
      after' = taken_after_all program.functions (source + 1) b ((a, CutOf) ∷ taken)

      c : CutKept program known a at l r
      c = cut_kept program known a at l r (kept (is_cut program known a at l r) line (left_none _ (faults_in_block program Nowhere ((r, name_kind.Array) ∷ (l, name_kind.Array) ∷ known) b) types))

      s1 : (is_plain a ≡ true) × ((is_source_expr at && (is_plain l && (is_plain r && is_source_block b))) ≡ true)
      s1 = and_parts (is_plain a) (is_source_expr at && (is_plain l && (is_plain r && is_source_block b))) src

      s2 : is_source_block b ≡ true
      s2 = (and_parts (is_plain r) (is_source_block b) (and_parts (is_plain l) (is_plain r && is_source_block b)
          (and_parts (is_source_expr at) (is_plain l && (is_plain r && is_source_block b)) s1.1).1).1).1

      same' : SameKnown ((r, name_kind.Array) ∷ (l, name_kind.Array) ∷ known) (r ∷ l ∷ owners)
      same' w = known_array_more w r (l ∷ owners) (is_int ((l, name_kind.Array) ∷ known) w) (is_array ((l, name_kind.Array) ∷ known) w)
          (known_array_more w l owners (is_int known w) (is_array known w) (same w))

      there : is_among a owners ≡ true
      there = same a ∙ either_right (is_int known a) (is_array known a) c.array

      all' : AllCarried shift (depth + 1) (r ∷ l ∷ owners) ((a, CutOf) ∷ held) ((a, CutOf) ∷ taken)
      all' t h =
          let q = cut_carried shift depth owners a held taken s1.0 there all t h in
          record { there = q.there; plain = q.plain; named = later_among t.0 r (l ∷ owners) (later_among t.0 l owners q.named); inside = inside_more depth t.1 q.inside }

      inner : AllCarried shift (depth + 1) (own_names b ++ (r ∷ l ∷ owners)) after after'
      inner =
          more over k ((r, name_kind.Array) ∷ (l, name_kind.Array) ∷ known) (r ∷ l ∷ owners) around same' Nowhere (depth + 1) (source + 1) shift
          (omega (arith, e)) Joins ((a, CutOf) ∷ held) ((a, CutOf) ∷ taken) [] s2
          (right_none (unless (is_cut program known a at l r) line) (faults_in_block program Nowhere ((r, name_kind.Array) ∷ (l, name_kind.Array) ∷ known) b) types)
          (right_none (unless (may_read around taken at && may_write around taken (a ∷ [])) line)
          (owner_faults_in program.functions around (r ∷ l ∷ owners) (source + 1) Joins ((a, CutOf) ∷ taken) [] b) owns) all'

  call_carries : (site : ℕ) (target : Option Name) (f : Name) (es : List Expr) → StmtCarries (Call Spawned site target f es)
  call_carries site target f es over k known owners around same returns line depth source shift e held taken src types owns all =
      let s = and_parts (is_source_target target) (is_plain f && list_all is_source_expr es) src in
      let t = and_parts (is_plain f) (list_all is_source_expr es) s.1 in
      let c = call_kept program.functions known target f es (kept (is_call known target (called f program.functions) es) line types) in
      let after = taken_after program.functions source (Call Spawned site target f es) taken in
      let takes = target_names target ++ given program.functions f es in
      let takes' = target_names target ++ given gs f (lower_exprs over es) in
      let reads = lent program.functions f es in
      let taking = spawned_carried shift depth source owners takes held taken e (call_plain program.functions known owners same target f es c s.0 t.1) all in
      let reading = frozen_carried shift depth source owners reads (taken_by depth takes held) (taken_by source takes taken) e
      (lent_call_plain program.functions known owners same target f es c t.1) taking in
      subst (λ ys. AllCarried shift depth owners (frozen_by depth ys (taken_by depth takes' held)) after) (sym (lent_call_same program.functions gs over known target f es (same_params f t.0) c))
      (subst (λ xs. AllCarried shift depth owners (frozen_by depth reads (taken_by depth (target_names target ++ xs) held)) after)
      (sym (call_same program.functions gs over known target f es (same_params f t.0) c)) reading)

  mutual
    -- names stay carried after a statement
    pub stmt_carries : (s : Stmt) → StmtCarries s
    stmt_carries (Declare x e') over k known owners around same returns line depth source shift e held taken src types owns all =
        more_carried shift depth owners (x ∷ owners) held taken (λ y o. later_among y x owners o) all
    stmt_carries (DeclareArray x e') over k known owners around same returns line depth source shift e held taken src types owns all =
        more_carried shift depth owners (x ∷ owners) held taken (λ y o. later_among y x owners o) all
    stmt_carries (Assign x e') over k known owners around same returns line depth source shift e held taken src types owns all = all
    stmt_carries (AssignElement a i e') over k known owners around same returns line depth source shift e held taken src types owns all = all
    stmt_carries (Reduce how s e') over k known owners around same returns line depth source shift e held taken src types owns all = all
    stmt_carries (Call Plain site target f es) over k known owners around same returns line depth source shift e held taken src types owns all = all
    stmt_carries (Call Spawned site target f es) over k known owners around same returns line depth source shift e held taken src types owns all =
        call_carries site target f es over k known owners around same returns line depth source shift e held taken src types owns all
    stmt_carries (Start kind f es) over k known owners around same returns line depth source shift e held taken src types owns all = absurd cc
    stmt_carries (Begin f from to captured on) over k known owners around same returns line depth source shift e held taken src types owns all = absurd cc
    stmt_carries Sync over k known owners around same returns line depth source shift e held taken src types owns all = freed_carried shift depth source owners held taken e all
    stmt_carries (If e' b) over k known owners around same returns line depth source shift e held taken src types owns all =
        let s = and_parts (is_source_expr e') (is_source_block b) src in
        both_carried shift depth owners (where_it_goes_on (block_returns (lower_block over k b))
        (without (own_names (lower_block over k b)) (held_after_all gs depth (lower_block over k b) held))) held
        (where_it_goes_on (block_returns b) (without (own_names b) (taken_after_all program.functions source b taken))) taken
        (branch_carries b (block_carries b) over k known owners around same returns depth source shift e held taken s.1
        (right_none (unless (is_fine known e') line) _ types) (right_none (unless (may_read around taken e') line) _ owns) all) all
    stmt_carries (IfElse e' b c) over k known owners around same returns line depth source shift e held taken src types owns all =
        let s = and_parts (is_source_expr e') (is_source_block b && is_source_block c) src in
        let s' = and_parts (is_source_block b) (is_source_block c) s.1 in
        let types' = right_none (unless (is_fine known e') line) (faults_in_block program returns known b ++ faults_in_block program returns known c) types in
        let owns' = right_none (unless (may_read around taken e') line)
        (owner_faults_in program.functions around owners source Leaves taken [] b
        ++ owner_faults_in program.functions around owners source Leaves taken [] c) owns in
        let k' = k + loop_count_in b in
        both_carried shift depth owners (where_it_goes_on (block_returns (lower_block over k b)) (without (own_names (lower_block over k b)) (held_after_all gs depth (lower_block over k b) held)))
        (where_it_goes_on (block_returns (lower_block over k' c)) (without (own_names (lower_block over k' c)) (held_after_all gs depth (lower_block over k' c) held)))
        (where_it_goes_on (block_returns b) (without (own_names b) (taken_after_all program.functions source b taken)))
        (where_it_goes_on (block_returns c) (without (own_names c) (taken_after_all program.functions source c taken)))
        (branch_carries b (block_carries b) over k known owners around same returns depth source shift e held taken s'.0 (left_none _ _ types') (left_none _ _ owns') all)
        (branch_carries c (block_carries c) over k' known owners around same returns depth source shift e held taken s'.1 (right_none _ _ types') (right_none _ _ owns') all)
    stmt_carries (While e' b) over k known owners around same returns line depth source shift e held taken src types owns all =
        while_carries e' b (block_carries b) over k known owners around same returns line depth source shift e held taken src types owns all
    stmt_carries (For x y z from to grain on b) over k known owners around same returns line depth source shift e held taken src types owns all =
        for_carries x y z from to grain on b over k known owners around same returns line depth source shift e held taken src types owns all
    stmt_carries (Scope b) over k known owners around same returns line depth source shift e held taken src types owns all =
        scope_carries b (block_carries b) over k known owners around same depth source shift e held taken src types owns all
    stmt_carries (Cut a at l r b) over k known owners around same returns line depth source shift e held taken src types owns all =
        cut_carries a at l r b (block_carries b) over k known owners around same returns line depth source shift e held taken src types owns all
    stmt_carries (Region tag b) over k known owners around same returns line depth source shift e held taken src types owns all =
        scope_carries b (block_carries b) over k known owners around same depth source shift e held taken src types owns all
    stmt_carries (Print e') over k known owners around same returns line depth source shift e held taken src types owns all = all
    stmt_carries (Return e') over k known owners around same returns line depth source shift e held taken src types owns all = freed_carried shift depth source owners held taken e all

    -- names stay carried after a block, whose names join the names of its owners
    pub block_carries : (b : Block) → BlockCarries b
    block_carries End over k known owners around same returns depth source shift e closing held taken declared src types owns all = all
    block_carries (Then line s b) over k known owners around same returns depth source shift e closing held taken declared src types owns all =
        let q = and_parts (is_source_stmt s) (is_source_block b) src in
        let here = stmt_carries s over k known owners around same returns line depth source shift e held taken q.0 (left_none _ _ types) (left_none _ _ owns) all in
        more_carried shift depth (own_names b ++ known_after owners s) (own_names (Then line s b) ++ owners)
        (held_after_all gs depth (lower_block over k (Then line s b)) held) (taken_after_all program.functions source (Then line s b) taken)
        (then_names s line b owners)
        (block_carries b over (k + loop_count s) (declares s known) (known_after owners s) around
        (after_known s known owners same) returns depth source shift e closing (held_after gs depth (lower_stmt over k s) held)
        (taken_after program.functions source s taken) (declared_by line s declared) q.1
        (right_none (unless (not (surely_returns s) || ends_block b) line) _ (right_none (faults_in program returns known line s) _ types))
        (right_none (owner_faults program.functions around owners source taken line s) _ owns) here)
