-- A cut, the block in which its parts are known, and its end are well formed.
use Rattle.std.proofs.Common.{◌≡◌, ◌≢◌, ℕ, suc, ◌+◌, ◌<◌, ◌≤◌, List, [], ◌∷◌, ◌++◌, length, Bool, true, false, ◌&&◌, not, if◌then◌else◌, nat_lt}
use Rattle.std.proofs.Common.{Some, refl, sym, ap, ◌∙◌, subst, arith, append_assoc, length-append, inl, inr, true≢false}
use Rattle.std.specs.Prelude.{slice_get, nat_le, nat_eq}
use Rattle.cw_facts.specs.Tests.{both_true, at_most, below, eq_of}
use Rattle.cw_model.specs.Syntax.{Name, Expr, Cut, Block}
use Rattle.cw_model.specs.Names.{same_name, is_among}
use Rattle.std.proofs.lemmas.List.{set-set}
use Rattle.cw_model.specs.Typing.{Nowhere, block_returns}
use Rattle.cw_model.specs.Ownership.{Holder, ReaderIn, CutOf, cut_ended, Taken, is_reader, is_held, freed, without, own_names, Joins}
use Rattle.std.proofs.lemmas.Bool.{eqb-true}
use Rattle.cw_tree.specs.Resolved.{Locals, slot_of, with_array}
use Rattle.cw_tree.specs.lemmas.NamedSlots.{slot_stays, slot_in}
use Rattle.cw_tree.specs.lemmas.Names.{later_among}
use Rattle.std.proofs.lemmas.Slice.Eq.{bytes_eq-Decides}
use Rattle.cw_code.specs.declared.code.Instr.TheVariants as instr
use Rattle.cw_code.specs.Fits.{names_halves, gone_rows, frozen_rows, none_frozen, is_thawed, is_full_in, full_in_all, has_array}
use Rattle.cw_code.specs.Fits.{has_arrays, is_no_part, are_no_parts, is_ready, leaves, Covers, CoversEach, FlowsInto}
use Rattle.cw_loops.specs.lemmas.Naming.{among_left}
use Rattle.cw_code.specs.lemmas.Slots.{covers_after, covers_set, each_covers_after}
use Rattle.cw_gen.proofs.HeldNames.{held_after, held_after_all}
use Rattle.cw_gen.specs.Marks.{array_at}
use Rattle.cw_gen.proofs.Marked.{IsOwn, at_apart, at_behind, own_behind}
use Rattle.cw_gen.proofs.MarkedCuts.{cut_numbers}
use Rattle.cw_gen.proofs.Frozen.{frozen_of, frozen_in, frozen_past_cut}
use Rattle.cw_gen.proofs.FreeMembers.{From, in_held, block_from}
use Rattle.cw_gen.proofs.Fine.{IsWritable, Begins, ExprFine, PartsFine, FreeAtEnd, BlockFine}
use Rattle.cw_gen.proofs.Takens.{holds, holds_behind, spawn_past_cut}
use Rattle.cw_gen.proofs.Scopes.{locals_after_all, extended, same_locals, names_extend}
use Rattle.cw_gen.proofs.Texts.{expr_code, stmt_code, block_code}
use Rattle.cw_gen.proofs.EmptySlots.{row, array_row, array_covers, row_of, row_more, length-row, length_array_row, covers_none, covers_declared, covers_lower}
use Rattle.cw_gen.proofs.EmptySlots.{outers, Over, outers_more, outers_array, CutsOpen, own_cuts, halves_at, cuts_kept, array_is_full, next_array_is_full}
use Rattle.cw_gen.proofs.EmptySlots.{array_is_thawed, next_array_is_thawed, not_cut_behind, outside_full, outside_thawed, no_part}
use Rattle.cw_gen.proofs.Cutting.{slot_first, among_first}
use Rattle.cw_gen.proofs.Shapes.{Opened, depth_in, shape_at, expr_shapes, reached, end_shape, stmt_shapes, block_shapes, expr_as_many, block_as_many}
use Rattle.cw_gen.proofs.Settings.{Setting, HasShapesFrom, stands_front, stands_back, exact, takes_less, tables, first, table, size, HasRoom, FitsAt, AllFit, both_fit, made}
use Rattle.cw_gen.proofs.FittingExprs.{own_below, expr_fits}
use Rattle.cw_gen.proofs.FittingEnds.{held_outside, frozen_outside, none_outside, thawed_outside, outer_covers}
use Rattle.cw_gen.proofs.FittingFirsts.{block_enters}

module _ (setting : Setting) where
  -- a slot after the slots of the parameters has a number after theirs
  pub behind_params : (locals : Locals) (m : ℕ) → Begins setting.given_arrays locals.arrays → length locals.arrays ≤ m → length setting.marks ≤ m
      → nat_le setting.f.array_params (array_at setting.marks m) ≡ true
  behind_params locals m begins le short =
      at_most setting.f.array_params (array_at setting.marks m) (omega
      (arith, le, setting.few_given, setting.many_read, at_behind setting.marks m short, ap length begins.is, length-append setting.given_arrays begins.more))

  -- an array that is cut, and that was not held, is not frozen outside of the block of the cut
  cut_thawed : (level : ℕ) (taken : Taken) (a : Name) (b : Block) → is_held taken a ≡ false → (d : ℕ) → d < level
      → holds false d a (frozen_of (held_after_all setting.fs level b ((a, CutOf) ∷ taken))) ≡ false
  cut_thawed level taken a b loose d less = cases (holds false d a (frozen_of after_it)) refl
    where
      after_it : Taken
      after_it = held_after_all setting.fs level b ((a, CutOf) ∷ taken)

      before : From level ((a, CutOf) ∷ taken) (a, ReaderIn d) → true ≡ false
      before (inl (inl e)) = sym (ap (λ (u : Name × Holder). is_reader u.1) e)
      before (inl (inr i)) = sym (in_held (a, ReaderIn d) taken i) ∙ loose
      before (inr e) = absurd (omega (arith, less, eqb-true d level e))

      cases : (q : Bool) → holds false d a (frozen_of after_it) ≡ q → q ≡ false
      cases true e = absurd (true≢false (before (block_from setting.fs level b ((a, CutOf) ∷ taken) (a, ReaderIn d) (frozen_in d a after_it e))))
      cases false e = refl

  -- the end of a cut is well formed
  pub cut_closes : (opened : Opened) (locals : Locals) (taken : Taken) (a l r : Name) (b : Block) (next_place : ℕ) → HasRoom setting locals
      → CutsOpen setting.marks opened locals taken → IsWritable setting.marks locals.arrays taken a → PartsFine setting.marks (size setting) locals l r →
      ((x : Name) → is_among x (l ∷ r ∷ own_names b) ≡ true → is_held (freed (suc (depth_in opened)) (held_after_all setting.fs (suc (depth_in opened)) b ((a, CutOf) ∷ taken))) x ≡ false) →
      FlowsInto (table setting) next_place (made setting opened locals
      (cut_ended a (freed (depth_in opened + 1) (without (l ∷ r ∷ own_names b) (held_after_all setting.fs (depth_in opened + 1) b ((a, CutOf) ∷ taken))))) 0) →
      (true ≡ true) × (is_ready setting.code (end_shape setting.fs (size setting) (Some (halves_at locals a) ∷ opened) (with_array r (with_array l locals)) ((a, CutOf) ∷ taken) b) instr.EndCut ≡ true)
      × (FlowsInto (table setting) next_place (leaves setting.code (end_shape setting.fs (size setting) (Some (halves_at locals a) ∷ opened)
      (with_array r (with_array l locals)) ((a, CutOf) ∷ taken) b) instr.EndCut) × Unit {0})
      × (is_thawed setting.code (end_shape setting.fs (size setting) (Some (halves_at locals a) ∷ opened) (with_array r (with_array l locals)) ((a, CutOf) ∷ taken) b) instr.EndCut ≡ true)
  cut_closes opened locals taken a l r b next_place room cuts writable parts free leads =
      let inner = with_array r (with_array l locals) in
      let inner_taken = (a, CutOf) ∷ taken in
      let h = halves_at locals a in
      let told = cut_numbers setting.marks h in
      let inside = Some h ∷ opened in
      let level = suc (depth_in opened) in
      let own = l ∷ r ∷ own_names b in
      let after_it = held_after_all setting.fs level b inner_taken in
      let ext = names_extend b inner in
      let end = end_shape setting.fs (size setting) inside inner inner_taken b in
      let next : length (locals.arrays ++ l ∷ []) ≡ length locals.arrays + 1 = length-append locals.arrays (l ∷ []) in
      let next' : length (locals.arrays ++ l ∷ []) ≡ suc (length locals.arrays) = omega (arith, next) in
      let within_a = slot_in a locals.arrays writable.usable.declared in
      let plus : depth_in opened + 1 ≡ level = omega arith in
      let left = cut_ended a (freed level (without own after_it)) in
      let leads' : FlowsInto (table setting) next_place (made setting opened locals left 0) =
      subst (λ m. FlowsInto (table setting) next_place (made setting opened locals
      (cut_ended a (freed m (without own (held_after_all setting.fs m b inner_taken)))) 0)) plus leads in
      let all = locals.arrays ++ l ∷ r ∷ ext.arrays in
      let known = extended locals ext.ints (l ∷ r ∷ ext.arrays) in
      let same : extended inner ext.ints ext.arrays ≡ known = same_locals (locals.ints ++ ext.ints) (locals.ints ++ ext.ints) (inner.arrays ++ ext.arrays) all refl
      (append_assoc (locals.arrays ++ l ∷ []) (r ∷ []) ext.arrays ∙ append_assoc locals.arrays (l ∷ []) (r ∷ ext.arrays)) in
      let last = locals_after_all inner b in
      let last_is : last ≡ known = ext.same ∙ same in
      let c = outer_covers setting opened locals ext.ints (l ∷ r ∷ ext.arrays) own after_it left level refl free
      (λ x k. later_among x l (r ∷ own_names b) (later_among x r (own_names b) (ext.own x k))) (parts_own ext.arrays ext.own_arrays)
      (λ d x apart q m. spawn_past_cut d a x (freed level (without own after_it)) (held_outside level own after_it d x apart q m))
      (λ d x apart q m. ap (holds false d x) (frozen_past_cut a (freed level (without own after_it))) ∙ frozen_outside level own after_it d x apart q m) in
      let before = array_row (size setting) (depth_in opened) locals.arrays left in
      let behind = array_row (size setting) (depth_in opened) all after_it in
      let over : Over (made setting opened locals left 0) (leaves setting.code (shape_at (size setting) inside known after_it 0) instr.EndCut) =
      (c.0, subst (λ g. Covers before g) (sym (set-set behind told.array true false)) (covers_lower before behind told.array c.1), c.2, c.3) in
      let own_left = own_behind setting.marks h.left parts.behind in
      let own_right = own_behind setting.marks h.right (omega (arith, parts.behind)) in
      let is_there : (i : ℕ) (x : Name) → IsOwn setting.marks i → slot_of x all ≡ i → is_among x all ≡ true → is_among x own ≡ true → i ≢ h.array
      → length locals.arrays ≤ i → i < (size setting).arrays →
      full_in_all (gone_rows (outers (size setting) inside known after_it)) (array_at setting.marks i) ≡ true = λ i x owned_i at declared own_x apart le below'.
      outside_full (size setting) inside known after_it i owned_i (writable.own, own_cuts setting.marks opened locals taken cuts) (apart, not_cut_behind setting.marks opened locals taken i le cuts)
      (λ d le'. ap (λ k. is_full_in (slice_get (row (size setting).arrays d all after_it) k)) (sym at)
      ∙ row_of (size setting).arrays d all after_it x (omega (arith, at, below')) declared
      (none_outside level own after_it free d x (λ e. omega (arith, le', e)) own_x)) in
      let not_frozen : (i : ℕ) (x : Name) → IsOwn setting.marks i → slot_of x all ≡ i → is_among x all ≡ true → i < (size setting).arrays
      → ((d : ℕ) → d ≤ depth_in opened → holds false d x (frozen_of after_it) ≡ false) →
      full_in_all (frozen_rows (outers (size setting) inside known after_it)) (array_at setting.marks i) ≡ true = λ i x owned_i at declared below' thawed.
      outside_thawed (size setting) inside known after_it i owned_i
      (λ d le'. ap (λ k. is_full_in (slice_get (row (size setting).arrays d all (frozen_of after_it)) k)) (sym at)
      ∙ row_of (size setting).arrays d all (frozen_of after_it) x (omega (arith, at, below')) declared (thawed d le')) in
      let a_at : slot_of a all ≡ h.array = slot_stays a locals.arrays (l ∷ r ∷ ext.arrays) writable.usable.declared in
      let a_in : is_among a all ≡ true = among_left a locals.arrays (l ∷ r ∷ ext.arrays) writable.usable.declared in
      let l_at : slot_of l all ≡ h.left = slot_first l locals.arrays (r ∷ ext.arrays) parts.left in
      let r_at : slot_of r all ≡ h.right = ap (slot_of r) (sym (append_assoc locals.arrays (l ∷ []) (r ∷ ext.arrays))) ∙ slot_first r (locals.arrays ++ l ∷ []) ext.arrays parts.right ∙ next' in
      let l_in : is_among l all ≡ true = among_first l locals.arrays (r ∷ ext.arrays) in
      let r_in : is_among r all ≡ true = ap (is_among r) (sym (append_assoc locals.arrays (l ∷ []) (r ∷ ext.arrays))) ∙ among_first r (locals.arrays ++ l ∷ []) ext.arrays in
      let here : (x : Name) (ns : List Name) → is_among x (x ∷ ns) ≡ true = λ x ns. ap (λ q. if q then true else is_among x ns) ((bytes_eq-Decides x x).1 refl) in
      let l_own = here l (r ∷ own_names b) in
      let r_own = later_among r l (r ∷ own_names b) (here r (own_names b)) in
      let rows = gone_rows (outers (size setting) inside known after_it) in
      let cold = frozen_rows (outers (size setting) inside known after_it) in
      let ready : is_ready setting.code (shape_at (size setting) inside known after_it 0) instr.EndCut ≡ true =
      both_true (full_in_all rows told.left) (full_in_all rows told.right)
      (is_there h.left l own_left l_at l_in l_own (λ q. omega (arith, within_a, q)) (omega arith) (omega (arith, parts.there)))
      (is_there h.right r own_right r_at r_in r_own (λ q. omega (arith, within_a, q, next)) (omega (arith, next)) (omega (arith, parts.there, next))) in
      let thawed : is_thawed setting.code (shape_at (size setting) inside known after_it 0) instr.EndCut ≡ true =
      both_true (full_in_all cold told.array) (full_in_all cold told.left && (full_in_all cold told.right && true))
      (not_frozen h.array a writable.own a_at a_in (omega (arith, within_a, room.1)) (λ d le'. cut_thawed level taken a b writable.loose d (omega (arith, le'))))
      (both_true (full_in_all cold told.left) (full_in_all cold told.right && true)
      (not_frozen h.left l own_left l_at l_in (omega (arith, parts.there))
      (λ d le'. thawed_outside level own after_it free d l (λ e. omega (arith, le', e)) l_own))
      (both_true (full_in_all cold told.right) true (not_frozen h.right r own_right r_at r_in (omega (arith, parts.there, next))
      (λ d le'. thawed_outside level own after_it free d r (λ e. omega (arith, le', e)) r_own)) refl)) in (
        refl,
        subst (λ ls. is_ready setting.code (shape_at (size setting) inside ls after_it 0) instr.EndCut ≡ true) (sym last_is) ready,
        (
          takes_less (table setting) next_place (leaves setting.code end instr.EndCut) (made setting opened locals left 0) leads' refl
              (subst (λ ls. Over (made setting opened locals left 0) (leaves setting.code (shape_at (size setting) inside ls after_it 0) instr.EndCut))
              (sym last_is) over),
          tt,
        ),
        subst (λ ls. is_thawed setting.code (shape_at (size setting) inside ls after_it 0) instr.EndCut ≡ true) (sym last_is) thawed,
      )
    where
      parts_own : (arrays : List Name) → ((x : Name) → is_among x arrays ≡ true → is_among x (own_names b) ≡ true) → (x : Name)
          → is_among x (l ∷ r ∷ arrays) ≡ true → is_among x (l ∷ r ∷ own_names b) ≡ true
      parts_own arrays more x k = test (same_name x l) (same_name x r) k
        where
          test : (p q : Bool) → (if p then true else if q then true else is_among x arrays) ≡ true → (if p then true else if q then true else is_among x (own_names b)) ≡ true
          test true q k' = refl
          test false true k' = refl
          test false false k' = more x k'

  -- a cut, the block in which its parts are known, and its end are well formed
  pub cut_fits : (level : ℕ) (opened : Opened) (locals : Locals) (taken : Taken) (a l r : Name) (e : Expr) (b : Block) (line place : ℕ)
      → level ≡ depth_in opened → HasRoom setting locals → CutsOpen setting.marks opened locals taken → IsWritable setting.marks locals.arrays taken a
      → ExprFine locals taken e → PartsFine setting.marks (size setting) locals l r →
      BlockFine setting.fs setting.lists (tables setting) setting.marks (size setting) Nowhere (level + 1) (with_array r (with_array l locals))
      ((a, CutOf) ∷ taken) b → FreeAtEnd setting.fs (level + 1) Joins ((a, CutOf) ∷ taken) (l ∷ r ∷ own_names b) b →
      HasShapesFrom setting.tab place (stmt_shapes setting.fs (size setting) opened locals taken (Cut a e l r b))
      → FlowsInto (table setting) (place + length (stmt_code (first setting) setting.marks setting.lists locals line (Cut a e l r b)))
      (made setting opened locals (held_after setting.fs (depth_in opened) (Cut a e l r b) taken) 0) →
      (CutsOpen setting.marks (Some (halves_at locals a) ∷ opened) (with_array r (with_array l locals)) ((a, CutOf) ∷ taken) → HasRoom setting (with_array r (with_array l locals)) →
      (block_returns b ≡ false → FlowsInto (table setting) (place + length (expr_code setting.marks locals line e) + 1
      + length (block_code (first setting) setting.marks setting.lists (with_array r (with_array l locals)) b))
      (end_shape setting.fs (size setting) (Some (halves_at locals a) ∷ opened) (with_array r (with_array l locals)) ((a, CutOf) ∷ taken) b)) →
      AllFit setting (place + length (expr_code setting.marks locals line e) + 1)
      (block_shapes setting.fs (size setting) (Some (halves_at locals a) ∷ opened) (with_array r (with_array l locals)) ((a, CutOf) ∷ taken) b)
      (block_code (first setting) setting.marks setting.lists (with_array r (with_array l locals)) b)) →
      AllFit setting place (stmt_shapes setting.fs (size setting) opened locals taken (Cut a e l r b)) (stmt_code (first setting) setting.marks setting.lists locals line (Cut a e l r b))
  cut_fits level opened locals taken a l r e b line place at room cuts writable fine parts block free stands leads inner_fits =
      let usable = writable.usable in
      let ce = expr_code setting.marks locals line e in
      let inner = with_array r (with_array l locals) in
      let inner_taken = (a, CutOf) ∷ taken in
      let h = halves_at locals a in
      let inside = Some h ∷ opened in
      let cb = block_code (first setting) setting.marks setting.lists inner b in
      let told = cut_numbers setting.marks h in
      let i = instr.Cut told line in
      let shape = made setting opened locals taken 1 in
      let end = end_shape setting.fs (size setting) inside inner inner_taken b in
      let last = reached (block_returns b) end in
      let ss = block_shapes setting.fs (size setting) inside inner inner_taken b in
      let se = expr_shapes (made setting opened locals taken) 0 e in
      let deeper : level + 1 ≡ suc (depth_in opened) = omega (arith, at) in
      let next : length (locals.arrays ++ l ∷ []) ≡ length locals.arrays + 1 = length-append locals.arrays (l ∷ []) in
      let all : length inner.arrays ≡ length locals.arrays + 2 = omega (arith, length-append (locals.arrays ++ l ∷ []) (r ∷ []), next) in
      let within_a = slot_in a locals.arrays usable.declared in
      let room' : HasRoom setting inner = (room.0, omega (arith, parts.there, all)) in
      let same : inner.arrays ≡ locals.arrays ++ l ∷ r ∷ [] = append_assoc locals.arrays (l ∷ []) (r ∷ []) in
      let cuts' : CutsOpen setting.marks inside inner inner_taken = (
        record {
          name = a;
          declared = ap (is_among a) same ∙ among_left a locals.arrays (l ∷ r ∷ []) usable.declared;
          slot = ap (slot_of a) same
              ∙ slot_stays a locals.arrays (l ∷ r ∷ []) usable.declared;
          cut = inl refl;
          own = writable.own;
          left = omega (arith, all);
          right =
              omega (arith, all, next);
          left_behind = parts.behind;
          right_behind = omega (arith, parts.behind);
        },
        cuts_kept setting.marks opened locals inner (l ∷ r ∷ []) taken inner_taken same (λ q k. inr k) cuts,
      ) in
      let pb = place + length ce + 1 in
      let pj = place + length ce + 1 + length cb in
      let count : length ss ≡ length cb = block_as_many setting.fs setting.lists (tables setting) (size setting) Nowhere (level + 1) inside inner inner_taken b deeper block in
      let second = stands_back setting.tab place (length ce) se (Some shape ∷ (ss ++ last ∷ [])) (expr_as_many (made setting opened locals taken) 0 setting.marks locals line e) stands in
      let front = stands_front setting.tab pb ss (last ∷ []) second.1 in
      let top = (stands_back setting.tab pb (length cb) ss (last ∷ []) count second.1).0 in
      let closes : block_returns b ≡ false → FlowsInto (table setting) pj end = λ goes. exact setting.tab pj end (top ∙ ap (λ q. Some (reached q end)) goes) in
      let enters = block_enters setting Nowhere (level + 1) inside inner inner_taken b pb deeper room' cuts' block front closes in
      let depth = depth_in opened in
      let declared : (us : Taken) → Covers (row (size setting).arrays depth inner.arrays us) (row (size setting).arrays depth locals.arrays us) = λ us.
      covers_after (row (size setting).arrays depth inner.arrays us) (row (size setting).arrays depth (locals.arrays ++ l ∷ []) us) (row (size setting).arrays depth locals.arrays us)
      (covers_declared (size setting).arrays depth (locals.arrays ++ l ∷ []) r us) (covers_declared (size setting).arrays depth locals.arrays l us) in
      let grown : Covers (array_row (size setting) depth inner.arrays inner_taken) (array_row (size setting) depth locals.arrays taken) =
      array_covers (size setting) depth depth inner.arrays locals.arrays inner_taken taken
      (covers_after (row (size setting).arrays depth inner.arrays inner_taken) (row (size setting).arrays depth inner.arrays taken) (row (size setting).arrays depth locals.arrays taken)
      (row_more (size setting).arrays depth inner.arrays taken inner_taken (λ x q. holds_behind false depth x ((a, CutOf) ∷ []) taken q)) (declared taken)) in
      let cold_grown : Covers (array_row (size setting) depth inner.arrays (frozen_of taken)) (array_row (size setting) depth locals.arrays (frozen_of taken)) =
      array_covers (size setting) depth depth inner.arrays locals.arrays (frozen_of taken) (frozen_of taken) (declared (frozen_of taken)) in
      let outer_grown : CoversEach (outers (size setting) opened inner inner_taken) (outers (size setting) opened locals taken) =
      each_covers_after (outers (size setting) opened inner inner_taken) (outers (size setting) opened inner taken) (outers (size setting) opened locals taken)
      (outers_more (size setting) opened inner taken inner_taken (λ d x le q. holds_behind false d x ((a, CutOf) ∷ []) taken q) (λ d x le q. q))
      (each_covers_after (outers (size setting) opened inner taken) (outers (size setting) opened (with_array l locals) taken)
      (outers (size setting) opened locals taken) (outers_array (size setting) opened (with_array l locals) r taken)
      (outers_array (size setting) opened locals l taken)) in
      let opens : FlowsInto (table setting) pb (leaves setting.code shape i) =
      takes_less (table setting) pb (leaves setting.code shape i) (made setting inside inner inner_taken 0) enters refl (
        covers_none (row (size setting).ints (suc depth) locals.ints inner_taken) (length (row (size setting).ints depth locals.ints taken))
            (length-row (size setting).ints (suc depth) locals.ints inner_taken ∙ sym (length-row (size setting).ints depth locals.ints taken)),
        covers_none (array_row (size setting) (suc depth) inner.arrays inner_taken) (length (array_row (size setting) depth locals.arrays taken))
            (length_array_row (size setting) (suc depth) depth inner.arrays locals.arrays inner_taken taken),
        covers_none (array_row (size setting) (suc depth) inner.arrays (frozen_of taken))
            (length (array_row (size setting) depth locals.arrays (frozen_of taken)))
            (length_array_row (size setting) (suc depth) depth inner.arrays locals.arrays (frozen_of taken) (frozen_of taken)),
        (
          row_more (size setting).ints depth locals.ints taken inner_taken (λ x q. holds_behind false depth x ((a, CutOf) ∷ []) taken q),
          covers_set (array_row (size setting) depth inner.arrays inner_taken) (array_row (size setting) depth locals.arrays taken) told.array grown,
          cold_grown,
          refl,
          outer_grown,
        ),
      ) in
      let own_left = own_behind setting.marks h.left parts.behind in
      let own_right = own_behind setting.marks h.right (omega (arith, parts.behind)) in
      let in_a : h.array < (size setting).arrays = omega (arith, within_a, room.1) in
      let in_l : h.left < (size setting).arrays = omega (arith, parts.there) in
      let in_r : h.right < (size setting).arrays = omega (arith, parts.there) in
      let named : names_halves setting.f told ≡ true =
      halves_named told.array told.left told.right (own_below setting h.array writable.own in_a) (own_below setting h.left own_left in_l) (own_below setting h.right own_right in_r)
      (at_apart setting.marks h.array h.left writable.own own_left (λ q. omega (arith, within_a, q))) (at_apart setting.marks h.array h.right writable.own own_right (λ q. omega (arith, within_a, q)))
      (at_apart setting.marks h.left h.right own_left own_right (λ q. omega (arith, q)))
      (behind_params locals h.left parts.begins (omega arith) parts.behind) (behind_params locals h.right parts.begins (omega arith) (omega (arith, parts.behind))) in
      let around = outers (size setting) opened locals taken in
      let ready : is_ready setting.code shape i ≡ true =
      both_true (has_arrays shape (told.array ∷ told.left ∷ told.right ∷ []) && nat_le 1 1) (are_no_parts told around)
      (both_true (has_arrays shape (told.array ∷ told.left ∷ told.right ∷ [])) (nat_le 1 1)
      (both_true (has_array shape told.array) (has_array shape told.left && (has_array shape told.right && true)) (array_is_full (size setting) opened locals taken a 1 room.1 usable writable.own cuts)
      (both_true (has_array shape told.left) (has_array shape told.right && true) (next_array_is_full (size setting) opened locals taken h.left 1 (omega arith) in_l own_left cuts)
      (both_true (has_array shape told.right) true (next_array_is_full (size setting) opened locals taken h.right 1 (omega arith) in_r own_right cuts) refl))) refl)
      (both_true (is_no_part told.left around) (is_no_part told.right around)
      (no_part (size setting) opened locals locals taken taken h.left (omega arith) own_left cuts)
      (no_part (size setting) opened locals locals taken taken h.right (omega arith) own_right cuts)) in
      let cold = array_row (size setting) depth locals.arrays (frozen_of taken) ∷ frozen_rows around in
      let thawed : none_frozen cold (told.array ∷ told.left ∷ told.right ∷ []) ≡ true =
      both_true (full_in_all cold told.array) (full_in_all cold told.left && (full_in_all cold told.right && true)) (array_is_thawed (size setting) opened locals taken a room.1 writable)
      (both_true (full_in_all cold told.left) (full_in_all cold told.right && true) (next_array_is_thawed (size setting) opened locals taken h.left (omega arith) in_l own_left)
      (both_true (full_in_all cold told.right) true (next_array_is_thawed (size setting) opened locals taken h.right (omega arith) in_r own_right) refl)) in
      let behind : place + length (ce ++ i ∷ (cb ++ instr.EndCut ∷ [])) ≡ pj + 1 = omega (arith, length-append ce (i ∷ (cb ++ instr.EndCut ∷ [])), length-append cb (instr.EndCut ∷ [])) in
      let after_it = held_after setting.fs (depth_in opened) (Cut a e l r b) taken in
      let leads' : FlowsInto (table setting) (pj + 1) (made setting opened locals after_it 0) = subst (λ p. FlowsInto (table setting) p (made setting opened locals after_it 0)) behind leads in
      both_fit setting place se (Some shape ∷ (ss ++ last ∷ [])) ce (i ∷ (cb ++ instr.EndCut ∷ []))
      (expr_fits setting opened locals taken room cuts e line place 0 fine
      (stands_front setting.tab place se (Some shape ∷ (ss ++ last ∷ [])) stands) (exact setting.tab (place + length ce) shape second.0))
      ((named, ready, (opens, tt), thawed), both_fit setting pb ss (last ∷ []) cb (instr.EndCut ∷ []) (inner_fits cuts' room' closes) (closing (block_returns b) leads', tt))
    where
      free' : (x : Name) → is_among x (l ∷ r ∷ own_names b) ≡ true → is_held (freed (suc (depth_in opened)) (held_after_all setting.fs (suc (depth_in opened)) b ((a, CutOf) ∷ taken))) x ≡ false
      free' x k = let deeper : level + 1 ≡ suc (depth_in opened) = omega (arith, at) in subst (λ m. is_held (freed m (held_after_all setting.fs m b ((a, CutOf) ∷ taken))) x ≡ false) deeper (free x k)

      halves_named : (i j k : ℕ) → i < setting.f.arrays → j < setting.f.arrays → k < setting.f.arrays → i ≢ j → i ≢ k → j ≢ k
          → nat_le setting.f.array_params j ≡ true → nat_le setting.f.array_params k ≡ true → names_halves setting.f (record { array = i; left = j; right = k }) ≡ true
      halves_named i j k wi wj wk ij ik jk oj ok =
          three_named (nat_lt i setting.f.arrays) (nat_lt j setting.f.arrays) (nat_lt k setting.f.arrays) (nat_eq i j) (nat_eq i k) (nat_eq j k)
          (nat_le setting.f.array_params j) (nat_le setting.f.array_params k)
          (below i setting.f.arrays wi) (below j setting.f.arrays wj) (below k setting.f.arrays wk) (not_equal i j ij) (not_equal i k ik) (not_equal j k jk) oj ok
        where
          not_equal : (c d : ℕ) → c ≢ d → nat_eq c d ≡ false
          not_equal c d h = cases (nat_eq c d) refl
            where
              cases : (q : Bool) → nat_eq c d ≡ q → q ≡ false
              cases true e' = absurd (h (eq_of c d e'))
              cases false e' = refl

          three_named : (p q s t u v w z : Bool) → p ≡ true → q ≡ true → s ≡ true → t ≡ false → u ≡ false → v ≡ false → w ≡ true → z ≡ true
              → ((p && ((not t && (not u && true)) && (q && ((not v && true) && (s && (true && true)))))) && (w && z)) ≡ true
          three_named true true true false false false true true a1 a2 a3 a4 a5 a6 a7 a8 = refl
          three_named p q s t u v w z a1 a2 a3 a4 a5 a6 a7 a8 = cc

      closing : (q : Bool) → FlowsInto (table setting) (place + length (expr_code setting.marks locals line e) + 1
          + length (block_code (first setting) setting.marks setting.lists (with_array r (with_array l locals)) b) + 1)
          (made setting opened locals (held_after setting.fs (depth_in opened) (Cut a e l r b) taken) 0) →
          FitsAt setting (place + length (expr_code setting.marks locals line e) + 1
          + length (block_code (first setting) setting.marks setting.lists (with_array r (with_array l locals)) b))
          (reached q (end_shape setting.fs (size setting) (Some (halves_at locals a) ∷ opened) (with_array r (with_array l locals))
          ((a, CutOf) ∷ taken) b)) instr.EndCut
      closing true h = refl
      closing false h = cut_closes opened locals taken a l r b (place + length (expr_code setting.marks locals line e) + 1
          + length (block_code (first setting) setting.marks setting.lists (with_array r (with_array l locals)) b) + 1) room cuts writable parts free' h
