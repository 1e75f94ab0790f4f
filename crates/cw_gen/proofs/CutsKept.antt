-- An open cut stays open until its end.
use Rattle.std.proofs.Common.{◌≡◌, ℕ, ◌+◌, List, [], ◌∷◌, ◌++◌, Bool, true, false, not, refl, sym, ap, ◌∙◌, subst, inr, true≢false}
use Rattle.std.specs.Prelude.{map}
use Rattle.std.proofs.lemmas.List.{append-nil}
use Rattle.std.proofs.lemmas.Slice.Eq.{bytes_eq-Decides}
use Rattle.cw_facts.specs.Tests.{first_false}
use Rattle.cw_model.specs.declared.syntax.CallKind.TheVariants.{Plain, Spawned}
use Rattle.cw_model.specs.Syntax.{Name, Stmt, Declare, DeclareArray, Assign, AssignElement, Reduce, Call, Start, Begin, Sync, If}
use Rattle.cw_model.specs.Syntax.{IfElse, While, Scope, Cut, Region, Print, Return, Block, End, Then, Function}
use Rattle.cw_model.specs.Names.{same_name, is_among}
use Rattle.cw_model.specs.Typing.{Nowhere, surely_returns, block_returns}
use Rattle.cw_model.specs.Ownership.{SpawnIn, ReaderIn, CutOf, Taken, is_taken, is_held, is_spawn_in, is_cut_of, freed, taken_by, without}
use Rattle.cw_model.specs.Ownership.{own_names, where_it_goes_on, target_names, given, lent, Closing, Joins, Leaves, at_end}
use Rattle.cw_tree.specs.Resolved.{Lists, Locals, with_array, locals_after}
use Rattle.cw_gen.specs.Emit.{Tables}
use Rattle.cw_gen.proofs.HeldNames.{held_after, held_after_all}
use Rattle.cw_gen.proofs.Fine.{Room, StmtFine, BlockFine}
use Rattle.cw_gen.proofs.FreeMembers.{In, in_taken, in_held, in_kept, in_left as in_before, in_right}
use Rattle.cw_gen.specs.Marks.{Marks}
use Rattle.cw_gen.proofs.EmptySlots.{Opened, CutsOpen, cuts_kept}

-- a cut does not hold a name of a block whose names are free at its end
in_left : (q : Name) (own : List Name) (closing : Closing) (depth : ℕ) (after_it : Taken)
    → ((x : Name) → is_among x own ≡ true → is_held (at_end closing depth after_it) x ≡ false) → In (q, CutOf) after_it → In (q, CutOf) (without own after_it)
in_left q own closing depth after_it free h = in_kept (λ t. not (is_among t.0 own)) (q, CutOf) after_it h (ap not (apart (is_among q own) refl))
  where
    at_the_end : (c : Closing) → In (q, CutOf) (at_end c depth after_it)
    at_the_end Joins = in_kept (λ t. not (is_spawn_in depth t.1)) (q, CutOf) after_it h refl
    at_the_end Leaves = h

    apart : (b : Bool) → is_among q own ≡ b → b ≡ false
    apart true e = absurd (true≢false (sym (in_held (q, CutOf) (at_end closing depth after_it) (at_the_end closing)) ∙ free q e))
    apart false e = refl

in_freed : (q : Name) (depth : ℕ) (taken : Taken) → In (q, CutOf) taken → In (q, CutOf) (freed depth taken)
in_freed q depth taken h = in_kept (λ t. not (is_spawn_in depth t.1)) (q, CutOf) taken h refl

module _ (fs : List Function) (lists : Lists) (tables : Tables) (size : Room) where
  mutual
    -- if no return is allowed, no statement surely returns
    stmt_goes : (level : ℕ) (locals : Locals) (taken : Taken) (s : Stmt) → StmtFine fs lists tables size.marks size Nowhere level locals taken s → surely_returns s ≡ false
    stmt_goes level locals taken (Return e) fine = absurd fine.0
    stmt_goes level locals taken (IfElse e b c) fine = first_false (block_returns b) (block_returns c) (block_goes level locals taken b fine.1.0)
    stmt_goes level locals taken _ fine = refl

    block_goes : (level : ℕ) (locals : Locals) (taken : Taken) (b : Block) → BlockFine fs lists tables size.marks size Nowhere level locals taken b → block_returns b ≡ false
    block_goes level locals taken End fine = refl
    block_goes level locals taken (Then line s End) fine = stmt_goes level locals taken s fine.0
    block_goes level locals taken (Then line s (Then line' s' b)) fine = block_goes level (locals_after locals s) (held_after fs level s taken) (Then line' s' b) fine.1

  mutual
    stmt_keeps : (level : ℕ) (locals : Locals) (taken : Taken) (s : Stmt) (q : Name)
        → StmtFine fs lists tables size.marks size Nowhere level locals taken s → In (q, CutOf) taken → In (q, CutOf) (held_after fs level s taken)
    stmt_keeps level locals taken (Declare x e) q fine h = h
    stmt_keeps level locals taken (DeclareArray x e) q fine h = h
    stmt_keeps level locals taken (Assign x e) q fine h = h
    stmt_keeps level locals taken (AssignElement x i e) q fine h = h
    stmt_keeps level locals taken (Reduce how x e) q fine h = h
    stmt_keeps level locals taken (Print e) q fine h = h
    stmt_keeps level locals taken (Call Plain site target f es) q fine h = h
    stmt_keeps level locals taken (Call Spawned site target f es) q fine h =
        in_right (q, CutOf) (map (λ x. (x, ReaderIn level)) (lent fs f es)) (taken_by level (target_names target ++ given fs f es) taken)
        (in_right (q, CutOf) (map (λ x. (x, SpawnIn level)) (target_names target ++ given fs f es)) taken h)
    stmt_keeps level locals taken (Start Plain f es) q fine h = h
    stmt_keeps level locals taken (Start Spawned f es) q fine h = in_right (q, CutOf) (map (λ x. (x, SpawnIn level)) (given fs f es)) taken h
    stmt_keeps level locals taken (Begin f from to captured over) q fine h = h
    stmt_keeps level locals taken Sync q fine h = in_freed q level taken h
    stmt_keeps level locals taken (If e b) q fine h = in_right (q, CutOf) (where_it_goes_on (block_returns b) (without (own_names b) (held_after_all fs level b taken))) taken h
    stmt_keeps level locals taken (IfElse e b c) q fine h =
        let left = without (own_names b) (held_after_all fs level b taken) in
        in_before (q, CutOf) (where_it_goes_on (block_returns b) left) (where_it_goes_on (block_returns c) (without (own_names c) (held_after_all fs level c taken)))
        (subst (λ r. In (q, CutOf) (where_it_goes_on r left)) (sym (block_goes level locals taken b fine.1.0))
        (in_left q (own_names b) Leaves level (held_after_all fs level b taken) fine.1.1 (block_keeps level locals taken b q fine.1.0 h)))
    stmt_keeps level locals taken (While e b) q fine h = in_before (q, CutOf) taken (where_it_goes_on (block_returns b) (without (own_names b) (held_after_all fs level b taken))) h
    stmt_keeps level locals taken (Scope b) q fine h =
        in_freed q (level + 1) (without (own_names b) (held_after_all fs (level + 1) b taken))
        (in_left q (own_names b) Joins (level + 1) (held_after_all fs (level + 1) b taken) fine.1 (block_keeps (level + 1) locals taken b q fine.0 h))
    stmt_keeps level locals taken (Region tag b) q fine h =
        in_freed q (level + 1) (without (own_names b) (held_after_all fs (level + 1) b taken))
        (in_left q (own_names b) Joins (level + 1) (held_after_all fs (level + 1) b taken) fine.2 (block_keeps (level + 1) locals taken b q fine.1 h))
    stmt_keeps level locals taken (Cut a e l r b) q fine h =
        let inner = (a, CutOf) ∷ taken in
        let own = l ∷ r ∷ own_names b in
        let after_it = held_after_all fs (level + 1) b inner in
        in_kept (λ t. not (is_cut_of a t)) (q, CutOf) (freed (level + 1) (without own after_it))
        (in_freed q (level + 1) (without own after_it) (in_left q own Joins (level + 1) after_it fine.4 (block_keeps (level + 1) (with_array r (with_array l locals)) inner b q fine.3 (inr h))))
        (ap not (other (same_name a q) refl))
      where
        other : (b : Bool) → same_name a q ≡ b → b ≡ false
        other true e' = absurd (true≢false (sym (in_taken (q, CutOf) taken h refl) ∙ ap (is_taken taken) (sym ((bytes_eq-Decides a q).0 e')) ∙ fine.0.usable.free))
        other false e' = refl
    stmt_keeps level locals taken (Return e) q fine h = absurd fine.0
    stmt_keeps level locals taken _ q fine h = absurd fine

    block_keeps : (level : ℕ) (locals : Locals) (taken : Taken) (b : Block) (q : Name)
        → BlockFine fs lists tables size.marks size Nowhere level locals taken b → In (q, CutOf) taken → In (q, CutOf) (held_after_all fs level b taken)
    block_keeps level locals taken End q fine h = h
    block_keeps level locals taken (Then line s b) q fine h = block_keeps level (locals_after locals s) (held_after fs level s taken) b q fine.1 (stmt_keeps level locals taken s q fine.0 h)

  -- the arrays after a statement begin with the known arrays
  arrays_next : (locals : Locals) (s : Stmt) → (more : List Name) × ((locals_after locals s).arrays ≡ locals.arrays ++ more)
  arrays_next locals (DeclareArray x e) = (x ∷ [], refl)
  arrays_next locals _ = ([], sym (append-nil locals.arrays))

  -- open cuts after a statement
  pub cuts_next : (opened : Opened) (level : ℕ) (locals : Locals) (taken : Taken) (s : Stmt)
      → StmtFine fs lists tables size.marks size Nowhere level locals taken s → CutsOpen size.marks opened locals taken
      → CutsOpen size.marks opened (locals_after locals s) (held_after fs level s taken)
  cuts_next opened level locals taken s fine h =
      let n = arrays_next locals s in
      cuts_kept size.marks opened locals (locals_after locals s) n.0 taken (held_after fs level s taken) n.1 (λ q k. stmt_keeps level locals taken s q fine k) h

-- open cuts if more is held
pub cuts_more : (marks : Marks) (opened : Opened) (level : ℕ) (locals : Locals) (taken more : Taken) → CutsOpen marks opened locals taken → CutsOpen marks opened locals (taken ++ more)
cuts_more marks opened level locals taken more h = cuts_kept marks opened locals locals [] taken (taken ++ more) (sym (append-nil locals.arrays)) (λ q k. in_before (q, CutOf) taken more k) h
