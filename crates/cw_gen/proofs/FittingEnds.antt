-- The shape that a block leaves at its end.
use Rattle.std.proofs.Common.{◌≡◌, ◌≢◌, ℕ, suc, ◌+◌, ◌≤◌, List, ◌∷◌, ◌++◌, Bool, true, false, None, refl, sym, ap, ◌∙◌, subst, arith, true≢false}
use Rattle.cw_model.specs.Syntax.{Name, Block}
use Rattle.cw_model.specs.Names.{is_among}
use Rattle.cw_model.specs.Ownership.{Taken, is_taken, is_held, freed, without, own_names, Joins, Leaves}
use Rattle.cw_tree.specs.Resolved.{Locals}
use Rattle.cw_code.specs.declared.code.Instr.TheVariants as instr
use Rattle.cw_code.specs.Fits.{leaves}
use Rattle.cw_gen.proofs.HeldNames.{held_after_all}
use Rattle.cw_gen.proofs.Fine.{EndsFree}
use Rattle.cw_gen.proofs.Takens.{holds, loose_free, not_held, held_is_taken, held_past, held_without}
use Rattle.cw_gen.proofs.Frozen.{frozen_of, frozen_without, frozen_freed, loose_thawed}
use Rattle.cw_gen.proofs.Scopes.{locals_after_all, extended, names_extend}
use Rattle.cw_gen.proofs.EmptySlots.{array_covers, covers_held, KeepsHeld, NoneHeld, Over, outers_held}
use Rattle.cw_gen.proofs.Shapes.{Opened, depth_in, shape_at, end_shape}
use Rattle.cw_gen.proofs.Settings.{Setting, size, made}

-- the locals held outside of an inner sync block at its end
pub held_outside : (level : ℕ) (own : List Name) (after_it : Taken) (d : ℕ) (x : Name) → d ≢ level → holds false d x after_it ≡ true
    → is_among x own ≡ false → holds false d x (freed level (without own after_it)) ≡ true
held_outside level own after_it d x apart h a = held_past false level d x (without own after_it) apart (held_without false d x own after_it a h)

-- no name of the block is held outside of it
pub free_outside : (level : ℕ) (own : List Name) (after_it : Taken)
    → ((x : Name) → is_among x own ≡ true → is_taken (freed level after_it) x ≡ false) → (d : ℕ) (x : Name) → d ≢ level → is_among x own ≡ true
    → holds false d x after_it ≡ false
free_outside level own after_it free d x apart a = cases (holds false d x after_it) refl
  where
    cases : (c : Bool) → holds false d x after_it ≡ c → c ≡ false
    cases true e = absurd (true≢false (sym (held_is_taken false d x (freed level after_it) (held_past false level d x after_it apart e)) ∙ free x a))
    cases false e = refl

-- no name of the block is frozen outside of it
pub frozen_outside : (level : ℕ) (own : List Name) (after_it : Taken) (d : ℕ) (x : Name) → d ≢ level → holds false d x (frozen_of after_it) ≡ true
    → is_among x own ≡ false → holds false d x (frozen_of (freed level (without own after_it))) ≡ true
frozen_outside level own after_it d x apart h a =
    ap (holds false d x) (frozen_freed level (without own after_it) ∙ ap (freed level) (frozen_without own after_it)) ∙ held_outside level own (frozen_of after_it) d x apart h a

-- names that are not held at the end are not held outside
pub none_outside : (level : ℕ) (own : List Name) (after_it : Taken) → ((x : Name) → is_among x own ≡ true → is_held (freed level after_it) x ≡ false)
    → (d : ℕ) (x : Name) → d ≢ level → is_among x own ≡ true → holds false d x after_it ≡ false
none_outside level own after_it free d x apart a = free_outside level own after_it (λ y h. loose_free y (freed level after_it) (free y h)) d x apart a

pub thawed_outside : (level : ℕ) (own : List Name) (after_it : Taken)
    → ((x : Name) → is_among x own ≡ true → is_held (freed level after_it) x ≡ false) → (d : ℕ) (x : Name) → d ≢ level → is_among x own ≡ true
    → holds false d x (frozen_of after_it) ≡ false
thawed_outside level own after_it free d x apart a =
    free_outside level own (frozen_of after_it) (λ y h. ap (λ us. is_taken us y) (sym (frozen_freed level after_it)) ∙ loose_thawed y (freed level after_it) (free y h)) d x apart a

-- a held name stays held if none of these names is held and every other name stays held
stays_held : (own : List Name) (before after : Taken) (d : ℕ) (x : Name) → (is_among x own ≡ true → holds false d x before ≡ false)
    → (is_among x own ≡ false → holds false d x before ≡ true → holds false d x after ≡ true) → holds false d x before ≡ true → holds false d x after ≡ true
stays_held own before after d x free keeps h = cases (is_among x own) refl
  where
    cases : (c : Bool) → is_among x own ≡ c → holds false d x after ≡ true
    cases true e = absurd (true≢false (sym h ∙ free e))
    cases false e = keeps e h

module _ (setting : Setting) where
  -- the shape of a place covers the shape with more names, if more is held and none of the other names is held
  rows_cover : (opened : Opened) (locals : Locals) (ints arrays : List Name) (after_it taken' : Taken) → KeepsHeld after_it taken' (depth_in opened)
      → KeepsHeld (frozen_of after_it) (frozen_of taken') (depth_in opened) →
      NoneHeld ints after_it (depth_in opened) → NoneHeld arrays after_it (depth_in opened) → NoneHeld arrays (frozen_of after_it) (depth_in opened) →
      Over (made setting opened locals taken' 0) (made setting opened (extended locals ints arrays) after_it 0)
  rows_cover opened locals ints arrays after_it taken' h f k m z =
      let depth = depth_in opened in
      let all = locals.arrays ++ arrays in (
        covers_held (size setting).ints depth locals.ints ints after_it taken' (λ x a. h depth x (omega arith)) (λ x. k depth x (omega arith)),
        array_covers (size setting) depth depth locals.arrays all taken' after_it
            (covers_held (size setting).arrays depth locals.arrays arrays after_it taken' (λ x a. h depth x (omega arith)) (λ x. m depth x (omega arith))),
        array_covers (size setting) depth depth locals.arrays all (frozen_of taken') (frozen_of after_it)
            (covers_held (size setting).arrays depth locals.arrays arrays (frozen_of after_it) (frozen_of taken') (λ x a. f depth x (omega arith))
            (λ x. z depth x (omega arith))),
        outers_held (size setting) opened locals ints arrays after_it taken' (λ d x le. h d x (omega (arith, le)))
            (λ d x le. f d x (omega (arith, le))) (λ d x le. k d x (omega (arith, le))) (λ d x le. m d x (omega (arith, le))) (λ d x le. z d x (omega (arith, le))),
      )

  -- the shape after a branch or an iteration covers the shape at its end
  pub branch_covers : (opened : Opened) (locals : Locals) (taken taken' : Taken) (b : Block) → EndsFree setting.fs (depth_in opened) Leaves taken b →
      ((d : ℕ) (x : Name) → holds false d x (without (own_names b) (held_after_all setting.fs (depth_in opened) b taken)) ≡ true → holds false d x taken' ≡ true) →
      ((d : ℕ) (x : Name) → holds false d x (frozen_of (without (own_names b) (held_after_all setting.fs (depth_in opened) b taken))) ≡ true → holds false d x (frozen_of taken') ≡ true) →
      Over (made setting opened locals taken' 0) (end_shape setting.fs (size setting) opened locals taken b)
  branch_covers opened locals taken taken' b free more freeze =
      let after_it = held_after_all setting.fs (depth_in opened) b taken in
      let own = own_names b in
      let ext = names_extend b locals in
      let none : (d : ℕ) (x : Name) → is_among x own ≡ true → holds false d x after_it ≡ false = λ d x a. not_held false d x after_it (loose_free x after_it (free x a)) in
      let thawed : (d : ℕ) (x : Name) → is_among x own ≡ true → holds false d x (frozen_of after_it) ≡ false = λ d x a. not_held false d x (frozen_of after_it) (loose_thawed x after_it (free x a)) in
      subst (λ ls. Over (made setting opened locals taken' 0) (made setting opened ls after_it 0)) (sym ext.same)
      (rows_cover opened locals ext.ints ext.arrays after_it taken'
      (λ d x le. stays_held own after_it taken' d x (none d x) (λ a h. more d x (held_without false d x own after_it a h)))
      (λ d x le. stays_held own (frozen_of after_it) (frozen_of taken') d x (thawed d x)
      (λ a h. freeze d x (ap (holds false d x) (frozen_without own after_it) ∙ held_without false d x own (frozen_of after_it) a h)))
      (λ d x le a. none d x (ext.own x a)) (λ d x le a. none d x (ext.own_arrays x a)) (λ d x le a. thawed d x (ext.own_arrays x a)))

  -- the shape after a sync block with some of these names covers the shape at its end
  pub outer_covers : (opened : Opened) (locals : Locals) (ints arrays own : List Name) (after_it taken' : Taken) (level : ℕ)
      → level ≡ suc (depth_in opened) → ((x : Name) → is_among x own ≡ true → is_held (freed level after_it) x ≡ false) →
      ((x : Name) → is_among x ints ≡ true → is_among x own ≡ true) → ((x : Name) → is_among x arrays ≡ true → is_among x own ≡ true) →
      ((d : ℕ) (x : Name) → d ≢ level → holds false d x after_it ≡ true → is_among x own ≡ false → holds false d x taken' ≡ true) →
      ((d : ℕ) (x : Name) → d ≢ level → holds false d x (frozen_of after_it) ≡ true → is_among x own ≡ false → holds false d x (frozen_of taken') ≡ true) →
      Over (made setting opened locals taken' 0) (made setting opened (extended locals ints arrays) after_it 0)
  outer_covers opened locals ints arrays own after_it taken' level at free own_ints own_arrays keeps freeze =
      let not_level : (d : ℕ) → d ≤ depth_in opened → d ≢ level = λ d le e. omega (arith, le, e, at) in
      let none = none_outside level own after_it free in
      let thawed = thawed_outside level own after_it free in
      rows_cover opened locals ints arrays after_it taken'
      (λ d x le. stays_held own after_it taken' d x (none d x (not_level d le)) (λ a h. keeps d x (not_level d le) h a))
      (λ d x le. stays_held own (frozen_of after_it) (frozen_of taken') d x (thawed d x (not_level d le)) (λ a h. freeze d x (not_level d le) h a))
      (λ d x le a. none d x (not_level d le) (own_ints x a)) (λ d x le a. none d x (not_level d le) (own_arrays x a)) (λ d x le a. thawed d x (not_level d le) (own_arrays x a))

  -- the shape after a scope or a region covers the shape that its end leaves
  pub inside_covers : (opened : Opened) (locals : Locals) (taken : Taken) (b : Block) (level : ℕ) → level + 1 ≡ suc (depth_in opened) → EndsFree setting.fs (level + 1) Joins taken b →
      Over (made setting opened locals (freed (level + 1) (without (own_names b) (held_after_all setting.fs (level + 1) b taken))) 0)
      (leaves setting.code (end_shape setting.fs (size setting) (None ∷ opened) locals taken b) instr.Close)
  inside_covers opened locals taken b level at free =
      let ext = names_extend b locals in
      let own = own_names b in
      let after_it = held_after_all setting.fs (level + 1) b taken in
      let left = freed (level + 1) (without own after_it) in
      let c = outer_covers opened locals ext.ints ext.arrays own after_it left (level + 1) at free ext.own ext.own_arrays
      (λ d x apart h a. held_outside (level + 1) own after_it d x apart h a) (λ d x apart h a. frozen_outside (level + 1) own after_it d x apart h a) in
      subst (λ n. Over (made setting opened locals left 0) (leaves setting.code
      (shape_at (size setting) (None ∷ opened) (locals_after_all locals b) (held_after_all setting.fs n b taken) 0) instr.Close)) at
      (subst (λ ls. Over (made setting opened locals left 0) (leaves setting.code (shape_at (size setting) (None ∷ opened) ls after_it 0) instr.Close)) (sym ext.same) (c.0, c.1, c.2, c.3))
