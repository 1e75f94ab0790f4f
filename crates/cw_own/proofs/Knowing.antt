-- The consequences of the types of a program for its locals.
use Rattle.std.proofs.Common.{◌≡◌, ℕ, ◌+◌, ◌==◌, nat_lt, Bool, true, false, not, ◌&&◌, ◌||◌, if◌then◌else◌, [], ◌∷◌, ◌++◌, length, map, refl, sym, ap, ◌∙◌, arith, length-append}
use Rattle.std.proofs.lemmas.Bool.Decides.{nat_tests}
use Rattle.std.proofs.Math.Bool.{or-false, or-true}
use Rattle.cw_facts.specs.Tests.{neither_first, neither_second, below, not_below}
use Rattle.cw_model.specs.Syntax.{Name, Program}
use Rattle.cw_model.specs.Names.{same_name, is_among}
use Rattle.cw_model.specs.Typing.{Known, is_int, is_array, is_new, globals}
use Rattle.cw_tree.specs.Resolved.{Locals, slot_of}
use Rattle.cw_tree.specs.Resolved as spec
use Rattle.cw_tree.specs.lemmas.NamedSlots.{among_push, slot_in, slot_out}
use Rattle.cw_own.specs.Sets.{Row, with_int, with_array, both_rows}
use Rattle.cw_own.proofs.Keeping.{same_rows}
use Rattle.cw_own.proofs.Showing.{known_row, Shows, slot_kept}
use Rattle.cw_model.specs.declared.syntax.NameKind.TheVariants as name_kind
use Rattle.cw_model.specs.lemmas.Names.{same_are}

-- the known kinds agree with the locals, and no name is both an integer and an array
pub record Knows (known : Known) (locals : Locals) : Type 0 where
  pub ints : (x : Name) → is_int known x ≡ true → is_among x locals.ints ≡ true
  pub arrays : (x : Name) → is_array known x ≡ true → is_among x locals.arrays ≡ true
  pub apart : (x : Name) → is_among x locals.ints ≡ true → is_among x locals.arrays ≡ false
  pub names : (x : Name) → is_among x (map (λ k. k.0) known) ≡ (is_among x locals.ints || is_among x locals.arrays)

-- the name is neither an integer nor an array
pub record Fresh (y : Name) (locals : Locals) : Type 0 where
  pub no_int : is_among y locals.ints ≡ false
  pub no_array : is_among y locals.arrays ≡ false

neither : (a b : Bool) → not (a || b) ≡ true → a ≡ false
neither true b h = cc
neither false b h = refl

pub fresh_name : (program : Program) (known : Known) (locals : Locals) (y : Name) → Knows known locals → is_new program known y ≡ true → Fresh y locals
fresh_name program known locals y k h =
    let none = sym (k.names y) ∙ neither (is_among y (map (λ e. e.0) known)) (is_among y (globals program)) h in
    record {
      no_int = neither_first (is_among y locals.ints) (is_among y locals.arrays) none;
      no_array = neither_second (is_among y locals.ints) (is_among y locals.arrays) none;
    }

pub array_apart : (known : Known) (locals : Locals) (x : Name) → Knows known locals → is_among x locals.arrays ≡ true → is_among x locals.ints ≡ false
array_apart known locals x k h = by (is_among x locals.ints) refl
  where
    by : (b : Bool) → is_among x locals.ints ≡ b → is_among x locals.ints ≡ false
    by true e = let f = k.apart x e in cc
    by false e = e

pub knows_int : (known : Known) (locals : Locals) (y : Name) → Fresh y locals → Knows known locals → Knows ((y, name_kind.Integer) ∷ known) (spec.with_int y locals)
knows_int known locals y f k = record {
  ints = λ x h. among_push x locals.ints y ∙ ints_by x (same_name x y) refl h;
  arrays = λ x h. arrays_by x (same_name x y) refl h;
  apart = λ x h. apart_by x (is_among x locals.ints) refl (sym (among_push x locals.ints y) ∙ h);
  names = λ x. names_by x (same_name x y) refl;
}
  where
    ints_by : (x : Name) (b : Bool) → same_name x y ≡ b → (if b then true else is_int known x) ≡ true → (is_among x locals.ints || same_name x y) ≡ true
    ints_by x true e h = ap (λ b. is_among x locals.ints || b) e ∙ or-true (is_among x locals.ints)
    ints_by x false e h = ap (λ b. b || same_name x y) (k.ints x h)

    arrays_by : (x : Name) (b : Bool) → same_name x y ≡ b → (if b then false else is_array known x) ≡ true → is_among x locals.arrays ≡ true
    arrays_by x true e h = cc
    arrays_by x false e h = k.arrays x h

    apart_by : (x : Name) (b : Bool) → is_among x locals.ints ≡ b → (is_among x locals.ints || same_name x y) ≡ true → is_among x locals.arrays ≡ false
    apart_by x true e h = k.apart x e
    apart_by x false e h = ap (λ n. is_among n locals.arrays) (same_are x y (sym (ap (λ b. b || same_name x y) e) ∙ h)) ∙ f.no_array

    names_by : (x : Name) (b : Bool) → same_name x y ≡ b → (if b then true else is_among x (map (λ e. e.0) known)) ≡ (is_among x (locals.ints ++ y ∷ []) || is_among x locals.arrays)
    names_by x true e = sym (ap (λ b. b || is_among x locals.arrays) (among_push x locals.ints y ∙ ap (λ b. is_among x locals.ints || b) e ∙ or-true (is_among x locals.ints)))
    names_by x false e =
        k.names x ∙ sym (ap (λ b. b || is_among x locals.arrays) (among_push x locals.ints y ∙ ap (λ b. is_among x locals.ints || b) e ∙ or-false (is_among x locals.ints)))

pub knows_array : (known : Known) (locals : Locals) (y : Name) → Fresh y locals → Knows known locals → Knows ((y, name_kind.Array) ∷ known) (spec.with_array y locals)
knows_array known locals y f k = record {
  ints = λ x h. ints_by x (same_name x y) refl h;
  arrays = λ x h. among_push x locals.arrays y ∙ arrays_by x (same_name x y) refl h;
  apart = λ x h. among_push x locals.arrays y ∙ apart_by x (same_name x y) refl h;
  names = λ x. names_by x (same_name x y) refl;
}
  where
    ints_by : (x : Name) (b : Bool) → same_name x y ≡ b → (if b then false else is_int known x) ≡ true → is_among x locals.ints ≡ true
    ints_by x true e h = cc
    ints_by x false e h = k.ints x h

    arrays_by : (x : Name) (b : Bool) → same_name x y ≡ b → (if b then true else is_array known x) ≡ true → (is_among x locals.arrays || same_name x y) ≡ true
    arrays_by x true e h = ap (λ b. is_among x locals.arrays || b) e ∙ or-true (is_among x locals.arrays)
    arrays_by x false e h = ap (λ b. b || same_name x y) (k.arrays x h)

    apart_by : (x : Name) (b : Bool) → same_name x y ≡ b → is_among x locals.ints ≡ true → (is_among x locals.arrays || same_name x y) ≡ false
    apart_by x true e h =
        let g : is_among x locals.ints ≡ false = ap (λ n. is_among n locals.ints) (same_are x y e) ∙ f.no_int in cc
    apart_by x false e h = ap (λ b. is_among x locals.arrays || b) e ∙ or-false (is_among x locals.arrays) ∙ k.apart x h

    names_by : (x : Name) (b : Bool) → same_name x y ≡ b → (if b then true else is_among x (map (λ e. e.0) known)) ≡ (is_among x locals.ints || is_among x (locals.arrays ++ y ∷ []))
    names_by x true e = sym (ap (λ b. is_among x locals.ints || b) (among_push x locals.arrays y ∙ ap (λ b. is_among x locals.arrays || b) e
        ∙ or-true (is_among x locals.arrays)) ∙ or-true (is_among x locals.ints))
    names_by x false e =
        k.names x ∙ sym (ap (λ b. is_among x locals.ints || b) (among_push x locals.arrays y ∙ ap (λ b. is_among x locals.arrays || b) e ∙ or-false (is_among x locals.arrays)))

-- an array is known as an array, whether it may be written or only read
pub knows_const : (known : Known) (locals : Locals) (y : Name) → Knows ((y, name_kind.Array) ∷ known) locals → Knows ((y, name_kind.Const) ∷ known) locals
knows_const known locals y k = record { ints = k.ints; arrays = k.arrays; apart = k.apart; names = k.names }

one_below : (k n m : ℕ) → m ≡ n + 1 → nat_lt k m ≡ ((k == n) || nat_lt k n)
one_below k n m h = grind (arith, nat_tests, h)

pub known_int : (locals : Locals) (y : Name) → known_row (spec.with_int y locals) ≡ with_int (length locals.ints) (known_row locals)
known_int locals y =
    let count = length-append locals.ints (y ∷ []) in
    same_rows (known_row (spec.with_int y locals)) (with_int (length locals.ints) (known_row locals))
    (λ k. one_below k (length locals.ints) (length (locals.ints ++ y ∷ [])) (omega (arith, count))) (λ k. refl)

pub known_array : (locals : Locals) (y : Name) → known_row (spec.with_array y locals) ≡ with_array (length locals.arrays) (known_row locals)
known_array locals y =
    let count = length-append locals.arrays (y ∷ []) in
    same_rows (known_row (spec.with_array y locals)) (with_array (length locals.arrays) (known_row locals))
    (λ k. refl) (λ k. one_below k (length locals.arrays) (length (locals.arrays ++ y ∷ [])) (omega (arith, count)))

-- a set within the locals known before, without an integer that was declared since
pub shows_drop_int : (locals : Locals) (y : Name) (P : Name → Bool) (row : Row) → Fresh y locals → Shows (spec.with_int y locals) P row →
    Shows locals (λ x. not (same_name x y) && P x) (both_rows (known_row locals) row)
shows_drop_int locals y P row f s = record {
  same = λ x.
      ap (λ b. not (same_name x y) && b) (s.same x)
      ∙ by x (same_name x y) (is_among x locals.ints) (is_among x locals.arrays) refl refl refl;
  ints_end = λ k h. ap (λ b. b && row.ints k) (not_below k (length locals.ints) h);
  arrays_end = λ k h. ap (λ b. b && row.arrays k) (not_below k (length locals.arrays) h);
}
  where
    arrays_part : (x : Name) (a : Bool) → is_among x locals.arrays ≡ a →
        row.arrays (slot_of x locals.arrays) ≡ (nat_lt (slot_of x locals.arrays) (length locals.arrays) && row.arrays (slot_of x locals.arrays))
    arrays_part x true e = sym (ap (λ b. b && row.arrays (slot_of x locals.arrays)) (below (slot_of x locals.arrays) (length locals.arrays) (slot_in x locals.arrays e)))
    arrays_part x false e =
        let end = slot_out x locals.arrays e in
        s.arrays_end (slot_of x locals.arrays) (omega (arith, end))
        ∙ sym (ap (λ b. b && row.arrays (slot_of x locals.arrays)) (not_below (slot_of x locals.arrays) (length locals.arrays) (omega (arith, end))))

    ints_part : (x : Name) (a : Bool) → same_name x y ≡ false → is_among x locals.ints ≡ a →
        row.ints (slot_of x (locals.ints ++ y ∷ [])) ≡ (nat_lt (slot_of x locals.ints) (length locals.ints) && row.ints (slot_of x locals.ints))
    ints_part x true d e =
        ap row.ints (slot_kept x locals.ints y e)
        ∙ sym (ap (λ b. b && row.ints (slot_of x locals.ints)) (below (slot_of x locals.ints) (length locals.ints) (slot_in x locals.ints e)))
    ints_part x false d e =
        let end = slot_out x locals.ints e in
        let out : is_among x (locals.ints ++ y ∷ []) ≡ false = among_push x locals.ints y ∙ ap (λ b. b || same_name x y) e ∙ d in
        let far = slot_out x (locals.ints ++ y ∷ []) out in
        s.ints_end (slot_of x (locals.ints ++ y ∷ [])) (omega (arith, far))
        ∙ sym (ap (λ b. b && row.ints (slot_of x locals.ints)) (not_below (slot_of x locals.ints) (length locals.ints) (omega (arith, end))))

    by : (x : Name) (d i a : Bool) → same_name x y ≡ d → is_among x locals.ints ≡ i → is_among x locals.arrays ≡ a →
        (not (same_name x y) && (row.ints (slot_of x (locals.ints ++ y ∷ [])) || row.arrays (slot_of x locals.arrays)))
        ≡ ((nat_lt (slot_of x locals.ints) (length locals.ints) && row.ints (slot_of x locals.ints))
        || (nat_lt (slot_of x locals.arrays) (length locals.arrays) && row.arrays (slot_of x locals.arrays)))
    by x true i a d ei ea =
        let ints = slot_out x locals.ints (ap (λ n. is_among n locals.ints) (same_are x y d) ∙ f.no_int) in
        let arrays = slot_out x locals.arrays (ap (λ n. is_among n locals.arrays) (same_are x y d) ∙ f.no_array) in
        ap (λ b. not b && (row.ints (slot_of x (locals.ints ++ y ∷ [])) || row.arrays (slot_of x locals.arrays))) d
        ∙ sym (ap (λ b. (b && row.ints (slot_of x locals.ints)) || (nat_lt (slot_of x locals.arrays) (length locals.arrays)
        && row.arrays (slot_of x locals.arrays))) (not_below (slot_of x locals.ints) (length locals.ints) (omega (arith, ints)))
        ∙ ap (λ b. b && row.arrays (slot_of x locals.arrays)) (not_below (slot_of x locals.arrays) (length locals.arrays) (omega (arith, arrays))))
    by x false i a d ei ea =
        ap (λ b. not b && (row.ints (slot_of x (locals.ints ++ y ∷ [])) || row.arrays (slot_of x locals.arrays))) d
        ∙ ap (λ b. b || row.arrays (slot_of x locals.arrays)) (ints_part x i d ei)
        ∙ ap (λ b. (nat_lt (slot_of x locals.ints) (length locals.ints) && row.ints (slot_of x locals.ints)) || b) (arrays_part x a ea)

-- a set within the locals known before, without an array that was declared since
pub shows_drop_array : (locals : Locals) (y : Name) (P : Name → Bool) (row : Row) → Fresh y locals → Shows (spec.with_array y locals) P row →
    Shows locals (λ x. not (same_name x y) && P x) (both_rows (known_row locals) row)
shows_drop_array locals y P row f s = record {
  same = λ x.
      ap (λ b. not (same_name x y) && b) (s.same x)
      ∙ by x (same_name x y) (is_among x locals.ints) (is_among x locals.arrays) refl refl refl;
  ints_end = λ k h. ap (λ b. b && row.ints k) (not_below k (length locals.ints) h);
  arrays_end = λ k h. ap (λ b. b && row.arrays k) (not_below k (length locals.arrays) h);
}
  where
    ints_part : (x : Name) (a : Bool) → is_among x locals.ints ≡ a →
        row.ints (slot_of x locals.ints) ≡ (nat_lt (slot_of x locals.ints) (length locals.ints) && row.ints (slot_of x locals.ints))
    ints_part x true e = sym (ap (λ b. b && row.ints (slot_of x locals.ints)) (below (slot_of x locals.ints) (length locals.ints) (slot_in x locals.ints e)))
    ints_part x false e =
        let end = slot_out x locals.ints e in
        s.ints_end (slot_of x locals.ints) (omega (arith, end))
        ∙ sym (ap (λ b. b && row.ints (slot_of x locals.ints)) (not_below (slot_of x locals.ints) (length locals.ints) (omega (arith, end))))

    arrays_part : (x : Name) (a : Bool) → same_name x y ≡ false → is_among x locals.arrays ≡ a →
        row.arrays (slot_of x (locals.arrays ++ y ∷ [])) ≡ (nat_lt (slot_of x locals.arrays) (length locals.arrays) && row.arrays (slot_of x locals.arrays))
    arrays_part x true d e =
        ap row.arrays (slot_kept x locals.arrays y e)
        ∙ sym (ap (λ b. b && row.arrays (slot_of x locals.arrays)) (below (slot_of x locals.arrays) (length locals.arrays) (slot_in x locals.arrays e)))
    arrays_part x false d e =
        let end = slot_out x locals.arrays e in
        let out : is_among x (locals.arrays ++ y ∷ []) ≡ false = among_push x locals.arrays y ∙ ap (λ b. b || same_name x y) e ∙ d in
        let far = slot_out x (locals.arrays ++ y ∷ []) out in
        s.arrays_end (slot_of x (locals.arrays ++ y ∷ [])) (omega (arith, far))
        ∙ sym (ap (λ b. b && row.arrays (slot_of x locals.arrays)) (not_below (slot_of x locals.arrays) (length locals.arrays) (omega (arith, end))))

    by : (x : Name) (d i a : Bool) → same_name x y ≡ d → is_among x locals.ints ≡ i → is_among x locals.arrays ≡ a →
        (not (same_name x y) && (row.ints (slot_of x locals.ints) || row.arrays (slot_of x (locals.arrays ++ y ∷ []))))
        ≡ ((nat_lt (slot_of x locals.ints) (length locals.ints) && row.ints (slot_of x locals.ints))
        || (nat_lt (slot_of x locals.arrays) (length locals.arrays) && row.arrays (slot_of x locals.arrays)))
    by x true i a d ei ea =
        let ints = slot_out x locals.ints (ap (λ n. is_among n locals.ints) (same_are x y d) ∙ f.no_int) in
        let arrays = slot_out x locals.arrays (ap (λ n. is_among n locals.arrays) (same_are x y d) ∙ f.no_array) in
        ap (λ b. not b && (row.ints (slot_of x locals.ints) || row.arrays (slot_of x (locals.arrays ++ y ∷ [])))) d
        ∙ sym (ap (λ b. (b && row.ints (slot_of x locals.ints)) || (nat_lt (slot_of x locals.arrays) (length locals.arrays)
        && row.arrays (slot_of x locals.arrays))) (not_below (slot_of x locals.ints) (length locals.ints) (omega (arith, ints)))
        ∙ ap (λ b. b && row.arrays (slot_of x locals.arrays)) (not_below (slot_of x locals.arrays) (length locals.arrays) (omega (arith, arrays))))
    by x false i a d ei ea =
        ap (λ b. not b && (row.ints (slot_of x locals.ints) || row.arrays (slot_of x (locals.arrays ++ y ∷ [])))) d
        ∙ ap (λ b. b || row.arrays (slot_of x (locals.arrays ++ y ∷ []))) (ints_part x i ei)
        ∙ ap (λ b. (nat_lt (slot_of x locals.ints) (length locals.ints) && row.ints (slot_of x locals.ints)) || b) (arrays_part x a d ea)
