-- A function of generated code, and the shapes of its places.
use Rattle.std.proofs.Common.{◌≡◌, ℕ, zero, suc, ◌+◌, ◌<◌, ◌≤◌, List, [], ◌∷◌, ◌++◌, length, Bool, true, false, nat_lt, Option, Some, None, refl, ap, ◌∙◌, subst, arith}
use Rattle.std.specs.Prelude.{slice_get}
use Rattle.cw_facts.specs.Tests.{below}
use Rattle.cw_model.specs.Syntax.{Name, Function}
use Rattle.cw_model.specs.Typing.{Returns, Nowhere, WithInt, Alone}
use Rattle.cw_model.specs.Ownership.{Taken}
use Rattle.cw_tree.specs.Resolved.{Lists, Locals}
use Rattle.cw_code.specs.declared.code.Func.{Func}
use Rattle.cw_code.specs.declared.code.Instr.{Instr}
use Rattle.cw_code.specs.Code.{Code, reducer_names}
use Rattle.cw_code.specs.Fits.{names_well, Shape, is_ready, is_thawed, leaves, nexts, Table, FlowsInto, FlowsIntoEach}
use Rattle.cw_gen.specs.Emit.{Tables, first_list}
use Rattle.cw_gen.specs.Marks.{Marks, readers_in}
use Rattle.cw_gen.proofs.Fine.{Room}
use Rattle.cw_gen.proofs.Texts as texts
use Rattle.cw_gen.proofs.Texts.{tables_in, TurnsClose}
use Rattle.cw_gen.proofs.EmptySlots.{Over, over_itself, over_after}
use Rattle.cw_gen.proofs.Shapes.{Opened, shape_at, Shapes}

-- the list has these shapes from a place on
abbrev pub HasShapesFrom : Shapes → ℕ → Shapes → Type 0
HasShapesFrom tab place [] = Unit {0}
HasShapesFrom tab place (s ∷ ss) = (slice_get tab place ≡ Some s) × HasShapesFrom tab (place + 1) ss

-- the list has the first of two parts at the place
pub stands_front : (tab : Shapes) (place : ℕ) (a b : Shapes) → HasShapesFrom tab place (a ++ b) → HasShapesFrom tab place a
stands_front tab place [] b h = tt
stands_front tab place (s ∷ a) b h = (h.0, stands_front tab (place + 1) a b h.1)

-- the list has the second of two parts after the first
pub stands_back : (tab : Shapes) (place n : ℕ) (a b : Shapes) → length a ≡ n → HasShapesFrom tab place (a ++ b) → HasShapesFrom tab (place + n) b
stands_back tab place n [] b e h = let at : place ≡ place + n = omega (arith, e) in subst (λ k. HasShapesFrom tab k b) at h
stands_back tab place zero (s ∷ a) b e h = absurd (omega (arith, e))
stands_back tab place (suc n) (s ∷ a) b e h =
    let at : place + 1 + n ≡ place + suc n = omega arith in
    subst (λ k. HasShapesFrom tab k b) at (stands_back tab (place + 1) n a b (omega (arith, e)) h.1)

-- a place of a list of shapes
abbrev pub flat : Option (Option Shape) → Option Shape
flat None = None
flat (Some o) = o

abbrev pub table_of : Shapes → Table
table_of tab = λ place. flat (slice_get tab place)

-- a place accepts its own shape
pub exact : (tab : Shapes) (place : ℕ) (shape : Shape) → slice_get tab place ≡ Some (Some shape) → FlowsInto (table_of tab) place shape
exact tab place shape e = record {
  there = shape;
  found = ap flat e;
  as_many = refl;
  covers = (over_itself shape).0;
  covers_gone = (over_itself shape).1;
  covers_frozen = (over_itself shape).2;
  covers_outer = (over_itself shape).3;
}

-- a place that accepts a shape accepts a shape with fewer empty slots
pub takes_less : (table : Table) (place : ℕ) (few many : Shape) → FlowsInto table place many → many.operands ≡ few.operands → Over many few → FlowsInto table place few
takes_less table place few many h e over =
    let all = over_after h.there many few (h.covers, h.covers_gone, h.covers_frozen, h.covers_outer) over in
    record { there = h.there; found = h.found; as_many = h.as_many ∙ e; covers = all.0; covers_gone = all.1; covers_frozen = all.2; covers_outer = all.3 }

-- the position of an allowed return: outside of all blocks of the call, with or without a value as the function
-- requires
abbrev pub Returning : Returns → Opened → Bool → Type 0
Returning Nowhere opened gives = Unit {0}
Returning WithInt opened gives = (opened ≡ []) × (gives ≡ true)
Returning Alone opened gives = (opened ≡ []) × (gives ≡ false)

-- a function in code with its entry, and the shapes of its places
pub record Setting : Type 0 where
  pub code : Code
  pub fs : List Function
  pub lists : Lists
  pub functions : texts.Table code fs lists
  pub reducers_are : reducer_names code.reducers ≡ lists.reducers
  pub tags_are : code.tags ≡ lists.tags
  pub least : TurnsClose fs
  pub f : Func
  pub given_arrays : List Name
  pub marks : Marks
  pub few_given : f.array_params + f.readers ≡ length given_arrays
  pub many_read : readers_in marks ≡ f.readers
  pub marks_fit : length marks ≤ f.arrays + f.readers
  pub tab : Shapes
  pub within : (place : ℕ) (shape : Shape) → table_of tab place ≡ Some shape → (f.start ≤ place) × (place < f.end)

module _ (setting : Setting) where
  -- the tables that its calls refer to
  abbrev pub tables : Tables
  tables = tables_in setting.code

  abbrev pub first : ℕ
  first = first_list setting.code.sites

  abbrev pub table : Table
  table = table_of setting.tab

  abbrev pub size : Room
  size = record { ints = setting.f.slots; arrays = setting.f.arrays + setting.f.readers; given = setting.given_arrays; marks = setting.marks }

  -- there is a slot for each name
  abbrev pub HasRoom : Locals → Type 0
  HasRoom locals = (length locals.ints ≤ size.ints) × (length locals.arrays ≤ size.arrays)

  -- an instruction fits at a place with a shape, or at a place that is not reached
  abbrev pub FitsAt : ℕ → Option Shape → Instr → Type 0
  FitsAt place None i = names_well setting.code setting.f place i ≡ true
  FitsAt place (Some shape) i = (names_well setting.code setting.f place i ≡ true) × (is_ready setting.code shape i ≡ true)
      × FlowsIntoEach table (leaves setting.code shape i) (nexts place i) × (is_thawed setting.code shape i ≡ true)

  abbrev pub AllFit : ℕ → Shapes → List Instr → Type 0
  AllFit place [] [] = Unit {0}
  AllFit place (s ∷ ss) (i ∷ is) = FitsAt place s i × AllFit (place + 1) ss is
  AllFit place _ _ = ⊥

  -- instructions that fit, in sequence
  pub both_fit : (place : ℕ) (a b : Shapes) (x y : List Instr) → AllFit place a x → AllFit (place + length x) b y → AllFit place (a ++ b) (x ++ y)
  both_fit place [] b [] y h k = let e : place + 0 ≡ place = omega arith in subst (λ n. AllFit n b y) e k
  both_fit place [] b (i ∷ x) y h k = absurd h
  both_fit place (s ∷ a) b [] y h k = absurd h
  both_fit place (s ∷ a) b (i ∷ x) y h k =
      let e : place + length (i ∷ x) ≡ place + 1 + length x = omega arith in
      (h.0, both_fit (place + 1) a b x y h.1 (subst (λ n. AllFit n b y) e k))

  -- a place that accepts a shape is in the function
  pub lies : (place : ℕ) (shape : Shape) → FlowsInto table place shape → nat_lt place setting.f.end ≡ true
  lies place shape h = below place setting.f.end (setting.within place h.there h.found).1

  abbrev pub made : Opened → Locals → Taken → ℕ → Shape
  made opened locals taken n = shape_at size opened locals taken n
