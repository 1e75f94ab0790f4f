-- The entry of a function agrees with its text; the index of main.
use Rattle.std.proofs.Common.{◌≡◌, ℕ, ◌≤◌, List, [], ◌∷◌, ◌++◌, length, Bool, true, false, if◌then◌else◌, refl, sym, ap, ◌∙◌, arith}
use Rattle.std.specs.Prelude.{map}
use Rattle.std.proofs.lemmas.List.{map-append}
use Rattle.cw_model.specs.Syntax.{Name, Param, Function, Program}
use Rattle.cw_model.specs.Names.{same_name, is_among}
use Rattle.cw_model.specs.Answers.{main_name}
use Rattle.cw_tree.specs.Resolved.{Lists, locals_of, slot_of, function_names}
use Rattle.cw_tree.specs.lemmas.NamedSlots.{slot_stays}
use Rattle.cw_loops.specs.Lowered.{lower_functions, made_of}
use Rattle.cw_loops.specs.Slotted.{slotted_block, slotted_function, lowered_lists}
use Rattle.cw_loops.specs.lemmas.Numbering.{names_stay}
use Rattle.cw_gen.specs.Marks.{count_ints, count_arrays}
use Rattle.cw_gen.specs.Emit.{ints_in_block, arrays_in_block, emitted_func}
use Rattle.cw_gen.proofs.MarkedParams.{counted_ints, counted_arrays, both_counted}
use Rattle.cw_gen.proofs.Fine.{Room, room_of, marks_for, is_function}
use Rattle.cw_gen.proofs.Texts.{code_of, room_of_func}

-- the slots of a room
abbrev pub ints_of : Room → ℕ
ints_of room = room.ints

abbrev pub arrays_of : Room → ℕ
arrays_of room = room.arrays

-- the entry has the room that the text needs, if there is a slot for each parameter
pub as_counted : (lists : Lists) (g : Function) (first start : ℕ) → length (locals_of g.params).arrays ≤ (room_of lists g).arrays
    → room_of lists g ≡ room_of_func g (emitted_func first start (slotted_function lists g))
as_counted lists g first start array_room =
    let names = locals_of g.params in
    let kinds = map (λ (p : Param). p.kind) g.params in
    let body = slotted_block lists names g.body in
    let wide : arrays_in_block (length names.arrays) body ≡ arrays_in_block (count_arrays kinds) body = ap (λ n. arrays_in_block n body) (counted_arrays g.params) in
    let all_ints : ints_in_block (length names.ints) body ≡ ints_in_block (count_ints kinds) body = ap (λ n. ints_in_block n body) (counted_ints g.params) in
    ap (λ k. room k (arrays_in_block (length names.arrays) body)) all_ints
    ∙ ap (λ k. room (ints_in_block (count_ints kinds) body) k) (omega (arith, wide, array_room, counted_arrays g.params, both_counted kinds))
  where
    room : ℕ → ℕ → Room
    room ints arrays = record { ints = ints; arrays = arrays; given = (locals_of g.params).arrays; marks = marks_for g.params }

-- the name of a function is among the names of functions
pub named : (x : Name) (fs : List Function) → is_function x fs ≡ true → is_among x (function_names fs) ≡ true
named x [] h = h
named x (f ∷ fs) h = test (named x fs) (same_name x f.name) h
  where
    test : (is_function x fs ≡ true → is_among x (function_names fs) ≡ true) → (b : Bool) → (if b then true else is_function x fs) ≡ true → (if b then true else is_among x (function_names fs)) ≡ true
    test more true h' = refl
    test more false h' = more h'

-- the index of main in the code is its index among the lowered functions
pub main_slot : (program : Program) → is_function main_name program.functions ≡ true → (code_of program).main ≡ slot_of main_name (lowered_lists program).functions
main_slot program h =
    let fs = program.functions in
    let more = function_names (made_of 0 fs) in
    sym (slot_stays main_name (function_names fs) more (named main_name fs h))
    ∙ ap (λ names. slot_of main_name (names ++ more)) (sym (names_stay 0 fs))
    ∙ ap (slot_of main_name) (sym (map-append (λ (f : Function). f.name) (lower_functions 0 fs) (made_of 0 fs)))
