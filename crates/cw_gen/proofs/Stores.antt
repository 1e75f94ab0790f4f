-- The slots of a call, and the values of its frame.
use Rattle.std.proofs.Common.{◌≡◌, ℕ, suc, ◌<◌, ◌≤◌, List, [], ◌∷◌, ◌++◌, length, Bool, true, false, Option, Some, ap, ◌∙◌, subst, arith, ℤ, pos}
use Rattle.std.specs.Prelude.{slice_get, slice_set, map}
use Rattle.std.proofs.lemmas.List.{length-map, length-set}
use Rattle.cw_model.specs.Syntax.{Name}
use Rattle.cw_model.specs.Names.{is_among}
use Rattle.cw_model.specs.Frames.{Frame, int_of, array_of, new_int, new_array, set_int, set_array, leave}
use Rattle.cw_model.specs.Ownership.{Taken, is_taken, freed, without}
use Rattle.cw_code.specs.Run.{Slots, Results, is_full, settled}
use Rattle.cw_code.specs.lemmas.Slots.{settled_count}
use Rattle.cw_tree.specs.Resolved.{Locals, slot_of, with_int, with_array}
use Rattle.cw_gen.specs.Marks.{Marks}
use Rattle.cw_gen.proofs.Marked.{AllOwn}
use Rattle.cw_gen.proofs.Fine.{IsUsable, Room}
use Rattle.cw_gen.proofs.Takens.{holds}
use Rattle.cw_gen.proofs.Names.{names_in, AgreesOf, is_later}
use Rattle.cw_gen.proofs.Names as names

-- the slots of a call, and the results that wait for the join of its innermost sync block
pub record Store : Type 0 where
  pub slots : Slots ℤ
  pub arrays : Slots (List ℤ)
  pub results : Results ℤ
  pub arrived : Results (List ℤ)

-- the results that wait for the join of an enclosing sync block; an array that is cut in it waits too
pub record Waits : Type 0 where
  pub ints : Results ℤ
  pub arrays : Results (List ℤ)

abbrev pub Outside : Type 0
Outside = List Waits

abbrev pub int_waits : Outside → List (Results ℤ)
int_waits outer = map (λ w. w.ints) outer

abbrev pub array_waits : Outside → List (Results (List ℤ))
array_waits outer = map (λ w. w.arrays) outer

-- the results that wait in the innermost sync block
abbrev pub waits_of : Store → Waits
waits_of store = record { ints = store.results; arrays = store.arrived }

-- an inner sync block begins, in which no result waits
abbrev pub inner_of : Store → Store
inner_of store = record { slots = store.slots; arrays = store.arrays; results = []; arrived = [] }

-- the slots after a join, with the results that wait in the enclosing sync block
abbrev pub joined_with : Store → Waits → Store
joined_with store w = record { slots = settled store.results store.slots; arrays = settled store.arrived store.arrays; results = w.ints; arrived = w.arrays }

-- the slots represent the frame
pub record Agrees (locals : Locals) (taken : Taken) (frame : Frame) (store : Store) (outer : Outside) : Type 0 where
  pub ints : AgreesOf false locals.ints taken frame.ints store.slots (store.results ∷ int_waits outer)
  pub arrays : AgreesOf true locals.arrays taken frame.arrays store.arrays (store.arrived ∷ array_waits outer)
  pub whole : frame.sliced ≡ []

-- there are the slots that the room of the call requires, and no array that waits is only read
pub record Fills (marks : Marks) (store : Store) (room : Room) : Type 0 where
  pub ints : length store.slots ≡ room.ints
  pub arrays : length store.arrays ≡ room.arrays
  pub own : AllOwn marks store.arrived

-- the value of an integer that is not taken
pub loads : (locals : Locals) (taken : Taken) (x : Name) (frame : Frame) (store : Store) (outer : Outside) → IsUsable locals.ints taken x
    → Agrees locals taken frame store outer → slice_get store.slots (slot_of x locals.ints) ≡ Some (Some (int_of frame x))
loads locals taken x frame store outer u a = names.loads false (pos 0) locals.ints taken x frame.ints store.slots (store.results ∷ int_waits outer) u a.ints

-- the value of an array that is not taken
pub finds : (locals : Locals) (taken : Taken) (x : Name) (frame : Frame) (store : Store) (outer : Outside) → IsUsable locals.arrays taken x
    → Agrees locals taken frame store outer → slice_get store.arrays (slot_of x locals.arrays) ≡ Some (Some (array_of frame x))
finds locals taken x frame store outer u a = names.loads true [] locals.arrays taken x frame.arrays store.arrays (store.arrived ∷ array_waits outer) u a.arrays

-- the slot of an integer can be written
pub writes : (locals : Locals) (taken : Taken) (x : Name) (frame : Frame) (store : Store) (outer : Outside) → IsUsable locals.ints taken x
    → Agrees locals taken frame store outer → is_full (slice_get store.slots (slot_of x locals.ints)) ≡ true
writes locals taken x frame store outer u a = ap is_full (loads locals taken x frame store outer u a)

-- the next slot for an integer can be written
pub new_is_there : (locals : Locals) (taken : Taken) (frame : Frame) (store : Store) (outer : Outside) → length locals.ints < length store.slots
    → Agrees locals taken frame store outer → is_full (slice_get store.slots (length locals.ints)) ≡ true
new_is_there locals taken frame store outer within a =
    names.is_there false locals.ints taken (length locals.ints) frame.ints store.slots (store.results ∷ int_waits outer)
    (is_later false locals.ints taken (length locals.ints) (store.results ∷ int_waits outer) (omega arith) a.ints.levels) within a.ints

pub new_array_is_there : (locals : Locals) (taken : Taken) (frame : Frame) (store : Store) (outer : Outside) (n : ℕ) → length locals.arrays ≤ n
    → n < length store.arrays → Agrees locals taken frame store outer → is_full (slice_get store.arrays n) ≡ true
new_array_is_there locals taken frame store outer n le within a =
    names.is_there true locals.arrays taken n frame.arrays store.arrays (store.arrived ∷ array_waits outer)
    (is_later true locals.arrays taken n (store.arrived ∷ array_waits outer) le a.arrays.levels) within a.arrays

-- the slots of integers, with one of them written
abbrev pub with_slot : ℕ → Option ℤ → Store → Store
with_slot i v store = record { slots = slice_set store.slots i v; arrays = store.arrays; results = store.results; arrived = store.arrived }

abbrev pub with_array_slot : ℕ → Option (List ℤ) → Store → Store
with_array_slot i v store = record { slots = store.slots; arrays = slice_set store.arrays i v; results = store.results; arrived = store.arrived }

pub fills_slot : (marks : Marks) (i : ℕ) (v : Option ℤ) (store : Store) (room : Room) → Fills marks store room → Fills marks (with_slot i v store) room
fills_slot marks i v store room n = record { ints = length-set store.slots i v ∙ n.ints; arrays = n.arrays; own = n.own }

pub fills_array : (marks : Marks) (i : ℕ) (v : Option (List ℤ)) (store : Store) (room : Room) → Fills marks store room → Fills marks (with_array_slot i v store) room
fills_array marks i v store room n = record { ints = n.ints; arrays = length-set store.arrays i v ∙ n.arrays; own = n.own }

pub fills_joined : (marks : Marks) (store : Store) (w : Waits) (room : Room) → AllOwn marks w.arrays → Fills marks store room → Fills marks (joined_with store w) room
fills_joined marks store w room own n = record { ints = settled_count store.results store.slots ∙ n.ints; arrays = settled_count store.arrived store.arrays ∙ n.arrays; own = own }

pub assigns : (locals : Locals) (taken : Taken) (x : Name) (v : ℤ) (frame : Frame) (store : Store) (outer : Outside) → IsUsable locals.ints taken x → Agrees locals taken frame store outer →
    Agrees locals taken (set_int x v frame) (with_slot (slot_of x locals.ints) (Some v) store) outer
assigns locals taken x v frame store outer u a =
    record { ints = names.assigns false locals.ints taken x v frame.ints store.slots (store.results ∷ int_waits outer) u a.ints; arrays = a.arrays; whole = a.whole }

pub replaces : (locals : Locals) (taken : Taken) (x : Name) (v : List ℤ) (frame : Frame) (store : Store) (outer : Outside) → IsUsable locals.arrays taken x → Agrees locals taken frame store outer →
    Agrees locals taken (set_array x v frame) (with_array_slot (slot_of x locals.arrays) (Some v) store) outer
replaces locals taken x v frame store outer u a =
    record { ints = a.ints; arrays = names.assigns true locals.arrays taken x v frame.arrays store.arrays (store.arrived ∷ array_waits outer) u a.arrays; whole = a.whole }

pub declares : (locals : Locals) (taken : Taken) (x : Name) (v : ℤ) (frame : Frame) (store : Store) (outer : Outside)
    → length locals.ints < length store.slots → Agrees locals taken frame store outer →
    Agrees (with_int x locals) taken (new_int x v frame) (with_slot (length locals.ints) (Some v) store) outer
declares locals taken x v frame store outer room a =
    record { ints = names.declares false locals.ints taken x v frame.ints store.slots (store.results ∷ int_waits outer) room a.ints; arrays = a.arrays; whole = a.whole }

pub declares_array : (locals : Locals) (taken : Taken) (x : Name) (v : List ℤ) (frame : Frame) (store : Store) (outer : Outside)
    → length locals.arrays < length store.arrays → Agrees locals taken frame store outer →
    Agrees (with_array x locals) taken (new_array x v frame) (with_array_slot (length locals.arrays) (Some v) store) outer
declares_array locals taken x v frame store outer room a =
    record { ints = a.ints; arrays = names.declares true locals.arrays taken x v frame.arrays store.arrays (store.arrived ∷ array_waits outer) room a.arrays; whole = a.whole }

-- the slots still represent the frame if more names are held
pub takes : (locals : Locals) (taken taken' : Taken) (frame : Frame) (store : Store) (outer : Outside)
    → ((cuts : Bool) (d : ℕ) (x : Name) → holds cuts d x taken ≡ true → holds cuts d x taken' ≡ true) → Agrees locals taken frame store outer →
    Agrees locals taken' frame store outer
takes locals taken taken' frame store outer more a = record {
  ints = names.takes false locals.ints taken taken' frame.ints store.slots (store.results ∷ int_waits outer) (more false) a.ints;
  arrays = names.takes true locals.arrays taken taken' frame.arrays store.arrays (store.arrived ∷ array_waits outer) (more true) a.arrays;
  whole = a.whole;
}

-- the slots still represent the frame after a join
pub joins : (locals : Locals) (taken : Taken) (frame : Frame) (store : Store) (outer : Outside) → Agrees locals taken frame store outer →
    Agrees locals (freed (suc (length outer)) taken) frame (joined_with store (record { ints = []; arrays = [] })) outer
joins locals taken frame store outer a = record {
  ints = subst (λ n. AgreesOf false locals.ints (freed (suc n) taken) frame.ints (settled store.results store.slots) ([] ∷ int_waits outer))
      (length-map outer (λ w. w.ints)) (names.joins false locals.ints taken frame.ints store.slots store.results (int_waits outer) a.ints);
  arrays = subst (λ n. AgreesOf true locals.arrays (freed (suc n) taken) frame.arrays (settled store.arrived store.arrays) ([] ∷ array_waits outer))
      (length-map outer (λ w. w.arrays)) (names.joins true locals.arrays taken frame.arrays store.arrays store.arrived (array_waits outer) a.arrays);
  whole = a.whole;
}

-- the slots represent the frame at the start of an inner sync block
pub enters : (locals : Locals) (taken : Taken) (frame : Frame) (store : Store) (outer : Outside) → Agrees locals taken frame store outer
    → Agrees locals taken frame (inner_of store) (waits_of store ∷ outer)
enters locals taken frame store outer a = record {
  ints = names.enters false locals.ints taken frame.ints store.slots (store.results ∷ int_waits outer) a.ints;
  arrays = names.enters true locals.arrays taken frame.arrays store.arrays (store.arrived ∷ array_waits outer) a.arrays;
  whole = a.whole;
}

-- the slots represent the frame after an inner sync block
pub exits : (locals : Locals) (taken : Taken) (frame : Frame) (store : Store) (w : Waits) (outer : Outside)
    → Agrees locals taken frame store (w ∷ outer) → Agrees locals (freed (suc (suc (length outer))) taken) frame (joined_with store w) outer
exits locals taken frame store w outer a =
    let b = joins locals taken frame store (w ∷ outer) a in
    let t = freed (suc (suc (length outer))) taken in
    record {
      ints = names.exits false locals.ints t frame.ints (settled store.results store.slots) (w.ints ∷ int_waits outer) b.ints;
      arrays = names.exits true locals.arrays t frame.arrays (settled store.arrived store.arrays) (w.arrays ∷ array_waits outer) b.arrays;
      whole = a.whole;
    }

-- the slots represent the frame after the scope of a block's names
pub leaves_block : (locals : Locals) (more more_arrays own : List Name) (taken : Taken) (before frame : Frame) (store : Store) (outer : Outside)
    → names_in before.ints ≡ locals.ints → names_in before.arrays ≡ locals.arrays → before.sliced ≡ [] →
    ((x : Name) → is_among x more ≡ true → is_among x own ≡ true) → ((x : Name) → is_among x more_arrays ≡ true → is_among x own ≡ true)
    → ((x : Name) → is_among x own ≡ true → is_taken taken x ≡ false) →
    Agrees (record { ints = locals.ints ++ more; arrays = locals.arrays ++ more_arrays }) taken frame store outer → Agrees locals (without own taken) (leave before frame) store outer
leaves_block locals more more_arrays own taken before frame store outer named named_arrays whole covers covers_arrays free a = record {
  ints = names.leaves_block false locals.ints more own taken before.ints frame.ints store.slots (store.results ∷ int_waits outer) named covers free a.ints;
  arrays = names.leaves_block true locals.arrays more_arrays own taken before.arrays frame.arrays store.arrays (store.arrived ∷ array_waits outer) named_arrays covers_arrays free a.arrays;
  whole = whole;
}
