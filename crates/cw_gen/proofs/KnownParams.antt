-- The parameters of a function, as the types know them and as locals.
use Rattle.std.proofs.Common.{◌≡◌, Bool, true, false, List, [], ◌∷◌, ◌++◌, cond, refl, ap}
use Rattle.std.specs.Prelude.{◌==◌, if◌then◌else◌, not, map, filter}
use Rattle.cw_gen.specs.Marks.{readers_in, marks_in, marks_of}
use Rattle.cw_model.specs.Syntax.{is_array_param, Name, Param}
use Rattle.cw_model.specs.lemmas.Names.{names_of}
use Rattle.cw_tree.specs.Resolved.{locals_of}
use Rattle.cw_loops.specs.Lowered.{int_params, array_params}
use Rattle.cw_loops.specs.Lowerable.{integers_of, arrays_of}

-- the parameters as locals
pub local_ints : (ps : List Param) → (locals_of ps).ints ≡ integers_of ps
local_ints [] = refl
local_ints (p ∷ ps) = go (is_array_param p) (local_ints ps)
  where
    go : (b : Bool) → (locals_of ps).ints ≡ integers_of ps → map (λ (q : Param). q.name)
        (cond (not b) (p ∷ filter (λ q. not (is_array_param q)) ps) (filter (λ q. not (is_array_param q)) ps)) ≡ (if b then integers_of ps else p.name ∷ integers_of ps)
    go true h = h
    go false h = ap (λ r. p.name ∷ r) h

pub local_arrays : (ps : List Param) → (locals_of ps).arrays ≡ arrays_of ps
local_arrays [] = refl
local_arrays (p ∷ ps) = go (is_array_param p) (local_arrays ps)
  where
    go : (b : Bool) → (locals_of ps).arrays ≡ arrays_of ps → map (λ (q : Param). q.name)
        (cond b (p ∷ filter (λ q. (is_array_param q)) ps) (filter (λ q. (is_array_param q)) ps)) ≡ (if b then p.name ∷ arrays_of ps else arrays_of ps)
    go true h = ap (λ r. p.name ∷ r) h
    go false h = h

-- the parameters of the function of a loop

pub loop_names : (ints over : List Name) → names_of (int_params ints ++ array_params over) ≡ ints ++ over
loop_names [] [] = refl
loop_names [] (a ∷ over) = ap (λ r. a ∷ r) (loop_names [] over)
loop_names (x ∷ ints) over = ap (λ r. x ∷ r) (loop_names ints over)

no_ints : (over : List Name) → (locals_of (array_params over)).ints ≡ []
no_ints [] = refl
no_ints (a ∷ over) = no_ints over

all_arrays : (over : List Name) → (locals_of (array_params over)).arrays ≡ over
all_arrays [] = refl
all_arrays (a ∷ over) = ap (λ r. a ∷ r) (all_arrays over)

-- the integers and the arrays of the function of a loop
pub loop_ints : (ints over : List Name) → (locals_of (int_params ints ++ array_params over)).ints ≡ ints
loop_ints [] over = no_ints over
loop_ints (x ∷ ints) over = ap (λ r. x ∷ r) (loop_ints ints over)

pub loop_arrays : (ints over : List Name) → (locals_of (int_params ints ++ array_params over)).arrays ≡ over
loop_arrays [] over = all_arrays over
loop_arrays (x ∷ ints) over = loop_arrays ints over

-- the function of a loop has no read-only array
none_read : (ints over : List Name) → readers_in (marks_in (map (λ (p : Param). p.kind) (int_params ints ++ array_params over))) ≡ 0
none_read [] [] = refl
none_read [] (a ∷ over) = none_read [] over
none_read (x ∷ ints) over = none_read ints over

pub loop_unread : (ints over : List Name) → marks_of (map (λ (p : Param). p.kind) (int_params ints ++ array_params over)) ≡ []
loop_unread ints over = ap (λ n. if n == 0 then [] else marks_in (map (λ (p : Param). p.kind) (int_params ints ++ array_params over))) (none_read ints over)
