-- The conditions on the captured names of a loop, name by name.
use Rattle.std.proofs.Common.{◌≡◌, true, List, [], ◌∷◌, ◌++◌, ◌∙◌, ap}
use Rattle.std.specs.Prelude.{◌&&◌}
use Rattle.std.proofs.lemmas.Bool.{and_parts}
use Rattle.cw_model.specs.Syntax.{Name}
use Rattle.cw_model.specs.Names.{is_among}
use Rattle.cw_loops.specs.Lowered.{is_plain}
use Rattle.cw_loops.specs.Lowerable.{Surroundings, can_read, is_local, can_capture, can_slice}
use Rattle.cw_loops.specs.lemmas.Naming.{Placed, at_front, after_it, placed}

pub each_captured : (c : Surroundings) (ints xs : List Name) → can_capture c ints xs ≡ true → (v : Name) → is_among v xs ≡ true
    → (is_plain v ≡ true) × (can_read c v ≡ true) × (is_among v (c.outer ++ ints) ≡ true)
each_captured c ints [] h v o = absurd cc
each_captured c ints (x ∷ xs) h v o = go (placed v x xs o) (λ g p. each_captured c ints xs g v p)
  where
    one : (is_plain x ≡ true) × ((can_read c x && (is_among x (c.outer ++ ints) && can_capture c ints xs)) ≡ true)
    one = and_parts (is_plain x) _ h

    two : (can_read c x ≡ true) × ((is_among x (c.outer ++ ints) && can_capture c ints xs) ≡ true)
    two = and_parts (can_read c x) _ one.1

    three : (is_among x (c.outer ++ ints) ≡ true) × (can_capture c ints xs ≡ true)
    three = and_parts (is_among x (c.outer ++ ints)) _ two.1

    go : Placed v x xs → (can_capture c ints xs ≡ true → is_among v xs ≡ true
        → (is_plain v ≡ true) × (can_read c v ≡ true) × (is_among v (c.outer ++ ints) ≡ true))
        → (is_plain v ≡ true) × (can_read c v ≡ true) × (is_among v (c.outer ++ ints) ≡ true)
    go (at_front same) more = (ap is_plain same ∙ one.0, ap (can_read c) same ∙ two.0, ap (λ w. is_among w (c.outer ++ ints)) same ∙ three.0)
    go (after_it other p) more = more three.1 p

pub each_sliced : (c : Surroundings) (arrays over : List Name) → can_slice c arrays over ≡ true → (a : Name) → is_among a over ≡ true
    → (is_plain a ≡ true) × (is_local c a ≡ true) × (is_among a arrays ≡ true)
each_sliced c arrays [] h a o = absurd cc
each_sliced c arrays (x ∷ xs) h a o = go (placed a x xs o) (λ g p. each_sliced c arrays xs g a p)
  where
    one : (is_plain x ≡ true) × ((is_local c x && (is_among x arrays && can_slice c arrays xs)) ≡ true)
    one = and_parts (is_plain x) _ h

    two : (is_local c x ≡ true) × ((is_among x arrays && can_slice c arrays xs) ≡ true)
    two = and_parts (is_local c x) _ one.1

    three : (is_among x arrays ≡ true) × (can_slice c arrays xs ≡ true)
    three = and_parts (is_among x arrays) _ two.1

    go : Placed a x xs → (can_slice c arrays xs ≡ true → is_among a xs ≡ true
        → (is_plain a ≡ true) × (is_local c a ≡ true) × (is_among a arrays ≡ true)) → (is_plain a ≡ true) × (is_local c a ≡ true) × (is_among a arrays ≡ true)
    go (at_front same) more = (ap is_plain same ∙ one.0, ap (is_local c) same ∙ two.0, ap (λ w. is_among w arrays) same ∙ three.0)
    go (after_it other p) more = more three.1 p
