-- Names among others, and new names.
use Rattle.std.proofs.Common.{◌≡◌, Bool, true, false, List, [], ◌∷◌, ◌++◌, refl, sym, ◌∙◌, ap}
use Rattle.std.specs.Prelude.{if◌then◌else◌, not, ◌||◌, map}
use Rattle.std.specs.List.{list_any, list_all}
use Rattle.std.proofs.lemmas.Bool.{and_parts, or_parts}
use Rattle.cw_facts.specs.Tests.{both_true, either_left, either_right, never, refuted}
use Rattle.cw_model.specs.Syntax.{Name}
use Rattle.cw_model.specs.Names.{same_name, is_among, differ, new_names}
use Rattle.cw_model.specs.lemmas.Names.{same_are}
use Rattle.cw_tree.specs.lemmas.Names.{among_append, front_among, later_among}
use Rattle.cw_loops.specs.lemmas.Apart.{not_later, apart}

-- a name among the first names is among the concatenation

pub among_left : (x : Name) (xs ys : List Name) → is_among x xs ≡ true → is_among x (xs ++ ys) ≡ true
among_left x xs ys h = among_append x xs ys ∙ either_left (is_among x xs) (is_among x ys) h

pub among_right : (x : Name) (xs ys : List Name) → is_among x ys ≡ true → is_among x (xs ++ ys) ≡ true
among_right x xs ys h = among_append x xs ys ∙ either_right (is_among x xs) (is_among x ys) h

-- the position of a name in a list: at the front or after it
pub data Placed (x y : Name) (xs : List Name) : Type 0 where
  at_front : x ≡ y → Placed x y xs
  after_it : same_name x y ≡ false → is_among x xs ≡ true → Placed x y xs

pub placed : (x y : Name) (xs : List Name) → is_among x (y ∷ xs) ≡ true → Placed x y xs
placed x y xs h = go (same_name x y) refl h
  where
    go : (b : Bool) → same_name x y ≡ b → (if b then true else is_among x xs) ≡ true → Placed x y xs
    go true e o = at_front (same_are x y e)
    go false e o = after_it e o

pub data Side (x : Name) (xs ys : List Name) : Type 0 where
  in_first : is_among x xs ≡ true → Side x xs ys
  in_second : is_among x ys ≡ true → Side x xs ys

pub side : (x : Name) (xs ys : List Name) → is_among x (xs ++ ys) ≡ true → Side x xs ys
side x xs ys h = go (is_among x xs) refl (sym (among_append x xs ys) ∙ h)
  where
    go : (b : Bool) → is_among x xs ≡ b → (b || is_among x ys) ≡ true → Side x xs ys
    go true e o = in_first e
    go false e o = in_second o

-- a name of a concatenation that is not in the first list is in the second
pub among_split : (x : Name) (xs ys : List Name) → is_among x xs ≡ false → is_among x (xs ++ ys) ≡ true → is_among x ys ≡ true
among_split x xs ys n h = go (side x xs ys h)
  where
    go : Side x xs ys → is_among x ys ≡ true
    go (in_first o) = never (is_among x xs) o n
    go (in_second o) = o

pub neither_among : (x : Name) (xs ys : List Name) → is_among x (xs ++ ys) ≡ false →
    (is_among x xs ≡ false) × (is_among x ys ≡ false)
neither_among x xs ys h = or_parts (is_among x xs) (is_among x ys) (sym (among_append x xs ys) ∙ h)

pub none_among : (x : Name) (xs ys : List Name) → is_among x xs ≡ false → is_among x ys ≡ false →
    is_among x (xs ++ ys) ≡ false
none_among x xs ys h g = among_append x xs ys ∙ ap (λ b. b || is_among x ys) h ∙ g

-- a name among names with one appended
pub pushed : (x y : Name) (xs : List Name) (b : Bool) → b ≡ is_among x xs →
    (if same_name x y then true else b) ≡ is_among x (xs ++ y ∷ [])
pushed x y xs b h = go (same_name x y) refl (is_among x xs) refl ∙ sym (among_append x xs (y ∷ []))
  where
    go : (s : Bool) → same_name x y ≡ s → (m : Bool) → is_among x xs ≡ m →
        (if s then true else b) ≡ (is_among x xs || (if s then true else false))
    go true e true o = sym (ap (λ z. z || true) o)
    go true e false o = sym (ap (λ z. z || true) o)
    go false e true o = h ∙ o ∙ sym (ap (λ z. z || false) o)
    go false e false o = h ∙ o ∙ sym (ap (λ z. z || false) o)

-- a new name does not change the lookup of the other kind
pub passed : (x y : Name) (xs : List Name) (b : Bool) → b ≡ is_among x xs → is_among y xs ≡ false →
    (if same_name x y then false else b) ≡ is_among x xs
passed x y xs b h n = go (same_name x y) refl
  where
    go : (s : Bool) → same_name x y ≡ s → (if s then false else b) ≡ is_among x xs
    go true e = sym (ap (λ z. is_among z xs) (same_are x y e) ∙ n)
    go false e = h

-- a name in a list and a name that is not in it are distinct
pub other_than : (a b : Name) (bs : List Name) → is_among b bs ≡ false → is_among a bs ≡ true → same_name a b ≡ false
other_than a b bs h o = apart a b (λ e. let q : true ≡ false = sym o ∙ ap (λ y. is_among y bs) e ∙ h in absurd cc)

-- functions that agree on each name of a list have the same map

pub map_same : {B : Type 0} (f g : Name → B) (xs : List Name) → ((a : Name) → is_among a xs ≡ true → f a ≡ g a) → map f xs ≡ map g xs
map_same f g [] h = refl
map_same f g (x ∷ xs) h = rw (h x (front_among x xs)) (ap (λ t. g x ∷ t) (map_same f g xs (λ a o. h a (later_among a x xs o))))

pub each_of : (f : Name → Bool) (xs : List Name) → list_all f xs ≡ true → (x : Name) → is_among x xs ≡ true → f x ≡ true
each_of f [] h x o = absurd cc
each_of f (y ∷ xs) h x o = by (and_parts (f y) (list_all f xs) h) (placed x y xs o) (λ g more. each_of f xs g x more)
  where
    by : (f y ≡ true) × (list_all f xs ≡ true) → Placed x y xs →
        (list_all f xs ≡ true → is_among x xs ≡ true → f x ≡ true) → f x ≡ true
    by n (at_front same) more = ap f same ∙ n.0
    by n (after_it other o) more = more n.1 o

pub none_any : (f : Name → Bool) (xs : List Name) → list_any f xs ≡ false → (x : Name) → is_among x xs ≡ true →
    f x ≡ false
none_any f [] h x o = absurd cc
none_any f (y ∷ xs) h x o = by (or_parts (f y) (list_any f xs) h) (placed x y xs o) (λ g more. none_any f xs g x more)
  where
    by : (f y ≡ false) × (list_any f xs ≡ false) → Placed x y xs →
        (list_any f xs ≡ false → is_among x xs ≡ true → f x ≡ false) → f x ≡ false
    by n (at_front same) more = ap f same ∙ n.0
    by n (after_it other o) more = more n.1 o

-- a name that `new_names` keeps is in the list and was not known

pub new_are_there : (x : Name) (xs known : List Name) → is_among x (new_names xs known) ≡ true →
    (is_among x xs ≡ true) × (is_among x known ≡ false)
new_are_there x [] known h = absurd cc
new_are_there x (y ∷ xs) known h = go (is_among y known) refl h (λ k o. new_are_there x xs k o)
  where
    go : (b : Bool) → is_among y known ≡ b →
        is_among x (if b then new_names xs known else y ∷ new_names xs (y ∷ known)) ≡ true →
        ((k : List Name) → is_among x (new_names xs k) ≡ true → (is_among x xs ≡ true) × (is_among x k ≡ false)) →
        (is_among x (y ∷ xs) ≡ true) × (is_among x known ≡ false)
    go true e o more = let m = more known o in (later_among x y xs m.0, m.1)
    go false e o more = by (placed x y (new_names xs (y ∷ known)) o)
      where
        by : Placed x y (new_names xs (y ∷ known)) → (is_among x (y ∷ xs) ≡ true) × (is_among x known ≡ false)
        by (at_front same) =
            (ap (λ z. is_among z (y ∷ xs)) same ∙ front_among y xs, ap (λ z. is_among z known) same ∙ e)
        by (after_it other p) = let m = more (y ∷ known) p in (later_among x y xs m.0, not_later x y known m.1)

pub new_are_all : (x : Name) (xs known : List Name) → is_among x xs ≡ true → is_among x known ≡ false →
    is_among x (new_names xs known) ≡ true
new_are_all x [] known h n = absurd cc
new_are_all x (y ∷ xs) known h n = go (is_among y known) refl (placed x y xs h) (λ k o m. new_are_all x xs k o m)
  where
    go : (b : Bool) → is_among y known ≡ b → Placed x y xs →
        ((k : List Name) → is_among x xs ≡ true → is_among x k ≡ false → is_among x (new_names xs k) ≡ true) →
        is_among x (if b then new_names xs known else y ∷ new_names xs (y ∷ known)) ≡ true
    go true e (at_front same) more = never (is_among y known) e (ap (λ z. is_among z known) (sym same) ∙ n)
    go true e (after_it other o) more = more known o n
    go false e (at_front same) more =
        ap (λ z. is_among z (y ∷ new_names xs (y ∷ known))) same ∙ front_among y (new_names xs (y ∷ known))
    go false e (after_it other o) more =
        later_among x y (new_names xs (y ∷ known))
        (more (y ∷ known) o (ap (λ b. if b then true else is_among x known) other ∙ n))

pub new_differ : (xs known : List Name) → differ (new_names xs known) ≡ true
new_differ [] known = refl
new_differ (y ∷ xs) known = go (is_among y known) (λ k. new_differ xs k)
  where
    fresh : is_among y (new_names xs (y ∷ known)) ≡ false
    fresh =
        refuted (is_among y (new_names xs (y ∷ known)))
        (λ o. never (is_among y (y ∷ known)) (front_among y known) (new_are_there y xs (y ∷ known) o).1)

    go : (b : Bool) → ((k : List Name) → differ (new_names xs k) ≡ true) →
        differ (if b then new_names xs known else y ∷ new_names xs (y ∷ known)) ≡ true
    go true more = more known
    go false more =
        both_true (not (is_among y (new_names xs (y ∷ known)))) (differ (new_names xs (y ∷ known))) (ap not fresh)
        (more (y ∷ known))
