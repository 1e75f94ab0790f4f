-- Repeated names.
use Rattle.std.proofs.Common.{Bool, true, false, if◌then◌else◌, ◌≡◌, ◌<◌, ◌+◌, ℕ, List, [], ◌∷◌, ◌++◌, length, take, map, get_or, Contains, Option, None, Some}
use Rattle.std.proofs.Common.{IfSome, is_some, slice_get, min, nat_le, option_map, subst, zero, suc, refl, sym, ap, ◌∙◌, arith, length-append}
use Rattle.std.proofs.lemmas.List.{map-append, get_or-append-add, get_or-take, get_or_append_left, length-take, map_more, take-map}
use Rattle.std.proofs.lemmas.List.Elements.{Contains-append_left, Contains-append_right}
use Rattle.std.proofs.lemmas.Option.{get_or_from_slice_get, slice_get-map, slice_get_read, slice_get_within}
use Rattle.std.proofs.lemmas.Slice.Eq.{bytes_eq-Decides}
use Rattle.cw_model.specs.Names.{is_among, same_name}
use Rattle.cw_model.specs.Syntax.{Name}
use Rattle.cw_types.specs.Typing.{earlier_line, later_line}
use Rattle.cw_types.specs.Scope.{Declared}
use Rattle.cw_types.specs.ReasonMeaning.{AreBothIn, IsRepeatedIn, IsRepeatedOf, IsRepeating}
use Rattle.cw_types.specs.declared.reason.IllTyped.{IllTyped}

-- an element at a position and an element before it are both in the list
pub are_both : {X : Type 0} (xs : List X) (i : ℕ) (x y : X) → i < length xs → y ≡ get_or xs i y → Contains (take i xs) x → AreBothIn xs x y
are_both xs i x y h at found =
    let counted : length (take i xs) ≡ min i (length xs) = length-take i xs in
    let before : found.0 < i = omega (arith, counted, found.1) in
    let inside : found.0 < length xs = omega (arith, before, h) in
    record {
      place = found.0;
      other = i;
      apart = λ same. omega (arith, same, before);
      one = slice_get_read xs (length xs) found.0 x refl inside (sym found.2 ∙ get_or-take i xs found.0 x before);
      more = slice_get_read xs (length xs) i y refl h at;
    }

-- an element of each of two lists
pub are_in_both : {X : Type 0} (xs ys : List X) (x y : X) → Contains xs x → Contains ys y → AreBothIn (xs ++ ys) x y
are_in_both xs ys x y found more =
    let counted = length-append xs ys in
    record {
      place = found.0;
      other = length xs + more.0;
      apart = λ same. omega (arith, same, found.1);
      one = slice_get_read (xs ++ ys) (length (xs ++ ys)) found.0 x refl (omega (arith, counted, found.1)) (sym (get_or_append_left xs ys x found.0 found.1 ∙ found.2));
      more = slice_get_read (xs ++ ys) (length (xs ++ ys)) (length xs + more.0) y refl (omega (arith, counted, more.1)) (sym (get_or-append-add xs ys more.0 y ∙ more.2));
    }

slice_left : {X : Type 0} (xs zs : List X) (i : ℕ) (x : X) → slice_get xs i ≡ Some x → slice_get (xs ++ zs) i ≡ Some x
slice_left [] zs i x h = cc
slice_left (y ∷ xs) zs zero x h = h
slice_left (y ∷ xs) zs (suc i) x h = slice_left xs zs i x h

pub in_front : {X : Type 0} (xs zs : List X) (x y : X) → AreBothIn xs x y → AreBothIn (xs ++ zs) x y
in_front xs zs x y h =
    record {
      place = h.place;
      other = h.other;
      apart = h.apart;
      one = slice_left xs zs h.place x h.one;
      more = slice_left xs zs h.other y h.more;
    }

pub behind : {X : Type 0} (zs xs : List X) (x y : X) → AreBothIn xs x y → AreBothIn (zs ++ xs) x y
behind zs xs x y h =
    let counted = length-append zs xs in
    record {
      place = length zs + h.place;
      other = length zs + h.other;
      apart = λ same. h.apart (omega (arith, same));
      one = slice_get_read (zs ++ xs) (length (zs ++ xs)) (length zs + h.place) x refl (omega (arith, counted, slice_get_within xs h.place x h.one))
          (sym (get_or-append-add zs xs h.place x ∙ get_or_from_slice_get xs h.place x x h.one));
      more = slice_get_read (zs ++ xs) (length (zs ++ xs)) (length zs + h.other) y refl (omega (arith, counted, slice_get_within xs h.other y h.more))
          (sym (get_or-append-add zs xs h.other y ∙ get_or_from_slice_get xs h.other y y h.more));
    }

turned_round : {X : Type 0} (xs : List X) (x y : X) → AreBothIn xs x y → AreBothIn xs y x
turned_round xs x y h = record { place = h.other; other = h.place; apart = λ same. h.apart (sym same); one = h.more; more = h.one }

-- a function and a reducer with the same name
pub shared_both : (fs rs : List (Name × ℕ)) (x : Name) (r f : ℕ) → Contains fs (x, f) → Contains rs (x, r) →
    AreBothIn (fs ++ rs) (x, earlier_line r f) (x, later_line r f)
shared_both fs rs x r f one more = either (nat_le r f)
  where
    either : (c : Bool) → AreBothIn (fs ++ rs) (x, (if c then r else f)) (x, (if c then f else r))
    either true = turned_round (fs ++ rs) (x, f) (x, r) (are_in_both fs rs (x, f) (x, r) one more)
    either false = are_in_both fs rs (x, f) (x, r) one more

-- an element of the list under a view
pub in_map : {X Y : Type 0} (u : X → Y) (xs : List X) (i : ℕ) (d : X) → i < length xs → d ≡ get_or xs i d → Contains (map u xs) (u d)
in_map u xs i d h at =
    let here : slice_get (map u xs) i ≡ Some (u d) = slice_get-map u xs i ∙ ap (option_map u) (slice_get_read xs (length xs) i d refl h at) in
    (i, slice_get_within (map u xs) i (u d) here, get_or_from_slice_get (map u xs) i (u d) (u d) here)

pub in_maps : {X Y Z : Type 0} (u : X → Y) (g : Y → Z) (xs : List X) (i : ℕ) (d : X) → i < length xs → d ≡ get_or xs i d →
    Contains (map g (map u xs)) (g (u d))
in_maps u g xs i d h at =
    let here : slice_get (map g (map u xs)) i ≡ Some (g (u d)) =
    slice_get-map g (map u xs) i ∙ ap (option_map g) (slice_get-map u xs i ∙ ap (option_map u) (slice_get_read xs (length xs) i d refl h at)) in
    (i, slice_get_within (map g (map u xs)) i (g (u d)) here, get_or_from_slice_get (map g (map u xs)) i (g (u d)) (g (u d)) here)

-- an element under a view, and an element before it
pub both_mapped : {X Y Z : Type 0} (u : X → Y) (g : Y → Z) (xs : List X) (i : ℕ) (d : X) (e : Z) → i < length xs → d ≡ get_or xs i d →
    Contains (map g (map u (take i xs))) e → AreBothIn (map g (map u xs)) e (g (u d))
both_mapped u g xs i d e h at found =
    let here : slice_get (map g (map u xs)) i ≡ Some (g (u d)) =
    slice_get-map g (map u xs) i ∙ ap (option_map g) (slice_get-map u xs i ∙ ap (option_map u) (slice_get_read xs (length xs) i d refl h at)) in
    let front : take i (map g (map u xs)) ≡ map g (map u (take i xs)) = take-map g i (map u xs) ∙ ap (map g) (take-map u i xs) in
    are_both (map g (map u xs)) i e (g (u d)) (slice_get_within (map g (map u xs)) i (g (u d)) here)
    (sym (get_or_from_slice_get (map g (map u xs)) i (g (u d)) (g (u d)) here))
    (subst (λ (ys : List _). Contains ys e) (sym front) found)

-- a name among names is an element of the list
pub among_there : (x : Name) (xs : List Name) → is_among x xs ≡ true → Contains xs x
among_there x [] h = cc
among_there x (y ∷ xs) h = first (same_name x y) refl h (among_there x xs)
  where
    first : (b : Bool) → b ≡ same_name x y → (if b then true else is_among x xs) ≡ true → (is_among x xs ≡ true → Contains xs x) → Contains (y ∷ xs) x
    first true e k further = (0, omega arith, sym ((bytes_eq-Decides x y).0 (sym e)))
    first false e k further = Contains-append_right (y ∷ []) xs x (further k)

pub one_more : {X Y : Type 0} (u : X → Y) (xs : List X) (i : ℕ) (d : X) → i < length xs → d ≡ get_or xs i d →
    map u (take (i + 1) xs) ≡ map u (take i xs) ++ u d ∷ []
one_more u xs i d h at = map_more u xs i d h ∙ ap (λ y. map u (take i xs) ++ u y ∷ []) (sym at)

-- the elements before the next position are those before this position and the element at it
pub more_earlier : {X Y : Type 0} (u : X → Y) (g : Y → Name × ℕ) (xs : List X) (i : ℕ) (x : X) (here : Name × ℕ) (earlier : List (Name × ℕ)) (d : Name × ℕ) →
    i < length xs → x ≡ get_or xs i x → here ≡ g (u x) → (Contains earlier d → Contains (map g (map u (take i xs))) d) → Contains (here ∷ earlier) d →
    Contains (map g (map u (take (i + 1) xs))) d
more_earlier u g xs i x here earlier d h at is further found =
    let longer : map g (map u (take (i + 1) xs)) ≡ map g (map u (take i xs)) ++ g (u x) ∷ [] =
    ap (map g) (one_more u xs i x h at) ∙ map-append g (map u (take i xs)) (u x ∷ []) in
    subst (λ (ds : List (Name × ℕ)). Contains ds d) (sym longer) (either found.0 found.1 found.2)
  where
    before : List (Name × ℕ)
    before = map g (map u (take i xs))

    either : (k : ℕ) → k < length (here ∷ earlier) → get_or (here ∷ earlier) k d ≡ d → Contains (before ++ g (u x) ∷ []) d
    either zero bound same =
        subst (λ (e : Name × ℕ). Contains (before ++ g (u x) ∷ []) e) (sym is ∙ same) (Contains-append_right before (g (u x) ∷ []) (g (u x)) (0, omega arith, refl))
    either (suc k) bound same = Contains-append_left before (g (u x) ∷ []) d (further (k, omega (arith, bound), same))

-- reading within the list does not depend on the default
pub same_get : {X : Type 0} (xs : List X) (i : ℕ) (d e : X) → i < length xs → get_or xs i d ≡ get_or xs i e
same_get [] i d e h = absurd (omega (arith, h))
same_get (x ∷ xs) zero d e h = refl
same_get (x ∷ xs) (suc i) d e h = same_get xs i d e (omega (arith, h))

-- a name that repeats an earlier one satisfies `IsRepeatedIn`
pub repeated_true : (all : List (Name × ℕ)) (earlier : List Declared) (name : Name) (line : ℕ) (found : Option IllTyped) →
    ((other : ℕ) → Contains {X = Name × ℕ} (map (λ (e : Declared). (e.name, e.line)) earlier) (name, other) → AreBothIn all (name, other) (name, line)) →
    IfSome found (IsRepeatedOf earlier name) → IfSome found (IsRepeatedIn all line)
repeated_true all earlier name line None both h = h
repeated_true all earlier name line (Some r) both h = h all line both

-- a function and a reducer with the same name satisfy `IsRepeatedIn`
pub shared_true : (all : List (Name × ℕ)) (name : Name) (other line : ℕ) (found : Option IllTyped) →
    (is_some found ≡ true → AreBothIn all (name, other) (name, line)) → IfSome found (IsRepeating name other) → IfSome found (IsRepeatedIn all line)
shared_true all name other line None both h = h
shared_true all name other line (Some r) both h = h all line (both refl)
