-- Rows under their keys.
use Rattle.std.proofs.Common.{◌≡◌, ◌⊎◌, inl, inr, ℕ, suc, ◌+◌, ◌<◌, Bool, true, false, not, List, [], ◌∷◌, ◌++◌}
use Rattle.std.proofs.Common.{length, map, take, refl, sym, ap, ◌∙◌, subst, arith, nat_eq, append_assoc}
use Rattle.std.proofs.Math.ListN.{get_or}
use Rattle.std.proofs.Math.Seq.{take-suc}
use Rattle.std.specs.Global.{Vec}
use Rattle.std.specs.List.{enumerate_from, range_with_len, zip}
use Rattle.std.specs.Str.{bytes_eq}
use Rattle.std.proofs.lemmas.Bool.{and_parts, or_parts}
use Rattle.std.proofs.lemmas.Bool.Decides.{nat_tests}
use Rattle.std.proofs.lemmas.List.{append-nil, length-take-le, map-append}
use Rattle.std.proofs.lemmas.Slice.Zip.{firsts-zip, seconds-zip}
use Rattle.cw_facts.specs.Tests.{not_true}
use Rattle.cw_model.specs.Syntax.{Name}
use Rattle.cw_model.specs.lemmas.Names.{swapped}
use Rattle.cw_code.specs.Fits.{is_among, are_apart}
use Rattle.indexmap.specs.IndexMap.{insert_entry}
use Rattle.cw_machine.specs.Runs.{named}

-- ---- numbers

other_number : (n a k : ℕ) → n ≡ (a + 1) + k → nat_eq n a ≡ false
other_number n a k e = grind (arith, nat_tests)

-- a row under the next number is appended
pub next_number : {X : Type 0} (a n : ℕ) (rows : List X) (row : X) → n ≡ a + length rows
    → insert_entry nat_eq (enumerate_from a rows) n row ≡ enumerate_from a (rows ++ row ∷ [])
next_number a n [] row e = ap (λ k. (k, row) ∷ []) (omega (arith, e))
next_number a n (x ∷ rows) row e =
    let is : n ≡ (a + 1) + length rows = omega (arith, e) in
    rw (other_number n a (length rows) is) (ap (λ l. (a, x) ∷ l) (next_number (a + 1) n rows row is))

-- a map from numbers to rows got one more row
pub one_row_more : {X : Type 0} (old new : List (ℕ × X)) (n key : ℕ) (rows : List X) (d : X)
    → old ≡ enumerate_from 0 (take n rows) → n < length rows → key ≡ n
    → new ≡ insert_entry nat_eq old key (get_or rows n d) → new ≡ enumerate_from 0 (take (n + 1) rows)
one_row_more old new n key rows d so_far more same is =
    let row = get_or rows n d in
    let len = length-take-le n rows (omega (arith, more)) in
    let one_more : suc n ≡ n + 1 = omega arith in
    let count : n ≡ 0 + length (take n rows) = omega (arith, len) in
    is ∙ ap (λ es. insert_entry nat_eq es key row) so_far ∙ ap (λ k. insert_entry nat_eq (enumerate_from 0 (take n rows)) k row) same
    ∙ next_number 0 n (take n rows) row count ∙ ap (enumerate_from 0) (sym (take-suc rows n d more) ∙ ap (λ k. take k rows) one_more)

-- the numbers of rows, and the rows under them
pub numbers_are : {X : Type 0} (a : ℕ) (rows : List X) → map (λ e. e.0) (enumerate_from a rows) ≡ range_with_len a (length rows)
numbers_are a [] = refl
numbers_are a (row ∷ rows) = ap (λ l. a ∷ l) (numbers_are (a + 1) rows)

pub rows_are : {X : Type 0} (a : ℕ) (rows : List X) → map (λ e. e.1) (enumerate_from a rows) ≡ rows
rows_are a [] = refl
rows_are a (row ∷ rows) = ap (λ l. row ∷ l) (rows_are (a + 1) rows)

-- ---- tags

-- whether two tags are equal, as a map tests it
abbrev pub same_tag : Vec ℕ → Vec ℕ → Bool
same_tag x y = bytes_eq x.items y.items

abbrev pub texts : {X : Type 0} → List (Vec ℕ × X) → List Name
texts entries = map (λ e. e.0.items) entries

-- a name that is not in a list is not an element of it
not_among : (name : Name) (front : List Name) (tag : Name) (rest : List Name)
    → is_among name (front ++ tag ∷ rest) ≡ false → bytes_eq name tag ≡ false
not_among name [] tag rest h = (or_parts (bytes_eq name tag) _ h).0
not_among name (x ∷ front) tag rest h = not_among name front tag rest (or_parts (bytes_eq name x) _ h).1

-- a row under a tag that differs from the earlier ones is appended
pub next_tag : {X : Type 0} (entries : List (Vec ℕ × X)) (key : Vec ℕ) (row : X) (tag : Name) (rest : List Name)
    → key.items ≡ tag → are_apart (texts entries ++ tag ∷ rest) ≡ true
    → insert_entry same_tag entries key row ≡ entries ++ (key, row) ∷ []
next_tag [] key row tag rest e apart = refl
next_tag (entry ∷ entries) key row tag rest e apart =
    let split = and_parts (not (is_among entry.0.items (texts entries ++ tag ∷ rest))) _ apart in
    let other = swapped entry.0.items tag (not_among entry.0.items (texts entries) tag rest (not_true _ split.0)) in
    let differs : bytes_eq key.items entry.0.items ≡ false = subst (λ k. bytes_eq k entry.0.items ≡ false) (sym e) other in
    rw differs (ap (λ l. entry ∷ l) (next_tag entries key row tag rest e split.1))

-- the tags so far and the remaining ones are all tags, and so are the rows under them
pub record TagsTowards {X : Type 0} (entries : List (Vec ℕ × X)) (left : List Name) (rows : List X) (tags : List Name) (whole : List X) : Type 0 where
  pub keys : texts entries ++ left ≡ tags
  pub pairs : named entries ++ zip left rows ≡ zip tags whole

one_after : {A B : Type 0} (f : A → B) (xs : List A) (x : A) (left : List B) → map f (xs ++ x ∷ []) ++ left ≡ map f xs ++ f x ∷ left
one_after f xs x left = ap (λ l. l ++ left) (map-append f xs (x ∷ [])) ∙ append_assoc (map f xs) (f x ∷ []) left

-- a map from tags to rows got one more tag
pub one_tag_more : {X : Type 0} (old new : List (Vec ℕ × X)) (tag : Name) (left : List Name) (row : X) (rows : List X) (tags : List Name) (whole : List X) (key : Vec ℕ)
    → TagsTowards old (tag ∷ left) (row ∷ rows) tags whole → are_apart tags ≡ true → key.items ≡ tag
    → new ≡ insert_entry same_tag old key row → TagsTowards new left rows tags whole
one_tag_more old new tag left row rows tags whole key so_far apart is_tag is =
    let e = is ∙ next_tag old key row tag left is_tag (subst (λ l. are_apart l ≡ true) (sym so_far.keys) apart) in
    subst (λ es. TagsTowards es left rows tags whole) (sym e) (record {
      keys = one_after (λ p. p.0.items) old (key, row) left ∙ ap (λ t. texts old ++ t ∷ left) is_tag ∙ so_far.keys;
      pairs = one_after (λ p. (p.0.items, p.1)) old (key, row) (zip left rows) ∙ ap (λ t. named old ++ (t, row) ∷ zip left rows) is_tag ∙ so_far.pairs;
    })

none_left : {X : Type 0} (left : List Name) (rows : List X) → (length left ≡ 0) ⊎ (length rows ≡ 0) → zip left rows ≡ []
none_left [] rows h = refl
none_left (tag ∷ left) [] h = refl
none_left (tag ∷ left) (row ∷ rows) (inl h) = cc
none_left (tag ∷ left) (row ∷ rows) (inr h) = cc

-- if no tag or no row remains, the map is complete
pub all_tags : {X : Type 0} (entries : List (Vec ℕ × X)) (left : List Name) (rows : List X) (tags : List Name) (whole : List X)
    → TagsTowards entries left rows tags whole → (length left ≡ 0) ⊎ (length rows ≡ 0) → named entries ≡ zip tags whole
all_tags entries left rows tags whole so_far none =
    sym (append-nil (named entries)) ∙ ap (λ l. named entries ++ l) (sym (none_left left rows none)) ∙ so_far.pairs

tags_named : {X : Type 0} (entries : List (Vec ℕ × X)) → map (λ tag. tag.items) (map (λ e. e.0) entries) ≡ map (λ p. p.0) (named entries)
tags_named [] = refl
tags_named (entry ∷ entries) = ap (λ l. entry.0.items ∷ l) (tags_named entries)

rows_named : {X : Type 0} (entries : List (Vec ℕ × X)) → map (λ e. e.1) entries ≡ map (λ p. p.1) (named entries)
rows_named [] = refl
rows_named (entry ∷ entries) = ap (λ l. entry.1 ∷ l) (rows_named entries)

module _ {X : Type 0} (entries : List (Vec ℕ × X)) (tags : List Name) (rows : List X) (is : named entries ≡ zip tags rows)
    (as_many : length rows ≡ length tags) where
  -- if there is a row for each tag, the keys are the tags
  pub tags_are : map (λ tag. tag.items) (map (λ e. e.0) entries) ≡ tags
  tags_are = tags_named entries ∙ ap (map (λ p. p.0)) is ∙ firsts-zip tags rows as_many

  -- the rows under the tags are those rows
  pub rows_under_tags : map (λ e. e.1) entries ≡ rows
  rows_under_tags = rows_named entries ∙ ap (map (λ p. p.1)) is ∙ seconds-zip tags rows as_many
