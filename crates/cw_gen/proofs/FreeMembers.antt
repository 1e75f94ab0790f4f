-- Elements of the list of held names, and their origin in a lowered block.
use Rattle.std.proofs.Common.{◌≡◌, ℕ, ◌+◌, ◌<◌, List, [], ◌∷◌, ◌++◌, Bool, true, false, not, if◌then◌else◌, cond, refl, sym, ap, ◌∙◌}
use Rattle.std.proofs.Common.{filter, ◌⊎◌, inl, inr, ⊎_elim, true≢false, arith, zero, suc, zero-lt-suc, get_or, Contains}
use Rattle.std.specs.Prelude.{map}
use Rattle.std.proofs.lemmas.Bool.{eq-eqb}
use Rattle.std.proofs.lemmas.List.Elements.{Contains-append_right, Contains-append_cases}
use Rattle.std.proofs.lemmas.Slice.Eq.{bytes_eq-Decides}
use Rattle.cw_facts.specs.Tests.{less_differs, not_true}
use Rattle.cw_model.specs.declared.syntax.CallKind.TheVariants.{Plain, Spawned}
use Rattle.cw_model.specs.Syntax.{Name, Stmt, Call, Start, Sync, If, IfElse, While, Scope, Cut, Region, Return, Block, End, Then, Function}
use Rattle.cw_model.specs.Names.{same_name, is_among}
use Rattle.cw_model.specs.Typing.{block_returns}
use Rattle.cw_model.specs.Ownership.{Holder, SpawnIn, ReaderIn, CutOf, Taken, is_reader, is_taken, is_held, is_spawn_in, is_cut_of}
use Rattle.cw_model.specs.Ownership.{freed, without, taken_by, own_names, where_it_goes_on, target_names, given, lent}
use Rattle.cw_gen.proofs.HeldNames.{held_after, held_after_all}

-- the list contains this element
abbrev pub In : (Name × Holder) → Taken → Type 0
In t [] = ⊥
In t (u ∷ us) = (u ≡ t) ⊎ In t us

-- an element of a concatenation is in one of the two lists
pub in_append : (t : Name × Holder) (a b : Taken) → In t (a ++ b) → In t a ⊎ In t b
in_append t [] b h = inr h
in_append t (u ∷ a) b (inl e) = inl (inl e)
in_append t (u ∷ a) b (inr h) = further (in_append t a b h)
  where
    further : In t a ⊎ In t b → In t (u ∷ a) ⊎ In t b
    further (inl k) = inl (inr k)
    further (inr k) = inr k

-- an element of the first list is in the concatenation
pub in_left : (t : Name × Holder) (a b : Taken) → In t a → In t (a ++ b)
in_left t [] b h = absurd h
in_left t (u ∷ a) b (inl e) = inl e
in_left t (u ∷ a) b (inr h) = inr (in_left t a b h)

-- an element of the second list is in the concatenation
pub in_right : (t : Name × Holder) (a b : Taken) → In t b → In t (a ++ b)
in_right t [] b h = h
in_right t (u ∷ a) b h = inr (in_right t a b h)

-- an element of a filtered list is in the list and passes the test
pub in_filter : (p : (Name × Holder) → Bool) (t : Name × Holder) (us : Taken) → In t (filter p us) → In t us × (p t ≡ true)
in_filter p t [] h = absurd h
in_filter p t (u ∷ us) h = test (in_filter p t us) (p u) refl h
  where
    test : (In t (filter p us) → In t us × (p t ≡ true)) → (b : Bool) → p u ≡ b → In t (cond b (u ∷ filter p us) (filter p us)) → In t (u ∷ us) × (p t ≡ true)
    test more true e (inl same) = (inl same, ap p (sym same) ∙ e)
    test more true e (inr k) = let r = more k in (inr r.0, r.1)
    test more false e k = let r = more k in (inr r.0, r.1)

-- an element that passes the test is in the filtered list
pub in_kept : (p : (Name × Holder) → Bool) (t : Name × Holder) (us : Taken) → In t us → p t ≡ true → In t (filter p us)
in_kept p t [] h g = absurd h
in_kept p t (u ∷ us) h g = test (λ k. in_kept p t us k g) (p u) refl h
  where
    test : (In t us → In t (filter p us)) → (b : Bool) → p u ≡ b → In t (u ∷ us) → In t (cond b (u ∷ filter p us) (filter p us))
    test more true e (inl same) = inl same
    test more true e (inr k) = inr (more k)
    test more false e (inl same) = absurd (true≢false (sym g ∙ ap p (sym same) ∙ e))
    test more false e (inr k) = more k

-- `In` implies `Contains`
pub in_contains : (t : Name × Holder) (us : Taken) → In t us → Contains us t
in_contains t [] h = absurd h
in_contains t (u ∷ us) (inl e) = (0, zero-lt-suc _, e)
in_contains t (u ∷ us) (inr h) = Contains-append_right (u ∷ []) us t (in_contains t us h)

-- `Contains` implies `In`
pub contains_in : (t : Name × Holder) (us : Taken) → Contains us t → In t us
contains_in t [] c = absurd (omega (arith, c.1))
contains_in t (u ∷ us) c = ⊎_elim (λ here. inl (only here.0 here.1 here.2)) (λ later. inr (contains_in t us later)) (Contains-append_cases (u ∷ []) us t c)
  where
    only : (n : ℕ) → n < 1 → get_or (u ∷ []) n t ≡ t → u ≡ t
    only zero l e = e
    only (suc n) l e = absurd (omega arith)

-- a held name has a holder
pub held_in : (x : Name) (us : Taken) → is_held us x ≡ true → (k : Holder) × In (x, k) us
held_in x [] h = cc
held_in x (u ∷ us) h = test (held_in x us) (same_name x u.0) refl h
  where
    test : (is_held us x ≡ true → (k : Holder) × In (x, k) us) → (b : Bool) → same_name x u.0 ≡ b → (if b then true else is_held us x) ≡ true → (k : Holder) × In (x, k) (u ∷ us)
    test more true e h' = (u.1, inl (ap (λ n. (n, u.1)) (sym ((bytes_eq-Decides x u.0).0 e))))
    test more false e h' = let r = more h' in (r.0, inr r.1)

-- a name with a holder is held
pub in_held : (t : Name × Holder) (us : Taken) → In t us → is_held us t.0 ≡ true
in_held t [] h = absurd h
in_held t (u ∷ us) (inl e) = ap (λ b. if b then true else is_held us t.0) (ap (λ (v : Name × Holder). same_name t.0 v.0) e ∙ (bytes_eq-Decides t.0 t.0).1 refl)
in_held t (u ∷ us) (inr h) = test (same_name t.0 u.0) (in_held t us h)
  where
    test : (b : Bool) → is_held us t.0 ≡ true → (if b then true else is_held us t.0) ≡ true
    test true e = refl
    test false e = e

-- a name without a holder is not held
pub not_held : (x : Name) (us : Taken) → ((k : Holder) → In (x, k) us → ⊥) → is_held us x ≡ false
not_held x us h = cases (is_held us x) refl
  where
    cases : (b : Bool) → is_held us x ≡ b → b ≡ false
    cases true e = let r = held_in x us e in absurd (h r.0 r.1)
    cases false e = refl

-- the holder does not only read
abbrev taking : (Name × Holder) → Bool
taking t = not (is_reader t.1)

-- a taken name has a holder that does not only read it
pub taken_in : (x : Name) (us : Taken) → is_taken us x ≡ true → (k : Holder) × In (x, k) us × (is_reader k ≡ false)
taken_in x us h =
    let r = held_in x (filter taking us) h in
    let f = in_filter taking (x, r.0) us r.1 in
    (r.0, f.0, not_true (is_reader r.0) f.1)

-- a name with a holder that does not only read it is taken
pub in_taken : (t : Name × Holder) (us : Taken) → In t us → is_reader t.1 ≡ false → is_taken us t.0 ≡ true
in_taken t us i loud = in_held t (filter taking us) (in_kept taking t us i (ap not loud))

-- a name without a holder that does not only read it is not taken
pub not_in : (x : Name) (us : Taken) → ((k : Holder) → In (x, k) us → is_reader k ≡ false → ⊥) → is_taken us x ≡ false
not_in x us h = cases (is_taken us x) refl
  where
    cases : (b : Bool) → is_taken us x ≡ b → b ≡ false
    cases true e = let r = taken_in x us e in absurd (h r.0 r.1 r.2)
    cases false e = refl

-- names with the same holder
pub by_holder : (k : Holder) (xs : List Name) (t : Name × Holder) → In t (map (λ x. (x, k)) xs) → (is_among t.0 xs ≡ true) × (t.1 ≡ k)
by_holder k [] t h = absurd h
by_holder k (x ∷ xs) t (inl e) = (
  ap (λ b. if b then true else is_among t.0 xs) ((bytes_eq-Decides t.0 x).1 (ap (λ (u : Name × Holder). u.0) (sym e))),
  ap (λ (u : Name × Holder). u.1) (sym e),
)
by_holder k (x ∷ xs) t (inr h) = let r = by_holder k xs t h in (later (same_name t.0 x) r.0, r.1)
  where
    later : (b : Bool) → is_among t.0 xs ≡ true → (if b then true else is_among t.0 xs) ≡ true
    later true e = refl
    later false e = e

-- each of the names is in the list
pub holder_has : (k : Holder) (xs : List Name) (x : Name) → is_among x xs ≡ true → In (x, k) (map (λ x. (x, k)) xs)
holder_has k [] x h = absurd cc
holder_has k (y ∷ xs) x h = test (holder_has k xs x) (same_name x y) refl h
  where
    test : (is_among x xs ≡ true → In (x, k) (map (λ x. (x, k)) xs)) → (b : Bool) → same_name x y ≡ b → (if b then true else is_among x xs) ≡ true → In (x, k) (map (λ x. (x, k)) (y ∷ xs))
    test more true e h' = inl (ap (λ n. (n, k)) (sym ((bytes_eq-Decides x y).0 e)))
    test more false e h' = inr (more h')

-- names that a spawn took
pub by_spawn : (depth : ℕ) (xs : List Name) (t : Name × Holder) → In t (map (λ x. (x, SpawnIn depth)) xs) → (is_among t.0 xs ≡ true) × (t.1 ≡ SpawnIn depth)
by_spawn depth xs t h = by_holder (SpawnIn depth) xs t h

-- the holder is a spawn outside of the sync block at this depth, or a cut
abbrev pub Outer : ℕ → Holder → Type 0
Outer depth (SpawnIn d) = d < depth
Outer depth (ReaderIn d) = d < depth
Outer depth CutOf = Unit {0}

-- a holder outside of a block is outside of its inner blocks
pub outer_more : (depth : ℕ) (k : Holder) → Outer depth k → Outer (depth + 1) k
outer_more depth (SpawnIn d) h = omega (arith, h)
outer_more depth (ReaderIn d) h = omega (arith, h)
outer_more depth CutOf h = tt

-- the holder is not a spawn of the block itself
pub outer_not : (depth : ℕ) (k : Holder) → Outer depth k → is_spawn_in depth k ≡ false
outer_not depth (SpawnIn d) h = less_differs d depth h
outer_not depth (ReaderIn d) h = less_differs d depth h
outer_not depth CutOf h = refl

-- the name was held before, or a spawn of the sync block at this depth holds it
abbrev pub From : ℕ → Taken → (Name × Holder) → Type 0
From depth taken t = In t taken ⊎ (is_spawn_in depth t.1 ≡ true)

no_longer : (depth : ℕ) (k : Holder) → is_spawn_in depth k ≡ true → not (is_spawn_in depth k) ≡ true → true ≡ false
no_longer depth k e h = sym h ∙ ap not e

-- names that a spawn took, and names that it only reads
by_taker : (depth : ℕ) (xs : List Name) (t : Name × Holder) → In t (map (λ x. (x, SpawnIn depth)) xs) → is_spawn_in depth t.1 ≡ true
by_taker depth xs t h = ap (is_spawn_in depth) (by_holder (SpawnIn depth) xs t h).1 ∙ eq-eqb depth depth refl

by_reader : (depth : ℕ) (xs : List Name) (t : Name × Holder) → In t (map (λ x. (x, ReaderIn depth)) xs) → is_spawn_in depth t.1 ≡ true
by_reader depth xs t h = ap (is_spawn_in depth) (by_holder (ReaderIn depth) xs t h).1 ∙ eq-eqb depth depth refl

-- the end of an inner sync block
left_inner : (depth : ℕ) (taken : Taken) (own : List Name) (after_it : Taken) (t : Name × Holder) → (In t after_it → From (depth + 1) taken t)
    → In t (freed (depth + 1) (without own after_it)) → In t taken
left_inner depth taken own after_it t from h =
    let one = in_filter (λ u. not (is_spawn_in (depth + 1) u.1)) t (without own after_it) h in
    let two = in_filter (λ u. not (is_among u.0 own)) t after_it one.0 in
    cases (from two.0) one.1
  where
    cases : From (depth + 1) taken t → not (is_spawn_in (depth + 1) t.1) ≡ true → In t taken
    cases (inl k) e = k
    cases (inr k) e = absurd (true≢false (no_longer (depth + 1) t.1 k e))

goes_on : (returns : Bool) (own : List Name) (after_it : Taken) (t : Name × Holder) → In t (where_it_goes_on returns (without own after_it)) → In t after_it
goes_on true own after_it t h = absurd h
goes_on false own after_it t h = (in_filter (λ u. not (is_among u.0 own)) t after_it h).0

-- a result that follows in both cases
pub either_way : {A B C : Type 0} → A ⊎ B → (A → C) → (B → C) → C
either_way (inl a) f g = f a
either_way (inr b) f g = g b

cut_of : (a : Name) (taken : Taken) (t : Name × Holder) → not (is_cut_of a t) ≡ true → In t ((a, CutOf) ∷ taken) → In t taken
cut_of a taken t e (inr k) = k
cut_of a taken t e (inl same) = absurd (true≢false (sym e ∙ ap (λ u. not (is_cut_of a u)) (sym same) ∙ ap not ((bytes_eq-Decides a a).1 refl)))

mutual
  -- a name held after a statement was held before it, or a spawn of the sync block holds it
  pub stmt_from : (fs : List Function) (depth : ℕ) (s : Stmt) (taken : Taken) (t : Name × Holder) → In t (held_after fs depth s taken) → From depth taken t
  stmt_from fs depth (Call Spawned site target f es) taken t h =
      either_way (in_append t (map (λ x. (x, ReaderIn depth)) (lent fs f es)) (taken_by depth (target_names target ++ given fs f es) taken) h) (λ k. inr (by_reader depth (lent fs f es) t k))
      (λ k. either_way (in_append t (map (λ x. (x, SpawnIn depth)) (target_names target ++ given fs f es)) taken k) (λ j. inr (by_taker depth (target_names target ++ given fs f es) t j)) (λ j. inl j))
  stmt_from fs depth (Call Plain site target f es) taken t h = inl h
  stmt_from fs depth (Start Spawned f es) taken t h = either_way (in_append t (map (λ x. (x, SpawnIn depth)) (given fs f es)) taken h) (λ k. inr (by_taker depth (given fs f es) t k)) (λ k. inl k)
  stmt_from fs depth (Start Plain f es) taken t h = inl h
  stmt_from fs depth Sync taken t h = inl (in_filter (λ u. not (is_spawn_in depth u.1)) t taken h).0
  stmt_from fs depth (Return e) taken t h = inl (in_filter (λ u. not (is_spawn_in depth u.1)) t taken h).0
  stmt_from fs depth (If e b) taken t h =
      either_way (in_append t (where_it_goes_on (block_returns b) (without (own_names b) (held_after_all fs depth b taken))) taken h)
      (λ k. block_from fs depth b taken t (goes_on (block_returns b) (own_names b) (held_after_all fs depth b taken) t k)) (λ k. inl k)
  stmt_from fs depth (IfElse e b c) taken t h =
      either_way (in_append t (where_it_goes_on (block_returns b) (without (own_names b) (held_after_all fs depth b taken)))
      (where_it_goes_on (block_returns c) (without (own_names c) (held_after_all fs depth c taken))) h)
      (λ k. block_from fs depth b taken t (goes_on (block_returns b) (own_names b) (held_after_all fs depth b taken) t k))
      (λ k. block_from fs depth c taken t (goes_on (block_returns c) (own_names c) (held_after_all fs depth c taken) t k))
  stmt_from fs depth (While e b) taken t h =
      either_way (in_append t taken (where_it_goes_on (block_returns b) (without (own_names b) (held_after_all fs depth b taken))) h) (λ k. inl k)
      (λ k. block_from fs depth b taken t (goes_on (block_returns b) (own_names b) (held_after_all fs depth b taken) t k))
  stmt_from fs depth (Scope b) taken t h = inl (left_inner depth taken (own_names b) (held_after_all fs (depth + 1) b taken) t (block_from fs (depth + 1) b taken t) h)
  stmt_from fs depth (Region tag b) taken t h = inl (left_inner depth taken (own_names b) (held_after_all fs (depth + 1) b taken) t (block_from fs (depth + 1) b taken t) h)
  stmt_from fs depth (Cut a e l r b) taken t h =
      let inner = (a, CutOf) ∷ taken in
      let one = in_filter (λ u. not (is_cut_of a u)) t (freed (depth + 1) (without (l ∷ r ∷ own_names b) (held_after_all fs (depth + 1) b inner))) h in
      inl (cut_of a taken t one.1 (left_inner depth inner (l ∷ r ∷ own_names b) (held_after_all fs (depth + 1) b inner) t (block_from fs (depth + 1) b inner t) one.0))
  stmt_from fs depth _ taken t h = inl h

  -- a name held after a block was held before it, or a spawn of the sync block holds it
  pub block_from : (fs : List Function) (depth : ℕ) (b : Block) (taken : Taken) (t : Name × Holder) → In t (held_after_all fs depth b taken) → From depth taken t
  block_from fs depth End taken t h = inl h
  block_from fs depth (Then line s b) taken t h = then_from (block_from fs depth b (held_after fs depth s taken) t h) (stmt_from fs depth s taken t)
    where
      then_from : From depth (held_after fs depth s taken) t → (In t (held_after fs depth s taken) → From depth taken t) → From depth taken t
      then_from (inl k) more = more k
      then_from (inr e) more = inr e

-- names held after an inner sync block were held before it
pub scope_from : (fs : List Function) (depth : ℕ) (b : Block) (taken : Taken) (t : Name × Holder)
    → In t (freed (depth + 1) (without (own_names b) (held_after_all fs (depth + 1) b taken))) → In t taken
scope_from fs depth b taken t h = left_inner depth taken (own_names b) (held_after_all fs (depth + 1) b taken) t (block_from fs (depth + 1) b taken t) h

-- names held after a cut were held before it
pub cut_from : (fs : List Function) (depth : ℕ) (a l r : Name) (b : Block) (taken : Taken) (t : Name × Holder) →
    In t (filter (λ u. not (is_cut_of a u)) (freed (depth + 1) (without (l ∷ r ∷ own_names b) (held_after_all fs (depth + 1) b ((a, CutOf) ∷ taken))))) → In t taken
cut_from fs depth a l r b taken t h =
    let inner = (a, CutOf) ∷ taken in
    let one = in_filter (λ u. not (is_cut_of a u)) t (freed (depth + 1) (without (l ∷ r ∷ own_names b) (held_after_all fs (depth + 1) b inner))) h in
    cut_of a taken t one.1 (left_inner depth inner (l ∷ r ∷ own_names b) (held_after_all fs (depth + 1) b inner) t (block_from fs (depth + 1) b inner t) one.0)

-- a name that is not held before a sync block is not held after its join
pub free_after : (fs : List Function) (depth : ℕ) (b : Block) (taken : Taken) (x : Name) → is_held taken x ≡ false → is_held (freed depth (held_after_all fs depth b taken)) x ≡ false
free_after fs depth b taken x free = not_held x (freed depth (held_after_all fs depth b taken)) (λ k h.
    let one = in_filter (λ u. not (is_spawn_in depth u.1)) (x, k) (held_after_all fs depth b taken) h in
    true≢false (sym (was k (block_from fs depth b taken (x, k) one.0) one.1) ∙ free))
  where
    was : (k : Holder) → From depth taken (x, k) → not (is_spawn_in depth k) ≡ true → is_held taken x ≡ true
    was k (inl h) e = in_held (x, k) taken h
    was k (inr h) e = absurd (true≢false (no_longer depth k h e))
