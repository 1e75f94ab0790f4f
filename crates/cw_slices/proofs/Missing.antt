-- The number of cells of a block that are out or shared, and what is read from a cell that is in.
use Rattle.std.proofs.Common.{◌≡◌, ◌⊎◌, inl, inr, ℕ, ◌+◌, ◌-◌, ◌^◌, ◌<◌, ◌≤◌, ℤ, Bool, true, false, List, [], ◌∷◌, ◌++◌, length, take, drop, replicate}
use Rattle.std.proofs.Common.{Option, Some, None, slice_get, slice_set, slice_index_or, IsTrue, refl, sym, ap, ap₂, ◌∙◌, subst, arith}
use Prim.Native.Nat.{zero, suc}
use Rattle.std.proofs.lemmas.Option.{none-some, same_Some, slice_get_within}
use lib.ListN.{length-replicate, length-set}
use Rattle.std.proofs.lemmas.Bool.{cases_lt}
use Rattle.cw_slices.specs.Blocks.{ins, outs, patched, missing, numbers, marks, IsIn, Have, AreOut, AreHalved, AtLeast, excess, IsCount, Counts, CountsMore, CountsLess}
use Rattle.cw_slices.specs.lemmas.Patches.{middle, alike_middle, length_ins, length_outs, length_patched, patched_before, patched_at, patched_after, get_replicated}

abbrev Cells : Type 0
Cells = List (Option ℤ)

missing_both : (cells others : Cells) → missing (cells ++ others) ≡ missing cells + missing others
missing_both [] others = let e : missing others ≡ 0 + missing others = omega arith in e
missing_both (Some x ∷ cells) others = missing_both cells others
missing_both (None ∷ cells) others = let e = missing_both cells others in let up : suc (missing (cells ++ others)) ≡ suc (missing cells) + missing others = omega (arith, e) in up

pub missing_ins : (xs : List ℤ) → missing (ins xs) ≡ 0
missing_ins [] = refl
missing_ins (x ∷ xs) = missing_ins xs

missing_outs : (n : ℕ) → missing (outs n) ≡ n
missing_outs zero = refl
missing_outs (suc n) = ap suc (missing_outs n)

pub missing_within : (cells : Cells) → missing cells ≤ length cells
missing_within [] = omega arith
missing_within (Some x ∷ cells) = let le = missing_within cells in let up : missing cells ≤ suc (length cells) = omega (arith, le) in up
missing_within (None ∷ cells) = let le = missing_within cells in let up : suc (missing cells) ≤ suc (length cells) = omega (arith, le) in up

three : (first new last : Cells) → missing (first ++ (new ++ last)) ≡ missing first + (missing new + missing last)
three first new last = missing_both first (new ++ last) ∙ ap (λ (k : ℕ). missing first + k) (missing_both new last)

-- lending `length xs` cells increases `missing` by that number
pub missing_lent : (cells : Cells) (from : ℕ) (xs : List ℤ) → Have cells from xs → from + length xs ≤ length cells → missing (patched from (outs (length xs)) cells) ≡ missing cells + length xs
missing_lent cells from xs has le =
    let end : drop (from + length (outs (length xs))) cells ≡ drop (from + length xs) cells = ap (λ (k : ℕ). drop (from + k) cells) (length_outs (length xs)) in
    let now = ap (λ (l : Cells). missing (take from cells ++ (outs (length xs) ++ l))) end ∙ three (take from cells) (outs (length xs)) (drop (from + length xs) cells) in
    let was : missing cells ≡ missing (take from cells) + (missing (ins xs) + missing (drop (from + length xs) cells)) =
    ap missing (middle from xs cells has le) ∙ three (take from cells) (ins xs) (drop (from + length xs) cells) in
    omega (arith, now, was, missing_outs (length xs), missing_ins xs)

-- taking `length xs` cells back decreases `missing` by that number
pub missing_back : (cells : Cells) (from : ℕ) (xs : List ℤ) → AreOut cells from (length xs) → from + length xs ≤ length cells → missing cells ≡ missing (patched from (ins xs) cells) + length xs
missing_back cells from xs out le =
    let end : drop (from + length (ins xs)) cells ≡ drop (from + length xs) cells = ap (λ (k : ℕ). drop (from + k) cells) (length_ins xs) in
    let now = ap (λ (l : Cells). missing (take from cells ++ (ins xs ++ l))) end ∙ three (take from cells) (ins xs) (drop (from + length xs) cells) in
    let was : missing cells ≡ missing (take from cells) + (missing (outs (length xs)) + missing (drop (from + length xs) cells)) =
    ap missing (alike_middle from (length xs) None cells out le) ∙ three (take from cells) (outs (length xs)) (drop (from + length xs) cells) in
    omega (arith, now, was, missing_outs (length xs), missing_ins xs)

-- setting a cell that is in keeps `missing`
pub missing_set : (cells : Cells) (i : ℕ) (y : ℤ) → IsIn cells i → missing (slice_set cells i (Some y)) ≡ missing cells
missing_set [] i y is = absurd (none-some (Some is.0) is.1)
missing_set (Some x ∷ cells) zero y is = refl
missing_set (None ∷ cells) zero y is = absurd (none-some is.0 (same_Some None (Some is.0) is.1))
missing_set (Some x ∷ cells) (suc i) y is = missing_set cells i y is
missing_set (None ∷ cells) (suc i) y is = ap suc (missing_set cells i y is)

excess_both : (e : ℕ) (ds others : List ℕ) → excess e (ds ++ others) ≡ excess e ds + excess e others
excess_both e [] others = let z : excess e others ≡ 0 + excess e others = omega arith in z
excess_both e (d ∷ ds) others = let rest = excess_both e ds others in let up : (d - e) + excess e (ds ++ others) ≡ ((d - e) + excess e ds) + excess e others = omega (arith, rest) in up

excess_three : (e : ℕ) (first new last : List ℕ) → excess e (first ++ (new ++ last)) ≡ excess e first + (excess e new + excess e last)
excess_three e first new last = excess_both e first (new ++ last) ∙ ap (λ (k : ℕ). excess e first + k) (excess_both e new last)

pub excess_alike : (n e : ℕ) → excess e (replicate n e) ≡ 0
excess_alike zero e = refl
excess_alike (suc n) e = let rest = excess_alike n e in let up : (e - e) + excess e (replicate n e) ≡ 0 = omega (arith, rest) in up

raised : (n d e : ℕ) → (0 < n → e ≤ d) → excess e (replicate n (suc d)) ≡ excess e (replicate n d) + n
raised zero d e le = let z : 0 ≡ 0 + 0 = omega arith in z
raised (suc n) d e le =
    let here : e ≤ d = le (omega arith) in let rest = raised n d e (λ some. here) in
    let up : (suc d - e) + excess e (replicate n (suc d)) ≡ ((d - e) + excess e (replicate n d)) + suc n = omega (arith, here, rest) in up

module _ (e from n d : ℕ) (ds : List ℕ) (fits : from + n ≤ length ds) (le : 0 < n → e ≤ d) where
  raised_middle : excess e (take from ds ++ (replicate n (suc d) ++ drop (from + n) ds)) ≡ excess e (take from ds ++ (replicate n d ++ drop (from + n) ds)) + n
  raised_middle =
      let more = excess_three e (take from ds) (replicate n (suc d)) (drop (from + n) ds) in let less = excess_three e (take from ds) (replicate n d) (drop (from + n) ds) in
      omega (arith, more, less, raised n d e le)

  patched_is : (v : ℕ) → patched from (replicate n v) ds ≡ take from ds ++ (replicate n v ++ drop (from + n) ds)
  patched_is v = ap (λ (k : ℕ). take from ds ++ (replicate n v ++ drop (from + k) ds)) (length-replicate n v)

  -- sharing `n` cells increases `excess` by `n`
  pub excess_shared : AreHalved ds from n d → excess e (patched from (replicate n (suc d)) ds) ≡ excess e ds + n
  excess_shared are = ap (excess e) (patched_is (suc d)) ∙ raised_middle ∙ ap (λ (l : List ℕ). excess e l + n) (sym (alike_middle from n d ds are fits))

  -- merging `n` cells decreases `excess` by `n`
  pub excess_merged : AreHalved ds from n (suc d) → excess e ds ≡ excess e (patched from (replicate n d) ds) + n
  excess_merged are = ap (excess e) (alike_middle from n (suc d) ds are fits) ∙ raised_middle ∙ ap (λ (l : List ℕ). excess e l + n) (sym (patched_is d))

-- patching rights with a right of at least `e` keeps the least right
pub at_least : (e from n v : ℕ) (ds : List ℕ) → from + n ≤ length ds → (0 < n → e ≤ v) → AtLeast e ds → AtLeast e (patched from (replicate n v) ds)
at_least e from n v ds fits le all k d is = by (cases_lt k from)
  where
    many : length (replicate n v) ≡ n
    many = length-replicate n v

    within : from + length (replicate n v) ≤ length ds
    within = omega (arith, many, fits)

    inside : from ≤ k → (k < from + n) ⊎ (from + n ≤ k) → e ≤ d
    inside above (inl lt) =
        let j : ℕ = k - from in let at : from + j ≡ k = omega (arith, above) in
        let same : v ≡ d = same_Some v d (sym (get_replicated n v j (omega (arith, lt, above)))
        ∙ sym (patched_at from (replicate n v) ds within j (omega (arith, lt, above, many))) ∙ ap (slice_get (patched from (replicate n v) ds)) at ∙ is) in
        let some : e ≤ v = le (omega (arith, lt, above)) in omega (arith, some, same)
    inside above (inr after) = all k d (sym (patched_after from (replicate n v) ds within k (omega (arith, after, many))) ∙ is)

    by : (k < from) ⊎ (from ≤ k) → e ≤ d
    by (inl lt) = all k d (sym (patched_before from (replicate n v) ds within k lt) ∙ is)
    by (inr above) = inside above (cases_lt k (from + n))

-- equal rights are at least what they all are
pub at_least_alike : (n e : ℕ) → AtLeast e (replicate n e)
at_least_alike zero e k d is = absurd (none-some d is)
at_least_alike (suc n) e zero d is = let same : e ≡ d = same_Some e d is in omega (arith, same)
at_least_alike (suc n) e (suc k) d is = at_least_alike n e k d is

-- if no share is out, all rights are equal to the base
pub none_shared : (e : ℕ) (ds : List ℕ) → AtLeast e ds → excess e ds ≡ 0 → ds ≡ replicate (length ds) e
none_shared e [] all is = refl
none_shared e (d ∷ ds) all is =
    let is' : (d - e) + excess e ds ≡ 0 = is in let le : e ≤ d = all 0 d refl in
    ap₂ (λ (a : ℕ) (l : List ℕ). a ∷ l) (omega (arith, is', le)) (none_shared e ds (λ k. all (suc k)) (omega (arith, is')))

-- if no cell is out, all cells are in
pub none_missing : (cells : Cells) → missing cells ≡ 0 → (xs : List ℤ) × (cells ≡ ins xs)
none_missing [] e = ([], refl)
none_missing (Some x ∷ cells) e = let rest = none_missing cells e in (x ∷ rest.0, ap (λ (l : Cells). Some x ∷ l) rest.1)
none_missing (None ∷ cells) e = let e' : suc (missing cells) ≡ 0 = e in absurd (omega (arith, e'))

-- a new block satisfies `Counts`
pub counts_of : (xs : List ℤ) (n d : ℕ) (cells : Cells) (rights : List ℕ) (base : ℕ) → n ≡ length xs → n < 2 ^ 60
    → cells ≡ ins xs → rights ≡ replicate n d → base ≡ d → Counts cells rights base 0
counts_of xs n d cells rights base many few are alike same =
    let long = ap length are ∙ length_ins xs in
    let none : excess base rights ≡ 0 = ap₂ (λ (e : ℕ) (ds : List ℕ). excess e ds) same alike ∙ excess_alike n d in
    let all : AtLeast base rights = λ k v is. let le = at_least_alike n d k v (ap (λ (ds : List ℕ). slice_get ds k) (sym alike) ∙ is) in omega (arith, le, same) in
    let z : 0 ≡ missing cells + 0 = omega (arith, ap missing are, missing_ins xs) in
    record {
      few = omega (arith, long, many, few);
      as_many = ap length alike ∙ length-replicate n d ∙ many ∙ sym long;
      least = all;
      shared = 0;
      is = z;
      counted = inl (sym none, omega arith);
    }

module _ (cells cells' : Cells) (rights rights' : List ℕ) (base base' out : ℕ) (c : Counts cells rights base out) (same : base' ≡ base) where
  -- the count of shared cells stays if the rights stay
  shared_still : (out' : ℕ) → rights' ≡ rights → length cells' ≡ length cells → out' ≡ missing cells' + c.shared → Counts cells' rights' base' out'
  shared_still out' alike long is =
      record {
        few = omega (arith, c.few, long);
        as_many = ap length alike ∙ c.as_many ∙ sym long;
        least = λ k v at. let le = c.least k v (ap (λ (ds : List ℕ). slice_get ds k) (sym alike) ∙ at) in omega (arith, le, same);
        shared = c.shared;
        is = is;
        counted = subst (λ (e : ℕ). IsCount e c.shared) (sym (ap₂ (λ (e : ℕ) (ds : List ℕ). excess e ds) same alike)) c.counted;
      }

  pub counts_set : (i : ℕ) (x : ℤ) → cells' ≡ slice_set cells i (Some x) → rights' ≡ rights → IsIn cells i → Counts cells' rights' base' out
  counts_set i x are alike there =
      shared_still out alike (ap length are ∙ length-set cells i (Some x)) (let m = ap missing are ∙ missing_set cells i x there in omega (arith, m, c.is))

  pub counts_lent : (from n : ℕ) (xs : List ℤ) → cells' ≡ patched from (outs (length xs)) cells → rights' ≡ rights → n ≡ length xs
      → from + length xs ≤ length cells → Have cells from xs → Counts cells' rights' base' (out + n)
  counts_lent from n xs are alike many fits has =
      shared_still (out + n) alike (ap length are ∙ length_patched from (outs (length xs)) cells (omega (arith, fits, length_outs (length xs))))
      (let m = ap missing are ∙ missing_lent cells from xs has fits in omega (arith, m, c.is, many))

  pub counts_back : (from n : ℕ) (xs : List ℤ) → cells' ≡ patched from (ins xs) cells → rights' ≡ rights → n ≡ length xs
      → from + length xs ≤ length cells → AreOut cells from (length xs) → Counts cells' rights' base' (out - n)
  counts_back from n xs are alike many fits gone =
      shared_still (out - n) alike (ap length are ∙ length_patched from (ins xs) cells (omega (arith, fits, length_ins xs)))
      (let m = missing_back cells from xs gone fits in let now = ap missing are in omega (arith, m, now, c.is, many))

  -- sharing or merging cells once more changes the count of shared cells accordingly
  shared_so : (from n v out' : ℕ) → cells' ≡ cells → rights' ≡ patched from (replicate n v) rights → from + n ≤ length cells → (0 < n → base ≤ v)
      → (s : ℕ) × (out' ≡ missing cells + s) × IsCount (excess base (patched from (replicate n v) rights)) s → Counts cells' rights' base' out'
  shared_so from n v out' are now fits least is =
      let within : from + n ≤ length rights = omega (arith, fits, c.as_many) in
      let long : length (patched from (replicate n v) rights) ≡ length rights = length_patched from (replicate n v) rights (omega (arith, within, length-replicate n v)) in
      record {
        few = omega (arith, c.few, ap length are);
        as_many = ap length now ∙ long ∙ c.as_many ∙ sym (ap length are);
        least = λ k w at. let le = at_least base from n v rights within least c.least k w (ap (λ (ds : List ℕ). slice_get ds k) (sym now) ∙ at) in omega (arith, le, same);
        shared = is.0;
        is = is.1 ∙ ap (λ (l : Cells). missing l + is.0) (sym are);
        counted = subst (λ (e : ℕ). IsCount e is.0) (sym (ap₂ (λ (e : ℕ) (ds : List ℕ). excess e ds) same now)) is.2;
      }

  few_missing : missing cells < 2 ^ 60
  few_missing = let le = missing_within cells in omega (arith, le, c.few)

  pub least_of : (from n d : ℕ) → AreHalved rights from n d → 0 < n → base ≤ d
  least_of from n d are some = c.least (from + 0) d (are 0 some)

  pub counts_shared : (from n d out' : ℕ) → cells' ≡ cells → rights' ≡ patched from (replicate n (suc d)) rights → from + n ≤ length cells
      → AreHalved rights from n d → CountsMore out n out' → Counts cells' rights' base' out'
  counts_shared from n d out' are now fits alike more =
      let le = least_of from n d alike in let within : from + n ≤ length rights = omega (arith, fits, c.as_many) in
      let is = more (missing cells) (excess base rights) c.shared few_missing c.is c.counted in
      shared_so from n (suc d) out' are now fits (λ some. let here : base ≤ d = le some in omega (arith, here))
      (is.0, is.1, subst (λ (e : ℕ). IsCount e is.0) (sym (excess_shared base from n d rights within le alike)) is.2)

  pub counts_merged : (from n d out' : ℕ) → cells' ≡ cells → rights' ≡ patched from (replicate n d) rights → from + n ≤ length cells
      → AreHalved rights from n (suc d) → (0 < n → base ≤ d) → CountsLess out n out' → Counts cells' rights' base' out'
  counts_merged from n d out' are now fits alike le less =
      let within : from + n ≤ length rights = omega (arith, fits, c.as_many) in
      let is = less (missing cells) (excess base (patched from (replicate n d) rights)) c.shared few_missing c.is
      (subst (λ (e : ℕ). IsCount e c.shared) (excess_merged base from n d rights within le alike) c.counted) in
      shared_so from n d out' are now fits le is

-- the count covers the shared cells, unless it is stuck
pub counted_there : (base from n d out : ℕ) (cells : Cells) (rights : List ℕ) → Counts cells rights base out → from + n ≤ length cells
    → AreHalved rights from n (suc d) → (0 < n → base ≤ d) → out < 2 ^ 63 → n ≤ out
counted_there base from n d out cells rights c fits alike le small = by c.counted
  where
    by : IsCount (excess base rights) c.shared → n ≤ out
    by (inl e) =
        let within : from + n ≤ length rights = omega (arith, fits, c.as_many) in
        let more = excess_merged base from n d rights within le alike in omega (arith, c.is, e.0, more)
    by (inr stuck) = absurd (omega (arith, c.is, stuck.0, small))

-- adding the cells to be lent to `out` does not overflow
pub lent_fits : (base n out : ℕ) (cells : Cells) (rights : List ℕ) → Counts cells rights base out → n < 2 ^ 60 → out + n < 2 ^ 64
lent_fits base n out cells rights c few = by c.counted
  where
    le : missing cells ≤ length cells
    le = missing_within cells

    by : IsCount (excess base rights) c.shared → out + n < 2 ^ 64
    by (inl e) = omega (arith, c.is, e.1, le, c.few, few)
    by (inr stuck) = omega (arith, c.is, stuck.1, le, c.few, few)

-- if `out` is 0, no cell is lent and no share is out
pub all_own : (base : ℕ) (cells : Cells) (rights : List ℕ) → Counts cells rights base 0 → (missing cells ≡ 0) × (rights ≡ replicate (length cells) base)
all_own base cells rights c = (omega (arith, c.is), by c.counted)
  where
    by : IsCount (excess base rights) c.shared → rights ≡ replicate (length cells) base
    by (inl e) = none_shared base rights c.least (omega (arith, c.is, e.0)) ∙ ap (λ (k : ℕ). replicate k base) c.as_many
    by (inr stuck) = absurd (omega (arith, c.is, stuck.0))

-- a place that is in is marked, and reading it returns its number
marked : (cells : Cells) (i : ℕ) → IsIn cells i → slice_index_or (marks cells) i false ≡ true
marked [] i is = absurd (none-some (Some is.0) is.1)
marked (Some x ∷ cells) zero is = refl
marked (None ∷ cells) zero is = absurd (none-some is.0 (same_Some None (Some is.0) is.1))
marked (Some x ∷ cells) (suc i) is = marked cells i is
marked (None ∷ cells) (suc i) is = marked cells i is

pub reads : (cells : Cells) (i n : ℕ) (bs : List Bool) → IsIn cells i → n ≡ length cells → bs ≡ marks cells → (i < n) × IsTrue (slice_index_or bs i false)
reads cells i n bs is many are = (omega (arith, many, slice_get_within cells i (Some is.0) is.1), ap (λ (l : List Bool). slice_index_or l i false) are ∙ marked cells i is)

pub read_at : (cells : Cells) (i : ℕ) (r : ℤ) → IsIn cells i → r ≡ slice_index_or (numbers cells) i r → slice_get cells i ≡ Some (Some r)
read_at [] i r is e = absurd (none-some (Some is.0) is.1)
read_at (Some x ∷ cells) zero r is e = ap (λ (z : ℤ). Some (Some z)) (sym e)
read_at (None ∷ cells) zero r is e = absurd (none-some is.0 (same_Some None (Some is.0) is.1))
read_at (Some x ∷ cells) (suc i) r is e = read_at cells i r is e
read_at (None ∷ cells) (suc i) r is e = read_at cells i r is e
