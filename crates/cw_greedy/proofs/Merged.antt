-- Codes that are equal after merging.
use Rattle.std.specs.Prelude.{ℕ, zero, suc, ◌+◌, ◌≡◌, true, false, List, [], ◌∷◌, ◌++◌, refl}
use Rattle.std.proofs.Common.{arith, ap, sym, ◌∙◌}
use Rattle.std.proofs.lemmas.List.{append_assoc}
use Rattle.cw_model.specs.Trees.{Event, Work, Series, Join, parts_of, tree_of}
use Rattle.cw_model.specs.Trees as e
use Rattle.cw_greedy.specs.declared.code.Code.{Code}
use Rattle.cw_greedy.specs.declared.code.Code.TheVariants.{Instructions, Spawned, Ended, Joined, Called}
use Rattle.cw_greedy.specs.Records.{instructions_before, merged}
use Rattle.cw_greedy.specs.Blocks.{InSeries, AsChild, AsRest, codes_of, record_of, out_after}
use Rattle.cw_greedy.specs.Merging.{onto, Same, to_join}

pub merged_is : (codes : List Code) → merged codes ≡ onto codes []
merged_is [] = refl
merged_is (Instructions n ∷ codes) = ap (instructions_before n) (merged_is codes)
merged_is (Spawned first ∷ codes) = ap (λ (l : List Code). Spawned first ∷ l) (merged_is codes)
merged_is (Ended ∷ codes) = ap (λ (l : List Code). Ended ∷ l) (merged_is codes)
merged_is (Joined ∷ codes) = ap (λ (l : List Code). Joined ∷ l) (merged_is codes)
merged_is (Called ∷ codes) = ap (λ (l : List Code). Called ∷ l) (merged_is codes)

pub same_merged : (xs ys : List Code) → Same xs ys → merged xs ≡ merged ys
same_merged xs ys h = merged_is xs ∙ h [] ∙ sym (merged_is ys)

pub onto-append : (xs ys later : List Code) → onto (xs ++ ys) later ≡ onto xs (onto ys later)
onto-append [] ys later = refl
onto-append (Instructions n ∷ xs) ys later = ap (instructions_before n) (onto-append xs ys later)
onto-append (Spawned first ∷ xs) ys later = ap (λ (l : List Code). Spawned first ∷ l) (onto-append xs ys later)
onto-append (Ended ∷ xs) ys later = ap (λ (l : List Code). Ended ∷ l) (onto-append xs ys later)
onto-append (Joined ∷ xs) ys later = ap (λ (l : List Code). Joined ∷ l) (onto-append xs ys later)
onto-append (Called ∷ xs) ys later = ap (λ (l : List Code). Called ∷ l) (onto-append xs ys later)

-- instructions added twice are added once as their sum
pub instructions_twice : (j k : ℕ) (codes : List Code) → instructions_before j (instructions_before k codes) ≡ instructions_before (j + k) codes
instructions_twice zero k codes = let e : k ≡ 0 + k = omega arith in ap (λ (n : ℕ). instructions_before n codes) e
instructions_twice (suc j) zero codes = let e : suc j ≡ suc j + 0 = omega arith in ap (λ (n : ℕ). instructions_before n codes) e
instructions_twice (suc j) (suc k) [] =
    let e : suc (j + suc k) ≡ suc j + suc k = omega arith in ap (λ (m : ℕ). Instructions m ∷ []) (sym e) ∙ ap (λ (m : ℕ). instructions_before m []) e
instructions_twice (suc j) (suc k) (Instructions n ∷ codes) =
    let e : suc (j + suc k) ≡ suc j + suc k = omega arith in
    let same : suc j + (suc k + n) ≡ suc (j + suc k) + n = omega arith in
    ap (λ (m : ℕ). Instructions m ∷ codes) same ∙ ap (λ (m : ℕ). instructions_before m (Instructions n ∷ codes)) e
instructions_twice (suc j) (suc k) (Spawned first ∷ codes) =
    let e : suc (j + suc k) ≡ suc j + suc k = omega arith in ap (λ (m : ℕ). Instructions m ∷ Spawned first ∷ codes) (sym e) ∙ ap (λ (m : ℕ). instructions_before m (Spawned first ∷ codes)) e
instructions_twice (suc j) (suc k) (Ended ∷ codes) =
    let e : suc (j + suc k) ≡ suc j + suc k = omega arith in ap (λ (m : ℕ). Instructions m ∷ Ended ∷ codes) (sym e) ∙ ap (λ (m : ℕ). instructions_before m (Ended ∷ codes)) e
instructions_twice (suc j) (suc k) (Joined ∷ codes) =
    let e : suc (j + suc k) ≡ suc j + suc k = omega arith in ap (λ (m : ℕ). Instructions m ∷ Joined ∷ codes) (sym e) ∙ ap (λ (m : ℕ). instructions_before m (Joined ∷ codes)) e
instructions_twice (suc j) (suc k) (Called ∷ codes) =
    let e : suc (j + suc k) ≡ suc j + suc k = omega arith in ap (λ (m : ℕ). Instructions m ∷ Called ∷ codes) (sym e) ∙ ap (λ (m : ℕ). instructions_before m (Called ∷ codes)) e

-- equal codes stay equal after the same codes
pub same_after : (a xs ys : List Code) → Same xs ys → Same (a ++ xs) (a ++ ys)
same_after a xs ys h = λ later. onto-append a xs later ∙ ap (onto a) (h later) ∙ sym (onto-append a ys later)

pub same_before : (xs ys b : List Code) → Same xs ys → Same (xs ++ b) (ys ++ b)
same_before xs ys b h = λ later. onto-append xs b later ∙ h (onto b later) ∙ sym (onto-append ys b later)

-- concatenations of equal codes are equal
pub same_both : (a b c d : List Code) → Same a b → Same c d → Same (a ++ c) (b ++ d)
same_both a b c d h k = λ later. onto-append a c later ∙ h (onto c later) ∙ ap (onto b) (k later) ∙ sym (onto-append b d later)

pub same_through : (a b c : List Code) → Same a b → Same b c → Same a c
same_through a b c h k = λ later. h later ∙ k later

pub nothing_behind : (a : List Code) → Same (a ++ Instructions 0 ∷ []) a
nothing_behind a = λ later. onto-append a (Instructions 0 ∷ []) later

behind : (a xs ys zs ws : List Code) → Same (xs ++ ys) (zs ++ ws) → Same ((a ++ xs) ++ ys) ((a ++ zs) ++ ws)
behind a xs ys zs ws h =
    λ later.
    onto-append (a ++ xs) ys later ∙ onto-append a xs (onto ys later)
    ∙ ap (onto a) (sym (onto-append xs ys later) ∙ h later ∙ onto-append zs ws later)
    ∙ sym (onto-append a zs (onto ws later)) ∙ sym (onto-append (a ++ zs) ws later)

mutual
  of_free : (es : List Event) → Same (record_of false es ++ to_join (out_after false es)) (codes_of InSeries (parts_of es).0 ++ codes_of InSeries (parts_of es).1)
  of_free [] = λ later. refl
  of_free (Work k ∷ es) = λ later. ap (instructions_before k) (of_free es later)
  of_free (Series t ∷ es) = behind (codes_of InSeries t) (record_of false es) (to_join (out_after false es)) (codes_of InSeries (parts_of es).0) (codes_of InSeries (parts_of es).1) (of_free es)
  of_free (e.Fork t ∷ es) =
      let child = codes_of AsChild t in
      let rest = codes_of AsRest (parts_of es).0 in
      let more = codes_of InSeries (parts_of es).1 in
      λ later. ap (λ (l : List Code). Spawned true ∷ l)
      (behind child (Ended ∷ record_of true es) (to_join (out_after true es)) (Ended ∷ (rest ++ Joined ∷ [])) more
      (λ later. ap (λ (l : List Code). Ended ∷ l) (of_out es later ∙ ap (λ l. onto l later) (sym (append_assoc rest (Joined ∷ []) more)))) later)
  of_free (Join ∷ es) = λ later. of_free es later

  of_out : (es : List Event) → Same (record_of true es ++ to_join (out_after true es)) (codes_of AsRest (parts_of es).0 ++ Joined ∷ codes_of InSeries (parts_of es).1)
  of_out [] = λ later. refl
  of_out (Work k ∷ es) = λ later. ap (instructions_before k) (of_out es later)
  of_out (Series t ∷ es) = behind (codes_of InSeries t) (record_of true es) (to_join (out_after true es)) (codes_of AsRest (parts_of es).0) (Joined ∷ codes_of InSeries (parts_of es).1) (of_out es)
  of_out (e.Fork t ∷ es) =
      let child = codes_of AsChild t in
      let rest = codes_of AsRest (parts_of es).0 in
      let more = codes_of InSeries (parts_of es).1 in
      λ later. ap (λ (l : List Code). Spawned false ∷ l)
      (behind child (Ended ∷ record_of true es) (to_join (out_after true es)) (Ended ∷ rest) (Joined ∷ more)
      (λ later. ap (λ (l : List Code). Ended ∷ l) (of_out es later)) later)
  of_out (Join ∷ es) = λ later. ap (λ (l : List Code). Joined ∷ l) (of_free es later)

-- the codes of a block, with its join if a child is not joined, are the codes of its tree
pub of_tree : (es : List Event) → Same (record_of false es ++ to_join (out_after false es)) (codes_of InSeries (tree_of es))
of_tree es = of_free es
