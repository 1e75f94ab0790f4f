-- A row with cells out, and the right to its cells, are split and joined. Assumes `Logic`.
use Rattle.std.proofs.Common.{◌≡◌, ℕ, ◌+◌, ◌-◌, ◌*◌, ◌^◌, ◌≤◌, ℤ, [], ◌∷◌, ◌++◌, List, length, take, drop as drop_l, replicate}
use Rattle.std.proofs.Common.{Option, Some, None, slice_get, slice_set, refl, sym, ap, ◌∙◌, subst, arith}
use Prim.Native.Nat.{zero, suc}
use lib.ListN.{length-drop, length-replicate, take-append-drop}
use Rattle.std.proofs.lemmas.Option.{slice_get_within}
use lib.Seq.{length-take-le, drop-drop}
use seplogic.Ra.Ura.{Ura}
use base.Fraction.{full_share}
use base.Share.{halves as two_halves}
use base.Logic.{SProp, ent, sep, emp, emp∗, snd∗, id⊢, never_e}
use base.Fml.{Fml, ftrue, fsep, fat, froom}
use mir.Val.{Val}
use types.Logic.{Logic, sem}
use types.Share.{PartsLaws}
use types.Kit.{‵, ◌⊛◌, some, given, ◌$◌, ◌∵◌, !, qed, move, keep, drop, use0, use1, use2, split, fsplit, fjoin, flt_l, flt_i, rewrite, pick, learn, by, frame, done}
use mir.Syntax.{w64}
use denote.Builtin.{i64}
use denote.Laws.{Is, shows}
use denote.Memory.{part_at, mem, shares, share_laws}
use denote.Signed.{sint_vals, sint_Tells, sint_copy}
use denote.RawPtr.{Ptr, block_ptr, null_ptr, ◌+ₚ◌}
use denote.Index.{place, place_is}
use Rattle.core.proofs.mem.Param.{elτ, Good}
use Rattle.core.proofs.slice.Rows.{el_out, el_in}
use Rattle.core.specs.Mem.Slots.Ownership.{slots}
use Rattle.cw_slices.specs.OwnedMemory.{halves, part_of_slots, held}
use Rattle.cw_slices.specs.Memory.{span_owned, cell_owned, cells_in, kept_owned}
use Rattle.cw_slices.specs.Blocks.{ins, outs, patched, marks, Have, AreHalved}
use Rattle.cw_slices.specs.lemmas.Patches.{middle, alike_middle, length_patched, length_ins, at_place, set_place}
use Rattle.cw_slices.proofs.Runs.{number}

module _ {M : Type 1} {𝓤 : Ura M} (𝓛 : Logic 𝓤) where
  open 𝓛 use {H}

  abbrev ⟦◌⟧ : Fml → SProp 𝓤
  ⟦ P ⟧ = sem 𝓛 P

  abbrev row : ℕ → ℕ → List (Option ℤ) → List ℕ → Fml
  row b o cs ds = cells_in (block_ptr b o) cs ds

  cut_at : (b : ℕ) (hs cs : List (Option ℤ)) (gs ds : List ℕ) (o : ℕ) → length gs ≡ length hs
      → ent 𝓤 ⟦ row b o (hs ++ cs) (gs ++ ds) ⟧ (sep 𝓤 ⟦ row b o hs gs ⟧ ⟦ row b (place 8 o (length hs)) cs ds ⟧)
  cut_at b [] cs [] ds o e = emp∗ 𝓤 ⟦ row b o cs ds ⟧
  cut_at b [] cs (g ∷ gs) ds o e = let e' : suc (length gs) ≡ 0 = e in absurd (omega (arith, e'))
  cut_at b (a ∷ hs) cs [] ds o e = let e' : 0 ≡ suc (length hs) = e in absurd (omega (arith, e'))
  cut_at b (a ∷ hs) cs (g ∷ gs) ds o e =
      let e' : suc (length gs) ≡ suc (length hs) = e in
      qed 𝓛 (‵ (cell_owned (block_ptr b o) a g) ∷ ‵ (row b (o + 8) (hs ++ cs) (gs ++ ds)) ∷ []) ∵ move ! (1 ∷ []) $
      use1 𝓛 (‵ (row b (o + 8) hs gs) ⊛ ‵ (row b (place 8 (o + 8) (length hs)) cs ds)) (cut_at b hs cs gs ds (o + 8) (omega (arith, e'))) $ split ! $ move ! (2 ∷ 0 ∷ []) $ fjoin ! $ done !

  glue_at : (b : ℕ) (hs cs : List (Option ℤ)) (gs ds : List ℕ) (o : ℕ) → length gs ≡ length hs
      → ent 𝓤 (sep 𝓤 ⟦ row b o hs gs ⟧ ⟦ row b (place 8 o (length hs)) cs ds ⟧) ⟦ row b o (hs ++ cs) (gs ++ ds) ⟧
  glue_at b [] cs [] ds o e = snd∗ 𝓤 (emp 𝓤) ⟦ row b o cs ds ⟧
  glue_at b [] cs (g ∷ gs) ds o e = let e' : suc (length gs) ≡ 0 = e in absurd (omega (arith, e'))
  glue_at b (a ∷ hs) cs [] ds o e = let e' : 0 ≡ suc (length hs) = e in absurd (omega (arith, e'))
  glue_at b (a ∷ hs) cs (g ∷ gs) ds o e =
      let e' : suc (length gs) ≡ suc (length hs) = e in
      qed 𝓛 (‵ (row b o (a ∷ hs) (g ∷ gs)) ∷ ‵ (row b (place 8 (o + 8) (length hs)) cs ds) ∷ []) ∵ fsplit ! $ frame ! $ by ! (glue_at b hs cs gs ds (o + 8) (omega (arith, e')))

  module _ (b : ℕ) (hs cs : List (Option ℤ)) (gs ds : List ℕ) (o at : ℕ) (e : length gs ≡ length hs) (is : at ≡ length hs * 8 + o) where
    pub cut : ent 𝓤 ⟦ row b o (hs ++ cs) (gs ++ ds) ⟧ (sep 𝓤 ⟦ row b o hs gs ⟧ ⟦ row b at cs ds ⟧)
    cut = subst (λ (k : ℕ). ent 𝓤 ⟦ row b o (hs ++ cs) (gs ++ ds) ⟧ (sep 𝓤 ⟦ row b o hs gs ⟧ ⟦ row b k cs ds ⟧)) (place_is 8 o (length hs) ∙ sym is) (cut_at b hs cs gs ds o e)

    pub glue : ent 𝓤 (sep 𝓤 ⟦ row b o hs gs ⟧ ⟦ row b at cs ds ⟧) ⟦ row b o (hs ++ cs) (gs ++ ds) ⟧
    glue = subst (λ (k : ℕ). ent 𝓤 (sep 𝓤 ⟦ row b o hs gs ⟧ ⟦ row b k cs ds ⟧) ⟦ row b o (hs ++ cs) (gs ++ ds) ⟧) (place_is 8 o (length hs) ∙ sym is) (glue_at b hs cs gs ds o e)

  -- cells that are all in, each with the same right, are a run
  abbrev pub alike : ℕ → ℕ → List ℤ → (halved : ℕ) → Fml
  alike b o xs d = row b o (ins xs) (replicate (length xs) d)

  to_own : (b o : ℕ) (xs : List ℤ) → ent 𝓤 ⟦ alike b o xs 0 ⟧ ⟦ slots i64 (block_ptr b o) xs (marks (ins xs)) ⟧
  to_own b o [] = id⊢ 𝓤 (emp 𝓤)
  to_own b o (x ∷ xs) = qed 𝓛 (‵ (cell_owned (block_ptr b o) (Some x) 0) ∷ ‵ (alike b (o + 8) xs 0) ∷ []) ∵ frame ! $ by ! (to_own b (o + 8) xs)

  of_own : (b o : ℕ) (xs : List ℤ) → ent 𝓤 ⟦ slots i64 (block_ptr b o) xs (marks (ins xs)) ⟧ ⟦ alike b o xs 0 ⟧
  of_own b o [] = id⊢ 𝓤 (emp 𝓤)
  of_own b o (x ∷ xs) = qed 𝓛 (‵ (cell_owned (block_ptr b o) (Some x) 0) ∷ ‵ (slots i64 (block_ptr b (o + 8)) xs (marks (ins xs))) ∷ []) ∵ frame ! $ by ! (of_own b (o + 8) xs)

  to_part : (b o : ℕ) (xs : List ℤ) (d : ℕ) → ent 𝓤 ⟦ alike b o xs d ⟧ ⟦ part_of_slots (halves d) (block_ptr b o) xs (marks (ins xs)) ⟧
  to_part b o [] d = id⊢ 𝓤 (emp 𝓤)
  to_part b o (x ∷ xs) d = qed 𝓛 (‵ (cell_owned (block_ptr b o) (Some x) d) ∷ ‵ (alike b (o + 8) xs d) ∷ []) ∵ frame ! $ by ! (to_part b (o + 8) xs d)

  of_part : (b o : ℕ) (xs : List ℤ) (d : ℕ) → ent 𝓤 ⟦ part_of_slots (halves d) (block_ptr b o) xs (marks (ins xs)) ⟧ ⟦ alike b o xs d ⟧
  of_part b o [] d = id⊢ 𝓤 (emp 𝓤)
  of_part b o (x ∷ xs) d = qed 𝓛 (‵ (cell_owned (block_ptr b o) (Some x) d) ∷ ‵ (part_of_slots (halves d) (block_ptr b (o + 8)) xs (marks (ins xs))) ∷ []) ∵ frame ! $ by ! (of_part b (o + 8) xs d)

  pub to_run : (b o : ℕ) (xs : List ℤ) (d : ℕ) → ent 𝓤 ⟦ alike b o xs d ⟧ ⟦ held d (block_ptr b o) xs (marks (ins xs)) ⟧
  to_run b o xs zero = to_own b o xs
  to_run b o xs (suc d) = to_part b o xs (suc d)

  pub of_run : (b o : ℕ) (xs : List ℤ) (d : ℕ) → ent 𝓤 ⟦ held d (block_ptr b o) xs (marks (ins xs)) ⟧ ⟦ alike b o xs d ⟧
  of_run b o xs zero = of_own b o xs
  of_run b o xs (suc d) = of_part b o xs (suc d)

  -- cells that are all out own nothing
  none_in : (b o n : ℕ) (ds : List ℕ) → ent 𝓤 (emp 𝓤) ⟦ row b o (outs n) ds ⟧
  none_in b o zero ds = id⊢ 𝓤 (emp 𝓤)
  none_in b o (suc n) [] = id⊢ 𝓤 (emp 𝓤)
  none_in b o (suc n) (d ∷ ds) = qed 𝓛 [] ∵ use0 𝓛 (‵ (row b (o + 8) (outs n) ds)) (none_in b (o + 8) n ds) $ use0 𝓛 (‵ ftrue) (id⊢ 𝓤 (emp 𝓤)) $ done !

  -- a row splits into three parts
  module _ (b o : ℕ) (first between rest : List (Option ℤ)) (before at behind : List ℕ) (mid end : ℕ)
      (e₀ : length before ≡ length first) (e₁ : length at ≡ length between) (m₀ : mid ≡ length first * 8 + o) (m₁ : end ≡ length between * 8 + mid) where
    three : ent 𝓤 ⟦ row b o (first ++ (between ++ rest)) (before ++ (at ++ behind)) ⟧ (sep 𝓤 ⟦ row b mid between at ⟧ (sep 𝓤 ⟦ row b end rest behind ⟧ ⟦ row b o first before ⟧))
    three = qed 𝓛 (‵ (row b o (first ++ (between ++ rest)) (before ++ (at ++ behind))) ∷ []) ∵
        use1 𝓛 (‵ (row b o first before) ⊛ ‵ (row b mid (between ++ rest) (at ++ behind))) (cut b first (between ++ rest) before (at ++ behind) o mid e₀ m₀) $ split ! $ move ! (1 ∷ []) $
        use1 𝓛 (‵ (row b mid between at) ⊛ ‵ (row b end rest behind)) (cut b between rest at behind mid end e₁ m₁) $ split ! $ done !

    one : ent 𝓤 (sep 𝓤 ⟦ row b mid between at ⟧ (sep 𝓤 ⟦ row b end rest behind ⟧ ⟦ row b o first before ⟧)) ⟦ row b o (first ++ (between ++ rest)) (before ++ (at ++ behind)) ⟧
    one = qed 𝓛 (‵ (row b mid between at) ∷ ‵ (row b end rest behind) ∷ ‵ (row b o first before) ∷ []) ∵
        use2 𝓛 (‵ (row b mid (between ++ rest) (at ++ behind))) (glue b between rest at behind mid end e₁ m₁) $ move ! (1 ∷ 0 ∷ []) $
        use2 𝓛 (‵ (row b o (first ++ (between ++ rest)) (before ++ (at ++ behind)))) (glue b first (between ++ rest) before (at ++ behind) o mid e₀ m₀) $ done !

  -- the right to a number is halved, and both halves are joined
  laws : PartsLaws 𝓛 (mem i64) (shares i64)
  laws = share_laws 𝓛 i64 (Is i64) (shows 𝓛 i64) (sint_vals w64) (sint_Tells w64) (sint_copy 𝓛 w64)

  halve : (b o : ℕ) (xs : List ℤ) (d : ℕ) → ent 𝓤 ⟦ alike b o xs d ⟧ (sep 𝓤 ⟦ alike b o xs (suc d) ⟧ ⟦ alike b o xs (suc d) ⟧)
  halve b o [] d = emp∗ 𝓤 (emp 𝓤)
  halve b o (x ∷ xs) d =
      let half = part_at i64 (halves (suc d)) x b o in let others = alike b (o + 8) xs (suc d) in
      qed 𝓛 (‵ (part_at i64 (halves d) x b o) ∷ ‵ (alike b (o + 8) xs d) ∷ []) ∵
      use1 𝓛 (‵ half ⊛ ‵ half) (laws.cut (halves d) (halves (suc d)) (halves (suc d)) (two_halves (halves d)) x b o) $ split ! $ move ! (2 ∷ []) $
      use1 𝓛 (‵ others ⊛ ‵ others) (halve b (o + 8) xs d) $ split ! $ move ! (2 ∷ 0 ∷ []) $ fjoin ! $ move ! (2 ∷ 1 ∷ []) $ fjoin ! $ done !

  heal : (b o : ℕ) (xs : List ℤ) (d : ℕ) → ent 𝓤 (sep 𝓤 ⟦ alike b o xs (suc d) ⟧ ⟦ alike b o xs (suc d) ⟧) ⟦ alike b o xs d ⟧
  heal b o [] d = snd∗ 𝓤 (emp 𝓤) (emp 𝓤)
  heal b o (x ∷ xs) d =
      qed 𝓛 (‵ (alike b o (x ∷ xs) (suc d)) ∷ ‵ (alike b o (x ∷ xs) (suc d)) ∷ []) ∵ fsplit ! $ move ! (2 ∷ []) $ fsplit ! $ move ! (0 ∷ 2 ∷ []) $
      use2 𝓛 (‵ (part_at i64 (halves d) x b o)) (laws.join (halves d) (halves (suc d)) (halves (suc d)) (two_halves (halves d)) x b o) $ move ! (1 ∷ 2 ∷ []) $
      use2 𝓛 (‵ (alike b (o + 8) xs d)) (heal b (o + 8) xs d) $ move ! (1 ∷ 0 ∷ []) $ fjoin ! $ done !

  module _ (from : ℕ) (xs : List ℤ) (cells : List (Option ℤ)) (ds : List ℕ) (fits : from + length xs ≤ length cells) (as_many : length ds ≡ length cells) where
    front : length (take from cells) ≡ from
    front = length-take-le from cells (omega (arith, fits))

    front_rights : length (take from ds) ≡ length (take from cells)
    front_rights = length-take-le from ds (omega (arith, fits, as_many)) ∙ sym front

    many : (d : ℕ) → length (replicate (length xs) d) ≡ length xs
    many d = length-replicate (length xs) d

    -- the rights after a patch of constant rights
    reset : (d : ℕ) → patched from (replicate (length xs) d) ds ≡ take from ds ++ (replicate (length xs) d ++ drop_l (from + length xs) ds)
    reset d = ap (λ (k : ℕ). take from ds ++ (replicate (length xs) d ++ drop_l (from + k) ds)) (many d)

    -- the cells after a patch
    refill : (new : List (Option ℤ)) → length new ≡ length xs → patched from new cells ≡ take from cells ++ (new ++ drop_l (from + length xs) cells)
    refill new e = ap (λ (k : ℕ). take from cells ++ (new ++ drop_l (from + k) cells)) e

    module _ (b o : ℕ) where
      abbrev mid : ℕ
      mid = o + from * 8

      abbrev end : ℕ
      end = o + from * 8 + length xs * 8

      abbrev parts_of : (between : List (Option ℤ)) → (d : ℕ) → Fml
      parts_of between d = row b o (take from cells ++ (between ++ drop_l (from + length xs) cells)) (take from ds ++ (replicate (length xs) d ++ drop_l (from + length xs) ds))

      apart : (between : List (Option ℤ)) (d : ℕ) → length between ≡ length xs
          → ent 𝓤 ⟦ parts_of between d ⟧ (sep 𝓤 ⟦ row b mid between (replicate (length xs) d) ⟧
          (sep 𝓤 ⟦ row b end (drop_l (from + length xs) cells) (drop_l (from + length xs) ds) ⟧ ⟦ row b o (take from cells) (take from ds) ⟧))
      apart between d e = three b o (take from cells) between (drop_l (from + length xs) cells) (take from ds) (replicate (length xs) d) (drop_l (from + length xs) ds) mid end
          front_rights (many d ∙ sym e) (omega (arith, front)) (omega (arith, e))

      together : (between : List (Option ℤ)) (d : ℕ) → length between ≡ length xs
          → ent 𝓤 (sep 𝓤 ⟦ row b mid between (replicate (length xs) d) ⟧
          (sep 𝓤 ⟦ row b end (drop_l (from + length xs) cells) (drop_l (from + length xs) ds) ⟧ ⟦ row b o (take from cells) (take from ds) ⟧)) ⟦
          parts_of between d ⟧
      together between d e = one b o (take from cells) between (drop_l (from + length xs) cells) (take from ds) (replicate (length xs) d) (drop_l (from + length xs) ds) mid end
          front_rights (many d ∙ sym e) (omega (arith, front)) (omega (arith, e))

    -- some of the cells are taken out as a run
    pub parted : (d : ℕ) (p : Ptr) → Have cells from xs → AreHalved ds from (length xs) d
        → ent 𝓤 ⟦ kept_owned p cells ds ⟧ (sep 𝓤 ⟦ kept_owned p (patched from (outs (length xs)) cells) ds ⟧ ⟦ span_owned (p +ₚ (from * 8)) xs (marks (ins xs)) d ⟧)
    parted d null_ptr has even = qed 𝓛 (‵ (kept_owned null_ptr cells ds) ∷ []) ∵ fsplit ! $ drop ! $ by ! (never_e 𝓤 _)
    parted d (block_ptr b o) has even =
        let out : length (outs (length xs)) ≡ length xs = length-replicate (length xs) None in
        let same : length (patched from (outs (length xs)) cells) ≡ length cells = length_patched from (outs (length xs)) cells (omega (arith, fits, out)) in
        let now : ds ≡ take from ds ++ (replicate (length xs) d ++ drop_l (from + length xs) ds) = alike_middle from (length xs) d ds even (omega (arith, fits, as_many)) in
        qed 𝓛 (‵ (kept_owned (block_ptr b o) cells ds) ∷ []) ∵ fsplit ! $ flt_l ! (λ small.
        rewrite ! 0 (λ l. ‵ (row b o l ds)) (middle from xs cells has fits) refl $ rewrite ! 0 (λ l. ‵ (row b o (take from cells ++ (ins xs ++ drop_l (from + length xs) cells)) l)) now refl $
        use1 𝓛 (‵ (alike b (mid b o) xs d) ⊛ (‵ (row b (end b o) (drop_l (from + length xs) cells) (drop_l (from + length xs) ds)) ⊛ ‵
        (row b o (take from cells) (take from ds)))) (apart b o (ins xs) d (length_ins xs)) $ split ! $
        use1 𝓛 (‵ (held d (block_ptr b (mid b o)) xs (marks (ins xs)))) (to_run b (mid b o) xs d) $ flt_i ! (length xs * 8) (2 ^ 63) (omega (arith, small, fits)) $ fjoin ! $ move ! (1 ∷ []) $
        -- [the others; the run]
        use0 𝓛 (‵ (row b (mid b o) (outs (length xs)) (replicate (length xs) d))) (none_in b (mid b o) (length xs) (replicate (length xs) d)) $
        use2 𝓛 (‵ (parts_of b o (outs (length xs)) d)) (together b o (outs (length xs)) d out) $
        rewrite ! 0 (λ l. ‵ (row b o (take from cells ++ (outs (length xs) ++ drop_l (from + length xs) cells)) l)) (sym now) refl $ rewrite ! 0
        (λ l. ‵ (row b o l ds)) (sym (refill (outs (length xs)) out)) refl $
        flt_i ! (length (patched from (outs (length xs)) cells) * 8) (2 ^ 63) (omega (arith, same, small)) $ fjoin ! $ done !)

    -- a run replaces some of the cells
    pub joined : (d : ℕ) (p : Ptr) → AreHalved ds from (length xs) d
        → ent 𝓤 (sep 𝓤 ⟦ kept_owned p cells ds ⟧ ⟦ span_owned (p +ₚ (from * 8)) xs (marks (ins xs)) d ⟧) ⟦ kept_owned p (patched from (ins xs) cells) ds ⟧
    joined d null_ptr even = qed 𝓛 (‵ (kept_owned null_ptr cells ds) ∷ ‵ (span_owned null_ptr xs (marks (ins xs)) d) ∷ []) ∵ fsplit ! $ drop ! $ keep ! (0 ∷ []) $ by ! (never_e 𝓤 _)
    joined d (block_ptr b o) even =
        let between = take (length xs) (drop_l from cells) in
        let back : length (drop_l from cells) ≡ length cells - from = length-drop from cells in
        let whole : length between ≡ length xs = length-take-le (length xs) (drop_l from cells) (omega (arith, back, fits)) in
        let same : length (patched from (ins xs) cells) ≡ length cells = length_patched from (ins xs) cells (omega (arith, fits, length_ins xs)) in
        let all : take from cells ++ (between ++ drop_l (from + length xs) cells) ≡ cells =
        ap (λ l. take from cells ++ (between ++ l)) (sym (drop-drop (length xs) from cells))
        ∙ ap (λ l. take from cells ++ l) (take-append-drop (length xs) (drop_l from cells)) ∙ take-append-drop from cells in
        let now : ds ≡ take from ds ++ (replicate (length xs) d ++ drop_l (from + length xs) ds) = alike_middle from (length xs) d ds even (omega (arith, fits, as_many)) in
        qed 𝓛 (‵ (kept_owned (block_ptr b o) cells ds) ∷ ‵ (span_owned (block_ptr b (mid b o)) xs (marks (ins xs)) d) ∷ []) ∵ fsplit ! $ flt_l ! (λ small.
        rewrite ! 0 (λ l. ‵ (row b o l ds)) (sym all) refl $ rewrite ! 0 (λ l. ‵ (row b o (take from cells ++ (between ++ drop_l (from + length xs) cells)) l)) now refl $
        use1 𝓛 (‵ (row b (mid b o) between (replicate (length xs) d)) ⊛
        (‵ (row b (end b o) (drop_l (from + length xs) cells) (drop_l (from + length xs) ds)) ⊛ ‵ (row b o (take from cells) (take from ds))))
        (apart b o between d whole) $ split ! $ drop ! $
        -- [the others; the run]
        move ! (1 ∷ []) $ fsplit ! $ drop ! $ use1 𝓛 (‵ (alike b (mid b o) xs d)) (of_run b (mid b o) xs d) $
        use2 𝓛 (‵ (parts_of b o (ins xs) d)) (together b o (ins xs) d (length_ins xs)) $
        rewrite ! 0 (λ l. ‵ (row b o (take from cells ++ (ins xs ++ drop_l (from + length xs) cells)) l)) (sym now) refl $ rewrite ! 0
        (λ l. ‵ (row b o l ds)) (sym (refill (ins xs) (length_ins xs))) refl $
        flt_i ! (length (patched from (ins xs) cells) * 8) (2 ^ 63) (omega (arith, same, small)) $ fjoin ! $ done !)

    -- half of the right to some of the cells is taken out
    pub halved : (d : ℕ) (p : Ptr) → Have cells from xs → AreHalved ds from (length xs) d
        → ent 𝓤 ⟦ kept_owned p cells ds ⟧ (sep 𝓤 ⟦ kept_owned p cells (patched from (replicate (length xs) (suc d)) ds) ⟧ ⟦ span_owned (p +ₚ (from * 8)) xs (marks (ins xs)) (suc d) ⟧)
    halved d null_ptr has even = qed 𝓛 (‵ (kept_owned null_ptr cells ds) ∷ []) ∵ fsplit ! $ drop ! $ by ! (never_e 𝓤 _)
    halved d (block_ptr b o) has even =
        let now : ds ≡ take from ds ++ (replicate (length xs) d ++ drop_l (from + length xs) ds) = alike_middle from (length xs) d ds even (omega (arith, fits, as_many)) in
        let all = middle from xs cells has fits in
        qed 𝓛 (‵ (kept_owned (block_ptr b o) cells ds) ∷ []) ∵ fsplit ! $ flt_l ! (λ small.
        rewrite ! 0 (λ l. ‵ (row b o l ds)) all refl $ rewrite ! 0 (λ l. ‵ (row b o (take from cells ++ (ins xs ++ drop_l (from + length xs) cells)) l)) now refl $
        use1 𝓛 (‵ (alike b (mid b o) xs d) ⊛ (‵ (row b (end b o) (drop_l (from + length xs) cells) (drop_l (from + length xs) ds)) ⊛ ‵
        (row b o (take from cells) (take from ds)))) (apart b o (ins xs) d (length_ins xs)) $ split ! $
        use1 𝓛 (‵ (alike b (mid b o) xs (suc d)) ⊛ ‵ (alike b (mid b o) xs (suc d))) (halve b (mid b o) xs d) $ split ! $
        -- [a half; the other; the other cells]
        use1 𝓛 (‵ (held (suc d) (block_ptr b (mid b o)) xs (marks (ins xs)))) (to_run b (mid b o) xs (suc d)) $ flt_i ! (length xs * 8) (2 ^ 63)
        (omega (arith, small, fits)) $ fjoin ! $ move ! (1 ∷ 2 ∷ []) $
        use2 𝓛 (‵ (parts_of b o (ins xs) (suc d))) (together b o (ins xs) (suc d) (length_ins xs)) $
        rewrite ! 0 (λ l. ‵ (row b o (take from cells ++ (ins xs ++ drop_l (from + length xs) cells)) l)) (sym (reset (suc d))) refl $ rewrite ! 0
        (λ l. ‵ (row b o l (patched from (replicate (length xs) (suc d)) ds))) (sym all) refl $
        flt_i ! (length cells * 8) (2 ^ 63) small $ fjoin ! $ done !)

    -- the other half of the right is put back
    pub healed : (d : ℕ) (p : Ptr) → Have cells from xs → AreHalved ds from (length xs) (suc d)
        → ent 𝓤 (sep 𝓤 ⟦ kept_owned p cells ds ⟧ ⟦ span_owned (p +ₚ (from * 8)) xs (marks (ins xs)) (suc d) ⟧) ⟦ kept_owned p cells (patched from (replicate (length xs) d) ds) ⟧
    healed d null_ptr has even = qed 𝓛 (‵ (kept_owned null_ptr cells ds) ∷ ‵ (span_owned null_ptr xs (marks (ins xs)) (suc d)) ∷ []) ∵ fsplit ! $ drop ! $ keep ! (0 ∷ []) $ by ! (never_e 𝓤 _)
    healed d (block_ptr b o) has even =
        let now : ds ≡ take from ds ++ (replicate (length xs) (suc d) ++ drop_l (from + length xs) ds) = alike_middle from (length xs) (suc d) ds even (omega (arith, fits, as_many)) in
        let all = middle from xs cells has fits in
        qed 𝓛 (‵ (kept_owned (block_ptr b o) cells ds) ∷ ‵ (span_owned (block_ptr b (mid b o)) xs (marks (ins xs)) (suc d)) ∷ []) ∵ fsplit ! $ flt_l ! (λ small.
        rewrite ! 0 (λ l. ‵ (row b o l ds)) all refl $ rewrite ! 0 (λ l. ‵ (row b o (take from cells ++ (ins xs ++ drop_l (from + length xs) cells)) l)) now refl $
        use1 𝓛 (‵ (alike b (mid b o) xs (suc d)) ⊛ (‵ (row b (end b o) (drop_l (from + length xs) cells) (drop_l (from + length xs) ds)) ⊛ ‵
        (row b o (take from cells) (take from ds)))) (apart b o (ins xs) (suc d) (length_ins xs)) $ split ! $
        -- [a half; the other cells; the run]
        move ! (2 ∷ []) $ fsplit ! $ drop ! $ use1 𝓛 (‵ (alike b (mid b o) xs (suc d))) (of_run b (mid b o) xs (suc d)) $
        use2 𝓛 (‵ (alike b (mid b o) xs d)) (heal b (mid b o) xs d) $
        use2 𝓛 (‵ (parts_of b o (ins xs) d)) (together b o (ins xs) d (length_ins xs)) $
        rewrite ! 0 (λ l. ‵ (row b o (take from cells ++ (ins xs ++ drop_l (from + length xs) cells)) l)) (sym (reset d)) refl $ rewrite ! 0
        (λ l. ‵ (row b o l (patched from (replicate (length xs) d) ds))) (sym all) refl $
        flt_i ! (length cells * 8) (2 ^ 63) small $ fjoin ! $ done !)

  -- a run is a row that is all in
  pub all_in : (p : Ptr) (xs : List ℤ) (d : ℕ) → ent 𝓤 ⟦ span_owned p xs (marks (ins xs)) d ⟧ ⟦ kept_owned p (ins xs) (replicate (length xs) d) ⟧
  all_in null_ptr xs d = qed 𝓛 (‵ (span_owned null_ptr xs (marks (ins xs)) d) ∷ []) ∵ fsplit ! $ drop ! $ by ! (never_e 𝓤 _)
  all_in (block_ptr b o) xs d = qed 𝓛 (‵ (span_owned (block_ptr b o) xs (marks (ins xs)) d) ∷ []) ∵ fsplit ! $ flt_l ! (λ small.
      use1 𝓛 (‵ (alike b o xs d)) (of_run b o xs d) $ flt_i ! (length (ins xs) * 8) (2 ^ 63) (omega (arith, small, length_ins xs)) $ fjoin ! $ done !)

  pub all_out : (p : Ptr) (xs : List ℤ) (d : ℕ) → ent 𝓤 ⟦ kept_owned p (ins xs) (replicate (length xs) d) ⟧ ⟦ span_owned p xs (marks (ins xs)) d ⟧
  all_out null_ptr xs d = qed 𝓛 (‵ (kept_owned null_ptr (ins xs) (replicate (length xs) d)) ∷ []) ∵ fsplit ! $ drop ! $ by ! (never_e 𝓤 _)
  all_out (block_ptr b o) xs d = qed 𝓛 (‵ (kept_owned (block_ptr b o) (ins xs) (replicate (length xs) d)) ∷ []) ∵ fsplit ! $ flt_l ! (λ small.
      use1 𝓛 (‵ (held d (block_ptr b o) xs (marks (ins xs)))) (to_run b o xs d) $ flt_i ! (length xs * 8) (2 ^ 63) (omega (arith, small, length_ins xs)) $ fjoin ! $ done !)

  -- one cell is taken out as room, and put back with another number
  module _ (b o : ℕ) (cells : List (Option ℤ)) (ds : List ℕ) (i : ℕ) where
    abbrev pub beside : Fml
    beside = fsep (row b o (take i cells) (take i ds)) (row b (i * 8 + 8 + o) (drop_l (suc i) cells) (drop_l (suc i) ds))

    module _ (x : ℤ) (is : slice_get cells i ≡ Some (Some x)) (own : slice_get ds i ≡ Some 0) where
      there : length (take i cells) ≡ i
      there = length-take-le i cells (omega (arith, slice_get_within cells i (Some x) is))

      there_too : length (take i ds) ≡ length (take i cells)
      there_too = length-take-le i ds (omega (arith, slice_get_within ds i 0 own)) ∙ sym there

      pub room_of : ent 𝓤 ⟦ row b o cells ds ⟧ (sep 𝓤 (H.room (elτ number) b (i * 8 + o)) ⟦ beside ⟧)
      room_of = qed 𝓛 (‵ (row b o cells ds) ∷ []) ∵
          rewrite ! 0 (λ l. ‵ (row b o l ds)) (at_place cells i (Some x) is) refl $ rewrite ! 0 (λ l. ‵ (row b o (take i cells ++ (Some x ∷ drop_l (suc i) cells)) l)) (at_place ds i 0 own) refl $
          use1 𝓛 (‵ (row b o (take i cells) (take i ds)) ⊛ ‵ (row b (i * 8 + o) (Some x ∷ drop_l (suc i) cells) (0 ∷ drop_l (suc i) ds)))
          (cut b (take i cells) (Some x ∷ drop_l (suc i) cells) (take i ds) (0 ∷ drop_l (suc i) ds) o (i * 8 + o) there_too (omega (arith, there))) $ split ! $ move ! (1 ∷ []) $ fsplit ! $
          use1 𝓛 (some (λ (v : Val). given (Good number v) (‵ (fat full_share (elτ number) b (i * 8 + o) v) ⊛ ‵ (i64.own_val x (v ∷ [])))))
          (el_out number 𝓛 b x (i * 8 + o)) $ pick ! (λ v. learn ! (λ tv. split ! $
          use1 𝓛 (‵ (froom (elτ number) b (i * 8 + o))) (𝓛.laws.at_room (elτ number) b (i * 8 + o) v) $ move ! (0 ∷ 2 ∷ 3 ∷ []) $ move ! (1 ∷ 2 ∷ []) $
          rewrite ! 0 (λ k. ‵ (row b k (drop_l (suc i) cells) (drop_l (suc i) ds)))
          (let e : i * 8 + o + 8 ≡ i * 8 + 8 + o = omega arith in e) refl $ move ! (1 ∷ 0 ∷ []) $ fjoin ! $ keep ! (1 ∷ 0 ∷ []) $ done !))

      pub number_in : (y : ℤ) (v : Val) → ent 𝓤 (sep 𝓤 (H.at full_share (elτ number) b (i * 8 + o) v) (sep 𝓤 ⟦ i64.own_val y (v ∷ []) ⟧ ⟦ beside ⟧)) ⟦ row b o (slice_set cells i (Some y)) ds ⟧
      number_in y v = qed 𝓛 (‵ (fat full_share (elτ number) b (i * 8 + o) v) ∷ ‵ (i64.own_val y (v ∷ [])) ∷ ‵ beside ∷ []) ∵
          use2 𝓛 (‵ (part_at i64 full_share y b (i * 8 + o))) (el_in number 𝓛 b y (i * 8 + o) v) $ move ! (1 ∷ []) $ fsplit ! $ move ! (1 ∷ []) $
          rewrite ! 0 (λ k. ‵ (row b k (drop_l (suc i) cells) (drop_l (suc i) ds)))
          (let e : i * 8 + 8 + o ≡ i * 8 + o + 8 = omega arith in e) refl $ move ! (2 ∷ 0 ∷ []) $ fjoin ! $ move ! (1 ∷ 0 ∷ []) $
          use2 𝓛 (‵ (row b o (take i cells ++ (Some y ∷ drop_l (suc i) cells)) (take i ds ++ (0 ∷ drop_l (suc i) ds))))
          (glue b (take i cells) (Some y ∷ drop_l (suc i) cells) (take i ds) (0 ∷ drop_l (suc i) ds) o (i * 8 + o) there_too (omega (arith, there))) $
          rewrite ! 0 (λ l. ‵ (row b o (take i cells ++ (Some y ∷ drop_l (suc i) cells)) l)) (sym (at_place ds i 0 own)) refl $
          rewrite ! 0 (λ l. ‵ (row b o l ds)) (sym (set_place cells i (Some y) (slice_get_within cells i (Some x) is))) refl $ done !
