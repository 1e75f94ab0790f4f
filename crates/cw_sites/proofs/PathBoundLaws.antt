-- Paths are within their bounds.
use Rattle.std.specs.Prelude.{◌≡◌, ℕ, ◌+◌, ◌*◌, ◌≤◌, List, [], ◌∷◌, ◌++◌, length, refl}
use Rattle.std.proofs.Common.{sym, ◌∙◌, ap, subst, arith}
use Rattle.cw_sites.specs.declared.steps.Steps.{Steps}
use Rattle.cw_sites.specs.declared.paths.ForkedBlock.{ForkedBlock}
use Rattle.cw_sites.specs.declared.paths.Paths.{Paths}
use Rattle.cw_sites.specs.Compacting.{IsAddedUp, AddsUpWithin}
use Rattle.cw_sites.specs.StepSums.{upto, AllBelow, IsClosedUp, StaysBelow}
use Rattle.cw_sites.specs.StepLists.{InOrder, IsWithinLimit, LaidFrom, Laid, Gathers, KeepsBlocks, SaysTheSame}
use Rattle.cw_sites.specs.PathBounds.{most_steps, IsShortBlock, AreShort, IsBoundedBy, IsTight, IsTightWith, KeepsLimit}
use Rattle.std.proofs.Math.Nat.{mul-add}
use Rattle.cw_sites.specs.Laws.{PathsAreFew}
use Rattle.cw_sites.proofs.PathLaws.{laid_with, kept_path, kept_laid_from, added_up}
use Rattle.cw_sites.proofs.StepSumLaws.{upto-mono}

pub short_push : (n : ℕ) (fs : List ForkedBlock) (f : ForkedBlock) → AreShort n fs → IsShortBlock n f → AreShort n (fs ++ f ∷ [])
short_push n [] f h s = (s, tt)
short_push n (g ∷ fs) f h s = (h.0, short_push n fs f h.1 s)

pub short_pop : (n : ℕ) (fs : List ForkedBlock) (f : ForkedBlock) → AreShort n (fs ++ f ∷ []) → AreShort n fs × IsShortBlock n f
short_pop n [] f h = (tt, h.0)
short_pop n (g ∷ fs) f h = let i = short_pop n fs f h.1 in ((h.0, i.0), i.1)

pub short_pushed : (n : ℕ) (fs fs' : List ForkedBlock) (f : ForkedBlock) → fs' ≡ fs ++ f ∷ [] → AreShort n fs → IsShortBlock n f → AreShort n fs'
short_pushed n fs fs' f e h s = subst (AreShort n) (sym e) (short_push n fs f h s)

-- a larger bound
pub looser : (room room' most : ℕ) (paths : Paths) → room ≤ room' → IsBoundedBy room most paths → IsBoundedBy room' most paths
looser room room' most paths le h = let n = h.now in record { laid = h.laid; sites = h.sites; limit = h.limit; blocks = h.blocks; now = omega arith }

-- a path within its limit satisfies the bound after a step
pub tight_within : (room most : ℕ) (paths : Paths) → IsWithinLimit paths → IsBoundedBy room most paths → IsTight most paths
tight_within room most paths le h = let l = h.limit in record { laid = h.laid; sites = h.sites; limit = h.limit; blocks = h.blocks; now = omega arith }

-- a block that is taken out of the list
pub tight_with : (most : ℕ) (r r' : Paths) (f : ForkedBlock) → r.blocks.items ≡ r'.blocks.items ++ f ∷ [] → r'.start ≡ r.start
    → r'.steps.items ≡ r.steps.items → r'.limit ≡ r.limit → IsTight most r → IsTightWith most r' f
tight_with most r r' f e start steps limit h =
    let p = short_pop (most_steps most + 1) r'.blocks.items f (subst (AreShort (most_steps most + 1)) e h.blocks) in
    let n = h.now in let l = h.limit in
    let k = ap length steps in
    record {
      laid = laid_with r r' f e start steps h.laid;
      sites = subst (AllBelow most) (sym steps) h.sites;
      limit = omega arith;
      blocks = p.0;
      block = p.1;
      now = omega arith;
    }

-- the base of a block without steps after it, and after a part was removed and the rest merged
pub gathers_none : (steps : List Steps) (f : ForkedBlock) → InOrder f → f.mid ≡ f.child → Gathers steps steps f f.mid
gathers_none steps f o e =
    let o0 = o.0 in let o1 = o.1 in let o2 = o.2 in
    record {
      from = o0;
      count_is = omega arith;
      below = λ q n h. refl;
      base = λ q fits. let k : f.end ≡ f.child = omega arith in let a = ap (upto q steps) k in omega arith;
      child = λ q. let a = ap (upto q steps) e in omega arith;
    }

pub gathers_closed : (steps steps' : List Steps) (f : ForkedBlock) (mid : ℕ) → InOrder f → f.child ≤ length steps → IsClosedUp f.mid f.end f.child steps steps' mid → Gathers steps steps' f mid
gathers_closed steps steps' f mid o l h =
    let o0 = o.0 in let o1 = o.1 in let o2 = o.2 in
    let m = h.mid_is in let n = h.count_is in
    record {
      from = omega arith;
      count_is = omega arith;
      below = λ q n k. h.below q n (omega arith);
      base = λ q fits. h.first q;
      child = h.last;
    }

pub gathers_added : (steps closed new : List Steps) (f : ForkedBlock) (mid end : ℕ) → InOrder f → Gathers steps closed f mid → IsAddedUp f.from mid closed new end → Gathers steps new f end
gathers_added steps closed new f mid end o g h =
    let o0 = o.0 in let o1 = o.1 in let o2 = o.2 in
    let n = g.count_is in let m = h.count_is in
    record {
      from = h.from_is;
      count_is = omega arith;
      below = λ q n k. h.below q n k ∙ g.below q n k;
      base = λ q fits.
          let a = g.base q fits in
          let b = g.below q f.from (omega arith) in
          let m1 = upto-mono q steps f.from f.mid o0 in
          let m2 = upto-mono q steps f.end f.child o2 in
          let c = h.same q (omega arith) in
          omega arith;
      child = λ q. let a = g.child q in let b = h.last q in omega arith;
    }

-- the current path was merged
pub shortened_laid : (old new : Paths) (len end : ℕ) → len ≡ length old.steps.items → AddsUpWithin old.start len old.steps.items new.steps.items end → KeepsBlocks old new → Laid old → Laid new
shortened_laid old new len end e all k laid =
    let st = laid.start in
    let h = all (omega arith) (omega arith) in
    let n = h.count_is in let f = h.from_is in let z = k.start in
    record { blocks = kept_laid_from old new k laid.blocks; start = omega arith }

pub shortened_path : (old new : Paths) (len end : ℕ) → len ≡ length old.steps.items → AddsUpWithin old.start len old.steps.items new.steps.items end → KeepsBlocks old new → SaysTheSame old new
shortened_path old new len end e all k laid q fits =
    let P : ℕ → Type 0 = λ n. AddsUpWithin old.start n old.steps.items new.steps.items end in
    let all' : AddsUpWithin old.start (length old.steps.items) old.steps.items new.steps.items end = subst P e all in
    kept_path q old new k
    ∙ added_up q old.steps.items new.steps.items old.weight old.start end old.blocks.items (all' laid.start (omega arith)) laid.start laid.blocks fits

pub shortened_bounded : (room most : ℕ) (old new : Paths) (len end : ℕ) → len ≡ length old.steps.items
    → AddsUpWithin old.start len old.steps.items new.steps.items end → end ≤ old.start + new.limit → StaysBelow old.steps.items new.steps.items
    → KeepsLimit old new → KeepsBlocks old new → IsBoundedBy room most old → IsBoundedBy (most_steps most) most new
shortened_bounded room most old new len end e all short kept limit k b =
    let st = b.laid.start in
    let h = all (omega arith) (omega arith) in
    let n = h.count_is in let z = k.start in
    let l = limit most b.sites b.limit in
    record {
      laid = shortened_laid old new len end e all k b.laid;
      sites = kept most b.sites;
      limit = l;
      blocks = subst (AreShort (most_steps most + 1)) (sym k.blocks) b.blocks;
      now = omega arith;
    }

-- the paths of the open blocks are consecutive
few_from : (n lo hi : ℕ) (fs : List ForkedBlock) → LaidFrom lo fs hi → AreShort n fs → hi ≤ lo + n * (3 * length fs)
few_from n lo hi [] h s = omega arith
few_from n lo hi (f ∷ fs) h s =
    let i = few_from n f.child hi fs h.2 s.1 in
    let a = h.0 in let b = s.0.0 in let c = s.0.1 in let d = s.0.2 in
    let e : 3 * length (f ∷ fs) ≡ 3 * length fs + 3 = omega arith in
    let g = ap (λ (x : ℕ). n * x) e in
    let k = mul-add n (3 * length fs) 3 in
    omega arith

pub paths_are_few : PathsAreFew
paths_are_few most table h =
    let b = h.paths in
    let a = few_from (most_steps most + 1) 0 table.paths.start table.paths.blocks.items b.laid.blocks b.blocks in
    let n = b.now in
    let k = mul-add (most_steps most + 1) (3 * length table.paths.blocks.items) 2 in
    omega arith
