-- Blocks whose paths are parts of one list.
use Rattle.std.specs.Prelude.{◌≡◌, ℕ, ◌+◌, ◌-◌, ◌<◌, ◌≤◌, ◌^◌, Bool, true, false, List, [], ◌∷◌, ◌++◌, length, take, Option, Some, None, option_map, refl}
use Rattle.std.proofs.Common.{sym, ◌∙◌, ap, subst, arith}
use Rattle.std.proofs.lemmas.List.{length-take-le}
use Rattle.cw_sites.specs.declared.steps.Steps.{Steps}
use Rattle.cw_sites.specs.declared.paths.ForkedBlock.{ForkedBlock}
use Rattle.cw_sites.specs.declared.paths.Paths.{Paths}
use Rattle.cw_sites.specs.ChosenPaths.{Path, nowhere, plus, best, steps_of}
use Rattle.cw_sites.specs.StepSums.{upto, whole, if_site, Fits, CutsOut, IsCutOut}
use Rattle.cw_sites.specs.Compacting.{IsAddedUp}
use Rattle.cw_sites.specs.StepLists.{part, seen, seen_blocks, strand_path, InOrder, LaidFrom, Laid, LaidWith, SaysTheSame, Extends, KeepsBlocks, Gathers}
use Rattle.cw_sites.specs.StrandPaths.{SeenBlock, StrandPath, goes_on, is_longer, begins, again, takes, chooses, ends_at, ends, whole as all_of}
use Rattle.cw_sites.specs.lemmas.ChosenPaths.{takes_first}
use Rattle.cw_sites.proofs.StepSumLaws.{upto-mono, upto-take}

abbrev pub path_with : ℕ → ℕ → Path
path_with w o = record { weight = w; own = o }

abbrev pub place_with : Path → Option Path → Path → SeenBlock
place_with b l r = record { base = b; longest = l; rest = r }

pub seen_blocks-push : (q : ℕ) (steps : List Steps) (fs : List ForkedBlock) (f : ForkedBlock) (ps : List SeenBlock) → seen_blocks q steps (fs ++ f ∷ []) ps ≡ seen q steps f ∷ seen_blocks q steps fs ps
seen_blocks-push q steps [] f ps = refl
seen_blocks-push q steps (g ∷ fs) f ps = seen_blocks-push q steps fs f (seen q steps g ∷ ps)

pub laid_le : (lo hi : ℕ) (fs : List ForkedBlock) → LaidFrom lo fs hi → lo ≤ hi
laid_le lo hi [] h = omega arith
laid_le lo hi (f ∷ fs) h = let i = laid_le f.child hi fs h.2 in let a = h.0 in let b = h.1.0 in let c = h.1.1 in let d = h.1.2 in omega arith

pub laid_push : (lo hi : ℕ) (fs : List ForkedBlock) (f : ForkedBlock) → LaidFrom lo fs f.from → InOrder f → f.child ≡ hi → LaidFrom lo (fs ++ f ∷ []) hi
laid_push lo hi [] f h o c = (h, o, c)
laid_push lo hi (g ∷ fs) f h o c = (h.0, h.1, laid_push g.child hi fs f h.2 o c)

pub laid_pop : (lo hi : ℕ) (fs : List ForkedBlock) (f : ForkedBlock) → LaidFrom lo (fs ++ f ∷ []) hi → LaidFrom lo fs f.from × InOrder f × (f.child ≡ hi)
laid_pop lo hi [] f h = (h.0, h.1, h.2)
laid_pop lo hi (g ∷ fs) f h = let i = laid_pop g.child hi fs f h.2 in ((h.0, h.1, i.0), i.1, i.2)

-- a list that is unchanged below a place represents the same blocks below it
part_same : (q : ℕ) (steps steps' : List Steps) (from to weight hi : ℕ) → ((n : ℕ) → n ≤ hi → upto q steps' n ≡ upto q steps n) → from ≤ hi → to ≤ hi
    → part q steps' from to weight ≡ part q steps from to weight
part_same q steps steps' from to weight hi same a b = let e = same from a in let f = same to b in ap (λ (o : ℕ). path_with weight o) (omega arith)

longest_same : (q : ℕ) (steps steps' : List Steps) (from to hi : ℕ) (l : Option ℕ) → ((n : ℕ) → n ≤ hi → upto q steps' n ≡ upto q steps n)
    → from ≤ hi → to ≤ hi → option_map (part q steps' from to) l ≡ option_map (part q steps from to) l
longest_same q steps steps' from to hi None same a b = refl
longest_same q steps steps' from to hi (Some w) same a b = ap Some (part_same q steps steps' from to w hi same a b)

place_same : {b b' r r' : Path} {l l' : Option Path} → b ≡ b' → l ≡ l' → r ≡ r' → place_with b l r ≡ place_with b' l' r'
place_same e f g = cc

pub seen_same : (q : ℕ) (steps steps' : List Steps) (f : ForkedBlock) (hi : ℕ) → ((n : ℕ) → n ≤ hi → upto q steps' n ≡ upto q steps n) → InOrder f → f.child ≤ hi → seen q steps' f ≡ seen q steps f
seen_same q steps steps' f hi same o h =
    let a = o.0 in let b = o.1 in let c = o.2 in
    place_same (part_same q steps steps' f.from f.mid f.base hi same (omega arith) (omega arith))
    (longest_same q steps steps' f.mid f.end hi f.longest same (omega arith) (omega arith))
    (part_same q steps steps' f.end f.child f.rest hi same (omega arith) (omega arith))

pub seen_blocks_same : (q : ℕ) (steps steps' : List Steps) (fs : List ForkedBlock) (ps : List SeenBlock) (lo hi : ℕ)
    → ((n : ℕ) → n ≤ hi → upto q steps' n ≡ upto q steps n) → LaidFrom lo fs hi → seen_blocks q steps' fs ps ≡ seen_blocks q steps fs ps
seen_blocks_same q steps steps' [] ps lo hi same h = refl
seen_blocks_same q steps steps' (f ∷ fs) ps lo hi same h =
    seen_blocks_same q steps steps' fs (seen q steps' f ∷ ps) f.child hi same h.2
    ∙ ap (λ (p : SeenBlock). seen_blocks q steps fs (p ∷ ps)) (seen_same q steps steps' f hi same h.1 (laid_le f.child hi fs h.2))

abbrev pub make : Path → List SeenBlock → StrandPath
make n ps = record { now = n; blocks = ps }

pub same_strand_path : (n n' : Path) (ps ps' : List SeenBlock) → n ≡ n' → ps ≡ ps' → make n ps ≡ make n' ps'
same_strand_path n n' ps ps' e f = cc

pub same_path : (w w' o o' : ℕ) → w ≡ w' → o ≡ o' → path_with w o ≡ path_with w' o'
same_path w w' o o' e f = cc

-- the paths of a strand by their parts
abbrev pub strand_path_of : (q : ℕ) → List Steps → (weight start : ℕ) → List ForkedBlock → StrandPath
strand_path_of q steps weight start fs = record { now = part q steps start (length steps) weight; blocks = seen_blocks q steps fs [] }

abbrev pub laid_of : List Steps → (start : ℕ) → List ForkedBlock → Type 0
laid_of steps start fs = LaidFrom 0 fs start × (start ≤ length steps)

part_is : (q : ℕ) (steps : List Steps) (from to w : ℕ) (p : Path) → w ≡ p.weight → upto q steps to - upto q steps from ≡ p.own → part q steps from to w ≡ p
part_is q steps from to w p e f = same_path w p.weight (upto q steps to - upto q steps from) p.own e f

-- the empty part
part_none : (q : ℕ) (steps : List Steps) (from to : ℕ) → from ≡ to → part q steps from to 0 ≡ nowhere
part_none q steps from to e = let f = ap (upto q steps) e in part_is q steps from to 0 nowhere refl (omega arith)

-- the path of a strand after more instructions
pub extended_strand_path : (q : ℕ) (steps steps' : List Steps) (weight weight' start site count : ℕ) (fs : List ForkedBlock)
    → ((n : ℕ) → n ≤ start → n ≤ length steps → upto q steps' n ≡ upto q steps n)
    → ((whole q steps - upto q steps start) + if_site q site count < 2 ^ 64 → whole q steps' ≡ whole q steps + if_site q site count)
    → (weight + count < 2 ^ 64 → weight' ≡ weight + count) → LaidFrom 0 fs start → start ≤ length steps
    → Fits (plus (strand_path_of q steps weight start fs).now (steps_of q site count))
    → strand_path_of q steps' weight' start fs ≡ record {
      now = plus (strand_path_of q steps weight start fs).now (steps_of q site count);
      blocks = (strand_path_of q steps weight start fs).blocks;
    }
extended_strand_path q steps steps' weight weight' start site count fs below all add laid l fits =
    let m = upto-mono q steps start (length steps) l in
    let a = all fits.1 in
    let b = below start (omega arith) l in
    let w = add fits.0 in
    same_strand_path (part q steps' start (length steps') weight') (plus (part q steps start (length steps) weight) (steps_of q site count)) (seen_blocks q steps' fs []) (seen_blocks q steps fs [])
    (same_path weight' (weight + count) (whole q steps' - upto q steps' start) ((whole q steps - upto q steps start) + if_site q site count) w (omega arith))
    (seen_blocks_same q steps steps' fs [] 0 start (λ n h. below n h (omega arith)) laid)

-- the path is merged by site
pub added_up : (q : ℕ) (steps steps' : List Steps) (weight start end : ℕ) (fs : List ForkedBlock) → IsAddedUp start (length steps) steps steps' end
    → start ≤ length steps → LaidFrom 0 fs start → (part q steps start (length steps) weight).own < 2 ^ 64
    → strand_path_of q steps' weight start fs ≡ strand_path_of q steps weight start fs
added_up q steps steps' weight start end fs h l laid fits =
    let a = h.same q fits in
    let b = h.below q start (omega arith) in
    let n = h.count_is in
    let e : length steps' ≡ end = omega arith in
    let u = ap (upto q steps') e in
    same_strand_path (part q steps' start (length steps') weight) (part q steps start (length steps) weight) (seen_blocks q steps' fs []) (seen_blocks q steps fs [])
    (same_path weight weight (whole q steps' - upto q steps' start) (whole q steps - upto q steps start) refl (omega arith))
    (seen_blocks_same q steps steps' fs [] 0 start (λ n h'. h.below q n h') laid)

-- the paths after a change of steps only
pub kept_path : (q : ℕ) (old new : Paths) → KeepsBlocks old new → strand_path q new ≡ strand_path_of q new.steps.items old.weight old.start old.blocks.items
kept_path q old new k =
    ap (λ (w : ℕ). strand_path_of q new.steps.items w new.start new.blocks.items) k.weight
    ∙ ap (λ (n : ℕ). strand_path_of q new.steps.items old.weight n new.blocks.items) k.start
    ∙ ap (λ (fs : List ForkedBlock). strand_path_of q new.steps.items old.weight old.start fs) k.blocks

pub kept_laid_from : (old new : Paths) → KeepsBlocks old new → LaidFrom 0 old.blocks.items old.start → LaidFrom 0 new.blocks.items new.start
kept_laid_from old new k l =
    let P : ℕ → Type 0 = λ n. LaidFrom 0 new.blocks.items n in
    let Q : List ForkedBlock → Type 0 = λ fs. LaidFrom 0 fs old.start in
    subst P (sym k.start) (subst Q (sym k.blocks) l)

pub extends_after : (old mid new : Paths) (site count : ℕ) → (Laid old → Laid mid) → SaysTheSame old mid → Extends mid new site count → Extends old new site count
extends_after old mid new site count laid same more = λ l q fits.
    let small = fits.1 in
    let e = same l q (omega arith) in
    let P : StrandPath → Type 0 = λ t. Fits (plus t.now (steps_of q site count)) in
    more (laid l) q (subst P (sym e) fits) ∙ ap (λ (t : StrandPath). make (plus t.now (steps_of q site count)) t.blocks) e

-- the first spawn of a block
abbrev pub first_fork : (weight start len : ℕ) → ForkedBlock
first_fork weight start len = record { base = weight; longest = None; rest = 0; from = start; mid = len; end = len; child = len }

pub begun_laid : (steps : List Steps) (weight start len : ℕ) (fs fs' : List ForkedBlock) → len ≡ length steps → fs' ≡ fs ++ first_fork weight start len ∷ [] → laid_of steps start fs → laid_of steps len fs'
begun_laid steps weight start len fs fs' e f h =
    let P : List ForkedBlock → Type 0 = λ x. LaidFrom 0 x len in
    let b = h.1 in
    (subst P (sym f) (laid_push 0 len fs (first_fork weight start len) h.0 (omega arith, omega arith, omega arith) refl), omega arith)

pub begun_strand_path : (q : ℕ) (steps : List Steps) (weight start len : ℕ) (fs fs' : List ForkedBlock) → len ≡ length steps
    → fs' ≡ fs ++ first_fork weight start len ∷ [] → strand_path_of q steps 0 len fs' ≡ begins (strand_path_of q steps weight start fs)
begun_strand_path q steps weight start len fs fs' e f =
    let u = ap (upto q steps) e in
    same_strand_path (part q steps len (length steps) 0) nowhere (seen_blocks q steps fs' []) (place_with (part q steps start (length steps) weight) None nowhere ∷ seen_blocks q steps fs [])
    (part_none q steps len (length steps) e)
    (ap (λ (x : List ForkedBlock). seen_blocks q steps x []) f ∙ seen_blocks-push q steps fs (first_fork weight start len) []
    ∙ ap (λ (p : SeenBlock). p ∷ seen_blocks q steps fs []) (place_same
    (part_is q steps start len weight (part q steps start (length steps) weight) refl (omega arith)) refl (part_none q steps len len refl)))

-- a further spawn of a block
abbrev pub again_fork : ForkedBlock → (weight len : ℕ) → ForkedBlock
again_fork f weight len = record { base = f.base; longest = f.longest; rest = weight; from = f.from; mid = f.mid; end = f.end; child = len }

pub again_laid : (steps steps' : List Steps) (weight start len : ℕ) (all fs fs' : List ForkedBlock) (f : ForkedBlock) → len ≡ length steps' → all ≡ fs ++ f ∷ []
    → fs' ≡ fs ++ again_fork f weight len ∷ [] → CutsOut f.end f.child steps steps' → laid_of steps start all → laid_of steps' len fs'
again_laid steps steps' weight start len all fs fs' f e g k cut h =
    let P : List ForkedBlock → Type 0 = λ x. LaidFrom 0 x len in
    let Q : List ForkedBlock → Type 0 = λ x. LaidFrom 0 x start in
    let p = laid_pop 0 start fs f (subst Q g h.0) in
    let b = h.1 in let o = p.1 in let o0 = o.0 in let o1 = o.1 in let o2 = o.2 in let d = p.2 in
    let n = (cut o2 (omega arith)).count_is in
    (subst P (sym k) (laid_push 0 len fs (again_fork f weight len) p.0 (o0, o1, omega arith) refl), omega arith)

pub again_strand_path : (q : ℕ) (steps steps' : List Steps) (weight start len : ℕ) (all fs fs' : List ForkedBlock) (f : ForkedBlock) → len ≡ length steps'
    → all ≡ fs ++ f ∷ [] → fs' ≡ fs ++ again_fork f weight len ∷ [] → CutsOut f.end f.child steps steps' → laid_of steps start all
    → strand_path_of q steps' 0 len fs' ≡ again (strand_path_of q steps weight start all)
again_strand_path q steps steps' weight start len all fs fs' f e g k cut h =
    let Q : List ForkedBlock → Type 0 = λ x. LaidFrom 0 x start in
    let p = laid_pop 0 start fs f (subst Q g h.0) in
    let b = h.1 in let o = p.1 in let o0 = o.0 in let o1 = o.1 in let o2 = o.2 in let d = p.2 in
    let x = cut o2 (omega arith) in
    let a = x.all q in
    let u = ap (upto q steps') e in
    let at_start = ap (upto q steps) d in
    let at_end = x.below q f.end (omega arith) in
    let m = upto-mono q steps f.child (length steps) (omega arith) in
    let n = part q steps start (length steps) weight in
    same_strand_path (part q steps' len (length steps') 0) nowhere (seen_blocks q steps' fs' [])
    (place_with (part q steps f.from f.mid f.base) (option_map (part q steps f.mid f.end) f.longest) n ∷ seen_blocks q steps fs [])
    (part_none q steps' len (length steps') e)
    (ap (λ (x : List ForkedBlock). seen_blocks q steps' x []) k ∙ seen_blocks-push q steps' fs (again_fork f weight len) []
    ∙ ap (λ (p : SeenBlock). p ∷ seen_blocks q steps' fs [])
    (place_same (part_same q steps steps' f.from f.mid f.base f.end (x.below q) (omega arith) (omega arith))
    (longest_same q steps steps' f.mid f.end f.end f.longest (x.below q) (omega arith) (omega arith)) (part_is q steps' f.end len weight n refl (omega arith)))
    ∙ ap (λ (x : List SeenBlock). place_with (part q steps f.from f.mid f.base) (option_map (part q steps f.mid f.end) f.longest) n ∷ x)
    (seen_blocks_same q steps steps' fs [] 0 f.from (λ y l. x.below q y (omega arith)) p.0))
    ∙ sym (ap (λ (x : List SeenBlock). again (make n x)) (ap (λ (x : List ForkedBlock). seen_blocks q steps x []) g ∙ seen_blocks-push q steps fs f []))

-- the child becomes the longest
abbrev pub taken_fork : ForkedBlock → (base weight mid len : ℕ) → ForkedBlock
taken_fork f base weight mid len = record { base = base; longest = Some weight; rest = 0; from = f.from; mid = mid; end = len; child = len }

pub taken_laid : (steps steps' : List Steps) (weight start len mid base : ℕ) (fs fs' : List ForkedBlock) (f : ForkedBlock) → LaidFrom 0 fs f.from
    → f.child ≡ start → start ≤ length steps → Gathers steps steps' f mid → len ≡ length steps' → fs' ≡ fs ++ taken_fork f base weight mid len ∷ []
    → laid_of steps' len fs'
taken_laid steps steps' weight start len mid base fs fs' f l c b g e k =
    let a = g.from in let n = g.count_is in
    let P : List ForkedBlock → Type 0 = λ x. LaidFrom 0 x len in
    (subst P (sym k) (laid_push 0 len fs (taken_fork f base weight mid len) l (omega arith, omega arith, omega arith) refl), omega arith)

pub taken_strand_path : (q : ℕ) (steps steps' : List Steps) (weight start len mid base : ℕ) (fs fs' : List ForkedBlock) (f : ForkedBlock) → LaidFrom 0 fs f.from
    → InOrder f → f.child ≡ start → start ≤ length steps → Gathers steps steps' f mid → len ≡ length steps' → base ≡ f.base + f.rest
    → (plus (part q steps f.from f.mid f.base) (part q steps f.end f.child f.rest)).own < 2 ^ 64 → fs' ≡ fs ++ taken_fork f base weight mid len ∷ []
    → strand_path_of q steps' 0 len fs' ≡ takes (part q steps f.from f.mid f.base) (part q steps f.end f.child f.rest)
    (part q steps start (length steps) weight) (seen_blocks q steps fs [])
taken_strand_path q steps steps' weight start len mid base fs fs' f l o c b g e w fits k =
    let o0 = o.0 in let o1 = o.1 in let o2 = o.2 in
    let u = ap (upto q steps') e in
    let first = g.base q fits in
    let last = g.child q in
    let lf = g.below q f.from (omega arith) in
    let cf = ap (upto q steps) c in
    let m1 = upto-mono q steps f.from f.mid o0 in
    let m3 = upto-mono q steps f.end f.child o2 in
    let m4 = upto-mono q steps f.child (length steps) (omega arith) in
    same_strand_path (part q steps' len (length steps') 0) nowhere (seen_blocks q steps' fs' [])
    (place_with (plus (part q steps f.from f.mid f.base) (part q steps f.end f.child f.rest))
    (Some (part q steps start (length steps) weight)) nowhere ∷ seen_blocks q steps fs [])
    (part_none q steps' len (length steps') e)
    (ap (λ (x : List ForkedBlock). seen_blocks q steps' x []) k ∙ seen_blocks-push q steps' fs (taken_fork f base weight mid len) []
    ∙ ap (λ (p : SeenBlock). p ∷ seen_blocks q steps' fs [])
    (place_same (part_is q steps' f.from mid base (plus (part q steps f.from f.mid f.base) (part q steps f.end f.child f.rest)) w (omega arith))
    (ap Some (part_is q steps' mid len weight (part q steps start (length steps) weight) refl (omega arith)))
    (part_none q steps' len len refl))
    ∙ ap (λ (x : List SeenBlock). place_with (plus (part q steps f.from f.mid f.base) (part q steps f.end f.child f.rest)) (Some (part q steps start (length steps) weight)) nowhere ∷ x)
    (seen_blocks_same q steps steps' fs [] 0 f.from (λ x h. g.below q x h) l))

-- the child does not become the longest
abbrev pub gone_fork : ForkedBlock → ForkedBlock
gone_fork f = record { base = f.base; longest = f.longest; rest = 0; from = f.from; mid = f.mid; end = f.end; child = f.end }

pub gone_laid : (steps steps' : List Steps) (start : ℕ) (fs fs' : List ForkedBlock) (f : ForkedBlock) → LaidFrom 0 fs f.from → InOrder f → f.child ≡ start
    → start ≤ length steps → steps' ≡ take f.child steps → fs' ≡ fs ++ gone_fork f ∷ [] → laid_of steps' f.end fs'
gone_laid steps steps' start fs fs' f l o c b g k =
    let o0 = o.0 in let o1 = o.1 in let o2 = o.2 in
    let n = length-take-le f.child steps (omega arith) in
    let n' = ap length g in
    let P : List ForkedBlock → Type 0 = λ x. LaidFrom 0 x f.end in
    (subst P (sym k) (laid_push 0 f.end fs (gone_fork f) l (o0, o1, omega arith) refl), omega arith)

pub gone_strand_path : (q : ℕ) (steps steps' : List Steps) (start : ℕ) (fs fs' : List ForkedBlock) (f : ForkedBlock) → LaidFrom 0 fs f.from → InOrder f
    → f.child ≡ start → start ≤ length steps → steps' ≡ take f.child steps → fs' ≡ fs ++ gone_fork f ∷ []
    → strand_path_of q steps' f.rest f.end fs' ≡ goes_on (seen q steps f) (seen_blocks q steps fs [])
gone_strand_path q steps steps' start fs fs' f l o c b g k =
    let o0 = o.0 in let o1 = o.1 in let o2 = o.2 in
    let n : length steps' ≡ f.child = ap length g ∙ length-take-le f.child steps (omega arith) in
    let low : (x : ℕ) → x ≤ f.child → upto q steps' x ≡ upto q steps x = λ x h. ap (λ (y : List Steps). upto q y x) g ∙ upto-take q steps f.child x h in
    let u = ap (upto q steps') n in
    let lc = low f.child (omega arith) in
    let la = low f.end o2 in
    same_strand_path (part q steps' f.end (length steps') f.rest) (part q steps f.end f.child f.rest) (seen_blocks q steps' fs' [])
    (place_with (part q steps f.from f.mid f.base) (option_map (part q steps f.mid f.end) f.longest) nowhere ∷ seen_blocks q steps fs [])
    (part_is q steps' f.end (length steps') f.rest (part q steps f.end f.child f.rest) refl (omega arith))
    (ap (λ (x : List ForkedBlock). seen_blocks q steps' x []) k ∙ seen_blocks-push q steps' fs (gone_fork f) []
    ∙ ap (λ (p : SeenBlock). p ∷ seen_blocks q steps' fs [])
    (place_same (part_same q steps steps' f.from f.mid f.base f.child low (omega arith) (omega arith))
    (longest_same q steps steps' f.mid f.end f.child f.longest low (omega arith) (omega arith)) (part_none q steps' f.end f.end refl))
    ∙ ap (λ (x : List SeenBlock). place_with (part q steps f.from f.mid f.base) (option_map (part q steps f.mid f.end) f.longest) nowhere ∷ x)
    (seen_blocks_same q steps steps' fs [] 0 f.from (λ x h. low x (omega arith)) l))

-- the block joins, and its longest child is removed
pub closed_laid : (steps steps' : List Steps) (start : ℕ) (fs : List ForkedBlock) (f : ForkedBlock) → LaidFrom 0 fs f.from → InOrder f → f.child ≡ start
    → start ≤ length steps → IsCutOut f.mid start steps steps' → laid_of steps' f.from fs
closed_laid steps steps' start fs f l o c b g = let o0 = o.0 in let o1 = o.1 in let o2 = o.2 in let n = g.count_is in (l, omega arith)

pub closed_strand_path : (q : ℕ) (steps steps' : List Steps) (weight weight' start : ℕ) (fs : List ForkedBlock) (f : ForkedBlock) → LaidFrom 0 fs f.from
    → InOrder f → f.child ≡ start → start ≤ length steps → IsCutOut f.mid start steps steps' → weight' ≡ f.base + weight
    → strand_path_of q steps' weight' f.from fs ≡ record {
      now = plus (part q steps f.from f.mid f.base) (part q steps start (length steps) weight);
      blocks = seen_blocks q steps fs [];
    }
closed_strand_path q steps steps' weight weight' start fs f l o c b g w =
    let o0 = o.0 in let o1 = o.1 in let o2 = o.2 in
    let a = g.all q in
    let lf = g.below q f.from o0 in
    let m1 = upto-mono q steps f.from f.mid o0 in
    let m2 = upto-mono q steps f.mid start (omega arith) in
    let m4 = upto-mono q steps start (length steps) b in
    same_strand_path (part q steps' f.from (length steps') weight') (plus (part q steps f.from f.mid f.base)
    (part q steps start (length steps) weight)) (seen_blocks q steps' fs []) (seen_blocks q steps fs [])
    (part_is q steps' f.from (length steps') weight' (plus (part q steps f.from f.mid f.base) (part q steps start (length steps) weight)) w (omega arith))
    (seen_blocks_same q steps steps' fs [] 0 f.from (λ x h. g.below q x (omega arith)) l)

-- the block joins on its longest child
pub kept_laid : (steps steps' : List Steps) (start : ℕ) (fs : List ForkedBlock) (f : ForkedBlock) → LaidFrom 0 fs f.from → InOrder f → f.child ≡ start
    → start ≤ length steps → steps' ≡ take f.end steps → laid_of steps' f.from fs
kept_laid steps steps' start fs f l o c b g =
    let o0 = o.0 in let o1 = o.1 in let o2 = o.2 in
    let n : length steps' ≡ f.end = ap length g ∙ length-take-le f.end steps (omega arith) in (l, omega arith)

pub kept_strand_path : (q : ℕ) (steps steps' : List Steps) (weight' start longest : ℕ) (fs : List ForkedBlock) (f : ForkedBlock) → LaidFrom 0 fs f.from
    → InOrder f → f.child ≡ start → start ≤ length steps → steps' ≡ take f.end steps → weight' ≡ f.base + longest
    → strand_path_of q steps' weight' f.from fs ≡ record {
      now = plus (part q steps f.from f.mid f.base) (part q steps f.mid f.end longest);
      blocks = seen_blocks q steps fs [];
    }
kept_strand_path q steps steps' weight' start longest fs f l o c b g w =
    let o0 = o.0 in let o1 = o.1 in let o2 = o.2 in
    let n : length steps' ≡ f.end = ap length g ∙ length-take-le f.end steps (omega arith) in
    let low : (x : ℕ) → x ≤ f.end → upto q steps' x ≡ upto q steps x = λ x h. ap (λ (y : List Steps). upto q y x) g ∙ upto-take q steps f.end x h in
    let u = ap (upto q steps') n in
    let le = low f.end (omega arith) in
    let lf = low f.from (omega arith) in
    let m1 = upto-mono q steps f.from f.mid o0 in
    let m2 = upto-mono q steps f.mid f.end o1 in
    same_strand_path (part q steps' f.from (length steps') weight') (plus (part q steps f.from f.mid f.base) (part q steps f.mid f.end longest))
    (seen_blocks q steps' fs []) (seen_blocks q steps fs [])
    (part_is q steps' f.from (length steps') weight' (plus (part q steps f.from f.mid f.base) (part q steps f.mid f.end longest)) w (omega arith))
    (seen_blocks_same q steps steps' fs [] 0 f.from (λ x h. low x (omega arith)) l)

-- a block that is taken out of the list
pub laid_with : (r r' : Paths) (f : ForkedBlock) → r.blocks.items ≡ r'.blocks.items ++ f ∷ [] → r'.start ≡ r.start → r'.steps.items ≡ r.steps.items → Laid r → LaidWith r' f
laid_with r r' f e start steps laid =
    let Q : List ForkedBlock → Type 0 = λ x. LaidFrom 0 x r.start in
    let p = laid_pop 0 r.start r'.blocks.items f (subst Q e laid.blocks) in
    let n = ap length steps in
    let b = laid.start in
    record { blocks = p.0; order = p.1; child = p.2 ∙ sym start; start = omega arith }

-- the paths with the innermost block outside of the list
pub strand_path_by : (q : ℕ) (r r' : Paths) (f : ForkedBlock) → r.blocks.items ≡ r'.blocks.items ++ f ∷ []
    → strand_path q r ≡ make (strand_path q r).now (seen q r.steps.items f ∷ seen_blocks q r.steps.items r'.blocks.items [])
strand_path_by q r r' f e = ap (make (strand_path q r).now) (ap (λ (x : List ForkedBlock). seen_blocks q r.steps.items x []) e ∙ seen_blocks-push q r.steps.items r'.blocks.items f [])

pub fits_with : (q : ℕ) (r r' : Paths) (f : ForkedBlock) → r.blocks.items ≡ r'.blocks.items ++ f ∷ [] → Fits (all_of (strand_path q r))
    → Fits (all_of (make (strand_path q r).now (seen q r.steps.items f ∷ seen_blocks q r.steps.items r'.blocks.items [])))
fits_with q r r' f e h = let P : StrandPath → Type 0 = λ t. Fits (all_of t) in subst P (strand_path_by q r r' f e) h

-- the end of a child, by the test
pub ends_taken : (q : ℕ) (steps : List Steps) (f : ForkedBlock) (n : Path) (ps : List SeenBlock) → is_longer f.longest (f.rest + n.weight) ≡ true
    → takes (seen q steps f).base (seen q steps f).rest n ps ≡ ends (make n (seen q steps f ∷ ps))
ends_taken q steps f n ps e = by_longest f.longest e
  where
    by_longest : (l : Option ℕ) → is_longer l (f.rest + n.weight) ≡ true
        → takes (part q steps f.from f.mid f.base) (part q steps f.end f.child f.rest) n ps
        ≡ ends_at (part q steps f.from f.mid f.base) (option_map (part q steps f.mid f.end) l) (part q steps f.end f.child f.rest) n ps
    by_longest None e = refl
    by_longest (Some w) e = sym (ap (λ (b : Bool). chooses b (part q steps f.from f.mid f.base) (part q steps f.mid f.end w) (part q steps f.end f.child f.rest) n ps) e)

pub ends_gone : (q : ℕ) (steps : List Steps) (f : ForkedBlock) (n : Path) (ps : List SeenBlock) → is_longer f.longest (f.rest + n.weight) ≡ false
    → goes_on (seen q steps f) ps ≡ ends (make n (seen q steps f ∷ ps))
ends_gone q steps f n ps e = by_longest f.longest e
  where
    by_longest : (l : Option ℕ) → is_longer l (f.rest + n.weight) ≡ false
        → goes_on (place_with (part q steps f.from f.mid f.base) (option_map (part q steps f.mid f.end) l) (part q steps f.end f.child f.rest)) ps
        ≡ ends_at (part q steps f.from f.mid f.base) (option_map (part q steps f.mid f.end) l) (part q steps f.end f.child f.rest) n ps
    by_longest None e = cc
    by_longest (Some w) e = sym (ap (λ (b : Bool). chooses b (part q steps f.from f.mid f.base) (part q steps f.mid f.end w) (part q steps f.end f.child f.rest) n ps) e)

-- the longest child is chosen if it is at least as heavy as the continuation
pub best_kept : (q : ℕ) (steps : List Steps) (from to w : ℕ) (l : Option ℕ) (n : Path) → l ≡ Some w → n.weight ≤ w → part q steps from to w ≡ best (option_map (part q steps from to) l) n
best_kept q steps from to w l n e h = sym (takes_first (part q steps from to w) n h) ∙ ap (λ (x : Option ℕ). best (option_map (part q steps from to) x) n) (sym e)
