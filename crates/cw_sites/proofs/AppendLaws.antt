-- Paths of pieces that were executed separately are appended to a list of steps.
use Rattle.std.specs.Prelude.{◌≡◌, ℕ, ◌+◌, ◌-◌, ◌<◌, ◌≤◌, ◌^◌, Bool, true, false, nat_lt, List, [], ◌∷◌, length, get_or, Option, Some, None, refl}
use Rattle.std.proofs.Common.{sym, ◌∙◌, ap, subst, arith}
use Rattle.cw_sites.specs.declared.steps.Steps.{Steps}
use Rattle.cw_sites.specs.declared.paths.ForkedBlock.{ForkedBlock}
use Rattle.cw_sites.specs.declared.paths.Paths.{Paths}
use Rattle.cw_sites.specs.ChosenPaths.{Path, plus}
use Rattle.cw_sites.specs.StepSums.{upto, whole as all_steps, if_site, Fits}
use Rattle.cw_sites.specs.StepLists.{part, seen_blocks, strand_path, LaidFrom, Laid, SaysTheSame, AddsStep, Appends}
use Rattle.cw_sites.specs.PathBounds.{most_steps, IsBoundedBy, IsTight, StaysTightBeside}
use Rattle.cw_sites.specs.StrandPaths.{SeenBlock, StrandPath, longest_path, sum_of, whole, again, spawns, chooses, ends, extends_by, forks, appends_block, appends}
use Rattle.cw_sites.proofs.CompactingLaws.{all_below_at}
use Rattle.cw_sites.proofs.StepSumLaws.{upto-mono, upto-next}
use Rattle.cw_sites.proofs.PathLaws.{path_with, make, same_path, same_strand_path, strand_path_of, seen_blocks_same}

-- steps were added, without their weight
pub stepped : (q : ℕ) (steps steps' : List Steps) (weight start site count : ℕ) (fs : List ForkedBlock)
    → ((n : ℕ) → n ≤ start → n ≤ length steps → upto q steps' n ≡ upto q steps n)
    → ((all_steps q steps - upto q steps start) + if_site q site count < 2 ^ 64 → all_steps q steps' ≡ all_steps q steps + if_site q site count)
    → LaidFrom 0 fs start → start ≤ length steps → (strand_path_of q steps weight start fs).now.own + if_site q site count < 2 ^ 64
    → strand_path_of q steps' weight start fs ≡ extends_by (path_with 0 (if_site q site count)) (strand_path_of q steps weight start fs)
stepped q steps steps' weight start site count fs below all laid l fits =
    let m = upto-mono q steps start (length steps) l in
    let a = all fits in
    let b = below start (omega arith) l in
    same_strand_path (part q steps' start (length steps') weight) (plus (part q steps start (length steps) weight)
    (path_with 0 (if_site q site count))) (seen_blocks q steps' fs []) (seen_blocks q steps fs [])
    (same_path weight (weight + 0) (all_steps q steps' - upto q steps' start) ((all_steps q steps - upto q steps start) + if_site q site count) (omega arith) (omega arith))
    (seen_blocks_same q steps steps' fs [] 0 start (λ n h. below n h (omega arith)) laid)

pub step_after : (old mid new : Paths) (one : Steps) → (Laid old → Laid mid) → SaysTheSame old mid → AddsStep mid new one → AddsStep old new one
step_after old mid new one laid same more = λ l q fits.
    let e = same l q (omega arith) in
    let P : StrandPath → Type 0 = λ t. t.now.own + if_site q one.site one.count < 2 ^ 64 in
    more (laid l) q (subst P (sym e) fits) ∙ ap (extends_by (path_with 0 (if_site q one.site one.count))) e

pub append_after : (old mid new piece : Paths) (first : Bool) → (Laid old → Laid mid) → SaysTheSame old mid → Appends mid piece new first → Appends old piece new first
append_after old mid new piece first laid same more = λ l p q fits.
    let small = fits.1 in
    let e = same l q (omega arith) in
    let P : StrandPath → Type 0 = λ t. Fits (plus (whole t) (whole (strand_path q piece))) in
    more (laid l) p q (subst P (sym e) fits) ∙ ap (appends first (strand_path q piece)) e

-- the steps of a list from one place up to another were added
pub record SteppedTo (old now : Paths) (steps : List Steps) (from i : ℕ) : Type 0 where
  pub laid : Laid old → Laid now
  pub path : Laid old → (q : ℕ) → (strand_path q old).now.own + (upto q steps i - upto q steps from) < 2 ^ 64
      → strand_path q now ≡ extends_by (path_with 0 (upto q steps i - upto q steps from)) (strand_path q old)
  pub bounded : StaysTightBeside steps old now

no_more : (t : StrandPath) (n : ℕ) → n ≡ 0 → t ≡ extends_by (path_with 0 n) t
no_more t n e = same_strand_path t.now (plus t.now (path_with 0 n)) t.blocks t.blocks (same_path t.now.weight (t.now.weight + 0) t.now.own (t.now.own + n) (omega arith) (omega arith)) refl

more_twice : (t : StrandPath) (a b c : ℕ) → c ≡ a + b → extends_by (path_with 0 b) (extends_by (path_with 0 a) t) ≡ extends_by (path_with 0 c) t
more_twice t a b c e = same_strand_path (plus (plus t.now (path_with 0 a)) (path_with 0 b)) (plus t.now (path_with 0 c)) t.blocks t.blocks
    (same_path ((t.now.weight + 0) + 0) (t.now.weight + 0) ((t.now.own + a) + b) (t.now.own + c) (omega arith) (omega arith)) refl

pub none_stepped : (old : Paths) (steps : List Steps) (from : ℕ) → SteppedTo old old steps from from
none_stepped old steps from = record {
  laid = λ l. l;
  path = λ l q fits. no_more (strand_path q old) (upto q steps from - upto q steps from) (omega arith);
  bounded = λ most a b. b;
}

pub one_stepped : (old now new : Paths) (steps : List Steps) (from i : ℕ) (s : Steps) → from ≤ i → i < length steps → s ≡ get_or steps i s
    → (Laid now → Laid new) → AddsStep now new s → ((room most : ℕ) → s.site < most → IsBoundedBy room most now → IsTight most new)
    → SteppedTo old now steps from i → SteppedTo old new steps from (i + 1)
one_stepped old now new steps from i s le lt at laid adds bounded h = record {
  laid = λ l. laid (h.laid l);
  path = λ l q fits.
      let t = strand_path q old in
      let a = upto-next q steps i s lt in
      let c = ap (λ (x : Steps). if_site q x.site x.count) (sym at) in
      let m = upto-mono q steps from i le in
      let before = h.path l q (omega arith) in
      let own = ap (λ (x : StrandPath). x.now.own) before in
      adds (h.laid l) q (omega arith)
      ∙ ap (extends_by (path_with 0 (if_site q s.site s.count))) before
      ∙ more_twice t (upto q steps i - upto q steps from) (if_site q s.site s.count) (upto q steps (i + 1) - upto q steps from) (omega arith);
  bounded = λ most a b. let P : Steps → Type 0 = λ x. x.site < most in bounded (most_steps most + 1) most (subst P (sym at) (all_below_at most steps i s lt a)) (h.bounded most a b);
}

weighed : (t : StrandPath) (n : Path) (ps : List SeenBlock) (weight weight' own : ℕ) → make n ps ≡ extends_by (path_with 0 own) t
    → weight' ≡ t.now.weight + weight → make (path_with weight' n.own) ps ≡ extends_by (path_with weight own) t
weighed t n ps weight weight' own e w =
    let f = ap (λ (x : StrandPath). x.now.own) e in
    same_strand_path (path_with weight' n.own) (plus t.now (path_with weight own)) ps t.blocks
    (same_path weight' (t.now.weight + weight) n.own (t.now.own + own) w f)
    (ap (λ (x : StrandPath). x.blocks) e)

-- all steps were added, with their weight
pub all_stepped : (old now : Paths) (steps : List Steps) (from to i weight weight' : ℕ) → (from ≤ to → to ≤ length steps → i ≡ to)
    → (now.weight + weight < 2 ^ 64 → weight' ≡ now.weight + weight) → SteppedTo old now steps from i → from ≤ to → to ≤ length steps → Laid old
    → (q : ℕ) → Fits (plus (strand_path q old).now (part q steps from to weight))
    → strand_path_of q now.steps.items weight' now.start now.blocks.items ≡ extends_by (part q steps from to weight) (strand_path q old)
all_stepped old now steps from to i weight weight' e w h order within laid q fits =
    let at = ap (upto q steps) (e order within) in
    let f0 = fits.0 in let f1 = fits.1 in
    let p = h.path laid q (omega arith) in
    let v = ap (λ (x : StrandPath). x.now.weight) p in
    let z = w (omega arith) in
    let P : ℕ → Type 0 = λ n. strand_path_of q now.steps.items weight' now.start now.blocks.items ≡ extends_by (path_with weight (n - upto q steps from)) (strand_path q old) in
    subst P at (weighed (strand_path q old) (strand_path q now).now (strand_path q now).blocks weight weight' (upto q steps i - upto q steps from) p (omega arith))

-- a spawn, the end of a child and a join do not increase the paths
abbrev pub Below : Path → Path → Type 0
Below a b = (a.weight ≤ b.weight) × (a.own ≤ b.own)

again_within : (n : Path) (ps : List SeenBlock) → Below (whole (again (make n ps))) (whole (make n ps))
again_within n [] = (omega arith, omega arith)
again_within n (p ∷ ps) = (omega arith, omega arith)

spawns_within : (first : Bool) (t : StrandPath) → Below (whole (spawns first t)) (whole t)
spawns_within true t = (omega arith, omega arith)
spawns_within false t = again_within t.now t.blocks

chooses_within : (x : Bool) (b l r c : Path) (ps : List SeenBlock) → Below (whole (chooses x b l r c ps)) (plus c (plus (plus b (plus l r)) (sum_of ps)))
chooses_within true b l r c ps = (omega arith, omega arith)
chooses_within false b l r c ps = (omega arith, omega arith)

ended_within : (b : Path) (l : Option Path) (r n : Path) (ps : List SeenBlock)
    → Below (whole (ends (make n (record { base = b; longest = l; rest = r } ∷ ps)))) (plus n (plus (plus b (plus (longest_path l) r)) (sum_of ps)))
ended_within b None r n ps = (omega arith, omega arith)
ended_within b (Some l) r n ps = chooses_within (nat_lt l.weight (r.weight + n.weight)) b l r n ps

ends_within : (n : Path) (ps : List SeenBlock) → Below (whole (ends (make n ps))) (whole (make n ps))
ends_within n [] = (omega arith, omega arith)
ends_within n (p ∷ ps) = ended_within p.base p.longest p.rest n ps

-- a child, and a piece, step by step
fits_same : (t u : StrandPath) → t ≡ u → Fits (whole u) → Fits (whole t)
fits_same t u e h = let P : StrandPath → Type 0 = λ x. Fits (whole x) in subst P (sym e) h

pub forks_within : (first : Bool) (p : Path) (t : StrandPath) → Below (whole (forks first p t)) (plus (whole t) p)
forks_within first p t =
    let a = spawns_within first t in let a0 = a.0 in let a1 = a.1 in
    let b = ends_within (extends_by p (spawns first t)).now (extends_by p (spawns first t)).blocks in let b0 = b.0 in let b1 = b.1 in
    (omega arith, omega arith)

pub forks_by : (first : Bool) (p : Path) (t t1 t2 t3 : StrandPath) → t1 ≡ spawns first t → (Fits (plus t1.now p) → t2 ≡ extends_by p t1)
    → (Fits (whole t2) → t3 ≡ ends t2) → Fits (plus (whole t) p) → t3 ≡ forks first p t
forks_by first p t t1 t2 t3 s e n fits =
    let f0 = fits.0 in let f1 = fits.1 in
    let a = spawns_within first t in let a0 = a.0 in let a1 = a.1 in
    let w = ap (λ (x : StrandPath). x.now.weight) s in let o = ap (λ (x : StrandPath). x.now.own) s in
    let e2 = e (omega arith, omega arith) ∙ ap (extends_by p) s in
    n (fits_same t2 (extends_by p (spawns first t)) e2 (omega arith, omega arith)) ∙ ap ends e2

-- the paths of a piece
abbrev pub piece_with : (base : Path) → Option Path → (rest now : Path) → StrandPath
piece_with b l r n = make n (record { base = b; longest = l; rest = r } ∷ [])

pub appends_none : (first : Bool) (b n r : Path) (l : Option Path) (t t1 t2 : StrandPath) → l ≡ None → (Fits (plus t.now b) → t1 ≡ extends_by b t)
    → (Fits (plus t1.now n) → t2 ≡ extends_by n t1) → Fits (plus (whole t) (whole (piece_with b l r n))) → t2 ≡ appends_block first b l n t
appends_none first b n r l t t1 t2 z e g fits =
    let f0 = fits.0 in let f1 = fits.1 in
    let e1 = e (omega arith, omega arith) in
    let w = ap (λ (x : StrandPath). x.now.weight) e1 in let o = ap (λ (x : StrandPath). x.now.own) e1 in
    g (omega arith, omega arith) ∙ ap (extends_by n) e1 ∙ ap (λ (x : Option Path). appends_block first b x n t) (sym z)

pub appends_some : (first : Bool) (b n r c : Path) (l : Option Path) (t t1 t2 t3 : StrandPath) → l ≡ Some c
    → (Fits (plus t.now b) → t1 ≡ extends_by b t) → (Fits (plus (whole t1) c) → t2 ≡ forks first c t1) → (Fits (plus t2.now n) → t3 ≡ extends_by n t2)
    → Fits (plus (whole t) (whole (piece_with b l r n))) → t3 ≡ appends_block first b l n t
appends_some first b n r c l t t1 t2 t3 z e f g fits =
    let f0 = fits.0 in let f1 = fits.1 in
    let lw = ap (λ (x : Option Path). (longest_path x).weight) z in let lo = ap (λ (x : Option Path). (longest_path x).own) z in
    let e1 = e (omega arith, omega arith) in
    let w1 = ap (λ (x : StrandPath). (whole x).weight) e1 in let o1 = ap (λ (x : StrandPath). (whole x).own) e1 in
    let e2 = f (omega arith, omega arith) in
    let w2 = ap (λ (x : StrandPath). x.now.weight) e2 in let o2 = ap (λ (x : StrandPath). x.now.own) e2 in
    let k = forks_within first c t1 in let k0 = k.0 in let k1 = k.1 in
    g (omega arith, omega arith) ∙ ap (extends_by n) (e2 ∙ ap (forks first c) e1) ∙ ap (λ (x : Option Path). appends_block first b x n t) (sym z)

-- the innermost block is at most the sum of all
pub fits_block : (t u : StrandPath) (n : Path) (p : SeenBlock) (ps : List SeenBlock) → u ≡ make n (p ∷ ps) → Fits (plus (whole t) (whole u)) → Fits (plus (whole t) (whole (make n (p ∷ []))))
fits_block t u n p ps e fits =
    let f0 = fits.0 in let f1 = fits.1 in
    let w = ap (λ (x : StrandPath). (whole x).weight) e in let o = ap (λ (x : StrandPath). (whole x).own) e in
    (omega arith, omega arith)
