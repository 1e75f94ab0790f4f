-- The recorded paths have the weights of the block that codes represent. The weight of the block's path is the burdened
-- span of its tree.
use Rattle.std.proofs.Common.{◌≡◌, ℕ, ◌+◌, Bool, true, false, List, [], ◌∷◌, ◌++◌, Some, length, length-append, arith, refl, ap, ap₂, sym, ◌∙◌, subst}
use Rattle.std.specs.Prelude.{max}
use Rattle.std.proofs.lemmas.List.{same_from_push}
use Rattle.std.proofs.lemmas.Option.{none-some, same_Some}
use Rattle.cw_model.specs.Trees.{Tree, Leaf, Seq, Par, Marked, burdened_span}
use Rattle.cw_model.specs.declared.burden.Burden.{Burden}
use Rattle.cw_model.specs.Burdens.{at_child, at_rest}
use Rattle.cw_greedy.specs.declared.code.Code.{Code}
use Rattle.cw_greedy.specs.declared.code.Code.TheVariants.{Instructions, Spawned, Ended, Joined}
use Rattle.cw_greedy.specs.Blocks.{add_before, put_before, block_of}
use Rattle.cw_greedy.specs.Jumping.{StrandBlock, Last, Fork}
use Rattle.cw_greedy_schedule.specs.declared.weights.Spawn.{Spawn}
use Rattle.cw_greedy_schedule.specs.declared.weights.Ways.{Ways}
use Rattle.cw_greedy_schedule.specs.Reading.{Frame, InChild, InRest, add_at_end, fork_at_end, joined, read}
use Rattle.cw_greedy_schedule.specs.Weighed.{path_of, after_join, counted, spawn, spawn_of, spawns_of, Weighs, WillWeigh, WillJoin}
use Rattle.cw_greedy_schedule.proofs.Plans.{read_joined}

-- the weight of the heaviest path through a block is the span of its tree
path_before : (burden : Burden) → (k : ℕ) (b : StrandBlock) → path_of burden (add_before k b) ≡ k + path_of burden b
path_before burden k (Last n) = refl
path_before burden k (Fork n c r a) = omega arith

path_put : (burden : Burden) → (t : Tree) (b : StrandBlock) → path_of burden (put_before t b) ≡ burdened_span burden t + path_of burden b
path_put burden (Leaf k) b = path_before burden k b
path_put burden (Seq t u) b = omega (arith, path_put burden t (put_before u b), path_put burden u b)
path_put burden (Par c r) b =
    let child : path_of burden (put_before c (Last 0)) ≡ burdened_span burden c = omega (arith, path_put burden c (Last 0)) in
    let rest : path_of burden (put_before r (Last 0)) ≡ burdened_span burden r = omega (arith, path_put burden r (Last 0)) in
    let both : max (at_child burden + path_of burden (put_before c (Last 0))) (at_rest burden + path_of burden (put_before r (Last 0)))
    ≡ max (at_child burden + burdened_span burden c) (at_rest burden + burdened_span burden r) =
    ap₂ (λ (m n : ℕ). max (at_child burden + m) (at_rest burden + n)) child rest in
    omega (arith, both)
path_put burden (Marked mark t) b = path_put burden t b

pub path_is_span : (burden : Burden) → (t : Tree) → path_of burden (block_of t) ≡ burdened_span burden t
path_is_span burden t = omega (arith, path_put burden t (Last 0))

-- the path after an addition at the end of a block
path_end : (burden : Burden) → (b : StrandBlock) (n : ℕ) → path_of burden (add_at_end b n) ≡ path_of burden b + n
path_end burden (Last k) n = refl
path_end burden (Fork k c r a) n = omega (arith, path_end burden a n)

path_fork : (burden : Burden) → (b c r : StrandBlock) → path_of burden (fork_at_end b c r) ≡ path_of burden b + max (at_child burden + path_of burden c) (at_rest burden + path_of burden r)
path_fork burden (Last k) c r = omega arith
path_fork burden (Fork k d q a) c r = omega (arith, path_fork burden a c r)

-- sums that saturate at the largest number
pub counted_sum : (a b : ℕ) → counted (counted a + b) ≡ counted (a + b)
counted_sum a b = omega arith

counted_join : (burden : Burden) (before child rest : ℕ)
    → after_join burden (counted before) (counted child) (counted rest) ≡ counted (before + max (at_child burden + child) (at_rest burden + rest))
counted_join burden before child rest = omega arith

-- after more instructions, the paths will still be the paths of the block
pub weighs_work : (burden : Burden) → (block : StrandBlock) (n : ℕ) (codes : List Code) (w w' : Ways) → WillWeigh burden block (Instructions n ∷ codes) w
    → w'.path ≡ counted (w.path + n) → w'.spawns.items ≡ w.spawns.items → WillWeigh burden block codes w'
weighs_work burden block n codes w w' h e f = record {
  frames = h.frames;
  begun = add_at_end h.begun n;
  weighs = record {
    path = e ∙ ap (λ p. counted (p + n)) h.weighs.path ∙ counted_sum (path_of burden h.begun) n ∙ ap counted (sym (path_end burden h.begun n));
    spawns = f ∙ h.weighs.spawns;
  };
  reads = h.reads;
}

pub weighs_spawn : (burden : Burden) → (block : StrandBlock) (first : Bool) (codes : List Code) (w w' : Ways) → WillWeigh burden block (Spawned first ∷ codes) w
    → w'.path ≡ 0 → w'.spawns.items ≡ w.spawns.items ++ spawn w.path 0 first ∷ [] → WillWeigh burden block codes w'
weighs_spawn burden block first codes w w' h e f = record {
  frames = InChild first h.begun ∷ h.frames;
  begun = Last 0;
  weighs = record {
    path = e;
    spawns = f ∙ ap₂ (λ (xs : List Spawn) (p : ℕ). xs ++ spawn p 0 first ∷ []) h.weighs.spawns h.weighs.path;
  };
  reads = h.reads;
}

end_of : (burden : Burden) → (block : StrandBlock) (codes : List Code) (w w' : Ways) (frames : List Frame) (begun : StrandBlock) → Weighs burden frames begun w
    → read (Ended ∷ codes) frames begun ≡ Some block → w'.path ≡ 0
    → ((outer : List Spawn) (top : Spawn) → w.spawns.items ≡ outer ++ top ∷ [] → w'.spawns.items ≡ outer ++ spawn top.before w.path top.first ∷ [])
    → WillWeigh burden block codes w'
end_of burden block codes w w' [] begun h e z f = absurd (none-some block e)
end_of burden block codes w w' (InRest first before child ∷ frames) begun h e z f = absurd (none-some block e)
end_of burden block codes w w' (InChild first before ∷ frames) begun h e z f = record {
  frames = InRest first before begun ∷ frames;
  begun = Last 0;
  weighs = record {
    path = z;
    spawns = f (spawns_of burden frames) (spawn_of burden (InChild first before)) h.spawns
        ∙ ap (λ (p : ℕ). spawns_of burden frames ++ spawn (counted (path_of burden before)) p first ∷ []) h.path;
  };
  reads = e;
}

pub weighs_end : (burden : Burden) → (block : StrandBlock) (codes : List Code) (w w' : Ways) → WillWeigh burden block (Ended ∷ codes) w → w'.path ≡ 0
    → ((outer : List Spawn) (top : Spawn) → w.spawns.items ≡ outer ++ top ∷ [] → w'.spawns.items ≡ outer ++ spawn top.before w.path top.first ∷ [])
    → WillWeigh burden block codes w'
weighs_end burden block codes w w' h z f = end_of burden block codes w w' h.frames h.begun h.weighs h.reads z f

-- one join of several: it is the last one, or others are left
abbrev pub Left : (burden : Burden) → (first : Bool) → (end : List Frame × StrandBlock) → Ways → Type 0
Left burden true end w = Weighs burden end.0 end.1 w
Left burden false end w = WillJoin burden end w

one_joined : (burden : Burden) → (frames : List Frame) (first : Bool) (b child begun : StrandBlock) (w w' : Ways) (outer : List Spawn) (top : Spawn)
    → Weighs burden (InRest first b child ∷ frames) begun w → w.spawns.items ≡ outer ++ top ∷ []
    → w'.path ≡ after_join burden top.before top.child w.path → w'.spawns.items ≡ outer
    → Weighs burden frames (fork_at_end b child begun) w' × (top.first ≡ first)
one_joined burden frames first b child begun w w' outer top h s e f =
    let same = same_from_push outer (spawns_of burden frames) top (spawn_of burden (InRest first b child)) (sym s ∙ h.spawns) in (
      record {
        path = e ∙ ap₂ (λ (o : Spawn) (p : ℕ). after_join burden o.before o.child p) same.1 h.path
            ∙ counted_join burden (path_of burden b) (path_of burden child) (path_of burden begun) ∙ ap counted (sym (path_fork burden b child begun));
        spawns = f ∙ same.0;
      },
      ap (λ (o : Spawn). o.first) same.1,
    )

step : (burden : Burden) → (end : List Frame × StrandBlock) (w w' : Ways) (outer : List Spawn) (top : Spawn) (frames : List Frame) (begun : StrandBlock)
    → Weighs burden frames begun w → joined frames begun ≡ Some end → w.spawns.items ≡ outer ++ top ∷ []
    → w'.path ≡ after_join burden top.before top.child w.path → w'.spawns.items ≡ outer → Left burden top.first end w'
step burden end w w' outer top [] begun h j s e f = absurd (none-some end j)
step burden end w w' outer top (InChild first c ∷ frames) begun h j s e f = absurd (none-some end j)
step burden end w w' outer top (InRest true c child ∷ frames) begun h j s e f =
    let one = one_joined burden frames true c child begun w w' outer top h s e f in
    subst (λ b. Left burden b end w') (sym one.1) (subst (λ (x : List Frame × StrandBlock). Weighs burden x.0 x.1 w') (same_Some {A = List Frame × StrandBlock} (frames, fork_at_end c child begun) end j) one.0)
step burden end w w' outer top (InRest false c child ∷ frames) begun h j s e f =
    let one = one_joined burden frames false c child begun w w' outer top h s e f in
    let left : WillJoin burden end w' = record { frames = frames; begun = fork_at_end c child begun; weighs = one.0; joins = j } in
    subst (λ b. Left burden b end w') (sym one.1) left

pub joins_step : (burden : Burden) → (end : List Frame × StrandBlock) (w w' : Ways) (outer : List Spawn) (top : Spawn) → WillJoin burden end w
    → w.spawns.items ≡ outer ++ top ∷ [] → w'.path ≡ after_join burden top.before top.child w.path → w'.spawns.items ≡ outer
    → Left burden top.first end w'
joins_step burden end w w' outer top h s e f = step burden end w w' outer top h.frames h.begun h.weighs h.joins s e f

-- a block that will be joined has an open spawn
open_spawn : (burden : Burden) → (end : List Frame × StrandBlock) (w : Ways) (frames : List Frame) (begun : StrandBlock) → Weighs burden frames begun w
    → joined frames begun ≡ Some end → length w.spawns.items ≡ 0 → ⊥
open_spawn burden end w [] begun h j s = none-some end j
open_spawn burden end w (frame ∷ frames) begun h j s =
    let f = ap length h.spawns in
    omega (arith, s, f, length-append (spawns_of burden frames) (spawn_of burden frame ∷ []))

pub joins_some : (burden : Burden) → (end : List Frame × StrandBlock) (w : Ways) → WillJoin burden end w → length w.spawns.items ≡ 0 → ⊥
joins_some burden end w h s = open_spawn burden end w h.frames h.begun h.weighs h.joins s

pub weighs_join : (burden : Burden) → (block : StrandBlock) (codes : List Code) (w w' : Ways) → WillWeigh burden block (Joined ∷ codes) w
    → ((end : List Frame × StrandBlock) → WillJoin burden end w → Weighs burden end.0 end.1 w') → WillWeigh burden block codes w'
weighs_join burden block codes w w' h f =
    let r = read_joined block codes (joined h.frames h.begun) h.reads in
    record {
      frames = r.0.0;
      begun = r.0.1;
      weighs = f r.0 (record { frames = h.frames; begun = h.begun; weighs = h.weighs; joins = r.1.0 });
      reads = r.1.1;
    }

-- with all codes read, the paths are the paths of the block
whole : (burden : Burden) → (block : StrandBlock) (w : Ways) (frames : List Frame) (begun : StrandBlock) → Weighs burden frames begun w → read [] frames begun ≡ Some block
    → w.path ≡ counted (path_of burden block)
whole burden block w [] begun h e = h.path ∙ ap (λ b. counted (path_of burden b)) (same_Some begun block e)
whole burden block w (frame ∷ frames) begun h e = absurd (none-some block e)

pub weighs_all : (burden : Burden) → (block : StrandBlock) (w : Ways) → WillWeigh burden block [] w → w.path ≡ counted (path_of burden block)
weighs_all burden block w h = whole burden block w h.frames h.begun h.weighs h.reads
