-- The codes of a tree are read as its block.
use Rattle.std.proofs.Common.{◌≡◌, ℕ, zero, suc, ◌+◌, true, false, List, [], ◌∷◌, ◌++◌, Option, Some, None, Ok, append_assoc, append-nil, arith, refl, ap, sym, ◌∙◌}
use Rattle.cw_model.specs.Trees.{Tree, Leaf, Seq, Par, Marked, Mark, Invocation, Execution, work}
use Rattle.cw_greedy.specs.declared.code.Code.{Code}
use Rattle.cw_greedy.specs.declared.code.Code.TheVariants.{Instructions, Spawned, Ended, Joined, Called}
use Rattle.cw_greedy.specs.Jumping.{StrandBlock, Last, Fork}
use Rattle.cw_greedy.specs.Blocks.{add_before, put_before, block_of, Position, InSeries, AsChild, AsRest, codes_of}
use Rattle.cw_greedy.specs.Records.{instructions_before, merged, IsRecordOf}
use Rattle.cw_greedy.specs.Counts.{spawns_in}
use Rattle.cw_greedy_schedule.proofs.Chunks.{instructions-append, spawned-append}
use Rattle.cw_greedy_schedule.specs.Reading.{Frame, InChild, InRest, add_at_end, fork_at_end, joined, after_join, read, instructions, spawned}

-- a tree added at the end of a block
abbrev at_end : StrandBlock → Tree → StrandBlock
at_end (Last k) t = add_before k (put_before t (Last 0))
at_end (Fork k c r a) t = Fork k c r (at_end a t)

none_before : (b : StrandBlock) → add_before 0 b ≡ b
none_before (Last k) = let e : 0 + k ≡ k = omega arith in ap Last e
none_before (Fork k c r a) = let e : 0 + k ≡ k = omega arith in ap (λ n. Fork n c r a) e

more_before : (j k : ℕ) (b : StrandBlock) → add_before j (add_before k b) ≡ add_before (j + k) b
more_before j k (Last n) = let e : j + (k + n) ≡ (j + k) + n = omega arith in ap Last e
more_before j k (Fork n c r a) = let e : j + (k + n) ≡ (j + k) + n = omega arith in ap (λ m. Fork m c r a) e

end_added : (k : ℕ) (b : StrandBlock) (t : Tree) → at_end (add_before k b) t ≡ add_before k (at_end b t)
end_added k (Last n) t = sym (more_before k n (put_before t (Last 0)))
end_added k (Fork n c r a) t = refl

end_put : (t : Tree) (b : StrandBlock) (u : Tree) → at_end (put_before t b) u ≡ put_before t (at_end b u)
end_put (Leaf k) b u = end_added k b u
end_put (Seq s t) b u = end_put s (put_before t b) u ∙ ap (put_before s) (end_put t b u)
end_put (Par c r) b u = refl
end_put (Marked mark t) b u = end_put t b u

end_series : (b : StrandBlock) (t u : Tree) → at_end (at_end b t) u ≡ at_end b (Seq t u)
end_series (Last k) t u =
    end_added k (put_before t (Last 0)) u
    ∙ ap (add_before k) (end_put t (Last 0) u ∙ ap (put_before t) (none_before (put_before u (Last 0))))
end_series (Fork k c r a) t u = ap (Fork k c r) (end_series a t u)

end_leaf : (b : StrandBlock) (k : ℕ) → at_end b (Leaf k) ≡ add_at_end b k
end_leaf (Last n) k = let e : n + (k + 0) ≡ n + k = omega arith in ap Last e
end_leaf (Fork n c r a) k = ap (Fork n c r) (end_leaf a k)

end_fork : (b : StrandBlock) (t u : Tree) → at_end b (Par t u) ≡ fork_at_end b (block_of t) (block_of u)
end_fork (Last k) t u = let e : k + 0 ≡ k = omega arith in ap (λ n. Fork n (block_of t) (block_of u) (Last 0)) e
end_fork (Fork k c r a) t u = ap (Fork k c r) (end_fork a t u)

end_marked : (b : StrandBlock) (mark : Mark) (t : Tree) → at_end b (Marked mark t) ≡ at_end b t
end_marked (Last k) mark t = refl
end_marked (Fork k c r a) mark t = ap (Fork k c r) (end_marked a mark t)

end_of_none : (t : Tree) → at_end (Last 0) t ≡ block_of t
end_of_none t = none_before (put_before t (Last 0))

-- reading the codes of a tree adds the tree at the end of the block that has begun; for a tree at the end of a
-- continuation, before the join
abbrev Reads : Position → Tree → Type 0
Reads InSeries t = (codes : List Code) (frames : List Frame) (b : StrandBlock) → read (codes_of InSeries t ++ codes) frames b ≡ read codes frames (at_end b t)
Reads AsChild t = (codes : List Code) (frames : List Frame) (b : StrandBlock) → read (codes_of AsChild t ++ codes) frames b ≡ read codes frames (at_end b t)
Reads AsRest t =
    (codes : List Code) (frames : List Frame) (b : StrandBlock) → read (codes_of AsRest t ++ Joined ∷ codes) frames b ≡ read (Joined ∷ codes) frames (at_end b t)

fork_is : (b : StrandBlock) (t u : Tree) → fork_at_end b (at_end (Last 0) t) (at_end (Last 0) u) ≡ at_end b (Par t u)
fork_is b t u =
    ap (λ c. fork_at_end b c (at_end (Last 0) u)) (end_of_none t)
    ∙ ap (fork_at_end b (block_of t)) (end_of_none u) ∙ sym (end_fork b t u)

read_series : (t u : Tree) → Reads InSeries t → Reads InSeries u → (codes : List Code) (frames : List Frame) (b : StrandBlock) →
    read ((codes_of InSeries t ++ codes_of InSeries u) ++ codes) frames b ≡ read codes frames (at_end b (Seq t u))
read_series t u f g codes frames b =
    ap (λ l. read l frames b) (append_assoc (codes_of InSeries t) (codes_of InSeries u) codes)
    ∙ f (codes_of InSeries u ++ codes) frames b ∙ g codes frames (at_end b t) ∙ ap (read codes frames) (end_series b t u)

read_fork : (t u : Tree) → Reads AsChild t → Reads AsRest u → (codes : List Code) (frames : List Frame) (b : StrandBlock) →
    read ((codes_of AsChild t ++ Ended ∷ (codes_of AsRest u ++ Joined ∷ [])) ++ codes) (InChild true b ∷ frames) (Last 0) ≡ read codes frames (at_end b (Par t u))
read_fork t u f g codes frames b =
    let rest = codes_of AsRest u in
    let inner = InRest true b (at_end (Last 0) t) ∷ frames in
    ap (λ l. read l (InChild true b ∷ frames) (Last 0)) (append_assoc (codes_of AsChild t) (Ended ∷ (rest ++ Joined ∷ [])) codes)
    ∙ f (Ended ∷ ((rest ++ Joined ∷ []) ++ codes)) (InChild true b ∷ frames) (Last 0)
    ∙ ap (λ l. read l inner (Last 0)) (append_assoc rest (Joined ∷ []) codes)
    ∙ g codes inner (Last 0)
    ∙ ap (read codes frames) (fork_is b t u)

read_last_fork : (t u : Tree) → Reads AsChild t → Reads AsRest u → (codes : List Code) (frames : List Frame) (b : StrandBlock) →
    read ((codes_of AsChild t ++ Ended ∷ codes_of AsRest u) ++ Joined ∷ codes) (InChild false b ∷ frames) (Last 0) ≡ read (Joined ∷ codes) frames (at_end b (Par t u))
read_last_fork t u f g codes frames b =
    ap (λ l. read l (InChild false b ∷ frames) (Last 0)) (append_assoc (codes_of AsChild t) (Ended ∷ codes_of AsRest u) (Joined ∷ codes))
    ∙ f (Ended ∷ (codes_of AsRest u ++ Joined ∷ codes)) (InChild false b ∷ frames) (Last 0)
    ∙ g codes (InRest false b (at_end (Last 0) t) ∷ frames) (Last 0)
    ∙ ap (read (Joined ∷ codes) frames) (fork_is b t u)

read_call : (t : Tree) (mark : Mark) → Reads InSeries t → (codes : List Code) (frames : List Frame) (b : StrandBlock) →
    read ((codes_of InSeries t ++ Called ∷ []) ++ codes) frames b ≡ read codes frames (at_end b (Marked mark t))
read_call t mark f codes frames b =
    ap (λ l. read l frames b) (append_assoc (codes_of InSeries t) (Called ∷ []) codes)
    ∙ f (Called ∷ codes) frames b ∙ ap (read codes frames) (sym (end_marked b mark t))

reads : (t : Tree) (at : Position) → Reads at t
reads (Leaf k) InSeries = λ codes frames b. ap (read codes frames) (sym (end_leaf b k))
reads (Leaf k) AsChild = λ codes frames b. ap (read codes frames) (sym (end_leaf b k))
reads (Leaf k) AsRest = λ codes frames b. ap (read (Joined ∷ codes) frames) (sym (end_leaf b k))
reads (Seq t u) InSeries = λ codes frames b. read_series t u (reads t InSeries) (reads u InSeries) codes frames b
reads (Seq t u) AsChild = λ codes frames b. read_series t u (reads t InSeries) (reads u InSeries) codes frames b
reads (Seq t u) AsRest = λ codes frames b.
    ap (λ l. read l frames b) (append_assoc (codes_of InSeries t) (codes_of AsRest u) (Joined ∷ codes))
    ∙ reads t InSeries (codes_of AsRest u ++ Joined ∷ codes) frames b
    ∙ reads u AsRest codes frames (at_end b t)
    ∙ ap (read (Joined ∷ codes) frames) (end_series b t u)
reads (Par t u) InSeries = λ codes frames b. read_fork t u (reads t AsChild) (reads u AsRest) codes frames b
reads (Par t u) AsChild = λ codes frames b. read_fork t u (reads t AsChild) (reads u AsRest) codes frames b
reads (Par t u) AsRest = λ codes frames b. read_last_fork t u (reads t AsChild) (reads u AsRest) codes frames b
reads (Marked mark t) AsChild = λ codes frames b. reads t InSeries codes frames b ∙ ap (read codes frames) (sym (end_marked b mark t))
reads (Marked (Invocation site) t) InSeries = λ codes frames b. read_call t (Invocation site) (reads t InSeries) codes frames b
reads (Marked (Execution tag) t) InSeries = λ codes frames b.
    reads t InSeries codes frames b ∙ ap (read codes frames) (sym (end_marked b (Execution tag) t))
reads (Marked (Invocation site) t) AsRest = λ codes frames b. read_call t (Invocation site) (reads t InSeries) (Joined ∷ codes) frames b
reads (Marked (Execution tag) t) AsRest = λ codes frames b.
    reads t InSeries (Joined ∷ codes) frames b ∙ ap (read (Joined ∷ codes) frames) (sym (end_marked b (Execution tag) t))

-- merged codes represent the same block
add_none : (b : StrandBlock) → add_at_end b 0 ≡ b
add_none (Last k) = let e : k + 0 ≡ k = omega arith in ap Last e
add_none (Fork k c r a) = ap (Fork k c r) (add_none a)

add_twice : (b : StrandBlock) (m n : ℕ) → add_at_end b (m + n) ≡ add_at_end (add_at_end b m) n
add_twice (Last k) m n = let e : k + (m + n) ≡ (k + m) + n = omega arith in ap Last e
add_twice (Fork k c r a) m n = ap (Fork k c r) (add_twice a m n)

reads_before : (n : ℕ) (codes : List Code) (frames : List Frame) (b : StrandBlock) → read (instructions_before n codes) frames b ≡ read codes frames (add_at_end b n)
reads_before zero codes frames b = ap (read codes frames) (sym (add_none b))
reads_before (suc n) [] frames b = refl
reads_before (suc n) (Instructions m ∷ codes) frames b = ap (read codes frames) (add_twice b (suc n) m)
reads_before (suc n) (Spawned first ∷ codes) frames b = refl
reads_before (suc n) (Ended ∷ codes) frames b = refl
reads_before (suc n) (Joined ∷ codes) frames b = refl
reads_before (suc n) (Called ∷ codes) frames b = refl

same_after : (f g : List Frame → StrandBlock → Option StrandBlock) → ((frames : List Frame) (b : StrandBlock) → f frames b ≡ g frames b) →
    (o : Option (List Frame × StrandBlock)) → after_join f o ≡ after_join g o
same_after f g same None = refl
same_after f g same (Some state) = same state.0 state.1

reads_merged : (codes : List Code) (frames : List Frame) (b : StrandBlock) → read (merged codes) frames b ≡ read codes frames b
reads_merged [] frames b = refl
reads_merged (Instructions n ∷ codes) frames b = reads_before n (merged codes) frames b ∙ reads_merged codes frames (add_at_end b n)
reads_merged (Spawned first ∷ codes) frames b = reads_merged codes (InChild first b ∷ frames) (Last 0)
reads_merged (Ended ∷ codes) [] b = refl
reads_merged (Ended ∷ codes) (InChild first before ∷ frames) b = reads_merged codes (InRest first before b ∷ frames) (Last 0)
reads_merged (Ended ∷ codes) (InRest first before child ∷ frames) b = refl
reads_merged (Joined ∷ codes) frames b =
    same_after (λ more later. read (merged codes) more later) (λ more later. read codes more later) (reads_merged codes) (joined frames b)
reads_merged (Called ∷ codes) frames b = reads_merged codes frames b

-- the codes have the instructions of the tree
sum_before : (n : ℕ) (codes : List Code) → instructions (instructions_before n codes) ≡ n + instructions codes
sum_before zero codes = omega arith
sum_before (suc n) [] = refl
sum_before (suc n) (Instructions m ∷ codes) = omega arith
sum_before (suc n) (Spawned first ∷ codes) = refl
sum_before (suc n) (Ended ∷ codes) = refl
sum_before (suc n) (Joined ∷ codes) = refl
sum_before (suc n) (Called ∷ codes) = refl

sum_merged : (codes : List Code) → instructions (merged codes) ≡ instructions codes
sum_merged [] = refl
sum_merged (Instructions n ∷ codes) = sum_before n (merged codes) ∙ ap (λ m. n + m) (sum_merged codes)
sum_merged (Spawned first ∷ codes) = sum_merged codes
sum_merged (Ended ∷ codes) = sum_merged codes
sum_merged (Joined ∷ codes) = sum_merged codes
sum_merged (Called ∷ codes) = sum_merged codes

sum_call : (codes : List Code) → instructions (codes ++ Called ∷ []) ≡ instructions codes
sum_call codes = omega (arith, instructions-append codes (Called ∷ []))

sum_fork : (child rest : List Code) → instructions (child ++ Ended ∷ (rest ++ Joined ∷ [])) ≡ instructions child + instructions rest
sum_fork child rest = omega (arith, instructions-append child (Ended ∷ (rest ++ Joined ∷ [])), instructions-append rest (Joined ∷ []))

sum_of : (at : Position) (t : Tree) → instructions (codes_of at t) ≡ work t
sum_of at (Leaf k) = omega arith
sum_of InSeries (Seq t u) = omega (arith, instructions-append (codes_of InSeries t) (codes_of InSeries u), sum_of InSeries t, sum_of InSeries u)
sum_of AsChild (Seq t u) = omega (arith, instructions-append (codes_of InSeries t) (codes_of InSeries u), sum_of InSeries t, sum_of InSeries u)
sum_of AsRest (Seq t u) = omega (arith, instructions-append (codes_of InSeries t) (codes_of AsRest u), sum_of InSeries t, sum_of AsRest u)
sum_of InSeries (Par t u) = omega (arith, sum_fork (codes_of AsChild t) (codes_of AsRest u), sum_of AsChild t, sum_of AsRest u)
sum_of AsChild (Par t u) = omega (arith, sum_fork (codes_of AsChild t) (codes_of AsRest u), sum_of AsChild t, sum_of AsRest u)
sum_of AsRest (Par t u) = omega (arith, instructions-append (codes_of AsChild t) (Ended ∷ codes_of AsRest u), sum_of AsChild t, sum_of AsRest u)
sum_of AsChild (Marked mark t) = sum_of InSeries t
sum_of InSeries (Marked (Execution tag) t) = sum_of InSeries t
sum_of InSeries (Marked (Invocation site) t) = sum_call (codes_of InSeries t) ∙ sum_of InSeries t
sum_of AsRest (Marked (Execution tag) t) = sum_of InSeries t
sum_of AsRest (Marked (Invocation site) t) = sum_call (codes_of InSeries t) ∙ sum_of InSeries t

-- the codes of a record represent its block and have its work
pub record_is_read : (t : Tree) (codes : List Code) → IsRecordOf t (Ok codes) → read codes [] (Last 0) ≡ Some (block_of t)
record_is_read t codes h =
    let own = codes_of AsChild t in
    let e : own ++ [] ≡ own = append-nil own in
    sym (reads_merged codes [] (Last 0)) ∙ ap (λ l. read l [] (Last 0)) h ∙ reads_merged own [] (Last 0)
    ∙ ap (λ l. read l [] (Last 0)) (sym e) ∙ reads t AsChild [] [] (Last 0) ∙ ap Some (end_of_none t)

pub record_has_work : (t : Tree) (codes : List Code) → IsRecordOf t (Ok codes) → instructions codes ≡ work t
record_has_work t codes h = sym (sum_merged codes) ∙ ap instructions h ∙ sum_merged (codes_of AsChild t) ∙ sum_of AsChild t

-- the codes spawn the children of the tree
spawned_before : (n : ℕ) (codes : List Code) → spawned (instructions_before n codes) ≡ spawned codes
spawned_before zero codes = refl
spawned_before (suc n) [] = refl
spawned_before (suc n) (Instructions m ∷ codes) = refl
spawned_before (suc n) (Spawned first ∷ codes) = refl
spawned_before (suc n) (Ended ∷ codes) = refl
spawned_before (suc n) (Joined ∷ codes) = refl
spawned_before (suc n) (Called ∷ codes) = refl

spawned_merged : (codes : List Code) → spawned (merged codes) ≡ spawned codes
spawned_merged [] = refl
spawned_merged (Instructions n ∷ codes) = spawned_before n (merged codes) ∙ spawned_merged codes
spawned_merged (Spawned first ∷ codes) = ap (λ m. 1 + m) (spawned_merged codes)
spawned_merged (Ended ∷ codes) = spawned_merged codes
spawned_merged (Joined ∷ codes) = spawned_merged codes
spawned_merged (Called ∷ codes) = spawned_merged codes

spawned_fork : (child rest : List Code) → spawned (child ++ Ended ∷ (rest ++ Joined ∷ [])) ≡ spawned child + spawned rest
spawned_fork child rest = omega (arith, spawned-append child (Ended ∷ (rest ++ Joined ∷ [])), spawned-append rest (Joined ∷ []))

spawned_call : (codes : List Code) → spawned (codes ++ Called ∷ []) ≡ spawned codes
spawned_call codes = omega (arith, spawned-append codes (Called ∷ []))

spawned_of : (at : Position) (t : Tree) → spawned (codes_of at t) ≡ spawns_in t
spawned_of at (Leaf k) = refl
spawned_of InSeries (Seq t u) = omega (arith, spawned-append (codes_of InSeries t) (codes_of InSeries u), spawned_of InSeries t, spawned_of InSeries u)
spawned_of AsChild (Seq t u) = omega (arith, spawned-append (codes_of InSeries t) (codes_of InSeries u), spawned_of InSeries t, spawned_of InSeries u)
spawned_of AsRest (Seq t u) = omega (arith, spawned-append (codes_of InSeries t) (codes_of AsRest u), spawned_of InSeries t, spawned_of AsRest u)
spawned_of InSeries (Par t u) = omega (arith, spawned_fork (codes_of AsChild t) (codes_of AsRest u), spawned_of AsChild t, spawned_of AsRest u)
spawned_of AsChild (Par t u) = omega (arith, spawned_fork (codes_of AsChild t) (codes_of AsRest u), spawned_of AsChild t, spawned_of AsRest u)
spawned_of AsRest (Par t u) = omega (arith, spawned-append (codes_of AsChild t) (Ended ∷ codes_of AsRest u), spawned_of AsChild t, spawned_of AsRest u)
spawned_of AsChild (Marked mark t) = spawned_of InSeries t
spawned_of InSeries (Marked (Execution tag) t) = spawned_of InSeries t
spawned_of InSeries (Marked (Invocation site) t) = spawned_call (codes_of InSeries t) ∙ spawned_of InSeries t
spawned_of AsRest (Marked (Execution tag) t) = spawned_of InSeries t
spawned_of AsRest (Marked (Invocation site) t) = spawned_call (codes_of InSeries t) ∙ spawned_of InSeries t

pub record_has_spawns : (t : Tree) (codes : List Code) → IsRecordOf t (Ok codes) → spawned codes ≡ spawns_in t
record_has_spawns t codes h = sym (spawned_merged codes) ∙ ap spawned h ∙ spawned_merged (codes_of AsChild t) ∙ spawned_of AsChild t
