-- The recorded codes of a run, and the codes that each step adds.
use Rattle.std.specs.Prelude.{ℕ, zero, suc, ◌+◌, ◌≡◌, ◌≤◌, ◌<◌, Bool, true, false, Option, Some, None, Ok, Err, List, [], ◌∷◌, ◌++◌, refl}
use Rattle.std.proofs.Common.{arith, ap, sym, ◌∙◌}
use Rattle.std.proofs.lemmas.Bool.{true≢false}
use Rattle.std.proofs.lemmas.List.{append_assoc, append-nil}
use Rattle.cw_model.specs.Trees.{Tree, Seq, Mark, Invocation, Execution, Event, Work, Series, Join, parts_of, tree_of}
use Rattle.cw_model.specs.Trees as e
use Rattle.cw_measure.specs.OpenParts.{Open, has_spawned_from, has_spawned, no_joins, marked, part_of, closed}
use Rattle.cw_measure.specs.lemmas.OpenParts.{spawned_append}
use Rattle.cw_greedy.specs.Origins.{Origin, Main, Rest}
use Rattle.cw_greedy.specs.Runs.{ticked, synced, begun}
use Rattle.cw_greedy.specs.declared.code.Code.{Code}
use Rattle.cw_greedy.specs.declared.code.Code.TheVariants.{Instructions, Spawned, Ended, Joined, Called}
use Rattle.cw_model.specs.declared.limits.TheConstants.{MOST_STRANDS}
use Rattle.cw_greedy.specs.Recorded.{Recorded, capped, cuts, followed}
use Rattle.cw_greedy.specs.RecordLaws.{cuts-append, by_few, cut_small}
use Rattle.cw_greedy.specs.Records.{instructions_before}
use Rattle.cw_greedy.specs.Blocks.{InSeries, AsChild, codes_of, record_of, out_after}
use Rattle.cw_greedy.specs.Merging.{onto, Same, to_join}
use Rattle.cw_greedy.specs.Recording.{opening, ending, of_whole, begins_out, out_in, codes_in, ending_in, Keeps, IsFromMain, IsOpen}
use Rattle.cw_greedy.proofs.Merged.{onto-append, instructions_twice, same_before, same_both, same_through, nothing_behind, of_tree}

-- merging does not change the number of cuts
cuts_before : (n : ℕ) (codes : List Code) → cuts (instructions_before n codes) ≡ cuts codes
cuts_before zero codes = refl
cuts_before (suc n) [] = omega arith
cuts_before (suc n) (Instructions m ∷ codes) = refl
cuts_before (suc n) (Spawned first ∷ codes) = omega arith
cuts_before (suc n) (Ended ∷ codes) = omega arith
cuts_before (suc n) (Joined ∷ codes) = omega arith
cuts_before (suc n) (Called ∷ codes) = omega arith

cuts_onto : (xs later : List Code) → cuts (onto xs later) ≡ cuts xs + cuts later
cuts_onto [] later = omega arith
cuts_onto (Instructions n ∷ xs) later = let a = cuts_before n (onto xs later) in omega (arith, a, cuts_onto xs later)
cuts_onto (Spawned first ∷ xs) later = omega (arith, cuts_onto xs later)
cuts_onto (Ended ∷ xs) later = omega (arith, cuts_onto xs later)
cuts_onto (Joined ∷ xs) later = omega (arith, cuts_onto xs later)
cuts_onto (Called ∷ xs) later = omega (arith, cuts_onto xs later)

pub same_cuts : (xs ys : List Code) → Same xs ys → cuts xs ≡ cuts ys
same_cuts xs ys h =
    let a = cuts_onto xs [] in
    let b = cuts_onto ys [] in
    let c : cuts (onto xs []) ≡ cuts (onto ys []) = ap cuts (h []) in
    omega (arith, a, b, c)

-- a record of codes is a record of equal codes
pub keeps_as : (since : ℕ) (a b : List Code) (k : Recorded) → Same a b → Keeps since a k → Keeps since b k
keeps_as since a b (Err n) s h = let c = same_cuts a b s in (omega (arith, c, h.0), omega (arith, c, h.1))
keeps_as since a b (Ok kept) s h = (h.0, same_through (kept ++ Instructions since ∷ []) a b h.1 s)

-- further instructions need no code
pub keeps_later : (since more : ℕ) (a : List Code) (k : Recorded) → Keeps since a k → Keeps (since + more) (a ++ Instructions more ∷ []) k
keeps_later since more a (Err n) h = let c = cuts-append a (Instructions more ∷ []) in (omega (arith, c, h.0), omega (arith, c, h.1))
keeps_later since more a (Ok kept) h = (
  h.0,
  λ l.
      onto-append kept (Instructions (since + more) ∷ []) l
      ∙ ap (onto kept) (sym (instructions_twice since more l))
      ∙ sym (onto-append kept (Instructions since ∷ []) (instructions_before more l))
      ∙ h.1 (instructions_before more l)
      ∙ sym (onto-append a (Instructions more ∷ []) l),
)

one_more : (P : Recorded → Type 0) (kept : List Code) (c : Code) → (cuts (kept ++ c ∷ []) < MOST_STRANDS → P (Ok (kept ++ c ∷ [])))
    → (MOST_STRANDS ≤ cuts (kept ++ c ∷ []) → P (Err (capped (cuts (kept ++ c ∷ []))))) → P (followed (Ok kept) (Ok (c ∷ [])))
one_more P [] c f g = f (omega (arith, cut_small c))
one_more P (d ∷ kept) c f g = by_few P (d ∷ (kept ++ c ∷ [])) (λ h. f (omega (arith, h))) g

pub keeps_cut : (a : List Code) (c : Code) (k : Recorded) → Keeps 0 a k → Keeps 0 (a ++ c ∷ []) (followed k (Ok (c ∷ [])))
keeps_cut a c (Err n) h = let f = cuts-append a (c ∷ []) in (omega (arith, f, h.0), omega (arith, f, h.1))
keeps_cut a c (Ok kept) h =
    let same : Same kept a = λ l. sym (nothing_behind kept l) ∙ h.1 l in
    let more = same_before kept a (c ∷ []) same in
    one_more (Keeps 0 (a ++ c ∷ [])) kept c
    (λ few. (few, same_through ((kept ++ c ∷ []) ++ Instructions 0 ∷ []) (kept ++ c ∷ []) (a ++ c ∷ []) (nothing_behind (kept ++ c ∷ [])) more))
    (λ many. let f = same_cuts (kept ++ c ∷ []) (a ++ c ∷ []) more in (omega (arith, f, many), omega (arith, f)))

pub keeps_noted : (since : ℕ) (a : List Code) (k : Recorded) → Keeps since a k → Keeps 0 a (followed k (Ok (Instructions since ∷ [])))
keeps_noted since a (Err n) h = (h.0, omega (arith, h.1))
keeps_noted since a (Ok kept) h =
    let c = cuts-append kept (Instructions since ∷ []) in
    one_more (Keeps 0 a) kept (Instructions since)
    (λ few. (few, same_through ((kept ++ Instructions since ∷ []) ++ Instructions 0 ∷ []) (kept ++ Instructions since ∷ []) a (nothing_behind (kept ++ Instructions since ∷ [])) h.1))
    (λ many. absurd (omega (arith, c, many, h.0)))

out_is : (b : Bool) (es : List Event) → out_after b es ≡ has_spawned_from b es
out_is b [] = refl
out_is b (Work k ∷ es) = out_is b es
out_is b (Series t ∷ es) = out_is b es
out_is b (e.Fork t ∷ es) = out_is true es
out_is b (Join ∷ es) = out_is false es

record_more : (b : Bool) (es fs : List Event) → record_of b (es ++ fs) ≡ record_of b es ++ record_of (has_spawned_from b es) fs
record_more b [] fs = refl
record_more b (Work k ∷ es) fs = ap (λ (l : List Code). Instructions k ∷ l) (record_more b es fs)
record_more b (Series t ∷ es) fs = ap (λ l. codes_of InSeries t ++ l) (record_more b es fs) ∙ sym (append_assoc (codes_of InSeries t) (record_of b es) (record_of (has_spawned_from b es) fs))
record_more true (e.Fork t ∷ es) fs =
    ap (λ (l : List Code). Spawned false ∷ (codes_of AsChild t ++ Ended ∷ l)) (record_more true es fs)
    ∙ ap (λ (l : List Code). Spawned false ∷ l) (sym (append_assoc (codes_of AsChild t) (Ended ∷ record_of true es) (record_of (has_spawned_from true es) fs)))
record_more false (e.Fork t ∷ es) fs =
    ap (λ (l : List Code). Spawned true ∷ (codes_of AsChild t ++ Ended ∷ l)) (record_more true es fs)
    ∙ ap (λ (l : List Code). Spawned true ∷ l) (sym (append_assoc (codes_of AsChild t) (Ended ∷ record_of true es) (record_of (has_spawned_from true es) fs)))
record_more true (Join ∷ es) fs = ap (λ (l : List Code). Joined ∷ l) (record_more false es fs)
record_more false (Join ∷ es) fs = record_more false es fs

-- the codes of a block inside other blocks
codes_inside : (from : Origin) (o : Open) (os : List Open) (es : List Event) → IsOpen from os
    → codes_in from (o ∷ os) es ≡ codes_in from os o.outer ++ (opening o.spawned o.mark (out_in from os o.outer) ++ record_of false es)
codes_inside Main o [] es open_ = absurd open_
codes_inside Main o (p ∷ os) es open_ = refl
codes_inside (Rest site) o os es open_ = refl

inside_more : (from : Origin) (o : Open) (os : List Open) (es fs : List Event) → IsOpen from os
    → codes_in from (o ∷ os) (es ++ fs) ≡ codes_in from (o ∷ os) es ++ record_of (has_spawned es) fs
inside_more from o os es fs open_ =
    let a = codes_in from os o.outer in
    let b = opening o.spawned o.mark (out_in from os o.outer) in
    let c = record_of false es in
    let d = record_of (has_spawned es) fs in
    codes_inside from o os (es ++ fs) open_
    ∙ ap (λ (l : List Code). a ++ (b ++ l)) (record_more false es fs) ∙ ap (λ (l : List Code). a ++ l) (sym (append_assoc b c d)) ∙ sym (append_assoc a (b ++ c) d)
    ∙ ap (λ (l : List Code). l ++ d) (sym (codes_inside from o os es open_))

pub codes_more : (from : Origin) (os : List Open) (es fs : List Event) → IsOpen from os
    → codes_in from os (es ++ fs) ≡ codes_in from os es ++ record_of (out_in from os es) fs
codes_more Main [] es fs open_ = absurd open_
codes_more Main (o ∷ []) es fs open_ = record_more false es fs
codes_more Main (o ∷ p ∷ os) es fs open_ = inside_more Main o (p ∷ os) es fs tt
codes_more (Rest site) [] es fs open_ = record_more true es fs
codes_more (Rest site) (o ∷ os) es fs open_ = inside_more (Rest site) o os es fs tt

pub out_more : (from : Origin) (os : List Open) (es fs : List Event) → out_in from os (es ++ fs) ≡ has_spawned_from (out_in from os es) fs
out_more from os es fs = spawned_append (begins_out from os) es fs

-- one more instruction
whole_ticked : (es : List Event) → of_whole (ticked es) ≡ of_whole es ++ Instructions 1 ∷ []
whole_ticked [] = refl
whole_ticked (Series t ∷ es) = ap (λ l. codes_of AsChild t ++ l) (record_more false es (Work 1 ∷ [])) ∙ sym (append_assoc (codes_of AsChild t) (record_of false es) (Instructions 1 ∷ []))
whole_ticked (Work k ∷ es) = record_more false (Work k ∷ es) (Work 1 ∷ [])
whole_ticked (e.Fork t ∷ es) = record_more false (e.Fork t ∷ es) (Work 1 ∷ [])
whole_ticked (Join ∷ es) = record_more false es (Work 1 ∷ [])

pub codes_ticked : (from : Origin) (os : List Open) (es : List Event) → codes_in from os (ticked es) ≡ codes_in from os es ++ Instructions 1 ∷ []
codes_ticked Main [] es = whole_ticked es
codes_ticked Main (o ∷ os) es = codes_more Main (o ∷ os) es (Work 1 ∷ []) tt
codes_ticked (Rest site) os es = codes_more (Rest site) os es (Work 1 ∷ []) tt

pub spawned_ticked : (from : Origin) (os : List Open) (es : List Event) → out_in from os (ticked es) ≡ out_in from os es
spawned_ticked from os es = out_more from os es (Work 1 ∷ [])

pub spawned_synced : (from : Origin) (os : List Open) (es : List Event) → out_in from os (synced es) ≡ false
spawned_synced from os es = out_more from os es (Join ∷ Work 1 ∷ [])

-- the start of a part
pub codes_begun : (spawned : Bool) (mark : Option Mark) (from : Origin) (os : List Open) (es : List Event) → IsOpen from os
    → codes_in from (begun spawned mark es os) [] ≡ codes_in from os es ++ Instructions 1 ∷ opening spawned mark (out_in from os es)
codes_begun spawned mark from os es open_ =
    let o : Open = record { spawned = spawned; mark = mark; outer = ticked es } in
    let a = codes_in from os es in
    let b = opening spawned mark (out_in from os es) in
    codes_inside from o os [] open_
    ∙ ap (λ (l : List Code). l ++ (opening spawned mark (out_in from os (ticked es)) ++ [])) (codes_ticked from os es)
    ∙ ap (λ (x : Bool). (a ++ Instructions 1 ∷ []) ++ (opening spawned mark x ++ [])) (spawned_ticked from os es)
    ∙ ap (λ (l : List Code). (a ++ Instructions 1 ∷ []) ++ l) (append-nil b)
    ∙ append_assoc a (Instructions 1 ∷ []) b

-- a join of the current block
join_record : (b : Bool) → record_of b (Join ∷ Work 1 ∷ []) ≡ to_join b ++ Instructions 1 ∷ []
join_record true = refl
join_record false = refl

pub codes_synced : (from : Origin) (os : List Open) (es : List Event) → IsOpen from os
    → codes_in from os (synced es) ≡ codes_in from os es ++ (to_join (out_in from os es) ++ Instructions 1 ∷ [])
codes_synced from os es open_ = codes_more from os es (Join ∷ Work 1 ∷ []) open_ ∙ ap (λ (l : List Code). codes_in from os es ++ l) (join_record (out_in from os es))

-- the end of a part
as_child : (mark : Option Mark) (a b : Tree) → codes_of AsChild (marked mark (Seq a b)) ≡ codes_of InSeries (Seq a b)
as_child None a b = refl
as_child (Some m) a b = refl

part_record : (spawned : Bool) (mark : Option Mark) (out : Bool) (a b : Tree)
    → record_of out (part_of spawned (marked mark (Seq a b)) ∷ []) ≡ opening spawned mark out ++ (codes_of InSeries (Seq a b) ++ ending spawned mark)
part_record true mark true a b = ap (λ (l : List Code). Spawned false ∷ (l ++ Ended ∷ [])) (as_child mark a b)
part_record true mark false a b = ap (λ (l : List Code). Spawned true ∷ (l ++ Ended ∷ [])) (as_child mark a b)
part_record false None out a b = refl
part_record false (Some (Invocation site)) out a b = append-nil (Called ∷ (codes_of InSeries (Seq a b) ++ Called ∷ []))
part_record false (Some (Execution tag)) out a b = refl

block_same : (es : List Event) → Same (record_of false es ++ to_join (has_spawned es)) (codes_of InSeries (tree_of es))
block_same es = λ l. ap (λ (b : Bool). onto (record_of false es ++ to_join b) l) (sym (out_is false es)) ∙ of_tree es l

whole_closed : (o : Open) (es : List Event) → o.outer ≡ [] → o.spawned ≡ false → of_whole (closed o es) ≡ codes_of InSeries (tree_of es)
whole_closed o es e0 e1 =
    let t = marked o.mark (tree_of es) in
    ap (λ (x : List Event). of_whole (x ++ part_of o.spawned t ∷ [])) e0
    ∙ ap (λ (b : Bool). of_whole (part_of b t ∷ [])) e1
    ∙ append-nil (codes_of AsChild t)
    ∙ as_child o.mark (parts_of es).0 (parts_of es).1

inside_closed : (from : Origin) (o : Open) (os : List Open) (es : List Event) → IsOpen from os
    → Same (codes_in from (o ∷ os) es ++ (to_join (has_spawned es) ++ ending o.spawned o.mark)) (codes_in from os (closed o es))
inside_closed from o os es open_ = λ l.
    let a = codes_in from os o.outer in
    let b = opening o.spawned o.mark (out_in from os o.outer) in
    let r = record_of false es in
    let j = to_join (has_spawned es) in
    let t = codes_of InSeries (tree_of es) in
    let d = ending o.spawned o.mark in
    let after = onto d l in
    ap (λ (x : List Code). onto (x ++ (j ++ d)) l) (codes_inside from o os es open_)
    ∙ onto-append (a ++ (b ++ r)) (j ++ d) l
    ∙ ap (onto (a ++ (b ++ r))) (onto-append j d l)
    ∙ onto-append a (b ++ r) (onto j after)
    ∙ ap (onto a) (onto-append b r (onto j after) ∙ ap (onto b) (sym (onto-append r j after) ∙ block_same es after ∙ sym (onto-append t d l)) ∙ sym (onto-append b (t ++ d) l))
    ∙ sym (onto-append a (b ++ (t ++ d)) l)
    ∙ ap (λ (x : List Code). onto x l) (sym (codes_more from os o.outer (part_of o.spawned (marked o.mark (tree_of es)) ∷ []) open_
    ∙ ap (λ (x : List Code). a ++ x) (part_record o.spawned o.mark (out_in from os o.outer) (parts_of es).0 (parts_of es).1)))

pub codes_closed : (from : Origin) (o : Open) (os : List Open) (es : List Event) → IsFromMain from (o ∷ os)
    → Same (codes_in from (o ∷ os) es ++ (to_join (out_in from (o ∷ os) es) ++ ending_in from o os)) (codes_in from os (closed o es))
codes_closed Main o [] es main = λ l.
    ap (λ (x : List Code). onto (record_of false es ++ x) l) (append-nil (to_join (has_spawned es)))
    ∙ block_same es l
    ∙ ap (λ (x : List Code). onto x l) (sym (whole_closed o es main.0 main.1))
codes_closed Main o (p ∷ os) es main = inside_closed Main o (p ∷ os) es tt
codes_closed (Rest site) o os es main = inside_closed (Rest site) o os es tt

-- the end of a block, followed by an instruction of the enclosing block
pub codes_ended : (from : Origin) (o : Open) (os : List Open) (es : List Event) → IsFromMain from (o ∷ os)
    → Same (codes_in from (o ∷ os) es ++ (to_join (out_in from (o ∷ os) es) ++ (ending_in from o os ++ Instructions 1 ∷ []))) (codes_in from os (ticked (closed o es)))
codes_ended from o os es main = λ l.
    let a = codes_in from (o ∷ os) es in
    let j = to_join (out_in from (o ∷ os) es) in
    let d = ending_in from o os in
    ap (λ (x : List Code). onto (a ++ x) l) (sym (append_assoc j d (Instructions 1 ∷ [])))
    ∙ ap (λ (x : List Code). onto x l) (sym (append_assoc a (j ++ d) (Instructions 1 ∷ [])))
    ∙ same_before (a ++ (j ++ d)) (codes_in from os (closed o es)) (Instructions 1 ∷ []) (codes_closed from o os es main) l
    ∙ ap (λ (x : List Code). onto x l) (sym (codes_ticked from os (closed o es)))

open_inside : (from : Origin) (o : Open) (os : List Open) → IsOpen from (o ∷ os)
open_inside Main o os = tt
open_inside (Rest site) o os = tt

-- the join and end of a call, with an instruction of the call
pub codes_returned : (from : Origin) (o : Open) (os : List Open) (es : List Event) → IsFromMain from (o ∷ os)
    → Same (codes_in from (o ∷ os) es ++ (to_join (out_in from (o ∷ os) es) ++ Instructions 1 ∷ ending_in from o os)) (codes_in from os (closed o (synced es)))
codes_returned from o os es main = λ l.
    let a = codes_in from (o ∷ os) es in
    let j = to_join (out_in from (o ∷ os) es) in
    let d = ending_in from o os in
    ap (λ (x : List Code). onto (a ++ x) l) (sym (append_assoc j (Instructions 1 ∷ []) d))
    ∙ ap (λ (x : List Code). onto x l) (sym (append_assoc a (j ++ Instructions 1 ∷ []) d))
    ∙ ap (λ (x : List Code). onto (x ++ d) l) (sym (codes_synced from (o ∷ os) es (open_inside from o os)))
    ∙ ap (λ (b : Bool). onto (codes_in from (o ∷ os) (synced es) ++ (to_join b ++ d)) l) (sym (spawned_synced from (o ∷ os) es))
    ∙ codes_closed from o os (synced es) main l

-- a continuation without joins leaves the child not joined
spawned_still : (fs : List Event) → no_joins fs ≡ true → has_spawned_from true fs ≡ true
spawned_still [] h = refl
spawned_still (Work k ∷ fs) h = spawned_still fs h
spawned_still (Series t ∷ fs) h = spawned_still fs h
spawned_still (e.Fork t ∷ fs) h = spawned_still fs h
spawned_still (Join ∷ fs) h = absurd (true≢false (sym h))

spawned_whatever : (b : Bool) (es : List Event) → has_spawned es ≡ true → has_spawned_from b es ≡ true
spawned_whatever false es h = h
spawned_whatever true [] h = refl
spawned_whatever true (Work k ∷ es) h = spawned_whatever true es h
spawned_whatever true (Series t ∷ es) h = spawned_whatever true es h
spawned_whatever true (e.Fork t ∷ es) h = h
spawned_whatever true (Join ∷ es) h = h

pub out_already : (from : Origin) (os : List Open) (es : List Event) → has_spawned es ≡ true → out_in from os es ≡ true
out_already from os es h = spawned_whatever (begins_out from os) es h

pub out_still : (from : Origin) (os : List Open) (es fs : List Event) → has_spawned es ≡ true → no_joins fs ≡ true → out_in from os (es ++ fs) ≡ true
out_still from os es fs h j = out_more from os es fs ∙ ap (λ (b : Bool). has_spawned_from b fs) (out_already from os es h) ∙ spawned_still fs j

pub codes_rested : (from : Origin) (os : List Open) (es fs : List Event) → IsOpen from os → has_spawned es ≡ true
    → codes_in from os es ++ record_of true fs ≡ codes_in from os (es ++ fs)
codes_rested from os es fs open_ h =
    ap (λ (b : Bool). codes_in from os es ++ record_of b fs) (sym (out_already from os es h)) ∙ sym (codes_more from os es fs open_)

-- two consecutive pieces
same_kept : (kept a : List Code) → Same (kept ++ Instructions 0 ∷ []) a → Same kept a
same_kept kept a h = λ l. sym (nothing_behind kept l) ∙ h l

pub keeps_followed : (a b : List Code) (k m : Recorded) → Keeps 0 a k → Keeps 0 b m → Keeps 0 (a ++ b) (followed k m)
keeps_followed a b (Err n) (Err m) h g = let f = cuts-append a b in (omega (arith, f, h.0), omega (arith, f, h.1, g.1))
keeps_followed a b (Err n) (Ok []) h g =
    let f = cuts-append a b in
    let e = same_cuts (Instructions 0 ∷ []) b g.1 in (omega (arith, f, h.0), omega (arith, e, f, h.1))
keeps_followed a b (Err n) (Ok (d ∷ m)) h g =
    let f = cuts-append a b in
    let e = same_cuts (d ∷ m) b (same_kept (d ∷ m) b g.1) in (omega (arith, f, h.0), omega (arith, e, f, h.1))
keeps_followed a b (Ok []) (Err m) h g =
    let f = cuts-append a b in
    let e = same_cuts (Instructions 0 ∷ []) a h.1 in (omega (arith, f, g.0), omega (arith, e, f, g.1))
keeps_followed a b (Ok []) (Ok m) h g =
    (g.0, same_through (m ++ Instructions 0 ∷ []) b (a ++ b) g.1 (λ l. h.1 (onto b l) ∙ sym (onto-append a b l)))
keeps_followed a b (Ok (c ∷ k)) (Err m) h g =
    let f = cuts-append a b in
    let e = same_cuts (c ∷ k) a (same_kept (c ∷ k) a h.1) in (omega (arith, f, g.0), omega (arith, e, f, g.1))
keeps_followed a b (Ok (c ∷ k)) (Ok []) h g =
    (h.0, λ l. h.1 l ∙ ap (onto a) (g.1 l) ∙ sym (onto-append a b l))
keeps_followed a b (Ok (c ∷ k)) (Ok (d ∷ m)) h g =
    let all = c ∷ (k ++ d ∷ m) in
    let same : Same all (a ++ b) = same_both (c ∷ k) a (d ∷ m) b (same_kept (c ∷ k) a h.1) (same_kept (d ∷ m) b g.1) in
    by_few (Keeps 0 (a ++ b)) all
    (λ few. (omega (arith, few), same_through (all ++ Instructions 0 ∷ []) all (a ++ b) (nothing_behind all) same))
    (λ many. let f = same_cuts all (a ++ b) same in (omega (arith, f, many), omega (arith, f)))
