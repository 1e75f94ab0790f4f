-- A planning follows the block that codes represent.
use Rattle.std.proofs.Common.{◌≡◌, ℕ, ◌+◌, ◌-◌, Bool, true, false, List, [], ◌∷◌, ◌++◌, Option, Some, None, length}
use Rattle.std.proofs.Common.{length-append, append_assoc, arith, set, refl, ap, sym, ◌∙◌, subst}
use Rattle.std.proofs.lemmas.List.{set_at, get_or_at, same_from_push}
use Rattle.std.proofs.lemmas.Option.{none-some, same_Some}
use Rattle.cw_greedy.specs.declared.code.Code.{Code}
use Rattle.cw_greedy.specs.declared.code.Code.TheVariants.{Instructions, Ended, Joined}
use Rattle.cw_greedy.specs.Jumping.{StrandBlock, Last, Fork, size}
use Rattle.cw_greedy_schedule.specs.declared.plan.Begins.{Begins}
use Rattle.cw_greedy_schedule.specs.declared.plan.Begins.TheVariants.{Start, Child, Continuation, Sync}
use Rattle.cw_greedy_schedule.specs.declared.plan.Strand.{Strand}
use Rattle.cw_greedy_schedule.specs.declared.plan.Open.{Open}
use Rattle.cw_greedy_schedule.specs.declared.plan.Planning.{Planning}
use Rattle.cw_greedy_schedule.specs.Reading.{Frame, InChild, InRest, add_at_end, fork_at_end, joined, after_join, read}
use Rattle.cw_greedy_schedule.specs.Planned.{strand, first_weight, behind_first, strands_of, begins_of, strands_before, is_first, open_at, opens_of, patched, Continues, Joins, Plans, Makes}

-- a strand with more instructions
abbrev more : ℕ → Strand → Strand
more n s = strand (s.weight + n) s.begins

abbrev last_more : ℕ → List Strand → List Strand
last_more n [] = []
last_more n (x ∷ []) = more n x ∷ []
last_more n (x ∷ (y ∷ ys)) = x ∷ last_more n (y ∷ ys)

last-append : (n : ℕ) (xs : List Strand) (y : Strand) (ys : List Strand) → last_more n (xs ++ y ∷ ys) ≡ xs ++ last_more n (y ∷ ys)
last-append n [] y ys = refl
last-append n (x ∷ []) y ys = refl
last-append n (x ∷ (z ∷ xs)) y ys = ap (λ (l : List Strand). x ∷ l) (last-append n (z ∷ xs) y ys)

last_of_block : (n : ℕ) (begins : Begins) (b : StrandBlock) → last_more n (strands_of begins b) ≡ strands_of begins (add_at_end b n)
last_of_block n begins (Last k) = refl
last_of_block n begins (Fork k c r a) =
    let s = strand (first_weight c) (Child (size c)) in
    let t = strand (first_weight r) (Continuation (size r)) in
    let e = last_of_block n Sync a in
    let f = last-append n (t ∷ behind_first r) (strand (first_weight a) Sync) (behind_first a) in
    let g = last-append n (s ∷ behind_first c) t (behind_first r ++ strands_of Sync a) in
    ap (λ (l : List Strand). strand k begins ∷ l) (g ∙ ap (λ l. (s ∷ behind_first c) ++ l) (f ∙ ap (λ l. (t ∷ behind_first r) ++ l) e))

pub length-strands : (begins : Begins) (b : StrandBlock) → length (strands_of begins b) ≡ size b
length-strands begins (Last k) = refl
length-strands begins (Fork k c r a) =
    let s = strands_of (Child (size c)) c in
    let t = strands_of (Continuation (size r)) r in
    omega (
      arith,
      length-append s (t ++ strands_of Sync a),
      length-append t (strands_of Sync a),
      length-strands (Child (size c)) c,
      length-strands (Continuation (size r)) r,
      length-strands Sync a,
    )

fork_strands : (begins : Begins) (b c r : StrandBlock) → strands_of begins (fork_at_end b c r) ≡
    strands_of begins b ++ (strands_of (Child (size c)) c ++ (strands_of (Continuation (size r)) r ++ strand 0 Sync ∷ []))
fork_strands begins (Last k) c r = refl
fork_strands begins (Fork k d q a) c r =
    let s = strands_of (Child (size d)) d in
    let t = strands_of (Continuation (size q)) q in
    let z = strands_of (Child (size c)) c ++ (strands_of (Continuation (size r)) r ++ strand 0 Sync ∷ []) in
    let e = fork_strands Sync a c r in
    ap (λ (l : List Strand). strand k begins ∷ (s ++ (t ++ l))) e
    ∙ ap (λ (l : List Strand). strand k begins ∷ (s ++ l)) (sym (append_assoc t (strands_of Sync a) z))
    ∙ ap (λ (l : List Strand). strand k begins ∷ l) (sym (append_assoc s (t ++ strands_of Sync a) z))

-- the strand at the end of a list begins in another way
patched_at : (pre : List Strand) (begins begins' : Begins) (b : StrandBlock) (at : ℕ) → at ≡ length pre →
    patched (pre ++ strands_of begins b) at begins' ≡ pre ++ strands_of begins' b
patched_at pre begins begins' b at e =
    let s = strand (first_weight b) begins in
    let d = get_or_at pre s (behind_first b) (strand 0 Start) at (sym e) in
    ap (λ (x : Strand). patched_to x) d ∙ set_at pre s (behind_first b) (strand (first_weight b) begins') at (sym e)
  where
    patched_to : Strand → List Strand
    patched_to x = set (pre ++ strands_of begins b) at (strand x.weight begins')

pub worked : (frames : List Frame) (b : StrandBlock) (n : ℕ) (p p' : Planning) → Plans frames b p → p'.strands.items ≡ p.strands.items →
    p'.last ≡ strand (p.last.weight + n) p.last.begins → p'.spawns.items ≡ p.spawns.items → Plans frames (add_at_end b n) p'
worked frames b n p p' h e f g = record {
  strands = ap (λ x. x ++ p'.last ∷ []) e ∙ ap (λ (s : Strand). p.strands.items ++ s ∷ []) f
      ∙ sym (last-append n p.strands.items p.last [])
      ∙ ap (last_more n) h.strands
      ∙ last-append n (strands_before frames) (strand (first_weight b) (begins_of frames)) (behind_first b)
      ∙ ap (λ x. strands_before frames ++ x) (last_of_block n (begins_of frames) b);
  spawns = g ∙ h.spawns;
}

length_begun : (frames : List Frame) (b : StrandBlock) (p : Planning) → Plans frames b p → length p.strands.items + 1 ≡ length (strands_before frames) + size b
length_begun frames b p h =
    omega (
      arith,
      ap length h.strands,
      length-append p.strands.items (p.last ∷ []),
      length-append (strands_before frames) (strands_of (begins_of frames) b),
      length-strands (begins_of frames) b,
    )

pub ended : (frames : List Frame) (first : Bool) (b block : StrandBlock) (p p' : Planning) → Plans (InChild first b ∷ frames) block p →
    Continues p p' (opens_of frames) (length (strands_before (InChild first b ∷ frames))) first → Plans (InRest first b block ∷ frames) (Last 0) p'
ended frames first b block p p' h c =
    let pre = strands_before (InChild first b ∷ frames) in
    let n = length_begun (InChild first b ∷ frames) block p h in
    let later : length p.strands.items + 1 - length pre ≡ size block = omega (arith, n) in
    let child = strands_of (Child (size block)) block in
    let all : strands_before (InRest first b block ∷ frames) ≡ pre ++ child = sym (append_assoc (strands_before frames) (strands_of (begins_of frames) b) child) in
    let e : p'.strands.items ≡ strands_before (InRest first b block ∷ frames) =
    c.strands ∙ ap (λ x. patched x (length pre) (Child (length p.strands.items + 1 - length pre))) h.strands
    ∙ patched_at pre (Child 0) (Child (length p.strands.items + 1 - length pre)) block (length pre) refl
    ∙ ap (λ k. pre ++ strands_of (Child k) block) later ∙ sym all in
    let m : length p.strands.items + 1 ≡ length (strands_before (InRest first b block ∷ frames)) =
    omega (arith, n, ap length all, length-append pre child, length-strands (Child (size block)) block) in
    record {
      strands = ap (λ x. x ++ p'.last ∷ []) e ∙ ap (λ (s : Strand). strands_before (InRest first b block ∷ frames) ++ s ∷ []) c.last;
      spawns = c.spawns ∙ ap (λ k. opens_of frames ++ open_at k first ∷ []) m;
    }

pub one_joined : (frames : List Frame) (first : Bool) (b child block : StrandBlock) (p p' : Planning) (at : ℕ) → at ≡ length (strands_before (InRest first b child ∷ frames)) →
    Plans (InRest first b child ∷ frames) block p →
    p'.strands.items ≡ patched (p.strands.items ++ p.last ∷ []) at (Continuation (length p.strands.items + 1 - at)) →
    p'.last ≡ strand 0 Sync → p'.spawns.items ≡ opens_of frames → Plans frames (fork_at_end b child block) p'
one_joined frames first b child block p p' at is h e f g =
    let inner = InRest first b child ∷ frames in
    let pre = strands_before inner in
    let n = length_begun inner block p h in
    let later : length p.strands.items + 1 - at ≡ size block = omega (arith, n, is) in
    let own = strands_of (begins_of frames) b in
    let of_child = strands_of (Child (size child)) child in
    let rest = strands_of (Continuation (size block)) block in
    let d : p'.strands.items ≡ pre ++ rest =
    e ∙ ap (λ x. patched x at (Continuation (length p.strands.items + 1 - at))) h.strands
    ∙ patched_at pre (Continuation 0) (Continuation (length p.strands.items + 1 - at)) block at is
    ∙ ap (λ k. pre ++ strands_of (Continuation k) block) later in
    let end = strand 0 Sync ∷ [] in
    record {
      strands = ap (λ x. x ++ p'.last ∷ []) d ∙ ap (λ (s : Strand). (pre ++ rest) ++ s ∷ []) f
          ∙ append_assoc pre rest end
          ∙ append_assoc (strands_before frames) (own ++ of_child) (rest ++ end)
          ∙ ap (λ x. strands_before frames ++ x) (append_assoc own of_child (rest ++ end) ∙ sym (fork_strands (begins_of frames) b child block));
      spawns = g;
    }

-- a planning that makes a block still makes it after more instructions
pub makes_work : (block : StrandBlock) (n : ℕ) (codes : List Code) (p p' : Planning) → Makes block (Instructions n ∷ codes) p → p'.strands.items ≡ p.strands.items →
    p'.last ≡ strand (p.last.weight + n) p.last.begins → p'.spawns.items ≡ p.spawns.items → Makes block codes p'
makes_work block n codes p p' h e f g = record {
  frames = h.frames;
  begun = add_at_end h.begun n;
  plans = worked h.frames h.begun n p p' h.plans e f g;
  reads = h.reads;
}

end_of : (codes : List Code) (block : StrandBlock) (p p' : Planning) (frames : List Frame) (begun : StrandBlock) → Plans frames begun p → read (Ended ∷ codes) frames begun ≡ Some block →
    ((outer : List Open) (at : ℕ) (first : Bool) → p.spawns.items ≡ outer ++ open_at at first ∷ [] → Continues p p' outer at first) → Makes block codes p'
end_of codes block p p' [] begun h e f = absurd (none-some block e)
end_of codes block p p' (InRest first before child ∷ frames) begun h e f = absurd (none-some block e)
end_of codes block p p' (InChild first before ∷ frames) begun h e f = record {
  frames = InRest first before begun ∷ frames;
  begun = Last 0;
  plans = ended frames first before begun p p' h (f (opens_of frames) (length (strands_before (InChild first before ∷ frames))) first h.spawns);
  reads = e;
}

pub makes_end : (block : StrandBlock) (codes : List Code) (p p' : Planning) → Makes block (Ended ∷ codes) p →
    ((outer : List Open) (at : ℕ) (first : Bool) → p.spawns.items ≡ outer ++ open_at at first ∷ [] → Continues p p' outer at first) → Makes block codes p'
makes_end block codes p p' h f = end_of codes block p p' h.frames h.begun h.plans h.reads f

-- a planning with all codes read has the strands of its block
made : (block : StrandBlock) (p : Planning) (frames : List Frame) (begun : StrandBlock) → Plans frames begun p → read [] frames begun ≡ Some block →
    p.strands.items ++ p.last ∷ [] ≡ strands_of Start block
made block p [] begun h e = h.strands ∙ ap (strands_of Start) (same_Some begun block e)
made block p (frame ∷ frames) begun h e = absurd (none-some block e)

pub makes_all : (block : StrandBlock) (p : Planning) → Makes block [] p → p.strands.items ++ p.last ∷ [] ≡ strands_of Start block
makes_all block p h = made block p h.frames h.begun h.plans h.reads

-- one join of several: it is the last one, or others are left
abbrev pub Left : (first : Bool) → (end : List Frame × StrandBlock) → Planning → Type 0
Left true end p = Plans end.0 end.1 p
Left false end p = Joins end p

step : (end : List Frame × StrandBlock) (p p' : Planning) (outer : List Open) (top : Open) (frames : List Frame) (begun : StrandBlock) → Plans frames begun p → joined frames begun ≡ Some end →
    p.spawns.items ≡ outer ++ top ∷ [] → p'.strands.items ≡ patched (p.strands.items ++ p.last ∷ []) top.at (Continuation (length p.strands.items + 1 - top.at)) →
    p'.last ≡ strand 0 Sync → p'.spawns.items ≡ outer → Left top.first end p'
step end p p' outer top [] begun h e s a b d = absurd (none-some end e)
step end p p' outer top (InChild first c ∷ frames) begun h e s a b d = absurd (none-some end e)
step end p p' outer top (InRest true c child ∷ frames) begun h e s a b d =
    let q = same_from_push outer (opens_of frames) top (open_at (length (strands_before (InRest true c child ∷ frames))) true) (sym s ∙ h.spawns) in
    let plans = one_joined frames true c child begun p p' top.at (ap (λ (x : Open). x.at) q.1) h a b (d ∙ q.0) in
    let same : (frames, fork_at_end c child begun) ≡ end = same_Some {A = List Frame × StrandBlock} (frames, fork_at_end c child begun) end e in
    subst (λ f. Left f end p') (sym (ap (λ (x : Open). x.first) q.1)) (subst (λ (x : List Frame × StrandBlock). Plans x.0 x.1 p') same plans)
step end p p' outer top (InRest false c child ∷ frames) begun h e s a b d =
    let q = same_from_push outer (opens_of frames) top (open_at (length (strands_before (InRest false c child ∷ frames))) false) (sym s ∙ h.spawns) in
    let plans = one_joined frames false c child begun p p' top.at (ap (λ (x : Open). x.at) q.1) h a b (d ∙ q.0) in
    let left : Joins end p' = record { frames = frames; begun = fork_at_end c child begun; plans = plans; joins = e } in
    subst (λ f. Left f end p') (sym (ap (λ (x : Open). x.first) q.1)) left

pub joins_step : (end : List Frame × StrandBlock) (p p' : Planning) (outer : List Open) (top : Open) → Joins end p → p.spawns.items ≡ outer ++ top ∷ [] →
    p'.strands.items ≡ patched (p.strands.items ++ p.last ∷ []) top.at (Continuation (length p.strands.items + 1 - top.at)) →
    p'.last ≡ strand 0 Sync → p'.spawns.items ≡ outer → Left top.first end p'
joins_step end p p' outer top h s a b d = step end p p' outer top h.frames h.begun h.plans h.joins s a b d

-- a planning that joins has an open spawn
open_spawn : (end : List Frame × StrandBlock) (p : Planning) (frames : List Frame) (begun : StrandBlock) → Plans frames begun p → joined frames begun ≡ Some end → length p.spawns.items ≡ 0 → ⊥
open_spawn end p [] begun h e s = none-some end e
open_spawn end p (frame ∷ frames) begun h e s =
    let f = ap length h.spawns in
    omega (arith, s, f, length-append (opens_of frames) (open_at (length (strands_before (frame ∷ frames))) (is_first frame) ∷ []))

pub joins_some : (end : List Frame × StrandBlock) (p : Planning) → Joins end p → length p.spawns.items ≡ 0 → ⊥
joins_some end p h s = open_spawn end p h.frames h.begun h.plans h.joins s

-- after a join the remaining codes are read
pub read_joined : (block : StrandBlock) (codes : List Code) (o : Option (List Frame × StrandBlock)) → after_join (λ more later. read codes more later) o ≡ Some block →
    (end : List Frame × StrandBlock) × ((o ≡ Some end) × (read codes end.0 end.1 ≡ Some block))
read_joined block codes None e = absurd (none-some block e)
read_joined block codes (Some end) e = (end, (refl, e))

pub makes_joins : (block : StrandBlock) (codes : List Code) (p : Planning) → Makes block (Joined ∷ codes) p → (end : List Frame × StrandBlock) × Joins end p
makes_joins block codes p h =
    let r = read_joined block codes (joined h.frames h.begun) h.reads in
    (r.0, record { frames = h.frames; begun = h.begun; plans = h.plans; joins = r.1.0 })

pub makes_join : (block : StrandBlock) (codes : List Code) (p p' : Planning) → Makes block (Joined ∷ codes) p →
    ((end : List Frame × StrandBlock) → Joins end p → Plans end.0 end.1 p') → Makes block codes p'
makes_join block codes p p' h f =
    let r = read_joined block codes (joined h.frames h.begun) h.reads in
    record {
      frames = r.0.0;
      begun = r.0.1;
      plans = f r.0 (record { frames = h.frames; begun = h.begun; plans = h.plans; joins = r.1.0 });
      reads = r.1.1;
    }
