-- The effect of each method of a recorder.
use Rattle.std.specs.Prelude.{ℕ, ◌+◌, ◌-◌, ◌≡◌, ◌≤◌, ◌<◌, Bool, true, false, not, Option, Some, None, Ok, Err, List, [], ◌∷◌, ◌++◌, reverse, refl}
use Rattle.std.proofs.Common.{arith, ap, sym, ◌∙◌, subst}
use Rattle.std.proofs.lemmas.List.{append_assoc, append-nil}
use Rattle.cw_facts.specs.Lists.{reverse_pushed}
use Rattle.cw_model.specs.declared.limits.TheConstants.{MOST_LIMIT}
use Rattle.cw_model.specs.Trees.{Tree, Marked, Mark, Invocation, Execution, Event, Work, normal, tree_of}
use Rattle.cw_measure.specs.OpenParts.{Open, spawned_after, marked, part_of, closed}
use Rattle.cw_greedy.specs.Origins.{Origin, Main, Rest}
use Rattle.cw_greedy.specs.Runs.{ticked, synced, begun}
use Rattle.cw_greedy.specs.declared.code.Code.{Code}
use Rattle.cw_greedy.specs.declared.code.Code.TheVariants.{Instructions, Spawned, Ended, Joined, Called}
use Rattle.cw_greedy.specs.Recorded.{Recorded, followed}
use Rattle.cw_greedy.specs.RecordLaws.{cut_small, followed-regroup, few_together}
use Rattle.cw_greedy.specs.declared.entry.Cut.{Cut}
use Rattle.cw_greedy.specs.declared.entry.Cut.TheVariants as cut
use Rattle.cw_greedy.specs.Entries.{code_of_cut, codes_of_entry, entry}
use Rattle.cw_greedy.specs.Blocks.{AsChild, codes_of}
use Rattle.cw_greedy.specs.declared.recorder.PartKind.{PartKind}
use Rattle.cw_greedy.specs.declared.recorder.PartKind.TheVariants as kind
use Rattle.cw_greedy.specs.declared.recorder.Part.{Part}
use Rattle.cw_greedy.specs.declared.recorder.Recorder.{Recorder}
use Rattle.cw_greedy.specs.Merging.{onto, Same, to_join}
use Rattle.cw_greedy.specs.Normal.{AreInNormalForm, AreOpenApart, AreApart, IsChild}
use Rattle.cw_greedy.specs.Recording.{opening, ending, ending_in, codes_in, IsOfKind, out_after_part, AreParts, Keeps, IsFromMain, RecordsIn, IsOpen, IsQuiet, BeginsChild, IsPart, out_in}
use Rattle.cw_greedy.specs.Recording.{BeginsCall, BeginsQuiet, Ends, Returns, Syncs, InstructionsNeedNoCall, Rests, RecordsUpTo, Stacks, Joins, Closes, IsKept, Reads}
use Rattle.cw_greedy.proofs.Merged.{onto-append, same_merged, nothing_behind}
use Rattle.cw_greedy.proofs.Normals.{append_apart, ticked_apart, synced_apart, call_apart, block_apart, tree_followed, marked_child}
use Rattle.cw_greedy.proofs.Recordings.{same_cuts, keeps_as, keeps_later, keeps_cut, keeps_noted, keeps_followed, out_more, out_already, out_still, codes_rested, codes_ticked, spawned_ticked}
use Rattle.cw_greedy.proofs.Recordings.{spawned_synced, codes_begun, codes_synced, codes_ended, codes_returned}

-- the instructions up to a count are recorded
pub noted_now : (old new : Recorder) (count : ℕ) → new.noted ≡ count → new.kept ≡ followed old.kept (Ok (Instructions (count - old.noted) ∷ []))
    → new.out ≡ old.out → new.parts.items ≡ old.parts.items → RecordsUpTo old new count []
noted_now old new count n k o p = record {
  noted = λ le. n;
  keeps = λ from before lo hi h.
      let all = before ++ Instructions (count - from) ∷ [] in
      let sum : (from - old.noted) + (count - from) ≡ count - old.noted = omega (arith, lo, hi) in
      subst (Keeps 0 all) (sym k)
      (keeps_noted (count - old.noted) all old.kept (subst (λ (n : ℕ). Keeps n all old.kept) sum (keeps_later (from - old.noted) (count - from) before old.kept h)));
  out = o;
  parts = p;
}

pub noted_already : (r : Recorder) (count : ℕ) → count ≤ r.noted → RecordsUpTo r r count []
noted_already r count past = record {
  noted = λ le. omega (arith, le, past);
  keeps = λ from before lo hi h.
      let none : (from - r.noted) + (count - from) ≡ 0 = omega (arith, lo, hi, past) in
      subst (λ (n : ℕ). Keeps n (before ++ Instructions (count - from) ∷ []) r.kept) none (keeps_later (from - r.noted) (count - from) before r.kept h);
  out = refl;
  parts = refl;
}

noted_cut : (old mid new : Recorder) (count : ℕ) (code : Code) → RecordsUpTo old mid count [] → new.kept ≡ followed mid.kept (Ok (code ∷ []))
    → new.noted ≡ mid.noted → new.out ≡ mid.out → new.parts.items ≡ mid.parts.items → RecordsUpTo old new count (code ∷ [])
noted_cut old mid new count code s k n o p = record {
  noted = λ le. n ∙ s.noted le;
  keeps = λ from before lo hi h.
      let i = Instructions (count - from) in
      subst (Keeps 0 (before ++ i ∷ code ∷ [])) (sym k)
      (keeps_as 0 ((before ++ i ∷ []) ++ code ∷ []) (before ++ i ∷ code ∷ []) (followed mid.kept (Ok (code ∷ [])))
      (λ l. ap (λ (x : List Code). onto x l) (append_assoc before (i ∷ []) (code ∷ [])))
      (keeps_cut (before ++ i ∷ []) code mid.kept (s.keeps from before lo hi h)));
  out = o ∙ s.out;
  parts = p ∙ s.parts;
}

-- instructions and the cut after them are recorded together
noted_with_cut : (old new : Recorder) (count : ℕ) (code : Code) → new.noted ≡ count
    → new.kept ≡ followed old.kept (Ok (Instructions (count - old.noted) ∷ code ∷ [])) → new.out ≡ old.out → new.parts.items ≡ old.parts.items → RecordsUpTo old new count (code ∷ [])
noted_with_cut old new count code n k o p =
    let i = Instructions (count - old.noted) in
    let mid : Recorder = record { kept = followed old.kept (Ok (i ∷ [])); noted = count; out = old.out; parts = old.parts } in
    let both = few_together (i ∷ []) (code ∷ []) (omega (arith, cut_small code)) in
    noted_cut old mid new count code (noted_now old mid count refl refl refl refl)
    (k ∙ ap (followed old.kept) (sym both) ∙ sym (followed-regroup old.kept (Ok (i ∷ [])) (Ok (code ∷ [])))) n o p

pub noted_entry : (old new : Recorder) (count : ℕ) (c : Cut) → new.noted ≡ count
    → new.kept ≡ followed old.kept (Ok (codes_of_entry (entry (count - old.noted) c))) → new.out ≡ old.out → new.parts.items ≡ old.parts.items → RecordsUpTo old new count (code_of_cut c)
noted_entry old new count cut.Nothing n k o p = noted_now old new count n k o p
noted_entry old new count (cut.Spawned first) n k o p = noted_with_cut old new count (Spawned first) n k o p
noted_entry old new count cut.Ended n k o p = noted_with_cut old new count Ended n k o p
noted_entry old new count cut.Joined n k o p = noted_with_cut old new count Joined n k o p
noted_entry old new count cut.Called n k o p = noted_with_cut old new count Called n k o p

-- empty instructions may be removed
nothing_between : (a b : List Code) → Same (a ++ Instructions 0 ∷ b) (a ++ b)
nothing_between a b = λ l. onto-append a (Instructions 0 ∷ b) l ∙ sym (onto-append a b l)

-- a cut at this count
pub cut_here : (old new : Recorder) (count : ℕ) (code : Code) (codes : List Code) → RecordsUpTo old new count (code ∷ []) → old.noted ≤ count
    → Keeps (count - old.noted) codes old.kept → (new.noted ≤ count) × Keeps (count - new.noted) (codes ++ code ∷ []) new.kept
cut_here old new count code codes s le h =
    let n = s.noted le in
    let none : count - count ≡ 0 = omega arith in
    let zero_left : 0 ≡ count - new.noted = omega (arith, n) in
    let all = s.keeps count codes le (omega arith) h in (
      omega (arith, n),
      subst (λ (n : ℕ). Keeps n (codes ++ code ∷ []) new.kept) zero_left
          (keeps_as 0 (codes ++ Instructions (count - count) ∷ code ∷ []) (codes ++ code ∷ []) new.kept
          (λ l. ap (λ (n : ℕ). onto (codes ++ Instructions n ∷ code ∷ []) l) none ∙ nothing_between codes (code ∷ []) l) all),
    )

-- a cut after one more instruction
pub cut_next : (old new : Recorder) (count : ℕ) (code : Code) (codes : List Code) → RecordsUpTo old new (count + 1) (code ∷ []) → old.noted ≤ count
    → Keeps (count - old.noted) codes old.kept → (new.noted ≤ count + 1) × Keeps (count + 1 - new.noted) (codes ++ Instructions 1 ∷ code ∷ []) new.kept
cut_next old new count code codes s le h =
    let n = s.noted (omega (arith, le)) in
    let one : count + 1 - count ≡ 1 = omega arith in
    let zero_left : 0 ≡ count + 1 - new.noted = omega (arith, n) in
    let all = s.keeps count codes le (omega arith) h in (
      omega (arith, n),
      subst (λ (n : ℕ). Keeps n (codes ++ Instructions 1 ∷ code ∷ []) new.kept) zero_left
          (subst (λ (n : ℕ). Keeps 0 (codes ++ Instructions n ∷ code ∷ []) new.kept) one all),
    )

-- one more instruction
pub one_later : (noted count : ℕ) (codes : List Code) (k : Recorded) → noted ≤ count → Keeps (count - noted) codes k → Keeps (count + 1 - noted) (codes ++ Instructions 1 ∷ []) k
one_later noted count codes k le h =
    let sum : (count - noted) + 1 ≡ count + 1 - noted = omega (arith, le) in
    subst (λ (n : ℕ). Keeps n (codes ++ Instructions 1 ∷ []) k) sum (keeps_later (count - noted) 1 codes k h)

-- a join
pub joined_now : (old mid : Recorder) (count : ℕ) → old.out ≡ true → RecordsUpTo old mid count (Joined ∷ []) → (codes : List Code) → old.noted ≤ count
    → Keeps (count - old.noted) codes old.kept → (mid.noted ≤ count) × Keeps (count - mid.noted) (codes ++ to_join old.out) mid.kept
joined_now old mid count out s codes le h =
    let c = cut_here old mid count Joined codes s le h in
    (c.0, subst (λ (b : Bool). Keeps (count - mid.noted) (codes ++ to_join b) mid.kept) (sym out) c.1)

pub joined_not : (old : Recorder) (count : ℕ) → old.out ≡ false → Joins old old count
joined_not old count out codes le h =
    (le, subst (λ (b : Bool). Keeps (count - old.noted) (codes ++ to_join b) old.kept) (sym out) (subst (λ (l : List Code). Keeps (count - old.noted) l old.kept) (sym (append-nil codes)) h))

pub parts_pushed : (from : Origin) (o : Open) (os : List Open) (p : Part) (old new : List Part) → IsOpen from os → new ≡ old ++ p ∷ [] → IsOfKind o p.kind
    → p.out ≡ out_after_part o.spawned (out_in from os o.outer) → AreParts from os (reverse old) → AreParts from (o ∷ os) (reverse new)
parts_pushed from o os p old new open_ e k out h =
    subst (λ (x : List Part). AreParts from (o ∷ os) x) (sym (ap (λ (x : List Part). reverse x) e ∙ reverse_pushed old p)) (at from os open_ (k, out) h)
  where
    at : (from : Origin) (os : List Open) → IsOpen from os → IsPart from o os p → AreParts from os (reverse old) → AreParts from (o ∷ os) (p ∷ reverse old)
    at Main [] open_ is h = absurd open_
    at Main (q ∷ os) open_ is h = (is, h)
    at (Rest site) os open_ is h = (is, h)

-- the outermost part
main_round : (from : Origin) (o : Open) (os : List Open) → IsFromMain from (o ∷ os) → IsFromMain from os
main_round Main o [] m = tt
main_round Main o (p ∷ os) m = m
main_round (Rest site) o os m = tt

main_in : (from : Origin) (o : Open) (os : List Open) → IsOpen from os → IsFromMain from os → IsFromMain from (o ∷ os)
main_in Main o [] open_ m = absurd open_
main_in Main o (p ∷ os) open_ m = m
main_in (Rest site) o os open_ m = tt

-- the parts of all open blocks have their codes in normal form
all_apart : (from : Origin) (os : List Open) (es : List Event) → IsOpen from os → AreApart from os es → AreOpenApart os es
all_apart Main [] es open_ h = absurd open_
all_apart Main (o ∷ os) es open_ h = h
all_apart (Rest site) os es open_ h = h

apart_again : (from : Origin) (os : List Open) (es : List Event) → IsOpen from os → AreOpenApart os es → AreApart from os es
apart_again Main [] es open_ h = absurd open_
apart_again Main (o ∷ os) es open_ h = h
apart_again (Rest site) os es open_ h = h

block_of_open : (from : Origin) (os : List Open) (es : List Event) → IsOpen from os → AreApart from os es → AreInNormalForm es
block_of_open from os es open_ h = at os (all_apart from os es open_ h)
  where
    at : (os : List Open) → AreOpenApart os es → AreInNormalForm es
    at [] h = h
    at (o ∷ os) h = h.0

with_block : (from : Origin) (os : List Open) (es fs : List Event) → IsOpen from os → AreApart from os es → AreInNormalForm fs → AreApart from os fs
with_block from os es fs open_ h g = apart_again from os fs open_ (at os (all_apart from os es open_ h))
  where
    at : (os : List Open) → AreOpenApart os es → AreOpenApart os fs
    at [] h = g
    at (o ∷ os) h = (g, h.1)

begun_apart : (from : Origin) (o : Open) (os : List Open) (es : List Event) → IsOpen from os → o.outer ≡ ticked es → AreApart from os es → AreApart from (o ∷ os) []
begun_apart from o os es open_ e h =
    let outer = subst AreInNormalForm (sym e) (ticked_apart es (block_of_open from os es open_ h)) in
    at from (tt, all_apart from os o.outer open_ (with_block from os es o.outer open_ h outer))
  where
    at : (from : Origin) → AreOpenApart (o ∷ os) [] → AreApart from (o ∷ os) []
    at Main h = h
    at (Rest site) h = h

-- after the end of a part, the enclosing events have their codes in normal form, or the part is the whole run
whole_apart : (o : Open) (es : List Event) (after : List Event) → o.outer ≡ [] → o.spawned ≡ false → o.mark ≡ Some (Invocation 0) → AreInNormalForm es → AreApart Main [] (closed o es ++ after)
whole_apart o es after e0 e1 e2 g =
    subst (λ (x : List Event). AreApart Main [] ((x ++ part_of o.spawned (marked o.mark (tree_of es)) ∷ []) ++ after)) (sym e0)
    (subst (λ (b : Bool). AreApart Main [] (part_of b (marked o.mark (tree_of es)) ∷ after)) (sym e1)
    (subst (λ (m : Option Mark). IsChild (marked m (tree_of es))) (sym e2) (marked_child (Invocation 0) (tree_of es) (tree_followed es g))))

-- the enclosing block has one more event
round_apart : (o : Open) (os : List Open) (es fs : List Event) → AreOpenApart (o ∷ os) es → (AreInNormalForm o.outer → AreInNormalForm es → AreInNormalForm fs) → AreOpenApart os fs
round_apart o [] es fs h f = f h.1 h.0
round_apart o (p ∷ os) es fs h f = (f h.1.0 h.0, h.1.1)

pub ended_apart : (from : Origin) (o : Open) (os : List Open) (es : List Event) → IsFromMain from (o ∷ os) → o.spawned ≡ false → AreApart from (o ∷ os) es → AreApart from os (ticked (closed o es))
ended_apart Main o [] es main quiet h = whole_apart o es (Work 1 ∷ []) main.0 main.1 main.2 h.0
ended_apart Main o (p ∷ os) es main quiet h = round_apart o (p ∷ os) es (ticked (closed o es)) h (block_apart o es quiet)
ended_apart (Rest site) o os es main quiet h = round_apart o os es (ticked (closed o es)) h (block_apart o es quiet)

pub returned_apart : (from : Origin) (o : Open) (os : List Open) (es : List Event) → IsFromMain from (o ∷ os) → AreApart from (o ∷ os) es → AreApart from os (closed o (synced es))
returned_apart Main o [] es main h =
    subst (λ (x : List Event). AreApart Main [] x) (append-nil (closed o (synced es))) (whole_apart o (synced es) [] main.0 main.1 main.2 (synced_apart es h.0))
returned_apart Main o (p ∷ os) es main h = round_apart o (p ∷ os) es (closed o (synced es)) h (call_apart o es)
returned_apart (Rest site) o os es main h = round_apart o os es (closed o (synced es)) h (call_apart o es)

-- an instruction that begins, ends and joins nothing
pub ticks : InstructionsNeedNoCall
ticks r count from os es small open_ h = record {
  goes_on = omega (arith, h.goes_on);
  keeps = subst (λ (l : List Code). Keeps (count + 1 - r.noted) l r.kept) (sym (codes_ticked from os es)) (one_later r.noted count (codes_in from os es) r.kept h.goes_on h.keeps);
  parts = record { out = h.parts.out ∙ sym (spawned_ticked from os es); parts = h.parts.parts };
  from_main = h.from_main;
  apart = with_block from os es (ticked es) open_ h.apart (ticked_apart es (block_of_open from os es open_ h.apart));
}

-- the start of a part without cuts
no_opening : (mark : Option Mark) (out : Bool) → IsQuiet mark → opening false mark out ≡ []
no_opening None out q = refl
no_opening (Some (Invocation site)) out q = absurd q
no_opening (Some (Execution tag)) out q = refl

quiet_kind : (mark : Option Mark) → IsQuiet mark → (site : ℕ) → mark ≡ Some (Invocation site) → ⊥
quiet_kind mark q site e = subst IsQuiet e q

pub quiet_begins : (old new : Recorder) (count : ℕ) → Stacks old new kind.Quiet old.out → BeginsQuiet old new count
quiet_begins old new count s from mark os es quiet small open_ h =
    let p = h.parts in
    let o : Open = record { spawned = false; mark = mark; outer = ticked es } in
    let a = codes_in from os es in
    let codes = codes_begun false mark from os es open_ ∙ ap (λ (l : List Code). a ++ Instructions 1 ∷ l) (no_opening mark (out_in from os es) quiet) in
    let kept = one_later old.noted count a old.kept h.goes_on h.keeps in
    record {
      goes_on = omega (arith, h.goes_on, s.noted);
      keeps = subst (λ (n : ℕ). Keeps (count + 1 - n) (codes_in from (begun false mark es os) []) new.kept) (sym s.noted)
          (subst (λ (k : Recorded). Keeps (count + 1 - old.noted) (codes_in from (begun false mark es os) []) k) (sym s.kept)
          (subst (λ (l : List Code). Keeps (count + 1 - old.noted) l old.kept) (sym codes) kept));
      parts = record {
        out = s.out;
        parts = parts_pushed from o os (record { kind = kind.Quiet; out = old.out }) old.parts.items new.parts.items
            open_ s.pushed (refl, quiet_kind mark quiet) (p.out ∙ sym (spawned_ticked from os es)) p.parts;
      };
      from_main = main_in from o os open_ h.from_main;
      apart = begun_apart from o os es open_ refl h.apart;
    }

-- the start of a part with cuts
cut_begins : (old mid new : Recorder) (count : ℕ) (k : PartKind) (code : Code) (out spawned : Bool) (mark : Option Mark) (from : Origin) (os : List Open)
    (es : List Event) → RecordsUpTo old mid (count + 1) (code ∷ []) → Stacks mid new k out
    → IsOfKind (record { spawned = spawned; mark = mark; outer = ticked es }) k
    → (old.out ≡ out_in from os es → opening spawned mark (out_in from os es) ≡ code ∷ [])
    → (old.out ≡ out_in from os es → out ≡ out_after_part spawned (out_in from os (ticked es))) → IsOpen from os → RecordsIn from count os es old
    → RecordsIn from (count + 1) (begun spawned mark es os) [] new
cut_begins old mid new count k code out spawned mark from os es n s is code_is out_is open_ h =
    let p = h.parts in
    let o : Open = record { spawned = spawned; mark = mark; outer = ticked es } in
    let a = codes_in from os es in
    let codes = codes_begun spawned mark from os es open_ ∙ ap (λ (l : List Code). a ++ Instructions 1 ∷ l) (code_is p.out) in
    let c = cut_next old mid count code a n h.goes_on h.keeps in
    record {
      goes_on = omega (arith, c.0, s.noted);
      keeps = subst (λ (x : ℕ). Keeps (count + 1 - x) (codes_in from (begun spawned mark es os) []) new.kept) (sym s.noted)
          (subst (λ (x : Recorded). Keeps (count + 1 - mid.noted) (codes_in from (begun spawned mark es os) []) x) (sym s.kept)
          (subst (λ (l : List Code). Keeps (count + 1 - mid.noted) l mid.kept) (sym codes) c.1));
      parts = record {
        out = s.out;
        parts = parts_pushed from o os (record { kind = k; out = out }) old.parts.items new.parts.items open_
            (s.pushed ∙ ap (λ (l : List Part). l ++ record { kind = k; out = out } ∷ []) n.parts) is (out_is p.out) p.parts;
      };
      from_main = main_in from o os open_ h.from_main;
      apart = begun_apart from o os es open_ refl h.apart;
    }

pub child_begins : (old mid new : Recorder) (count next : ℕ) → RecordsUpTo old mid next (Spawned (not old.out) ∷ []) → Stacks mid new kind.Child true
    → (count < MOST_LIMIT → next ≡ count + 1) → BeginsChild old new count
child_begins old mid new count next n s sat from mark os es small open_ h =
    cut_begins old mid new count kind.Child (Spawned (not old.out)) true true mark from os es
    (subst (λ (x : ℕ). RecordsUpTo old mid x (Spawned (not old.out) ∷ [])) (sat small) n) s refl
    (λ e. ap (λ (b : Bool). Spawned (not b) ∷ []) (sym e)) (λ e. refl) open_ h

pub call_begins : (old mid new : Recorder) (count next : ℕ) → RecordsUpTo old mid next (Called ∷ []) → Stacks mid new kind.Call mid.out
    → (count < MOST_LIMIT → next ≡ count + 1) → BeginsCall old new count
call_begins old mid new count next n s sat from site os es small open_ h =
    cut_begins old mid new count kind.Call Called mid.out false (Some (Invocation site)) from os es
    (subst (λ (x : ℕ). RecordsUpTo old mid x (Called ∷ [])) (sat small) n) s (refl, (site, refl)) (λ e. refl) (λ e. n.out ∙ e ∙ sym (spawned_ticked from os es)) open_ h

-- the current block joins
pub block_joins : (old new : Recorder) (count : ℕ) → Joins old new count → new.out ≡ false → new.parts.items ≡ old.parts.items → Syncs old new count
block_joins old new count joins out same from os es small open_ h =
    let p = h.parts in
    let a = codes_in from os es in
    let j = joins a h.goes_on h.keeps in
    let later = one_later new.noted count (a ++ to_join old.out) new.kept j.0 j.1 in
    let codes = codes_synced from os es open_ ∙ ap (λ (b : Bool). a ++ (to_join b ++ Instructions 1 ∷ [])) (sym p.out) ∙ sym (append_assoc a (to_join old.out) (Instructions 1 ∷ [])) in
    record {
      goes_on = omega (arith, j.0);
      keeps = subst (λ (l : List Code). Keeps (count + 1 - new.noted) l new.kept) (sym codes) later;
      parts = record { out = out ∙ sym (spawned_synced from os es); parts = subst (λ (l : List Part). AreParts from os (reverse l)) (sym same) p.parts };
      from_main = h.from_main;
      apart = with_block from os es (synced es) open_ h.apart (synced_apart es (block_of_open from os es open_ h.apart));
    }

-- a block joins and ends
pub block_ends : (old mid new : Recorder) (count : ℕ) → Joins old mid count → mid.out ≡ false → mid.parts.items ≡ old.parts.items → Closes mid new count → Ends old new count
block_ends old mid new count joins out same closes from o os es quiet small open_ h =
    let p = h.parts in
    let a = codes_in from (o ∷ os) es in
    let j = joins a h.goes_on h.keeps in
    let c = closes (a ++ to_join old.out) from o os es h.from_main out (subst (λ (l : List Part). AreParts from (o ∷ os) (reverse l)) (sym same) p.parts) j.0 j.1 in
    let later = one_later new.noted count ((a ++ to_join old.out) ++ ending_in from o os) new.kept c.0 c.1 in
    let d = ending_in from o os in
    let i = Instructions 1 ∷ [] in
    let regroup : ((a ++ to_join old.out) ++ d) ++ i ≡ a ++ (to_join (out_in from (o ∷ os) es) ++ (d ++ i)) =
    append_assoc (a ++ to_join old.out) d i ∙ append_assoc a (to_join old.out) (d ++ i) ∙ ap (λ (b : Bool). a ++ (to_join b ++ (d ++ i))) p.out in
    record {
      goes_on = omega (arith, c.0);
      keeps = keeps_as (count + 1 - new.noted) (a ++ (to_join (out_in from (o ∷ os) es) ++ (d ++ i))) (codes_in from os (ticked (closed o es))) new.kept (codes_ended from o os es h.from_main)
          (subst (λ (l : List Code). Keeps (count + 1 - new.noted) l new.kept) regroup later);
      parts = record { out = c.2.out ∙ sym (spawned_ticked from os (closed o es)); parts = c.2.parts };
      from_main = main_round from o os h.from_main;
      apart = ended_apart from o os es h.from_main quiet h.apart;
    }

pub call_ends : (old mid new : Recorder) (count next : ℕ) → Joins old mid count → mid.out ≡ false → mid.parts.items ≡ old.parts.items
    → Closes mid new next → (count < MOST_LIMIT → next ≡ count + 1) → Returns old new count
call_ends old mid new count next joins out same ends sat from o os es small open_ h =
    let closes = subst (λ (x : ℕ). Closes mid new x) (sat small) ends in
    let p = h.parts in
    let a = codes_in from (o ∷ os) es in
    let j = joins a h.goes_on h.keeps in
    let later = one_later mid.noted count (a ++ to_join old.out) mid.kept j.0 j.1 in
    let d = ending_in from o os in
    let i = Instructions 1 ∷ [] in
    let c = closes ((a ++ to_join old.out) ++ i) from o os (synced es) h.from_main out (subst (λ (l : List Part). AreParts from (o ∷ os) (reverse l)) (sym same) p.parts) (omega (arith, j.0)) later in
    let regroup : ((a ++ to_join old.out) ++ i) ++ d ≡ a ++ (to_join (out_in from (o ∷ os) es) ++ Instructions 1 ∷ d) =
    append_assoc (a ++ to_join old.out) i d ∙ append_assoc a (to_join old.out) (Instructions 1 ∷ d) ∙ ap (λ (b : Bool). a ++ (to_join b ++ Instructions 1 ∷ d)) p.out in
    record {
      goes_on = c.0;
      keeps = keeps_as (count + 1 - new.noted) (a ++ (to_join (out_in from (o ∷ os) es) ++ Instructions 1 ∷ d)) (codes_in from os (closed o (synced es))) new.kept
          (codes_returned from o os es h.from_main)
          (subst (λ (l : List Code). Keeps (count + 1 - new.noted) l new.kept) regroup c.1);
      parts = c.2;
      from_main = main_round from o os h.from_main;
      apart = returned_apart from o os es h.from_main h.apart;
    }

-- the recorder's entry for the innermost part is removed
record Popped (from : Origin) (o : Open) (os : List Open) (part : Part) (left : List Part) : Type 0 where
  inner : IsOpen from os
  is : IsOfKind o part.kind
  out : part.out ≡ out_after_part o.spawned (out_in from os o.outer)
  parts : AreParts from os (reverse left)

popped : (from : Origin) (o : Open) (os : List Open) (part : Part) (old left : List Part) → old ≡ left ++ part ∷ [] → AreParts from (o ∷ os) (reverse old) → Popped from o os part left
popped from o os part old left e h = at from os (subst (λ (x : List Part). AreParts from (o ∷ os) x) (ap (λ (x : List Part). reverse x) e ∙ reverse_pushed left part) h)
  where
    at : (from : Origin) (os : List Open) → AreParts from (o ∷ os) (part ∷ reverse left) → Popped from o os part left
    at Main [] h = absurd h
    at Main (q ∷ os) h = record { inner = tt; is = h.0.0; out = h.0.1; parts = h.1 }
    at (Rest site) os h = record { inner = tt; is = h.0.0; out = h.0.1; parts = h.1 }

behind_is : (spawned out : Bool) (t : Tree) → spawned_after out (part_of spawned t) ≡ out_after_part spawned out
behind_is true out t = refl
behind_is false out t = refl

spawned_closed : (from : Origin) (o : Open) (os : List Open) (es : List Event) → out_in from os (closed o es) ≡ out_after_part o.spawned (out_in from os o.outer)
spawned_closed from o os es =
    let t = marked o.mark (tree_of es) in
    out_more from os o.outer (part_of o.spawned t ∷ []) ∙ behind_is o.spawned (out_in from os o.outer) t

ending_inside : (from : Origin) (o : Open) (os : List Open) → IsOpen from os → ending_in from o os ≡ ending o.spawned o.mark
ending_inside Main o [] open_ = absurd open_
ending_inside Main o (p ∷ os) open_ = refl
ending_inside (Rest site) o os open_ = refl

ending_child : (from : Origin) (o : Open) (os : List Open) → IsOpen from os → o.spawned ≡ true → ending_in from o os ≡ Ended ∷ []
ending_child from o os open_ e = ending_inside from o os open_ ∙ ap (λ (b : Bool). ending b o.mark) e

ending_call : (from : Origin) (o : Open) (os : List Open) (site : ℕ) → IsOpen from os → o.spawned ≡ false → o.mark ≡ Some (Invocation site) → ending_in from o os ≡ Called ∷ []
ending_call from o os site open_ e f = ending_inside from o os open_ ∙ ap (λ (b : Bool). ending b o.mark) e ∙ ap (λ (m : Option Mark). ending false m) f

ending_quiet : (from : Origin) (o : Open) (os : List Open) → IsOpen from os → o.spawned ≡ false → ((site : ℕ) → o.mark ≡ Some (Invocation site) → ⊥) → ending_in from o os ≡ []
ending_quiet from o os open_ e f = ending_inside from o os open_ ∙ ap (λ (b : Bool). ending b o.mark) e ∙ at o.mark f
  where
    at : (m : Option Mark) → ((site : ℕ) → m ≡ Some (Invocation site) → ⊥) → ending false m ≡ []
    at None f = refl
    at (Some (Invocation site)) f = absurd (f site refl)
    at (Some (Execution tag)) f = refl

-- the end of a part with a cut
pub closes_cut : (old mid new : Recorder) (count : ℕ) (part : Part) (code : Code) → old.parts.items ≡ mid.parts.items ++ part ∷ []
    → mid.out ≡ part.out → mid.noted ≡ old.noted → mid.kept ≡ old.kept → RecordsUpTo mid new count (code ∷ [])
    → ((from : Origin) (o : Open) (os : List Open) → IsOpen from os → IsOfKind o part.kind → ending_in from o os ≡ code ∷ []) → Closes old new count
closes_cut old mid new count part code pops out noted kept n ends codes from o os es main joined parts le h =
    let p = popped from o os part old.parts.items mid.parts.items pops parts in
    let at_mid = subst (λ (x : ℕ). Keeps (count - x) codes mid.kept) (sym noted) (subst (λ (k : Recorded). Keeps (count - old.noted) codes k) (sym kept) h) in
    let c = cut_here mid new count code codes n (omega (arith, le, noted)) at_mid in (
      c.0,
      subst (λ (l : List Code). Keeps (count - new.noted) (codes ++ l) new.kept) (sym (ends from o os p.inner p.is)) c.1,
      record {
        out = n.out ∙ out ∙ p.out ∙ sym (spawned_closed from o os es);
        parts = subst (λ (l : List Part). AreParts from os (reverse l)) (sym n.parts) p.parts;
      },
    )

pub child_closes : (old mid new : Recorder) (count : ℕ) (part : Part) → part.kind ≡ kind.Child → old.parts.items ≡ mid.parts.items ++ part ∷ []
    → mid.out ≡ part.out → mid.noted ≡ old.noted → mid.kept ≡ old.kept → RecordsUpTo mid new count (Ended ∷ []) → Closes old new count
child_closes old mid new count part e pops out noted kept n =
    closes_cut old mid new count part Ended pops out noted kept n (λ from o os inner is. ending_child from o os inner (subst (IsOfKind o) e is))

pub call_closes : (old mid new : Recorder) (count : ℕ) (part : Part) → part.kind ≡ kind.Call → old.parts.items ≡ mid.parts.items ++ part ∷ []
    → mid.out ≡ part.out → mid.noted ≡ old.noted → mid.kept ≡ old.kept → RecordsUpTo mid new count (Called ∷ []) → Closes old new count
call_closes old mid new count part e pops out noted kept n =
    closes_cut old mid new count part Called pops out noted kept n (λ from o os inner is. let a = subst (IsOfKind o) e is in ending_call from o os a.1.0 inner a.0 a.1.1)

-- the end of a part without cuts
pub quiet_closes : (old new : Recorder) (count : ℕ) (part : Part) → part.kind ≡ kind.Quiet → old.parts.items ≡ new.parts.items ++ part ∷ []
    → new.out ≡ part.out → new.noted ≡ old.noted → new.kept ≡ old.kept → Closes old new count
quiet_closes old new count part e pops out noted kept codes from o os es main joined parts le h =
    let p = popped from o os part old.parts.items new.parts.items pops parts in
    let a = subst (IsOfKind o) e p.is in
    let none = ending_quiet from o os p.inner a.0 a.1 in
    let at_new = subst (λ (x : ℕ). Keeps (count - x) codes new.kept) (sym noted) (subst (λ (k : Recorded). Keeps (count - old.noted) codes k) (sym kept) h) in (
      omega (arith, le, noted),
      subst (λ (l : List Code). Keeps (count - new.noted) l new.kept) (sym (ap (λ (l : List Code). codes ++ l) none ∙ append-nil codes)) at_new,
      record { out = out ∙ p.out ∙ sym (spawned_closed from o os es); parts = p.parts },
    )

-- the end of the run itself
pub nothing_closes : (old new : Recorder) (count : ℕ) → old.parts.items ≡ [] → new.parts.items ≡ [] → new.out ≡ old.out → new.noted ≡ old.noted → new.kept ≡ old.kept → Closes old new count
nothing_closes old new count none none' out noted kept codes Main o [] es main joined parts le h =
    let at_new = subst (λ (x : ℕ). Keeps (count - x) codes new.kept) (sym noted) (subst (λ (k : Recorded). Keeps (count - old.noted) codes k) (sym kept) h) in
    let spawned : out_in Main [] (closed o es) ≡ false =
    spawned_closed Main o [] es ∙ ap (λ (b : Bool). out_after_part b (out_in Main [] o.outer)) main.1 ∙ ap (λ (x : List Event). out_in Main [] x) main.0 in (
      omega (arith, le, noted),
      subst (λ (l : List Code). Keeps (count - new.noted) l new.kept) (sym (append-nil codes)) at_new,
      record { out = out ∙ joined ∙ sym spawned; parts = subst (λ (l : List Part). AreParts Main [] (reverse l)) (sym none') tt },
    )
nothing_closes old new count none none' out noted kept codes Main o (p ∷ os) es main joined parts le h = absurd (subst (λ (l : List Part). AreParts Main (o ∷ p ∷ os) (reverse l)) none parts)
nothing_closes old new count none none' out noted kept codes (Rest site) o os es main joined parts le h = absurd (subst (λ (l : List Part). AreParts (Rest site) (o ∷ os) (reverse l)) none parts)

-- a continuation that was executed separately
rest_apart : (from : Origin) (site : ℕ) (os : List Open) (es fs : List Event) → IsOpen from os → AreApart from os es → AreApart (Rest site) [] fs → AreApart from os (es ++ fs)
rest_apart from site os es fs open_ h g = with_block from os es (es ++ fs) open_ h (append_apart es fs (block_of_open from os es open_ h) g)

-- all instructions up to this count are recorded
settled : (old new : Recorder) (count : ℕ) (codes : List Code) → RecordsUpTo old new count [] → old.noted ≤ count → Keeps (count - old.noted) codes old.kept → Keeps 0 codes new.kept
settled old new count codes n le h =
    let none : count - count ≡ 0 = omega arith in
    keeps_as 0 (codes ++ Instructions (count - count) ∷ []) codes new.kept
    (λ l. ap (λ (n : ℕ). onto (codes ++ Instructions n ∷ []) l) none ∙ nothing_behind codes l) (n.keeps count codes le (omega arith) h)

pub rest_follows : (old mid rest ready new : Recorder) (count cost : ℕ) → RecordsUpTo old mid count [] → RecordsUpTo rest ready cost []
    → new.kept ≡ followed mid.kept ready.kept → (count + cost ≤ MOST_LIMIT → new.noted ≡ count + cost) → new.out ≡ mid.out → new.parts.items ≡ mid.parts.items
    → Rests old rest new count cost
rest_follows old mid rest ready new count cost n m kept noted out same from site os es fs small open_ spawned no_joins h g =
    let p = h.parts in
    let a = codes_in from os es in
    let b = codes_in (Rest site) [] fs in
    let at = noted small in
    let zero_left : 0 ≡ count + cost - new.noted = omega (arith, at) in
    let both = keeps_followed a b mid.kept ready.kept (settled old mid count a n h.goes_on h.keeps) (settled rest ready cost b m g.goes_on g.keeps) in
    record {
      goes_on = omega (arith, at);
      keeps = subst (λ (n : ℕ). Keeps n (codes_in from os (es ++ fs)) new.kept) zero_left
          (subst (λ (l : List Code). Keeps 0 l new.kept) (codes_rested from os es fs open_ spawned)
          (subst (λ (k : Recorded). Keeps 0 (a ++ b) k) (sym kept) both));
      parts = record {
        out = out ∙ n.out ∙ p.out ∙ out_already from os es spawned ∙ sym (out_still from os es fs spawned no_joins);
        parts = subst (λ (l : List Part). AreParts from os (reverse l)) (sym (same ∙ n.parts)) p.parts;
      };
      from_main = h.from_main;
      apart = rest_apart from site os es fs open_ h.apart g.apart;
    }

-- the result for a whole run
kept_of : (t u : Tree) (k : Recorded) → Same (codes_of AsChild u) (codes_of AsChild t) → Keeps 0 (codes_of AsChild t) k → IsKept u k
kept_of t u (Err n) same h =
    let a = same_cuts (codes_of AsChild u) (codes_of AsChild t) same in (omega (arith, a, h.0), omega (arith, a, h.1))
kept_of t u (Ok kept) same h =
    let is : Same kept (codes_of AsChild u) = λ l. sym (nothing_behind kept l) ∙ h.1 l ∙ sym (same l) in
    let a = same_cuts kept (codes_of AsChild u) is in (omega (arith, a, h.0), same_merged kept (codes_of AsChild u) is)

pub reads : (old new : Recorder) (count : ℕ) → RecordsUpTo old new count [] → Reads old count new.kept
reads old new count n es h =
    let t = Marked (Invocation 0) (tree_of es) in
    let whole = codes_of AsChild t ++ [] in
    let none : count - count ≡ 0 = omega arith in
    let all = n.keeps count whole h.goes_on (omega arith) h.keeps in
    kept_of t (normal t) new.kept h.apart
    (keeps_as 0 (whole ++ Instructions (count - count) ∷ []) (codes_of AsChild t) new.kept
    (λ l. ap (λ (n : ℕ). onto (whole ++ Instructions n ∷ []) l) none ∙ nothing_behind whole l ∙ ap (λ (x : List Code). onto x l) (append-nil (codes_of AsChild t))) all)
