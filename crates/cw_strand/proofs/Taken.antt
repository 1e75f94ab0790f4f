-- A machine that took over what a continuation has shown.
use Rattle.std.proofs.Common.{◌≡◌, ℤ, ◌+ℤ◌, Bool, true, false, if◌then◌else◌, Option, Some, None, List, [], ◌∷◌, ◌++◌, refl, sym, ap, ◌∙◌, subst, append_assoc}
use Rattle.std.specs.Int.{w128}
use Rattle.std.proofs.Math.IntN.{+ℤ_comm}
use Rattle.std.proofs.lemmas.Int.{int_wrap-add_left}
use Rattle.std.proofs.lemmas.List.{append-nil}
use Rattle.cw_facts.specs.Integers.{max_regroup}
use Rattle.cw_model.specs.Syntax.{Name}
use Rattle.cw_model.specs.Names.{same_name}
use Rattle.cw_model.specs.declared.syntax.Reduction.{Reduction}
use Rattle.cw_model.specs.declared.syntax.Reduction.TheVariants.{Sum, Max}
use Rattle.cw_model.specs.declared.total.Total.{Total}
use Rattle.cw_model.specs.declared.total.Total.TheVariants as total
use Rattle.cw_model.specs.Answers.{maximum_to, or_max, sum_to, total_to}
use Rattle.cw_model.specs.Outcome.{Trace, quiet, joined}
use Rattle.cw_code.specs.Code.{Code, code_view}
use Rattle.cw_code.specs.Run.{Around, State}
use Rattle.cw_code.specs.Good.{GoodState}
use Rattle.cw_code.specs.Fits.{Fits}
use Rattle.cw_code.specs.Jobs.{Extent, WholeCall, ToJoin, JoinFrame}
use Rattle.cw_code.specs.Over.{trace_under, under}
use Rattle.cw_code.specs.Strands.{resumed}
use Rattle.cw_code.specs.lemmas.Under.{lines_under}
use Rattle.cw_runnable.specs.declared.verified.Verified.{Verified}
use Rattle.cw_jobs.specs.Totals.{greater, joined_total, kept, wrapped, AllFit, HoldsTotals}
use Rattle.cw_jobs.specs.lemmas.Totals.{sum_append}
use Rattle.cw_machine.specs.declared.machine.Machine.{Machine}
use Rattle.cw_machine.specs.Arrays.{Ok}
use Rattle.cw_machine.specs.RepresentsState.{RepresentsState}
use Rattle.cw_machine.specs.Segments.{IsBaseState}
use Rattle.cw_strand.specs.Giving.{AreJoined, HasTaken}

all_fit : (a b : List (Name × ℤ)) → AllFit a → AllFit b → AllFit (a ++ b)
all_fit [] b h k = k
all_fit (x ∷ a) b h k = (h.0, all_fit a b h.1 k)

wrap_both : (a b : ℤ) → wrapped (wrapped a +ℤ wrapped b) ≡ wrapped (a +ℤ b)
wrap_both a b =
    int_wrap-add_left w128 a (wrapped b) ∙ ap wrapped (+ℤ_comm a (wrapped b)) ∙ int_wrap-add_left w128 b a ∙ ap wrapped (+ℤ_comm b a)

max_after : (v : ℤ) (x y : Option ℤ) → greater (Some (or_max v x)) y ≡ Some (or_max v (greater x y))
max_after v None y = refl
max_after v (Some w) None = refl
max_after v (Some w) (Some u) = ap (λ z. Some z) (max_regroup v w u)

maximum_append : (name : Name) (a b : List (Name × ℤ)) → maximum_to name (a ++ b) ≡ greater (maximum_to name a) (maximum_to name b)
maximum_append name [] b = refl
maximum_append name (x ∷ a) b = at (same_name name x.0) (maximum_append name a b)
  where
    at : (c : Bool) → maximum_to name (a ++ b) ≡ greater (maximum_to name a) (maximum_to name b)
        → (if c then Some (or_max x.1 (maximum_to name (a ++ b))) else maximum_to name (a ++ b))
        ≡ greater (if c then Some (or_max x.1 (maximum_to name a)) else maximum_to name a) (maximum_to name b)
    at true h = ap (λ z. Some (or_max x.1 z)) h ∙ sym (max_after x.1 (maximum_to name a) (maximum_to name b))
    at false h = h

-- the total of a reducer over two pieces
total_append : (how : Reduction) (name : Name) (a b : List (Name × ℤ)) → joined_total (kept (total_to how name a)) (kept (total_to how name b)) ≡ kept (total_to how name (a ++ b))
total_append Sum name a b = ap (λ z. total.Sum z) (wrap_both (sum_to name a) (sum_to name b) ∙ ap wrapped (sym (sum_append name a b)))
total_append Max name a b = ap (λ z. total.Max z) (sym (maximum_append name a b))

totals_both : (code : Code) (old more new : List Total) (a b : List (Name × ℤ)) → AreJoined old more new → HoldsTotals code old a → HoldsTotals code more b → HoldsTotals code new (a ++ b)
totals_both code old more new a b joined h k = record {
  fit = all_fit a b h.fit k.fit;
  as_many = joined.as_many ∙ h.as_many;
  are = λ i r e.
      joined.each i (kept (total_to r.how r.name a)) (kept (total_to r.how r.name b)) (h.are i r e) (k.are i r e)
      ∙ ap (λ z. Some z) (total_append r.how r.name a b);
}

-- the trace of a state may be replaced
good_with : (code : Code) (fits : Fits code) (s : State) (t : Trace) → GoodState code fits s → GoodState code fits (record s { trace = t })
good_with code fits s t g = record {
  seat = g.seat;
  call = record { as_many = g.call.as_many; ints = g.call.ints; arrays = g.call.arrays; readers = g.call.readers; cuts = g.call.cuts };
  others = g.others;
}

module _ (v : Verified) (ok : Ok v) (m m' : Machine) (lines : List ℤ) (totals : List Total) (taken : HasTaken m lines totals m') (s : State) (t : Trace) (more : List (Name × ℤ)) where
  pub shows_taken : RepresentsState v ok m s → HoldsTotals (code_view v.code) totals more → t.lines ≡ s.trace.lines ++ lines → t.updates ≡ s.trace.updates ++ more → RepresentsState v ok m' (record s { trace = t })
  shows_taken h told l a = subst (λ x. RepresentsState v ok x (record s { trace = t })) (sym taken.rest) (record {
    good = good_with (code_view v.code) ok.verified.fits s t h.good;
    holds = record {
      at = h.holds.at;
      keeps = h.holds.keeps;
      comes = h.holds.comes;
      lies = h.holds.lies;
      room = h.holds.room;
      round = h.holds.round;
      shown = taken.lines_are ∙ ap (λ z. z ++ lines) h.holds.shown ∙ sym l;
    };
    deep = h.deep;
    arrays = h.arrays;
    totals = subst (HoldsTotals (code_view v.code) m'.totals.items) (sym a) (totals_both (code_view v.code) m.totals.items totals m'.totals.items s.trace.updates more taken.totals_are h.totals told);
    cuts = h.cuts;
  })

-- updates of a run that is placed over enclosing blocks
updates_under : (b : State) (around : List Around) (t : Trace) → (trace_under b around t).updates ≡ b.trace.updates ++ t.updates
updates_under b [] t = refl
updates_under b (a ∷ around) t = refl

appended : {A : Type 0} (b s t : List A) → b ++ (s ++ t) ≡ (b ++ (s ++ [])) ++ t
appended b s t = sym (append_assoc b s t) ∙ ap (λ z. (b ++ z) ++ t) (sym (append-nil s))

-- a block that continues from its join, with what the continuation has shown
pub shows_joined : (v : Verified) (ok : Ok v) (m m' : Machine) (totals : List Total) (b s : State) (frame : JoinFrame) (t : Trace)
    → HasTaken m t.lines totals m' → RepresentsState v ok m (under b (resumed s frame quiet)) → HoldsTotals (code_view v.code) totals t.updates
    → RepresentsState v ok m' (under b (resumed s frame t))
shows_joined v ok m m' totals b s frame t taken h told =
    shows_taken v ok m m' t.lines totals taken (under b (resumed s frame quiet)) (trace_under b s.around (joined s.trace t)) t.updates h told
    (lines_under b s.around (joined s.trace t) ∙ appended b.trace.lines s.trace.lines t.lines ∙ ap (λ z. z ++ t.lines) (sym (lines_under b s.around (joined s.trace quiet))))
    (updates_under b s.around (joined s.trace t) ∙ appended b.trace.updates s.trace.updates t.updates ∙ ap (λ z. z ++ t.updates) (sym (updates_under b s.around (joined s.trace quiet))))

-- the base of a run has shown nothing
base_quiet : (x : Extent) (b : State) → IsBaseState x b → b.trace ≡ quiet
base_quiet WholeCall b e = ap (λ (z : State). z.trace) e
base_quiet ToJoin b e = e.0

pub lines_shown : (v : Verified) (ok : Ok v) (m : Machine) (x : Extent) (b s : State) → IsBaseState x b → RepresentsState v ok m (under b s) → m.lines.items ≡ s.trace.lines
lines_shown v ok m x b s round h = h.holds.shown ∙ lines_under b s.around s.trace ∙ ap (λ (u : Trace). u.lines ++ s.trace.lines) (base_quiet x b round)
