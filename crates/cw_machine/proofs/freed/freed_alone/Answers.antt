use Rattle.std.proofs.Common.{◌∙◌, ap, subst, Bool, List}
use Rattle.std.specs.Coded.{le_prop}
use Rattle.std.proofs.Math.Logic.{∥∥₁_elim}
use Rattle.cw_model.specs.Trees.{Tree}
use Rattle.cw_freed.specs.Freeing.{AreFreed}
use Rattle.cw_code.specs.Code.{code_view}
use Rattle.cw_code.specs.Run.{code_serial}
use Rattle.cw_runnable.specs.declared.verified.Verified.{Verified}
use Rattle.cw_machine.specs.declared.freed.Freeing.{Freeing}
use Rattle.cw_machine.specs.Freed.{is_freed, Asked, Frees, FreesRun}
use Rattle.cw_machine.proofs.FromMain.{main_of, asked_of, asked_burden}
use Rattle.cw_machine.proofs.EndsAs.{EndsAs-prop, did_end, ends_as}
use Rattle.cw_machine.proofs.Freeings.{AreFreed-prop, starts}
use Rattle.cw_machine.proofs.freed.freed_alone.Goals as goal

pub listen-requires : goal.listen-requires
listen-requires c = λ is.
    let v = c.deref-verified.result.now in
    let frees = c.args.frees in
    let burden = c.args.burden in
    let light = ∥∥₁_elim v.ok le_prop (λ ok. (let main = main_of v ok in asked_burden main.func c.args.args.now c.args.n burden (asked_of v main c.args.args.now c.args.n burden is))) in
    ∣ record { asked = record { frees = frees.items; burden = burden }; kept = starts burden c.is_free-free.result c.new.result frees (c.is_free-free.ensures ∙ ap (λ (l : List Bool). is_freed l 0) c.as_slice.ensures.value) light c.new.ensures } ∣₁

pub returns : goal.returns
returns c =
    let v = c.deref-verified.result.now in
    let args = c.args.args.now in
    let n = c.args.n in
    let frees = c.args.frees in
    let burden = c.args.burden in
    let asked : Asked = record { frees = frees.items; burden = burden } in
    let f = c.finish.result in
    let P : Tree → Type 0 = λ t. AreFreed (is_freed frees.items) burden t f in
    let serial = code_serial (code_view v.code) args n in
    let is = c.in_ok-freeing.ensures.in_range in
    let light = ∥∥₁_elim v.ok le_prop (λ ok. (let main = main_of v ok in asked_burden main.func args n burden (asked_of v main args n burden is))) in
    let start = starts burden c.is_free-free.result c.new.result frees (c.is_free-free.ensures ∙ ap (λ (l : List Bool). is_freed l 0) c.as_slice.ensures.value) light c.new.ensures in
    let e = did_end P serial (∥∥₁_elim (c.in_ok-freeing.ensures.ends asked start) (EndsAs-prop P (AreFreed-prop (is_freed frees.items) burden f) serial) (λ r.
    ends_as Freeing (FreesRun asked) (code_view v.code) args n _ _ P r (c.finish.ensures (is_freed frees.items) burden r.trace.events r.kept.tells))) in
    subst (λ (w : Verified). Frees (code_view w.code) args n burden frees.items f) c.deref-verified.ensures
    (record { asked = is; value = e.value; lines = e.lines; totals = e.totals; tree = e.tree; answer = e.answer; are_freed = e.has })
