use Rattle.std.proofs.Common.{◌≡◌, [], ◌∙◌, Some, true, sym, ap}
use Rattle.std.proofs.Math.Bool.{Bool-set}
use Rattle.std.proofs.Math.Logic.{∥∥₁_elim, ∥∥₁_map, ∥∥₁_prop}
use Rattle.cw_model.specs.Answers.{TrappedAt}
use Rattle.cw_code.specs.Code.{code_view}
use Rattle.cw_code.specs.Run.{first_state, code_serial}
use Rattle.cw_machine.specs.declared.machine.Moved.TheVariants as moved
use Rattle.cw_machine.specs.Arrays.{alone as from_main}
use Rattle.cw_machine.proofs.FromMain.{as_many_asked, main_of, asked_of, is_over, was_over, IsTrapped-prop, was_trapped, asked_as}
use Rattle.cw_machine.proofs.Given.{passed, stopped}
use Rattle.cw_machine.proofs.RecordRelation.{by_machine}
use Rattle.cw_machine.proofs.EndsAs.{begins, came, ended}
use Rattle.cw_machine.proofs.listener.listen.Goals as goal

pub begun-requires : goal.begun-requires
begun-requires g c =
    let args = c.args.args.now in
    as_many_asked c.main_takes.result args c.args.n c.args.burden (sym c.is_asked.ensures ∙ c.if-not-is_asked.false) ∙ c.main_takes.ensures

pub go-stop-requires-clause-running : goal.go-stop-requires-clause-running
go-stop-requires-clause-running g c =
    let v = c.args.code.now in
    let asked = asked_as v c.args.args.now c.main_takes.result c.args.n c.args.burden c.main_takes.ensures (sym c.is_asked.ensures ∙ c.if-not-is_asked.false) in
    ∥∥₁_elim v.ok ∥∥₁_prop (λ ok.
    ∥∥₁_map (c.requires asked) (λ b.
    let main = main_of v ok in
    record { asked = b.asked; under_way = record { verified = ok; state = first_state main.func c.args.args.now [] []; shows = begins _ (g.W.Listener.keeps b.asked) v ok main c.args.args.now _ c.args.listener c.in_ok-machine.ensures b.kept } }))

pub returns-in-Gave : goal.returns-in-Gave
returns-in-Gave g c =
    let v = c.args.code.now in
    let args = c.args.args.now in
    let n = c.args.n in
    let r = c.go-stop.new.self in
    let is = asked_as v args c.main_takes.result n c.args.burden c.main_takes.ensures (sym c.is_asked.ensures ∙ c.if-not-is_asked.false) in
    record {
      in_range = is;
      ends = λ asked start.
          let k = g.W.Listener.keeps asked in
          ∥∥₁_map v.ok (λ ok.
          let main = main_of v ok in
          ended _ k v main.func args n c.go-stop.result.1 c.args.burden r.machine r.listener main.found (asked_of v main args n c.args.burden is) ok c.in-Gave.field-0
          (came _ k v ok main args n c.go-stop.result.1 _ r.machine c.args.listener r.listener _ _ c.in_ok-machine.ensures start (c.go-stop.ensures asked) c.in-Gave.is));
    }

pub returns-in-On : goal.returns-in-On
returns-in-On g c =
    let v = c.args.code.now in
    let args = c.args.args.now in
    let n = c.args.n in
    let r = c.go-stop.new.self in
    let burden = c.args.burden in
    let asked = asked_as v args c.main_takes.result n burden c.main_takes.ensures (sym c.is_asked.ensures ∙ c.if-not-is_asked.false) in
    let serial = code_serial (code_view v.code) args n in
    let e : is_over serial ≡ true = ∥∥₁_elim v.ok (hlevel Bool-set) (λ ok.
    ∥∥₁_elim (c.requires asked) (hlevel Bool-set) (λ b.
    let k = g.W.Listener.keeps b.asked in
    let main = main_of v ok in
    passed v main.func args n burden r.machine main.found (asked_of v main args n burden asked) ok (by_machine _ k v (from_main v ok) moved.On r.machine r.listener c.go-stop.result.1 n (first_state main.func args [] []) (came _ k v ok main args n c.go-stop.result.1 _ r.machine c.args.listener r.listener _ _ c.in_ok-machine.ensures b.kept (c.go-stop.ensures b.asked) c.in-On.is)))) in
    (asked, was_over serial e)

pub returns-in-Trapped : goal.returns-in-Trapped
returns-in-Trapped g c =
    let v = c.args.code.now in
    let args = c.args.args.now in
    let n = c.args.n in
    let r = c.go-stop.new.self in
    let m = r.machine in
    let burden = c.args.burden in
    let asked = asked_as v args c.main_takes.result n burden c.main_takes.ensures (sym c.is_asked.ensures ∙ c.if-not-is_asked.false) in
    let serial = code_serial (code_view v.code) args n in
    let trap = c.in-Trapped.trap in
    let line = c.in-Trapped.line in
    let lines = m.lines.items in
    let e = was_trapped trap line lines serial (∥∥₁_elim v.ok (IsTrapped-prop trap line lines serial) (λ ok.
    ∥∥₁_elim (c.requires asked) (IsTrapped-prop trap line lines serial) (λ b.
    let k = g.W.Listener.keeps b.asked in
    let main = main_of v ok in
    stopped v main.func args n burden m main.found (asked_of v main args n burden asked) ok trap line (by_machine _ k v (from_main v ok) (moved.Trapped trap line) m r.listener c.go-stop.result.1 n (first_state main.func args [] []) (came _ k v ok main args n c.go-stop.result.1 _ m c.args.listener r.listener _ _ c.in_ok-machine.ensures b.kept (c.go-stop.ensures b.asked) c.in-Trapped.is))))) in
    (asked, e ∙ ap (λ l. Some (TrappedAt trap line l)) (sym c.into_vec.ensures.items))
