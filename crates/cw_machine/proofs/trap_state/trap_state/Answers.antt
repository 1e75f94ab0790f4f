use Rattle.std.proofs.Common.{◌≡◌, ℕ, ℤ, List, [], ◌∙◌, length, true, sym, ap, subst}
use Rattle.std.proofs.Math.Bool.{Bool-set}
use Rattle.std.proofs.Math.Logic.{∥∥₁_elim, ∥∥₁_map}
use Rattle.cw_model.specs.Burdens.{no_burden}
use Rattle.cw_code.specs.Code.{code_view}
use Rattle.cw_code.specs.Fits.{main_params}
use Rattle.cw_code.specs.Run.{first_state, code_serial}
use Rattle.cw_runnable.specs.declared.verified.Verified.{Verified}
use Rattle.cw_machine.specs.declared.machine.Machine.{Machine}
use Rattle.cw_machine.specs.declared.trap_state.Halt.{Halt}
use Rattle.cw_machine.specs.Arrays.{IsFit}
use Rattle.cw_machine.specs.RepresentsState.{BeginsRun}
use Rattle.cw_machine.specs.Runs.{is_asked, is_request}
use Rattle.cw_machine.specs.TrapState.{Halts, HaltsAny}
use Rattle.cw_machine.proofs.AtTrap.{is_end, was_end, over, ended, trapped}
use Rattle.cw_machine.proofs.FromMain.{as_many_asked, Main, main_of, asked_of, is_over, was_over, IsTrapped-prop, was_trapped}
use Rattle.cw_machine.proofs.trap_state.trap_state.Goals as goal

-- the test is equivalent to the test of the request
asked_as : (v : Verified) (args : List ℤ) (params n : ℕ) → params ≡ main_params (code_view v.code) → is_asked params (length args) n no_burden ≡ true → is_request (code_view v.code) args n no_burden ≡ true
asked_as v args params n e h = ap (λ k. is_asked k (length args) n no_burden) (sym e) ∙ h

-- the outcome of a run from the beginning of `main`
came : (v : Verified) (ok : IsFit v) (main : Main v) (args : List ℤ) (n : ℕ) (m m' : Machine) (to to' : Halt) → BeginsRun v args m → HaltsAny v m n to' m' → to' ≡ to → Halts (code_view v.code) to m' n (first_state main.func args [] [])
came v ok main args n m m' to to' begins runs is = subst (λ x. Halts (code_view v.code) x m' n (first_state main.func args [] [])) is (runs ok (first_state main.func args [] []) (begins ok main.func main.found))

pub begun-requires : goal.begun-requires
begun-requires c = as_many_asked c.main_takes.result c.args.args.now c.args.n no_burden (sym c.is_asked.ensures ∙ c.if-not-is_asked.false) ∙ c.main_takes.ensures

pub run_to_trap-requires : goal.run_to_trap-requires
run_to_trap-requires c =
    let v = c.args.code.now in
    ∥∥₁_map v.ok (λ ok. let main = main_of v ok in record { verified = ok; state = first_state main.func c.args.args.now [] []; shows = c.in_ok-machine.ensures ok main.func main.found })

pub returns-in-Over : goal.returns-in-Over
returns-in-Over c =
    let v = c.args.code.now in
    let args = c.args.args.now in
    let n = c.args.n in
    let m = c.run_to_trap.new.self in
    let asked = asked_as v args c.main_takes.result n c.main_takes.ensures (sym c.is_asked.ensures ∙ c.if-not-is_asked.false) in
    let serial = code_serial (code_view v.code) args n in
    let e : is_over serial ≡ true = ∥∥₁_elim v.ok (hlevel Bool-set) (λ ok.
    let main = main_of v ok in
    over v main.func args n no_burden main.found (asked_of v main args n no_burden asked) ok (came v ok main args n c.in_ok-machine.machine m _ _ c.in_ok-machine.ensures c.run_to_trap.ensures c.in-Over.is)) in
    (asked, was_over serial e)

pub returns-in-Ended : goal.returns-in-Ended
returns-in-Ended c =
    let v = c.args.code.now in
    let args = c.args.args.now in
    let n = c.args.n in
    let m = c.run_to_trap.new.self in
    let asked = asked_as v args c.main_takes.result n c.main_takes.ensures (sym c.is_asked.ensures ∙ c.if-not-is_asked.false) in
    let serial = code_serial (code_view v.code) args n in
    let e : is_end serial ≡ true = ∥∥₁_elim v.ok (hlevel Bool-set) (λ ok.
    let main = main_of v ok in
    let end = came v ok main args n c.in_ok-machine.machine m _ _ c.in_ok-machine.ensures c.run_to_trap.ensures c.in-Ended.is in
    ended v main.func args n no_burden main.found (asked_of v main args n no_burden asked) ok end.0 end.1 end.2 end.3) in
    let w = was_end serial e in
    record { asked = asked; value = w.value; lines = w.lines; totals = w.totals; tree = w.tree; answer = w.is }

pub returns-in-Trapped : goal.returns-in-Trapped
returns-in-Trapped c =
    let v = c.args.code.now in
    let args = c.args.args.now in
    let n = c.args.n in
    let m = c.run_to_trap.new.self in
    let asked = asked_as v args c.main_takes.result n c.main_takes.ensures (sym c.is_asked.ensures ∙ c.if-not-is_asked.false) in
    let serial = code_serial (code_view v.code) args n in
    let trap = c.in-Trapped.trap in
    let line = c.in-Trapped.line in
    let lines = m.lines.items in
    let e = was_trapped trap line lines serial (∥∥₁_elim v.ok (IsTrapped-prop trap line lines serial) (λ ok.
    let main = main_of v ok in
    trapped v main.func args n no_burden main.found (asked_of v main args n no_burden asked) ok trap line c.in-Trapped.trap_operands lines (came v ok main args n c.in_ok-machine.machine m _ _ c.in_ok-machine.ensures c.run_to_trap.ensures c.in-Trapped.is))) in
    record {
      asked = asked;
      lines = lines;
      answer = e;
      stood = ∥∥₁_map v.ok (λ ok.
          let main = main_of v ok in
          (main.func, main.found, came v ok main args n c.in_ok-machine.machine m _ _ c.in_ok-machine.ensures c.run_to_trap.ensures c.in-Trapped.is));
    }
