use Rattle.std.proofs.Common.{arith, ◌≡◌, ℕ, ℤ, List, ◌≤◌, [], ◌∙◌, length, Some, true, sym, ap, subst}
use Rattle.std.specs.Coded.{le_prop}
use Rattle.std.proofs.Math.Bool.{Bool-set}
use Rattle.std.proofs.Math.Logic.{∥∥₁_elim, ∥∥₁_map}
use Rattle.cw_model.specs.Answers.{TrappedAt}
use Rattle.cw_model.specs.declared.burden.Burden.{Burden}
use Rattle.cw_model.specs.declared.limits.TheConstants.{MOST_BURDEN}
use Rattle.cw_meter.specs.declared.detail.Detail.{Detail}
use Rattle.cw_meter.specs.declared.detail.Detail.TheVariants as detail
use Rattle.cw_meter.specs.Details.{burden_of, IsLight}
use Rattle.cw_code.specs.declared.code.Reducer.{Reducer}
use Rattle.cw_code.specs.declared.code.Func.{Func}
use Rattle.cw_code.specs.Code.{code_view}
use Rattle.cw_code.specs.Run.{first_state, code_serial}
use Rattle.cw_runnable.specs.Resolved.{room_of}
use Rattle.cw_machine.specs.declared.run.Run.{Run}
use Rattle.cw_machine.specs.Metered.{IsNewRun, Reaches}
use Rattle.cw_machine.specs.Runs.{is_asked}
use Rattle.cw_machine.proofs.MeterLaws.{gauge_of}
use Rattle.cw_machine.proofs.FromMain.{is_over, was_over, IsTrapped-prop, was_trapped, requested, asked_count, asked_limit, asked_burden, main_there, main_has_room, main_room, main_frame, first_run, finished, over, trapped}
use Rattle.cw_machine.proofs.alone.run_whole.Goals as goal

-- the charge is in its range, if anything is counted
light_of : (d : Detail) (burden : Burden) → (burden_of d).charge ≤ burden.charge → burden.charge ≤ MOST_BURDEN → IsLight d
light_of detail.Values burden least most = tt
light_of detail.Strands burden least most = tt
light_of (detail.Measures charged) burden least most = omega (arith, least, most)

-- a new run has the stack of `main` and a total for each reducer
is_new : {f : Func} {args : List ℤ} {room room' : ℕ} {reducers reducers' : List Reducer} {detail : Detail} {r : Run} → room ≡ room' → reducers ≡ reducers' → IsNewRun f args room reducers detail r → IsNewRun f args room' reducers' detail r
is_new {f} {args} {room} {room'} {reducers} {reducers'} {detail} {r} e e' new = subst (λ k. IsNewRun f args k reducers' detail r) e (subst (λ k. IsNewRun f args room k detail r) e' new)

pub func-f-requires : goal.func-f-requires
func-f-requires c = let v = c.args.code.now in ∥∥₁_elim v.ok le_prop (λ ok. main_there v ok)

pub room-requires : goal.room-requires
room-requires c = let v = c.args.code.now in ∥∥₁_elim v.ok le_prop (λ ok. main_has_room v ok)

pub new-requires : goal.new-requires
new-requires c =
    let v = c.args.code.now in
    let f = c.func-f.result.now in
    let asked : is_asked f.params (length c.args.args.now) c.args.n c.args.burden ≡ true = sym c.is_asked.ensures ∙ c.if-not-is_asked.false in
    let count = asked_count f c.args.args.now c.args.n c.args.burden asked in
    let small : f.params ≤ room_of v.rooms.items v.code.main = ∥∥₁_elim v.ok le_prop (λ ok. omega (arith, main_room v f ok c.func-f.ensures, main_frame v f ok c.func-f.ensures)) in
    omega (arith, c.room.ensures)

pub go-stop-requires-clause-running : goal.go-stop-requires-clause-running
go-stop-requires-clause-running c =
    let v = c.args.code.now in
    let f = c.func-f.result.now in
    let args = c.args.args.now in
    let n = c.args.n in
    let burden = c.args.burden in
    let d = c.args.detail in
    let asked : is_asked f.params (length args) n burden ≡ true = sym c.is_asked.ensures ∙ c.if-not-is_asked.false in
    let count = asked_count f args n burden asked in
    let light = light_of d burden c.requires (asked_burden f args n burden asked) in
    let made : IsNewRun f args (room_of v.rooms.items v.code.main) v.code.reducers.items d c.in_ok-run.run' = is_new c.room.ensures c.as_slice-reducers.ensures.value c.in_ok-run.ensures in
    ∥∥₁_map v.ok (λ ok. record { verified = ok; detail = d; light = light; state = first_state f args [] []; shows = first_run v ok (gauge_of v ok d light) f args c.in_ok-run.run' c.func-f.ensures count made })

pub go-stop-requires-clause-small : goal.go-stop-requires-clause-small
go-stop-requires-clause-small c =
    let f = c.func-f.result.now in
    let args = c.args.args.now in
    let asked : is_asked f.params (length args) c.args.n c.args.burden ≡ true = sym c.is_asked.ensures ∙ c.if-not-is_asked.false in
    asked_limit f args c.args.n c.args.burden asked

pub returns-in-Gave : goal.returns-in-Gave
returns-in-Gave c =
    let v = c.args.code.now in
    let f = c.func-f.result.now in
    let code = code_view v.code in
    let args = c.args.args.now in
    let n = c.args.n in
    let burden = c.args.burden in
    let d = c.args.detail in
    let r = c.go-stop.new.self in
    let count = c.go-stop.result.1 in
    let asked : is_asked f.params (length args) n burden ≡ true = sym c.is_asked.ensures ∙ c.if-not-is_asked.false in
    let many = asked_count f args n burden asked in
    let light = light_of d burden c.requires (asked_burden f args n burden asked) in
    let made : IsNewRun f args (room_of v.rooms.items v.code.main) v.code.reducers.items d c.in_ok-run.run' = is_new c.room.ensures c.as_slice-reducers.ensures.value c.in_ok-run.ensures in
    record {
      asked = requested code f args n burden c.func-f.ensures asked;
      within = c.go-stop.ensures.within;
      finishes = ∥∥₁_map v.ok (λ ok.
          let g = gauge_of v ok d light in
          finished v f args n burden count r c.func-f.ensures asked ok g c.in-Gave.value (subst (λ to. Reaches v ok g count to r n (first_state f args [] [])) c.in-Gave.is (c.go-stop.ensures.reaches ok g (first_state f args [] []) (first_run v ok g f args c.in_ok-run.run' c.func-f.ensures many made))));
    }

pub returns-in-On : goal.returns-in-On
returns-in-On c =
    let v = c.args.code.now in
    let f = c.func-f.result.now in
    let code = code_view v.code in
    let args = c.args.args.now in
    let n = c.args.n in
    let burden = c.args.burden in
    let d = c.args.detail in
    let r = c.go-stop.new.self in
    let count = c.go-stop.result.1 in
    let asked : is_asked f.params (length args) n burden ≡ true = sym c.is_asked.ensures ∙ c.if-not-is_asked.false in
    let many = asked_count f args n burden asked in
    let light = light_of d burden c.requires (asked_burden f args n burden asked) in
    let made : IsNewRun f args (room_of v.rooms.items v.code.main) v.code.reducers.items d c.in_ok-run.run' = is_new c.room.ensures c.as_slice-reducers.ensures.value c.in_ok-run.ensures in
    let serial = code_serial code args n in
    let e : is_over serial ≡ true = ∥∥₁_elim v.ok (hlevel Bool-set) (λ ok.
    let g = gauge_of v ok d light in
    over v f args n burden count r c.func-f.ensures asked ok g (subst (λ to. Reaches v ok g count to r n (first_state f args [] [])) c.in-On.is (c.go-stop.ensures.reaches ok g (first_state f args [] []) (first_run v ok g f args c.in_ok-run.run' c.func-f.ensures many made)))) in
    (requested code f args n burden c.func-f.ensures asked, was_over serial e)

pub returns-in-Trapped : goal.returns-in-Trapped
returns-in-Trapped c =
    let v = c.args.code.now in
    let f = c.func-f.result.now in
    let code = code_view v.code in
    let args = c.args.args.now in
    let n = c.args.n in
    let burden = c.args.burden in
    let d = c.args.detail in
    let r = c.go-stop.new.self in
    let count = c.go-stop.result.1 in
    let asked : is_asked f.params (length args) n burden ≡ true = sym c.is_asked.ensures ∙ c.if-not-is_asked.false in
    let many = asked_count f args n burden asked in
    let light = light_of d burden c.requires (asked_burden f args n burden asked) in
    let made : IsNewRun f args (room_of v.rooms.items v.code.main) v.code.reducers.items d c.in_ok-run.run' = is_new c.room.ensures c.as_slice-reducers.ensures.value c.in_ok-run.ensures in
    let serial = code_serial code args n in
    let trap = c.in-Trapped.trap in
    let line = c.in-Trapped.line in
    let lines = r.machine.lines.items in
    let e = was_trapped trap line lines serial (∥∥₁_elim v.ok (IsTrapped-prop trap line lines serial) (λ ok.
    let g = gauge_of v ok d light in
    trapped v f args n burden count r c.func-f.ensures asked ok g trap line (subst (λ to. Reaches v ok g count to r n (first_state f args [] [])) c.in-Trapped.is (c.go-stop.ensures.reaches ok g (first_state f args [] []) (first_run v ok g f args c.in_ok-run.run' c.func-f.ensures many made))))) in
    (requested code f args n burden c.func-f.ensures asked, e ∙ ap (λ l. Some (TrappedAt trap line l)) (sym c.into_vec.ensures.items))
