use Rattle.std.proofs.Common.{refl, rules}
use Rattle.std.proofs.lemmas.Result.{on_ok_weaker}
use Rattle.cw_greedy.specs.declared.recorder.Recorder.{Recorder}
use Rattle.cw_greedy.proofs.Moves.{child_closes, call_closes, quiet_closes, nothing_closes}
use Rattle.cw_greedy.proofs.recorder.Recorder.close.Goals as goal

pub returns-in-Child : goal.returns-in-Child
returns-in-Child c =
    let old = c.args.self.now in
    let part = c.in-Some.part in
    let mid : Recorder = record { kept = old.kept; noted = old.noted; out = part.out; parts = c.pop.new.self } in
    on_ok_weaker c.cut.result (λ n. child_closes old mid c.cut.new.self c.args.count part c.in-Child.is c.in-Some.ensures.items refl refl refl n) c.cut.ensures

pub returns-in-Call : goal.returns-in-Call
returns-in-Call c =
    let old = c.args.self.now in
    let part = c.in-Some.part in
    let mid : Recorder = record { kept = old.kept; noted = old.noted; out = part.out; parts = c.pop.new.self } in
    on_ok_weaker c.cut-in-Call.result (λ n. call_closes old mid c.cut-in-Call.new.self c.args.count part c.in-Call.is c.in-Some.ensures.items refl refl refl n) c.cut-in-Call.ensures

pub returns-in-Quiet : goal.returns-in-Quiet
returns-in-Quiet c =
    let old = c.args.self.now in
    let part = c.in-Some.part in
    quiet_closes old (record { kept = old.kept; noted = old.noted; out = part.out; parts = c.pop.new.self }) c.args.count part c.in-Quiet.is c.in-Some.ensures.items refl refl refl

pub returns-in-None : goal.returns-in-None
returns-in-None c =
    let old = c.args.self.now in
    nothing_closes old (record { kept = old.kept; noted = old.noted; out = old.out; parts = c.pop.new.self }) c.args.count (search rules) (search rules) refl refl refl
