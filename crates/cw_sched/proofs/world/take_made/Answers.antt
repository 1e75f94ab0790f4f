use Rattle.std.proofs.Common.{◌∙◌, Some, sym, ap}
use Rattle.cw_sched.specs.core.Board.{newest, of_worker}
use Rattle.cw_sched.specs.Scenes.{stacks, stage_of}
use Rattle.cw_sched.proofs.Tops.{made_some, made_not, top_popped, left_popped, none_popped, goes_never, told_never, there}
use Rattle.cw_sched.proofs.world.take_made.Goals as goal

pub returns-clause-top : goal.returns-clause-top
returns-clause-top c =
    let qs = c.args.begun.now.items in
    let lt = there qs c.args.w (made_some (newest (of_worker (stacks c.args.begun.now) c.args.w)) c.requires) in
    top_popped qs c.args.w c.index_mut.result.now c.pop.new.self c.in-Some-Made.field-0 lt c.index_mut.ensures.value c.in-Some-Made.ensures.items
    ∙ ap (λ x. Some (stage_of x)) c.in-Some-Made.field-0-is

pub returns-clause-left : goal.returns-clause-left
returns-clause-left c =
    let qs = c.args.begun.now.items in
    let lt = there qs c.args.w (made_some (newest (of_worker (stacks c.args.begun.now) c.args.w)) c.requires) in
    left_popped qs c.args.w c.index_mut.result.now c.pop.new.self c.in-Some-Made.field-0 lt c.index_mut.ensures.value c.in-Some-Made.ensures.items

pub unreachable-requires : goal.unreachable-requires
unreachable-requires c =
    let qs = c.args.begun.now.items in
    let t = newest (of_worker (stacks c.args.begun.now) c.args.w) in
    let lt = there qs c.args.w (made_some t c.requires) in
    goes_never c.in-Some-Goes.field-0 _
    (made_not t (stage_of c.in-Some-Goes.field-0) c.requires (top_popped qs c.args.w c.index_mut.result.now c.pop.new.self c.in-Some-Goes.field-0 lt c.index_mut.ensures.value c.in-Some-Goes.ensures.items))
    c.in-Some-Goes.field-0-is

pub unreachable-requires-in-Some-Answered : goal.unreachable-requires-in-Some-Answered
unreachable-requires-in-Some-Answered c =
    let qs = c.args.begun.now.items in
    let t = newest (of_worker (stacks c.args.begun.now) c.args.w) in
    let lt = there qs c.args.w (made_some t c.requires) in
    told_never c.in-Some-Answered.field-0 _
    (made_not t (stage_of c.in-Some-Answered.field-0) c.requires (top_popped qs c.args.w c.index_mut.result.now c.pop.new.self c.in-Some-Answered.field-0 lt c.index_mut.ensures.value c.in-Some-Answered.ensures.items))
    c.in-Some-Answered.field-0-is

pub unreachable-requires-in-None : goal.unreachable-requires-in-None
unreachable-requires-in-None c =
    let qs = c.args.begun.now.items in
    let t = newest (of_worker (stacks c.args.begun.now) c.args.w) in
    let lt = there qs c.args.w (made_some t c.requires) in
    let q = c.index_mut.result.now in
    made_some t c.requires (none_popped qs c.args.w q c.pop.new.self lt c.index_mut.ensures.value (sym q.ok.0 ∙ c.in-None.ensures.cases.0))
