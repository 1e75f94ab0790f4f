use Rattle.std.proofs.Common.{◌∙◌, Some, refl, sym, ap, length, arith}
use Rattle.std.proofs.lemmas.Option.{slice_get_read}
use Rattle.cw_facts.specs.Lists.{get_set}
use Rattle.cw_sched.specs.core.Board.{newest, of_worker}
use Rattle.cw_sched.specs.Scenes.{stacks, stage_of}
use Rattle.cw_sched.proofs.Lists.{newest_pushed}
use Rattle.cw_sched.proofs.Tops.{goes_some, goes_not, top_popped, left_popped, none_popped, made_never, answered_never, there}
use Rattle.cw_sched.proofs.world.take.Goals as goal

pub returns-clause-top : goal.returns-clause-top
returns-clause-top c =
    let qs = c.args.begun.now.items in
    let lt = there qs c.args.w (goes_some (newest (of_worker (stacks c.args.begun.now) c.args.w)) c.requires) in
    top_popped qs c.args.w c.index_mut.result.now c.pop.new.self c.in-Some-Goes.field-0 lt c.index_mut.ensures.value c.in-Some-Goes.ensures.items
    ∙ ap (λ x. Some (stage_of x)) c.in-Some-Goes.field-0-is

pub returns-clause-last : goal.returns-clause-last
returns-clause-last c =
    let qs = c.args.begun.now.items in
    let q = c.index_mut.result.now in
    let x = c.in-Some-Goes.field-0 in
    let lt = there qs c.args.w (goes_some (newest (of_worker (stacks c.args.begun.now) c.args.w)) c.requires) in
    record {
      stack = q;
      there = slice_get_read qs (length qs) c.args.w q refl lt c.index_mut.ensures.value;
      last = ap newest c.in-Some-Goes.ensures.items ∙ (newest_pushed c.pop.new.self.items x ∙ ap (λ y. Some y) c.in-Some-Goes.field-0-is);
    }

pub returns-clause-left : goal.returns-clause-left
returns-clause-left c =
    let qs = c.args.begun.now.items in
    let lt = there qs c.args.w (goes_some (newest (of_worker (stacks c.args.begun.now) c.args.w)) c.requires) in
    left_popped qs c.args.w c.index_mut.result.now c.pop.new.self c.in-Some-Goes.field-0 lt c.index_mut.ensures.value c.in-Some-Goes.ensures.items

pub returns-clause-room : goal.returns-clause-room
returns-clause-room c =
    let qs = c.args.begun.now.items in
    let lt = there qs c.args.w (goes_some (newest (of_worker (stacks c.args.begun.now) c.args.w)) c.requires) in
    (c.pop.new.self, get_set qs c.args.w c.pop.new.self lt, omega (arith, c.in-Some-Goes.ensures.cases, c.pop.ensures.capacity, c.index_mut.result.now.ok.1))

pub unreachable-requires : goal.unreachable-requires
unreachable-requires c =
    let qs = c.args.begun.now.items in
    let t = newest (of_worker (stacks c.args.begun.now) c.args.w) in
    let lt = there qs c.args.w (goes_some t c.requires) in
    made_never c.in-Some-Made.field-0 _ _
    (goes_not t (stage_of c.in-Some-Made.field-0) c.requires (top_popped qs c.args.w c.index_mut.result.now c.pop.new.self c.in-Some-Made.field-0 lt c.index_mut.ensures.value c.in-Some-Made.ensures.items))
    c.in-Some-Made.field-0-is

pub unreachable-requires-in-Some-Answered : goal.unreachable-requires-in-Some-Answered
unreachable-requires-in-Some-Answered c =
    let qs = c.args.begun.now.items in
    let t = newest (of_worker (stacks c.args.begun.now) c.args.w) in
    let lt = there qs c.args.w (goes_some t c.requires) in
    answered_never c.in-Some-Answered.field-0 _
    (goes_not t (stage_of c.in-Some-Answered.field-0) c.requires (top_popped qs c.args.w c.index_mut.result.now c.pop.new.self c.in-Some-Answered.field-0 lt c.index_mut.ensures.value c.in-Some-Answered.ensures.items))
    c.in-Some-Answered.field-0-is

pub unreachable-requires-in-None : goal.unreachable-requires-in-None
unreachable-requires-in-None c =
    let qs = c.args.begun.now.items in
    let t = newest (of_worker (stacks c.args.begun.now) c.args.w) in
    let lt = there qs c.args.w (goes_some t c.requires) in
    let q = c.index_mut.result.now in
    goes_some t c.requires (none_popped qs c.args.w q c.pop.new.self lt c.index_mut.ensures.value (sym q.ok.0 ∙ c.in-None.ensures.cases.0))
