use Rattle.std.proofs.Common.{arith, ◌≡◌, ◌+◌, length, subst}
use Rattle.cw_machine.specs.RepresentsState.{HasBegun}
use Rattle.cw_machine.proofs.Goes.{goes_ready}
use Rattle.cw_machine.proofs.machine.Machine.enter_ready.Goals as goal

pub returns : goal.returns
returns c =
    let m = c.args.self.now in
    let f = c.func-f.result.now in
    let array_is : c.len-first_array.result ≡ length m.views.items = omega (arith, c.len-first_array.ensures, m.views.ok.0) in
    goes_ready c.args.code.now m c.begin_within.new.self c.args.d c.args.c.now f c.requires.can c.requires.ready c.func-f.ensures
    (subst (λ k. HasBegun m f (m.first + c.args.d) k (m.depth + 1) c.args.c.now.target c.begin_within.new.self) array_is c.begin_within.ensures)
