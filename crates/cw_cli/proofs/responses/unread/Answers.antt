use Rattle.std.proofs.Common.{◌≡◌, rules, false, true}
use Rattle.std.specs.declared.io.ErrorKind.TheVariants.{OutOfMemory}
use Rattle.std.specs.IoError.{error_kind}
use Rattle.cw_cli.proofs.responses.unread.Goals as goal

pub returns-then-eq : goal.returns-then-eq
returns-then-eq g c =
    let same : error_kind c.args.error.now ≡ OutOfMemory = search rules in
    record { memory = λ e. c.refuse.ensures; file = λ h. absurd (h same) }

pub returns : goal.returns
returns g c = record {
  memory = λ e. absurd (let bad : true ≡ false = search rules in cc);
  file = λ e. c.tell_file.ensures;
}
