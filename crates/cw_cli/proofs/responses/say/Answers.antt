use Rattle.std.proofs.Common.{refl, subst}
use Rattle.cw_report.specs.Sinks.{WritesAll, WritesPart}
use Rattle.cw_cli.specs.Tools.{TriesText, IsFaultReport, whole, cut_short}
use Rattle.cw_cli.proofs.Tools.{tries}
use Rattle.cw_cli.proofs.responses.say.Goals as goal

pub returns-in-Ok : goal.returns-in-Ok
returns-in-Ok g c =
    let seen = g.W.Sink.seen in
    let old = c.args.out.now in
    let new = c.write_text.new.to in
    rw (c.in-Help.is) (whole (subst (λ t. WritesAll (seen old) (seen new) t) c.as_bytes.ensures.value c.in-Ok.ensures.writes) refl refl)

pub returns-in-Err : goal.returns-in-Err
returns-in-Err g c =
    let seen = g.W.Sink.seen in
    let old = c.args.out.now in
    let new = c.write_text.new.to in
    let refusal = subst (λ f. IsFaultReport g.E.Sink.seen c.args.err.now c.refuse.new.err f c.refuse.result) c.in-Err.ensures.writes.0 c.refuse.ensures in
    rw (c.in-Help.is) (cut_short (subst (λ t. WritesPart (seen old) (seen new) t) c.as_bytes.ensures.value c.in-Err.ensures.writes.1) refusal)

pub returns-in-Misuse : goal.returns-in-Misuse
returns-in-Misuse g c =
    let seen = g.E.Sink.seen in
    let old = c.args.err.now in
    let new = c.write_text-in-Misuse.new.to in
    let told = tries seen old new _ c.write_text-in-Misuse.result c.write_text-in-Misuse.ensures.writes in
    rw (c.in-Misuse.is) (record { untouched = refl; text_is = subst (λ t. TriesText seen old new t) c.as_bytes-in-Misuse.ensures.value told; status_is = refl })

pub returns-in-Fault : goal.returns-in-Fault
returns-in-Fault g c = rw (c.in-Fault.is) (record { untouched = refl; refusal = c.refuse-in-Fault.ensures })
