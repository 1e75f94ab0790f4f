use Rattle.std.proofs.Common.{◌≡◌, ◌∙◌, rules, map, string_bytes, subst, sym, List, []}
use Rattle.std.proofs.lemmas.Result.{IfErr-weaker}
use Rattle.clap.specs.Words.{Row, Text, found_of, rows_of}
use Rattle.cw_words.specs.Requests.{HaveCommand, IsSaidOf, NamesNoCommand, faults}
use Rattle.cw_words.specs.declared.asked.Said.TheVariants as said
use Rattle.cw_words.proofs.CommandFaults.{fault_by_rows, has_command}
use Rattle.cw_words.proofs.words.request.Goals as goal

pub returns-in_default-clause-why : goal.returns-in_default-clause-why
returns-in_default-clause-why c =
    let words : List Text = map string_bytes c.args.words.now in
    let none : faults words ≡ [] = c.in-Ok.ensures.kinds in
    absurd (has_command words none (subst NamesNoCommand c.in-Ok.ensures.rows c.in_default.ensures))

pub returns-in_err-request-clause-why : goal.returns-in_err-request-clause-why
returns-in_err-request-clause-why c =
    let words : List Text = map string_bytes c.args.words.now in
    let rows : List Row = rows_of (found_of c.in-Some.given.now) in
    let has : HaveCommand words c.in-Some.verb rows = (c.in-Ok.ensures.kinds, sym c.in-Ok.ensures.rows ∙ c.in-Some.ensures) in
    let f = c.in_err-request.field-0.0 in
    let told : IsSaidOf words (said.Fault f) = fault_by_rows words c.in-Some.verb rows f has c.in_err-request.ensures.why in
    IfErr-weaker c.from_residual.result (λ s. s ≡ said.Fault f) _ (λ s e. subst (IsSaidOf words) (sym e) told) (search rules)
