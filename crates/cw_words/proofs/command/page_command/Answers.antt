use Rattle.std.proofs.Common.{◌≡◌, ◌∙◌, ap, ap₂, rules, false}
use Rattle.clap.specs.Words.{App, app_of, with_rule, with_subcommand}
use Rattle.clap.specs.declared.builder.Command.TheViews.{out-Command}
use Rattle.cw_words.specs.Command.{page_line}
use Rattle.cw_words.proofs.command.page_command.Goals as goal

pub returns : goal.returns
returns c =
    let top_is_local : c.number.result.global ≡ false = c.number.ensures.local in
    let processors_are_local : c.number-2.result.global ≡ false = c.number-2.ensures.local in
    let shape : app_of c.in_ok-command.command ≡ page_line =
    c.in_ok-command.ensures.shape processors_are_local
    ∙ ap₂ with_rule (c.in_ok-arg.ensures.shape top_is_local
    ∙ ap₂ with_rule c.in_ok-running.ensures.shape c.number.ensures.rule) c.number-2.ensures.rule in
    let local : (out-Command c.in_ok-command.command).has_globals ≡ false = search (rules, top_is_local, processors_are_local, c.in_ok-command.ensures.globals, c.in_ok-arg.ensures.globals, c.in_ok-running.ensures.local) in
    record { shape = shape; local = local; below = λ above whole adds. adds.shape local ∙ ap (λ (a : App). with_subcommand (app_of above) a.top) shape }
