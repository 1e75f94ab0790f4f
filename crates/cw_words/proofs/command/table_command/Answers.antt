use Rattle.std.proofs.Common.{◌≡◌, ◌∙◌, ap, ap₂, rules, false}
use Rattle.clap.specs.Words.{App, app_of, with_rule, with_subcommand}
use Rattle.clap.specs.declared.builder.Command.TheViews.{out-Command}
use Rattle.cw_words.specs.Command.{table_line}
use Rattle.cw_words.proofs.command.table_command.Goals as goal

pub returns : goal.returns
returns c =
    let table_is_local : c.table.result.global ≡ false = c.table.ensures.local in
    let shape : app_of c.in_ok-command.command ≡ table_line c.args.name.now =
    c.in_ok-command.ensures.shape table_is_local ∙ ap₂ with_rule c.in_ok-running.ensures.shape c.table.ensures.rule in
    let local : (out-Command c.in_ok-command.command).has_globals ≡ false = search (rules, table_is_local, c.in_ok-command.ensures.globals, c.in_ok-running.ensures.local) in
    record { shape = shape; local = local; below = λ above whole adds. adds.shape local ∙ ap (λ (a : App). with_subcommand (app_of above) a.top) shape }
