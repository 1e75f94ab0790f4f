use Rattle.std.proofs.Common.{◌≡◌, ◌∙◌, ap, ap₂, codes, rules, false}
use Rattle.clap.specs.Words.{App, app_of, new_app, with_rule, with_subcommand}
use Rattle.clap.specs.declared.builder.Command.TheViews.{out-Command}
use Rattle.cw_words.specs.Command.{line_of}
use Rattle.cw_words.specs.declared.verb.Verb.TheVariants as verb
use Rattle.cw_words.proofs.command.check_command.Goals as goal

pub returns : goal.returns
returns c =
    let source_is_local : c.file.result.global ≡ false = c.file.ensures.local in
    let new_is : app_of c.after_help.result ≡ new_app (codes "check") = search rules in
    let shape : app_of c.in_ok-command.command ≡ line_of verb.Check = c.in_ok-command.ensures.shape source_is_local ∙ ap₂ with_rule new_is c.file.ensures.rule in
    let local : (out-Command c.in_ok-command.command).has_globals ≡ false = search rules in
    record { shape = shape; local = local; below = λ above whole adds. adds.shape local ∙ ap (λ (a : App). with_subcommand (app_of above) a.top) shape }
