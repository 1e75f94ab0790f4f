use Rattle.std.proofs.Common.{◌≡◌, ◌∙◌, ap, ap₂, codes, rules, false}
use Rattle.clap.specs.Simple.{app_of_fields}
use Rattle.clap.specs.Words.{App, app_of, new_app, with_rule, with_subcommand}
use Rattle.clap.specs.declared.builder.Command.TheViews.{out-Command}
use Rattle.cw_words.specs.Command.{greedy_line}
use Rattle.cw_words.proofs.command.greedy_command.Goals as goal

pub returns : goal.returns
returns c =
    let processors_is_local : c.needed.result.global ≡ false = c.needed.ensures.local in
    let file_is_local : c.file.result.global ≡ false = c.file.ensures.local in
    let args_is_local : c.main_args.result.global ≡ false = c.main_args.ensures.local in
    let limit_is_local : c.number.result.global ≡ false = c.number.ensures.local in
    let workers_is_local : c.number-2.result.global ≡ false = c.number-2.ensures.local in
    let new_is : app_of c.after_help.result ≡ new_app (codes "greedy") = ap app_of_fields c.after_help.ensures ∙ (ap app_of_fields c.about.ensures ∙ c.new.ensures.app) in
    let shape : app_of c.in_ok-command.command ≡ greedy_line =
    c.in_ok-command.ensures.shape workers_is_local
    ∙ ap₂ with_rule (c.in_ok-arg-4.ensures.shape limit_is_local
    ∙ ap₂ with_rule (c.in_ok-arg-3.ensures.shape args_is_local
    ∙ ap₂ with_rule (c.in_ok-arg-2.ensures.shape file_is_local
    ∙ ap₂ with_rule (c.in_ok-arg.ensures.shape processors_is_local ∙ ap₂ with_rule new_is c.needed.ensures.rule) c.file.ensures.rule) c.main_args.ensures.rule) c.number.ensures.rule) c.number-2.ensures.rule in
    let local : (out-Command c.in_ok-command.command).has_globals ≡ false = search (rules, processors_is_local, file_is_local, args_is_local, limit_is_local, workers_is_local, c.in_ok-command.ensures.globals, c.in_ok-arg-4.ensures.globals, c.in_ok-arg-3.ensures.globals, c.in_ok-arg-2.ensures.globals, c.in_ok-arg.ensures.globals, c.after_help.ensures, c.about.ensures, c.new.ensures) in
    record { shape = shape; local = local; below = λ above whole adds. adds.shape local ∙ ap (λ (a : App). with_subcommand (app_of above) a.top) shape }
