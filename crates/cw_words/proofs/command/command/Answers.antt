use Rattle.std.proofs.Common.{◌≡◌, ◌∙◌, ap, codes, true}
use Rattle.clap.specs.Simple.{app_of_fields}
use Rattle.clap.specs.Words.{App, app_of, new_app, with_subcommand}
use Rattle.cw_words.specs.Command.{line_of, with_words_alone}
use Rattle.cw_words.specs.declared.verb.Verb.{Verb}
use Rattle.cw_words.specs.declared.verb.Verb.TheVariants as verb
use Rattle.cw_words.proofs.command.command.Goals as goal

abbrev below : Verb → App → App
below m above = with_subcommand above (line_of m).top

-- the program's own name is no word, and one of the words is a command
abbrev without_name : App → App
without_name a = record a { top = record a.top { no_binary_name = true } }

abbrev with_command : App → App
with_command a = record a { top = record a.top { subcommand_required = true } }

pub returns : goal.returns
returns c =
    let named : app_of c.after_help.result ≡ new_app (codes "cilkwork") =
    ap app_of_fields c.after_help.ensures ∙ (ap app_of_fields c.about.ensures ∙ (ap app_of_fields c.in_ok-bin_name.ensures.0 ∙ c.new.ensures.app)) in
    let alone : app_of c.no_binary_name.result ≡ without_name (new_app (codes "cilkwork")) = ap app_of_fields c.no_binary_name.ensures ∙ ap without_name named in
    let new_is : app_of c.subcommand_required.result ≡ with_words_alone (new_app (codes "cilkwork")) =
    ap app_of_fields c.subcommand_required.ensures ∙ ap with_command alone in
    c.in_ok-page.ensures.below _ _ c.in_ok-command.ensures
    ∙ ap (below verb.Page) (c.in_ok-speedup.ensures.below _ _ c.in_ok-subcommand-7.ensures
    ∙ ap (below verb.Speedup) (c.in_ok-greedy.ensures.below _ _ c.in_ok-subcommand-6.ensures
    ∙ ap (below verb.Greedy) (c.in_ok-gain.ensures.below _ _ c.in_ok-subcommand-5.ensures
    ∙ ap (below verb.Gain) (c.in_ok-sites.ensures.below _ _ c.in_ok-subcommand-4.ensures
    ∙ ap (below verb.Sites) (c.in_ok-scale.ensures.below _ _ c.in_ok-subcommand-3.ensures
    ∙ ap (below verb.Scale) (c.in_ok-run.ensures.below _ _ c.in_ok-subcommand-2.ensures
    ∙ ap (below verb.Run) (c.in_ok-check.ensures.below _ _ c.in_ok-subcommand.ensures ∙ ap (below verb.Check) new_is)))))))
