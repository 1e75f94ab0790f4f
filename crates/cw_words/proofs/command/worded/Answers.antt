use Rattle.std.proofs.Common.{◌∙◌, ap, Bool, Some, [], ◌∷◌}
use Rattle.clap.specs.Words.{Rule, rule_of}
use Rattle.clap.specs.declared.builder.Arg.{Arg}
use Rattle.clap.specs.declared.builder.ArgAction.TheVariants.{Set}
use Rattle.cw_words.proofs.command.worded.Goals as goal

abbrev is_global : Arg → Bool
is_global a = a.global

pub returns : goal.returns
returns c = record {
  rule =
      ap rule_of c.help.ensures ∙ (ap rule_of c.default_value.ensures ∙ ap (λ (r : Rule). record r { defaults = c.args.usual.now ∷ [] })
      (ap rule_of c.action.ensures ∙ ap (λ (r : Rule). record r { action = Some Set })
      (ap rule_of c.value_name.ensures ∙ ap (λ (r : Rule). record r { value_names = 1 })
      (ap rule_of c.long.ensures ∙ ap (λ (r : Rule). record r { long = Some c.args.name.now }) c.new.ensures.rule))));
  local = ap is_global c.help.ensures ∙ (ap is_global c.default_value.ensures ∙ (ap is_global c.action.ensures
      ∙ (ap is_global c.value_name.ensures ∙ (ap is_global c.long.ensures ∙ c.new.ensures.optional.1))));
}
