use Rattle.std.proofs.Common.{◌∙◌, ap, Bool, Some}
use Rattle.clap.specs.Words.{Rule, rule_of}
use Rattle.clap.specs.declared.builder.Arg.{Arg}
use Rattle.clap.specs.declared.builder.ArgAction.TheVariants.{Append}
use Rattle.cw_words.proofs.Commands.{with_range_of}
use Rattle.cw_words.proofs.command.main_args.Goals as goal

abbrev is_global : Arg → Bool
is_global a = a.global

pub returns : goal.returns
returns c = record {
  rule =
      ap rule_of c.help.ensures ∙ (ap rule_of c.action.ensures ∙ ap (λ (r : Rule). record r { action = Some Append })
      (ap rule_of c.num_args.ensures.0 ∙ with_range_of _ _ _ _ c.num_args.ensures.1 c.new.ensures.rule));
  local = ap is_global c.help.ensures ∙ (ap is_global c.action.ensures ∙ (ap is_global c.num_args.ensures.0 ∙ c.new.ensures.optional.1));
}
