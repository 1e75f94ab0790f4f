use Rattle.std.proofs.Common.{◌∙◌, ap, Bool, Some}
use Rattle.clap.specs.Words.{Rule, rule_of}
use Rattle.clap.specs.declared.builder.Arg.{Arg}
use Rattle.clap.specs.declared.builder.ArgAction.TheVariants.{SetTrue}
use Rattle.cw_words.specs.declared.command.TheConstants.{TABLE}
use Rattle.cw_words.proofs.command.table.Goals as goal

abbrev is_global : Arg → Bool
is_global a = a.global

pub returns : goal.returns
returns c = record {
  rule =
      ap rule_of c.help.ensures ∙ (ap rule_of c.action.ensures ∙ ap (λ (r : Rule). record r { action = Some SetTrue })
      (ap rule_of c.long.ensures ∙ ap (λ (r : Rule). record r { long = Some TABLE.now }) c.new.ensures.rule));
  local = ap is_global c.help.ensures ∙ (ap is_global c.action.ensures ∙ (ap is_global c.long.ensures ∙ c.new.ensures.optional.1));
}
