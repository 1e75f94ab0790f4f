use Rattle.std.proofs.Common.{◌∙◌, ap, Bool, true, Some}
use Rattle.clap.specs.Words.{Rule, rule_of}
use Rattle.clap.specs.declared.builder.Arg.{Arg}
use Rattle.clap.specs.declared.builder.ArgAction.TheVariants.{Set}
use Rattle.cw_words.proofs.command.needed.Goals as goal

abbrev is_global : Arg → Bool
is_global a = a.global

pub returns : goal.returns
returns c = record {
  rule =
      ap rule_of c.help.ensures ∙ (ap rule_of c.action.ensures ∙ ap (λ (r : Rule). record r { action = Some Set })
      (ap rule_of c.required.ensures ∙ ap (λ (r : Rule). record r { required = true }) c.new.ensures.rule));
  local = ap is_global c.help.ensures ∙ (ap is_global c.action.ensures ∙ (ap is_global c.required.ensures ∙ c.new.ensures.optional.1));
}
