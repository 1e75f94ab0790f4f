use Rattle.std.proofs.Common.{◌≡◌, ◌∙◌, ap, sym, refl, subst, true, map, string_bytes, List, Result, Ok, Err, IsErrAnd}
use Rattle.clap.specs.Words.{App, FailsBy, HasKind, Kinds, Text, app_of, fault_of, is_simple, is_simple_and_free, subcommand_of}
use Rattle.clap.specs.declared.error.Error.{Error}
use Rattle.cw_words.specs.Command.{command_line}
use Rattle.cw_words.proofs.words.matches_of.Goals as goal

-- an error that is passed on
fails_so : {T : Type 0} (kinds : Kinds) (r : Result T Error) (e : Error) → IsErrAnd r (λ x. x ≡ e) → HasKind kinds e → FailsBy kinds r
fails_so kinds (Ok x) e same h = absurd same
fails_so kinds (Err f) e same h = subst (HasKind kinds) (sym same) h

pub returns-in_err-matches-clause-kinds : goal.returns-in_err-matches-clause-kinds
returns-in_err-matches-clause-kinds c =
    let words : List Text = map string_bytes c.args.words.now in
    let is : app_of c.in_ok-command.field-0 ≡ command_line = c.in_ok-command.ensures in
    let free : is_simple_and_free command_line ≡ true = refl in
    let e : Error = c.in_err-matches.field-0.0 in
    let kind : HasKind (fault_of (app_of c.in_ok-command.field-0) words) e = c.in_err-matches.ensures.kinds (ap is_simple_and_free is ∙ free) in
    fails_so _ c.from_residual-in_err-matches.result e c.from_residual-in_err-matches.ensures.1
    (subst (λ (a : App). HasKind (fault_of a words) e) is kind)

pub returns-clause-rows : goal.returns-clause-rows
returns-clause-rows c =
    let words : List Text = map string_bytes c.args.words.now in
    let is : app_of c.in_ok-command.field-0 ≡ command_line = c.in_ok-command.ensures in
    let simple : is_simple command_line ≡ true = refl in
    (c.in_ok-matches.ensures.matches (ap is_simple is ∙ simple)).1 ∙ ap (λ (a : App). subcommand_of a words) is

pub returns-clause-kinds : goal.returns-clause-kinds
returns-clause-kinds c =
    let words : List Text = map string_bytes c.args.words.now in
    let is : app_of c.in_ok-command.field-0 ≡ command_line = c.in_ok-command.ensures in
    let free : is_simple_and_free command_line ≡ true = refl in
    sym (ap (λ (a : App). fault_of a words) is) ∙ c.in_ok-matches.ensures.kinds (ap is_simple_and_free is ∙ free)
