use Rattle.std.proofs.Common.{◌≡◌, ◌∙◌, Bool, false, Option, codes, option_map, ap, sym, rules}
use Rattle.std.specs.Option.{option_map_or}
use Rattle.std.specs.Str.{bytes_eq}
use Rattle.clap.specs.Words.{Text, found_of}
use Rattle.cw_words.proofs.Texts.{first_given}
use Rattle.cw_words.proofs.words.asks_table.Goals as goal

abbrev asks : Option Text → Bool
asks o = option_map_or (λ text. bytes_eq text (codes "true")) o false

pub returns-in-Some : goal.returns-in-Some
returns-in-Some c =
    let first_is = first_given (found_of c.args.given.now) (codes "table") c.get_str.result c.get_str.ensures in
    let same : c.eq.result ≡ bytes_eq c.in-Some.text.now (codes "true") = search rules in
    same ∙ sym (ap asks (first_is ∙ ap (option_map (λ s. s.now)) c.in-Some.is))

pub returns-in-None : goal.returns-in-None
returns-in-None c =
    let first_is = first_given (found_of c.args.given.now) (codes "table") c.get_str.result c.get_str.ensures in
    sym (ap asks (first_is ∙ ap (option_map (λ s. s.now)) c.in-None.is))
