use Rattle.std.proofs.Common.{rules, List, [], ◌∷◌, ◌++◌, ap, sym, ◌∙◌, pos, Bor, ℕ, slice_index_or}
use Rattle.std.proofs.lemmas.List.{map_more}
use Rattle.std.proofs.lemmas.List.Elements.{All-more}
use Rattle.cw_model.specs.Pieces.{decimal_value}
use Rattle.cw_words.specs.Requests.{IsArgument}
use Rattle.cw_words.proofs.words.args_of.Goals as goal

pub loop-text-preserved : goal.loop-text-preserved
loop-text-preserved c =
    let none : Bor (List ℕ) = record { ref_ptr = (0, 0); now = [] } in
    let i = c.loop-text.text-index in
    let texts : List (Bor (List ℕ)) = c.args.texts.now in
    let n = decimal_value (slice_index_or texts i none).now in
    let pushed = c.in_ok-push_arg.ensures in
    record {
      values = pushed.ok ∙ ap (λ xs. xs ++ pos n ∷ []) c.loop-text.invariant.values ∙ sym (map_more (λ t. pos (decimal_value t.now)) texts i none (search rules));
      arguments = All-more (λ t. IsArgument t.now) texts i none (search rules) c.loop-text.invariant.arguments pushed.digits;
    }
