use Rattle.std.proofs.Common.{◌≡◌, ◌∙◌, rules, codes, refl, ap, subst, sym, Option, Some, None, ℕ, option_map}
use Rattle.std.proofs.lemmas.Result.{IfErr-weaker}
use Rattle.clap.specs.Words.{Text, found_of, rows_of}
use Rattle.cw_model.specs.declared.burden.Edges.{Edges}
use Rattle.cw_words.specs.Command.{NumberRow, burden_row, limit_row, processors_row, top_row, up_to_row, workers_row}
use Rattle.cw_words.specs.Numbers.{IsNumberWithin}
use Rattle.cw_words.specs.Requests.{edges_text, IsEdgesNamed, IsNumberOf, NamesEdges, number_text, texts_of}
use Rattle.cw_words.proofs.Texts.{lent, texts_given, values_given, arguments_given, first_given, options_given, texts_proper, unless_weaker}
use Rattle.cw_words.proofs.words.asked_by.Goals.{in_default-via-in-Some+in-Some+in-Some+in-Some+in-Some+in-Some+in-Some+in_default, in_default-via-in-Some+in-Some+in-Some+in-Some+in-Some+in-Some+in_default, in_default-via-in-Some+in-Some+in-Some+in-Some+in-Some+in_default, in_default-via-in-Some+in-Some+in-Some+in-Some+in_default, in_default-via-in-Some+in-Some+in-Some+in_default, in_default-via-in-Some+in-Some+in_default, in_default-via-in-Some+in_default, in_default-via-in_default}
use Rattle.cw_words.proofs.words.asked_by.Goals as goal

-- a word that names edges yields edges
no_edges : (o : Option Edges) (text : Text) → o ≡ None → IsEdgesNamed text o → NamesEdges text → ⊥
no_edges None text e h n = h n.0 n.1
no_edges (Some x) text e h n = cc

-- a word for a number in range yields a number
not_none : (o : Option ℕ) (text : Text) (row : NumberRow) → o ≡ None → IsNumberOf text row o → IsNumberWithin row.least row.most text → ⊥
not_none None text row e h n = h n
not_none (Some x) text row e h n = cc

pub returns-in_default-clause-why : goal.returns-in_default-clause-why
returns-in_default-clause-why c =
    let found = found_of c.args.given.now in
    let file_is = first_given found (codes "FILE") c.get_str.result c.get_str.ensures in
    λ proper. elim c.in_default.branch [
      | in_default-via-in-Some+in-Some+in-Some+in-Some+in-Some+in-Some+in-Some+in_default w ↦
          let none : c.number_of-6.result ≡ None = search rules in not_none c.number_of-6.result (number_text (rows_of found) workers_row) workers_row none c.number_of-6.ensures proper.1.1.1.1.1.1.1.0
      | in_default-via-in-Some+in-Some+in-Some+in-Some+in-Some+in-Some+in_default w ↦
          let none : c.number_of-5.result ≡ None = search rules in not_none c.number_of-5.result (number_text (rows_of found) top_row) top_row none c.number_of-5.ensures proper.1.1.1.1.1.1.0
      | in_default-via-in-Some+in-Some+in-Some+in-Some+in-Some+in_default w ↦
          let none : c.number_of-4.result ≡ None = search rules in not_none c.number_of-4.result (number_text (rows_of found) up_to_row) up_to_row none c.number_of-4.ensures proper.1.1.1.1.1.0
      | in_default-via-in-Some+in-Some+in-Some+in-Some+in_default w ↦
          let none : c.number_of-3.result ≡ None = search rules in not_none c.number_of-3.result (number_text (rows_of found) processors_row) processors_row none c.number_of-3.ensures proper.1.1.1.1.0
      | in_default-via-in-Some+in-Some+in-Some+in_default w ↦
          let none : c.edges_of.result ≡ None = search rules in no_edges c.edges_of.result (edges_text (rows_of found)) none c.edges_of.ensures proper.2
      | in_default-via-in-Some+in-Some+in_default w ↦
          let none : c.number_of-2.result ≡ None = search rules in not_none c.number_of-2.result (number_text (rows_of found) burden_row) burden_row none c.number_of-2.ensures proper.1.1.1.0
      | in_default-via-in-Some+in_default w ↦
          let none : c.number_of.result ≡ None = search rules in not_none c.number_of.result (number_text (rows_of found) limit_row) limit_row none c.number_of.ensures proper.1.1.0
      | in_default-via-in_default w ↦ search (rules, file_is, proper.0)
    ]

pub returns-in_err-args-clause-why : goal.returns-in_err-args-clause-why
returns-in_err-args-clause-why c =
    let found = found_of c.args.given.now in
    let given : lent c.unwrap_or.result.now ≡ texts_of (rows_of found) (codes "ARGS") =
    texts_given found (codes "ARGS") c.get_strs.result _ c.unwrap_or.result c.get_strs.ensures refl c.unwrap_or.ensures in
    IfErr-weaker c.from_residual.result _ _ (λ e h. unless_weaker _ _ e (λ proper. texts_proper _ _ given proper.1.0) h) (search rules)

pub returns-clause-ok : goal.returns-clause-ok
returns-clause-ok c =
    let found = found_of c.args.given.now in
    let rows = rows_of found in
    let given : lent c.unwrap_or.result.now ≡ texts_of rows (codes "ARGS") =
    texts_given found (codes "ARGS") c.get_strs.result _ c.unwrap_or.result c.get_strs.ensures refl c.unwrap_or.ensures in
    let file_is = first_given found (codes "FILE") c.get_str.result c.get_str.ensures in
    let limit : IsNumberOf (number_text rows limit_row) limit_row (Some c.in-Some-Some-Some-Some-Some-Some-Some-Some.limit) =
    subst (λ o. IsNumberOf (number_text rows limit_row) limit_row o) c.in-Some-Some-Some-Some-Some-Some-Some-Some.is-1 c.number_of.ensures in
    let burden : IsNumberOf (number_text rows burden_row) burden_row (Some c.in-Some-Some-Some-Some-Some-Some-Some-Some.charge) =
    subst (λ o. IsNumberOf (number_text rows burden_row) burden_row o) c.in-Some-Some-Some-Some-Some-Some-Some-Some.is-2 c.number_of-2.ensures in
    let edges : IsEdgesNamed (edges_text rows) (Some c.in-Some-Some-Some-Some-Some-Some-Some-Some.edges) =
    subst (λ o. IsEdgesNamed (edges_text rows) o) c.in-Some-Some-Some-Some-Some-Some-Some-Some.is-3 c.edges_of.ensures in
    let processors : IsNumberOf (number_text rows processors_row) processors_row (Some c.in-Some-Some-Some-Some-Some-Some-Some-Some.processors) =
    subst (λ o. IsNumberOf (number_text rows processors_row) processors_row o) c.in-Some-Some-Some-Some-Some-Some-Some-Some.is-4 c.number_of-3.ensures in
    let up_to : IsNumberOf (number_text rows up_to_row) up_to_row (Some c.in-Some-Some-Some-Some-Some-Some-Some-Some.up_to) =
    subst (λ o. IsNumberOf (number_text rows up_to_row) up_to_row o) c.in-Some-Some-Some-Some-Some-Some-Some-Some.is-5 c.number_of-4.ensures in
    let top : IsNumberOf (number_text rows top_row) top_row (Some c.in-Some-Some-Some-Some-Some-Some-Some-Some.top) =
    subst (λ o. IsNumberOf (number_text rows top_row) top_row o) c.in-Some-Some-Some-Some-Some-Some-Some-Some.is-6 c.number_of-5.ensures in
    let workers : IsNumberOf (number_text rows workers_row) workers_row (Some c.in-Some-Some-Some-Some-Some-Some-Some-Some.workers) =
    subst (λ o. IsNumberOf (number_text rows workers_row) workers_row o) c.in-Some-Some-Some-Some-Some-Some-Some-Some.is-7 c.number_of-6.ensures in
    record {
      file = file_is ∙ ap (option_map (λ s. s.now)) c.in-Some-Some-Some-Some-Some-Some-Some-Some.is-0 ∙ ap Some (sym c.in_ok-file.ensures.ok);
      request = record {
        in_range = (arguments_given _ _ given c.in_ok-args.ensures.digits, (limit.0, (burden.0, (processors.0, (up_to.0, (top.0, (workers.0, tt)))))));
        file_is = refl;
        args_are = values_given _ _ _ given c.in_ok-args.ensures.ok;
        options_are = options_given c.args.verb c.mode_of.result _ _ _ _ _ _ _ _ _ _ _ _ _ _ _ _ c.mode_of.ensures limit.1 burden.1 edges c.asks_table.ensures processors.1 up_to.1 top.1 workers.1;
      };
    }
