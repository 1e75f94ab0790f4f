use Rattle.std.proofs.Common.{◌≡◌, ◌∙◌, [], List, Option, Some, None, IfSome, is_some, map, ap, sym, subst, refl}
use Rattle.std.proofs.lemmas.List.{append-nil}
use Rattle.cw_model.specs.Lines.{unless}
use Rattle.cw_text.specs.Rising.{kept}
use Rattle.cw_model.specs.Typing as rule
use Rattle.cw_model.specs.Typing.{known_of, faults_in_block, is_head}
use Rattle.cw_text.specs.lemmas.Kept.{kept-append}
use Rattle.cw_tree.specs.declared.syntax.Line.{Line}
use Rattle.cw_tree.specs.SyntaxView.{program_of, function_of, param_of, block_of}
use Rattle.cw_types.specs.declared.reason.IllTyped.{IllTyped}
use Rattle.cw_types.specs.Returned.{returns_in}
use Rattle.cw_types.specs.Scope.{Declared, kinds, with_params}
use Rattle.cw_types.specs.StmtContext.{statements_in, statements_of}
use Rattle.cw_text.specs.RecordedReasons.{itself, lines_at}
use Rattle.cw_types.specs.ReasonMeaning.{IsWrongFunction, OfHead, OfStatement}
use Rattle.cw_types.specs.Within.{IsAmong, IsToldIn, AddsAmong}
use Rattle.cw_types.proofs.Among.{denied}
use Rattle.cw_text.specs.lemmas.RecordingReasons.{and_then, found_true, weaken}
use Rattle.cw_types.proofs.Walking.{kinds_of_params}
use Rattle.cw_types.proofs.functions.function_faults.Goals as goal

pub returns-clause-lines : goal.returns-clause-lines
returns-clause-lines c =
    let P = program_of c.args.globals.now.ast.now in
    let f = function_of c.args.function.now in
    let old = lines_at c.args.told.now.places in
    let ps = map param_of c.args.function.now.params.items in
    let known : kinds c.in_ok-known.known ≡ known_of ps =
    ap kinds c.in_ok-known.ensures ∙ kinds_of_params f.line ps [] ∙ append-nil (known_of ps) in
    let head : lines_at c.note.new.self.places ≡ kept itself old (unless (is_head P f) f.line) =
    c.note.ensures.lines ∙ ap (λ b. kept itself old (unless b f.line)) (denied (is_some c.of_head.result) (is_head P f) c.of_head.ensures.decides) in
    let n = lines_at c.note.new.self.places in
    c.in_ok-block.ensures.lines
    ∙ ap (λ r. kept itself n (faults_in_block P r (kinds c.in_ok-known.known) (block_of c.as_slice.result.now))) c.returns_of.ensures
    ∙ ap (λ ks. kept itself n (faults_in_block P (returns_in f) ks (block_of c.as_slice.result.now))) known
    ∙ ap (λ ls. kept itself n (faults_in_block P (returns_in f) (known_of ps) (block_of ls))) c.as_slice.ensures.value
    ∙ ap (λ o. kept itself o (faults_in_block P (returns_in f) (known_of f.params) f.body)) head
    ∙ sym (kept-append itself old (unless (is_head P f) f.line) (faults_in_block P (returns_in f) (known_of f.params) f.body))

pub returns-clause-told : goal.returns-clause-told
returns-clause-told c =
    let G = c.args.globals.now in
    let f = function_of c.args.function.now in
    let ps = map param_of c.args.function.now.params.items in
    let Such = IsToldIn G c.args.function.now in
    let seen = subst (λ (r : rule.Returns). AddsAmong G (statements_in r c.in_ok-known.known (block_of c.as_slice.result.now)) c.note.new.self c.block.new.told) c.returns_of.ensures c.in_ok-block.ensures.told in
    let known = subst (λ (ds : List Declared). AddsAmong G (statements_in (returns_in f) ds (block_of c.as_slice.result.now)) c.note.new.self c.block.new.told) c.in_ok-known.ensures seen in
    let body = subst (λ (ls : List Line). AddsAmong G (statements_in (returns_in f) (with_params f.line ps []) (block_of ls)) c.note.new.self c.block.new.told) c.as_slice.ensures.value known in
    and_then Such c.args.told.now c.note.new.self c.block.new.told
    (found_true Such c.args.told.now c.note.new.self f.line c.of_head.result (headed c.of_head.result c.of_head.ensures.holds) c.note.ensures.told)
    (weaken (IsAmong G (statements_of f)) Such c.note.new.self c.block.new.told (λ line r h. OfStatement h) body)
  where
    headed : (found : Option IllTyped) → IfSome found (IsWrongFunction (program_of c.args.globals.now.ast.now) (function_of c.args.function.now)) →
        IfSome found (IsToldIn c.args.globals.now c.args.function.now c.args.function.now.line)
    headed None h = h
    headed (Some r) h = OfHead refl h
