use Rattle.std.proofs.Common.{rules, ap, map, ◌∙◌}
use Rattle.cw_facts.specs.Options.{handed_on}
use Rattle.cw_tree.specs.SyntaxView as parsed
use Rattle.cw_tree.specs.ResolvedView.{function_of}
use Rattle.cw_compile.specs.Sources.{IsSourceOf}
use Rattle.cw_compile.specs.Compiled.{head_of}
use Rattle.cw_compile.proofs.Refusals.{tree_refused, source_of, types_refused, tree_disowned, tree_has_many_loops, tree_too_large, numbered, source_like, not_unfit, made}
use Rattle.cw_compile.proofs.compiling.compile_with_heads.Goals as goal

pub returns-in_err-ast : goal.returns-in_err-ast
returns-in_err-ast c =
    handed_on _ _ _ c.from_residual-in_err-ast.result (tree_refused c.args.bytes.now c.in_ok-source.source c.in_ok-tokens.tokens.items c.as_slice.result.now c.in_ok-source.ensures c.as_slice.ensures.value (search rules) c.in_ok-tokens.ensures _ c.in_err-ast.ensures) (search rules)

pub returns-in_err-typed : goal.returns-in_err-typed
returns-in_err-typed c =
    let source : IsSourceOf c.args.bytes.now (parsed.program_of c.in_ok-ast.ast) =
    source_of c.args.bytes.now c.in_ok-source.source c.in_ok-tokens.tokens.items c.as_slice.result.now c.in_ok-source.ensures c.as_slice.ensures.value (search rules) c.in_ok-tokens.ensures _ c.in_ok-ast.ensures in
    handed_on _ _ _ c.from_residual-in_err-typed.result (types_refused c.args.bytes.now _ source _ c.in_err-typed.ensures) (search rules)

pub returns-in_err-owned : goal.returns-in_err-owned
returns-in_err-owned c =
    let source : IsSourceOf c.args.bytes.now (parsed.program_of c.in_ok-ast.ast) =
    source_of c.args.bytes.now c.in_ok-source.source c.in_ok-tokens.tokens.items c.as_slice.result.now c.in_ok-source.ensures c.as_slice.ensures.value (search rules) c.in_ok-tokens.ensures _ c.in_ok-ast.ensures in
    handed_on _ _ _ c.from_residual-in_err-owned.result (tree_disowned c.args.bytes.now _ source c.in_ok-typed.typed.tree c.in_ok-typed.ensures _ c.in_err-owned.ensures) (search rules)

pub returns-in_err-core : goal.returns-in_err-core
returns-in_err-core c =
    let source : IsSourceOf c.args.bytes.now (parsed.program_of c.in_ok-ast.ast) =
    source_of c.args.bytes.now c.in_ok-source.source c.in_ok-tokens.tokens.items c.as_slice.result.now c.in_ok-source.ensures c.as_slice.ensures.value (search rules) c.in_ok-tokens.ensures _ c.in_ok-ast.ensures in
    handed_on _ _ _ c.from_residual-in_err-core.result (tree_has_many_loops c.args.bytes.now _ source c.in_ok-typed.typed.tree c.in_ok-typed.ensures c.in_ok-owned.owned.typed.tree c.in_ok-owned.ensures c.in_ok-owned.owned.owned _ c.in_err-core.ensures) (search rules)

pub returns-in_err-code : goal.returns-in_err-code
returns-in_err-code c =
    let source : IsSourceOf c.args.bytes.now (parsed.program_of c.in_ok-ast.ast) =
    source_of c.args.bytes.now c.in_ok-source.source c.in_ok-tokens.tokens.items c.as_slice.result.now c.in_ok-source.ensures c.as_slice.ensures.value (search rules) c.in_ok-tokens.ensures _ c.in_ok-ast.ensures in
    handed_on _ _ _ c.from_residual-in_err-code.result (tree_too_large c.args.bytes.now _ source c.in_ok-typed.typed.tree c.in_ok-typed.ensures c.in_ok-core.core.source.typed.tree (c.in_ok-core.ensures.same_source ∙ c.in_ok-owned.ensures) c.in_ok-core.core.source.owned c.in_ok-core.core.few _ c.in_err-code.ensures) (search rules)

pub generate-requires-clause-source_like : goal.generate-requires-clause-source_like
generate-requires-clause-source_like c =
    let source : IsSourceOf c.args.bytes.now (parsed.program_of c.in_ok-ast.ast) =
    source_of c.args.bytes.now c.in_ok-source.source c.in_ok-tokens.tokens.items c.as_slice.result.now c.in_ok-source.ensures c.as_slice.ensures.value (search rules) c.in_ok-tokens.ensures _ c.in_ok-ast.ensures in
    source_like c.args.bytes.now _ source c.in_ok-typed.typed.tree c.in_ok-typed.ensures c.in_ok-core.core.source.typed.tree (c.in_ok-core.ensures.same_source ∙ c.in_ok-owned.ensures) c.in_ok-core.core.source.owned c.derived_is_source_like.ensures

pub generate-requires-clause-numbered : goal.generate-requires-clause-numbered
generate-requires-clause-numbered c =
    let source : IsSourceOf c.args.bytes.now (parsed.program_of c.in_ok-ast.ast) =
    source_of c.args.bytes.now c.in_ok-source.source c.in_ok-tokens.tokens.items c.as_slice.result.now c.in_ok-source.ensures c.as_slice.ensures.value (search rules) c.in_ok-tokens.ensures _ c.in_ok-ast.ensures in
    numbered c.args.bytes.now _ source c.in_ok-typed.typed.tree c.in_ok-typed.ensures c.in_ok-core.core.source.typed.tree (c.in_ok-core.ensures.same_source ∙ c.in_ok-owned.ensures) c.in_ok-core.core.source.owned c.derived_sites_are_numbered.ensures

pub returns-in_err-verified : goal.returns-in_err-verified
returns-in_err-verified c =
    let source : IsSourceOf c.args.bytes.now (parsed.program_of c.in_ok-ast.ast) =
    source_of c.args.bytes.now c.in_ok-source.source c.in_ok-tokens.tokens.items c.as_slice.result.now c.in_ok-source.ensures c.as_slice.ensures.value (search rules) c.in_ok-tokens.ensures _ c.in_ok-ast.ensures in
    handed_on _ _ _ c.from_residual-in_err-verified.result
    (not_unfit c.args.bytes.now _ source c.in_ok-typed.typed.tree c.in_ok-typed.ensures c.in_ok-core.core.source.typed.tree (c.in_ok-core.ensures.same_source ∙ c.in_ok-owned.ensures) c.in_ok-core.core.source.owned c.in_ok-core.core.few c.in_ok-code.code c.in_ok-code.ensures _ c.in_err-verified.ensures) (search rules)

pub returns : goal.returns
returns c =
    let source : IsSourceOf c.args.bytes.now (parsed.program_of c.in_ok-ast.ast) =
    source_of c.args.bytes.now c.in_ok-source.source c.in_ok-tokens.tokens.items c.as_slice.result.now c.in_ok-source.ensures c.as_slice.ensures.value (search rules) c.in_ok-tokens.ensures _ c.in_ok-ast.ensures in
    let tree = c.in_ok-core.core.source.typed.tree in
    let same = c.in_ok-core.ensures.same_source ∙ c.in_ok-owned.ensures in
    let heads = c.in_ok-heads.ensures ∙ ap (λ fs. map head_of (map function_of fs)) c.deref.ensures.value in
    made c.args.bytes.now _ source c.in_ok-typed.typed.tree c.in_ok-typed.ensures tree same c.in_ok-core.core.source.owned c.in_ok-core.core.few
    c.in_ok-code.code c.in_ok-code.ensures c.in_ok-verified.verified c.in_ok-verified.ensures.0 c.in_ok-heads.heads heads
