use Rattle.std.proofs.Common.{◌≡◌, ◌∙◌, ◌++◌, ◌+◌, ◌∷◌, ap, sym, ℕ, List, [], map, drop, get_or, add-one, drop-cons}
use Rattle.std.proofs.lemmas.List.{append_assoc, map-append}
use Rattle.cw_model.specs.Syntax.{Name}
use Rattle.cw_model.specs.Sites as model
use Rattle.cw_tree.specs.declared.resolved.Function.{Function}
use Rattle.cw_tree.specs.ResolvedView.{function_of}
use Rattle.cw_code.specs.Heads.{head_view}
use Rattle.cw_code.specs.declared.head.Head.{Head}
use Rattle.cw_compile.specs.Compiled.{head_of}
use Rattle.cw_compile.proofs.compiling.heads_of.Goals as goal

-- the heads of functions
abbrev heads : List Function → List model.Head
heads fs = map head_of (map function_of fs)

-- the invariant after one more head
more : (all made : List Head) (h : Head) (f : Function) (left rest : List Function) (whole : List model.Head) → made ≡ all ++ h ∷ [] → head_view h ≡ head_of (function_of f) → left ≡ f ∷ rest
    → map head_view all ++ map head_of (map function_of left) ≡ whole → map head_view made ++ map head_of (map function_of rest) ≡ whole
more all made h f left rest whole made_is head_is left_is before =
    ap (λ hs. map head_view hs ++ map head_of (map function_of rest)) made_is
    ∙ ap (λ hs. hs ++ map head_of (map function_of rest)) (map-append head_view all (h ∷ []))
    ∙ append_assoc (map head_view all) (head_view h ∷ []) (map head_of (map function_of rest))
    ∙ ap (λ x. map head_view all ++ x ∷ map head_of (map function_of rest)) head_is
    ∙ ap (λ fs. map head_view all ++ map head_of (map function_of fs)) (sym left_is) ∙ before

-- a head with this name and line
abbrev named : Name → ℕ → model.Head
named name line = record { name = name; line = line }

pub loop-function-preserved : goal.loop-function-preserved
loop-function-preserved c =
    let fs = c.args.functions.now in
    let k = c.loop-function.function-index in
    let item = c.function-item.result in
    let next : drop k fs ≡ get_or fs k item ∷ drop (k + 1) fs = rw add-one (drop-cons fs k item c.loop-function-test.true) in
    let split : drop k fs ≡ item ∷ drop (k + 1) fs = next ∙ ap (λ f. f ∷ drop (k + 1) fs) (sym c.function-item.is) in
    more c.loop-function.heads.items c.push.new.self.items _ item (drop k fs) (drop (k + 1) fs) (heads fs)
    c.in_ok-push.ensures.items (ap (λ n. named n item.line) c.in_ok-name.ensures) split c.loop-function.invariant
