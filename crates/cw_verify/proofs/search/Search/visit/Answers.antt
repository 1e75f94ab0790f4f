use Rattle.std.proofs.Common.{◌≡◌, ◌+◌, Some, sym, ap, subst, ◌∙◌}
use Rattle.std.specs.Prelude.{Bool, Result, Ok, Err, IfOk, option_map, slice_get}
use Rattle.std.proofs.lemmas.Option.{slice_get-get_or, same_Some}
use Rattle.cw_code.specs.Code.{code_view}
use Rattle.cw_code.specs.Fits.{leaves}
use Rattle.cw_text.specs.declared.fault.Fault.{Fault}
use Rattle.cw_verify.specs.Numbers.{IsKnown, StaysKnown}
use Rattle.cw_verify.specs.Table.{shape_view, shapes_of, come_all, next_distances, visited, Tells}
use Rattle.cw_verify.proofs.Numbering.{known_next}
use Rattle.cw_verify.proofs.Spreading.{shapes_at, tells_from}
use Rattle.cw_verify.proofs.Tables.{may_both, visited_ready, visited_unready, visited_frozen}
use Rattle.cw_verify.proofs.search.Search.visit.Goals as goal

pub returns-clause-visits : goal.returns-clause-visits
returns-clause-visits c = λ i is.
    let code = code_view c.args.code.now in
    let start = c.args.f.now.start in
    let k = c.args.k in
    let items = c.args.self.now.found.items in
    let found = c.index-2.result.now in
    let shape = shape_view c.in-Some.shape in
    let here = c.index.result.now in
    let is_here : slice_get code.instrs (start + k) ≡ Some here = slice_get-get_or code.instrs (start + k) here c.requires.there ∙ ap Some (sym c.index.ensures) in
    let same : here ≡ i = same_Some here i (sym is_here ∙ is) in
    let at = shapes_at items k found found c.requires.row c.index-2.ensures ∙ ap (λ o. Some (option_map shape_view o)) c.in-Some.is in
    let ready = sym c.is_ready.ensures ∙ c.if-not-is_ready.false in
    let left = c.in_ok-left.ensures ∙ ap (λ s. leaves code s here) c.in_ok-shape-in-Some.ensures in
    let thawed = sym c.is_thawed.ensures ∙ c.if-not-is_thawed.false in
    let acts = may_both code shape here ready thawed in
    let comes = visited_ready code start (shapes_of items) k here shape at acts ∙ ap (come_all (shapes_of items) (next_distances start k here)) (sym left) in
    subst (λ o. Tells c.spread.result o c.args.self.now c.spread.new.self) (sym comes ∙ ap (visited code start (shapes_of items) k) same)
    (tells_from c.spread.result (come_all (shapes_of items) (next_distances start k here) (shape_view c.in_ok-left.left)) c.args.self.now c.spread.new.self c.next-number.new.self c.spread.ensures.spreads)

pub returns-then-not-is_ready-clause-visits : goal.returns-then-not-is_ready-clause-visits
returns-then-not-is_ready-clause-visits c = λ i is.
    let code = code_view c.args.code.now in
    let start = c.args.f.now.start in
    let k = c.args.k in
    let items = c.args.self.now.found.items in
    let found = c.index-2.result.now in
    let shape = shape_view c.in-Some.shape in
    let here = c.index.result.now in
    let is_here : slice_get code.instrs (start + k) ≡ Some here = slice_get-get_or code.instrs (start + k) here c.requires.there ∙ ap Some (sym c.index.ensures) in
    let same : i ≡ here = same_Some i here (sym is ∙ is_here) in
    let at = shapes_at items k found found c.requires.row c.index-2.ensures ∙ ap (λ o. Some (option_map shape_view o)) c.in-Some.is in
    ap (visited code start (shapes_of items) k) same ∙ visited_unready code start (shapes_of items) k here shape at (sym c.is_ready.ensures ∙ c.if-not-is_ready.true)

pub returns-then-not-is_thawed-clause-visits : goal.returns-then-not-is_thawed-clause-visits
returns-then-not-is_thawed-clause-visits c = λ i is.
    let code = code_view c.args.code.now in
    let start = c.args.f.now.start in
    let k = c.args.k in
    let items = c.args.self.now.found.items in
    let found = c.index-2.result.now in
    let shape = shape_view c.in-Some.shape in
    let here = c.index.result.now in
    let is_here : slice_get code.instrs (start + k) ≡ Some here = slice_get-get_or code.instrs (start + k) here c.requires.there ∙ ap Some (sym c.index.ensures) in
    let same : i ≡ here = same_Some i here (sym is ∙ is_here) in
    let at = shapes_at items k found found c.requires.row c.index-2.ensures ∙ ap (λ o. Some (option_map shape_view o)) c.in-Some.is in
    ap (visited code start (shapes_of items) k) same ∙ visited_frozen code start (shapes_of items) k here shape at (sym c.is_thawed.ensures ∙ c.if-not-is_thawed.true)

pub spread-requires-clause-named : goal.spread-requires-clause-named
spread-requires-clause-named c =
    let code = code_view c.args.code.now in
    let place = c.args.f.now.start + c.args.k in
    let here = c.index.result.now in
    let is_here : slice_get code.instrs place ≡ Some here = slice_get-get_or code.instrs place here c.requires.there ∙ ap Some (sym c.index.ensures) in
    c.requires.named here is_here

pub spread-requires-clause-known : goal.spread-requires-clause-known
spread-requires-clause-known c =
    let code = code_view c.args.code.now in
    let k = c.args.k in
    let old = c.args.self.now in
    let items = old.found.items in
    let found = c.index-2.result.now in
    let here = c.index.result.now in
    let at = shapes_at items k found found c.requires.row c.index-2.ensures ∙ ap (λ o. Some (option_map shape_view o)) c.in-Some.is in
    let left = c.in_ok-left.ensures ∙ ap (λ s. leaves code s here) c.in_ok-shape-in-Some.ensures in
    known_next code old c.next-number.new.self k c.next-number.result here (shape_view c.in-Some.shape) c.in_ok-left.left c.requires.known at c.next-number.ensures left

if_ok : (r : Result Bool Fault) (P Q : Type 0) → (P → Q) → IfOk r (λ _. P) → IfOk r (λ _. Q)
if_ok (Ok b) P Q go h = go h
if_ok (Err e) P Q go h = h

pub returns-clause-known : goal.returns-clause-known
returns-clause-known c =
    let code = code_view c.args.code.now in
    let k = c.args.k in
    let old = c.args.self.now in
    let new = c.spread.new.self in
    let numbers = c.next-number.new.self in
    let items = old.found.items in
    let found = c.index-2.result.now in
    let here = c.index.result.now in
    let left = c.in_ok-left.left in
    let number = c.next-number.result in
    let at = shapes_at items k found found c.requires.row c.index-2.ensures ∙ ap (λ o. Some (option_map shape_view o)) c.in-Some.is in
    let is = c.in_ok-left.ensures ∙ ap (λ s. leaves code s here) c.in_ok-shape-in-Some.ensures in
    let known = known_next code old numbers k number here (shape_view c.in-Some.shape) left c.requires.known at c.next-number.ensures is in
    if_ok c.spread.result (StaysKnown number left (record old { numbers = numbers }) new) (IsKnown new) (λ s. (known.0, s.all known.0 known.1 known.2)) c.spread.ensures.known
