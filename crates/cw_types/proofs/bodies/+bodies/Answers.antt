use Rattle.std.proofs.Common.{◌≡◌, ◌≤◌, ◌+◌, ◌-◌, ◌∷◌, ◌++◌, ◌||◌, [], not, drop, take, length, List, Contains, IfSome, is_some, ap, sym, subst, ◌∙◌, refl, arith}
use Rattle.std.proofs.lemmas.Grind.{common_steps}
use Rattle.std.proofs.lemmas.List.{take_rest}
use Rattle.std.proofs.lemmas.List.Elements.{Contains-append_left, Contains-append_right}
use Rattle.cw_model.specs.Lines.{unless}
use Rattle.cw_text.specs.Rising.{kept}
use Rattle.cw_model.specs.Syntax as model
use Rattle.cw_model.specs.Typing.{Nowhere, faults_in_block, declares, surely_returns, ends_block}
use Rattle.cw_tree.specs.declared.syntax.Line.{Line, the_lemmas}
use Rattle.cw_tree.specs.declared.syntax.Stmt.{the_lemmas as stmt_lemmas}
use Rattle.cw_tree.specs.SyntaxView.{program_of, block_of, stmt_of, expr_of}
use Rattle.cw_types.specs.Returned.{returns_of}
use Rattle.cw_types.specs.Scope.{Declared, after_stmt, kinds, oldest}
use Rattle.cw_types.specs.StmtContext.{StmtContext, in_cut, in_loop, statements_in, statements_inside}
use Rattle.cw_text.specs.RecordedReasons.{itself, lines_at}
use Rattle.cw_types.specs.Typing.{keeps_rules, faults_inside}
use Rattle.cw_types.specs.Within.{IsAmong, NeverReached, AddsAmong}
use Rattle.cw_text.specs.lemmas.Kept.{kept-append}
use Rattle.cw_types.proofs.Among.{among_more, broken_among, denied, ended_among, ended_there}
use Rattle.cw_types.proofs.Noting.{by_parts, noted}
use Rattle.cw_text.specs.lemmas.RecordingReasons.{and_then, found_true}
use Rattle.cw_types.proofs.Walking.{kinds_after, longer_after, oldest_after}
use Rattle.cw_types.proofs.bodies.+bodies.Goals as goal

pub block-loop-i-preserved : goal.block-loop-i-preserved
block-loop-i-preserved t c =
    let G = c.args.globals.now in
    let P = program_of G.ast.now in
    let R = returns_of c.args.returns in
    let ls = c.args.lines.now in
    let k = c.loop-i.known in
    let at = c.index-lines-i.result in
    let s = stmt_of at.stmt in
    let line = at.line in
    let later = drop (c.loop-i.i + 1) ls in
    let rest = block_of later in
    let behind = take (length ls - (c.loop-i.i + 1)) later in
    let all : behind ≡ later = take_rest ls (c.loop-i.i + 1) in
    let split : block_of (drop c.loop-i.i ls) ≡ model.Then line s rest = grind (arith, common_steps, the_lemmas) in
    let declared : c.declare.new.known ≡ after_stmt line s k = c.in_ok-declare.ensures ∙ ap (after_stmt line s) c.in_ok-inside.ensures.known in
    let known : kinds c.declare.new.known ≡ declares s (kinds k) = ap kinds declared ∙ kinds_after line s k in
    let p = lines_at c.loop-i.told.places in
    let keeps = keeps_rules P R (kinds k) s in
    let stands = not (surely_returns s) || ends_block rest in
    let ended : is_some c.never_reached.result ≡ not stands =
    c.never_reached.ensures.decides ∙ ap (λ (ds : List Line). not (not (surely_returns s) || ends_block (block_of ds))) all in
    let first : lines_at c.note.new.self.places ≡ kept itself p (unless keeps line) =
    c.note.ensures.lines ∙ ap (λ b. kept itself p (unless b line)) (denied (is_some c.of_stmt.result) keeps c.of_stmt.ensures.decides) in
    let last : lines_at c.note-in-loop-i.new.self.places ≡ kept itself (lines_at c.inside.new.told.places) (unless stands line) =
    c.note-in-loop-i.ensures.lines ∙ ap (λ b. kept itself (lines_at c.inside.new.told.places) (unless b line)) (denied (is_some c.never_reached.result) stands ended) in
    let here : StmtContext = record { line = line; returns = R; locals = k; stmt = s; behind = rest } in
    let inner = statements_inside R k line s in
    let further = statements_in R (after_stmt line s k) rest in
    let whole = statements_in R c.args.known.now (block_of ls) in
    let within : (st : StmtContext) → Contains (here ∷ (inner ++ further)) st → Contains whole st =
    λ st h. c.loop-i.invariant.there st (subst (λ (b : model.Block). Contains (statements_in R k b) st) (sym split) h) in
    let there = within here (Contains-append_left (here ∷ []) (inner ++ further) here (0, omega arith, refl)) in
    record {
      same =
          noted keeps stands line (faults_inside P R (kinds k) s) (faults_in_block P R (kinds c.declare.new.known) rest)
          p (lines_at c.note.new.self.places) (lines_at c.inside.new.told.places) (lines_at c.note-in-loop-i.new.self.places)
          (kept itself (lines_at c.note-in-loop-i.new.self.places) (faults_in_block P R (kinds c.declare.new.known) rest))
          first c.in_ok-inside.ensures.lines last refl
          ∙ ap (λ ks. kept itself p ((unless keeps line ++ faults_inside P R (kinds k) s) ++ (unless stands line ++ faults_in_block P R ks rest))) known
          ∙ ap (λ ns. kept itself p (ns ++ (unless stands line ++ faults_in_block P R (declares s (kinds k)) rest))) (sym (by_parts P R (kinds k) line s))
          ∙ ap (λ b. kept itself p (faults_in_block P R (kinds k) b)) (sym split)
          ∙ c.loop-i.invariant.same;
      told =
          and_then (IsAmong G whole) c.args.told.now c.loop-i.told c.note-in-loop-i.new.self c.loop-i.invariant.told
          (and_then (IsAmong G whole) c.loop-i.told c.note.new.self c.note-in-loop-i.new.self
          (found_true (IsAmong G whole) c.loop-i.told c.note.new.self line c.of_stmt.result (broken_among G here whole c.of_stmt.result there c.of_stmt.ensures.holds) c.note.ensures.told)
          (and_then (IsAmong G whole) c.note.new.self c.inside.new.told c.note-in-loop-i.new.self
          (among_more G inner whole c.note.new.self c.inside.new.told
          (λ st h. within st (Contains-append_right (here ∷ []) (inner ++ further) st (Contains-append_left inner further st h))) c.in_ok-inside.ensures.told)
          (found_true (IsAmong G whole) c.inside.new.told c.note-in-loop-i.new.self line c.never_reached.result
          (ended_among G here whole c.never_reached.result there
          (ended_there R k at later c.never_reached.result
          (subst (λ (ds : List Line). IfSome c.never_reached.result (NeverReached at ds)) all c.never_reached.ensures.holds)))
          c.note-in-loop-i.ensures.told)));
      there = λ st h. within st (Contains-append_right (here ∷ []) (inner ++ further) st (Contains-append_right inner further st
          (subst (λ (ds : List Declared). Contains (statements_in R ds rest) st) declared h)));
      count = c.loop-i.invariant.count;
      enough = subst (λ (ds : List Declared). c.len-before.result ≤ length ds) (sym declared) (longer_after line s k c.len-before.result c.loop-i.invariant.enough);
      kept = ap (oldest c.len-before.result) declared ∙ oldest_after line s k c.len-before.result c.loop-i.invariant.enough ∙ c.loop-i.invariant.kept;
    }

pub inside-returns-in_ok-block-in-IfElse-2-clause-lines : goal.inside-returns-in_ok-block-in-IfElse-2-clause-lines
inside-returns-in_ok-block-in-IfElse-2-clause-lines t c =
    let P = program_of c.args.globals.now.ast.now in
    let R = returns_of c.args.returns in
    let k = c.args.known.now in
    let p = lines_at c.args.told.now.places in
    let first = faults_in_block P R (kinds k) (block_of c.in-IfElse.b.items) in
    let second = faults_in_block P R (kinds k) (block_of c.in-IfElse.c.items) in
    let seen : stmt_of c.args.line.now.stmt ≡ model.IfElse (expr_of c.in-IfElse.field-0) (block_of c.in-IfElse.b.items) (block_of c.in-IfElse.c.items) = grind (arith, common_steps, stmt_lemmas) in
    c.in_ok-block-in-IfElse-2.ensures.lines
    ∙ ap (λ ks. kept itself (lines_at c.block.new.told.places) (faults_in_block P R (kinds ks) (block_of c.deref-in-IfElse.result.now))) c.in_ok-block-in-IfElse.ensures.known
    ∙ ap (λ ls. kept itself (lines_at c.block.new.told.places) (faults_in_block P R (kinds k) (block_of ls))) c.deref-in-IfElse.ensures.value
    ∙ ap (λ o. kept itself o second) (c.in_ok-block-in-IfElse.ensures.lines ∙ ap (λ ls. kept itself p (faults_in_block P R (kinds k) (block_of ls))) c.deref.ensures.value)
    ∙ sym (kept-append itself p first second)
    ∙ ap (λ s. kept itself p (faults_inside P R (kinds k) s)) (sym seen)

pub inside-returns-in_ok-block-in-IfElse-2-clause-told : goal.inside-returns-in_ok-block-in-IfElse-2-clause-told
inside-returns-in_ok-block-in-IfElse-2-clause-told t c =
    let G = c.args.globals.now in
    let R = returns_of c.args.returns in
    let k = c.args.known.now in
    let line = c.args.line.now.line in
    let b = c.in-IfElse.b.items in
    let d = c.in-IfElse.c.items in
    let first = statements_in R k (block_of b) in
    let second = statements_in R k (block_of d) in
    let seen : stmt_of c.args.line.now.stmt ≡ model.IfElse (expr_of c.in-IfElse.field-0) (block_of b) (block_of d) = grind (arith, common_steps, stmt_lemmas) in
    let one = subst (λ (ls : List Line). AddsAmong G (statements_in R k (block_of ls)) c.args.told.now c.block.new.told) c.deref.ensures.value c.in_ok-block-in-IfElse.ensures.told in
    let other = subst (λ (ls : List Line). AddsAmong G (statements_in R k (block_of ls)) c.block.new.told c.block-in-IfElse.new.told) c.deref-in-IfElse.ensures.value
    (subst (λ (ds : List Declared). AddsAmong G (statements_in R ds (block_of c.deref-in-IfElse.result.now)) c.block.new.told c.block-in-IfElse.new.told) c.in_ok-block-in-IfElse.ensures.known
    c.in_ok-block-in-IfElse-2.ensures.told) in
    subst (λ (s : model.Stmt). AddsAmong G (statements_inside R k line s) c.args.told.now c.block-in-IfElse.new.told) (sym seen)
    (and_then (IsAmong G (first ++ second)) c.args.told.now c.block.new.told c.block-in-IfElse.new.told
    (among_more G first (first ++ second) c.args.told.now c.block.new.told (Contains-append_left first second) one)
    (among_more G second (first ++ second) c.block.new.told c.block-in-IfElse.new.told (Contains-append_right first second) other))

pub inside-returns-in_ok-block-in-For-clause-told : goal.inside-returns-in_ok-block-in-For-clause-told
inside-returns-in_ok-block-in-For-clause-told t c =
    let G = c.args.globals.now in
    let R = returns_of c.args.returns in
    let k = c.args.known.now in
    let line = c.args.line.now.line in
    let x = c.in-For.head.value.variable in
    let b = block_of c.in-For.b.items in
    let seen : statements_inside R k line (stmt_of c.args.line.now.stmt) ≡ statements_in Nowhere (in_loop line x k) b = grind (arith, common_steps, stmt_lemmas) in
    let known : c.declare.new.self ≡ in_loop line x k = grind (arith, common_steps) in
    subst (λ (ss : List StmtContext). AddsAmong G ss c.args.told.now c.block-in-For.new.told) (sym seen)
    (subst (λ (ds : List Declared). AddsAmong G (statements_in Nowhere ds b) c.args.told.now c.block-in-For.new.told) known
    (subst (λ (ls : List Line). AddsAmong G (statements_in Nowhere c.declare.new.self (block_of ls)) c.args.told.now c.block-in-For.new.told) c.deref-in-For-2.ensures.value
    c.in_ok-block-in-For.ensures.told))

pub inside-returns-in_ok-block-in-Cut-clause-told : goal.inside-returns-in_ok-block-in-Cut-clause-told
inside-returns-in_ok-block-in-Cut-clause-told t c =
    let G = c.args.globals.now in
    let R = returns_of c.args.returns in
    let k = c.args.known.now in
    let line = c.args.line.now.line in
    let l = c.in-Cut.cut.value.left in
    let r = c.in-Cut.cut.value.right in
    let b = block_of c.in-Cut.b.items in
    let seen : statements_inside R k line (stmt_of c.args.line.now.stmt) ≡ statements_in Nowhere (in_cut line l r k) b = grind (arith, common_steps, stmt_lemmas) in
    let known : c.declare-in-Cut-2.new.self ≡ in_cut line l r k = grind (arith, common_steps) in
    subst (λ (ss : List StmtContext). AddsAmong G ss c.args.told.now c.block-in-Cut.new.told) (sym seen)
    (subst (λ (ds : List Declared). AddsAmong G (statements_in Nowhere ds b) c.args.told.now c.block-in-Cut.new.told) known
    (subst (λ (ls : List Line). AddsAmong G (statements_in Nowhere c.declare-in-Cut-2.new.self (block_of ls)) c.args.told.now c.block-in-Cut.new.told) c.deref-in-Cut-3.ensures.value
    c.in_ok-block-in-Cut.ensures.told))
