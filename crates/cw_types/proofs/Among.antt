-- A reason that is correct for one statement is correct for a list that contains the statement.
use Rattle.std.proofs.Common.{Bool, true, false, not, ◌≡◌, List, Contains, Option, Some, None, IfSome, refl}
use Rattle.cw_model.specs.Typing.{Returns}
use Rattle.cw_tree.specs.declared.syntax.Line.{Line}
use Rattle.cw_types.specs.declared.globals.Globals.{Globals}
use Rattle.cw_types.specs.declared.reason.IllTyped.{IllTyped}
use Rattle.cw_types.specs.Reasons.{IsBroken}
use Rattle.cw_types.specs.Scope.{Declared}
use Rattle.cw_types.specs.StmtContext.{StmtContext, statement_at}
use Rattle.cw_text.specs.declared.reasons.Reasons.{Reasons}
use Rattle.cw_text.specs.RecordedReasons.{AddsOnly}
use Rattle.cw_types.specs.ReasonMeaning.{Breaks, Ends, IsNeverReached}
use Rattle.cw_types.specs.Within.{IsAmong, NeverReached, program_in}
use Rattle.cw_text.specs.lemmas.RecordingReasons.{weaken}

pub broken_among : (globals : Globals) (s : StmtContext) (all : List StmtContext) (found : Option IllTyped) → Contains all s →
    IfSome found (IsBroken (program_in globals) s.returns s.locals s.stmt) → IfSome found (IsAmong globals all s.line)
broken_among globals s all None there h = h
broken_among globals s all (Some r) there h = record { statement = s; there = there; at_line = refl; wrong = Breaks h }

pub ended_among : (globals : Globals) (s : StmtContext) (all : List StmtContext) (found : Option IllTyped) → Contains all s →
    IfSome found (IsNeverReached s) → IfSome found (IsAmong globals all s.line)
ended_among globals s all None there h = h
ended_among globals s all (Some r) there h = record { statement = s; there = there; at_line = refl; wrong = Ends h }

-- a statement that is never reached in every context is never reached in this context
pub ended_there : (returns : Returns) (known : List Declared) (line : Line) (behind : List Line) (found : Option IllTyped) →
    IfSome found (NeverReached line behind) → IfSome found (IsNeverReached (statement_at returns known line behind))
ended_there returns known line behind None h = h
ended_there returns known line behind (Some r) h = h returns known

pub among_more : (globals : Globals) (xs ys : List StmtContext) (a b : Reasons IllTyped) → ((s : StmtContext) → Contains xs s → Contains ys s) →
    AddsOnly (IsAmong globals xs) a b → AddsOnly (IsAmong globals ys) a b
among_more globals xs ys a b within told =
    weaken (IsAmong globals xs) (IsAmong globals ys) a b
    (λ line r h. record { statement = h.statement; there = within h.statement h.there; at_line = h.at_line; wrong = h.wrong }) told

-- a rule is kept exactly if no reason is found
pub denied : (found kept : Bool) → found ≡ not kept → not found ≡ kept
denied true true h = cc
denied true false h = refl
denied false true h = refl
denied false false h = cc
