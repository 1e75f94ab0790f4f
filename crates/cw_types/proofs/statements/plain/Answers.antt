use Rattle.std.proofs.Common.{arith}
use Rattle.std.proofs.lemmas.Grind.{common_steps}
use Rattle.cw_tree.specs.declared.resolved.Stmt.{the_lemmas}
use Rattle.cw_tree.specs.declared.syntax.Stmt.{the_lemmas as parsed_lemmas}
use Rattle.cw_types.proofs.statements.plain.Goals as goal

pub returns-in_ok-value-in-Reduce : goal.returns-in_ok-value-in-Reduce
returns-in_ok-value-in-Reduce c = grind (arith, common_steps, the_lemmas, parsed_lemmas)

pub returns-in_ok-expression-in-Print : goal.returns-in_ok-expression-in-Print
returns-in_ok-expression-in-Print c = grind (arith, common_steps, the_lemmas, parsed_lemmas)

pub returns-in_ok-returned-in-Return : goal.returns-in_ok-returned-in-Return
returns-in_ok-returned-in-Return c = grind (arith, common_steps, the_lemmas, parsed_lemmas)

pub returns-in-Sync : goal.returns-in-Sync
returns-in-Sync c = grind (arith, common_steps, the_lemmas, parsed_lemmas)

pub returns-in_ok-value-in-Declare : goal.returns-in_ok-value-in-Declare
returns-in_ok-value-in-Declare c = grind (arith, common_steps, the_lemmas, parsed_lemmas)

pub returns-in_ok-length-in-DeclareArray : goal.returns-in_ok-length-in-DeclareArray
returns-in_ok-length-in-DeclareArray c = grind (arith, common_steps, the_lemmas, parsed_lemmas)

pub returns-in_ok-expression-in-Assign : goal.returns-in_ok-expression-in-Assign
returns-in_ok-expression-in-Assign c = grind (arith, common_steps, the_lemmas, parsed_lemmas)

pub returns-in_ok-expression-in-AssignElement : goal.returns-in_ok-expression-in-AssignElement
returns-in_ok-expression-in-AssignElement c = grind (arith, common_steps, the_lemmas, parsed_lemmas)
