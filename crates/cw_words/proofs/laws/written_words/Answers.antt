use Rattle.std.proofs.Common.{◌≡◌, arith, refl}
use Rattle.clap.proofs.OnLiterals.{clap_on_literals}
use Rattle.cw_model.specs.declared.limits.TheConstants.{USUAL_BURDEN, USUAL_LIMIT, USUAL_TOP}
use Rattle.cw_model.specs.Pieces.{decimal_value}
use Rattle.cw_words.specs.Command.{burden_row, limit_row, processors_row, top_row, up_to_row, workers_row}
use Rattle.cw_words.specs.declared.asked.TheConstants.{USUAL_PROCESSORS, USUAL_WORKERS}
use Rattle.cw_words.specs.WordLaws.{RefusalExamples, UsualNumbersAreWritten, WordExamples}
use Rattle.cw_words.proofs.laws.written_words.Goals as goal

usual : UsualNumbersAreWritten
usual =
    let limit : decimal_value limit_row.usual ≡ USUAL_LIMIT = refl in
    let burden : decimal_value burden_row.usual ≡ USUAL_BURDEN = refl in
    let processors : decimal_value processors_row.usual ≡ 1 = refl in
    let up_to : decimal_value up_to_row.usual ≡ USUAL_PROCESSORS = refl in
    let top : decimal_value top_row.usual ≡ USUAL_TOP = refl in
    let workers : decimal_value workers_row.usual ≡ USUAL_WORKERS = refl in (
      (
        ((refl, omega arith, omega (arith, limit)), omega (arith, limit), omega (arith, limit)),
        (
          ((refl, omega arith, omega (arith, burden)), omega (arith, burden), omega (arith, burden)),
          (
            ((refl, omega arith, omega (arith, processors)), omega (arith, processors), omega (arith, processors)),
            (
              ((refl, omega arith, omega (arith, up_to)), omega (arith, up_to), omega (arith, up_to)),
              (
                ((refl, omega arith, omega (arith, top)), omega (arith, top), omega (arith, top)),
                (((refl, omega arith, omega (arith, workers)), omega (arith, workers), omega (arith, workers)), tt),
              ),
            ),
          ),
        ),
      ),
      refl,
    )

read : WordExamples
unfolding clap_on_literals
read = (
  record { rows = _; command = (refl, refl); file_is = refl; args_are = refl; numbers_are = refl; edges_are = refl; table_is = refl },
  record { rows = _; command = (refl, refl); file_is = refl; args_are = refl; numbers_are = refl; edges_are = refl; table_is = refl },
  record { rows = _; command = (refl, refl); file_is = refl; args_are = refl; numbers_are = refl; edges_are = refl; table_is = refl },
  record { rows = _; command = (refl, refl); file_is = refl; args_are = refl; numbers_are = refl; edges_are = refl; table_is = refl },
  record { rows = _; command = (refl, refl); file_is = refl; args_are = refl; numbers_are = refl; edges_are = refl; table_is = refl },
  record { rows = _; command = (refl, refl); file_is = refl; args_are = refl; numbers_are = refl; edges_are = refl; table_is = refl },
  record { rows = _; command = (refl, refl); file_is = refl; args_are = refl; numbers_are = refl; edges_are = refl; table_is = refl },
  record { rows = _; command = (refl, refl); file_is = refl; args_are = refl; numbers_are = refl; edges_are = refl; table_is = refl },
  record { rows = _; command = (refl, refl); file_is = refl; args_are = refl; numbers_are = refl; edges_are = refl; table_is = refl },
  record { rows = _; command = (refl, refl); file_is = refl; args_are = refl; numbers_are = refl; edges_are = refl; table_is = refl },
  record { rows = _; command = (refl, refl); file_is = refl; args_are = refl; numbers_are = refl; edges_are = refl; table_is = refl },
  record { rows = _; command = (refl, refl); file_is = refl; args_are = refl; numbers_are = refl; edges_are = refl; table_is = refl },
  record { rows = _; command = (refl, refl); file_is = refl; args_are = refl; numbers_are = refl; edges_are = refl; table_is = refl },
  record { rows = _; command = (refl, refl); file_is = refl; args_are = refl; numbers_are = refl; edges_are = refl; table_is = refl },
  record { rows = _; command = (refl, refl); file_is = refl; args_are = refl; numbers_are = refl; edges_are = refl; table_is = refl },
  record { rows = _; command = (refl, refl); file_is = refl; args_are = refl; numbers_are = refl; edges_are = refl; table_is = refl },
  record { rows = _; command = (refl, refl); file_is = refl; args_are = refl; numbers_are = refl; edges_are = refl; table_is = refl },
  record { rows = _; command = (refl, refl); file_is = refl; args_are = refl; numbers_are = refl; edges_are = refl; table_is = refl },
  record { rows = _; command = (refl, refl); file_is = refl; args_are = refl; numbers_are = refl; edges_are = refl; table_is = refl },
  record { rows = _; command = (refl, refl); file_is = refl; args_are = refl; numbers_are = refl; edges_are = refl; table_is = refl },
  record { rows = _; command = (refl, refl); file_is = refl; args_are = refl; numbers_are = refl; edges_are = refl; table_is = refl },
)

refused : RefusalExamples
unfolding clap_on_literals
refused = (refl, refl, refl, refl, refl, refl, refl, refl, refl, refl, refl, refl, refl, refl, refl, refl, refl, refl, refl, refl, refl, refl, refl, refl, refl, refl, refl, refl, refl, refl, refl, refl, refl, refl, refl, refl, refl, refl, refl, refl, refl, refl, refl)

pub returns : goal.returns
returns c = record { usual = usual; read = read; refused = refused }
