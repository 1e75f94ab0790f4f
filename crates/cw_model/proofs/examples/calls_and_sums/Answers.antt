use Rattle.std.proofs.Common.{refl}
use Rattle.std.specs.Fmt.{digits}
use Rattle.cw_model.specs.Meaning.{call}
use Rattle.cw_model.specs.Answers.{serial_answer}
use Rattle.cw_model.proofs.examples.calls_and_sums.Goals as goal

pub returns : goal.returns
unfolding digits serial_answer call
returns c = record {
  first = (refl, refl);
  greatest_argument = refl;
  fib_0 = refl;
  fib_0_scale = refl;
  fib_4 = (refl, refl);
  fib_4_scale = refl;
  fib_4_sites = refl;
  division = refl;
  division_scale = refl;
  division_by_0 = refl;
  division_by_0_shows_nothing = refl;
  division_by_0_at_7 = refl;
  division_by_0_at_6 = refl;
  division_by_0_beside_forever = refl;
  division_by_0_after_print = refl;
  division_by_0_after_print_shows = refl;
  over_shows_no_line = refl;
  over_shows_no_scale = refl;
  over_shows_no_site = refl;
  prints = refl;
  prints_scale = refl;
  large_sum = refl;
  large_sum_scale = refl;
  late_print = refl;
  late_print_scale = refl;
  overflow = refl;
  overflow_at_2 = refl;
  quotient = refl;
  quotient_by_negative = refl;
  remainder = refl;
  remainder_by_negative = refl;
  remainder_by_0 = refl;
  least_number = refl;
  least_quotient = refl;
  least_remainder = refl;
  least_negated = refl;
  region = refl;
  region_scale = refl;
  tie = refl;
  accepted = refl;
  trap_scale = refl;
  trap_sites = refl;
}
