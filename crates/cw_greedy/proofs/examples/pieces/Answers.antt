use Rattle.std.proofs.Common.{refl}
use Rattle.cw_greedy.proofs.examples.pieces.Goals as goal

pub returns : goal.returns
returns c = record {
  few = refl;
  largest = refl;
  one_more = refl;
  a_million = refl;
  too_many = refl;
  far_too_many = refl;
  begun_in_codes = refl;
  begun_in_many = refl;
  nothing_first = refl;
  nothing_then_many = refl;
  nothing_last = refl;
  in_order = refl;
  few_then_many = refl;
  few_then_largest = refl;
  many_then_nothing = refl;
  many_then_few = refl;
  largest_then_few = refl;
  many_then_many = refl;
  largest_then_many = refl;
}
