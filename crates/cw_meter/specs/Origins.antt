-- The start of a meter, which is the start of a recorder.
pub use Rattle.cw_greedy.specs.Origins.{Origin, Main, Rest, base_of, main_open, first_open, given_open}
