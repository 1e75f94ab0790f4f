use Rattle.std.proofs.Common.{◌≡◌, map, string_bytes, ◌-◌, ◌≤◌, ◌++◌, ◌||◌, take, drop, length}
use Rattle.cw_words.specs.Explaining.{asks_explain, without_explain}
use Rattle.cw_words.proofs.Moved.{asks_on, without_on}
use Rattle.cw_words.proofs.explaining.take_explain.Given as goal

abbrev pub invariant-loop-place : goal.invariant-loop-place
invariant-loop-place l = record {
  order : l.kept ≤ l.place;
  within : l.place ≤ length l.words.items;
  asked : asks_explain (map string_bytes l.fn.words.items) ≡ (l.asked || asks_on l.behind (map string_bytes (drop l.place l.words.items)));
  left : without_explain (map string_bytes l.fn.words.items)
      ≡ map string_bytes (take l.kept l.words.items) ++ without_on l.behind (map string_bytes (drop l.place l.words.items));
}

abbrev pub decreases-loop-place : goal.decreases-loop-place
decreases-loop-place l = length l.words.items - l.place
