use Rattle.std.proofs.Common.{◌≡◌, ◌≤◌, length, reverse, take}
use Rattle.bidi.specs.Brackets.{from_match}
use Rattle.bidi.proofs.brackets.open_up_to.Given as goal

abbrev pub invariant-loop-count : goal.invariant-loop-count
invariant-loop-count l = record {
  within : l.count ≤ length l.stack;
  same : from_match l.fn.closing (reverse (take l.count l.stack)) ≡ from_match l.fn.closing (reverse l.stack);
}

abbrev pub decreases-loop-count : goal.decreases-loop-count
decreases-loop-count l = l.count
