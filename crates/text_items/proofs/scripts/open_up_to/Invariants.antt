use Rattle.std.proofs.Common.{◌≡◌, ◌≤◌, length, reverse, take}
use Rattle.text_items.specs.Pairs.{from_match}
use Rattle.text_items.proofs.scripts.open_up_to.Given as goal

abbrev pub invariant-loop-count : goal.invariant-loop-count
invariant-loop-count l = record {
  within : l.count ≤ length l.brackets;
  same : from_match l.fn.closing (reverse (take l.count l.brackets)) ≡ from_match l.fn.closing (reverse l.brackets);
}

abbrev pub decreases-loop-count : goal.decreases-loop-count
decreases-loop-count l = l.count
