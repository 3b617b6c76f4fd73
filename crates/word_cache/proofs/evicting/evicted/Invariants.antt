use Rattle.std.proofs.Common.{◌≡◌, ◌+◌, ◌<◌, ◌≤◌, length, take}
use Rattle.word_cache.specs.Words.{shown, total}
use Rattle.word_cache.proofs.evicting.evicted.Given as goal

abbrev pub invariant-loop-count : goal.invariant-loop-count
invariant-loop-count l = record {
  counted : l.count ≡ length l.words.entries;
  within : l.count ≤ length l.fn.words.entries;
  is : shown l.words.entries ≡ take l.count (shown l.fn.words.entries);
  bytes_are : l.bytes ≡ total (shown l.words.entries);
  most : l.count < length l.fn.words.entries → (1 ≤ l.count) × (l.limit < total (take (l.count + 1) (shown l.fn.words.entries)));
  cap : l.words.cap ≡ l.fn.words.cap;
}

abbrev pub decreases-loop-count : goal.decreases-loop-count
decreases-loop-count l = l.count
