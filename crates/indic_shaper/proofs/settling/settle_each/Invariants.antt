use Rattle.std.proofs.Common.{◌≡◌, length}
use Rattle.shape_items.specs.Buffer.{limit_of}
use Rattle.syllabic.specs.Walking.{to_syllable}
use Rattle.indic_shaper.specs.Settling.Syllables.{settled_some}
use Rattle.indic_shaper.proofs.settling.settle_each.Given as goal

abbrev pub invariant-loop-i : goal.invariant-loop-i
invariant-loop-i l = record {
  made : l.buffer ≡ to_syllable (settled_some l.facts) l.i l.fn.buffer;
  len : length l.buffer.items ≡ length l.fn.buffer.items;
  limit : limit_of l.buffer ≡ limit_of l.fn.buffer;
}
