use Rattle.std.proofs.Common.{◌≡◌, length}
use Rattle.shape_items.specs.Buffer.{limit_of}
use Rattle.syllables.specs.Machines.{by_table}
use Rattle.syllables.specs.Reading.{IsVain}
use Rattle.syllabic.specs.Scanning.{categories_of, numbered_to}
use Rattle.syllabic.proofs.scanning.number_syllables.Given as goal

abbrev pub invariant-loop-i : goal.invariant-loop-i
invariant-loop-i l = record {
  made : (l.buffer, l.walk.numbering) ≡ numbered_to (by_table l.machine) l.skipped l.i l.fn.buffer;
  vain : IsVain l.machine (categories_of l.buffer.items) l.walk.vain;
  len : length l.buffer.items ≡ length l.fn.buffer.items;
  limit : limit_of l.buffer ≡ limit_of l.fn.buffer;
}
