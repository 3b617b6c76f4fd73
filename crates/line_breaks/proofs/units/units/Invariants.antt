use Rattle.std.proofs.Common.{◌≡◌, ◌+◌, length, drop}
use Rattle.std.specs.Char.{len_utf8}
use Rattle.std.specs.List.{sum_by}
use Rattle.std.specs.Str.{chars}
use Rattle.line_breaks.specs.Units.{units_from, units_of}
use Rattle.line_breaks.proofs.units.units.Given as goal

abbrev pub invariant-loop-c : goal.invariant-loop-c
invariant-loop-c l = record {
  bytes : l.offset + sum_by len_utf8 (drop (length l.yielded) (chars l.text)) ≡ length l.text;
  units_are : units_from l.takes l.joined l.offset l.units.items (drop (length l.yielded) (chars l.text)) ≡ units_of l.text;
}
