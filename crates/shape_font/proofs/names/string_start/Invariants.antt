use Rattle.std.proofs.Common.{◌≡◌, ◌+◌, ◌-◌, ◌*◌, ◌≤◌}
use Rattle.shape_font.specs.Names.{string_start}
use Rattle.shape_font.proofs.names.string_start.Given as goal

abbrev pub invariant-loop-i : goal.invariant-loop-i
invariant-loop-i l = record {
  same : string_start l.table (l.k - l._i) l.start ≡ string_start l.table l.k l.at;
  near : l.start ≤ l.at + 256 * l._i;
}
