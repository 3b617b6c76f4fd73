use Rattle.std.proofs.Common.{◌≡◌, ◌-◌}
use Rattle.layout_tables.specs.Features.{feature_lookup_count_of}
use Rattle.layout_map.specs.Lookups.{each_used, place_used}
use Rattle.layout_map.proofs.lookups.ask_each.Given as goal

abbrev pub invariant-loop-j : goal.invariant-loop-j
invariant-loop-j l =
    each_used l.table l.new l.feature (feature_lookup_count_of l.table l.feature - l.j) l.j l.uses
    ≡ place_used l.table l.new l.fn.uses l.feature
