use Rattle.std.proofs.Common.{◌≡◌}
use Rattle.script_shapers.specs.Thai.{am_spans}
use Rattle.script_shapers.proofs.thai.sara_am.am_spans.Given as goal

abbrev pub invariant-loop-i : goal.invariant-loop-i
invariant-loop-i l = record { made : l.spans.items ≡ am_spans l.level l.infos l.i }
