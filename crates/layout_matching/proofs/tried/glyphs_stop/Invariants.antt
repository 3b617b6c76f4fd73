use Rattle.std.proofs.Common.{◌≡◌, ◌-◌, ◌<◌, true, length}
use Rattle.layout_matching.specs.Input.{input_step, joins_all}
use Rattle.layout_matching.specs.Loops.{stopped}
use Rattle.layout_matching.specs.Tried.{input_stop}
use Rattle.layout_matching.proofs.tried.glyphs_stop.Given as goal

-- where it stops from here on is where it stops from the first glyph on
abbrev pub invariant-loop-k : goal.invariant-loop-k
invariant-loop-k l = record {
  made : stopped (input_step l.lookup l.seek l.items l.at) (input_stop l.lookup l.seek l.items) l.n 0 (record { last = l.at; all_marks = true })
      ≡ stopped (input_step l.lookup l.seek l.items l.at) (input_stop l.lookup l.seek l.items) (l.n - l.k) l.k l.found;
  inside : l.found.last < length l.items;
  at : l.first.at ≡ l.at;
  joins : l.first.joins_all ≡ joins_all l.lookup l.items l.at;
}
