use Rattle.std.proofs.Common.{◌≡◌, ◌-◌, ◌<◌, true, length}
use Rattle.layout_matching.specs.Input.{input_step, joins_all}
use Rattle.layout_matching.specs.Loops.{steps}
use Rattle.layout_matching.proofs.input.all_glyphs.Given as goal

-- what is matched from here on is what is matched from the first glyph on
abbrev pub invariant-loop-k : goal.invariant-loop-k
invariant-loop-k l = record {
  made : steps (input_step l.lookup l.seek l.items l.at) l.n 0 (record { last = l.at; all_marks = true })
      ≡ steps (input_step l.lookup l.seek l.items l.at) (l.n - l.k) l.k l.found;
  inside : l.found.last < length l.items;
  at : l.first.at ≡ l.at;
  joins : l.first.joins_all ≡ joins_all l.lookup l.items l.at;
}
