use Rattle.std.proofs.Common.{◌≡◌, ◌≤◌, length, take}
use Rattle.std.specs.Prelude.{All}
use Rattle.c_runs.specs.Glyphs.{glyphs_of_run}
use Rattle.c_runs.specs.Outcomes.{IsDone}
use Rattle.c_runs.specs.Texts.{IsPlaced, IsText, units_of}
use Rattle.c_runs.proofs.runs.shape_runs.Given as goal

abbrev pub invariant-loop-k : goal.invariant-loop-k
invariant-loop-k g l = record {
  ready : g.S.TextShaper.ready l.shaper;
  same : g.S.TextShaper.runs l.shaper ≡ g.S.TextShaper.runs l.fn.shaper;
  font : g.S.TextShaper.font l.shaper ≡ g.S.TextShaper.font l.fn.shaper;
  done : IsDone (glyphs_of_run (g.S.TextShaper.runs l.fn.shaper) (units_of l.text)) l.fn.runs l.runs l.fn.room l.room l.k l.used;
  placed : All (IsPlaced (units_of l.text)) (take l.k l.fn.runs);
  text_is : All (IsText (units_of l.text)) (take l.k l.fn.runs);
  fits : l.used ≤ length l.fn.room;
}
