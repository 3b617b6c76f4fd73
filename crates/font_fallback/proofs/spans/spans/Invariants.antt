use Rattle.std.proofs.Common.{◌-◌, ◌≤◌, List, ◌++◌, length, slice_index}
use Rattle.font_fallback.specs.Choice.{AreSpans}
use Rattle.font_fallback.specs.declared.spans.Span.{Span}
use Rattle.font_fallback.proofs.spans.spans.Given as goal

abbrev pub decreases-loop-start : goal.decreases-loop-start
decreases-loop-start l = length l.fonts - l.start

abbrev pub invariant-loop-start : goal.invariant-loop-start
invariant-loop-start l = record {
  within : l.start ≤ length l.fonts;
  spans_on : (rest : List Span) → AreSpans (λ k. slice_index l.fonts k) l.start (length l.fonts) rest
      → AreSpans (λ k. slice_index l.fonts k) 0 (length l.fonts) (l.spans.items ++ rest);
}
