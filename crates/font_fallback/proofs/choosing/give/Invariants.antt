use Rattle.std.proofs.Common.{◌≡◌, ℕ, ◌<◌, ◌≤◌, get_or, None}
use Rattle.font_fallback.specs.Choice.{found_in, has_by}
use Rattle.font_fallback.proofs.choosing.give.Given as goal

abbrev pub invariant-loop-k : goal.invariant-loop-k
invariant-loop-k l = record {
  given : (j : ℕ) → j < l.k → get_or l.fonts j None ≡ found_in (get_or l.fn.fonts j None) l.font (has_by l.has j);
  left : (j : ℕ) → l.k ≤ j → get_or l.fonts j None ≡ get_or l.fn.fonts j None;
}
