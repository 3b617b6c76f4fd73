use Rattle.std.proofs.Common.{◌≡◌, ℕ, ◌<◌, ◌≤◌, ◌-◌}
use Rattle.std.specs.declared.cmp.Ordering.{Ordering}
use Rattle.shape_font.specs.Search.{found_in, found_by}
use Rattle.shape_font.proofs.search.found_within.Given as goal

-- what is found from here on is what is found from the start
abbrev pub invariant-loop-start : goal.invariant-loop-start
invariant-loop-start g l = record {
  within : l.end ≤ l.count;
  same : (says : ℕ → Ordering) → ((i : ℕ) (o : Ordering) → i < l.count → g.F.Fn.post l.side (i, tt) o → o ≡ says i)
      → found_in says (l.end - l.start) l.start l.end ≡ found_by says l.count;
}

abbrev pub decreases-loop-start : goal.decreases-loop-start
decreases-loop-start g l = l.end - l.start
