use Rattle.std.proofs.Common.{◌≡◌, ◌+◌, ◌-◌, slice_index}
use Rattle.layout_matching.specs.Loops.{each_passes}
use Rattle.layout_matching.specs.Rules.{fits_row}
use Rattle.layout_matching.proofs.would.is_input.Given as goal

-- whether all glyphs after the first one fit is whether those from here on do
abbrev pub invariant-loop-k : goal.invariant-loop-k
invariant-loop-k l =
    let n = l.row.count - 1 in
    each_passes (λ k. fits_row l.table l.row k (slice_index l.glyphs (k + 1))) n 0
    ≡ each_passes (λ k. fits_row l.table l.row k (slice_index l.glyphs (k + 1))) (n - l.k) l.k
