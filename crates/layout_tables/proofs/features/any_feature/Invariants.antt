use Rattle.std.proofs.Common.{◌≡◌, ◌-◌, ℕ, Bool}
use Rattle.shape_font.specs.Search.{first_at}
use Rattle.layout_tables.specs.Features.{has_tag, feature_count_of}
use Rattle.layout_tables.proofs.features.any_feature.Given as goal

-- what is found from here on is what is found from the start
abbrev pub invariant-loop-i : goal.invariant-loop-i
invariant-loop-i l = let p : ℕ → Bool = has_tag l.table l.tag in
    first_at p (feature_count_of l.table) 0 ≡ first_at p (feature_count_of l.table - l.i) l.i
