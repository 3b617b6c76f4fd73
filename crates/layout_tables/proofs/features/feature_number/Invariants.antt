use Rattle.std.proofs.Common.{◌≡◌, ◌-◌, ℕ, Bool}
use Rattle.shape_font.specs.Search.{first_at}
use Rattle.layout_tables.specs.Features.{has_feature_tag}
use Rattle.layout_tables.proofs.features.feature_number.Given as goal

-- what is found from here on is what is found from the start
abbrev pub invariant-loop-i : goal.invariant-loop-i
invariant-loop-i l = let p : ℕ → Bool = has_feature_tag l.table l.lang_sys l.tag in first_at p l.count 0 ≡ first_at p (l.count - l.i) l.i
