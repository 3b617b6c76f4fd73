use Rattle.std.proofs.Common.{◌≡◌, ◌-◌, ℕ, Bool}
use Rattle.shape_font.specs.Search.{first_at}
use Rattle.apple_positioning.specs.Tracking.{is_normal}
use Rattle.apple_positioning.proofs.tracking.first_normal.Given as goal

-- what is found from here on is what is found from the start
abbrev pub invariant-loop-i : goal.invariant-loop-i
invariant-loop-i l = let p : ℕ → Bool = is_normal l.trak l.start in first_at p l.count 0 ≡ first_at p (l.count - l.i) l.i
