use Rattle.std.proofs.Common.{◌≡◌, ◌-◌, ℕ, Bool}
use Rattle.shape_font.specs.Search.{first_at}
use Rattle.apple_positioning.specs.Tracking.{is_reached}
use Rattle.apple_positioning.proofs.tracking.first_reached.Given as goal

-- what is found from here on is what is found from the start
abbrev pub invariant-loop-i : goal.invariant-loop-i
invariant-loop-i l = let p : ℕ → Bool = is_reached l.sizes.trak.now l.sizes.at l.points in
    first_at p l.most 0 ≡ first_at p (l.most - l.i) l.i
