use Rattle.std.proofs.Common.{◌≡◌, ◌-◌, ℕ, Bool, not}
use Rattle.shape_font.specs.Search.{first_at}
use Rattle.layout_matching.specs.Skipping.{nth}
use Rattle.layout_matching.specs.Seeking.{is_between}
use Rattle.layout_matching.proofs.seeking.distance_back.Given as goal

abbrev pub invariant-loop-d : goal.invariant-loop-d
invariant-loop-d l =
    let p : ℕ → Bool = λ d. not (is_between l.lookup l.seek l.k (nth l.items (l.i - 1 - d))) in
    first_at p l.i 0 ≡ first_at p (l.i - l.d) l.d
