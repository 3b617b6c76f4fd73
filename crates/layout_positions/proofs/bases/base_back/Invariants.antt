use Rattle.std.proofs.Common.{◌≡◌, ◌-◌, ℕ, Bool}
use Rattle.shape_font.specs.Search.{first_at}
use Rattle.layout_positions.specs.Marks.{is_base_at}
use Rattle.layout_positions.proofs.bases.base_back.Given as goal

-- what is found from here on is what is found from the start
abbrev pub invariant-loop-d : goal.invariant-loop-d
invariant-loop-d l =
    let p : ℕ → Bool = λ d. is_base_at l.lookup l.subtable l.items (l.i - 1 - d) in
    first_at p l.count 0 ≡ first_at p (l.count - l.d) l.d
