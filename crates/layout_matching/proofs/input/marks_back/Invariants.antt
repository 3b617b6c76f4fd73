use Rattle.std.proofs.Common.{◌≡◌, ◌-◌, ℕ, Bool}
use Rattle.shape_font.specs.Search.{first_at}
use Rattle.layout_matching.specs.Input.{ends_marks}
use Rattle.layout_matching.specs.Skipping.{nth}
use Rattle.layout_matching.proofs.input.marks_back.Given as goal

-- what is found from here on is what is found from the start
abbrev pub invariant-loop-k : goal.invariant-loop-k
invariant-loop-k l =
    let p : ℕ → Bool = λ k. ends_marks l.id (nth l.items (l.at - 1 - k)) in
    first_at p l.at 0 ≡ first_at p (l.at - l.k) l.k
