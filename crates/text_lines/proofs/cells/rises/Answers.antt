use Rattle.std.proofs.Common.{◌↔◌, ℕ, ◌+◌, ◌<◌, Bool, true, false, List, length, get_or, IsTrue, MatchBool, refl, arith}
use Rattle.std.proofs.lemmas.Bool.{false≢true}
use Rattle.std.proofs.lemmas.List.Sorted.{non_decreasing_from_is_sorted}
use Rattle.std.specs.List.Sorted.{IsNonDecreasing}
use Rattle.text_lines.proofs.cells.rises.Goals as goal

answer : (xs : List ℕ) (r : Bool) → MatchBool r (IsNonDecreasing xs) ((k : ℕ) × (k + 1 < length xs) × ((d : ℕ) → get_or xs (k + 1) d < get_or xs k d))
    → IsTrue r ↔ IsNonDecreasing xs
answer xs true rise = (λ yes. rise, λ again. refl)
answer xs false (k, within, falls) =
    (λ yes. absurd (false≢true yes), λ rise. let up = rise k (k + 1) 0 (omega arith) within in let down = falls 0 in absurd (omega (arith, up, down)))

pub returns : goal.returns
returns c = answer c.args.list.now c.is_sorted.result (non_decreasing_from_is_sorted c.args.list.now c.is_sorted.result c.is_sorted.ensures.cases)
