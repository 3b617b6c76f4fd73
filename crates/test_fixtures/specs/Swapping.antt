-- A shaper whose `reorder_marks` hook exchanges the first two marks of a run.
use Rattle.std.specs.Prelude.{◌≡◌, ℕ, ◌+◌, ◌<◌, Bool, true, false, nat_lt, if◌then◌else◌, refl}
use Rattle.std.proofs.Common.{arith, cond}
use Rattle.std.proofs.lemmas.Bool.Decides.{nat_tests}
use Rattle.shape_items.specs.Buffer.{Buffer}
use Rattle.shape_plan.specs.Reorder.{exchanged, Reorders, done, exchange, ReordersRanges}

-- a range of one item stays
abbrev pub first_two_swapped : Buffer → ℕ → ℕ → Buffer
first_two_swapped b start end = if nat_lt (start + 1) end then exchanged start (start + 1) b else b

pub first_two_swapped-reorders : ReordersRanges first_two_swapped
first_two_swapped-reorders = record { reorders = λ b start end run. steps b start end }
  where
    steps : (b : Buffer) (start end : ℕ) → Reorders start end b (first_two_swapped b start end)
    steps b start end =
        let P : Bool → Type 0 = λ two. nat_lt (start + 1) end ≡ two
        → Reorders start end b (cond two (exchanged start (start + 1) b) b) in
        let cases : P (nat_lt (start + 1) end) = elim (nat_lt (start + 1) end) as P [
          | true ↦ λ two.
              let room : start + 1 < end = grind (arith, nat_tests, two) in
              exchange start (start + 1) (omega arith) (omega (arith, room)) (omega arith) room done
          | false ↦ λ one. done
        ] in
        cases refl
