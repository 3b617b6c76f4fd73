use Rattle.std.proofs.Common.{◌≡◌, ℕ, List, suc, ◌<◌, ◌≤◌, ◌+◌, ◌-◌, ◌∙◌, Bool, true, false, nat_lt, ap, refl, arith}
use Rattle.std.proofs.lemmas.Bool.Decides.{nat_tests}
use Rattle.std.specs.Option.{unwrap_or}
use Rattle.cff_tables.specs.Bytes.{number_of, first_at}
use Rattle.cff_tables.specs.Select.{next_is_past, RangesRise, range_at, glyph_size}
use Rattle.cff_tables.proofs.SearchLemmas.{halved_walked}
use Rattle.cff_tables.proofs.select.search_finds_what_a_walk_finds.Goals as goal

-- ranges that rise begin past the glyph once one does
past_from_there : (t : List ℕ) (format at count glyph : ℕ) → RangesRise t format at count → (i j : ℕ) → i ≤ j → j < count - 1
    → next_is_past t format at glyph i ≡ true → next_is_past t format at glyph j ≡ true
past_from_there t format at count glyph rise i j low high is = by_order (nat_lt i j) refl
  where
    by_order : (b : Bool) → nat_lt i j ≡ b → next_is_past t format at glyph j ≡ true
    by_order true b =
        let before : i < j = grind (arith, nat_tests, b) in
        let rises = rise (i + 1) (j + 1) (omega (arith, before)) (omega (arith, high)) in
        grind (arith, nat_tests, is, rises)
    by_order false b =
        let h : j ≤ i = grind (arith, nat_tests, b) in
        let e : j ≡ i = omega (arith, low, h) in
        ap (λ k. next_is_past t format at glyph k) e ∙ is

pub returns : goal.returns
returns c = λ t format at count glyph rise.
    let e : count - 1 - 0 ≡ count - 1 = omega arith in
    halved_walked (next_is_past t format at glyph) (count - 1) (past_from_there t format at count glyph rise) (count - 1) 0 (count - 1)
    (omega arith) (omega arith) (omega arith)
    ∙ ap (λ n. unwrap_or (first_at (next_is_past t format at glyph) n 0) (count - 1)) e
