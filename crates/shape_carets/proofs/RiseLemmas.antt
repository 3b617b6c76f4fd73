-- Offsets of carets rise.
use Rattle.std.proofs.Common.{ℕ, zero, suc, ◌<◌, ◌≤◌, Bool, ℤ, List, [], ◌∷◌, ◌++◌, length, arith, inl, inr}
use Rattle.std.proofs.lemmas.Bool.{cases_Bool}
use Rattle.std.proofs.lemmas.Bool.Decides.{nat_tests}
use Rattle.std.specs.List.{filter}
use Rattle.std.specs.Prelude.{nat_lt, int_div, pos, ◌+◌}
use Rattle.shape_common.specs.Wrapping.{◌+ʷ◌}
use Rattle.shape_items.specs.declared.clusters.glyph_clusters.GlyphCluster.{GlyphCluster}
use Rattle.shape_carets.specs.Carets.{carets_from, carets_of, is_inside, origin_of, spread}
use Rattle.shape_carets.specs.Cells.{cells_of, start_of, Rises}
use Rattle.shape_carets.specs.Laws.{OffsetsRise, StopsRise}
use Rattle.shape_carets.specs.declared.caret.Caret.{Caret}
use Rattle.shape_carets.specs.declared.cells.Cell.{Cell}
use Rattle.shape_carets.proofs.CellLemmas.{cells_rise}

-- numbers rise, all above one and below another
abbrev RiseWithin : ℕ → ℕ → List ℕ → Type 0
RiseWithin low end [] = Unit {0}
RiseWithin low end (s ∷ stops) = (low < s) × (s < end) × RiseWithin s end stops

-- stops rise, all above a number
abbrev RiseAbove : ℕ → List ℕ → Type 0
RiseAbove low [] = Unit {0}
RiseAbove low (s ∷ stops) = (low < s) × RiseAbove s stops

rest_above : (s : ℕ) (stops : List ℕ) → StopsRise (s ∷ stops) → RiseAbove s stops
rest_above s [] rise = tt
rest_above s (t ∷ stops) rise = (rise.0, rest_above t stops rise.1)

rest_rise : (s : ℕ) (stops : List ℕ) → StopsRise (s ∷ stops) → StopsRise stops
rest_rise s [] rise = tt
rest_rise s (t ∷ stops) rise = rise.1

above_less : (low high : ℕ) (stops : List ℕ) → low ≤ high → RiseAbove high stops → RiseAbove low stops
above_less low high [] le rise = tt
above_less low high (s ∷ stops) le rise = ((let lt = rise.0 in omega arith), rise.1)

within_above : (start end low : ℕ) (stops : List ℕ) → start ≤ low → RiseAbove low stops → RiseWithin low end (filter (is_inside start end) stops)
within_above start end low [] le rise = tt
within_above start end low (s ∷ stops) le rise =
    let lt = rise.0 in
    elim (cases_Bool (is_inside start end s)) [
      | inl inside ↦ rw inside (lt, (grind (arith, nat_tests, inside)), within_above start end s stops (omega arith) rise.1)
      | inr outside ↦ rw outside (within_above start end low stops le (above_less low s stops (omega arith) rise.1))
    ]

within : (start end : ℕ) (stops : List ℕ) → StopsRise stops → RiseWithin start end (filter (is_inside start end) stops)
within start end [] rise = tt
within start end (s ∷ stops) rise =
    elim (cases_Bool (is_inside start end s)) [
      | inl inside ↦
          let past : start < s = grind (arith, nat_tests, inside) in
          rw inside (past, (grind (arith, nat_tests, inside)), within_above start end s stops (omega arith) (rest_above s stops rise))
      | inr outside ↦ rw outside (within start end stops (rest_rise s stops rise))
    ]

-- carets rise, all past an offset
abbrev RisePast : ℕ → List Caret → Type 0
RisePast low [] = Unit {0}
RisePast low (c ∷ carets) = (low < c.offset) × RisePast c.offset carets

spread_rise : (low end : ℕ) (x step : ℤ) (inside : List ℕ) (rest : List Caret) → low < end → RiseWithin low end inside
    → ((q : ℕ) → q < end → RisePast q rest) → RisePast low (spread x step inside ++ rest)
spread_rise low end x step [] rest lt rise past = past low lt
spread_rise low end x step (s ∷ inside) rest lt rise past = (rise.0, spread_rise s end (x +ʷ step) step inside rest rise.1 rise.2 past)

carets_rise : (low end : ℕ) (stops : List ℕ) (x : ℤ) (cells : List Cell) → StopsRise stops → Rises end cells → low < start_of end cells
    → RisePast low (carets_from end stops x cells)
carets_rise low end stops x [] rise up lt = (lt, tt)
carets_rise low end stops x (c ∷ cells) rise up lt =
    let next = start_of end cells in
    let inside = filter (is_inside c.offset next) stops in (
      lt,
      spread_rise c.offset next x (int_div c.advance (pos (length inside + 1))) inside (carets_from end stops (x +ʷ c.advance) cells)
          up.0 (within c.offset next stops rise) (λ q less. carets_rise q end stops (x +ʷ c.advance) cells rise up.1 less),
    )

rise_at : (low : ℕ) (carets : List Caret) → RisePast low carets → OffsetsRise carets
rise_at low [] rise k lt = absurd (omega arith)
rise_at low (a ∷ []) rise k lt = absurd (omega arith)
rise_at low (a ∷ b ∷ carets) rise zero lt = rise.1.0
rise_at low (a ∷ b ∷ carets) rise (suc k) lt = rise_at a.offset (b ∷ carets) rise.1 k (omega arith)

after_first : (c : Caret) (carets : List Caret) → RisePast c.offset carets → OffsetsRise (c ∷ carets)
after_first c [] rise k lt = absurd (omega arith)
after_first c (d ∷ carets) rise zero lt = rise.0
after_first c (d ∷ carets) rise (suc k) lt = rise_at c.offset (d ∷ carets) rise k (omega arith)

from_cells : (end : ℕ) (stops : List ℕ) (x : ℤ) (cells : List Cell) → StopsRise stops → Rises end cells → OffsetsRise (carets_from end stops x cells)
from_cells end stops x [] rise up = λ k lt. absurd (omega arith)
from_cells end stops x (c ∷ cells) rise up =
    let next = start_of end cells in
    let inside = filter (is_inside c.offset next) stops in
    after_first _ _ (spread_rise c.offset next x (int_div c.advance (pos (length inside + 1))) inside (carets_from end stops (x +ʷ c.advance) cells)
    up.0 (within c.offset next stops rise) (λ q less. carets_rise q end stops (x +ʷ c.advance) cells rise up.1 less))

pub offsets-rise : (backward : Bool) (start end : ℕ) (stops : List ℕ) (clusters : List GlyphCluster) → StopsRise stops
    → OffsetsRise (carets_of backward start end stops clusters)
offsets-rise backward start end stops clusters rise =
    let cells = cells_of backward start end clusters in
    from_cells end stops (origin_of backward cells) cells rise (elim (cases_Bool (nat_lt start end)) [
      | inl some ↦ let lt : start < end = grind (arith, nat_tests, some) in rw some (cells_rise backward end start (pos 0) clusters lt)
      | inr none ↦ rw none tt
    ])
