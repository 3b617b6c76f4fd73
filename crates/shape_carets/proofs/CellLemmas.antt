-- Cells rise.
use Rattle.std.proofs.Common.{◌≡◌, ℕ, ◌<◌, ◌&&◌, Bool, true, false, ℤ, List, [], ◌∷◌, ◌++◌, arith, refl, sym, ap, ◌∙◌, inl, inr, append_assoc}
use Rattle.std.proofs.lemmas.Bool.{cases_Bool}
use Rattle.std.proofs.lemmas.Bool.Decides.{nat_tests}
use Rattle.std.specs.Prelude.{nat_lt}
use Rattle.shape_common.specs.Wrapping.{◌+ʷ◌}
use Rattle.shape_items.specs.declared.clusters.glyph_clusters.GlyphCluster.{GlyphCluster}
use Rattle.shape_carets.specs.Cells.{cell, cells_after, move_of, start_of, Rises}
use Rattle.shape_carets.specs.declared.cells.Cell.{Cell}

pub start_after : (backward : Bool) (end offset : ℕ) (advance : ℤ) (clusters : List GlyphCluster)
    → start_of end (cells_after backward end offset advance clusters) ≡ offset
start_after backward end offset advance [] = refl
start_after backward end offset advance (c ∷ clusters) =
    elim (cases_Bool (nat_lt offset c.cluster && nat_lt c.cluster end)) [
      | inl past_it ↦ rw past_it refl
      | inr not_past ↦ rw not_past (start_after backward end offset (advance +ʷ move_of backward c.advance) clusters)
    ]

pub cells_rise : (backward : Bool) (end offset : ℕ) (advance : ℤ) (clusters : List GlyphCluster)
    → offset < end → Rises end (cells_after backward end offset advance clusters)
cells_rise backward end offset advance [] lt = (lt, tt)
cells_rise backward end offset advance (c ∷ clusters) lt =
    elim (cases_Bool (nat_lt offset c.cluster && nat_lt c.cluster end)) [
      | inl past_it ↦
          let past : offset < c.cluster = grind (arith, nat_tests, past_it) in
          let within : c.cluster < end = grind (arith, nat_tests, past_it) in
          let start = start_after backward end c.cluster (move_of backward c.advance) clusters in
          rw past_it (omega arith, cells_rise backward end c.cluster (move_of backward c.advance) clusters within)
      | inr not_past ↦ rw not_past (cells_rise backward end offset (advance +ʷ move_of backward c.advance) clusters lt)
    ]

-- ---- one cluster more

module _ (backward : Bool) (end offset : ℕ) (advance : ℤ) (c : GlyphCluster) (rest : List GlyphCluster) (items : List Cell) where
  pub begun-on : (new : List Cell) → nat_lt offset c.cluster && nat_lt c.cluster end ≡ true → new ≡ items ++ cell offset advance ∷ []
      → new ++ cells_after backward end c.cluster (move_of backward c.advance) rest ≡ items ++ cells_after backward end offset advance (c ∷ rest)
  begun-on new begins pushed =
      ap (λ l. l ++ cells_after backward end c.cluster (move_of backward c.advance) rest) pushed
      ∙ append_assoc items _ _
      ∙ ap (λ l. items ++ l) (sym (rw begins refl))

  pub widened-on : nat_lt offset c.cluster && nat_lt c.cluster end ≡ false
      → items ++ cells_after backward end offset (advance +ʷ move_of backward c.advance) rest ≡ items ++ cells_after backward end offset advance (c ∷ rest)
  widened-on begins = ap (λ l. items ++ l) (sym (rw begins refl))
