-- The carets of a text by the stops inside it.
use Rattle.std.proofs.Common.{◌≡◌, ℕ, suc, ◌+◌, ◌<◌, ◌≤◌, Bool, false, ℤ, pos, List, [], ◌∷◌, ◌++◌, length, take, drop, get_or, arith, refl, sym, ap, ap₂, ◌∙◌, append-nil, inl, inr}
use Rattle.std.proofs.lemmas.Bool.{cases_Bool}
use Rattle.std.proofs.lemmas.Bool.Decides.{nat_tests}
use Rattle.std.proofs.lemmas.List.{take-append-drop, get_or-drop, length-drop, get_or-take, length-take}
use Rattle.std.proofs.lemmas.List.Elements.{filter-append}
use Rattle.std.proofs.lemmas.List.Folds.{drop_split}
use Rattle.std.specs.List.{filter, slice_range}
use Rattle.std.specs.Prelude.{nat_lt}
use Rattle.shape_items.specs.declared.clusters.glyph_clusters.GlyphCluster.{GlyphCluster}
use Rattle.shape_carets.specs.Carets.{carets_from, carets_of, cell_carets, is_inside, origin_of}
use Rattle.shape_carets.specs.Cells.{cells_after, start_of, Rises}
use Rattle.shape_carets.proofs.CellLemmas.{cells_rise, start_after}

none_pass : (p : ℕ → Bool) (xs : List ℕ) → ((k : ℕ) → k < length xs → p (get_or xs k 0) ≡ false) → filter p xs ≡ []
none_pass p [] each = refl
none_pass p (x ∷ xs) each = rw (each 0 (omega arith)) (none_pass p xs (λ k lt. each (suc k) (omega arith)))

module _ (stops : List ℕ) (start end first last : ℕ) (order : first ≤ last) (within : last ≤ length stops)
    (before : (k : ℕ) → k < first → get_or stops k 0 < start) (after : (k : ℕ) → last ≤ k → k < length stops → end ≤ get_or stops k 0) where
  -- what stands before them and after them isn't inside a part of the text
  filtered : (one other : ℕ) → start ≤ one → other ≤ end → filter (is_inside one other) (slice_range stops first last) ≡ filter (is_inside one other) stops
  filtered one other ge le =
      let p = is_inside one other in
      let front : filter p (take first stops) ≡ [] = none_pass p (take first stops) (λ k lt.
      let low = length-take first stops in
      let at = get_or-take first stops k 0 (omega arith) in
      let less = before k (omega arith) in
      grind (arith, nat_tests, at, less, ge)) in
      let back : filter p (drop last stops) ≡ [] = none_pass p (drop last stops) (λ k lt.
      let long = length-drop last stops in
      let at = get_or-drop last stops k 0 in
      let high = after (last + k) (omega arith) (omega arith) in
      grind (arith, nat_tests, at, high, le)) in
      sym (ap (filter p) (sym (take-append-drop first stops))
      ∙ filter-append p (take first stops) (drop first stops)
      ∙ ap (λ l. l ++ filter p (drop first stops)) front
      ∙ ap (filter p) (drop_split stops first last order)
      ∙ filter-append p (slice_range stops first last) (drop last stops)
      ∙ ap (λ l. filter p (slice_range stops first last) ++ l) back
      ∙ append-nil (filter p (slice_range stops first last)))

  ends_by : (cells : _) → Rises end cells → start_of end cells ≤ end
  ends_by [] rise = omega arith
  ends_by (c ∷ cells) rise = let up = rise.0 in let later = ends_by cells rise.1 in omega arith

  from-same : (cells : _) (x : ℤ) → start ≤ start_of end cells → Rises end cells
      → carets_from end (slice_range stops first last) x cells ≡ carets_from end stops x cells
  from-same [] x ge rise = refl
  from-same (c ∷ cells) x ge rise =
      let up = rise.0 in
      let next : start ≤ start_of end cells = omega arith in
      ap₂ (λ inside carets. cell_carets c x inside ++ carets)
      (filtered (start_of end (c ∷ cells)) (start_of end cells) ge (ends_by cells rise.1))
      (from-same cells _ next rise.1)

  pub carets-same : (backward : Bool) (clusters : List GlyphCluster)
      → carets_of backward start end (slice_range stops first last) clusters ≡ carets_of backward start end stops clusters
  carets-same backward clusters =
      elim (cases_Bool (nat_lt start end)) [
        | inl some ↦
            let lt : start < end = grind (arith, nat_tests, some) in
            let cells = cells_after backward end start (pos 0) clusters in
            let begins : start_of end cells ≡ start = start_after backward end start (pos 0) clusters in
            rw some (from-same cells (origin_of backward cells) (omega (arith, begins)) (cells_rise backward end start (pos 0) clusters lt))
        | inr none ↦ rw none refl
      ]
