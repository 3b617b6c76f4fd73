-- Lines of small texts, decided by tests: what the worked rows rest on.
use Rattle.std.proofs.Common.{◌≡◌, ℕ, zero, suc, ◌+◌, ◌-◌, ◌<◌, ◌≤◌, ◌&&◌, ◌||◌, not, Bool, true, false, ℤ, ◌<ℤ◌, ◌≤ℤ◌, int_lt, List, [], ◌∷◌, length, get_or, refl, sym, ap, subst, ◌∙◌, arith, inl, inr}
use Rattle.std.proofs.lemmas.Bool.{cases_Bool, cases_lt, and_parts, false≢true}
use Rattle.std.proofs.lemmas.Bool.Decides.{nat_tests}
use Rattle.std.proofs.lemmas.Int.{ints}
use Rattle.std.specs.Prelude.{nat_lt, nat_le, All}
use Rattle.std.specs.List.{list_all}
use Rattle.shape_items.specs.Buffer.{Buffer}
use Rattle.shape_items.specs.Clusters.{clusters}
use Rattle.shape_items.specs.Items.{Item}
use Rattle.shape_lines.specs.CanCut.{CanCut, IsMonotone}
use Rattle.shape_lines.specs.Pieces.{pieces_of, is_end, width_between, MayEnd, IsLineEnd, AreLines}
use Rattle.shape_lines.specs.RightLines.{AreRightLines}
use Rattle.shape_lines.specs.Walked.{line_of}
use Rattle.shape_lines.specs.declared.cutting.Line.{Line}
use Rattle.shape_lines.specs.declared.reading.Piece.{Piece}
use Rattle.shape_lines.proofs.NeighbourLemmas.{EachPair, rises_to, falls_to, rises-pairs, falls-pairs, shares_flags, flags-pairs, below_end}
use Rattle.shape_lines.proofs.RightLineLemmas.{right_from}

module _ (ps : List Piece) (width : ℤ) (start : ℕ) where
  abbrev is_wide : ℕ → Bool
  is_wide end = int_lt width (width_between ps start end)

  -- of so many places from one on, none is an end that fits
  abbrev none_fits : ℕ → ℕ → Bool
  none_fits from zero = true
  none_fits from (suc n) = (not (is_end ps from) || is_wide from) && none_fits (suc from) n

  -- none is an end
  abbrev none_ends : ℕ → ℕ → Bool
  none_ends from zero = true
  none_ends from (suc n) = not (is_end ps from) && none_ends (suc from) n

  none_fits-at : (from n : ℕ) → none_fits from n ≡ true → (k : ℕ) → from ≤ k → k < from + n → is_end ps k ≡ true
      → width <ℤ width_between ps start k
  none_fits-at from zero e k le lt is = absurd (omega arith)
  none_fits-at from (suc n) e k le lt is =
      let pieces = and_parts (not (is_end ps from) || is_wide from) (none_fits (suc from) n) e in
      elim (cases_lt from k) [
        | inl later ↦ none_fits-at (suc from) n pieces.1 k (omega arith) (omega arith) is
        | inr same ↦
            let here : k ≡ from = omega arith in
            let end : is_end ps from ≡ true = ap (is_end ps) (sym here) ∙ is in
            let wide : is_wide from ≡ true = sym (ap (λ t. not t || is_wide from) end) ∙ pieces.0 in
            subst (λ n. width <ℤ width_between ps start n) (sym here) (too_wide _ wide)
      ]
    where
      too_wide : (w : ℤ) → int_lt width w ≡ true → width <ℤ w
      too_wide w wide = omega (arith, ints)

  none_ends-at : (from n : ℕ) → none_ends from n ≡ true → (k : ℕ) → from ≤ k → k < from + n → is_end ps k ≡ true → ⊥
  none_ends-at from zero e k le lt is = absurd (omega arith)
  none_ends-at from (suc n) e k le lt is =
      let pieces = and_parts (not (is_end ps from)) (none_ends (suc from) n) e in
      elim (cases_lt from k) [
        | inl later ↦ none_ends-at (suc from) n pieces.1 k (omega arith) (omega arith) is
        | inr same ↦
            let here : k ≡ from = omega arith in
            let end : is_end ps from ≡ true = ap (is_end ps) (sym here) ∙ is in
            false≢true (sym (ap not end) ∙ pieces.0)
      ]

  abbrev is_longest : ℕ → Bool
  is_longest end = not (is_wide end) && none_fits (suc end) (length ps - end)

  abbrev is_shortest : ℕ → Bool
  is_shortest end = none_fits (suc start) (length ps - start) && none_ends (suc start) (end - suc start)

  abbrev may_end : ℕ → Bool
  may_end end = nat_lt start end && (nat_le end (length ps) && is_end ps end)

  abbrev pub is_line_end : ℕ → Bool
  is_line_end end = may_end end && (is_longest end || is_shortest end)

  pub line_end_from : (end : ℕ) → is_line_end end ≡ true → IsLineEnd ps width start end
  line_end_from end e =
      let both = and_parts (may_end end) (is_longest end || is_shortest end) e in
      let may = and_parts (nat_lt start end) (nat_le end (length ps) && is_end ps end) both.0 in
      let more = and_parts (nat_le end (length ps)) (is_end ps end) may.1 in
      let after = less start end may.0 in
      let within = up_to end (length ps) more.0 in
      let can : MayEnd ps start end = record { after = after; within = within; is = more.1 } in
      elim (cases_Bool (is_longest end)) [
        | inl long ↦
            let tests = and_parts (not (is_wide end)) (none_fits (suc end) (length ps - end)) long in
            inl (record {
              may_end = can;
              fits = narrow _ tests.0;
              none_longer = λ later longer may_end.
                  let low = may_end.within in
                  none_fits-at (suc end) (length ps - end) tests.1 later longer (omega arith) may_end.is;
            })
        | inr short ↦
            let shortest : is_shortest end ≡ true = sym (ap (λ t. t || is_shortest end) short) ∙ both.1 in
            let tests = and_parts (none_fits (suc start) (length ps - start)) (none_ends (suc start) (end - suc start)) shortest in
            inr (record {
              may_end = can;
              none_fits = λ other may_end.
                  let low = may_end.within in
                  none_fits-at (suc start) (length ps - start) tests.0 other may_end.after (omega arith) may_end.is;
              none_shorter = λ earlier shorter may_end.
                  none_ends-at (suc start) (end - suc start) tests.1 earlier may_end.after (omega arith) may_end.is;
            })
      ]
    where
      less : (a b : ℕ) → nat_lt a b ≡ true → a < b
      less a b t = grind (arith, nat_tests, t)

      up_to : (a b : ℕ) → nat_le a b ≡ true → a ≤ b
      up_to a b t = grind (arith, nat_tests, t)

      narrow : (w : ℤ) → not (int_lt width w) ≡ true → w ≤ℤ width
      narrow w t = elim (cases_Bool (int_lt width w)) [
        | inl wide ↦ absurd (false≢true (sym (ap not wide) ∙ t))
        | inr fits ↦ omega (arith, ints)
      ]

-- ---- lines by their ends

abbrev pub are_ends : List Piece → ℤ → ℕ → List ℕ → Bool
are_ends ps width start [] = nat_le (length ps) start && nat_le start (length ps)
are_ends ps width start (end ∷ ends) = is_line_end ps width start end && are_ends ps width end ends

abbrev pub lines_by : (ℕ → ℕ → Line) → ℕ → List ℕ → List Line
lines_by line start [] = []
lines_by line start (end ∷ ends) = line start end ∷ lines_by line end ends

lines_from : (ps : List Piece) (width : ℤ) (line : ℕ → ℕ → Line) (start : ℕ) (ends : List ℕ) → are_ends ps width start ends ≡ true
    → AreLines ps width line start (lines_by line start ends)
lines_from ps width line start [] e =
    let both = and_parts (nat_le (length ps) start) (nat_le start (length ps)) e in
    equal (length ps) start both.0 both.1
  where
    equal : (n k : ℕ) → nat_le n k ≡ true → nat_le k n ≡ true → k ≡ n
    equal n k low high = grind (arith, nat_tests, low, high)
lines_from ps width line start (end ∷ ends) e =
    let both = and_parts (is_line_end ps width start end) (are_ends ps width end ends) e in
    (end, line_end_from ps width start end both.0, refl, lines_from ps width line end ends both.1)

-- ---- what can be cut, by tests

abbrev pub each_pair : (Item → Item → Bool) → List Item → Bool
each_pair test [] = true
each_pair test (x ∷ []) = true
each_pair test (x ∷ y ∷ items) = test x y && each_pair test (y ∷ items)

each_pair-passes : (test : Item → Item → Bool) (items : List Item) → each_pair test items ≡ true → EachPair test items
each_pair-passes test [] e k d lt = absurd (omega arith)
each_pair-passes test (x ∷ []) e k d lt = absurd (omega arith)
each_pair-passes test (x ∷ y ∷ items) e zero d lt = (and_parts (test x y) (each_pair test (y ∷ items)) e).0
each_pair-passes test (x ∷ y ∷ items) e (suc k) d lt =
    let next : suc k + 1 ≡ suc (k + 1) = omega arith in
    rw next (each_pair-passes test (y ∷ items) (and_parts (test x y) (each_pair test (y ∷ items)) e).1 k d (omega arith))

-- right lines of glyphs whose clusters rise, or fall
module _ (b : Buffer) (text_end : ℕ) (width : ℤ) (ends : List ℕ) (flags : each_pair shares_flags b.items ≡ true)
    (below : list_all (λ (item : Item). nat_lt item.cluster text_end) b.items ≡ true) (are : are_ends (pieces_of b) width 0 ends ≡ true) where
  right_by : IsMonotone (clusters b.items) → AreRightLines b text_end width (lines_by (line_of b text_end) 0 ends)
  right_by monotone =
      let can : CanCut b text_end = record {
        monotone = monotone;
        one_set = (flags-pairs b.items).0 (each_pair-passes shares_flags b.items flags);
        below = (below_end b.items text_end).0 below;
      } in
      right_from b text_end can width 0 (lines_by (line_of b text_end) 0 ends) (lines_from (pieces_of b) width (line_of b text_end) 0 ends are)

  pub right_rising : each_pair rises_to b.items ≡ true → AreRightLines b text_end width (lines_by (line_of b text_end) 0 ends)
  right_rising rise = right_by (inl ((rises-pairs b.items).0 (each_pair-passes rises_to b.items rise)))

  pub right_falling : each_pair falls_to b.items ≡ true → AreRightLines b text_end width (lines_by (line_of b text_end) 0 ends)
  right_falling fall = right_by (inr ((falls-pairs b.items).0 (each_pair-passes falls_to b.items fall)))
