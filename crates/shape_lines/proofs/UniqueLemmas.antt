-- Right lines are determined: each by its start.
use Rattle.std.proofs.Common.{◌≡◌, ◌⊎◌, ℕ, ◌-◌, ◌<◌, ◌≤◌, Bool, true, false, ℤ, ◌<ℤ◌, ◌≤ℤ◌, List, [], ◌∷◌, length, refl, sym, ap, ap₂, subst, ◌∙◌, arith, inl, inr}
use Rattle.std.proofs.lemmas.Bool.{cases_lt}
use Rattle.std.proofs.lemmas.Int.{ints}
use Rattle.std.specs.Prelude.{if◌then◌else◌}
use Rattle.shape_items.specs.Buffer.{Buffer}
use Rattle.shape_items.specs.Clusters.{clusters}
use Rattle.shape_lines.specs.Places.{cluster_at}
use Rattle.shape_lines.specs.RightLines.{MayEndAt, width_from, IsLongest, IsShortestAsNoneFits, IsLeastCluster, first_place, end_place, IsRightLine, next_text, AreRightFrom}
use Rattle.shape_lines.specs.TextOrder.{Glyph, falls, text_order}
use Rattle.shape_lines.specs.declared.cutting.Line.{Line}
use Rattle.shape_lines.proofs.TextOrderLemmas.{length-text}

module _ (gs : List Glyph) (width : ℤ) (start : ℕ) where
  abbrev Ends : ℕ → Type 0
  Ends end = IsLongest gs width start end ⊎ IsShortestAsNoneFits gs width start end

  may_end : (end : ℕ) → Ends end → MayEndAt gs start end
  may_end end (inl longest) = longest.may_end
  may_end end (inr shortest) = shortest.may_end

  not_longer : (a b : ℕ) → Ends a → Ends b → a < b → ⊥
  not_longer a b (inl x) (inl y) lt = let wide = x.none_longer b lt y.may_end in let fits = y.fits in absurd (omega (arith, ints))
  not_longer a b (inl x) (inr y) lt = let wide = y.none_fits a x.may_end in let fits = x.fits in absurd (omega (arith, ints))
  not_longer a b (inr x) (inl y) lt = let wide = x.none_fits b y.may_end in let fits = y.fits in absurd (omega (arith, ints))
  not_longer a b (inr x) (inr y) lt = y.none_shorter a lt x.may_end

  same_end : (a b : ℕ) → Ends a → Ends b → a ≡ b
  same_end a b x y =
      elim (cases_lt a b) [
        | inl less ↦ absurd (not_longer a b x y less)
        | inr le ↦ elim (cases_lt b a) [
          | inl more ↦ absurd (not_longer b a y x more)
          | inr ge ↦ omega arith
        ]
      ]

  same_least : (end m n : ℕ) → IsLeastCluster gs start end m → IsLeastCluster gs start end n → m ≡ n
  same_least end m n x y =
      let at = x.is_one in
      let other = y.is_one in
      let low = y.none_less at.0 at.1 at.2 in
      let high = x.none_less other.0 other.1 other.2 in
      let here = at.3 in
      let there = other.3 in
      omega arith

abbrev line : ℕ → ℕ → ℕ → ℕ → Line
line glyph_start glyph_end text_start text_end = record {
  glyph_start = glyph_start;
  glyph_end = glyph_end;
  text_start = text_start;
  text_end = text_end;
}

-- the places of the list, from those of the text
same_range : (back : Bool) (n s e s' e' start end : ℕ) → start < end → e ≤ n → e' ≤ n
    → (if back then n - e else s) ≡ start → (if back then n - s else e) ≡ end
    → (if back then n - e' else s') ≡ start → (if back then n - s' else e') ≡ end → (s ≡ s') × (e ≡ e')
same_range true n s e s' e' start end some le le' a b a' b' = (omega arith, omega arith)
same_range false n s e s' e' start end some le le' a b a' b' = (omega arith, omega arith)

module _ (b : Buffer) (text_end : ℕ) (width : ℤ) where
  some_left : (start : ℕ) (l : Line) → IsRightLine b width start l → (start < end_place b l) × (start < length b.items)
  some_left start l h =
      let can = may_end (text_order b) width start (end_place b l) h.ends in
      let after = can.after in
      let long = length-text b in
      (after, elim can.is [ inl all ↦ omega arith | inr place ↦ let before = place.before in omega arith ])

  pub same_lines : (start : ℕ) (xs ys : List Line) → AreRightFrom b text_end width start xs → AreRightFrom b text_end width start ys → xs ≡ ys
  same_lines start [] [] x y = refl
  same_lines start [] (l ∷ ys) x y = let left = (some_left start l y.0).1 in absurd (omega arith)
  same_lines start (l ∷ xs) [] x y = let left = (some_left start l x.0).1 in absurd (omega arith)
  same_lines start (l ∷ xs) (m ∷ ys) x y =
      let first = x.0 in
      let second = y.0 in
      let end = same_end (text_order b) width start (end_place b l) (end_place b m) first.ends second.ends in
      let range = same_range (falls (clusters b.items)) (length b.items) l.glyph_start l.glyph_end m.glyph_start m.glyph_end start (end_place b l)
      (some_left start l first).0 first.within second.within first.begins refl second.begins (sym end) in
      let text = same_least (text_order b) width start (end_place b l) l.text_start m.text_start first.text_start
      (subst (λ e. IsLeastCluster (text_order b) start e m.text_start) (sym end) second.text_start) in
      let rest = same_lines (end_place b l) xs ys x.2 (subst (λ e. AreRightFrom b text_end width e ys) (sym end) y.2) in
      let ends : l.text_end ≡ m.text_end = x.1 ∙ ap (next_text text_end) rest ∙ sym y.1 in
      ap₂ (λ (k : Line) ks. k ∷ ks)
      (ap₂ (λ s e. line s e l.text_start l.text_end) range.0 range.1 ∙ ap₂ (λ s e. line m.glyph_start m.glyph_end s e) text ends) rest
