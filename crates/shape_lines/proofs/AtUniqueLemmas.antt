-- Lines at allowed places are determined: each by its start.
use Rattle.std.proofs.Common.{◌≡◌, ◌⊎◌, ℕ, ◌<◌, ◌≤◌, Bool, false, ℤ, List, [], ◌∷◌, length, refl, sym, ap, ap₂, subst, ◌∙◌, arith, inl, inr}
use Rattle.std.proofs.lemmas.Bool.{cases_lt}
use Rattle.std.proofs.lemmas.Int.{ints}
use Rattle.shape_items.specs.Buffer.{Buffer}
use Rattle.shape_lines.specs.LinesAt.{MayEndBy, IsLongestBy, IsShortestBy, IsEndAt, line_at, AreLinesFrom}
use Rattle.shape_lines.specs.declared.allowed.LineAt.{LineAt}
use Rattle.shape_lines.specs.declared.spots.Spot.{Spot}

module _ (any : Bool) (ss : List Spot) (width : ℤ) (start : ℕ) where
  not_longer : (anywhere : Bool) (a b : ℕ) → IsLongestBy anywhere ss width start a ⊎ IsShortestBy anywhere ss width start a
      → IsLongestBy anywhere ss width start b ⊎ IsShortestBy anywhere ss width start b → a < b → ⊥
  not_longer anywhere a b (inl x) (inl y) lt = let wide = x.none_longer b lt y.may_end in let fits = y.fits in absurd (omega (arith, ints))
  not_longer anywhere a b (inl x) (inr y) lt = let wide = y.none_fits a x.may_end in let fits = x.fits in absurd (omega (arith, ints))
  not_longer anywhere a b (inr x) (inl y) lt = let wide = x.none_fits b y.may_end in let fits = y.fits in absurd (omega (arith, ints))
  not_longer anywhere a b (inr x) (inr y) lt = y.none_shorter a lt x.may_end

  not_later : (a b : ℕ) → IsEndAt any ss width start a → IsEndAt any ss width start b → a < b → ⊥
  not_later a b (inl x) (inl y) lt = not_longer false a b (inl x) (inl y) lt
  not_later a b (inl x) (inr y) lt = let wide = y.0 a x.may_end in let fits = x.fits in absurd (omega (arith, ints))
  not_later a b (inr x) (inl y) lt = let wide = x.0 b y.may_end in let fits = y.fits in absurd (omega (arith, ints))
  not_later a b (inr x) (inr y) lt = not_longer any a b x.1 y.1 lt

  same_end : (a b : ℕ) → IsEndAt any ss width start a → IsEndAt any ss width start b → a ≡ b
  same_end a b x y =
      elim (cases_lt a b) [
        | inl less ↦ absurd (not_later a b x y less)
        | inr le ↦ elim (cases_lt b a) [
          | inl more ↦ absurd (not_later b a y x more)
          | inr ge ↦ omega arith
        ]
      ]

  ends_by : (anywhere : Bool) (end : ℕ) → IsLongestBy anywhere ss width start end ⊎ IsShortestBy anywhere ss width start end
      → MayEndBy anywhere ss start end
  ends_by anywhere end (inl longest) = longest.may_end
  ends_by anywhere end (inr shortest) = shortest.may_end

  some_left : (end : ℕ) → IsEndAt any ss width start end → start < length ss
  some_left end (inl longest) = let after = longest.may_end.after in let within = longest.may_end.within in omega arith
  some_left end (inr other) =
      let may = ends_by any end other.1 in
      let after = may.after in
      let within = may.within in
      omega arith

module _ (b : Buffer) (text_end : ℕ) (any : Bool) (ss : List Spot) (width : ℤ) where
  pub same_lines_at : (start : ℕ) (xs ys : List LineAt) → AreLinesFrom b text_end any ss width start xs
      → AreLinesFrom b text_end any ss width start ys → xs ≡ ys
  same_lines_at start [] [] x y = refl
  same_lines_at start [] (m ∷ ys) x y = let left = some_left any ss width start y.0 y.1 in absurd (omega arith)
  same_lines_at start (l ∷ xs) [] x y = let left = some_left any ss width start x.0 x.1 in absurd (omega arith)
  same_lines_at start (l ∷ xs) (m ∷ ys) x y =
      let end = same_end any ss width start x.0 y.0 x.1 y.1 in
      let rest = same_lines_at x.0 xs ys x.3 (subst (λ e. AreLinesFrom b text_end any ss width e ys) (sym end) y.3) in
      ap₂ (λ (k : LineAt) ks. k ∷ ks) (x.2 ∙ ap (line_at b text_end ss start) end ∙ sym y.2) rest
