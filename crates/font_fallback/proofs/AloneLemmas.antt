-- A text that the first font has.
use Rattle.std.proofs.Common.{◌≡◌, ℕ, ◌<◌, Bool, true, List, [], ◌∷◌, ◌++◌, length, Some, refl, ap, inl}
use Rattle.std.proofs.lemmas.Bool.{false≢true}
use Rattle.font_fallback.specs.Choice.{AreSpans, HasFonts, HaveAll, first_with, font_in, font_of, has_by}
use Rattle.font_fallback.specs.Laws.{IsOneSpan, first_row}
use Rattle.font_fallback.specs.declared.spans.Span.{Span}
use Rattle.font_fallback.proofs.SpanLemmas.{AreSpans-unique}

module _ (row : List Bool) (clusters : ℕ) (has : (k : ℕ) → k < clusters → has_by row k ≡ true) where
  first : (rows : List (List Bool)) (k : ℕ) → k < clusters → first_with 0 (row ∷ rows) k ≡ Some 0
  first rows k lt = rw (has k lt) refl

  all : (rows : List (List Bool)) → HaveAll (row ∷ rows) clusters
  all rows k lt none = let is = first rows k lt in cc

  -- the last of some rows, and those before it
  last_row : (one : List Bool) (rows : List (List Bool)) → (fewer : List (List Bool)) × (last : List Bool) × (one ∷ rows ≡ fewer ++ last ∷ [])
  last_row one [] = ([], one, refl)
  last_row one (next ∷ rows) = let rest = last_row next rows in (one ∷ rest.0, rest.1, ap (λ r. one ∷ r) rest.2)

  no_other : (rows : List (List Bool)) → ((fewer : List (List Bool)) (last : List Bool) → row ∷ rows ≡ fewer ++ last ∷ [] → HaveAll fewer clusters → ⊥)
      → rows ≡ []
  no_other [] no_more = refl
  no_other (next ∷ rows) no_more =
      let end = last_row next rows in
      absurd (no_more (row ∷ end.0) end.1 (ap (λ r. row ∷ r) end.2) (all end.0))

  pub one_span : (rows : List (List Bool)) → 0 < clusters → AreSpans (font_of (row ∷ rows)) 0 clusters (record { font = 0; start = 0; end = clusters } ∷ [])
  one_span rows some =
      (record { begins = refl; some = some; one_font = λ k le lt. ap font_in (first rows k lt) }, inl refl, refl)

pub alone : (rows : List (List Bool)) (fonts clusters : ℕ) (spans : List Span) → HasFonts rows fonts clusters spans → 0 < clusters → 0 < fonts
    → ((k : ℕ) → k < clusters → has_by (first_row rows) k ≡ true) → IsOneSpan rows clusters spans
alone [] fonts clusters spans are some some_fonts has = absurd (false≢true (has 0 some))
alone (row ∷ rows) fonts clusters spans are some some_fonts has =
    let none = no_other row clusters has rows are.no_more in
    record {
      one_tried = ap (λ r. length (row ∷ r)) none;
      is = AreSpans-unique (font_of (row ∷ rows)) clusters 0 spans _ are.spans_of (one_span row clusters has rows some);
    }
