-- Spans are decided by the fonts of their clusters.
use Rattle.std.proofs.Common.{◌≡◌, ◌≢◌, ◌⊎◌, ℕ, ◌<◌, ◌≤◌, List, [], ◌∷◌, refl, sym, ap, subst, ◌∙◌, arith, inl, inr}
use Rattle.std.proofs.lemmas.Bool.{cases_lt}
use Rattle.font_fallback.specs.Choice.{AreSpans, IsSpan}
use Rattle.font_fallback.specs.Laws.{InNone, IsInOne}
use Rattle.font_fallback.specs.declared.spans.Span.{Span}

module _ (font_at : ℕ → ℕ) (end : ℕ) where
  -- spans end where they are to, past their start
  spans_within : (start : ℕ) (spans : List Span) → AreSpans font_at start end spans → start ≤ end
  spans_within start [] e = omega arith
  spans_within start (span ∷ spans) are =
      let some = are.0.some in
      let later = spans_within span.end spans are.2 in
      omega arith

  -- a span ends no later than another that begins where it does
  ends_by : (start : ℕ) (one other : Span) → IsSpan font_at start one → IsSpan font_at start other → one.end ≤ end
      → (other.end ≡ end) ⊎ (font_at other.end ≢ other.font) → one.end ≤ other.end
  ends_by start one other is_one is_other within ends = elim ends [
    | inl last ↦ omega (arith, last)
    | inr differs ↦ elim (cases_lt other.end one.end) [
      | inr le ↦ le
      | inl shorter ↦
          let some = is_other.some in
          let begun = is_one.some in
          let here : font_at other.end ≡ one.font = is_one.one_font other.end (omega arith) shorter in
          let first : font_at start ≡ one.font = is_one.one_font start (omega arith) begun in
          let first_other : font_at start ≡ other.font = is_other.one_font start (omega arith) some in
          absurd (differs (here ∙ sym first ∙ first_other))
    ]
  ]

  same_span : (start : ℕ) (one other : Span) → IsSpan font_at start one → IsSpan font_at start other → one.end ≡ other.end → one ≡ other
  same_span start one other is_one is_other ends =
      let some = is_one.some in
      let some_other = is_other.some in
      let font : one.font ≡ other.font =
      sym (is_one.one_font start (omega arith) some) ∙ is_other.one_font start (omega arith) some_other in
      let begin : one.start ≡ other.start = is_one.begins ∙ sym is_other.begins in
      let made : ℕ → ℕ → ℕ → Span = λ f s e. record { font = f; start = s; end = e } in
      ap (λ f. made f one.start one.end) font ∙ ap (λ s. made other.font s one.end) begin ∙ ap (made other.font other.start) ends

  pub AreSpans-unique : (start : ℕ) (one other : List Span) → AreSpans font_at start end one → AreSpans font_at start end other → one ≡ other
  AreSpans-unique start [] [] e f = refl
  AreSpans-unique start [] (span ∷ spans) e are =
      let some = are.0.some in
      let later = spans_within span.end spans are.2 in
      absurd (omega arith)
  AreSpans-unique start (span ∷ spans) [] are e =
      let some = are.0.some in
      let later = spans_within span.end spans are.2 in
      absurd (omega arith)
  AreSpans-unique start (one ∷ ones) (other ∷ others) are are_other =
      let within = spans_within one.end ones are.2 in
      let within_other = spans_within other.end others are_other.2 in
      let le : one.end ≤ other.end = ends_by start one other are.0 are_other.0 within are_other.1 in
      let ge : other.end ≤ one.end = ends_by start other one are_other.0 are.0 within_other are.1 in
      let ends : one.end ≡ other.end = omega arith in
      let rest = AreSpans-unique other.end ones others (subst (λ e. AreSpans font_at e end ones) ends are.2) are_other.2 in
      ap (λ s. s ∷ ones) (same_span start one other are.0 are_other.0 ends) ∙ ap (λ rest. other ∷ rest) rest

  -- spans after a cluster don't hold it
  InNone-before : (start : ℕ) (spans : List Span) → AreSpans font_at start end spans → (k : ℕ) → k < start → InNone spans k
  InNone-before start [] e k lt = tt
  InNone-before start (span ∷ spans) are k lt =
      let begins = are.0.begins in
      let some = are.0.some in
      (λ holds. omega (arith, holds.0), InNone-before span.end spans are.2 k (omega arith))

  pub IsInOne-from_spans : (start : ℕ) (spans : List Span) → AreSpans font_at start end spans → (k : ℕ) → start ≤ k → k < end
      → IsInOne spans k (font_at k)
  IsInOne-from_spans start [] e k le lt = absurd (omega arith)
  IsInOne-from_spans start (span ∷ spans) are k le lt =
      let begins = are.0.begins in
      elim (cases_lt k span.end) [
        | inl here ↦ inl ((omega arith, here), sym (are.0.one_font k le here), InNone-before span.end spans are.2 k here)
        | inr later ↦ inr (λ holds. omega (arith, holds.1), IsInOne-from_spans span.end spans are.2 k later lt)
      ]

-- spans of the same fonts
pub AreSpans-along : (f g : ℕ → ℕ) (end start : ℕ) (spans : List Span) → ((k : ℕ) → k < end → f k ≡ g k) → AreSpans f start end spans
    → AreSpans g start end spans
AreSpans-along f g end start [] same e = e
AreSpans-along f g end start (span ∷ spans) same are =
    let within = spans_within f end span.end spans are.2 in
    let is : IsSpan g start span =
    record { begins = are.0.begins; some = are.0.some; one_font = λ k le lt. sym (same k (omega arith)) ∙ are.0.one_font k le lt } in
    (is, end_along are.1 within, AreSpans-along f g end span.end spans same are.2)
  where
    end_along : (span.end ≡ end) ⊎ (f span.end ≢ span.font) → span.end ≤ end → (span.end ≡ end) ⊎ (g span.end ≢ span.font)
    end_along (inl last) within = inl last
    end_along (inr differs) within = elim (cases_lt span.end end) [
      | inl inside ↦ inr (λ e. differs (same span.end inside ∙ e))
      | inr past ↦ inl (omega arith)
    ]
