-- The laws in the form in which they are stated.
use Rattle.std.proofs.Common.{◌≡◌, ℕ, zero, suc, ◌≤◌, ◌⊎◌, List, [], ◌∷◌, Option, Some, None, unwrap_or, refl, sym, ap, subst, ◌∙◌, arith, inl, inr, append-nil}
use Rattle.std.proofs.lemmas.Bool.{cond-true, cond-false}
use Rattle.canonical_form.proofs.Expanding.ChainLemmas.{IsFull-full, full-stays, full-splits}
use Rattle.canonical_form.proofs.Expanding.ChoiceLemmas.{greatest_none, greatest_found, least_none, least_found, full_text-expansion, full_text-expanded}
use Rattle.canonical_form.proofs.NormaliseLemmas.{sound_with_glyph, equivalent_settled, equivalent_normalised, canonical_settled, settled_equal_iff, recomposed_equal_iff, equivalent_recomposed}
use Rattle.canonical_form.proofs.Ordering.SwapLemmas.{no_swap}
use Rattle.canonical_form.specs.Chain.{FallsAlong, full, full_text, IsFull, stays, splits_into}
use Rattle.canonical_form.specs.Decompositions.{Decompositions}
use Rattle.canonical_form.specs.Choice.{IsGreatestSupported, IsLeastSupported, HasNoneSupported}
use Rattle.canonical_form.specs.Expansion.{least_supported, greatest_supported}
use Rattle.canonical_form.specs.Recompose.{compose_with_glyph}
use Rattle.canonical_form.specs.Laws.{FullIsByTwoRules, ExpansionIsEquivalent, ChoicesAreEquivalent, ChoiceIsGreatest, ChoiceIsLeast, ChoiceStays}
use Rattle.canonical_form.specs.Laws.{DecomposedIsCanonical, DecomposedDecides, RecomposedIsEquivalent, RecomposedDecides, OrderedIsEquivalent}
use Rattle.canonical_form.specs.Laws.{NormalisedIsEquivalent}

full_within_rules : (D : Decompositions) → FallsAlong D.split D.height → (n c : ℕ) → D.height c ≤ n → IsFull D.split c (full D c)
full_within_rules D falling zero c low = go (D.split c) refl
  where
    go : (o : Option (ℕ × ℕ)) → D.split c ≡ o → IsFull D.split c (full D c)
    go None e = subst (IsFull D.split c) (sym (full-stays D falling c e)) (stays e)
    go (Some p) e = absurd (omega (arith, falling.falls c p.0 p.1 e))
full_within_rules D falling (suc n) c low = go (D.split c) refl (λ a. full_within_rules D falling n a)
  where
    go : (o : Option (ℕ × ℕ)) → D.split c ≡ o → ((a : ℕ) → D.height a ≤ n → IsFull D.split a (full D a))
        → IsFull D.split c (full D c)
    go None e later = subst (IsFull D.split c) (sym (full-stays D falling c e)) (stays e)
    go (Some p) e later =
        let falls = falling.falls c p.0 p.1 e in
        subst (IsFull D.split c) (sym (full-splits D falling c p.0 p.1 e)) (splits_into e (later p.0 (omega arith)))

pub full_is_by_two_rules : FullIsByTwoRules
full_is_by_two_rules D falling c parts = (
  λ rules. IsFull-full D falling rules,
  λ same. subst (IsFull D.split c) (sym same) (full_within_rules D falling (D.height c) c (omega arith)),
)

pub expansion_is_equivalent : ExpansionIsEquivalent
unfolding full_text
expansion_is_equivalent D lawful k c parts e =
    no_swap (append-nil (full D c) ∙ sym (full_text-expansion D lawful k c parts e))

pub choices_are_equivalent : ChoicesAreEquivalent
choices_are_equivalent D lawful has_glyph is_mark short text =
    no_swap (sym (full_text-expanded D lawful has_glyph is_mark short text))

pub choice_is_greatest : ChoiceIsGreatest
choice_is_greatest D falling has_glyph c = go (greatest_supported D.split has_glyph (D.height c) c) refl
  where
    go : (o : Option (List ℕ)) → greatest_supported D.split has_glyph (D.height c) c ≡ o
        → IsGreatestSupported D.split has_glyph c (unwrap_or o (c ∷ []))
        ⊎ (HasNoneSupported D.split has_glyph c × (unwrap_or o (c ∷ []) ≡ c ∷ []))
    go None e = inr (greatest_none D has_glyph falling c e, refl)
    go (Some parts) e = inl (greatest_found D has_glyph falling c parts e)

pub choice_is_least : ChoiceIsLeast
choice_is_least D falling has_glyph c lacks =
    subst (λ o. IsLeastSupported D.split has_glyph c (unwrap_or o (c ∷ []))
    ⊎ (HasNoneSupported D.split has_glyph c × (unwrap_or o (c ∷ []) ≡ c ∷ [])))
    (sym (cond-false (has_glyph c) None (least_supported D.split has_glyph (D.height c) c) lacks))
    (go (least_supported D.split has_glyph (D.height c) c) refl)
  where
    go : (o : Option (List ℕ)) → least_supported D.split has_glyph (D.height c) c ≡ o
        → IsLeastSupported D.split has_glyph c (unwrap_or o (c ∷ []))
        ⊎ (HasNoneSupported D.split has_glyph c × (unwrap_or o (c ∷ []) ≡ c ∷ []))
    go None e = inr (least_none D has_glyph falling c e, refl)
    go (Some parts) e = inl (least_found D.split has_glyph (D.height c) c parts e)

pub choice_stays : ChoiceStays
choice_stays D has_glyph c glyph =
    ap (λ o. unwrap_or o (c ∷ [])) (cond-true (has_glyph c) None (least_supported D.split has_glyph (D.height c) c) glyph)

pub decomposed_is_canonical : DecomposedIsCanonical
decomposed_is_canonical = canonical_settled

pub decomposed_decides : DecomposedDecides
decomposed_decides = settled_equal_iff

pub recomposed_is_equivalent : RecomposedIsEquivalent
recomposed_is_equivalent D lawful compose sound is_mark text = equivalent_recomposed D lawful is_mark compose sound text

pub recomposed_decides : RecomposedDecides
recomposed_decides D lawful compose sound is_mark has_glyph limit = recomposed_equal_iff D lawful has_glyph is_mark limit compose sound

pub ordered_is_equivalent : OrderedIsEquivalent
ordered_is_equivalent D lawful has_glyph is_mark short limit text new settled =
    equivalent_settled D lawful limit text _ new (full_text-expanded D lawful has_glyph is_mark short text) settled

pub normalised_is_equivalent : NormalisedIsEquivalent
normalised_is_equivalent D lawful compose sound has_glyph is_mark short limit text new settled =
    equivalent_normalised D lawful is_mark (compose_with_glyph compose has_glyph)
    (sound_with_glyph D compose has_glyph sound) limit text _ new
    (full_text-expanded D lawful has_glyph is_mark short text) settled
