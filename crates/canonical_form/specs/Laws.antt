-- What the crate proves of equivalence, of choices, of order and of recomposing, for all decompositions whose heights
-- fall.
use Rattle.std.specs.Prelude.{◌≡◌, ℕ, ◌<◌, ◌⊎◌, ◌↔◌, Bool, true, false, ◌==◌, List, [], ◌∷◌, ◌++◌, Option, Some}
use Rattle.std.specs.Ordering.{nat_cmp}
use Rattle.std.specs.List.{All, list_all}
use Rattle.std.specs.List.Sorted.{IsNonDecreasingBy, IsStableByKey}
use Rattle.canonical_form.specs.Chain.{FallsAlong, full, full_text, IsFull}
use Rattle.canonical_form.specs.Decompositions.{Decompositions}
use Rattle.canonical_form.specs.Choice.{IsGreatestSupported, IsLeastSupported, HasNoneSupported, HasGlyphOrIs}
use Rattle.canonical_form.specs.Equivalent.{IsEquivalent, IsCanonical, ComposesSoundly}
use Rattle.canonical_form.specs.Expansion.{expansion, choice}
use Rattle.canonical_form.specs.Expanded.{begins_with_mark, expanded_in_sequences, expanded_text}
use Rattle.canonical_form.specs.Order.{in_order, Swaps, IsOrdered, IsPutInOrder}
use Rattle.canonical_form.specs.Recompose.{is_blocked, is_blocked_by_last, is_blocked_by_greatest, compose_with_glyph, recomposed}
use Rattle.canonical_form.specs.Runs.{AreRunsSettled, HasNoLongerRun}
use Rattle.canonical_form.specs.SplitsFall.{SplitsFall}

-- a law of all decompositions whose heights fall and whose marks keep their ccc
abbrev pub ForLawfulSplits : (Decompositions → Type 0) → Type 0
ForLawfulSplits Law = (D : Decompositions) → SplitsFall D → Law D

-- ---- Full

abbrev pub FullIsByTwoRules : Type 0
FullIsByTwoRules =
    (D : Decompositions) → FallsAlong D.split D.height → (c : ℕ) (parts : List ℕ) → IsFull D.split c parts ↔ (parts ≡ full D c)

-- ---- equivalence, whatever the decompositions

abbrev pub EquivalenceIsReflexive : Type 0
EquivalenceIsReflexive = (D : Decompositions) (s : List ℕ) → IsEquivalent D s s

abbrev pub EquivalenceIsSymmetric : Type 0
EquivalenceIsSymmetric =
    (D : Decompositions) (s t : List ℕ) → IsEquivalent D s t → IsEquivalent D t s

abbrev pub EquivalenceIsTransitive : Type 0
EquivalenceIsTransitive =
    (D : Decompositions) (s t u : List ℕ)
    → IsEquivalent D s t → IsEquivalent D t u → IsEquivalent D s u

-- ---- expansions and choices

abbrev pub ExpansionIsEquivalent : Type 0
ExpansionIsEquivalent = ForLawfulSplits (λ D.
    (k c : ℕ) (parts : List ℕ) → expansion D.split k c ≡ Some parts → IsEquivalent D (c ∷ []) parts)

abbrev pub ChoicesAreEquivalent : Type 0
ChoicesAreEquivalent = ForLawfulSplits (λ D.
    (has_glyph is_mark : ℕ → Bool) (short : Bool → Bool) (text : List ℕ)
    → IsEquivalent D text (expanded_text D has_glyph is_mark short text))

abbrev pub ChoiceIsGreatest : Type 0
ChoiceIsGreatest =
    (D : Decompositions) → FallsAlong D.split D.height → (has_glyph : ℕ → Bool) (c : ℕ)
    → IsGreatestSupported D.split has_glyph c (choice D has_glyph false c)
    ⊎ (HasNoneSupported D.split has_glyph c × (choice D has_glyph false c ≡ c ∷ []))

abbrev pub ChoiceIsLeast : Type 0
ChoiceIsLeast =
    (D : Decompositions) → FallsAlong D.split D.height → (has_glyph : ℕ → Bool) (c : ℕ) → has_glyph c ≡ false
    → IsLeastSupported D.split has_glyph c (choice D has_glyph true c)
    ⊎ (HasNoneSupported D.split has_glyph c × (choice D has_glyph true c ≡ c ∷ []))

abbrev pub ChoiceStays : Type 0
ChoiceStays =
    (D : Decompositions) (has_glyph : ℕ → Bool) (c : ℕ) → has_glyph c ≡ true → choice D has_glyph true c ≡ c ∷ []

abbrev pub ChoiceBringsGlyphs : Type 0
ChoiceBringsGlyphs =
    (D : Decompositions) (has_glyph : ℕ → Bool) (short : Bool) (c : ℕ)
    → All (HasGlyphOrIs has_glyph c) (choice D has_glyph short c)

abbrev pub ChoiceIsFull : Type 0
ChoiceIsFull =
    (D : Decompositions) → FallsAlong D.split D.height → (has_glyph : ℕ → Bool) (c : ℕ)
    → list_all has_glyph (full D c) ≡ true → choice D has_glyph false c ≡ full D c

-- ---- order, of anything that has a ccc

abbrev pub StableOrderIsReached : Type 0 → Type 0
StableOrderIsReached A =
    (ccc : A → ℕ) (run new : List A) → All (λ x. 0 < ccc x) run → IsNonDecreasingBy ccc new → IsStableByKey ccc nat_cmp run new
    → IsPutInOrder ccc run new

abbrev pub OrderIsReached : Type 0 → Type 0
OrderIsReached A = (ccc : A → ℕ) (xs : List A) → IsPutInOrder ccc xs (in_order ccc xs)

abbrev pub OrderIsUnique : Type 0 → Type 0
OrderIsUnique A = (ccc : A → ℕ) (xs ys : List A) → IsOrdered ccc xs → IsOrdered ccc ys → Swaps ccc xs ys → xs ≡ ys

abbrev pub SettledIsReached : Type 0 → Type 0
SettledIsReached A = (ccc : A → ℕ) (limit : ℕ) (old new : List A) → AreRunsSettled ccc limit [] old new → Swaps ccc old new

abbrev pub SettledIsOrdered : Type 0 → Type 0
SettledIsOrdered A =
    (ccc : A → ℕ) (limit : ℕ) (old new : List A) → HasNoLongerRun ccc limit old → AreRunsSettled ccc limit [] old new
    → IsOrdered ccc new

abbrev pub SettledIsUnique : Type 0 → Type 0
SettledIsUnique A =
    (ccc : A → ℕ) (limit : ℕ) (old new other : List A) → AreRunsSettled ccc limit [] old new
    → AreRunsSettled ccc limit [] old other → new ≡ other

-- ---- canonical form

abbrev pub CanonicalIsUnique : Type 0
CanonicalIsUnique =
    (D : Decompositions) → FallsAlong D.split D.height → (s t : List ℕ)
    → IsCanonical D s → IsCanonical D t → IsEquivalent D s t → s ≡ t

-- a text with a glyph for each character of its Full, and no run of marks in it that is longer than the limit
pub record IsWhollySupported (D : Decompositions) (has_glyph : ℕ → Bool) (limit : ℕ) (text : List ℕ) : Type 0 where
  pub glyphs : list_all has_glyph (full_text D text) ≡ true
  pub fits : HasNoLongerRun D.ccc limit (full_text D text)

-- what expanding by the greatest choice and settling the runs leave
abbrev pub IsDecomposed : Decompositions → (ℕ → Bool) → (ℕ → Bool) → ℕ → List ℕ → List ℕ → Type 0
IsDecomposed D has_glyph is_mark limit text new =
    AreRunsSettled D.ccc limit [] (expanded_text D has_glyph is_mark (λ with_marks. false) text) new

abbrev pub DecomposedIsCanonical : Type 0
DecomposedIsCanonical = ForLawfulSplits (λ D.
    (has_glyph is_mark : ℕ → Bool) (limit : ℕ) (text new : List ℕ) → IsWhollySupported D has_glyph limit text
    → IsDecomposed D has_glyph is_mark limit text new → IsCanonical D new)

abbrev pub DecomposedDecides : Type 0
DecomposedDecides = ForLawfulSplits (λ D.
    (has_glyph is_mark : ℕ → Bool) (limit : ℕ) (s new t other : List ℕ)
    → IsWhollySupported D has_glyph limit s → IsWhollySupported D has_glyph limit t
    → IsDecomposed D has_glyph is_mark limit s new → IsDecomposed D has_glyph is_mark limit t other
    → (new ≡ other) ↔ IsEquivalent D s t)

-- ---- recomposing

abbrev pub RecomposedIsEquivalent : Type 0
RecomposedIsEquivalent = ForLawfulSplits (λ D.
    (compose : ℕ → ℕ → Option ℕ) → ComposesSoundly D compose → (is_mark : ℕ → Bool) (text : List ℕ)
    → IsEquivalent D text (recomposed D.ccc (is_blocked D.ccc) is_mark compose text))

abbrev pub ComposedPastMarksIsEquivalent : Type 0
ComposedPastMarksIsEquivalent = ForLawfulSplits (λ D.
    (compose : ℕ → ℕ → Option ℕ) → ComposesSoundly D compose → (s c d : ℕ) (marks rest : List ℕ)
    → is_blocked D.ccc marks c ≡ false → compose s c ≡ Some d → IsEquivalent D (s ∷ marks ++ c ∷ rest) (d ∷ marks ++ rest))

abbrev pub LastDecides : Type 0 → Type 0
LastDecides A =
    (ccc : A → ℕ) (is_mark : A → Bool) (compose : A → A → Option A) (xs : List A) → IsOrdered ccc xs
    → recomposed ccc (is_blocked ccc) is_mark compose xs ≡ recomposed ccc (is_blocked_by_last ccc) is_mark compose xs

abbrev pub GreatestDecides : Type 0 → Type 0
GreatestDecides A =
    (ccc : A → ℕ) (is_mark : A → Bool) (compose : A → A → Option A) (xs : List A)
    → recomposed ccc (is_blocked ccc) is_mark compose xs ≡ recomposed ccc (is_blocked_by_greatest ccc) is_mark compose xs

abbrev pub RecomposedDecides : Type 0
RecomposedDecides = ForLawfulSplits (λ D.
    (compose : ℕ → ℕ → Option ℕ) → ComposesSoundly D compose → (is_mark has_glyph : ℕ → Bool) (limit : ℕ) (s new t other : List ℕ)
    → IsWhollySupported D has_glyph limit s → IsWhollySupported D has_glyph limit t
    → IsDecomposed D has_glyph is_mark limit s new → IsDecomposed D has_glyph is_mark limit t other
    → (recomposed D.ccc (is_blocked D.ccc) is_mark compose new ≡ recomposed D.ccc (is_blocked D.ccc) is_mark compose other)
    ↔ IsEquivalent D s t)

-- in every mode: whether the shortest choices are asked of all characters, of those that stand by themselves or of none
abbrev pub OrderedIsEquivalent : Type 0
OrderedIsEquivalent = ForLawfulSplits (λ D.
    (has_glyph is_mark : ℕ → Bool) (short : Bool → Bool) (limit : ℕ) (text new : List ℕ)
    → AreRunsSettled D.ccc limit [] (expanded_text D has_glyph is_mark short text) new → IsEquivalent D text new)

abbrev pub NormalisedIsEquivalent : Type 0
NormalisedIsEquivalent = ForLawfulSplits (λ D.
    (compose : ℕ → ℕ → Option ℕ) → ComposesSoundly D compose
    → (has_glyph is_mark : ℕ → Bool) (short : Bool → Bool) (limit : ℕ) (text new : List ℕ)
    → AreRunsSettled D.ccc limit [] (expanded_text D has_glyph is_mark short text) new
    → IsEquivalent D text (recomposed D.ccc (is_blocked D.ccc) is_mark (compose_with_glyph compose has_glyph) new))

-- ---- cutting

-- the list is cut before an item that is no mark
abbrev pub ExpandedCutsApart : Type 0 → Type 0
ExpandedCutsApart A =
    (is_mark : A → Bool) (become : Bool → A → List A) (s t : List A) → begins_with_mark is_mark t ≡ false
    → expanded_in_sequences is_mark become (s ++ t)
    ≡ expanded_in_sequences is_mark become s ++ expanded_in_sequences is_mark become t

-- what comes after the cut begins with an item of ccc 0 that is no mark
abbrev pub SettledCutsApart : Type 0 → Type 0
SettledCutsApart A =
    (ccc : A → ℕ) (limit : ℕ) (blocks : List A → A → Bool) (is_mark : A → Bool) (compose : A → A → Option A)
    (front back : List A) (c : A) (rest new other : List A) → back ≡ c ∷ rest → is_mark c ≡ false → (ccc c == 0) ≡ true
    → AreRunsSettled ccc limit [] front new → AreRunsSettled ccc limit [] back other
    → AreRunsSettled ccc limit [] (front ++ back) (new ++ other)
    × (recomposed ccc blocks is_mark compose (new ++ other)
    ≡ recomposed ccc blocks is_mark compose new ++ recomposed ccc blocks is_mark compose other)
