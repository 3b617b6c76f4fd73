-- Lemmas on fallback spaces.
use Rattle.std.proofs.Common.{◌≡◌, ℕ, ◌+◌, ◌<◌, ◌≤◌, true, List, ◌∷◌, length, get_or, drop, ap, sym, ◌∙◌, arith}
use Rattle.std.specs.Prelude.{Option, Some, None}
use Rattle.std.specs.Option.{option_or}
use Rattle.std.proofs.lemmas.Bool.Decides.{nat_tests}
use Rattle.std.proofs.lemmas.List.{drop_more, drop_all}
use Rattle.shape_common.specs.Face.{FaceMeaning}
use Rattle.shape_common.specs.declared.text_types.GlyphId.{GlyphId}
use Rattle.shape_fallback.specs.Spaces.{first_glyph, is_em_fraction}

-- a part of the em square is named by a number that isn't 0
pub em_fraction-positive : (t : ℕ) → is_em_fraction t ≡ true → 0 < t
unfolding is_em_fraction
em_fraction-positive t part = grind (arith, nat_tests)

-- the first of some characters from place i on
first-from : (face : FaceMeaning) (cs : List ℕ) (i c : ℕ) → i < length cs → c ≡ get_or cs i c
    → first_glyph face (drop i cs) ≡ option_or (face.nominal_glyph c) (first_glyph face (drop (i + 1) cs))
unfolding first_glyph
first-from face cs i c within is =
    ap (first_glyph face) (drop_more cs i c within ∙ ap (λ (d : ℕ). d ∷ drop (i + 1) cs) (sym is))

-- it has a glyph
pub first-found : (face : FaceMeaning) (cs : List ℕ) (i c : ℕ) (glyph : GlyphId) → i < length cs → c ≡ get_or cs i c
    → face.nominal_glyph c ≡ Some glyph → first_glyph face (drop i cs) ≡ Some glyph
first-found face cs i c glyph within is has =
    first-from face cs i c within is ∙ ap (λ (o : Option GlyphId). option_or o (first_glyph face (drop (i + 1) cs))) has

-- it has none
pub first-skipped : (face : FaceMeaning) (cs : List ℕ) (i c : ℕ) → i < length cs → c ≡ get_or cs i c
    → face.nominal_glyph c ≡ None → first_glyph face (drop i cs) ≡ first_glyph face (drop (i + 1) cs)
first-skipped face cs i c within is has =
    first-from face cs i c within is ∙ ap (λ (o : Option GlyphId). option_or o (first_glyph face (drop (i + 1) cs))) has

-- no character is left
pub first-none : (face : FaceMeaning) (cs : List ℕ) (i : ℕ) → length cs ≤ i → first_glyph face (drop i cs) ≡ None
unfolding first_glyph
first-none face cs i over = ap (first_glyph face) (drop_all i cs over)
