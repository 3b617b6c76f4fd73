-- Ligatures that stand at a place: of those of a table that the face has all glyphs for, the first whose components follow one
-- another.
use Rattle.std.specs.Prelude.{ℕ, Option, Some, None, ◌+◌, ◌==◌, List, [], ◌∷◌, ◌++◌, fold, if◌then◌else◌}
use Rattle.std.specs.Option.{option_map, option_map_or, option_and_then, option_or}
use Rattle.shape_common.specs.Face.{FaceMeaning}
use Rattle.shape_items.specs.Items.{Item}
use Rattle.arabic_fallback.specs.Forms.{glyph_of}
use Rattle.arabic_fallback.specs.Seeking.{nth, place_of, joins}
use Rattle.arabic_fallback.specs.declared.classes.GlyphClass.{GlyphClass}
use Rattle.arabic_fallback.specs.declared.ligatures.Components.{Components}
use Rattle.arabic_fallback.specs.declared.ligatures.LigatureGlyphs.{LigatureGlyphs}
use Rattle.arabic_fallback.specs.declared.ligatures.Found.{Found}
use Rattle.arabic_fallback.specs.declared.seeking.Rule.{Rule}

-- the components of a ligature, U+0000 for no third one, and the ligature
abbrev pub Row : Type 0
Row = ℕ × ℕ × ℕ × ℕ

abbrev pub third_of : FaceMeaning → ℕ → Option (Option ℕ)
third_of face c = if c == 0 then Some None else option_map (λ g. Some g) (glyph_of face c)

abbrev pub glyphs_of : FaceMeaning → Row → Option (Components × ℕ)
glyphs_of face row =
    option_and_then (λ first. option_and_then (λ second. option_and_then (λ third.
    option_map (λ ligature. (record { first = first; second = second; third = third }, ligature)) (glyph_of face row.3))
    (third_of face row.2)) (glyph_of face row.1)) (glyph_of face row.0)

abbrev pub row_of : (ℕ → Option GlyphClass) → Components × ℕ → LigatureGlyphs
row_of classes (components, glyph) = record { components = components; ligature = record { glyph = glyph; class = classes glyph } }

abbrev pub with_ligature : FaceMeaning → (ℕ → Option GlyphClass) → List LigatureGlyphs → Row → List LigatureGlyphs
with_ligature face classes rows row = option_map_or (λ p. rows ++ row_of classes p ∷ []) (glyphs_of face row) rows

abbrev pub ligature_rows : FaceMeaning → (ℕ → Option GlyphClass) → List Row → List LigatureGlyphs
ligature_rows face classes table = fold (with_ligature face classes) [] table

-- a component after a place, if it joins with the first one
abbrev pub component_at : Rule → ℕ → List Item → ℕ → ℕ → Option ℕ
component_at rule glyph items at after =
    option_and_then (λ j. if joins (nth items at) (nth items j) then Some j else None) (place_of rule glyph items (after + 1))

abbrev pub pair_found : LigatureGlyphs → ℕ → Found
pair_found row second = record { second = second; third = None; last = second; ligature = row.ligature }

abbrev pub triple_found : LigatureGlyphs → ℕ → ℕ → Found
triple_found row second third = record { second = second; third = Some third; last = third; ligature = row.ligature }

abbrev pub third_found : Rule → LigatureGlyphs → List Item → ℕ → ℕ → Option ℕ → Option Found
third_found rule row items at second None = Some (pair_found row second)
third_found rule row items at second (Some glyph) = option_map (triple_found row second) (component_at rule glyph items at second)

abbrev pub second_found : Rule → LigatureGlyphs → List Item → ℕ → ℕ → Option Found
second_found rule row items at second = third_found rule row items at second row.components.third

abbrev pub found_by : Rule → LigatureGlyphs → List Item → ℕ → Option Found
found_by rule row items at = if (nth items at).glyph_id == row.components.first
    then option_and_then (second_found rule row items at) (component_at rule row.components.second items at at) else None

-- the first of the list that stands there
abbrev pub found_in : Rule → List LigatureGlyphs → List Item → ℕ → Option Found
found_in rule [] items at = None
found_in rule (row ∷ rows) items at = option_or (found_by rule row items at) (found_in rule rows items at)
