-- The whole of the fallback: forms first, then ligatures.
use Rattle.std.specs.Prelude.{ℕ, true, false, Option, List}
use Rattle.shape_common.specs.Face.{FaceMeaning}
use Rattle.shape_items.specs.Buffer.{Buffer}
use Rattle.arabic_fallback.specs.Forms.{formed_by}
use Rattle.arabic_fallback.specs.Ligating.{ligated}
use Rattle.arabic_fallback.specs.Ligatures.{Row, ligature_rows}
use Rattle.arabic_fallback.specs.declared.classes.GlyphClass.{GlyphClass}
use Rattle.arabic_fallback.specs.declared.fallback.FallbackMasks.{FallbackMasks}
use Rattle.arabic_fallback.specs.declared.forms.Form.TheVariants.{Init, Medi, Fina, Isol}
use Rattle.arabic_fallback.specs.declared.seeking.Rule.{Rule}
use Rattle.arabic_fallback.specs.declared.tables.TheConstants.{TRIPLES, PAIRS, MARKS}

unfoldable pub ligated_by : FaceMeaning → (ℕ → Option GlyphClass) → Rule → List Row → Buffer → Buffer
ligated_by face classes rule table = ligated rule (ligature_rows face classes table)

-- the order in which HarfBuzz does them
abbrev pub all_formed : FaceMeaning → (ℕ → Option GlyphClass) → FallbackMasks → Buffer → Buffer
all_formed face classes masks b =
    formed_by face classes Isol masks.isol (formed_by face classes Fina masks.fina (formed_by face classes Medi masks.medi
    (formed_by face classes Init masks.init b)))

-- of letters, over marks, then of marks
abbrev pub all_ligated : FaceMeaning → (ℕ → Option GlyphClass) → ℕ → Buffer → Buffer
all_ligated face classes mask b =
    ligated_by face classes (record { mask = mask; ignores_marks = false }) MARKS
    (ligated_by face classes (record { mask = mask; ignores_marks = true }) PAIRS
    (ligated_by face classes (record { mask = mask; ignores_marks = true }) TRIPLES b))

abbrev pub fallback_shaped : FaceMeaning → (ℕ → Option GlyphClass) → FallbackMasks → Buffer → Buffer
fallback_shaped face classes masks b = all_ligated face classes masks.rlig (all_formed face classes masks b)
