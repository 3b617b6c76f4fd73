-- The forms of letters: the glyph of a presentation form in place of that of its letter.
use Rattle.std.specs.Prelude.{ℕ, true, Option, Some, None, ◌==◌, ◌&&◌, not, nat_le, List, [], ◌∷◌, ◌++◌, fold, find, if◌then◌else◌}
use Rattle.std.specs.Option.{option_map, option_map_or, option_and_then}
use Rattle.shape_common.specs.Face.{FaceMeaning}
use Rattle.shape_items.specs.Buffer.{Buffer}
use Rattle.shape_items.specs.Items.{Item}
use Rattle.shape_buffer.specs.Walks.{items_mapped}
use Rattle.arabic_fallback.specs.Replaced.{replaced}
use Rattle.arabic_fallback.specs.Seeking.{is_on}
use Rattle.arabic_fallback.specs.declared.classes.GlyphClass.{GlyphClass}
use Rattle.arabic_fallback.specs.declared.forms.Form.{Form}
use Rattle.arabic_fallback.specs.declared.forms.Form.TheVariants as is
use Rattle.arabic_fallback.specs.declared.forms.FormGlyphs.{FormGlyphs}
use Rattle.arabic_fallback.specs.declared.replaced.NewGlyph.{NewGlyph}
use Rattle.arabic_fallback.specs.declared.seeking.Rule.{Rule}
use Rattle.arabic_fallback.specs.declared.tables.TheConstants.{FORMS}

-- a letter, and its initial, medial, final and isolated form
abbrev pub Row : Type 0
Row = ℕ × ℕ × ℕ × ℕ × ℕ

abbrev pub form_in : Row → Form → ℕ
form_in row is.Init = row.1
form_in row is.Medi = row.2
form_in row is.Fina = row.3
form_in row is.Isol = row.4

-- the glyph of a character; U+0000 stands for none
abbrev pub glyph_of : FaceMeaning → ℕ → Option ℕ
glyph_of face c = if c == 0 then None else option_map (λ g. g.0) (face.nominal_glyph c)

-- two glyphs that differ, of numbers of 16 bits
abbrev pub both_of : ℕ → ℕ → Option (ℕ × ℕ)
both_of letter form =
    if not (letter == form) && nat_le letter 0xFFFF && nat_le form 0xFFFF then Some (letter, form) else None

abbrev pub pair_of : FaceMeaning → Form → Row → Option (ℕ × ℕ)
pair_of face form row =
    option_and_then (λ letter. option_and_then (both_of letter) (glyph_of face (form_in row form))) (glyph_of face row.0)

abbrev pub row_of : (ℕ → Option GlyphClass) → ℕ × ℕ → FormGlyphs
row_of classes (letter, glyph) = record { letter = letter; form = record { glyph = glyph; class = classes glyph } }

abbrev pub with_form : FaceMeaning → (ℕ → Option GlyphClass) → Form → List FormGlyphs → Row → List FormGlyphs
with_form face classes form rows row = option_map_or (λ p. rows ++ row_of classes p ∷ []) (pair_of face form row) rows

abbrev pub form_rows : FaceMeaning → (ℕ → Option GlyphClass) → Form → List Row → List FormGlyphs
form_rows face classes form table = fold (with_form face classes form) [] table

abbrev pub listed : List FormGlyphs → ℕ → Option NewGlyph
listed rows glyph = option_map (λ (row : FormGlyphs). row.form) (find (λ (row : FormGlyphs). row.letter == glyph) rows)

-- an item with its form, if the lookup is on for it
abbrev pub formed : Rule → List FormGlyphs → Item → Item
formed rule rows item =
    if is_on rule item then option_map_or (λ form. replaced form None item) (listed rows item.glyph_id) item else item

abbrev pub put_forms : Rule → List FormGlyphs → Buffer → Buffer
put_forms rule rows = items_mapped (formed rule rows)

-- marks keep their glyphs
unfoldable pub formed_by : FaceMeaning → (ℕ → Option GlyphClass) → Form → ℕ → Buffer → Buffer
formed_by face classes form mask = put_forms (record { mask = mask; ignores_marks = true }) (form_rows face classes form FORMS)
