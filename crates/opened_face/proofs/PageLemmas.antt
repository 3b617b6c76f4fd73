-- what pages and their index make together
use Rattle.std.proofs.Common.{◌≡◌, ◌<◌, ◌+◌, ◌*◌, ◌/◌, ◌%◌, ℕ, List, length, slice_index, ◌∙◌, ap, arith}
use Rattle.shape_font.specs.Cmap.{mapped_glyph}
use Rattle.shape_font.specs.declared.face.FontFace.{FontFace}
use Rattle.opened_face.specs.Pages.{IsIndexOf, glyph_in, AreGlyphsOf, AreStored}

-- a character's page, found by the index, has its glyph
pub stored : (f : FontFace) (pages index glyphs : List ℕ) → IsIndexOf pages index → AreGlyphsOf f pages glyphs
    → length glyphs ≡ 256 * length pages → AreStored f index glyphs
unfolding glyph_in
stored f pages index glyphs is_index filled all c in_index in_glyphs =
    let place : ℕ = slice_index index (c / 256) in
    let there : place < length pages = omega (arith, in_glyphs, all) in
    let page : slice_index pages place ≡ c / 256 = is_index (c / 256) in_index there in
    let quotient : (256 * place + c % 256) / 256 ≡ place = omega arith in
    let rest : (256 * place + c % 256) % 256 ≡ c % 256 = omega arith in
    let whole : 256 * (c / 256) + c % 256 ≡ c = omega arith in
    let same : 256 * slice_index pages ((256 * place + c % 256) / 256) + (256 * place + c % 256) % 256 ≡ c =
    rw (quotient, rest, page) whole in
    filled (256 * place + c % 256) in_glyphs ∙ ap (mapped_glyph f.cmap.now f.font_page) same
