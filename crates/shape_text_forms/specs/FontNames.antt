-- names of glyphs as text
use Rattle.std.specs.Prelude.{ℕ, List, Option, Some, None, take, if◌then◌else◌}
use Rattle.std.specs.Option.{option_and_then}
use Rattle.std.specs.Str.{is_utf8}
use Rattle.shape_font.specs.Face.{name_of_glyph}
use Rattle.shape_font.specs.declared.face.FontFace.{FontFace}

-- bytes as text, if they are UTF-8
abbrev pub text_of : List ℕ → Option (List ℕ)
text_of bytes = if is_utf8 bytes then Some bytes else None

-- 127 bytes are written of a name, as by `hb-shape`
abbrev pub cut_name : List ℕ → List ℕ
cut_name name = take 127 name

-- what is written of a name, if that is text
abbrev pub written : Option (List ℕ) → Option (List ℕ)
written name = option_and_then (λ bytes. text_of (cut_name bytes)) name

-- what is written of the name of a glyph, by `post` or `CFF `
abbrev pub written_name : FontFace → ℕ → Option (List ℕ)
written_name face glyph = written (name_of_glyph face glyph)
