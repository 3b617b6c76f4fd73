-- Tables of a small font, as the standard lays them out.
use Rattle.std.specs.Prelude.{ℕ, ◌/◌, ◌%◌, List, [], ◌∷◌, ◌++◌}

abbrev pub words : List ℕ → List ℕ
words [] = []
words (w ∷ ws) = w / 256 ∷ w % 256 ∷ words ws

-- script `latn`, whose default language system lists the feature `liga` with lookup 0, which is of type 1, skips marks, has no
-- subtable and stands at byte 48; the word after it would be its set of marks
abbrev pub gsub : List ℕ
gsub = words (1 ∷ 0 ∷ 10 ∷ 30 ∷ 44 ∷ [])
    ++ words (1 ∷ 0x6C61 ∷ 0x746E ∷ 8 ∷ 4 ∷ 0 ∷ 0 ∷ 0xFFFF ∷ 1 ∷ 0 ∷ [])
    ++ words (1 ∷ 0x6C69 ∷ 0x6761 ∷ 8 ∷ 0 ∷ 1 ∷ 0 ∷ [])
    ++ words (1 ∷ 4 ∷ 1 ∷ 8 ∷ 0 ∷ 7 ∷ [])

-- the same with two lookups of `liga`: glyph 5 for another one, and the ligature of glyphs 5 and 6
abbrev pub gsub_of_two : List ℕ
gsub_of_two = words (1 ∷ 0 ∷ 10 ∷ 30 ∷ 46 ∷ [])
    ++ words (1 ∷ 0x6C61 ∷ 0x746E ∷ 8 ∷ 4 ∷ 0 ∷ 0 ∷ 0xFFFF ∷ 1 ∷ 0 ∷ [])
    ++ words (1 ∷ 0x6C69 ∷ 0x6761 ∷ 8 ∷ 0 ∷ 2 ∷ 0 ∷ 1 ∷ [])
    ++ words (2 ∷ 6 ∷ 26 ∷ 1 ∷ 0 ∷ 1 ∷ 8 ∷ 1 ∷ 6 ∷ 1 ∷ 1 ∷ 1 ∷ 5 ∷ [])
    ++ words (4 ∷ 0 ∷ 1 ∷ 8 ∷ 1 ∷ 8 ∷ 1 ∷ 14 ∷ 1 ∷ 1 ∷ 5 ∷ 1 ∷ 4 ∷ 50 ∷ 2 ∷ 6 ∷ [])

-- glyph 5 is a base, glyph 6 a mark of attachment class 2
abbrev pub gdef : List ℕ
gdef = words (1 ∷ 0 ∷ 12 ∷ 0 ∷ 0 ∷ 22 ∷ 1 ∷ 5 ∷ 2 ∷ 1 ∷ 3 ∷ 1 ∷ 6 ∷ 1 ∷ 2 ∷ [])

-- one subtable, of format 1, which OpenType's version hasn't
abbrev pub kern : List ℕ
kern = words (0 ∷ 1 ∷ 0 ∷ 6 ∷ 0x0100 ∷ [])

-- a font of one table, `head`, of 20 bytes at byte 28, whose last word has the units of the em square
abbrev pub font : List ℕ
font = words (1 ∷ 0 ∷ 1 ∷ 0 ∷ 0 ∷ 0 ∷ 0x6865 ∷ 0x6164 ∷ 0 ∷ 0 ∷ 0 ∷ 28 ∷ 0 ∷ 20 ∷ [])
    ++ words (1 ∷ 0 ∷ 0 ∷ 0 ∷ 0 ∷ 0 ∷ 0 ∷ 0 ∷ 0 ∷ 1000 ∷ [])
