-- A small fixture for worked cases: some characters, with what they split into and compose to, and faces by the
-- characters that they have.
use Rattle.std.specs.Prelude.{ℕ, pos, false, ◌==◌, ◌&&◌, ◌||◌, if◌then◌else◌, List, map, Option, Some, None}
use Rattle.std.specs.List.{find}
use Rattle.std.specs.Option.{option_map}
use Rattle.shape_items.specs.Buffer.{Buffer, new_buffer}
use Rattle.shape_common.specs.Face.{FaceMeaning}
use Rattle.shape_items.specs.Items.{Item, new_item}
use Rattle.shape_common.specs.Positions.{zero_position}
use Rattle.shape_common.specs.Unicode.{UnicodeMeaning}
use Rattle.shape_items.specs.UnicodeProps.{with_unicode_props}
use Rattle.shape_common.specs.declared.general_category.hb_unicode_general_category_t.{hb_unicode_general_category_t}
use Rattle.shape_common.specs.declared.general_category.hb_unicode_general_category_t.TheVariants.{LowercaseLetter, OtherLetter, OtherSymbol}
use Rattle.shape_common.specs.declared.general_category.hb_unicode_general_category_t.TheVariants.{NonspacingMark, EnclosingMark, SpaceSeparator}
use Rattle.shape_plan.specs.Rules.{Rules, goes_short, mode_recomposes}
use Rattle.shape_plan.specs.Worked.Faces.{bare_face}

-- U+20DD encloses and has ccc 0, and so has the selector U+FE00; U+E001 is U+0061 enclosed, a symbol that is ignorable;
-- the rest are letters
abbrev pub fixture_category : ℕ → hb_unicode_general_category_t
fixture_category c =
    if c == 0x301 || c == 0x308 || c == 0x323 || c == 0x344 || c == 0x34F || c == 0xFE00 then NonspacingMark
    else if c == 0x20DD then EnclosingMark
    else if c == 0x20 || c == 0x2002 then SpaceSeparator
    else if c == 0xE001 then OtherSymbol
    else if c == 0x61 then LowercaseLetter
    else OtherLetter

abbrev pub fixture_ccc : ℕ → ℕ
fixture_ccc c = if c == 0x301 || c == 0x308 || c == 0x344 then 230 else if c == 0x323 then 220 else 0

-- U+00E1: 0061 0301; U+0344: 0308 0301; U+1EA1: 0061 0323
abbrev pub fixture_split : ℕ → Option (ℕ × ℕ)
fixture_split c =
    if c == 0xE1 then Some (0x61, 0x301)
    else if c == 0x344 then Some (0x308, 0x301)
    else if c == 0x1EA1 then Some (0x61, 0x323)
    else None

abbrev pub fixture_height : ℕ → ℕ
fixture_height c = if c == 0xE1 || c == 0x344 || c == 0x1EA1 then 1 else 0

-- the same the other way round, and U+0061 U+20DD makes U+E001
abbrev pub fixture_compose : ℕ → ℕ → Option ℕ
fixture_compose a b =
    if a == 0x61 && b == 0x301 then Some 0xE1
    else if a == 0x308 && b == 0x301 then Some 0x344
    else if a == 0x61 && b == 0x323 then Some 0x1EA1
    else if a == 0x61 && b == 0x20DD then Some 0xE001
    else None

-- U+2002 is half an em wide; U+2011 has a fallback type too, so that a space and a hyphen can meet in one item
abbrev pub fixture : UnicodeMeaning
fixture = record {
  category = fixture_category;
  ccc = fixture_ccc;
  split = fixture_split;
  height = fixture_height;
  compose = fixture_compose;
  mirrored = λ c. None;
  vertical = λ c. None;
  space_fallback = λ c. if c == 0x2002 then 2 else if c == 0x2011 then 1 else if c == 0x20 then 18 else 0;
  ignorable = λ c. c == 0x34F || c == 0xFE00 || c == 0xE001;
  pictographic = λ c. false;
  selector = λ c. c == 0xFE00;
  script = λ c. record { 0 = record { 0 = 1517976186 } };
  script_direction = λ s. None;
}

-- a face in which each of these characters has the glyph of its own number; U+0061 with U+FE00 after it has glyph 7 if
-- the face has U+FE00
abbrev pub face_of : List ℕ → FaceMeaning
face_of chars = record bare_face {
  nominal_glyph = λ c. option_map (λ known. record { 0 = known }) (find (λ known. known == c) chars);
  variation_glyph = λ c v. if c == 0x61 then option_map (λ known. record { 0 = 7 }) (find (λ known. known == v) chars) else None;
}

-- the rules in a mode over such a face, without a reorder hook
abbrev pub rules_in : ℕ → List ℕ → Rules
rules_in mode chars = record {
  unicode = fixture;
  split = fixture.split;
  height = fixture.height;
  compose = fixture.compose;
  face = face_of chars;
  reorder = None;
  short = goes_short (pos mode);
  recomposes = mode_recomposes (pos mode);
}

-- an item of a character with its properties
abbrev pub item : ℕ → ℕ → Item
item c cluster = with_unicode_props fixture (new_item c cluster)

-- a buffer of these items
abbrev pub buffer_of : List Item → Buffer
buffer_of items = record new_buffer { items = items; positions = map (λ one. zero_position) items }

-- an item's character and cluster
abbrev pub at : Item → ℕ × ℕ
at one = (one.codepoint, one.cluster)

-- an item's character and glyph index
abbrev pub glyph : Item → ℕ × ℕ
glyph one = (one.codepoint, one.glyph_index)

-- an item's character, cluster and mask
abbrev pub marked : Item → ℕ × (ℕ × ℕ)
marked one = (one.codepoint, (one.cluster, one.mask))
