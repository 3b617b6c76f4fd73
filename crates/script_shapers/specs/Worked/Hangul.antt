-- Syllables of Hangul and their tone marks, worked out by hand (the Unicode Standard, 3.12).
use Rattle.std.specs.Prelude.{◌≡◌, ℕ, ◌==◌, ◌&&◌, pos, false, if◌then◌else◌, None, Some, List, [], ◌∷◌, map, refl}
use Rattle.std.specs.List.{list_any}
use Rattle.shape_common.specs.Face.{FaceMeaning}
use Rattle.shape_common.specs.PlainUnicode.{plain_unicode}
use Rattle.shape_common.specs.Unicode.{UnicodeMeaning}
use Rattle.shape_common.specs.declared.text_types.BufferClusterLevel.{BufferClusterLevel}
use Rattle.shape_common.specs.declared.text_types.BufferClusterLevel.TheVariants.{MonotoneGraphemes, MonotoneCharacters, Characters}
use Rattle.shape_items.specs.Buffer.{Buffer, new_buffer}
use Rattle.shape_items.specs.Clusters.{merge}
use Rattle.shape_items.specs.Items.{Item, new_item, new_properties}
use Rattle.shape_common.specs.declared.text_types.hb_tag_t.{hb_tag_t}
use Rattle.script_shapers.specs.Hangul.{composed_text, jamo_masks, jamo_masked}
use Rattle.letter_joining.specs.Worked.JoinedText.{items_from, masks_of}

-- kiyeok and a make ga, and that with kiyeok gag
abbrev pub unicode : UnicodeMeaning
unicode = record plain_unicode {
  compose = λ a b.
      if (a == 0x1100) && (b == 0x1161) then Some 0xAC00 else (if (a == 0xAC00) && (b == 0x11A8) then Some 0xAC01 else None);
  split = λ c. if c == 0xAC00 then Some (0x1100, 0x1161) else (if c == 0xAC01 then Some (0xAC00, 0x11A8) else None);
}

-- a face with glyphs for some characters; U+302F has no width
abbrev pub face : List ℕ → FaceMeaning
face chars = record {
  nominal_glyph = λ c. if list_any (λ x. x == c) chars then Some (record { 0 = c }) else None;
  variation_glyph = λ _ _. None;
  h_advance = λ glyph. if glyph.0 == 0x302F then pos 0 else pos 500;
  v_advance = λ _. pos 0;
  h_origin = λ _. pos 0;
  v_origin = λ _. pos 0;
  extents = λ _. None;
  units_per_em = 1000;
  x_scale = pos 1000;
  y_scale = pos 1000;
  tables = record { gsub = false; gpos = false; morx = false; kerx = false; trak = false };
}

abbrev pub text : BufferClusterLevel → ℕ → List ℕ → Buffer
text level flags chars = record new_buffer { items = items_from 0 chars; cluster_level = level; flags = record { 0 = flags } }

-- an item's character, kind of jamo and cluster
abbrev pub shown : Buffer → List (ℕ × ℕ × ℕ)
shown b = map (λ (x : Item). (x.codepoint, x.properties.shaper_auxiliary, x.cluster)) b.items

abbrev pub composed : List ℕ → List ℕ → List (ℕ × ℕ × ℕ)
composed glyphs chars = shown (composed_text unicode (face glyphs) (text MonotoneGraphemes 0 chars))

abbrev pub composed_at : BufferClusterLevel → List ℕ → List ℕ → List (ℕ × ℕ × ℕ)
composed_at level glyphs chars = shown (composed_text unicode (face glyphs) (text level 0 chars))

abbrev pub flags_of : List ℕ → List ℕ → List ℕ
flags_of glyphs chars = masks_of (composed_text unicode (face glyphs) (text MonotoneCharacters 0 chars))

-- all jamo, and the syllables
abbrev pub jamo : List ℕ
jamo = 0x1100 ∷ 0x1161 ∷ 0x11A8 ∷ 0x11FF ∷ []

abbrev pub tones : List ℕ
tones = 0x302E ∷ 0x302F ∷ 0x41 ∷ 0xAC00 ∷ []

-- an item of a kind of jamo, with a mask of its own
abbrev pub of_kind : ℕ → Item
of_kind kind = record (new_item 0x1100 0) { mask = 1; properties = record new_properties { shaper_auxiliary = kind } }

pub record WorkedHangul : Type 0 where
  -- `ljmo`, `vjmo` and `tjmo`, and what each kind of jamo gets of them
  pub features : jamo_masks (λ (tag : hb_tag_t). tag.0) ≡ record { ljmo = 0x6C6A6D6F; vjmo = 0x766A6D6F; tjmo = 0x746A6D6F }
  pub feature_of_a_jamo : map (λ (kind : ℕ). (jamo_masked (record { ljmo = 16; vjmo = 32; tjmo = 64 }) (of_kind kind)).mask)
      (0 ∷ 1 ∷ 2 ∷ 3 ∷ []) ≡ 1 ∷ 17 ∷ 33 ∷ 65 ∷ []
  -- jamo that make a syllable which the face has, of two and of three
  pub two : composed (0xAC00 ∷ jamo) (0x1100 ∷ 0x1161 ∷ []) ≡ (0xAC00, 0, 0) ∷ []
  pub three : composed (0xAC00 ∷ 0xAC01 ∷ jamo) (0x1100 ∷ 0x1161 ∷ 0x11A8 ∷ []) ≡ (0xAC01, 0, 0) ∷ []
  -- and which it lacks; those that make one in part alone stay, too, though it has that
  pub lacking : composed jamo (0x1100 ∷ 0x1161 ∷ 0x11A8 ∷ []) ≡ (0x1100, 1, 0) ∷ (0x1161, 2, 0) ∷ (0x11A8, 3, 0) ∷ []
  pub in_part : composed (0xAC00 ∷ jamo) (0x1100 ∷ 0x1161 ∷ 0x11FF ∷ [])
      ≡ (0x1100, 1, 0) ∷ (0x1161, 2, 0) ∷ (0x11FF, 3, 0) ∷ []
  pub by_character : composed_at MonotoneCharacters jamo (0x1100 ∷ 0x1161 ∷ []) ≡ (0x1100, 1, 0) ∷ (0x1161, 2, 1) ∷ []
  pub leading_alone : composed jamo (0x1100 ∷ 0x41 ∷ []) ≡ (0x1100, 0, 0) ∷ (0x41, 0, 1) ∷ []
  -- a syllable that the face has stays, one that it lacks is taken apart, if the face has all parts
  pub whole : composed (0xAC01 ∷ []) (0xAC01 ∷ []) ≡ (0xAC01, 0, 0) ∷ []
  pub apart : composed jamo (0xAC01 ∷ []) ≡ (0x1100, 1, 0) ∷ (0x1161, 2, 0) ∷ (0x11A8, 3, 0) ∷ []
  pub no_parts : composed (0x1100 ∷ 0x1161 ∷ []) (0xAC01 ∷ []) ≡ (0xAC01, 0, 0) ∷ []
  -- one with a trailing jamo after it: composed, taken apart for it, or left
  pub joined : composed (0xAC00 ∷ 0xAC01 ∷ []) (0xAC00 ∷ 0x11A8 ∷ []) ≡ (0xAC01, 0, 0) ∷ []
  pub joined_in_jamo : composed (0xAC00 ∷ jamo) (0xAC00 ∷ 0x11A8 ∷ []) ≡ (0x1100, 1, 0) ∷ (0x1161, 2, 0) ∷ (0x11A8, 3, 0) ∷ []
  pub other_trailing : composed (0xAC00 ∷ jamo) (0xAC00 ∷ 0x11FF ∷ [])
      ≡ (0x1100, 1, 0) ∷ (0x1161, 2, 0) ∷ (0x11FF, 3, 0) ∷ []
  pub left : composed (0xAC00 ∷ []) (0xAC00 ∷ 0x11A8 ∷ []) ≡ (0xAC00, 0, 0) ∷ (0x11A8, 0, 1) ∷ []
  -- what was joined is unsafe to break, at the levels that don't merge it
  pub flags_of_jamo : flags_of jamo (0x1100 ∷ 0x1161 ∷ 0x11A8 ∷ []) ≡ 0 ∷ 3 ∷ 3 ∷ []
  pub flags_of_left : flags_of (0xAC00 ∷ []) (0xAC00 ∷ 0x11A8 ∷ []) ≡ 0 ∷ 3 ∷ []
  -- a tone mark goes before its syllable, unless it has no width, or stands before it
  pub tone : composed tones (0x41 ∷ 0xAC00 ∷ 0x302E ∷ []) ≡ (0x41, 0, 0) ∷ (0x302E, 0, 1) ∷ (0xAC00, 0, 1) ∷ []
  pub tone_of_jamo : composed (0x302E ∷ jamo) (0x1100 ∷ 0x1161 ∷ 0x302E ∷ [])
      ≡ (0x302E, 0, 0) ∷ (0x1100, 1, 0) ∷ (0x1161, 2, 0) ∷ []
  pub no_width : composed tones (0xAC00 ∷ 0x302F ∷ []) ≡ (0xAC00, 0, 0) ∷ (0x302F, 0, 1) ∷ []
  pub before : composed tones (0x302E ∷ 0xAC00 ∷ []) ≡ (0x302E, 0, 0) ∷ (0xAC00, 0, 1) ∷ []
  pub tone_by_character : composed_at Characters tones (0xAC00 ∷ 0x302E ∷ []) ≡ (0x302E, 0, 1) ∷ (0xAC00, 0, 0) ∷ []
  pub second_tone : composed tones (0xAC00 ∷ 0x302E ∷ 0x302E ∷ []) ≡ (0x302E, 0, 0) ∷ (0xAC00, 0, 0) ∷ (0x302E, 0, 2) ∷ []
  -- one without a syllable stands beside a dotted circle, if the face has that and the flag doesn't forbid it
  pub circle_after : composed (0x25CC ∷ tones) (0x41 ∷ 0x302E ∷ []) ≡ (0x41, 0, 0) ∷ (0x302E, 0, 1) ∷ (0x25CC, 0, 1) ∷ []
  pub circle_before : composed (0x25CC ∷ tones) (0x41 ∷ 0x302F ∷ []) ≡ (0x41, 0, 0) ∷ (0x25CC, 0, 1) ∷ (0x302F, 0, 1) ∷ []
  pub forbidden : shown (composed_text unicode (face (0x25CC ∷ tones)) (text MonotoneGraphemes 32 (0x41 ∷ 0x302E ∷ [])))
      ≡ (0x41, 0, 0) ∷ (0x302E, 0, 1) ∷ []

pub worked_hangul : WorkedHangul
unfolding merge
worked_hangul = record {
  features = refl;
  feature_of_a_jamo = refl;
  two = refl;
  three = refl;
  lacking = refl;
  in_part = refl;
  by_character = refl;
  leading_alone = refl;
  whole = refl;
  apart = refl;
  no_parts = refl;
  joined = refl;
  joined_in_jamo = refl;
  other_trailing = refl;
  left = refl;
  flags_of_jamo = refl;
  flags_of_left = refl;
  tone = refl;
  tone_of_jamo = refl;
  no_width = refl;
  before = refl;
  tone_by_character = refl;
  second_tone = refl;
  circle_after = refl;
  circle_before = refl;
  forbidden = refl;
}
