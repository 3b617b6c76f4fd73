-- What a caller knows of glyphs and of a string's text, on cases that are worked out by hand: what each fact takes, and
-- what it refuses.
use Rattle.std.specs.Prelude.{◌≡◌, ◌⊎◌, ◌<◌, ◌≤◌, ℕ, List, [], ◌∷◌, Option, Some, None, pos, Contains}
use Rattle.std.specs.List.Sorted.{IsNonDecreasing}
use Rattle.shape_items.specs.Buffer.{Buffer, limit_of, new_buffer}
use Rattle.shape_items.specs.Clusters.{clusters}
use Rattle.shape_items.specs.Items.{new_item}
use Rattle.shape_buffer.specs.Guess.{guessed, script_or_ltr}
use Rattle.shape_buffer.specs.Outcome.{Step}
use Rattle.shape_common.specs.Face.{FaceMeaning}
use Rattle.shape_common.specs.Unicode.{UnicodeMeaning}
use Rattle.shape_common.specs.Positions.{zero_position}
use Rattle.shape_common.specs.declared.text_types.BufferClusterLevel.TheVariants.{MonotoneGraphemes, Characters}
use Rattle.shape_common.specs.declared.text_types.Direction.TheVariants.{RightToLeft}
use Rattle.shape_common.specs.declared.text_types.GlyphId.{GlyphId}
use Rattle.shape_lines.specs.Worked.CanCut.{in_clusters}
use Rattle.shape_pipeline.specs.GlyphsOf.{AreGlyphsOf, TextPasses}
use Rattle.shape_pipeline.specs.Headline.{target_of}
use Rattle.shape_pipeline.specs.Shaped.{all_steps, entered, Shapes, ShapingPasses}
use Rattle.shape_pipeline.specs.Strings.{AreGlyphsOfString, IsPlaceIn, IsTextOf, string_text}
use Rattle.shape_plan.specs.Run.{Run}
use Rattle.shape_users.specs.PlainGlyphs.{AreOfText, HaveGlyphs, IsGivenBackEmpty, NoStepPasses, SomeStepPasses}

-- ---- clusters and characters

pub record ClustersOfTexts : Type 0 where
  pub some_of_them : AreOfText (in_clusters (0 ∷ 2 ∷ 5 ∷ [])) (in_clusters (5 ∷ 0 ∷ 5 ∷ []))
  pub no_glyphs : AreOfText (in_clusters (7 ∷ [])) []
  pub between_two : AreOfText (in_clusters (0 ∷ 2 ∷ [])) (in_clusters (0 ∷ 1 ∷ [])) → ⊥
  pub past_all : AreOfText (in_clusters (0 ∷ 2 ∷ [])) (in_clusters (2 ∷ 3 ∷ [])) → ⊥
  pub of_no_text : AreOfText [] (in_clusters (0 ∷ [])) → ⊥

-- a face with a glyph for U+0061, and none for U+0062
pub record HasOneOfTwo (face : FaceMeaning) : Type 0 where
  pub glyph : GlyphId
  pub first : face.nominal_glyph 0x61 ≡ Some glyph
  pub second : face.nominal_glyph 0x62 ≡ None

pub record CharactersWithGlyphs (face : FaceMeaning) : Type 0 where
  pub brought_in : HaveGlyphs face [] (0x61 ∷ 0x61 ∷ [])
  pub in_the_text : HaveGlyphs face (0x63 ∷ 0x62 ∷ []) (0x61 ∷ 0x62 ∷ [])
  pub no_characters : HaveGlyphs face (0x62 ∷ []) []
  pub without_glyph : HaveGlyphs face [] (0x61 ∷ 0x62 ∷ []) → ⊥
  pub beside_the_text : HaveGlyphs face (0x61 ∷ 0x63 ∷ []) (0x62 ∷ []) → ⊥

-- ---- steps

-- the text as a run of it begins
abbrev pub begun_text : Run → Buffer → Buffer
begun_text run text = entered (guessed run.unicode text)

-- a run that has these steps alone for a text
abbrev pub HasSteps : Run → Buffer → List Step → Type 0
HasSteps run text steps = all_steps run (target_of run text) ≡ steps

-- one step, and another after it, go past the limits that they find
abbrev pub FirstPasses : Run → Buffer → Step → Type 0
FirstPasses run text one = limit_of (begun_text run text) < one.counts (begun_text run text)

abbrev pub SecondPasses : Run → Buffer → Step → Step → Type 0
SecondPasses run text one two =
    let found = one.makes (begun_text run text) in
    limit_of found < two.counts found

-- they don't
abbrev pub FirstKeeps : Run → Buffer → Step → Type 0
FirstKeeps run text one = one.counts (begun_text run text) ≤ limit_of (begun_text run text)

abbrev pub SecondKeeps : Run → Buffer → Step → Step → Type 0
SecondKeeps run text one two =
    let found = one.makes (begun_text run text) in
    two.counts found ≤ limit_of found

pub record StepsOfRuns (run : Run) (text : Buffer) : Type 0 where
  pub first_within : (one two : Step) → HasSteps run text (one ∷ two ∷ []) → NoStepPasses run text → FirstPasses run text one → ⊥
  pub second_within : (one two : Step) → HasSteps run text (one ∷ two ∷ []) → NoStepPasses run text → SecondPasses run text one two → ⊥
  pub both_within : (one two : Step) → HasSteps run text (one ∷ two ∷ []) → SomeStepPasses run text
      → FirstPasses run text one ⊎ SecondPasses run text one two
  pub first_passes : (one two : Step) → HasSteps run text (one ∷ two ∷ []) → FirstPasses run text one → SomeStepPasses run text
  pub second_passes : (one two : Step) → HasSteps run text (one ∷ two ∷ []) → SecondPasses run text one two → SomeStepPasses run text
  pub no_steps : HasSteps run text [] → SomeStepPasses run text → ⊥
  -- a list as long as the limit is within it
  pub up_to_the_limit : (one two : Step) → HasSteps run text (one ∷ two ∷ []) → FirstKeeps run text one → SecondKeeps run text one two
      → NoStepPasses run text
  pub not_both : NoStepPasses run text → SomeStepPasses run text → ⊥

-- ---- what is left of a text

abbrev pub glyph : ℕ → Option GlyphId
glyph number = Some (record { 0 = number })

-- a text on which all is set
abbrev pub refused_text : Buffer
refused_text = record {
  items = new_item 0x5D0 7 ∷ [];
  positions = record zero_position { x_advance = pos 1 } ∷ [];
  direction = RightToLeft;
  script = Some (record { 0 = record { 0 = 0x48656272 } });
  language = Some (0x68 ∷ 0x65 ∷ []);
  flags = record { 0 = 66 };
  cluster_level = Characters;
  invisible_glyph = glyph 3;
  not_found_variation_selector_glyph = glyph 4;
  scratch_flags = record { 0 = 63 };
  length_limit = Some 16384;
  max_ops = 1000;
  serial = 5;
  pre_context = 0x61 ∷ [];
  post_context = 0x62 ∷ [];
}

-- what is left of it
abbrev pub left_of_it : Buffer
left_of_it = record new_buffer {
  flags = record { 0 = 66 };
  cluster_level = Characters;
  invisible_glyph = glyph 3;
  not_found_variation_selector_glyph = glyph 4;
}

abbrev pub IsLeft : Buffer → Type 0
IsLeft left = IsGivenBackEmpty refused_text left

pub record WhatIsLeft : Type 0 where
  pub settings : IsLeft left_of_it
  pub an_item : IsLeft (record left_of_it { items = refused_text.items }) → ⊥
  pub a_position : IsLeft (record left_of_it { positions = refused_text.positions }) → ⊥
  pub other_flags : IsLeft (record left_of_it { flags = record { 0 = 2 } }) → ⊥
  pub other_level : IsLeft (record left_of_it { cluster_level = MonotoneGraphemes }) → ⊥
  pub no_invisible_glyph : IsLeft (record left_of_it { invisible_glyph = None }) → ⊥
  pub other_glyph_of_selectors : IsLeft (record left_of_it { not_found_variation_selector_glyph = glyph 3 }) → ⊥

-- ---- strings

-- U+0061 U+20AC U+0062 in UTF-8: 1, 3 and 1 bytes
abbrev pub euro_string : List ℕ
euro_string = 0x61 ∷ 0xE2 ∷ 0x82 ∷ 0xAC ∷ 0x62 ∷ []

pub record PlacesOfStrings : Type 0 where
  pub first : IsPlaceIn euro_string 0
  pub of_three_bytes : IsPlaceIn euro_string 1
  pub last : IsPlaceIn euro_string 4
  pub second_byte : IsPlaceIn euro_string 2 → ⊥
  pub third_byte : IsPlaceIn euro_string 3 → ⊥
  pub at_the_end : IsPlaceIn euro_string 5 → ⊥
  pub in_nothing : IsPlaceIn [] 0 → ⊥

-- its text
abbrev pub euro_text : Buffer
euro_text = record new_buffer {
  items = new_item 0x61 0 ∷ new_item 0x20AC 1 ∷ new_item 0x62 4 ∷ [];
  positions = zero_position ∷ zero_position ∷ zero_position ∷ [];
}

pub record TextsOfStrings : Type 0 where
  pub whole : IsTextOf euro_string euro_text
  pub none : IsTextOf [] new_buffer
  pub clusters_rise : (bytes : List ℕ) (text : Buffer) → IsTextOf bytes text → IsNonDecreasing (clusters text.items)
  pub clusters_are_places : (bytes : List ℕ) (text : Buffer) (k : ℕ) → IsTextOf bytes text → Contains (clusters text.items) k
      → IsPlaceIn bytes k
  pub one_less : IsTextOf euro_string (record euro_text { items = new_item 0x61 0 ∷ new_item 0x20AC 1 ∷ [] }) → ⊥
  pub by_number : IsTextOf (0xC3 ∷ 0xA9 ∷ 0x62 ∷ []) (record euro_text { items = new_item 0xE9 0 ∷ new_item 0x62 1 ∷ [] }) → ⊥
  pub with_direction : IsTextOf euro_string (record euro_text { direction = RightToLeft }) → ⊥
  pub with_level : IsTextOf euro_string (record euro_text { cluster_level = Characters }) → ⊥
  pub with_flags : IsTextOf euro_string (record euro_text { flags = record { 0 = 64 } }) → ⊥
  pub with_limit : IsTextOf euro_string (record euro_text { length_limit = Some 5 }) → ⊥
  pub with_script : IsTextOf euro_string (record euro_text { script = Some (record { 0 = record { 0 = 0x48656272 } }) }) → ⊥
  pub with_language : IsTextOf euro_string (record euro_text { language = Some (0x68 ∷ 0x65 ∷ []) }) → ⊥
  pub with_text_before : IsTextOf euro_string (record euro_text { pre_context = 0x61 ∷ [] }) → ⊥
  pub with_text_after : IsTextOf euro_string (record euro_text { post_context = 0x61 ∷ [] }) → ⊥

-- what a run makes of a string: of its text with what is guessed for it
pub record RunsOfStrings (run : Run) : Type 0 where
  pub text : string_text euro_string ≡ euro_text
  pub shaped : (glyphs : Buffer) → AreGlyphsOf run euro_text glyphs
      → Shapes run (target_of run euro_text) (guessed run.unicode euro_text) glyphs
  pub one_list : (first second : Buffer) → AreGlyphsOf run euro_text first → AreGlyphsOf run euro_text second → first ≡ second
  pub other_direction : (glyphs : Buffer) → (glyphs.direction ≡ target_of run euro_text → ⊥) → AreGlyphsOf run euro_text glyphs → ⊥
  pub passes : ShapingPasses run (target_of run euro_text) (guessed run.unicode euro_text) → TextPasses run euro_text
  pub passes_alone : TextPasses run euro_text → ShapingPasses run (target_of run euro_text) (guessed run.unicode euro_text)

-- what is known of the glyphs of a string: none for no characters, and no cluster inside a character
pub record GlyphsOfStrings (unicode : UnicodeMeaning) : Type 0 where
  pub none : AreGlyphsOfString unicode [] (record new_buffer { direction = script_or_ltr unicode None })
  pub other_direction : AreGlyphsOfString unicode [] new_buffer → ⊥
  pub second_byte : (glyphs : Buffer) → glyphs.items ≡ new_item 0x61 2 ∷ [] → AreGlyphsOfString unicode euro_string glyphs → ⊥

pub record WorkedPlain : Type 0 where
  pub clusters : ClustersOfTexts
  pub characters : (face : FaceMeaning) → HasOneOfTwo face → CharactersWithGlyphs face
  pub steps : (run : Run) (text : Buffer) → StepsOfRuns run text
  pub left : WhatIsLeft
  pub places : PlacesOfStrings
  pub texts : TextsOfStrings
  pub runs : (run : Run) → RunsOfStrings run
  pub glyphs : (unicode : UnicodeMeaning) → GlyphsOfStrings unicode
