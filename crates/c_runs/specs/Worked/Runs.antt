-- Runs of the text "abc", of one in UTF-16, and their glyphs, by hand.
use Rattle.std.specs.Prelude.{◌≡◌, ℕ, true, false, pos, List, [], ◌∷◌, Some, codes, map}
use Rattle.shape_common.specs.Positions.{zero_position}
use Rattle.shape_common.specs.declared.text_types.BufferClusterLevel.TheVariants.{MonotoneCharacters}
use Rattle.shape_common.specs.declared.text_types.Direction.TheVariants.{LeftToRight}
use Rattle.shape_items.specs.Buffer.{new_buffer}
use Rattle.shape_items.specs.Items.{new_item}
use Rattle.c_runs.specs.Glyphs.{glyph_of, joined, counted}
use Rattle.c_runs.specs.Languages.{fitting, is_hyphen, last_hyphen, without_single}
use Rattle.c_runs.specs.Texts.{Utf8, Utf16, IsPlaced, part_of, text_of_run}
use Rattle.c_runs.specs.Worked.Wishes.{WishesWorked}
use Rattle.c_runs.specs.declared.plain.luthgarn_glyph.{luthgarn_glyph}
use Rattle.c_runs.specs.declared.plain.luthgarn_run.{luthgarn_run}

abbrev pub abc : List ℕ
abc = 97 ∷ 98 ∷ 99 ∷ []

-- a run of it from left to right, in script Latn and language "sr", at level 1
abbrev pub run_of : ℕ → ℕ → luthgarn_run
run_of start end = record {
  before = 0;
  start = start;
  end = end;
  after = 3;
  direction = 4;
  script = 0x4C61746E;
  flags = 0;
  level = 1;
  language = 115 ∷ 114 ∷ 0 ∷ 0 ∷ [];
  glyphs = 7;
}

-- the b of it
pub record TextsWorked : Type 0 where
  pub own : part_of abc 1 2 ≡ 98 ∷ []
  pub text : text_of_run (Utf8 abc) (run_of 1 2) ≡ record new_buffer {
    items = new_item 98 0 ∷ [];
    positions = zero_position ∷ [];
    direction = LeftToRight;
    script = Some (record { 0 = record { 0 = 0x4C61746E } });
    language = Some (115 ∷ 114 ∷ []);
    cluster_level = MonotoneCharacters;
    pre_context = 97 ∷ [];
    post_context = 99 ∷ [];
  }
  pub placed : IsPlaced (Utf8 abc) (run_of 1 2)
  pub past_what_follows : IsPlaced (Utf8 abc) (run_of 1 4) → ⊥
  pub backward : IsPlaced (Utf8 abc) (run_of 2 1) → ⊥
  pub past_the_text : IsPlaced (Utf8 abc) (record (run_of 1 2) { after = 4 }) → ⊥
  pub no_direction : IsPlaced (Utf8 abc) (record (run_of 1 2) { direction = 3 }) → ⊥
  pub no_level : IsPlaced (Utf8 abc) (record (run_of 1 2) { level = 3 }) → ⊥

-- the pair of units of U+1F600, between two letters, and a run that cuts it
abbrev pub smile : List ℕ
smile = 97 ∷ 0xD83D ∷ 0xDE00 ∷ 99 ∷ []

abbrev pub run_of_smile : ℕ → ℕ → luthgarn_run
run_of_smile start end = record (run_of start end) { after = 4 }

pub record UnitsWorked : Type 0 where
  pub items : (text_of_run (Utf16 smile) (run_of_smile 0 4)).items ≡ new_item 97 0 ∷ new_item 0x1F600 1 ∷ new_item 99 3 ∷ []
  pub from_the_run : (text_of_run (Utf16 smile) (run_of_smile 1 3)).items ≡ new_item 0x1F600 0 ∷ []
  pub before : (text_of_run (Utf16 smile) (run_of_smile 3 4)).pre_context ≡ 97 ∷ 0x1F600 ∷ []
  pub after : (text_of_run (Utf16 smile) (run_of_smile 0 1)).post_context ≡ 0x1F600 ∷ 99 ∷ []
  pub cut : (text_of_run (Utf16 smile) (run_of_smile 0 2)).items ≡ new_item 97 0 ∷ new_item 0xFFFD 1 ∷ []
  pub cut_after : (text_of_run (Utf16 smile) (run_of_smile 0 2)).post_context ≡ 0xFFFD ∷ 99 ∷ []
  pub placed : IsPlaced (Utf16 smile) (run_of_smile 1 3)
  pub past_the_text : IsPlaced (Utf16 smile) (record (run_of_smile 1 3) { after = 5 }) → ⊥

-- the a of it with one glyph, and the rest with two
pub record GlyphsWorked (glyphs : luthgarn_run → List luthgarn_glyph) (g h i : luthgarn_glyph) : Type 0 where
  pub in_order : glyphs (run_of 0 1) ≡ g ∷ [] → glyphs (run_of 1 3) ≡ h ∷ i ∷ []
      → joined glyphs (run_of 0 1 ∷ run_of 1 3 ∷ []) ≡ g ∷ h ∷ i ∷ []
  pub ends : glyphs (run_of 0 1) ≡ g ∷ [] → glyphs (run_of 1 3) ≡ h ∷ i ∷ []
      → map (λ (run : luthgarn_run). run.glyphs) (counted glyphs 0 (run_of 0 1 ∷ run_of 1 3 ∷ [])) ≡ 1 ∷ 3 ∷ []
  pub numbers : glyph_of (record (new_item 98 5) { glyph_id = 69; mask = 0x80000003 }, record zero_position { x_advance = pos 9; y_offset = pos 2 })
      ≡ record { glyph = 69; cluster = 5; flags = 3; x_advance = pos 9; y_advance = pos 0; x_offset = pos 0; y_offset = pos 2 }

-- names of languages where there is room for so many bytes
pub record NamesWorked : Type 0 where
  pub whole : fitting 5 (codes "sr-ME") ≡ codes "sr-ME"
  pub subtags : fitting 9 (codes "sr-Latn-ME") ≡ codes "sr-Latn"
  pub all_room : fitting 7 (codes "sr-Latn-ME") ≡ codes "sr-Latn"
  pub underscore : fitting 6 (codes "sr_Latn") ≡ codes "sr"
  pub single : fitting 6 (codes "sr-x-ME") ≡ codes "sr"
  pub no_subtag : fitting 2 (codes "srp") ≡ []
  pub hyphens : map is_hyphen (45 ∷ 95 ∷ 44 ∷ 0 ∷ []) ≡ true ∷ true ∷ false ∷ false ∷ []
  pub last : last_hyphen 9 (codes "sr-Latn-ME") ≡ 7
  pub at_the_place : last_hyphen 7 (codes "sr-Latn-ME") ≡ 7
  pub before_it : last_hyphen 6 (codes "sr-Latn-ME") ≡ 2
  -- one that begins a name ends no subtag
  pub not_the_first : last_hyphen 2 (codes "-sr") ≡ 0
  pub past_the_name : last_hyphen 9 (codes "sr-ME") ≡ 2
  pub letter_removed : without_single 4 (codes "sr-x-ME") ≡ 2
  pub two_letters_stay : without_single 5 (codes "sr-ME-x") ≡ 5
  pub first_stays : without_single 1 (codes "x-sr") ≡ 1

pub record WorkedRuns : Type 0 where
  pub texts : TextsWorked
  pub units : UnitsWorked
  pub names : NamesWorked
  pub wishes : WishesWorked
  pub glyphs : (glyphs : luthgarn_run → List luthgarn_glyph) (g h i : luthgarn_glyph) → GlyphsWorked glyphs g h i
