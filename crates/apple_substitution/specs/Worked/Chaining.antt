-- Flags of a chain, by itself and in ranges, directions, and deleted glyphs, computed by hand on a table of 16-bit words.
use Rattle.std.specs.Prelude.{◌≡◌, ℕ, pos, List, [], ◌∷◌, ◌++◌, true, false, replicate, refl}
use Rattle.shape_buffer.specs.PositionWalks.{positions_mapped}
use Rattle.shape_common.specs.declared.positions.GlyphPosition.{GlyphPosition}
use Rattle.shape_common.specs.declared.text_types.Direction.TheVariants.{LeftToRight, RightToLeft, TopToBottom, BottomToTop}
use Rattle.shape_font.specs.Worked.Glyphs.{words}
use Rattle.shape_items.specs.Buffer.{Buffer}
use Rattle.apple_substitution.specs.Chains.{chain_flags, covers, deleted_narrowed, entry_count, flags_after, is_deleted, is_on, is_reversed, narrowed}
use Rattle.apple_substitution.specs.FeatureRanges.{Request, flags_in, flags_of, flags_work, letter_count, looks, looks_in}
use Rattle.apple_substitution.specs.Languages.{Spoken, is_in}
use Rattle.apple_substitution.specs.Worked.Driving.{glyph, glyphs_of, text}
use Rattle.apple_substitution.specs.declared.chains.Feature.{Feature}

-- a chain after two bytes: flags 3; it says three entries, and the table has room for two: type 3 with setting 3 sets 4 and unsets
-- 1, type 37 with setting 1 sets 8 and unsets 2
abbrev chain : List ℕ
chain = 0 ∷ 0 ∷ words (0 ∷ 3 ∷ 0 ∷ 40 ∷ 0 ∷ 3 ∷ 0 ∷ 0 ∷
    3 ∷ 3 ∷ 0 ∷ 4 ∷ 0xFFFF ∷ 0xFFFE ∷
    37 ∷ 1 ∷ 0 ∷ 8 ∷ 0xFFFF ∷ 0xFFFD ∷ [])

abbrev pub feature : ℕ → ℕ → Feature
feature kind setting = record { kind = kind; setting = setting }

-- a text without a language
abbrev pub silent : Spoken
silent = record { ltag = []; text = [] }

pub record WorkedFlags : Type 0 where
  pub none : chain_flags chain silent [] 2 ≡ 3
  pub other_setting : chain_flags chain silent (feature 37 0 ∷ feature 3 1 ∷ []) 2 ≡ 3
  pub one : chain_flags chain silent (feature 1 1 ∷ feature 3 3 ∷ []) 2 ≡ 6
  -- small capitals have both numbers
  pub capitals : chain_flags chain silent (feature 37 1 ∷ []) 2 ≡ 12
  pub entries : entry_count chain 2 ≡ 2
  pub entry : flags_after chain silent (feature 3 3 ∷ []) 18 9 ≡ 12
  pub entry_not_asked : flags_after chain silent (feature 3 1 ∷ []) 18 9 ≡ 9
  -- an entry that leaves none of the flags has those that it sets
  pub sets_last : flags_after (words (1 ∷ 1 ∷ 0 ∷ 5 ∷ 0 ∷ 0 ∷ [])) silent (feature 1 1 ∷ []) 0 7 ≡ 5

pub worked_flags : WorkedFlags
unfolding chain_flags
worked_flags = record {
  none = refl;
  other_setting = refl;
  one = refl;
  capitals = refl;
  entries = refl;
  entry = refl;
  entry_not_asked = refl;
  sets_last = refl;
}

-- two features up to cluster 3, and none after it
abbrev ranges : List Request
ranges = record { last = 3; features = feature 3 3 ∷ feature 1 1 ∷ [] } ∷ record { last = 9; features = [] } ∷ []

pub record WorkedRanges : Type 0 where
  pub flags : flags_of chain silent 2 ranges ≡ record { last = 3; flags = 6 } ∷ record { last = 9; flags = 3 } ∷ []
  pub flags_of_one : flags_in chain silent 2 (record { last = 3; features = feature 3 3 ∷ [] }) ≡ record { last = 3; flags = 6 }
  pub looks_of_one : looks_in 0 (record { last = 3; features = feature 3 3 ∷ [] }) ≡ 2
  -- of each range, and of its features
  pub looks_of_all : looks silent ranges ≡ 4
  pub looks_of_none : looks silent [] ≡ 0
  -- sixteen, and for each of two entries four
  pub work : flags_work chain silent 2 ranges ≡ 24

pub worked_ranges : WorkedRanges
unfolding chain_flags
worked_ranges = record {
  flags = refl;
  flags_of_one = refl;
  looks_of_one = refl;
  looks_of_all = refl;
  looks_of_none = refl;
  work = refl;
}

-- a text in French
abbrev french : List ℕ → Spoken
french ltag = record { ltag = ltag; text = 102 ∷ 114 ∷ [] }

-- a table that names two languages, English and French
abbrev languages : List ℕ
languages = words (0 ∷ 1 ∷ 0 ∷ 0 ∷ 0 ∷ 2 ∷ 20 ∷ 2 ∷ 22 ∷ 2 ∷ []) ++ (101 ∷ 110 ∷ 102 ∷ 114 ∷ [])

-- a chain of no flags, whose entries set 1 for English, 2 for French, and 4 for setting 0
abbrev named : List ℕ
named = words (0 ∷ 0 ∷ 0 ∷ 52 ∷ 0 ∷ 3 ∷ 0 ∷ 0 ∷
    39 ∷ 1 ∷ 0 ∷ 1 ∷ 0xFFFF ∷ 0xFFFF ∷ 39 ∷ 2 ∷ 0 ∷ 2 ∷ 0xFFFF ∷ 0xFFFF ∷ 39 ∷ 0 ∷ 0 ∷ 4 ∷ 0xFFFF ∷ 0xFFFF ∷ [])

pub record WorkedLanguageFlags : Type 0 where
  pub of_the_text : chain_flags named (french languages) [] 0 ≡ 2
  pub no_table : chain_flags named (french []) [] 0 ≡ 0
  -- a text without a language is in each that the table lacks
  pub none : chain_flags named silent [] 0 ≡ 3
  -- of that type alone
  pub other_type : is_on (french languages) [] 38 2 ≡ false
  pub asked_for : is_on (french []) (feature 39 2 ∷ []) 39 2 ≡ true
  pub in_a_range : flags_in named (french languages) 0 (record { last = 3; features = [] }) ≡ record { last = 3; flags = 2 }
  -- a look at the range, at each of two letters, and at each of two features
  pub looks_of_one : looks_in 2 (record { last = 3; features = feature 3 3 ∷ feature 1 1 ∷ [] }) ≡ 5
  pub looks_of_all : looks (french []) ranges ≡ 8
  pub letters : letter_count (102 ∷ 114 ∷ []) ≡ 2
  pub most_letters : letter_count (replicate 64 97) ≡ 63
  pub no_letters : letter_count [] ≡ 0
  pub work : flags_work chain (french []) 2 ranges ≡ 32

pub worked_language_flags : WorkedLanguageFlags
unfolding chain_flags is_in
worked_language_flags = record {
  of_the_text = refl;
  no_table = refl;
  none = refl;
  other_type = refl;
  asked_for = refl;
  in_a_range = refl;
  looks_of_one = refl;
  looks_of_all = refl;
  letters = refl;
  most_letters = refl;
  no_letters = refl;
  work = refl;
}

pub record WorkedCoverage : Type 0 where
  pub any_direction : covers 0xA0000000 LeftToRight ≡ true
  pub horizontal : covers 0x50000000 RightToLeft ≡ true
  pub not_vertical : covers 0x50000000 TopToBottom ≡ false
  pub vertical : covers 0x80000000 BottomToTop ≡ true
  pub not_horizontal : covers 0x80000000 LeftToRight ≡ false
  -- in the order of the line, and backwards
  pub of_the_line : is_reversed 0 LeftToRight ≡ false
  pub of_a_line_to_the_left : is_reversed 0xA0000000 RightToLeft ≡ true
  pub backwards : is_reversed 0x40000000 TopToBottom ≡ true
  pub backwards_to_the_left : is_reversed 0x40000000 RightToLeft ≡ false
  pub of_the_text : is_reversed 0x10000000 RightToLeft ≡ false
  pub backwards_in_the_text : is_reversed 0x50000000 RightToLeft ≡ true
  pub deleted : is_deleted (glyph 0xFFFF 0) ≡ true
  pub not_deleted : is_deleted (glyph 0xFFFE 0) ≡ false

pub worked_coverage : WorkedCoverage
worked_coverage = record {
  any_direction = refl;
  horizontal = refl;
  not_vertical = refl;
  vertical = refl;
  not_horizontal = refl;
  of_the_line = refl;
  of_a_line_to_the_left = refl;
  backwards = refl;
  backwards_to_the_left = refl;
  of_the_text = refl;
  backwards_in_the_text = refl;
  deleted = refl;
  not_deleted = refl;
}

-- a position, attached by type 5 with chain 6
abbrev moved : GlyphPosition
moved = record { x_advance = pos 1; y_advance = pos 2; x_offset = pos 3; y_offset = pos 4; attach_chain = pos 6; attach_type = 5 }

abbrev left : Buffer
left = record (text (glyph 0xFFFF 0 ∷ glyph 0xFFFE 1 ∷ []) 9) { positions = moved ∷ moved ∷ [] }

pub record WorkedDeleted : Type 0 where
  pub deleted : narrowed (glyph 0xFFFF 0) moved
      ≡ record { x_advance = pos 0; y_advance = pos 0; x_offset = pos 0; y_offset = pos 0; attach_chain = pos 6; attach_type = 5 }
  pub other : narrowed (glyph 0xFFFE 0) moved ≡ moved
  pub all : (deleted_narrowed left).positions ≡ narrowed (glyph 0xFFFF 0) moved ∷ moved ∷ []
  pub stays : glyphs_of (deleted_narrowed left) ≡ 0xFFFF ∷ 0xFFFE ∷ []

pub worked_deleted : WorkedDeleted
unfolding positions_mapped
worked_deleted = record { deleted = refl; other = refl; all = refl; stays = refl }
