-- Glyphs inserted, computed by hand on a table of 16-bit words.
use Rattle.std.specs.Prelude.{◌≡◌, ℕ, pos, Bool, List, [], ◌∷◌, true, false, refl}
use Rattle.shape_common.specs.Positions.{zero_position}
use Rattle.shape_common.specs.declared.positions.GlyphPosition.{GlyphPosition}
use Rattle.shape_font.specs.Worked.Glyphs.{words}
use Rattle.shape_items.specs.Buffer.{Buffer}
use Rattle.shape_items.specs.Clusters.{clusters}
use Rattle.apple_substitution.specs.Driver.{Spot}
use Rattle.apple_substitution.specs.Insertion.{count_of, current_done, current_of, insert_at, inserted_beside}
use Rattle.apple_substitution.specs.Insertion.{is_actionable, mark_after, marked_of, transition}
use Rattle.apple_substitution.specs.Worked.Driving.{entry, glyph, glyphs_of, masks_of, text}
use Rattle.apple_substitution.specs.declared.insertion.Wanted.{Wanted}

-- the list begins at 20: glyphs 80, 81 and 82. From 26 on stand data of entries: the first glyph beside the current one; the second
-- one beside the marked one; both; and none
abbrev insertions : List ℕ
insertions = words (0 ∷ 0 ∷ 0 ∷ 0 ∷ 0 ∷ 0 ∷ 0 ∷ 0 ∷ 0 ∷ 20 ∷ 80 ∷ 81 ∷ 82 ∷
    0 ∷ 0xFFFF ∷ 0xFFFF ∷ 1 ∷ 0 ∷ 1 ∷ 0xFFFF ∷ 0xFFFF ∷ [])

abbrev wanted : ℕ → ℕ → Bool → Wanted
wanted index count is_before = record { index = index; count = count; is_before = is_before }

pub record WorkedWanted : Type 0 where
  pub current : current_of insertions (entry 0 0x0BE3 34) ≡ wanted 0 31 true
  pub current_after : current_of insertions (entry 0 0xF45F 26) ≡ wanted 0 2 false
  pub marked : marked_of insertions (entry 0 0x07E3 34) ≡ wanted 1 3 true
  pub marked_after : marked_of insertions (entry 0 0xFBE1 34) ≡ wanted 1 1 false
  pub acts : is_actionable insertions false 0 (entry 0 0x0020 26) ≡ true
  pub acts_on_the_mark : is_actionable insertions false 0 (entry 0 0x0001 30) ≡ true
  pub no_glyph : is_actionable insertions false 0 (entry 0 0x03FF 38) ≡ false
  pub no_count : is_actionable insertions false 0 (entry 0 0xFC00 34) ≡ false
  -- the table ends at 42: it has ten glyphs from the second one on
  pub all : count_of insertions 0 (wanted 1 10 false) ≡ 10
  pub lacking : count_of insertions 0 (wanted 1 11 false) ≡ 0
  pub none : count_of insertions 0 (wanted 0xFFFF 1 false) ≡ 0
  pub marks : mark_after (entry 0 0x8000 0) 2 1 ≡ 2
  pub does_not_mark : mark_after (entry 0 0x7FFF 0) 2 1 ≡ 1

pub worked_wanted : WorkedWanted
worked_wanted = record {
  current = refl;
  current_after = refl;
  marked = refl;
  marked_after = refl;
  acts = refl;
  acts_on_the_mark = refl;
  no_glyph = refl;
  no_count = refl;
  all = refl;
  lacking = refl;
  none = refl;
  marks = refl;
  does_not_mark = refl;
}

abbrev far : GlyphPosition
far = record zero_position { x_advance = pos 9 }

-- glyphs 5 and 6, with their positions
abbrev placed : Buffer
placed = record (text (glyph 5 0 ∷ glyph 6 1 ∷ []) 0) { positions = far ∷ far ∷ [] }

pub record WorkedInsertAt : Type 0 where
  pub between : glyphs_of (insert_at 1 (glyph 9 0) placed) ≡ 5 ∷ 9 ∷ 6 ∷ []
  pub at_a_position_of_zeros : (insert_at 1 (glyph 9 0) placed).positions ≡ far ∷ zero_position ∷ far ∷ []
  pub at_the_end : glyphs_of (insert_at 2 (glyph 9 0) placed) ≡ 5 ∷ 6 ∷ 9 ∷ []
  pub past_the_end : glyphs_of (insert_at 3 (glyph 9 0) placed) ≡ 5 ∷ 6 ∷ []

pub worked_insert_at : WorkedInsertAt
worked_insert_at = record { between = refl; at_a_position_of_zeros = refl; at_the_end = refl; past_the_end = refl }

-- glyphs 5 and 6 after an entry at a place, with the first one marked
abbrev after : ℕ → ℕ → ℕ → ℕ → Spot ℕ
after flags «data» at left = transition insertions 0 (entry 0 flags «data»)
    (record { buffer = text (glyph 5 0 ∷ glyph 6 1 ∷ []) left; at = at; memory = 0 })

pub record WorkedCurrentInserted : Type 0 where
  pub before : glyphs_of (after 0x0840 26 1 40).buffer ≡ 5 ∷ 80 ∷ 81 ∷ 6 ∷ []
  pub behind : glyphs_of (after 0x0040 26 1 40).buffer ≡ 5 ∷ 6 ∷ 80 ∷ 81 ∷ []
  pub in_its_cluster : clusters (after 0x0840 26 1 40).buffer.items ≡ 0 ∷ 1 ∷ 1 ∷ 1 ∷ []
  pub at_the_end : glyphs_of (after 0x0020 26 2 40).buffer ≡ 5 ∷ 6 ∷ 80 ∷ []
  pub in_the_last_cluster : clusters (after 0x0020 26 2 40).buffer.items ≡ 0 ∷ 1 ∷ 1 ∷ []

pub worked_current_inserted : WorkedCurrentInserted
unfolding current_done inserted_beside
worked_current_inserted = record { before = refl; behind = refl; in_its_cluster = refl; at_the_end = refl; in_the_last_cluster = refl }

pub record WorkedPassed : Type 0 where
  -- inserted glyphs are passed, or looked at
  pub passed : (after 0x0040 26 1 40).at ≡ 3
  pub looked_at : (after 0x4040 26 1 40).at ≡ 1
  pub charged : (after 0x0040 26 1 40).buffer.max_ops ≡ 8
  pub too_little : glyphs_of (after 0x0040 26 1 31).buffer ≡ 5 ∷ 6 ∷ []
  pub nothing_left : (after 0x0040 26 1 31).buffer.max_ops ≡ 0

pub worked_passed : WorkedPassed
unfolding current_done inserted_beside
worked_passed = record { passed = refl; looked_at = refl; charged = refl; too_little = refl; nothing_left = refl }

pub record WorkedMarkedInserted : Type 0 where
  pub before : glyphs_of (after 0x0401 30 1 40).buffer ≡ 81 ∷ 5 ∷ 6 ∷ []
  pub behind : glyphs_of (after 0x0001 30 1 40).buffer ≡ 5 ∷ 81 ∷ 6 ∷ []
  pub current_stays : (after 0x0401 30 1 40).at ≡ 2
  -- from the marked glyph on
  pub breaks : masks_of (after 0x0401 30 1 40).buffer ≡ 0 ∷ 0 ∷ 3 ∷ []
  -- a glyph, and a span of two
  pub charged : (after 0x0401 30 1 40).buffer.max_ops ≡ 22
  pub too_little : glyphs_of (after 0x0401 30 1 17).buffer ≡ 5 ∷ 6 ∷ []

pub worked_marked_inserted : WorkedMarkedInserted
unfolding current_done inserted_beside
worked_marked_inserted = record { before = refl; behind = refl; current_stays = refl; breaks = refl; charged = refl; too_little = refl }

pub record WorkedBothInserted : Type 0 where
  pub both : glyphs_of (after 0x0421 34 1 40).buffer ≡ 81 ∷ 5 ∷ 6 ∷ 80 ∷ []
  -- the place is marked where the current glyph stood before
  pub marked : (after 0x8421 34 1 40).memory ≡ 1
  pub one_alone : glyphs_of (after 0x0421 34 1 33).buffer ≡ 81 ∷ 5 ∷ 6 ∷ []

pub worked_both_inserted : WorkedBothInserted
unfolding current_done inserted_beside
worked_both_inserted = record { both = refl; marked = refl; one_alone = refl }

-- in an empty list no glyph stands beside another one, so none is inserted, neither beside a current glyph nor beside a marked one
abbrev in_empty : ℕ → ℕ → Spot ℕ
in_empty flags «data» = transition insertions 0 (entry 0 flags «data») (record { buffer = text [] 40; at = 0; memory = 0 })

pub record WorkedEmpty : Type 0 where
  pub current : glyphs_of (in_empty 0x0020 26).buffer ≡ []
  pub marked : glyphs_of (in_empty 0x0001 30).buffer ≡ []
  pub charged : (in_empty 0x0020 26).buffer.max_ops ≡ 24

pub worked_empty : WorkedEmpty
unfolding current_done inserted_beside
worked_empty = record { current = refl; marked = refl; charged = refl }
