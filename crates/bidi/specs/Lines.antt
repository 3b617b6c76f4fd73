-- The rules L1 and L2, for the characters of a line.
use Rattle.std.specs.Prelude.{◌≡◌, ℕ, zero, suc, ◌+◌, ◌-◌, ◌%◌, ◌==◌, ◌<◌, ◌||◌, length, replicate, slice_index_or, slice_set, min, max, Bool, true}
use Rattle.std.specs.Prelude.{false, List, [], ◌∷◌, ◌++◌, map, nat_le, if◌then◌else◌}
use Rattle.ucd_bidi.specs.declared.BidiClass.{BidiClass}
use Rattle.ucd_bidi.specs.declared.BidiClass.TheVariants.{ParagraphSeparator, SegmentSeparator, WhiteSpace}
use Rattle.bidi.specs.Classes.{is, is_isolate, is_removed}
use Rattle.bidi.specs.declared.lines.Place.{Place}

-- L1: whether a separator, or the end of the line, comes at once or after white space, isolate formatting characters and
-- such as X9 removes
abbrev pub ends_with : BidiClass → Bool → Bool
ends_with class after =
    if is class SegmentSeparator || is class ParagraphSeparator then true
    else if is class WhiteSpace || (is_isolate class || is_removed class) then after
    else false

abbrev pub is_ended : List BidiClass → Bool
is_ended [] = true
is_ended (class ∷ classes) = ends_with class (is_ended classes)

-- L1: those characters take the level of the paragraph
abbrev pub line_level : ℕ → Bool → ℕ → ℕ
line_level base ended level = if ended then base else level

abbrev pub line_levels : ℕ → List BidiClass → List ℕ → List ℕ
line_levels base [] levels = levels
line_levels base (class ∷ classes) [] = []
line_levels base (class ∷ classes) (level ∷ levels) =
    line_level base (is_ended (class ∷ classes)) level ∷ line_levels base classes levels

-- L2: each run of characters of a level or a higher one is reversed; `pending` has those of a run so far, the last first
abbrev pub reversed_runs : ℕ → List Place → List Place → List Place
reversed_runs level pending [] = pending
reversed_runs level pending (place ∷ places) =
    if nat_le level place.level then reversed_runs level (place ∷ pending) places
    else pending ++ (place ∷ reversed_runs level [] places)

abbrev pub highest : List ℕ → ℕ
highest [] = 0
highest (level ∷ levels) = max level (highest levels)

-- the lowest odd level, 255 if there is none
abbrev pub lowest_odd : List ℕ → ℕ
lowest_odd [] = 255
lowest_odd (level ∷ levels) = if level % 2 == 0 then lowest_odd levels else min level (lowest_odd levels)

-- L2: from so many levels above the lowest one down to it
abbrev pub reordered : ℕ → ℕ → List Place → List Place
reordered lowest zero places = places
reordered lowest (suc count) places = reordered lowest count (reversed_runs (lowest + count) [] places)

abbrev pub places_from : ℕ → List ℕ → List Place
places_from start [] = []
places_from start (level ∷ levels) = record { level = level; place = start } ∷ places_from (start + 1) levels

abbrev pub place_of : Place → ℕ
place_of place = place.place

abbrev pub indices : List ℕ → List ℕ
indices levels = map place_of (places_from 0 levels)

abbrev pub visual_order : List ℕ → List ℕ
visual_order levels =
    map place_of (reordered (lowest_odd levels) (highest levels + 1 - lowest_odd levels) (places_from 0 levels))

-- where each character of an order stands: `place` is that of the first one, and `places` are those known so far
abbrev pub placed_from : ℕ → List ℕ → List ℕ → List ℕ
placed_from place [] places = places
placed_from place (character ∷ order) places = placed_from (place + 1) order (slice_set places character place)

abbrev pub visual_places : List ℕ → List ℕ
visual_places order = placed_from 0 order (replicate (length order) 0)

-- the character at a place stands there, and at the place of a character it is the character
pub record AreInverse (order places : List ℕ) : Type 0 where
  pub there : (place : ℕ) → place < length order → slice_index_or places (slice_index_or order place 0) 0 ≡ place
  pub back : (character : ℕ) → character < length order → slice_index_or order (slice_index_or places character 0) 0 ≡ character
