-- What the search for ligatures at a place is charged before it is made: one for each look at a glyph. A text may be of joiners
-- alone that have the glyph of a letter, so that each search passes over all that follow.
use Rattle.std.specs.Prelude.{ℕ, Bool, Option, Some, None, ◌+◌, ◌-◌, ◌*◌, ◌==◌, ◌||◌, min, nat_lt, List, length, drop, if◌then◌else◌}
use Rattle.std.specs.List.{prefix_len}
use Rattle.shape_items.specs.Buffer.{most_countable}
use Rattle.shape_items.specs.Items.{Item}
use Rattle.arabic_fallback.specs.Seeking.{nth, is_skipped, passes}
use Rattle.arabic_fallback.specs.Vain.{count_of}
use Rattle.arabic_fallback.specs.declared.ligatures.LigatureGlyphs.{LigatureGlyphs}
use Rattle.arabic_fallback.specs.declared.seeking.Rule.{Rule}

-- what a search passes over, unless it is what is looked for
abbrev pub is_passed : Rule → Item → Bool
is_passed rule item = is_skipped rule item || passes item

-- the first from a place on that isn't, or the end
abbrev pub passed_to : Rule → List Item → ℕ → ℕ
passed_to rule items from =
    if nat_lt from (length items) then from + prefix_len (is_passed rule) (drop from items) else length items

-- how many glyphs a ligature of three may look at: each search of a component ends at the next that isn't passed over
abbrev pub looks : Rule → List Item → ℕ → ℕ
looks rule items at = passed_to rule items (passed_to rule items (at + 1) + 1) - at

-- a ligature is sought twice, and up to four times more for how far it looked in vain
abbrev pub SEARCHES : ℕ
SEARCHES = 6

abbrev pub search_work : ℕ → ℕ → ℕ
search_work count each = min (min (count * each) most_countable * SEARCHES) most_countable

-- for so many ligatures; nothing is looked at once nothing is left
abbrev pub count_charged : Rule → List Item → ℕ → ℕ → ℕ → Option ℕ
count_charged rule items at left count = if count == 0 then Some left
    else (if left == 0 || nat_lt left (search_work count (looks rule items at)) then None
    else Some (left - search_work count (looks rule items at)))

-- what is left after the ligatures that begin with the glyph at a place were charged, if it suffices
abbrev pub search_charged : Rule → List LigatureGlyphs → List Item → ℕ → ℕ → Option ℕ
search_charged rule rows items at left = count_charged rule items at left (count_of rows (nth items at).glyph_id)
