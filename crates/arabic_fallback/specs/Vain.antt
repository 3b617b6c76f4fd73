-- How far the ligatures that are tried at a place look in vain: what was looked at is unsafe to concat.
use Rattle.std.specs.Prelude.{ℕ, Bool, false, Option, Some, None, is_some, ◌+◌, ◌==◌, ◌&&◌, ◌||◌, not, max, nat_lt, nat_le, List, length, drop, fold}
use Rattle.std.specs.Prelude.{if◌then◌else◌}
use Rattle.std.specs.Int.RustNames.{bit_and}
use Rattle.std.specs.List.{prefix_len}
use Rattle.std.specs.Option.{option_map_or}
use Rattle.shape_common.specs.FlagNames.{PRODUCE_UNSAFE_TO_CONCAT}
use Rattle.shape_items.specs.Buffer.{Buffer}
use Rattle.shape_items.specs.BufferClusters.{unsafe_to_concat}
use Rattle.shape_items.specs.Items.{Item}
use Rattle.arabic_fallback.specs.Ligatures.{component_at, found_by, found_in}
use Rattle.arabic_fallback.specs.Replaced.{shares}
use Rattle.arabic_fallback.specs.Seeking.{nth, is_skipped, passes, place_of, stop_of}
use Rattle.arabic_fallback.specs.declared.ligatures.LigatureGlyphs.{LigatureGlyphs}
use Rattle.arabic_fallback.specs.declared.seeking.Rule.{Rule}
use Rattle.arabic_fallback.specs.declared.vain.Tried.{Tried}

-- where the search for a component after a place ended in vain; a glyph that fits, and belongs to another ligature, counts for nothing
abbrev pub component_stop : Rule → ℕ → List Item → ℕ → ℕ
component_stop rule glyph items after =
    if is_some (place_of rule glyph items (after + 1)) then 0 else stop_of rule glyph items (after + 1)

-- the same for a component that may be there
abbrev pub component_end : Rule → ℕ → List Item → ℕ → ℕ → ℕ
component_end rule glyph items at after =
    if is_some (component_at rule glyph items at after) then 0 else component_stop rule glyph items after

abbrev pub third_end : Rule → LigatureGlyphs → List Item → ℕ → ℕ → ℕ
third_end rule row items at second = option_map_or (λ glyph. component_end rule glyph items at second) row.components.third 0

-- the same for the components of a ligature
abbrev pub row_end : Rule → LigatureGlyphs → List Item → ℕ → ℕ
row_end rule row items at = if (nth items at).glyph_id == row.components.first
    then option_map_or (third_end rule row items at) (component_at rule row.components.second items at at)
    (component_stop rule row.components.second items at)
    else 0

-- a ligature with another second component than `only`
abbrev pub is_left_out : Option ℕ → LigatureGlyphs → Bool
is_left_out only row = option_map_or (λ glyph. not (row.components.second == glyph)) only false

-- ligatures are tried up to the first whose components stand there
abbrev pub with_row : Rule → Option ℕ → List Item → ℕ → Tried → LigatureGlyphs → Tried
with_row rule only items at t row = if t.matched || is_left_out only row then t else record {
  end = max t.end (row_end rule row items at);
  matched = is_some (found_by rule row items at);
}

abbrev pub nothing_tried : Tried
nothing_tried = record { end = 0; matched = false }

abbrev pub rows_end : Rule → Option ℕ → List LigatureGlyphs → List Item → ℕ → ℕ
rows_end rule only rows items at = (fold (with_row rule only items at) nothing_tried rows).end

-- how many ligatures begin with a glyph
abbrev pub with_first : ℕ → ℕ → LigatureGlyphs → ℕ
with_first glyph count row = if row.components.first == glyph then count + 1 else count

abbrev pub count_of : List LigatureGlyphs → ℕ → ℕ
count_of rows glyph = fold (with_first glyph) 0 rows

-- the next glyph that the lookup sees, unless it may be passed over
abbrev pub is_unseen : Rule → Item → Bool
is_unseen rule item = is_skipped rule item || (passes item && not (shares item.mask rule.mask))

abbrev pub seen_glyph : Rule → List Item → Option ℕ
seen_glyph rule rest = let item = nth rest (prefix_len (is_unseen rule) rest) in
    (if nat_lt (prefix_len (is_unseen rule) rest) (length rest) && shares item.mask rule.mask && not (passes item) then Some item.glyph_id
    else None)

-- of more than four ligatures that begin alike HarfBuzz compares the second components first, and doesn't mark that if one is made
abbrev pub only_of : Rule → List LigatureGlyphs → List Item → ℕ → Option ℕ
only_of rule rows items at = if nat_lt 4 (count_of rows (nth items at).glyph_id) && is_some (found_in rule rows items at)
    then seen_glyph rule (drop (at + 1) items) else None

abbrev pub vain_end : Rule → List LigatureGlyphs → List Item → ℕ → ℕ
vain_end rule rows items at = rows_end rule (only_of rule rows items at) rows items at

abbrev pub asks_concat : Buffer → Bool
asks_concat b = bit_and b.flags.0 PRODUCE_UNSAFE_TO_CONCAT == PRODUCE_UNSAFE_TO_CONCAT

abbrev pub concat_marked : ℕ → ℕ → Buffer → Buffer
concat_marked at end b = if nat_lt at end && nat_le end (length b.items) then unsafe_to_concat at end b else b

-- what was looked at in vain from a place on, marked
abbrev pub vain_marked : Rule → List LigatureGlyphs → ℕ → Buffer → Buffer
vain_marked rule rows at b = concat_marked at (vain_end rule rows b.items at) b
