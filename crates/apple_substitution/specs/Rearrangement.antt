-- Rearrangement subtables (TrueType Reference Manual, "The 'morx' table", "Glyph Rearrangement Subtable"): glyphs at both ends of a
-- marked span change sides.
use Rattle.std.specs.Prelude.{ℕ, List, ◌++◌, Bool, true, false, ◌+◌, ◌-◌, ◌%◌, ◌&&◌, not}
use Rattle.std.specs.Prelude.{min, length, nat_eq, nat_le, nat_lt, slice_index_or, slice_range, if◌then◌else◌}
use Rattle.shape_items.specs.Buffer.{Buffer}
use Rattle.shape_items.specs.Items.{Item}
use Rattle.apple_tables.specs.declared.states.Entry.{Entry}
use Rattle.apple_substitution.specs.Driver.{Actions, Spot}
use Rattle.apple_substitution.specs.Edits.{charged, merged_onwards, written}
use Rattle.apple_substitution.specs.Ranges.{shares}
use Rattle.apple_substitution.specs.declared.rearrangement.Marks.{Marks}
use Rattle.apple_substitution.specs.declared.rearrangement.Side.{Side}
use Rattle.apple_substitution.specs.declared.rearrangement.Side.TheVariants.{Stays, One, Two, Turned}
use Rattle.apple_substitution.specs.declared.rearrangement.TheConstants.{VERBS}

-- how many glyphs of a side go to the other one
abbrev pub count_of : Side → ℕ
count_of Stays = 0
count_of One = 1
count_of Two = 2
count_of Turned = 2

abbrev pub turns : Side → Bool
turns Turned = true
turns side = false

-- the verb of an entry, and what it does with the left side and the right side of a span
abbrev pub sides_of : Entry → Side × Side
sides_of e = slice_index_or VERBS (e.flags % 16) (Stays, Stays)

-- the glyphs of a side, of two that turn the second one first
abbrev pub side_of : Bool → ℕ → ℕ → List Item → List Item
side_of is_turned start end items = if is_turned
    then slice_range items (start + 1) end ++ slice_range items start (start + 1)
    else slice_range items start end

-- the span with the right side first, and the left side last
abbrev pub rearranged : Side → Side → ℕ → ℕ → List Item → List Item
rearranged left right start end items =
    let from = start + count_of left in
    let to = end - count_of right in
    side_of (turns right) to end items ++ (slice_range items from to ++ side_of (turns left) start from items)

-- flags 0x8000 and 0x2000: the current glyph is the first one of the span, or the last one
abbrev pub marks_of : Entry → ℕ → ℕ → Marks → Marks
marks_of e at count marks = record {
  first = if shares e.flags 0x8000 then at else marks.first;
  end = if shares e.flags 0x2000 then min (at + 1) count else marks.end;
}

-- a verb does something if a span is marked
abbrev pub is_actionable : Bool → Marks → Entry → Bool
is_actionable ends marks e = not (nat_eq (e.flags % 16) 0) && nat_lt marks.first marks.end

-- a span of at least as many glyphs as go, and of 64 at most
abbrev pub MAX_SPAN : ℕ
MAX_SPAN = 64

abbrev pub is_fitting : Entry → Marks → ℕ → Bool
is_fitting e marks count = let sides = sides_of e in
    nat_le (count_of sides.0 + count_of sides.1) (marks.end - marks.first)
    && (nat_le (marks.end - marks.first) MAX_SPAN && nat_le marks.end count)

-- the clusters of the span merge, and of what follows it up to the current glyph; no glyph before the span merges
abbrev pub merged_to : ℕ → Marks → Buffer → Buffer
merged_to next marks b = merged_onwards marks.first marks.end (merged_onwards marks.first next b)

abbrev pub moved : Entry → Marks → Buffer → Buffer
moved e marks b = let sides = sides_of e in
    written marks.first (rearranged sides.0 sides.1 marks.first marks.end b.items) b

-- each glyph that merges is charged for; if what is left doesn't suffice, nothing is done, and nothing is left
abbrev pub done : Entry → ℕ → Marks → Buffer → Buffer
done e next marks b = let work = next - marks.first in
    (if nat_lt b.max_ops work then charged work b else moved e marks (merged_to next marks (charged work b)))

abbrev pub rearranged_at : Entry → ℕ → Marks → Buffer → Buffer
rearranged_at e at marks b = if is_actionable false marks e && is_fitting e marks (length b.items)
    then done e (min (at + 1) (length b.items)) marks b
    else b

abbrev pub transition : Entry → Spot Marks → Spot Marks
transition e s = let marks = marks_of e s.at (length s.buffer.items) s.memory in
    record { buffer = rearranged_at e s.at marks s.buffer; at = s.at; memory = marks }

abbrev pub actions : Actions Marks
actions = record { is_actionable = is_actionable; transition = transition }
