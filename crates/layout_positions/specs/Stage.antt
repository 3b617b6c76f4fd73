-- Positioning as OpenType says it (`GPOS`; "Lookup table"): each lookup in the order of the list, at each glyph from the first on, by the
-- first of its subtables that applies. Nothing is counted here, and nothing is remembered.
use Prim.Native.Nat.{zero}
use Rattle.std.specs.Prelude.{◌≡◌, ℕ, suc, false, List, Some, ◌+◌, length, is_some, nat_lt, fold, if◌then◌else◌}
use Rattle.std.specs.Int.RustNames.{bit_and}
use Rattle.std.specs.Option.{option_map_or}
use Rattle.shape_common.specs.FlagNames.{UNSAFE}
use Rattle.shape_items.specs.Buffer.{Buffer}
use Rattle.shape_items.specs.Items.{Item}
use Rattle.layout_tables.specs.Lookups.{subtable_count_of, subtable_of}
use Rattle.layout_tables.specs.declared.lookups.LookupSubtable.{LookupSubtable}
use Rattle.layout_matching.specs.Found.{found_of, is_context}
use Rattle.layout_matching.specs.Loops.{times}
use Rattle.layout_matching.specs.Skipping.{nth, is_on}
use Rattle.layout_matching.specs.declared.found.Found.{Found}
use Rattle.layout_matching.specs.declared.lookup.Lookup.{Lookup}
use Rattle.layout_matching.specs.declared.rules.Rule.{Rule}
use Rattle.layout_positions.specs.Attachment.{each}
use Rattle.layout_positions.specs.Edits.{broken}
use Rattle.layout_positions.specs.Lookups.{Applied, unapplied}
use Rattle.layout_positions.specs.Marks.{nearest_base, is_later_component}
use Rattle.layout_positions.specs.Nested.{LEVELS, named_place, named_lookup, origin_at, tried_concat_marked}
use Rattle.layout_positions.specs.Subtables.{kind_applied}

-- ---- a lookup at a glyph

-- a subtable; a mark that it has stands on the nearest base
abbrev pub by_subtable : Lookup → ℕ → Buffer → LookupSubtable → Applied
by_subtable l i b subtable = kind_applied l subtable (nearest_base l subtable b.items 0 i) i b

abbrev pub by_number : Lookup → ℕ → ℕ → Buffer → Applied
by_number l i k b = option_map_or (by_subtable l i b) (subtable_of l.table.now 9 l.place k) (unapplied b)

-- those after the first that applies aren't tried
abbrev pub unless_applied : Lookup → ℕ → ℕ → Applied → Applied
unless_applied l i k made = if is_some made.next then made else by_number l i k made.buffer

abbrev pub by_subtables : Lookup → ℕ → Buffer → Applied
by_subtables l i b = each (unless_applied l i) (subtable_count_of l.table.now l.place) (unapplied b)

-- ---- lookups of context

-- record `r` of a rule: its lookup, at its glyph
abbrev pub at_named : (Lookup → ℕ → Buffer → Applied) → Buffer → Lookup → ℕ → Buffer
at_named next b other place = (next other place b).buffer

abbrev pub by_named : (Lookup → ℕ → Buffer → Applied) → Lookup → ℕ → Rule → ℕ → Buffer → Lookup → Buffer
by_named next l at rule r b other = option_map_or (at_named next b other) (named_place l b.items at rule r) b

abbrev pub by_record : (Lookup → ℕ → Buffer → Applied) → Lookup → ℕ → Rule → ℕ → Buffer → Buffer
by_record next l at rule r b = option_map_or (by_named next l at rule r b) (named_lookup l rule r) b

-- the records of a rule in order; the lookup goes on after the last glyph that the rule matches
abbrev pub by_rule : (Lookup → ℕ → Buffer → Applied) → Lookup → ℕ → Buffer → Found → Applied
by_rule next l i b found = record {
  buffer = each (by_record next l i found.rule) found.rule.count (broken found.span.start found.span.end b);
  next = Some (found.span.last + 1);
}

-- the first rule that matches
abbrev pub by_rules : (Lookup → ℕ → Buffer → Applied) → Lookup → ℕ → Buffer → Applied
by_rules next l i b = option_map_or (by_rule next l i b) (found_of l b.items (origin_at i)) (unapplied b)

abbrev pub by_level : (Lookup → ℕ → Buffer → Applied) → Lookup → ℕ → Buffer → Applied
by_level next l i b = if is_context l then by_rules next l i (tried_concat_marked l i b) else by_subtables l i b

-- lookups name others, so many levels deep
abbrev pub by_lookup : ℕ → Lookup → ℕ → Buffer → Applied
by_lookup zero l i b = unapplied b
by_lookup (suc level) l i b = if nat_lt i (length b.items) then by_level (by_lookup level) l i b else unapplied b

-- ---- lookups over a line

pub record Going : Type 0 where
  pub buffer : Buffer
  pub at : ℕ

-- where the lookup applied it goes on after what it made; else, and where it is off, at the next glyph
abbrev pub going_on : ℕ → Applied → Going
going_on at made = record { buffer = made.buffer; at = option_map_or (λ next. next) made.next (at + 1) }

abbrev pub at_glyph : Lookup → Going → Going
at_glyph l s = if nat_lt s.at (length s.buffer.items)
    then (if is_on l (nth s.buffer.items s.at) then going_on s.at (by_lookup LEVELS l s.at s.buffer) else record s { at = s.at + 1 })
    else s

abbrev pub over_line : Buffer → Lookup → Buffer
over_line b l = (times (at_glyph l) (length b.items) (record { buffer = b; at = 0 })).buffer

abbrev pub stage_applied : List Lookup → Buffer → Buffer
stage_applied lookups b = fold over_line b lookups

-- ---- where each search for a base sees the same

-- no glyph follows a component of its own glyph, which a multiple substitution took apart
abbrev pub HasNoLaterComponents : List Item → Type 0
HasNoLaterComponents items = (j : ℕ) → is_later_component items j ≡ false

-- the lookup is on by other bits of a mask than those that say where text may be cut
abbrev pub LeavesFlags : Lookup → Type 0
LeavesFlags l = bit_and UNSAFE l.mask ≡ 0
