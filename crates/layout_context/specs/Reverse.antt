-- Reverse chained single substitution (kind 8): from the last item to the first.
use Rattle.std.specs.Prelude.{ℕ, Bool, true, false, List, Option, Some, None, ◌+◌, ◌-◌, ◌*◌, ◌&&◌, length, nat_eq, nat_lt, if◌then◌else◌}
use Rattle.std.specs.Option.{option_and_then, option_map_or}
use Rattle.shape_font.specs.Bytes.{u16_of}
use Rattle.shape_items.specs.Buffer.{Buffer}
use Rattle.shape_items.specs.Items.{Item}
use Rattle.layout_tables.specs.Lookups.{subtable_count_of, subtable_of}
use Rattle.layout_tables.specs.declared.lookups.LookupSubtable.{LookupSubtable}
use Rattle.layout_matching.specs.Found.{extension_kind, first_subtable, subtable_at, number_of}
use Rattle.layout_matching.specs.Loops.{times, first_some}
use Rattle.layout_matching.specs.Rules.{row}
use Rattle.layout_matching.specs.Skipping.{nth, is_on}
use Rattle.layout_matching.specs.Seeking.{last_after, last_before}
use Rattle.layout_matching.specs.Spans.{seek_around, span_of}
use Rattle.layout_matching.specs.Tried.{untried, match_at, vain, until_matched, after_end}
use Rattle.layout_matching.specs.Work.{lookup_charged}
use Rattle.layout_matching.specs.declared.lookup.Lookup.{Lookup}
use Rattle.layout_matching.specs.declared.rules.Rule.{Rule}
use Rattle.layout_matching.specs.declared.rules.Test.TheVariants.{Coverage}
use Rattle.layout_matching.specs.declared.spans.Span.{Span}
use Rattle.layout_matching.specs.declared.tried.Reach.{Reach}
use Rattle.layout_substitution.specs.Edits.{item_at, put_at, broken, concat_marked}
use Rattle.layout_substitution.specs.Replaced.{replaced}
use Rattle.layout_substitution.specs.Substitutes.{listed_count, listed_at}
use Rattle.layout_context.specs.declared.reverse.Reversal.{Reversal}

-- the lists of what stands before and after one glyph, and then the glyphs that replace it
abbrev pub reverse_rule : List ℕ → ℕ → Rule
reverse_rule t start =
    let before = row Coverage start (u16_of t (start + 4)) (start + 6) in
    let middle = start + 6 + 2 * before.count in
    let after = row Coverage start (u16_of t middle) (middle + 2) in
    record { before = before; input = row Coverage start 1 middle; after = after; lookups = middle + 2 + 2 * after.count; count = 0 }

abbrev pub reversal_at : List ℕ → Rule → ℕ → Span → Option Reversal
reversal_at t rule i span = if nat_lt i (listed_count t rule.lookups)
    then Some (record { glyph = listed_at t rule.lookups i; start = span.start; end = span.end }) else None

abbrev pub reversal_of : Lookup → List Item → ℕ → ℕ → ℕ → Option Reversal
reversal_of l items at start i = let rule = reverse_rule l.table.now start in
    option_and_then (reversal_at l.table.now rule i) (span_of l items (record { at = at; is_steady = true }) rule)

abbrev pub reversal_by : Lookup → List Item → ℕ → LookupSubtable → Option Reversal
reversal_by l items at subtable = if nat_eq subtable.kind 8 && nat_eq (u16_of l.table.now subtable.start) 1
    then option_and_then (reversal_of l items at subtable.start) (number_of l.table.now subtable.start (nth items at).glyph_id) else None

abbrev pub reversal_in : Lookup → List Item → ℕ → ℕ → Option Reversal
reversal_in l items at i = option_and_then (reversal_by l items at) (subtable_of l.table.now (extension_kind l) l.place i)

-- of the first subtable that has one
abbrev pub reversal_found : Lookup → List Item → ℕ → Option Reversal
reversal_found l items at = first_some (reversal_in l items at) (subtable_count_of l.table.now l.place) 0

-- what was looked at in vain after the glyph; where what stands before isn't there, HarfBuzz marks nothing
abbrev pub reversal_after_reach : Lookup → List Item → ℕ → Rule → ℕ → Reach
reversal_after_reach l items at rule start = let seek = seek_around l (nth items at) true rule.after in
    option_map_or (λ far. match_at at) (last_after l seek items rule.after.count at)
    (vain at start (after_end l seek items rule.after.count at))

abbrev pub reversal_reach_of : Lookup → List Item → ℕ → ℕ → ℕ → Reach
reversal_reach_of l items at start i = let rule = reverse_rule l.table.now start in
    (if nat_lt i (listed_count l.table.now rule.lookups)
    then option_map_or (reversal_after_reach l items at rule)
    (last_before l (seek_around l (nth items at) true rule.before) items rule.before.count at) (untried at)
    else untried at)

abbrev pub reversal_reach_by : Lookup → List Item → ℕ → LookupSubtable → Reach
reversal_reach_by l items at subtable = if nat_eq subtable.kind 8 && nat_eq (u16_of l.table.now subtable.start) 1
    then option_map_or (reversal_reach_of l items at subtable.start) (number_of l.table.now subtable.start (nth items at).glyph_id)
    (untried at)
    else untried at

abbrev pub reversal_reach_in : Lookup → List Item → ℕ → ℕ → Reach
reversal_reach_in l items at i = option_map_or (reversal_reach_by l items at) (subtable_at l i) (untried at)

abbrev pub reversal_reach : Lookup → List Item → ℕ → Reach
reversal_reach l items at = until_matched (reversal_reach_in l items at) (subtable_count_of l.table.now l.place) 0 (untried at)

abbrev pub reversed_by : Lookup → ℕ → Buffer → Reversal → Buffer
reversed_by l at b r = let c = broken r.start r.end b in put_at at (replaced l 0 r.glyph (item_at c at)) c

abbrev pub first_reversed : Lookup → ℕ → Buffer → Buffer
first_reversed l at b = option_map_or (reversed_by l at b) (reversal_found l b.items at) b

abbrev pub reversed_at : Lookup → ℕ → Buffer → Buffer
reversed_at l at b = if is_on l (item_at b at) then first_reversed l at (concat_marked (reversal_reach l b.items at) b) else b

-- the item before the place, and then the place is there; what is left for the lookups to come
pub record Backwards : Type 0 where
  pub buffer : Buffer
  pub at : ℕ
  pub left : ℕ

abbrev pub reversed_within : Lookup → Backwards → ℕ → Backwards
reversed_within l s left = record { buffer = reversed_at l (s.at - 1) s.buffer; at = s.at - 1; left = left }

-- where what is left suffices for what the lookup may try there, it is tried; else nothing is left
abbrev pub reverse_step : Lookup → Backwards → Backwards
reverse_step l s = if nat_eq s.at 0 then s
    else option_map_or (reversed_within l s) (lookup_charged l s.buffer.items (s.at - 1) s.left) (record s { at = s.at - 1; left = 0 })

abbrev pub reversed : Lookup → ℕ → Buffer → Backwards
reversed l left b = times (reverse_step l) (length b.items) (record { buffer = b; at = length b.items; left = left })

-- a lookup that goes backwards, by its type
abbrev pub is_reverse : Lookup → Bool
is_reverse l = option_map_or (λ subtable. nat_eq subtable.kind 8) (first_subtable l) false
