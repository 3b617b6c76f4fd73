-- Lookups over a buffer, one after the other.
use Rattle.std.specs.Prelude.{ℕ, pos, List, None, ◌+◌, ◌-◌, ◌<◌, ◌^◌, length, nat_lt, fold, if◌then◌else◌}
use Rattle.std.specs.Option.{option_map_or}
use Rattle.shape_common.specs.declared.positions.GlyphPosition.{GlyphPosition}
use Rattle.shape_items.specs.Buffer.{Buffer}
use Rattle.shape_buffer.specs.PositionWalks.{positions_mapped}
use Rattle.layout_matching.specs.Loops.{times}
use Rattle.layout_matching.specs.Skipping.{nth, is_on}
use Rattle.layout_matching.specs.Sought.{place_charged}
use Rattle.layout_matching.specs.Work.{walk_work}
use Rattle.layout_matching.specs.declared.lookup.Lookup.{Lookup}
use Rattle.layout_positions.specs.Nested.{LEVELS, origin_at, nested_placed}
use Rattle.layout_positions.specs.Subtables.{Placing}
use Rattle.layout_positions.specs.declared.bases.BaseSeen.{BaseSeen}

-- ---- before the first lookup: no glyph is attached to another one

abbrev pub unattached : GlyphPosition → GlyphPosition
unattached p = record p { attach_chain = pos 0; attach_type = 0 }

abbrev pub started : Buffer → Buffer
started = positions_mapped (λ _ p. unattached p)

-- ---- lookups

-- a buffer, and what is left for the lookups to come
pub record Budgeted : Type 0 where
  pub buffer : Buffer
  pub left : ℕ

pub record Walk : Type 0 where
  pub buffer : Buffer
  pub at : ℕ
  pub seen : BaseSeen
  pub left : ℕ

abbrev pub gone_on : ℕ → Placing → Walk
gone_on at made = record { buffer = made.buffer; at = option_map_or (λ next. next) made.next (at + 1); seen = made.seen; left = made.left }

-- where what is left suffices for what the lookup may try there, it is tried; else nothing is left
abbrev pub tried_within : Lookup → Walk → ℕ → Walk
tried_within l s left = gone_on s.at (nested_placed LEVELS l s.at left s.seen s.buffer)

abbrev pub tried : Lookup → Walk → Walk
tried l s = option_map_or (tried_within l s) (place_charged l s.buffer.items (origin_at s.at) s.left) (record s { at = s.at + 1; left = 0 })

-- at each place where the lookup is on it applies, or goes on to the next glyph
abbrev pub lookup_step : Lookup → Walk → Walk
lookup_step l s =
    if nat_lt s.at (length s.buffer.items)
    then (if is_on l (nth s.buffer.items s.at) then tried l s else record s { at = s.at + 1 })
    else s

abbrev pub none_seen : BaseSeen
none_seen = record { until = 0; place = None }

abbrev pub first_walk : Budgeted → Walk
first_walk s = record { buffer = s.buffer; at = 0; seen = none_seen; left = s.left }

abbrev pub gone_over : Budgeted → Lookup → Budgeted
gone_over s l = let end = times (lookup_step l) (length s.buffer.items) (first_walk s) in
    record { buffer = end.buffer; left = end.left }

-- a walk is charged for, whatever it finds; if what is left doesn't suffice, it isn't made, and nothing is left
abbrev pub walk_charged : Budgeted → Lookup → Budgeted
walk_charged s l = record s { left = s.left - walk_work l (length s.buffer.items) }

abbrev pub lookup_applied : Budgeted → Lookup → Budgeted
lookup_applied s l = if nat_lt s.left (walk_work l (length s.buffer.items)) then walk_charged s l else gone_over (walk_charged s l) l

-- lookups one after the other; all of them share what the stages of the run have left
abbrev pub budgeted : Buffer → Budgeted
budgeted b = record { buffer = b; left = b.max_ops }

abbrev pub settled_up : Budgeted → Buffer
settled_up s = record s.buffer { max_ops = s.left }

abbrev pub positioned : List Lookup → Buffer → Buffer
positioned lookups b = settled_up (fold lookup_applied (budgeted b) lookups)

-- a lookup of a list stands near the start of its table
abbrev pub HasPlace : Lookup → Type 0
HasPlace l = l.place < 2 ^ 17
