-- Lookups over a buffer, nested ones included, and stages of lookups.
use Rattle.std.specs.Prelude.{ℕ, List, [], ◌∷◌, ◌+◌, ◌-◌, ◌<◌, ◌^◌, length, nat_lt, if◌then◌else◌}
use Rattle.std.specs.Option.{unwrap_or, option_map_or}
use Rattle.shape_items.specs.Buffer.{Buffer}
use Rattle.layout_matching.specs.Loops.{times}
use Rattle.layout_matching.specs.Skipping.{is_on}
use Rattle.layout_matching.specs.Work.{walk_work}
use Rattle.layout_matching.specs.declared.lookup.Lookup.{Lookup}
use Rattle.layout_substitution.specs.Applied.{Applied}
use Rattle.layout_substitution.specs.Edits.{item_at, is_inside, is_past}
use Rattle.layout_substitution.specs.declared.apply.Spot.{Spot}
use Rattle.layout_context.specs.Nested.{nested_applied, origin_of, place_charged}
use Rattle.layout_context.specs.Reverse.{Backwards, is_reverse, reversed}

-- a buffer, and where a lookup stands in it
pub record Walk : Type 0 where
  pub buffer : Buffer
  pub spot : Spot

-- to the next item
abbrev pub next_spot : Spot → Spot
next_spot spot = record spot { at = spot.at + 1 }

abbrev pub passed : Walk → Walk
passed s = record { buffer = s.buffer; spot = next_spot s.spot }

abbrev pub gone_on : Walk → Applied → Walk
gone_on s made = record { buffer = made.buffer; spot = unwrap_or made.next (next_spot s.spot) }

-- where what is left suffices for what the lookup may try there, it is tried; else nothing is left
abbrev pub with_left : ℕ → Walk → Walk
with_left left s = record s { spot = record s.spot { left = left } }

abbrev pub tried_within : (Spot → Buffer → Applied) → Walk → ℕ → Walk
tried_within applied s left = let t = with_left left s in gone_on t (applied t.spot t.buffer)

abbrev pub tried : (Spot → Buffer → Applied) → Lookup → Walk → Walk
tried applied l s =
    option_map_or (tried_within applied s) (place_charged l s.buffer.items (origin_of s.spot s.buffer) s.spot.left)
    (passed (with_left 0 s))

-- at each place the lookup applies or goes on to the next item; past the limit of the run nothing is done any more
abbrev pub lookup_step : (Spot → Buffer → Applied) → Lookup → Walk → Walk
lookup_step applied l s =
    if is_past s.buffer then s
    else (if is_inside s.spot.at s.buffer then
    (if is_on l (item_at s.buffer s.spot.at) then tried applied l s else passed s)
    else s)

abbrev pub first_walk : Walk → Walk
first_walk s = record { buffer = s.buffer; spot = record s.spot { at = 0; whole = length s.buffer.items } }

-- from the first item on; each step leaves fewer items ahead
abbrev pub walked : (Spot → Buffer → Applied) → Lookup → Walk → Walk
walked applied l s = times (lookup_step applied l) (length s.buffer.items) (first_walk s)

abbrev pub gone_back : Walk → Backwards → Walk
gone_back s end = record { buffer = end.buffer; spot = record s.spot { left = end.left } }

abbrev pub gone_over : ℕ → Lookup → Walk → Walk
gone_over levels l s = if is_reverse l then gone_back s (reversed l s.spot.left s.buffer) else walked (nested_applied levels l) l s

-- a walk is charged for, whatever it finds; if what is left doesn't suffice, it isn't made, and nothing is left
abbrev pub walk_charged : Lookup → Walk → Walk
walk_charged l s = with_left (s.spot.left - walk_work l (length s.buffer.items)) s

abbrev pub looked_up : ℕ → Lookup → Walk → Walk
looked_up levels l s = if nat_lt s.spot.left (walk_work l (length s.buffer.items)) then walk_charged l s
    else gone_over levels l (walk_charged l s)

-- lookups one after the other
abbrev pub all_looked_up : ℕ → List Lookup → Walk → Walk
all_looked_up levels [] s = s
all_looked_up levels (l ∷ ls) s = all_looked_up levels ls (looked_up levels l s)

-- the random state of a stage begins with 1; all stages of a run share what it may ask for
abbrev pub stage_begun : Buffer → Walk
stage_begun b = record { buffer = b; spot = record { at = 0; random = 1; left = b.max_ops; whole = 0 } }

abbrev pub stage_ended : Walk → Buffer
stage_ended s = record s.buffer { max_ops = s.spot.left }

abbrev pub stage_made : ℕ → List Lookup → Buffer → Buffer
stage_made levels ls b = stage_ended (all_looked_up levels ls (stage_begun b))

-- a lookup over the text names others, and these others again, 64 levels deep
abbrev pub most_levels : ℕ
most_levels = 65

unfoldable pub substituted : List Lookup → Buffer → Buffer
substituted ls = stage_made most_levels ls

-- a lookup of a list stands near the start of its table
abbrev pub HasPlace : Lookup → Type 0
HasPlace l = l.place < 2 ^ 17
