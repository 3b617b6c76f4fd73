-- Ligature subtables (TrueType Reference Manual, "The 'morx' table", "Ligature Subtable"): entries push glyphs onto a stack of
-- components, and lead to a list of actions. Each action pops a component, and adds up what a table has for its glyph; the ligature of
-- the sum stands in place of the component that was popped last, and the others are deleted.
use Prim.Native.Nat.{zero}
use Rattle.std.specs.Prelude.{ℕ, suc, List, Bool, true, false, Option, Some, None, ◌+◌, ◌-◌, ◌*◌, ◌%◌, ◌&&◌}
use Rattle.std.specs.Prelude.{min, length, nat_eq, nat_le, nat_lt, slice_index, slice_set, if◌then◌else◌}
use Rattle.std.specs.Option.{option_map_or}
use Rattle.shape_common.specs.declared.text_types.BufferClusterLevel.TheVariants.{MonotoneGraphemes, MonotoneCharacters, Characters}
use Rattle.shape_font.specs.Bytes.{u16_of, u32_of}
use Rattle.shape_items.specs.Buffer.{Buffer, most_countable}
use Rattle.shape_items.specs.Items.{Item}
use Rattle.apple_tables.specs.declared.states.Entry.{Entry}
use Rattle.apple_tables.specs.declared.states.TheConstants.{DELETED_GLYPH}
use Rattle.apple_substitution.specs.Driver.{Actions, Spot}
use Rattle.apple_substitution.specs.Edits.{charged, item_at, merged, put_at}
use Rattle.apple_substitution.specs.Ranges.{STEP_WORK, shares}
use Rattle.apple_substitution.specs.declared.ligature.Popping.{Popping}
use Rattle.apple_substitution.specs.declared.ligature.Stack.{Stack}

-- ---- the stack

-- the last 64 components are remembered: the place of component n stands at n % 64
abbrev pub MOST_PLACES : ℕ
MOST_PLACES = 64

abbrev pub place_in : List ℕ → ℕ → ℕ
place_in places n = slice_index places (n % MOST_PLACES)

-- a glyph that was pushed last isn't pushed again
abbrev pub count_below : ℕ → Stack → ℕ
count_below at stack = if nat_lt 0 stack.count && nat_eq (place_in stack.places (stack.count - 1)) at
    then stack.count - 1
    else stack.count

abbrev pub pushed : ℕ → Stack → Stack
pushed at stack = let n = count_below at stack in
    record { count = min (n + 1) most_countable; places = slice_set stack.places (n % MOST_PLACES) at }

-- flag 0x8000 pushes the current glyph, and flag 0x2000 leads to actions
abbrev pub stack_after : Entry → ℕ → Stack → Stack
stack_after e at stack = if shares e.flags 0x8000 then pushed at stack else stack

abbrev pub is_actionable : Bool → Stack → Entry → Bool
is_actionable ends stack e = shares e.flags 0x2000

-- ---- what the table has, where it has all of its bytes. Three lists follow the header of the state table, which says where each
-- begins: actions of four bytes, numbers of components, and ligatures, of two bytes

abbrev pub long_in : List ℕ → ℕ → Option ℕ
long_in t at = if nat_le (at + 4) (length t) then Some (u32_of t at) else None

abbrev pub word_in : List ℕ → ℕ → Option ℕ
word_in t at = if nat_le (at + 2) (length t) then Some (u16_of t at) else None

-- the data of an entry: its first action
abbrev pub action_of : List ℕ → ℕ → Entry → ℕ
action_of t start e = start + u32_of t (start + 16) + 4 * u16_of t e.at

-- an action has flags, and in 30 bits, in two's complement, how far the number for glyph 0 is from the first one
abbrev pub STORES : ℕ
STORES = 0xC0000000

abbrev pub LAST : ℕ
LAST = 0x80000000

abbrev pub distance_of : ℕ → ℕ
distance_of action = let n = action % 0x40000000 in (if nat_lt n 0x20000000 then n else n + 0xC0000000)

abbrev pub component_of : List ℕ → ℕ → ℕ → ℕ → Option ℕ
component_of t start action glyph =
    word_in t (start + u32_of t (start + 20) + 2 * ((glyph + distance_of action) % 0x100000000))

abbrev pub ligature_of : List ℕ → ℕ → ℕ → Option ℕ
ligature_of t start sum = word_in t (start + u32_of t (start + 24) + 2 * sum)

-- ---- what becomes of components

-- a deleted glyph stays until the end of a run, and is as one that is ignored
abbrev pub deleted : Item → Item
deleted item = record item { glyph_id = DELETED_GLYPH; properties = record item.properties { ignorable = true } }

abbrev pub deleted_at : ℕ → Buffer → Buffer
deleted_at at b = put_at at (deleted (item_at b at)) b

-- n components from number k on
abbrev pub deleted_from : List ℕ → ℕ → ℕ → Buffer → Buffer
deleted_from places k zero b = b
deleted_from places k (suc n) b = deleted_from places (k + 1) n (deleted_at (place_in places k) b)

-- the clusters of a span merged at the monotone levels alone
abbrev pub out_merged : ℕ → ℕ → Buffer → Buffer
out_merged start end b = elim b.cluster_level [
  | MonotoneGraphemes ↦ merged start end b
  | MonotoneCharacters ↦ merged start end b
  | Characters ↦ b
]

abbrev pub ligature_at : ℕ → ℕ → Buffer → Buffer
ligature_at at glyph b = put_at at (record (item_at b at) { glyph_id = glyph }) b

-- ---- an action

-- actions under way, and the list
pub record Popped : Type 0 where
  pub buffer : Buffer
  pub popping : Popping

abbrev pub over : Popping → Buffer → Popped
over p b = record { buffer = b; popping = record p { has_ended = true } }

-- component p.cursor - 1 was popped, the next one is below it
abbrev pub next_pop : Popping → Popping
next_pop p = record p { cursor = p.cursor - 1; action = p.action + 4 }

abbrev pub first_of : List ℕ → Popping → ℕ
first_of places p = place_in places (p.cursor - 1)

abbrev pub end_of : List ℕ → Popping → Buffer → ℕ
end_of places p b = min (place_in places (p.count - 1) + 1) (length b.items)

-- a ligature in place of the component that was popped last; those that were popped before are deleted, and the clusters of all merge
unfoldable pub ligated : List ℕ → ℕ → Popping → Buffer → Buffer
ligated places glyph p b = out_merged (first_of places p) (end_of places p b)
    (deleted_from places p.cursor (p.count - p.cursor) (ligature_at (first_of places p) glyph b))

-- the ligature stays on the stack. Each glyph of the span is charged for; if what is left doesn't suffice, nothing is done, and
-- nothing is left
abbrev pub stored : List ℕ → ℕ → ℕ → Popping → Buffer → Popped
stored places action glyph p b = let work = end_of places p b - first_of places p in
    (if nat_lt b.max_ops work then over p (charged work b) else record {
      buffer = ligated places glyph p (charged work b);
      popping = next_pop (record p { count = p.cursor; has_ended = shares action LAST });
    })

-- the number of a component is added, and an action that stores or is the last one makes a ligature; what the table lacks ends it
unfoldable pub added : List ℕ → ℕ → List ℕ → ℕ → ℕ → Popping → Buffer → Popped
added t start places action number p b = let q = record p { sum = (p.sum + number) % 0x100000000 } in
    (if shares action STORES
    then option_map_or (λ glyph. stored places action glyph q b) (ligature_of t start q.sum) (over q b)
    else record { buffer = b; popping = next_pop q })

abbrev pub acted : List ℕ → ℕ → List ℕ → ℕ → Popping → Buffer → Popped
acted t start places action p b = option_map_or (λ number. added t start places action number p b)
    (component_of t start action (item_at b (first_of places p)).glyph_id) (over p b)

-- a component is popped, for a step's cost
unfoldable pub popped_one : List ℕ → ℕ → List ℕ → Popped → Popped
popped_one t start places s = let b = charged STEP_WORK s.buffer in
    (if nat_lt s.buffer.max_ops STEP_WORK then over s.popping b
    else option_map_or (λ action. acted t start places action s.popping b) (long_in t s.popping.action) (over s.popping b))

abbrev pub popped : List ℕ → ℕ → List ℕ → ℕ → Popped → Popped
popped t start places zero s = s
popped t start places (suc n) s = popped t start places n
    (if s.popping.has_ended then s else popped_one t start places s)

-- ---- a transition

abbrev pub first_pop : List ℕ → ℕ → Entry → Stack → Popping
first_pop t start e stack =
    record { cursor = stack.count; count = stack.count; action = action_of t start e; sum = 0; has_ended = false }

-- actions that pop more than was pushed empty the stack
abbrev pub stack_left : Popping → Stack → Stack
stack_left p stack = record stack { count = if p.has_ended then p.count else 0 }

abbrev pub performed : List ℕ → ℕ → Entry → Stack → Buffer → Popped
performed t start e stack b =
    popped t start stack.places stack.count (record { buffer = b; popping = first_pop t start e stack })

abbrev pub spot_after : ℕ → Stack → Popped → Spot Stack
spot_after at stack p = record { buffer = p.buffer; at = at; memory = stack_left p.popping stack }

-- at the end of the text no action is performed
abbrev pub performs : Entry → ℕ → Buffer → Bool
performs e at b = shares e.flags 0x2000 && nat_lt at (length b.items)

abbrev pub transition : List ℕ → ℕ → Entry → Spot Stack → Spot Stack
transition t start e s = let stack = stack_after e s.at s.memory in
    (if performs e s.at s.buffer then spot_after s.at stack (performed t start e stack s.buffer)
    else record { buffer = s.buffer; at = s.at; memory = stack })

abbrev pub actions : List ℕ → ℕ → Actions Stack
actions t start = record { is_actionable = is_actionable; transition = transition t start }
