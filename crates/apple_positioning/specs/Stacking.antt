-- Contextual kerning of a run (format 1 of `kerx`, and of `kern`): what an entry does to the stack, and to the glyphs that it pops.
use Prim.Native.Nat.{zero}
use Rattle.std.specs.Prelude.{ℕ, suc, ℤ, pos, negsuc, List, Bool, true, false, ◌+◌, ◌-◌, ◌&&◌, not, min, length, nat_eq, nat_le, nat_lt}
use Rattle.std.specs.Prelude.{slice_index_or, slice_set, if◌then◌else◌}
use Rattle.std.specs.Option.{option_map_or}
use Rattle.std.specs.Ordering.{int_eq}
use Rattle.shape_common.specs.Direction.{is_horizontal}
use Rattle.shape_common.specs.Wrapping.{◌+ʷ◌}
use Rattle.shape_common.specs.declared.positions.GlyphPosition.{GlyphPosition}
use Rattle.shape_items.specs.Buffer.{Buffer}
use Rattle.apple_tables.specs.declared.states.Entry.{Entry}
use Rattle.kern_table.specs.Walk.{item_at, position_at, position_put}
use Rattle.apple_positioning.specs.Deeds.{Deeds, Spot}
use Rattle.apple_positioning.specs.Layouts.{empties, list_by, step_by}
use Rattle.apple_positioning.specs.Runs.{Source, action_for, header, is_on, to_right, upwards, with_attachment}
use Rattle.apple_positioning.specs.Stacks.{MOST_PUSHED, depth_after, pushes, value_at}
use Rattle.apple_positioning.specs.declared.stacking.Popping.{Popping}
use Rattle.apple_positioning.specs.declared.stacking.Stack.{Stack}

-- ---- the stack: the places of up to eight glyphs, that of the glyph that was pushed last at `depth - 1`

abbrev pub stack_after : Source → Entry → ℕ → Stack → Stack
stack_after s e at k = let depth = depth_after (empties s.layout e) (pushes e) (min k.depth MOST_PUSHED) in record {
  depth = depth;
  places = if pushes e && not (nat_eq depth 0) then slice_set k.places (depth - 1) at else k.places;
}

-- ---- a glyph that is popped

-- along the line it becomes wider and moves by the value, if kerning is on for it
abbrev pub widened : Source → Bool → ℤ → GlyphPosition → GlyphPosition
widened s true v p = record p { x_advance = p.x_advance +ʷ to_right s v; x_offset = p.x_offset +ʷ to_right s v }
widened s false v p = record p { y_advance = p.y_advance +ʷ upwards s v; y_offset = p.y_offset +ʷ upwards s v }

abbrev pub glyph_spaced : Source → ℕ → ℤ → Buffer → Buffer
glyph_spaced s i v b = if is_on s (item_at b.items i)
    then position_put i (widened s (is_horizontal b.direction) v (position_at b i)) b
    else b

-- across the line -32768 puts a glyph back on it, where it follows no other one
abbrev pub puts_back : ℤ → Bool
puts_back v = int_eq v (negsuc 32767)

abbrev pub put_back : Bool → GlyphPosition → GlyphPosition
put_back true p = record p { y_offset = pos 0; attach_chain = pos 0; attach_type = 0 }
put_back false p = record p { x_offset = pos 0; attach_chain = pos 0; attach_type = 0 }

-- another value moves it, and those that follow it, if it follows one
abbrev pub raised : Source → Bool → ℤ → GlyphPosition → GlyphPosition
raised s true v p = record p { y_offset = p.y_offset +ʷ upwards s v }
raised s false v p = record p { x_offset = p.x_offset +ʷ to_right s v }

abbrev pub glyph_raised : Source → ℕ → ℤ → Buffer → Buffer
glyph_raised s i v b = let along = is_horizontal b.direction in let p = position_at b i in
    (if puts_back v then position_put i (put_back along p) b
    else (if nat_eq p.attach_type 0 then b
    else with_attachment (position_put i (raised s along v p) b)))

abbrev pub glyph_popped : Source → ℕ → ℤ → Buffer → Buffer
glyph_popped s i v b = if (header s).is_cross_stream then glyph_raised s i v b else glyph_spaced s i v b

-- ---- an entry that names values pops glyphs, each with a value, until the value that is the last one

-- a list, and glyphs that are being popped: how many are left on the stack, and where the next value stands
pub record Popped : Type 0 where
  pub buffer : Buffer
  pub popping : Popping

abbrev pub next_pop : Source → Popping → Popping
next_pop s p = record p { depth = p.depth - 1; at = p.at + step_by s.layout s.bytes }

abbrev pub place_in : List ℕ → ℕ → ℕ
place_in places i = if nat_lt i (length places) then slice_index_or places i 0 else 0

-- one that was pushed at the end of the text has no place in the list, and its value doesn't count
unfoldable pub popped_one : Source → List ℕ → Popped → Popped
popped_one s places d =
    let place = place_in places (d.popping.depth - 1) in
    let value = value_at s.bytes d.popping.at in
    (if nat_le (length d.buffer.items) place then record d { popping = next_pop s d.popping }
    else record {
      buffer = glyph_popped s place value.by d.buffer;
      popping = record (next_pop s d.popping) { has_ended = value.is_last };
    })

abbrev pub popped : Source → List ℕ → ℕ → Popped → Popped
popped s places zero d = d
popped s places (suc n) d = popped s places n (if d.popping.has_ended then d else popped_one s places d)

-- ---- a transition

-- so many are left on the stack then
abbrev pub spot_after : Stack → Popped → Spot Stack
spot_after k d = record { buffer = d.buffer; memory = record k { depth = d.popping.depth } }

abbrev pub spot_popped : Source → Stack → ℕ → Buffer → Spot Stack
spot_popped s k at b = spot_after k
    (popped s k.places k.depth (record { buffer = b; popping = record { depth = k.depth; at = at; has_ended = false } }))

-- a subtable that lacks a value for one of them empties the stack
abbrev pub performed : Source → Stack → ℕ → Buffer → Spot Stack
performed s k index b = option_map_or (λ at. spot_popped s k at b) (list_by s.layout s.bytes index k.depth)
    (record { buffer = b; memory = record k { depth = 0 } })

abbrev pub transition : Source → Entry → ℕ → Spot Stack → Spot Stack
transition s e at p = let k = stack_after s e at p.memory in
    option_map_or (λ index. performed s k index p.buffer) (action_for s e) (record { buffer = p.buffer; memory = k })

abbrev pub deeds : Source → Deeds Stack
deeds s = record { transition = transition s }
