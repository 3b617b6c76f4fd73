-- The driver of a state table over a run (formats 1 and 4 of `kerx`, 1 of `kern`; TrueType Reference Manual, "Font Tables", "State tables"). The state
-- and the class of a glyph lead to an entry, which says what is done there, and which state is next. The next glyph is looked at then, or
-- the same one again ("don't advance"), which is charged for, so that a run ends.
use Prim.Native.Nat.{zero}
use Rattle.std.specs.Prelude.{ℕ, suc, Bool, true, false, ◌+◌, ◌-◌, ◌&&◌, ◌||◌, not, min, length, is_some, nat_eq, nat_le, if◌then◌else◌}
use Rattle.shape_items.specs.Buffer.{Buffer, most_countable}
use Rattle.shape_items.specs.BufferClusters.{unsafe_to_break}
use Rattle.apple_tables.specs.declared.states.Entry.{Entry}
use Rattle.apple_tables.specs.declared.states.TheConstants.{END_OF_TEXT}
use Rattle.kern_table.specs.Walk.{item_at}
use Rattle.apple_positioning.specs.Chains.{bit_of}
use Rattle.apple_positioning.specs.Deeds.{Deeds, Spot}
use Rattle.apple_positioning.specs.Layouts.{class_by, entry_by, first_by}
use Rattle.apple_positioning.specs.Runs.{Source, action_for}
use Rattle.apple_positioning.specs.declared.driver.Met.{Met}
use Rattle.apple_positioning.specs.declared.driver.Walk.{Walk}

-- ---- the entry of a glyph

abbrev pub is_at_end : ℕ → Buffer → Bool
is_at_end at b = nat_le (length b.items) at

-- the class of a glyph
unfoldable pub class_for : Source → ℕ → ℕ
class_for s glyph = class_by s.layout s.bytes s.glyphs glyph

-- the class of the current glyph, or of the end of the text
abbrev pub class_at : Source → ℕ → Buffer → ℕ
class_at s at b = if is_at_end at b then END_OF_TEXT else class_for s (item_at b.items at).glyph_id

-- the entry for a class in a state
unfoldable pub entry_for : Source → ℕ → ℕ → Entry
entry_for s state class = entry_by s.layout s.bytes state class

-- the state in which a text begins
unfoldable pub first_state : Source → ℕ
first_state s = first_by s.layout s.bytes

-- what a walk meets where it stands
unfoldable pub met_at : Source → Walk → Buffer → Met
met_at s walk b = let class = class_at s walk.at b in
    record { ends = is_at_end walk.at b; state = walk.state; class = class; entry = entry_for s walk.state class }

-- an entry does something if it names an action
abbrev pub is_actionable : Source → Entry → Bool
is_actionable s e = is_some (action_for s e)

-- flag 0x4000 of an entry, "don't advance": the same glyph is looked at again
abbrev pub stays : Entry → Bool
stays e = bit_of e.flags 0x4000

-- ---- where a text may be broken

-- two entries lead to the same state and to the same glyph
abbrev pub leads_alike : Entry → Entry → Bool
leads_alike e f = nat_eq e.next f.next && (if stays e then stays f else not (stays f))

-- a text that begins with the glyph does nothing there, and leads to the same
abbrev pub is_as_first : Source → Met → Bool
is_as_first s met = let first = entry_for s (first_state s) met.class in
    not (is_actionable s first) && leads_alike met.entry first

-- the text before a glyph doesn't count: the state is the first one, or the glyph is looked at again in the first state, or a text
-- that begins with the glyph leads to the same
abbrev pub is_apart : Source → Met → Bool
is_apart s met = nat_eq met.state (first_state s)
    || ((stays met.entry && nat_eq met.entry.next (first_state s)) || is_as_first s met)

-- a break before the glyph changes nothing: nothing is done at the glyph; the text before it doesn't count; and nothing would be
-- done at the end of a text there
abbrev pub is_safe_to_break : Source → Met → Bool
is_safe_to_break s met = not (is_actionable s met.entry)
    && (is_apart s met && not (is_actionable s (entry_for s met.state END_OF_TEXT)))

-- where it does, the glyph and the one before it are unsafe to break
unfoldable pub marked : Source → ℕ → Met → Buffer → Buffer
marked s at met b = if nat_eq at 0 || (met.ends || is_safe_to_break s met) then b else unsafe_to_break (at - 1) (at + 1) b

-- ---- a step

-- a walk over a list: the list, what the kind of subtable remembers, and the place and the state
pub record Drive (T : Type 0) : Type 0 where
  pub buffer : Buffer
  pub memory : T
  pub walk : Walk

-- what a look at a glyph costs: its class is searched for, and entries are read
abbrev pub STEP_WORK : ℕ
STEP_WORK = 16

-- the same glyph is looked at again if what is left of the run's work suffices for that
abbrev pub looks_again : Entry → ℕ → Buffer → Bool
looks_again e at b = not (is_at_end at b) && (stays e && nat_le STEP_WORK b.max_ops)

abbrev pub advanced_buffer : Entry → ℕ → Buffer → Buffer
advanced_buffer e at b = if looks_again e at b then record b { max_ops = b.max_ops - STEP_WORK } else b

-- the end of the text ends the walk
abbrev pub advanced_walk : Entry → Walk → Buffer → Walk
advanced_walk e walk b = if is_at_end walk.at b then record walk { state = e.next; has_ended = true }
    else (if looks_again e walk.at b then record walk { state = e.next } else record walk { at = walk.at + 1; state = e.next })

abbrev pub advanced : {T : Type 0} → Entry → Walk → Spot T → Drive T
advanced e walk p = record {
  buffer = advanced_buffer e walk.at p.buffer;
  memory = p.memory;
  walk = advanced_walk e walk p.buffer;
}

-- the deed of the entry is done between
unfoldable pub stepped : {T : Type 0} → Source → Deeds T → Drive T → Drive T
stepped s deeds d = let met = met_at s d.walk d.buffer in
    advanced met.entry d.walk
    (deeds.transition met.entry d.walk.at (record { buffer = marked s d.walk.at met d.buffer; memory = d.memory }))

-- ---- a walk

abbrev pub driven_on : {T : Type 0} → Source → Deeds T → ℕ → Drive T → Drive T
driven_on s deeds zero d = d
driven_on s deeds (suc n) d = driven_on s deeds n (if d.walk.has_ended then d else stepped s deeds d)

-- each step goes on to a glyph or is charged for, and one is the last
abbrev pub most_steps : Buffer → ℕ
most_steps b = min (length b.items + b.max_ops + 1) most_countable

abbrev pub first_drive : {T : Type 0} → Source → T → Buffer → Drive T
first_drive s memory b =
    record { buffer = b; memory = memory; walk = record { at = 0; state = first_state s; has_ended = false } }

abbrev pub driven : {T : Type 0} → Source → Deeds T → T → Buffer → Buffer
driven s deeds memory b = (driven_on s deeds (most_steps b) (first_drive s memory b)).buffer
