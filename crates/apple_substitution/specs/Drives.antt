-- The driver of an extended state table over a list (TrueType Reference Manual, "The 'morx' table", "State tables"). The state and
-- the class of a glyph lead to an entry, which says what is done there, and which state is next. The next glyph is looked at then,
-- or the same one again ("don't advance"), which is charged for, so that a walk ends.
use Prim.Native.Nat.{zero}
use Rattle.std.specs.Prelude.{ℕ, suc, Bool, true, false, ◌+◌, ◌-◌, ◌&&◌, ◌||◌, not, min, length, nat_eq, nat_le, nat_lt, if◌then◌else◌}
use Rattle.shape_items.specs.Buffer.{Buffer, most_countable}
use Rattle.apple_tables.specs.States.{class_of, entry_of}
use Rattle.apple_tables.specs.declared.states.Entry.{Entry}
use Rattle.apple_tables.specs.declared.states.TheConstants.{END_OF_TEXT, START_OF_TEXT}
use Rattle.apple_substitution.specs.Driver.{Spot, Actions, Rules}
use Rattle.apple_substitution.specs.Edits.{item_at, broken, charged, is_past}
use Rattle.apple_substitution.specs.Ranges.{STEP_WORK, is_on, shares, walk_work}
use Rattle.apple_substitution.specs.declared.driver.Machine.{Machine}
use Rattle.apple_substitution.specs.declared.driver.Met.{Met}
use Rattle.apple_substitution.specs.declared.driver.Walk.{Walk}

-- a walk over a list: the list, what the kind of subtable remembers, and the place and the state
pub record Drive (T : Type 0) : Type 0 where
  pub buffer : Buffer
  pub memory : T
  pub walk : Walk

-- ---- the entry of a glyph

abbrev pub rules_of : Machine → Rules
rules_of m = record {
  class = class_of m.states.table.now m.states.start m.states.glyphs;
  entry = entry_of m.states.table.now m.states.start m.states.entry_size;
  is_on = is_on m.ranges.list.now m.ranges.wanted;
}

abbrev pub is_at_end : ℕ → Buffer → Bool
is_at_end at b = nat_le (length b.items) at

-- the class of the current glyph, or of the end of the text
abbrev pub class_at : Rules → ℕ → Buffer → ℕ
class_at r at b = if is_at_end at b then END_OF_TEXT else r.class (item_at b at).glyph_id

-- what a walk meets where it stands
abbrev pub met_at : Rules → Walk → Buffer → Met
met_at r walk b = let class = class_at r walk.at b in
    record { ends = is_at_end walk.at b; state = walk.state; class = class; entry = r.entry walk.state class }

-- flag 0x4000 of an entry, "don't advance": the same glyph is looked at again
abbrev pub stays : Entry → Bool
stays e = shares e.flags 0x4000

-- ---- where a text may be broken

-- two entries lead to the same state and to the same glyph
abbrev pub leads_alike : Entry → Entry → Bool
leads_alike e f = nat_eq e.next f.next && (if stays e then stays f else not (stays f))

-- a text that begins with the glyph does nothing there, and leads to the same
abbrev pub is_as_first : {T : Type 0} → Rules → Actions T → T → Met → Bool
is_as_first r a memory met = let first = r.entry START_OF_TEXT met.class in
    not (a.is_actionable met.ends memory first) && leads_alike met.entry first

-- the text before a glyph doesn't count: the state is the first one, or the glyph is looked at again in the first state, or a text
-- that begins with the glyph leads to the same
abbrev pub is_apart : {T : Type 0} → Rules → Actions T → T → Met → Bool
is_apart r a memory met = nat_eq met.state START_OF_TEXT
    || ((stays met.entry && nat_eq met.entry.next START_OF_TEXT) || is_as_first r a memory met)

-- a break before the glyph changes nothing: nothing is done at the glyph; the text before it doesn't count; and nothing would be
-- done at the end of a text there
abbrev pub is_safe_to_break : {T : Type 0} → Rules → Actions T → T → Met → Bool
is_safe_to_break r a memory met = not (a.is_actionable met.ends memory met.entry)
    && (is_apart r a memory met && not (a.is_actionable met.ends memory (r.entry met.state END_OF_TEXT)))

-- where it does, the glyph and the one before it are unsafe to break
abbrev pub marked : {T : Type 0} → Rules → Actions T → T → ℕ → Met → Buffer → Buffer
marked r a memory at met b = if nat_eq at 0 || (met.ends || is_safe_to_break r a memory met) then b else broken (at - 1) (at + 1) b

-- ---- a step

abbrev pub ended : Walk → Walk
ended walk = record walk { has_ended = true }

-- the same glyph is looked at again if what is left suffices for that
abbrev pub looks_again : Entry → Walk → Buffer → Bool
looks_again e walk b = not (is_at_end walk.at b) && (stays e && nat_le STEP_WORK b.max_ops)

-- after a transition the end of the text ends the walk
abbrev pub advanced_walk : Entry → Walk → Buffer → Walk
advanced_walk e walk b = if is_at_end walk.at b then ended walk
    else (if looks_again e walk b then walk else record walk { at = walk.at + 1 })

abbrev pub advanced : {T : Type 0} → Entry → Drive T → Drive T
advanced e d = record {
  buffer = if looks_again e d.walk d.buffer then charged STEP_WORK d.buffer else d.buffer;
  memory = d.memory;
  walk = advanced_walk e d.walk d.buffer;
}

abbrev pub drive_at : {T : Type 0} → Walk → ℕ → Spot T → Drive T
drive_at walk state s = record { buffer = s.buffer; memory = s.memory; walk = record walk { at = s.at; state = state } }

abbrev pub transited : {T : Type 0} → Actions T → Entry → Drive T → Drive T
transited a e d = drive_at d.walk e.next (a.transition e (record { buffer = d.buffer; at = d.walk.at; memory = d.memory }))

unfoldable pub entered : {T : Type 0} → Rules → Actions T → Drive T → Drive T
entered r a d = let met = met_at r d.walk d.buffer in
    advanced met.entry (transited a met.entry (record d { buffer = marked r a d.memory d.walk.at met d.buffer }))

-- where features don't have the subtable on, a glyph is passed, and the next one is as at the start of a text
abbrev pub passed : Walk → Buffer → Walk
passed walk b = if is_at_end walk.at b then ended walk else record walk { at = walk.at + 1; state = START_OF_TEXT }

-- at the end of the text the features of the last glyph count
abbrev pub looked_at : Rules → Walk → Buffer → Walk
looked_at r walk b = if is_at_end walk.at b then walk
    else record walk { is_on = r.is_on (item_at b walk.at).cluster }

unfoldable pub gone_on : {T : Type 0} → Rules → Actions T → Drive T → Drive T
gone_on r a d = if d.walk.is_on then entered r a d else record d { walk = passed d.walk d.buffer }

-- past the limit of the run nothing is done any more
unfoldable pub step : {T : Type 0} → Rules → Actions T → Drive T → Drive T
step r a d = if d.walk.has_ended || is_past d.buffer then d
    else gone_on r a (record d { walk = looked_at r d.walk d.buffer })

-- ---- a walk

abbrev pub drive_on : {T : Type 0} → Rules → Actions T → ℕ → Drive T → Drive T
drive_on r a zero d = d
drive_on r a (suc n) d = drive_on r a n (step r a d)

-- each step goes on to a glyph or is charged for, and one is the last
abbrev pub most_steps : Buffer → ℕ
most_steps b = min (length b.items + b.max_ops + 1) most_countable

abbrev pub first_drive : {T : Type 0} → T → Buffer → Drive T
first_drive memory b = record {
  buffer = b;
  memory = memory;
  walk = record { at = 0; state = START_OF_TEXT; is_on = true; has_ended = false };
}

abbrev pub walked : {T : Type 0} → Rules → Actions T → T → Buffer → Buffer
walked r a memory b = (drive_on r a (most_steps b) (first_drive memory b)).buffer

-- a walk is charged for; if what is left doesn't suffice, it isn't made, and nothing is left
abbrev pub driven_by : {T : Type 0} → Rules → ℕ → Actions T → T → Buffer → Buffer
driven_by r ranges a memory b = let work = walk_work ranges b in
    (if nat_lt b.max_ops work then charged work b else walked r a memory (charged work b))

abbrev pub driven : {T : Type 0} → Machine → Actions T → T → Buffer → Buffer
driven m a memory b = driven_by (rules_of m) (length m.ranges.list.now) a memory b
