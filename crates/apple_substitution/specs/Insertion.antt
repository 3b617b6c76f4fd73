-- Insertion subtables (TrueType Reference Manual, "The 'morx' table", "Glyph Insertion Subtable"): glyphs of a list are inserted before
-- or after a marked glyph, and before or after the current one.
use Prim.Native.Nat.{zero}
use Rattle.std.specs.Prelude.{ℕ, suc, List, Bool, ◌+◌, ◌-◌, ◌*◌, ◌/◌, ◌%◌, ◌&&◌, ◌||◌, not}
use Rattle.std.specs.Prelude.{insert, min, length, nat_eq, nat_le, nat_lt, if◌then◌else◌}
use Rattle.shape_common.specs.Positions.{zero_position}
use Rattle.shape_font.specs.Bytes.{u16_of, u32_of}
use Rattle.shape_items.specs.Buffer.{Buffer, most_countable}
use Rattle.shape_items.specs.Items.{Item}
use Rattle.apple_tables.specs.declared.states.Entry.{Entry}
use Rattle.apple_substitution.specs.Driver.{Actions, Spot}
use Rattle.apple_substitution.specs.Edits.{broken, charged, item_at}
use Rattle.apple_substitution.specs.Ranges.{STEP_WORK, shares}
use Rattle.apple_substitution.specs.declared.insertion.Wanted.{Wanted}

-- ---- what an entry asks for

-- the data of an entry: which glyph of the list is the first one beside the current glyph, and which one beside the marked glyph;
-- 0xFFFF is none. Its flags say how many glyphs these are, and on which side they go
abbrev pub NONE : ℕ
NONE = 0xFFFF

abbrev pub current_of : List ℕ → Entry → Wanted
current_of t e = record { index = u16_of t e.at; count = e.flags / 32 % 32; is_before = shares e.flags 0x0800 }

abbrev pub marked_of : List ℕ → Entry → Wanted
marked_of t e = record { index = u16_of t (e.at + 2); count = e.flags % 32; is_before = shares e.flags 0x0400 }

abbrev pub is_actionable : List ℕ → Bool → ℕ → Entry → Bool
is_actionable t ends mark e = shares e.flags 0x03FF
    && (not (nat_eq (current_of t e).index NONE) || not (nat_eq (marked_of t e).index NONE))

-- after the header of the state table the subtable says where the list begins, from its own start
abbrev pub place_of : List ℕ → ℕ → Wanted → ℕ
place_of t start w = start + u32_of t (start + 16) + 2 * w.index

-- how many glyphs are inserted: none if the table lacks one of them
abbrev pub count_of : List ℕ → ℕ → Wanted → ℕ
count_of t start w = if nat_eq w.index NONE then 0
    else (if nat_le (place_of t start w + 2 * w.count) (length t) then w.count else 0)

-- ---- an insertion

abbrev pub insert_at : ℕ → Item → Buffer → Buffer
insert_at at item b = if nat_le at (length b.items)
    then record b { items = insert b.items at item; positions = insert b.positions at zero_position }
    else b

-- an inserted glyph is in all else as the glyph that it stands beside
abbrev pub copy : List ℕ → ℕ → Item → Item
copy t from item = record item { glyph_id = u16_of t from }

-- n glyphs of a list, the last one first, since each goes before those that are there
abbrev pub inserted : List ℕ → ℕ → Item → ℕ → ℕ → Buffer → Buffer
inserted t from item at zero b = b
inserted t from item at (suc n) b = inserted t from item at n (insert_at at (copy t (from + 2 * n) item) b)

abbrev pub is_inside : ℕ → Buffer → Bool
is_inside at b = nat_lt at (length b.items)

-- beside a glyph; at the end of the text after the last one
abbrev pub model_at : ℕ → Buffer → Item
model_at at b = if is_inside at b then item_at b at else item_at b (at - 1)

abbrev pub side_of : Wanted → ℕ → Buffer → ℕ
side_of w at b = if is_inside at b && not w.is_before then at + 1 else at

-- an empty list has no glyph that another one could stand beside
unfoldable pub inserted_beside : List ℕ → ℕ → Wanted → ℕ → Buffer → Buffer
inserted_beside t start w at b = if nat_eq (length b.items) 0 then b
    else inserted t (place_of t start w) (model_at at b) (side_of w at b) (count_of t start w) b

-- so far on, no further than the end of the list
abbrev pub place_after : ℕ → ℕ → Buffer → ℕ
place_after at n b = min (at + n) (length b.items)

-- ---- a transition

-- a list, and the place where a walk stands
pub record Placed : Type 0 where
  pub buffer : Buffer
  pub at : ℕ

-- each inserted glyph costs a step
abbrev pub work_of : Wanted → ℕ → ℕ
work_of w span = if nat_eq w.index NONE then 0 else min (w.count * STEP_WORK + span) most_countable

-- from the marked glyph up to the current one the text is unsafe to break if glyphs are asked for there
abbrev pub marked_broken : Wanted → ℕ → ℕ → Buffer → Buffer
marked_broken w mark at b = if nat_eq w.index NONE then b else broken mark (min (at + 1) (length b.items)) b

abbrev pub marked_done : List ℕ → ℕ → Wanted → ℕ → ℕ → Buffer → Placed
marked_done t start w mark at b = let b' = inserted_beside t start w mark (marked_broken w mark at b) in
    record { buffer = b'; at = place_after at (count_of t start w) b' }

-- the current glyph is passed with those that go beside it, unless the same place is looked at again
abbrev pub place_then : ℕ → Entry → ℕ → Buffer → ℕ
place_then n e at b = if shares e.flags 0x4000 then at else place_after at n b

abbrev pub current_inserted : List ℕ → ℕ → Wanted → Entry → Placed → Placed
current_inserted t start w e p = let b = inserted_beside t start w p.at p.buffer in
    record { buffer = b; at = place_then (count_of t start w) e p.at b }

unfoldable pub current_done : List ℕ → ℕ → Wanted → Entry → Placed → Placed
current_done t start w e p = let q = record p { buffer = charged (work_of w 0) p.buffer } in
    (if nat_lt p.buffer.max_ops (work_of w 0) then q else current_inserted t start w e q)

-- flag 0x8000 marks the place of the current glyph, as it was before insertions
abbrev pub mark_after : Entry → ℕ → ℕ → ℕ
mark_after e at mark = if shares e.flags 0x8000 then at else mark

abbrev pub spot_of : Placed → ℕ → Spot ℕ
spot_of p mark = record { buffer = p.buffer; at = p.at; memory = mark }

-- what lies between the marked glyph and the current one costs as much again; if what is left doesn't suffice, nothing more is done
abbrev pub span_work : Wanted → ℕ → ℕ → Buffer → ℕ
span_work w mark at b = work_of w (min (at + 1) (length b.items) - mark)

abbrev pub both_done : List ℕ → ℕ → Entry → ℕ → ℕ → Buffer → Placed
both_done t start e mark at b =
    current_done t start (current_of t e) e (marked_done t start (marked_of t e) mark at b)

abbrev pub transition : List ℕ → ℕ → Entry → Spot ℕ → Spot ℕ
transition t start e s = let work = span_work (marked_of t e) s.memory s.at s.buffer in
    let b = charged work s.buffer in
    (if nat_lt s.buffer.max_ops work then record s { buffer = b }
    else spot_of (both_done t start e s.memory s.at b) (mark_after e s.at s.memory))

abbrev pub actions : List ℕ → ℕ → Actions ℕ
actions t start = record { is_actionable = is_actionable t; transition = transition t start }
