-- Attachment in a run (format 4 of `kerx`): what an entry does to the current glyph, by the glyph that was marked before.
use Rattle.std.specs.Prelude.{ℕ, ℤ, pos, neg_ℤ, Bool, true, false, Option, Some, None, ◌-◌, length, nat_lt, if◌then◌else◌}
use Rattle.std.specs.Option.{option_and_then, option_map_or}
use Rattle.shape_common.specs.declared.positions.GlyphPosition.{GlyphPosition}
use Rattle.shape_items.specs.Buffer.{Buffer}
use Rattle.apple_tables.specs.declared.states.Entry.{Entry}
use Rattle.kern_table.specs.Walk.{item_at, position_at, position_put}
use Rattle.apple_positioning.specs.Anchors.{anchor_of}
use Rattle.apple_positioning.specs.Attachments.{action_of, apart}
use Rattle.apple_positioning.specs.Chains.{bit_of}
use Rattle.apple_positioning.specs.Deeds.{Deeds, Spot}
use Rattle.apple_positioning.specs.Runs.{Source, action_for, to_right, upwards, with_attachment}
use Rattle.apple_positioning.specs.declared.anchors.Anchor.{Anchor}
use Rattle.apple_positioning.specs.declared.attachments.Action.{Action}
use Rattle.apple_positioning.specs.declared.attachments.Numbers.{Numbers}
use Rattle.apple_positioning.specs.declared.attachments.Places.{Places}
use Rattle.apple_positioning.specs.declared.attachments.Action.TheVariants.{ControlPoints, AnchorPoints, Coordinates, Attached}

-- ---- where an action puts the current glyph

-- a point at the size of the font
abbrev pub sized : Source → Anchor → Anchor
sized s a = record { x = to_right s a.x; y = upwards s a.y }

-- its point comes to that of the marked glyph
abbrev pub moved_to : Source → Places → GlyphPosition → GlyphPosition
moved_to s q p = let d = apart (sized s q.marked) (sized s q.current) in record p { x_offset = d.x; y_offset = d.y }

-- two anchor points, by the numbers of their glyphs
abbrev pub anchors_of : Source → Numbers → ℕ → ℕ → Places
anchors_of s n marked current =
    record { marked = anchor_of s.ankr s.glyphs marked n.marked; current = anchor_of s.ankr s.glyphs current n.current }

-- no outline has points for HarfBuzz's own functions of fonts: an action by control points isn't done
abbrev pub put_by : Source → Action → ℕ → ℕ → GlyphPosition → Option GlyphPosition
put_by s (ControlPoints n) marked current p = None
put_by s (AnchorPoints n) marked current p = Some (moved_to s (anchors_of s n marked current) p)
put_by s (Coordinates q) marked current p = Some (moved_to s q p)
put_by s Attached marked current p = Some p

-- ---- what it is attached to: the distance to the marked glyph; 0, not attached, if it is past 16 bits

abbrev pub chain_to : ℕ → ℕ → ℤ
chain_to i j = if nat_lt j i then (if nat_lt 32767 (i - j) then pos 0 else neg_ℤ (pos (i - j)))
    else (if nat_lt 32767 (j - i) then pos 0 else pos (j - i))

-- it follows that one as a mark
abbrev pub hung : ℤ → GlyphPosition → GlyphPosition
hung chain p = record p { attach_chain = chain; attach_type = 1 }

abbrev pub glyph_hung : ℕ → ℕ → GlyphPosition → Buffer → Buffer
glyph_hung at mark p b = with_attachment (position_put at (hung (chain_to at mark) p) b)

-- ---- what is done: a list, and whether all was done that was asked

pub record Acted : Type 0 where
  pub buffer : Buffer
  pub is_done : Bool

abbrev pub nothing_asked : Buffer → Acted
nothing_asked b = record { buffer = b; is_done = true }

-- the number of a glyph
abbrev pub glyph_at : Buffer → ℕ → ℕ
glyph_at b i = if nat_lt i (length b.items) then (item_at b.items i).glyph_id else 0

-- where the action of a number puts the glyph; nowhere if the subtable lacks bytes of it
abbrev pub found : Source → ℕ → ℕ → ℕ → Buffer → Option GlyphPosition
found s index at mark b = option_and_then (λ action.
    put_by s action (glyph_at b mark) (glyph_at b at) (position_at b at)) (action_of s.bytes index)

abbrev pub acted : Source → ℕ → ℕ → ℕ → Buffer → Acted
acted s index at mark b = option_map_or (λ p. record { buffer = glyph_hung at mark p b; is_done = true })
    (found s index at mark b) (record { buffer = b; is_done = false })

-- nothing is asked at the end of the text, by an entry that names no action, or before a glyph is marked
abbrev pub acted_by : Source → Entry → ℕ → ℕ → Buffer → Acted
acted_by s e at mark b = if nat_lt at (length b.items)
    then option_map_or (λ index. acted s index at mark b) (action_for s e) (nothing_asked b)
    else nothing_asked b

abbrev pub acted_with : Source → Entry → ℕ → Option ℕ → Buffer → Acted
acted_with s e at mark b = option_map_or (λ m. acted_by s e at m b) mark (nothing_asked b)

-- ---- a transition

-- flag 0x8000 of an entry marks the current glyph
abbrev pub mark_after : Entry → ℕ → Option ℕ → Option ℕ
mark_after e at mark = if bit_of e.flags 0x8000 then Some at else mark

-- an entry whose action isn't done doesn't mark the glyph either, as in HarfBuzz
abbrev pub transition : Source → Entry → ℕ → Spot (Option ℕ) → Spot (Option ℕ)
transition s e at p = let a = acted_with s e at p.memory p.buffer in
    record { buffer = a.buffer; memory = if a.is_done then mark_after e at p.memory else p.memory }

abbrev pub deeds : Source → Deeds (Option ℕ)
deeds s = record { transition = transition s }
