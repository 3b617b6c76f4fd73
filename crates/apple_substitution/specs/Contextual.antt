-- Contextual subtables (TrueType Reference Manual, "The 'morx' table", "Contextual Glyph Substitution Subtable"): a marked glyph and
-- the current one are replaced by lookup tables that entries name.
use Rattle.std.specs.Prelude.{ℕ, List, Bool, true, Option, None, ◌+◌, ◌-◌, ◌*◌, ◌&&◌, ◌||◌, not, min, length, nat_eq, nat_lt, if◌then◌else◌}
use Rattle.std.specs.Option.{option_map_or}
use Rattle.shape_font.specs.Bytes.{u16_of, u32_of}
use Rattle.shape_items.specs.Buffer.{Buffer}
use Rattle.apple_tables.specs.declared.states.Entry.{Entry}
use Rattle.apple_substitution.specs.Driver.{Actions, Spot}
use Rattle.apple_substitution.specs.Edits.{broken, charged, item_at, put_at}
use Rattle.apple_substitution.specs.Glyphs.{glyph_by, replaced}
use Rattle.apple_substitution.specs.Ranges.{shares}
use Rattle.apple_substitution.specs.declared.contextual.Contextual.{Contextual}
use Rattle.apple_substitution.specs.declared.contextual.Mark.{Mark}

-- what a subtable reads of the font: the tables morx and GDEF, where the header of its state table begins in morx, and how many
-- glyphs the font has
pub record Source : Type 0 where
  pub morx : List ℕ
  pub gdef : List ℕ
  pub start : ℕ
  pub glyphs : ℕ

abbrev pub source_of : Contextual → Source
source_of c = record { morx = c.tables.morx.now; gdef = c.tables.gdef.now; start = c.start; glyphs = c.tables.glyphs }

-- the data of an entry: which lookup table the marked glyph has, and which one the current glyph; 0xFFFF is none
abbrev pub NONE : ℕ
NONE = 0xFFFF

abbrev pub mark_index : List ℕ → Entry → ℕ
mark_index t e = u16_of t e.at

abbrev pub current_index : List ℕ → Entry → ℕ
current_index t e = u16_of t (e.at + 2)

-- after the header of the state table the subtable says where a list of offsets begins, from its own start; each offset leads from
-- the start of the list to a lookup table
abbrev pub list_of : List ℕ → ℕ → ℕ
list_of t start = start + u32_of t (start + 16)

abbrev pub lookup_of : List ℕ → ℕ → ℕ → ℕ
lookup_of t start index = list_of t start + u32_of t (list_of t start + 4 * index)

-- the glyph in place of another by lookup table `index`
abbrev pub glyph_in : Source → ℕ → ℕ → Option ℕ
glyph_in c index glyph = if nat_eq index NONE then None
    else glyph_by c.morx (lookup_of c.morx c.start index) c.glyphs glyph

-- at the end of the text nothing is done if no glyph was marked
abbrev pub is_idle : Bool → Mark → Bool
is_idle ends mark = ends && not mark.is_set

abbrev pub is_actionable : Source → Bool → Mark → Entry → Bool
is_actionable c ends mark e = not (is_idle ends mark)
    && (not (nat_eq (mark_index c.morx e) NONE) || not (nat_eq (current_index c.morx e) NONE))

-- another glyph at a place
abbrev pub glyph_put : Source → ℕ → ℕ → Buffer → Buffer
glyph_put c at glyph b = put_at at (replaced c.gdef glyph (item_at b at)) b

-- the marked glyph is replaced, and unsafe to break from what follows up to the current one; each glyph there is charged for, and if
-- what is left doesn't suffice, it stays, and nothing is left
abbrev pub mark_put : Source → ℕ → ℕ → ℕ → Buffer → Buffer
mark_put c mark next glyph b = let work = next - mark in
    (if nat_lt b.max_ops work then charged work b else glyph_put c mark glyph (broken mark next (charged work b)))

abbrev pub mark_replaced : Source → Entry → ℕ → ℕ → Buffer → Buffer
mark_replaced c e mark next b = option_map_or (λ glyph. mark_put c mark next glyph b)
    (glyph_in c (mark_index c.morx e) (item_at b mark).glyph_id) b

-- then the current glyph, at the end of the text the last one
abbrev pub current_replaced : Source → Entry → ℕ → Buffer → Buffer
current_replaced c e at b = option_map_or (λ glyph. glyph_put c at glyph b)
    (glyph_in c (current_index c.morx e) (item_at b at).glyph_id) b

-- flag 0x8000 marks the current glyph
abbrev pub mark_after : Entry → ℕ → Mark → Mark
mark_after e at mark = if shares e.flags 0x8000 then record { place = at; is_set = true } else mark

abbrev pub acted : Source → Entry → Spot Mark → Spot Mark
acted c e s = let count = length s.buffer.items in record {
  buffer = current_replaced c e (min s.at (count - 1)) (mark_replaced c e s.memory.place (min (s.at + 1) count) s.buffer);
  at = s.at;
  memory = mark_after e s.at s.memory;
}

abbrev pub transition : Source → Entry → Spot Mark → Spot Mark
transition c e s = if is_idle (nat_eq s.at (length s.buffer.items)) s.memory then s else acted c e s

abbrev pub actions : Source → Actions Mark
actions c = record { is_actionable = is_actionable c; transition = transition c }
