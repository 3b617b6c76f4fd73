-- the strokes that a charstring draws, their box, and how a glyph is composed (Adobe Technical Note 5177; appendix C for endchar)
use Prim.Native.Nat.{zero}
use Rattle.std.specs.Prelude.{ℕ, suc, ℤ, List, [], ◌∷◌, Bool, Option, Some, None, pos, ◌+◌, ◌/◌, ◌-ℤ◌, ◌*ℤ◌, ◌||◌, ◌&&◌, nat_eq, nat_lt, int_lt}
use Rattle.std.specs.Prelude.{int_le, not, unsigned_abs, if◌then◌else◌}
use Rattle.std.specs.Option.{option_and_then, option_map}
use Rattle.cff_tables.specs.Index.{range_of}
use Rattle.cff_tables.specs.Font.{glyph_local, glyph_variation}
use Rattle.cff_tables.specs.Charset.{coded_glyph}
use Rattle.cff_tables.specs.declared.font.Layout.{Layout}
use Rattle.cff_tables.specs.declared.index.ObjectRange.{ObjectRange}
use Rattle.charstrings.specs.Numbers.{plus}
use Rattle.charstrings.specs.Machine.{Run, Stepped, step, first_run}
use Rattle.charstrings.specs.declared.strokes.Place.{Place}
use Rattle.charstrings.specs.declared.strokes.Stroke.{Stroke}
use Rattle.charstrings.specs.declared.strokes.Stroke.TheVariants.{Move, Straight, Bent}
use Rattle.charstrings.specs.declared.strokes.Accent.{Accent}
use Rattle.charstrings.specs.declared.strokes.Event.{Event}
use Rattle.charstrings.specs.declared.strokes.Event.TheVariants.{Went, Drew, Composed, Ended}
use Rattle.charstrings.specs.declared.bounds.Bounds.{Bounds}
use Rattle.charstrings.specs.declared.bounds.Inked.{Inked}

-- the strokes of a charstring, in order, and the accent that it ends with
pub record Outline : Type 0 where
  pub strokes : List Stroke
  pub accent : Option Accent

abbrev pub begins_with : Stroke → Outline → Outline
begins_with s o = record { strokes = s ∷ o.strokes; accent = o.accent }

abbrev pub ends : Option Accent → Option Outline
ends accent = Some (record { strokes = []; accent = accent })

-- what is drawn after an event, if `rest` is drawn after the step
abbrev pub after_event : Event → Option Outline → Option Outline
after_event Went rest = rest
after_event (Drew s) rest = option_map (begins_with s) rest
after_event (Composed accent) rest = ends (Some accent)
after_event Ended rest = ends None

-- what a machine draws in at most `n` steps until it ends; none if it is refused, or does not end
abbrev pub outline_from : ℕ → List ℕ → Layout → ℕ → Run → Option Outline
outline_from zero t l local r = None
outline_from (suc n) t l local r = option_and_then (λ (s : Stepped). after_event s.event (outline_from n t l local s.run)) (step t l local r)

-- ---- boxes

abbrev pub least : ℤ → ℤ → ℤ
least a b = if int_lt b a then b else a

abbrev pub greatest : ℤ → ℤ → ℤ
greatest a b = if int_lt a b then b else a

abbrev pub lowest : Place → Place → Place
lowest a b = record { x = least a.x b.x; y = least a.y b.y }

abbrev pub highest : Place → Place → Place
highest a b = record { x = greatest a.x b.x; y = greatest a.y b.y }

-- the least box that holds a box and a place
abbrev pub widened : Bounds → Place → Bounds
widened b p = record { low = lowest b.low p; high = highest b.high p }

-- a stroke that draws takes its ends and control points, as HarfBuzz has it; a move takes none
abbrev pub with_stroke : Bounds → Stroke → Bounds
with_stroke b (Move p) = b
with_stroke b (Straight from to) = widened (widened b from) to
with_stroke b (Bent from first second to) = widened (widened (widened (widened b from) first) second) to

abbrev pub with_strokes : Bounds → List Stroke → Bounds
with_strokes b [] = b
with_strokes b (s ∷ rest) = with_strokes (with_stroke b s) rest

-- the box of nothing: as far off as an i32 goes
abbrev pub no_bounds : Bounds
no_bounds = record {
  low = record { x = pos 140737488289792; y = pos 140737488289792 };
  high = record { x = pos 0 -ℤ pos 140737488355328; y = pos 0 -ℤ pos 140737488355328 };
}

-- the box of an outline, and the accent that it ends with
abbrev pub inked_from : Bounds → Outline → Inked
inked_from b o = record { bounds = with_strokes b o.strokes; accent = o.accent }

abbrev pub inked_within : ℕ → List ℕ → Layout → ℕ → Run → Option Inked
inked_within n t l local r = option_map (inked_from no_bounds) (outline_from n t l local r)

-- a box without width or height is empty
abbrev pub is_empty : Bounds → Bool
is_empty b = int_le b.high.x b.low.x || int_le b.high.y b.low.y

unfoldable pub merged : Bounds → Bounds → Bounds
merged a b = if is_empty a then b else (if is_empty b then a else record { low = lowest a.low b.low; high = highest a.high b.high })

abbrev pub offset_place : Place → ℤ → ℤ → Place
offset_place p dx dy = record { x = plus p.x dx; y = plus p.y dy }

unfoldable pub offset : Bounds → ℤ → ℤ → Bounds
offset b dx dy = if is_empty b then b else record { low = offset_place b.low dx dy; high = offset_place b.high dx dy }

-- ---- glyphs

-- more steps than operators, numbers and strokes of a charstring
unfoldable pub most_events : ℕ
most_events = 600000

-- the most steps of a glyph that has a box
unfoldable pub most_box_steps : ℕ
most_box_steps = 10000

abbrev pub first_variation : List ℕ → Layout → ℕ → ℕ
first_variation t l glyph = if l.wide then glyph_variation t l glyph else 0

-- the box of a glyph's charstring
unfoldable pub glyph_inked : ℕ → List ℕ → Layout → ℕ → Option Inked
glyph_inked n t l glyph = elim (range_of t l.wide l.char_strings glyph) [
  | Some code ↦ inked_within n t l (glyph_local t l glyph) (first_run code (first_variation t l glyph))
  | None ↦ None
]

-- the box of a glyph that is not composed of others
abbrev pub alone : Inked → Option Bounds
alone i = elim i.accent [ None ↦ Some i.bounds | Some a ↦ None ]

unfoldable pub part_bounds : ℕ → List ℕ → Layout → ℕ → Option Bounds
part_bounds n t l glyph = option_and_then alone (glyph_inked n t l glyph)

-- the glyph of a code of Standard Encoding; 0 is none
unfoldable pub code_glyph : List ℕ → Layout → ℤ → ℕ
code_glyph t l code = if int_lt code (pos 0) then 0
    else (if int_lt (pos 255) code then 0 else coded_glyph t l.charset l.glyph_count (unsigned_abs code))

-- the least box that holds two and a third, which is moved
unfoldable pub together : Bounds → Bounds → Bounds → ℤ → ℤ → Bounds
together b first second dx dy = merged (merged b first) (offset second dx dy)

-- a letter and its accent, which is moved, and what was drawn before them
unfoldable pub joined : Bounds → Accent → Option Bounds → Option Bounds → Option Bounds
joined b a None second = None
joined b a (Some first) None = None
joined b a (Some first) (Some second) = Some (together b first second a.dx a.dy)

-- both are glyphs by themselves, and take a quarter of the steps each
abbrev pub composed_bounds : ℕ → List ℕ → Layout → Bounds → Accent → Option Bounds
composed_bounds n t l b a = if nat_eq (code_glyph t l a.base) 0 then None
    else (if nat_eq (code_glyph t l a.accent) 0 then None
    else joined b a (part_bounds (n / 4) t l (code_glyph t l a.base)) (part_bounds (n / 4) t l (code_glyph t l a.accent)))

abbrev pub whole_bounds : ℕ → List ℕ → Layout → Inked → Option Bounds
whole_bounds n t l i = elim i.accent [ None ↦ Some i.bounds | Some a ↦ composed_bounds n t l i.bounds a ]

abbrev pub bounds_within : ℕ → List ℕ → Layout → ℕ → Option Bounds
bounds_within n t l glyph = option_and_then (whole_bounds n t l) (glyph_inked n t l glyph)

-- the box of a glyph
abbrev pub bounds_of : List ℕ → Layout → ℕ → Option Bounds
bounds_of t l glyph = bounds_within most_box_steps t l glyph
