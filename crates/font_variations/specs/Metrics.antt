-- What is added to the metrics of glyphs (OpenType, `HVAR`, `VVAR`) at some coordinates.
use Rattle.std.specs.Prelude.{ℕ, ℤ, pos, List, Bool, Option, Some, None, ◌&&◌, min, nat_eq, nat_lt, if◌then◌else◌}
use Rattle.std.specs.Float.{Float}
use Rattle.font_bytes.specs.Bytes.{u16_of, u32_of}
use Rattle.font_variations.specs.Deltas.{delta_within, row_steps, rounded}
use Rattle.font_variations.specs.IndexMaps.{mapped}
use Rattle.font_variations.specs.Parts.{part_at}
use Rattle.font_variations.specs.Tents.{nothing}
use Rattle.font_variations.specs.declared.metrics.TheConstants.{MOST_ROW_STEPS}

-- a table of major version 1 is read; the store stands at an offset, and a map for each metric at others
abbrev pub has_metrics : List ℕ → Bool
has_metrics t = nat_eq (u16_of t 0) 1

-- the delta for a glyph, by the map whose offset stands at `at`; a run asks for it glyph by glyph, so a long row isn't read
unfoldable pub metric_delta : List ℕ → List ℤ → ℕ → ℕ → ℤ
metric_delta t coordinates at glyph =
    rounded (delta_within MOST_ROW_STEPS (part_at t (u32_of t 4)) coordinates (mapped (part_at t (u32_of t at)) glyph))

-- without a map a glyph is its own index
abbrev pub advance_delta : List ℕ → List ℤ → ℕ → ℤ
advance_delta t coordinates glyph = if has_metrics t then metric_delta t coordinates 8 glyph else pos 0

-- how many steps that takes at most
abbrev pub advance_steps : List ℕ → ℕ → ℕ
advance_steps t glyph =
    if has_metrics t then min (row_steps (part_at t (u32_of t 4)) (mapped (part_at t (u32_of t 8)) glyph)) MOST_ROW_STEPS else 0

-- the other maps say nothing where they are not there: of the left or upper bearing, and of the vertical origin in `VVAR`
abbrev pub mapped_delta : List ℕ → List ℤ → ℕ → ℕ → Option ℤ
mapped_delta t coordinates at glyph =
    if has_metrics t && nat_lt 0 (u32_of t at) then Some (metric_delta t coordinates at glyph) else None

abbrev pub bearing_delta : List ℕ → List ℤ → ℕ → Option ℤ
bearing_delta t coordinates glyph = mapped_delta t coordinates 12 glyph

abbrev pub origin_delta : List ℕ → List ℤ → ℕ → Option ℤ
origin_delta t coordinates glyph = mapped_delta t coordinates 20 glyph

-- the same of the origin before it is rounded; nothing without a map
unfoldable pub origin_shift : List ℕ → List ℤ → ℕ → Float
origin_shift t coordinates glyph = if has_metrics t && nat_lt 0 (u32_of t 20)
    then delta_within MOST_ROW_STEPS (part_at t (u32_of t 4)) coordinates (mapped (part_at t (u32_of t 20)) glyph) else nothing
