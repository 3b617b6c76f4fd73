-- What holds of any font and any coordinates.
use Rattle.std.specs.Prelude.{◌≡◌, ◌≤◌, ◌<◌, ◌≤ℤ◌, ◌+◌, ◌*◌, ◌/◌, ◌≢◌, ℕ, ℤ, pos, negsuc, List, true, false, cond}
use Rattle.std.specs.List.{All}
use Rattle.std.specs.Option.{unwrap_or}
use Rattle.std.specs.Ordering.{int_eq}
use Rattle.std.specs.Float.{Float, nan, inf, fin}
use lib.Ieee.{up, down}
use Rattle.font_bytes.specs.Bytes.{u16_of, u32_of, i16_of}
use Rattle.font_variations.specs.Deltas.{column_count, data_at, delta_of, delta_within, has_data}
use Rattle.font_variations.specs.IndexMaps.{mapped}
use Rattle.font_variations.specs.Metrics.{advance_delta, bearing_delta, origin_delta}
use Rattle.font_variations.specs.Parts.{part_at}
use Rattle.font_variations.specs.Regions.{region_at, region_scalar}
use Rattle.font_variations.specs.Tents.{nothing, whole, tent}

-- a number from 0 to 1: m * 2 ^ e is the fraction of `m * up e` and `down e`
unfoldable pub IsPart : Float → Type 0
IsPart nan = ⊥
IsPart (inf s) = ⊥
IsPart (fin true m e) = ⊥
IsPart (fin false m e) = m * up e ≤ down e

-- what a table is made of
abbrev pub AreBytes : List ℕ → Type 0
AreBytes t = All (λ n. n < 256) t

-- ---- scalars lie within 0 and 1

-- that of an axis, wherever it starts and ends within 16 bits, and at any coordinate
abbrev pub AxesArePart : Type 0
AxesArePart = (start peak end coordinate : ℤ) → negsuc 32767 ≤ℤ start → end ≤ℤ pos 32767 → IsPart (tent start peak end coordinate)

-- that of a region
abbrev pub RegionsArePart : Type 0
RegionsArePart = (t : List ℕ) (list region : ℕ) (coordinates : List ℤ) → AreBytes t → IsPart (region_scalar t list coordinates region)

-- ---- the default instance: no coordinates are given, or 0 along each axis

abbrev pub AreDefault : List ℤ → Type 0
AreDefault coordinates = All (λ c. c ≡ pos 0) coordinates

-- where an axis stands at its default, it takes part wholly if its peak is there, and else not at all
abbrev pub AxesAtDefault : Type 0
AxesAtDefault = (start peak end : ℤ) → tent start peak end (pos 0) ≡ cond (int_eq peak (pos 0)) whole nothing

-- along some axis a region has its peak away from the default
pub record IsElsewhere (t : List ℕ) (list region : ℕ) : Type 0 where
  pub axis : ℕ
  pub within : axis < u16_of t list
  pub elsewhere : i16_of t (region_at t list region + 6 * axis + 2) ≢ pos 0

-- such a region takes no part
abbrev pub RegionsAtDefault : Type 0
RegionsAtDefault = (t : List ℕ) (list region : ℕ) (coordinates : List ℤ) → AreDefault coordinates → IsElsewhere t list region
    → region_scalar t list coordinates region ≡ nothing

-- each column of the delta set with this index is for such a region; without data there is no column
abbrev pub AreElsewhere : List ℕ → ℕ → Type 0
AreElsewhere t index = let at = data_at t (index / 65536) in
    has_data t (index / 65536) ≡ true → (column : ℕ) → column < column_count t at → IsElsewhere t (u32_of t 2) (u16_of t (at + 6 + 2 * column))

-- then the delta is exactly 0
abbrev pub DeltasAtDefault : Type 0
DeltasAtDefault = (t : List ℕ) (index : ℕ) (coordinates : List ℤ) → AreBytes t → AreDefault coordinates → AreElsewhere t index
    → delta_of t coordinates index ≡ nothing

abbrev pub FewDeltasAtDefault : Type 0
FewDeltasAtDefault = (most : ℕ) (t : List ℕ) (index : ℕ) (coordinates : List ℤ) → AreBytes t → AreDefault coordinates → AreElsewhere t index
    → delta_within most t coordinates index ≡ nothing

-- the delta set of a glyph, by the map whose offset stands at `at`, has such columns alone
abbrev pub IsGlyphElsewhere : List ℕ → ℕ → ℕ → Type 0
IsGlyphElsewhere t at glyph = AreElsewhere (part_at t (u32_of t 4)) (mapped (part_at t (u32_of t at)) glyph)

-- then nothing is added to the glyph's metrics: its advance, its bearing, and the height of its origin
abbrev pub AdvancesAtDefault : Type 0
AdvancesAtDefault = (t : List ℕ) (glyph : ℕ) (coordinates : List ℤ) → AreBytes t → AreDefault coordinates → IsGlyphElsewhere t 8 glyph
    → advance_delta t coordinates glyph ≡ pos 0

abbrev pub BearingsAtDefault : Type 0
BearingsAtDefault = (t : List ℕ) (glyph : ℕ) (coordinates : List ℤ) → AreBytes t → AreDefault coordinates → IsGlyphElsewhere t 12 glyph
    → unwrap_or (bearing_delta t coordinates glyph) (pos 0) ≡ pos 0

abbrev pub OriginsAtDefault : Type 0
OriginsAtDefault = (t : List ℕ) (glyph : ℕ) (coordinates : List ℤ) → AreBytes t → AreDefault coordinates → IsGlyphElsewhere t 20 glyph
    → unwrap_or (origin_delta t coordinates glyph) (pos 0) ≡ pos 0
