-- What a subtable makes of a buffer at a place, and which glyphs it sees there.
use Rattle.std.specs.Prelude.{ℕ, Bool, true, List, Option, Some, None, ◌+◌, ◌-◌, ◌||◌, not, length, if◌then◌else◌}
use Rattle.std.specs.Option.{option_and_then, option_map, option_map_or}
use Rattle.shape_font.specs.Search.{first_at}
use Rattle.shape_items.specs.Buffer.{Buffer}
use Rattle.shape_items.specs.Items.{Item}
use Rattle.layout_matching.specs.Skipping.{nth, shares, is_skipped, is_transparent}
use Rattle.layout_matching.specs.declared.lookup.Lookup.{Lookup}

-- the buffer that it leaves, and where the lookup goes on; nowhere if it didn't apply
pub record Applied : Type 0 where
  pub buffer : Buffer
  pub next : Option ℕ

abbrev pub unapplied : Buffer → Applied
unapplied b = record { buffer = b; next = None }

-- ---- the glyphs beside the one at a place

-- a glyph between: skipped by the lookup's flags, or a default ignorable
abbrev pub is_between : Lookup → Item → Bool
is_between l item = is_skipped l item || is_transparent l true item

abbrev pub has_lookup_on : Lookup → Item → Bool
has_lookup_on l item = shares item.mask l.mask

-- the first glyph after a place that isn't between, and the one before it
abbrev pub stop_after : Lookup → List Item → ℕ → Option ℕ
stop_after l items i = first_at (λ j. not (is_between l (nth items j))) (length items - (i + 1)) (i + 1)

abbrev pub stop_before : Lookup → List Item → ℕ → Option ℕ
stop_before l items i = option_map (λ d. i - 1 - d) (first_at (λ d. not (is_between l (nth items (i - 1 - d)))) i 0)

-- that glyph, if the lookup is on for it
abbrev pub if_on : Lookup → List Item → ℕ → Option ℕ
if_on l items j = if has_lookup_on l (nth items j) then Some j else None

abbrev pub glyph_after : Lookup → List Item → ℕ → Option ℕ
glyph_after l items i = option_and_then (if_on l items) (stop_after l items i)

abbrev pub glyph_before : Lookup → List Item → ℕ → Option ℕ
glyph_before l items i = option_and_then (if_on l items) (stop_before l items i)

-- how far a search looked that found nothing
abbrev pub end_after : Lookup → List Item → ℕ → ℕ
end_after l items i = option_map_or (λ j. j + 1) (stop_after l items i) (length items)

abbrev pub start_before : Lookup → List Item → ℕ → ℕ
start_before l items i = option_map_or (λ j. j - 1) (stop_before l items i) 0
