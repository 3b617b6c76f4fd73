-- Where the next glyph that is looked for stands, after a place or before it.
use Prim.Native.Nat.{zero}
use Rattle.std.specs.Prelude.{ℕ, suc, Bool, List, [], ◌∷◌, Option, Some, None, ◌+◌, ◌-◌, ◌&&◌, ◌||◌, not, length, nat_eq, if◌then◌else◌}
use Rattle.std.specs.Option.{option_and_then, option_map_or}
use Rattle.shape_font.specs.Search.{first_at}
use Rattle.shape_items.specs.Items.{Item}
use Rattle.layout_matching.specs.Loops.{steps}
use Rattle.layout_matching.specs.Rules.{fits_row}
use Rattle.layout_matching.specs.Skipping.{nth, shares, is_skipped, is_transparent, passes_ignorable}
use Rattle.layout_matching.specs.declared.lookup.Lookup.{Lookup}
use Rattle.layout_matching.specs.declared.seeking.Seek.{Seek}

-- what is matched has the lookup on; around it any glyph with a mask may stand
abbrev pub mask_of : Lookup → Seek → ℕ
mask_of l seek = if seek.is_input then l.mask else 0xFFFFFFFF

-- glyph `k` of the row, in the syllable
abbrev pub fits : Lookup → Seek → ℕ → Item → Bool
fits l seek k item = shares item.mask (mask_of l seek) && (nat_eq seek.syllable 0 || nat_eq item.properties.syllable seek.syllable)
    && fits_row l.table.now seek.row k item.glyph_id

-- a default ignorable that is passed over, unless it is what is looked for
abbrev pub lets_past : Lookup → Seek → ℕ → Item → Bool
lets_past l seek k item = passes_ignorable l seek.is_input item && not (fits l seek k item)

-- a glyph that may stand between the last one found and the one that is looked for
abbrev pub is_between : Lookup → Seek → ℕ → Item → Bool
is_between l seek k item = is_skipped l item || (is_transparent l seek.is_input item && not (fits l seek k item))

abbrev pub if_fits : Lookup → Seek → List Item → ℕ → ℕ → Option ℕ
if_fits l seek items k j = if fits l seek k (nth items j) then Some j else None

-- glyph `k` of the row after place `i`
abbrev pub next_place : Lookup → Seek → List Item → ℕ → ℕ → Option ℕ
next_place l seek items k i = option_and_then (if_fits l seek items k)
    (first_at (λ j. not (is_between l seek k (nth items j))) (length items - (i + 1)) (i + 1))

-- how far before place `i` the nearest glyph stands that may not stand between
abbrev pub distance_back : Lookup → Seek → List Item → ℕ → ℕ → Option ℕ
distance_back l seek items k i = first_at (λ d. not (is_between l seek k (nth items (i - 1 - d)))) i 0

-- glyph `k` of the row before place `i`
abbrev pub prev_place : Lookup → Seek → List Item → ℕ → ℕ → Option ℕ
prev_place l seek items k i = option_and_then (λ d. if_fits l seek items k (i - 1 - d)) (distance_back l seek items k i)

-- the last of `n` glyphs after a place, the farthest of `n` before it
abbrev pub last_after : Lookup → Seek → List Item → ℕ → ℕ → Option ℕ
last_after l seek items n i = steps (next_place l seek items) n 0 i

abbrev pub last_before : Lookup → Seek → List Item → ℕ → ℕ → Option ℕ
last_before l seek items n i = steps (prev_place l seek items) n 0 i

-- the places of `n` glyphs after a place
abbrev pub places_after : Lookup → Seek → List Item → ℕ → ℕ → ℕ → List ℕ
places_after l seek items zero k i = []
places_after l seek items (suc n) k i =
    option_map_or (λ j. j ∷ places_after l seek items n (suc k) j) (next_place l seek items k i) []
