-- A shaped text as it is cut at allowed places: its glyphs, each with its width and what a list of places says of the
-- place before it.
use Rattle.std.specs.Prelude.{ℕ, zero, suc, ◌==◌, ◌&&◌, ◌||◌, not, Bool, true, false, ℤ, pos, ◌+ℤ◌, List, [], ◌∷◌, if◌then◌else◌}
use Rattle.shape_items.specs.Buffer.{Buffer}
use Rattle.shape_lines.specs.Places.{cluster_at}
use Rattle.shape_lines.specs.TextOrder.{Glyph, text_order}
use Rattle.shape_lines.specs.declared.spots.Spot.{Spot}

-- a list of clusters has this one
abbrev pub has : List ℕ → ℕ → Bool
has [] cluster = false
has (one ∷ ones) cluster = (one == cluster) || has ones cluster

-- which glyphs have a cluster of the list
abbrev pub marks_of : List ℕ → List Glyph → List Bool
marks_of listed [] = []
marks_of listed (glyph ∷ glyphs) = has listed glyph.cluster ∷ marks_of listed glyphs

-- a glyph after one of this cluster. A line may or must end before it only if its own is another one: inside a cluster
-- no place counts. The place is safe if the glyph also lacks UNSAFE_TO_BREAK
abbrev pub spot_after : List ℕ → List ℕ → List ℕ → ℕ → Glyph → Spot
spot_after allowed mandatory spaces before glyph = record {
  width = glyph.width;
  allowed = not (glyph.cluster == before) && has allowed glyph.cluster;
  mandatory = not (glyph.cluster == before) && has mandatory glyph.cluster;
  safe = not (glyph.cluster == before) && glyph.lacks_break;
  space = has spaces glyph.cluster;
}

abbrev pub spots_after : List ℕ → List ℕ → List ℕ → ℕ → List Glyph → List Spot
spots_after allowed mandatory spaces before [] = []
spots_after allowed mandatory spaces before (glyph ∷ glyphs) =
    spot_after allowed mandatory spaces before glyph ∷ spots_after allowed mandatory spaces glyph.cluster glyphs

abbrev pub spots_of : Buffer → List ℕ → List ℕ → List ℕ → List Spot
spots_of b allowed mandatory spaces = spots_after allowed mandatory spaces (cluster_at (text_order b) 0) (text_order b)

-- the end of the text: a line must end there, and may safely
abbrev pub the_end : Spot
the_end = record { width = pos 0; allowed = true; mandatory = true; safe = true; space = false }

-- what stands at a place, or the end of the text
abbrev pub spot_at : List Spot → ℕ → Spot
spot_at [] place = the_end
spot_at (spot ∷ spots) zero = spot
spot_at (spot ∷ spots) (suc place) = spot_at spots place

-- where the pen stands before the glyph at a place: the exact sum of the widths before it
abbrev pub pen : List Spot → ℕ → ℤ
pen spots zero = pos 0
pen spots (suc place) = pen spots place +ℤ (spot_at spots place).width

-- where it stands after the last glyph before a place that isn't a space
abbrev pub reach : List Spot → ℕ → ℤ
reach spots zero = pos 0
reach spots (suc place) = if (spot_at spots place).space then reach spots place else pen spots (suc place)
