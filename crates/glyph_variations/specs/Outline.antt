-- Where the points of an outline come to stand along one coordinate (OpenType, "gvar"): those of a glyph that is drawn by itself, or the
-- offsets of components, each a contour by itself. In binary32 and in the order of the tuples, as HarfBuzz adds deltas.
use Rattle.std.specs.Prelude.{ℕ, List, Bool, true, ◌%◌, ◌+◌, ◌-◌, nat_eq, nat_lt, length, map, replicate, slice_set, if◌then◌else◌}
use Rattle.std.specs.Float.{Float, binary32}
use lib.Ieee.{add, eq}
use Rattle.font_variations.specs.Tents.{nothing}
use Rattle.glyf_points.specs.declared.simple.GlyphPoint.{GlyphPoint}
use Rattle.glyph_variations.specs.Glyph.{Stored}
use Rattle.glyph_variations.specs.Inferred.{untouched, listed_at, moving_at, with_pending, place_of, all_spread}
use Rattle.glyph_variations.specs.Numbers as numbers
use Rattle.glyph_variations.specs.Packed as packed
use Rattle.font_bytes.specs.Bytes.{u16_of}
use Rattle.glyph_variations.specs.Sums.{scaled, has_shared_points, data_place, points_of, delta_count, deltas_at, is_whole, passed, begun_at}
use Rattle.glyph_variations.specs.Times.{times, steps}
use Rattle.glyph_variations.specs.Tuples.{scalar_of}
use Rattle.glyph_variations.specs.declared.inferred.Listed.{Listed}
use Rattle.glyph_variations.specs.declared.numbers.PointNumbers.{PointNumbers}
use Rattle.glyph_variations.specs.declared.packed.PackedDeltas.{PackedDeltas}
use Rattle.glyph_variations.specs.declared.sums.Moving.{Moving}
use Rattle.glyph_variations.specs.declared.sums.Target.{Target}
use Rattle.glyph_variations.specs.declared.sums.TuplePoints.{TuplePoints}
use Rattle.glyph_variations.specs.declared.sums.TupleWalk.{TupleWalk}

-- ---- what a tuple lists for some of so many points: a number and its delta after another; deltas for one point are summed

pub record Listing : Type 0 where
  pub numbers : PointNumbers
  pub deltas : PackedDeltas
  pub listed : List Listed

abbrev pub listing : PointNumbers → PackedDeltas → List Listed → Listing
listing numbers deltas listed = record { numbers = numbers; deltas = deltas; listed = listed }

abbrev pub touch : List Listed → ℕ → Float → List Listed
touch xs i delta = slice_set xs i (record { delta = add binary32 (listed_at xs i).delta delta; touched = true })

abbrev pub list_step : List ℕ → Float → Listing → Listing
list_step d scalar s = let next = numbers.next_number d s.numbers in
    let delta = packed.next_delta d s.deltas in
    record { numbers = next; deltas = delta; listed = touch s.listed next.number (scaled delta.value scalar) }

abbrev pub listing_begun : TuplePoints → ℕ → ℕ → Listing
listing_begun p at count = listing (numbers.begun p.at) (packed.begun at) (replicate count untouched)

unfoldable pub listed_of : List ℕ → TuplePoints → ℕ → Float → ℕ → List Listed
listed_of d p at scalar count = (times (list_step d scalar) p.count (listing_begun p at count)).listed

-- ---- what waits goes to the points, and what is listed waits

abbrev pub flush_step : List Listed → ℕ → List Moving → List Moving
flush_step xs k ms = slice_set ms k
    (record { position = add binary32 (moving_at ms k).position (moving_at ms k).pending; pending = (listed_at xs k).delta })

unfoldable pub flushed : List Listed → List Moving → List Moving
flushed xs ms = steps (flush_step xs) (length xs) ms

-- ---- a delta for each of so many points

pub record Adding : Type 0 where
  pub deltas : PackedDeltas
  pub moving : List Moving

abbrev pub adding : PackedDeltas → List Moving → Adding
adding deltas moving = record { deltas = deltas; moving = moving }

abbrev pub adding_begun : ℕ → List Moving → Adding
adding_begun at moving = adding (packed.begun at) moving

abbrev pub added : List Moving → ℕ → Float → List Moving
added ms k delta = with_pending ms k (add binary32 (moving_at ms k).pending delta)

abbrev pub add_step : List ℕ → Float → ℕ → Adding → Adding
add_step d scalar k s = let delta = packed.next_delta d s.deltas in
    record { deltas = delta; moving = added s.moving k (scaled delta.value scalar) }

unfoldable pub all_added : List ℕ → ℕ → Float → ℕ → List Moving → List Moving
all_added d at scalar count ms = (steps (add_step d scalar) count (adding_begun at ms)).moving

-- with the four points for metrics
abbrev pub all_points : List GlyphPoint → ℕ
all_points points = length points + 4

abbrev pub target_of : List GlyphPoint → Bool → Target
target_of points vertical = record { point = 0; count = all_points points; vertical = vertical }

-- ---- a tuple, whose deltas for the coordinate stand at `at`

abbrev pub some_moved : List GlyphPoint → Bool → List Listed → List Moving → List Moving
some_moved points vertical xs ms = all_spread points vertical xs (flushed xs ms)

abbrev pub moved : List ℕ → TuplePoints → ℕ → Float → List GlyphPoint → Bool → List Moving → List Moving
moved d p at scalar points vertical ms = if nat_eq p.count 0 then all_added d at scalar (length points) ms
    else some_moved points vertical (listed_of d p at scalar (length points)) ms

abbrev pub tuple_moved : List ℕ → TuplePoints → Float → List GlyphPoint → Bool → List Moving → List Moving
tuple_moved d p scalar points vertical ms = moved d p (deltas_at d p (target_of points vertical)) scalar points vertical ms

-- ---- all tuples

pub record OutlineWalk : Type 0 where
  pub walk : TupleWalk
  pub moving : List Moving

abbrev pub walked : TupleWalk → List Moving → OutlineWalk
walked walk moving = record { walk = walk; moving = moving }

-- deltas, and points to which they may be spread
abbrev pub cost_of : TuplePoints → List GlyphPoint → Bool → ℕ
cost_of p points vertical = delta_count p (target_of points vertical) + all_points points

abbrev pub charged : ℕ → TupleWalk → TupleWalk
charged cost w = record w { left = w.left - cost }

-- nothing more is added
abbrev pub ended : TupleWalk → TupleWalk
ended w = record w { ended = true }

-- more would be read than may be
abbrev pub spent : TupleWalk → TupleWalk
spent w = record w { left = 0; ended = true }

abbrev pub with_tuple : Stored → List GlyphPoint → Bool → Float → TuplePoints → OutlineWalk → OutlineWalk
with_tuple g points vertical scalar p s = let cost = cost_of p points vertical in
    (if nat_lt (passed g s.walk).left cost then record s { walk = spent s.walk } else record {
      walk = charged cost (passed g s.walk);
      moving = tuple_moved g.bytes p scalar points vertical s.moving;
    })

-- a tuple that takes no part is passed over; after one that isn't whole none is added, nor where its header may not be read
abbrev pub next_tuple : Stored → List GlyphPoint → Bool → OutlineWalk → OutlineWalk
next_tuple g points vertical s = if is_whole g s.walk
    then (if eq (scalar_of g s.walk.header) nothing then record s { walk = passed g s.walk }
    else with_tuple g points vertical (scalar_of g s.walk.header) (points_of g.bytes s.walk.header s.walk.place) s)
    else record s { walk = ended s.walk }

abbrev pub tuple_step : Stored → List GlyphPoint → Bool → OutlineWalk → OutlineWalk
tuple_step g points vertical s = if s.walk.ended then s
    else (if nat_lt s.walk.left (4 + g.axes) then record s { walk = spent s.walk } else next_tuple g points vertical s)

abbrev pub begun_point : Bool → GlyphPoint → Moving
begun_point vertical p = record { position = place_of vertical p; pending = nothing }

-- the numbers of points that tuples share are read first
abbrev pub shared_count : List ℕ → ℕ
shared_count d = if has_shared_points d then numbers.count_of d (data_place d) else 0

abbrev pub walk_begun : Stored → ℕ → TupleWalk
walk_begun g left = record (begun_at g nothing) { left = left - shared_count g.bytes }

abbrev pub outline_begun : Stored → List GlyphPoint → Bool → ℕ → OutlineWalk
outline_begun g points vertical left = walked (walk_begun g left) (map (begun_point vertical) points)

-- so much may be read; what is left then, and where the points stand
unfoldable pub outline_moved : Stored → List GlyphPoint → Bool → ℕ → OutlineWalk
outline_moved g points vertical left = times (tuple_step g points vertical) (u16_of g.bytes 0 % 4096)
    (outline_begun g points vertical left)
