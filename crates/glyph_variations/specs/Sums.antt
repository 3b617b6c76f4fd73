-- What the tuples of a glyph add to a point (OpenType, "gvar"), in binary32 and in the order of the tuples, as HarfBuzz adds it: a tuple
-- for all points is added to what waits, one for some points first lets that go to the point.
use Rattle.std.specs.Prelude.{ℕ, ℤ, List, Bool, true, false, ◌+◌, ◌-◌, ◌%◌, ◌&&◌, nat_eq, nat_lt, nat_le, length, if◌then◌else◌}
use Rattle.std.specs.Float.{Float, binary32}
use lib.Ieee.{of_int, mul, add, eq}
use Rattle.font_bytes.specs.Bytes.{u16_of}
use Rattle.font_variations.specs.Tents.{nothing}
use Rattle.glyph_variations.specs.Times.{times}
use Rattle.glyph_variations.specs.Numbers as numbers
use Rattle.glyph_variations.specs.Packed as packed
use Rattle.glyph_variations.specs.Tuples.{has_points, header_size, scalar_of}
use Rattle.glyph_variations.specs.Glyph.{Stored}
use Rattle.glyph_variations.specs.declared.sums.Reading.{Reading}
use Rattle.glyph_variations.specs.declared.sums.TuplePoints.{TuplePoints}
use Rattle.glyph_variations.specs.declared.sums.Moving.{Moving}
use Rattle.glyph_variations.specs.declared.sums.Target.{Target}
use Rattle.glyph_variations.specs.declared.sums.TupleWalk.{TupleWalk}
use Rattle.glyph_variations.specs.declared.sums.TheConstants.{MOST_STEPS}

-- ---- the points of a tuple

abbrev pub has_shared_points : List ℕ → Bool
has_shared_points d = nat_le 0x8000 (u16_of d 0)

-- where data begin; the shared points come first, if they aren't too many
abbrev pub data_place : List ℕ → ℕ
data_place d = u16_of d 2

abbrev pub numbers_end : List ℕ → ℕ → ℕ
numbers_end d at = (times (numbers.next_number d) (numbers.count_of d at) (numbers.begun (numbers.after_count d at))).at

abbrev pub shared_count : List ℕ → ℕ
shared_count d = if has_shared_points d then numbers.count_of d (data_place d) else 0

abbrev pub first_place : List ℕ → ℕ
first_place d = if has_shared_points d && nat_le (shared_count d) MOST_STEPS then numbers_end d (data_place d) else data_place d

-- its own, the shared ones, or all points
abbrev pub points_of : List ℕ → ℕ → ℕ → TuplePoints
points_of d header place =
    if has_points d header
    then record { at = numbers.after_count d place; count = numbers.count_of d place; deltas = numbers_end d place }
    else (if has_shared_points d
    then record { at = numbers.after_count d (data_place d); count = numbers.count_of d (data_place d); deltas = place }
    else record { at = 0; count = 0; deltas = place })

-- ---- what a tuple adds

abbrev pub scaled : ℤ → Float → Float
scaled value scalar = mul binary32 (of_int binary32 value) scalar

abbrev pub read_step : List ℕ → ℕ → Float → Reading → Reading
read_step d point scalar r = let next = numbers.next_number d r.numbers in
    let delta = packed.next_delta d r.deltas in
    record {
      numbers = next;
      deltas = delta;
      sum = if nat_eq next.number point then add binary32 r.sum (scaled delta.value scalar) else r.sum;
    }

abbrev pub begun : ℕ → ℕ → Reading
begun numbers_at deltas_at = record { numbers = numbers.begun numbers_at; deltas = packed.begun deltas_at; sum = nothing }

abbrev pub listed_sum : List ℕ → TuplePoints → ℕ → ℕ → Float → Float
listed_sum d p at point scalar = (times (read_step d point scalar) p.count (begun p.at at)).sum

abbrev pub delta_of : List ℕ → ℕ → ℕ → ℤ
delta_of d at point = (times (packed.next_delta d) (point + 1) (packed.begun at)).value

abbrev pub moved : List ℕ → TuplePoints → ℕ → ℕ → Float → Moving → Moving
moved d p at point scalar m =
    if nat_eq p.count 0 then record m { pending = add binary32 m.pending (scaled (delta_of d at point) scalar) }
    else record { position = add binary32 m.position m.pending; pending = listed_sum d p at point scalar }

-- how many deltas of each coordinate there are; those down the page come after those along the line
abbrev pub delta_count : TuplePoints → Target → ℕ
delta_count p target = if nat_eq p.count 0 then target.count else p.count

abbrev pub deltas_at : List ℕ → TuplePoints → Target → ℕ
deltas_at d p target =
    if target.vertical then (times (packed.next_delta d) (delta_count p target) (packed.begun p.deltas)).at else p.deltas

-- ---- all tuples, one after the other

-- what passing over a tuple takes: four steps for its header, and one for each axis of its peak
abbrev pub tuple_steps : Stored → ℕ
tuple_steps g = 4 + g.axes

-- its peak may still be read, and the header and the data are there
abbrev pub is_whole : Stored → TupleWalk → Bool
is_whole g w = nat_le (tuple_steps g) w.left && nat_le (w.header + header_size g w.header) (length g.bytes)
    && nat_le (w.place + u16_of g.bytes w.header) (length g.bytes)

abbrev pub passed : Stored → TupleWalk → TupleWalk
passed g w = record w {
  header = w.header + header_size g w.header;
  place = w.place + u16_of g.bytes w.header;
  left = w.left - tuple_steps g;
}

abbrev pub with_tuple : Stored → Target → Float → TuplePoints → TupleWalk → TupleWalk
with_tuple g target scalar p w = if nat_lt w.left (delta_count p target) then record w { ended = true }
    else record (passed g w) {
      left = w.left - tuple_steps g - delta_count p target;
      moving = moved g.bytes p (deltas_at g.bytes p target) target.point scalar w.moving;
    }

-- a tuple that takes no part is passed over; after one that isn't whole, or that would read too much, none is added
abbrev pub next_tuple : Stored → Target → TupleWalk → TupleWalk
next_tuple g target w = if is_whole g w
    then (if eq (scalar_of g w.header) nothing then passed g w
    else with_tuple g target (scalar_of g w.header) (points_of g.bytes w.header w.place) w)
    else record w { ended = true }

abbrev pub tuple_step : Stored → Target → TupleWalk → TupleWalk
tuple_step g target w = if w.ended then w else next_tuple g target w

abbrev pub begun_at : Stored → Float → TupleWalk
begun_at g position = record {
  header = 4;
  place = first_place g.bytes;
  left = MOST_STEPS - shared_count g.bytes;
  ended = false;
  moving = record { position = position; pending = nothing };
}

-- where a point comes to stand
unfoldable pub moved_to : Stored → Target → Float → Float
moved_to g target position =
    let m = (times (tuple_step g target) (u16_of g.bytes 0 % 4096) (begun_at g position)).moving in
    add binary32 m.position m.pending
