-- What a subtable of a lookup makes of a buffer at a place: kinds 1, 2 and 3.
use Rattle.std.specs.Prelude.{ℕ, Bool, Option, Some, None, ◌+◌, ◌-◌, ◌*◌, ◌/◌, ◌%◌, ◌&&◌, ◌||◌, not, length, nat_eq, nat_lt, if◌then◌else◌}
use Rattle.std.specs.Option.{option_map_or}
use Rattle.std.specs.Int.RustNames.{bit_and}
use Rattle.shape_items.specs.Buffer.{Buffer}
use Rattle.shape_items.specs.Delete.{hand_over}
use Rattle.shape_items.specs.Items.{Item}
use Rattle.layout_matching.specs.Loops.{times}
use Rattle.layout_matching.specs.declared.lookup.Lookup.{Lookup}
use Rattle.layout_substitution.specs.Edits.{item_at, is_inside, put_at, put_after, taken_out, merged, broken}
use Rattle.layout_substitution.specs.Replaced.{replaced, taken_apart}
use Rattle.layout_substitution.specs.Substitutes.{single_of, set_of, alternate_of, listed_count, listed_at}
use Rattle.layout_substitution.specs.declared.apply.Spot.{Spot}

-- the buffer that it leaves, and where the lookup goes on; none if it didn't apply
pub record Applied : Type 0 where
  pub buffer : Buffer
  pub next : Option Spot

abbrev pub unapplied : Buffer → Applied
unapplied b = record { buffer = b; next = None }

-- ---- one glyph for one

abbrev pub put_one : Lookup → Spot → Buffer → ℕ → Applied
put_one l spot b glyph =
    record { buffer = put_at spot.at (replaced l 0 glyph (item_at b spot.at)) b; next = Some (record spot { at = spot.at + 1 }) }

abbrev pub single_applied : Lookup → ℕ → Spot → Buffer → Applied
single_applied l start spot b = option_map_or (put_one l spot b) (single_of l.table.now start (item_at b spot.at).glyph_id) (unapplied b)

-- the value that a mask has for the lookup
abbrev pub value_of : Lookup → Item → ℕ
value_of l item = if nat_eq l.unit 0 then 0 else bit_and item.mask l.mask / l.unit

-- the greatest value asks for an alternate at random, if the feature lets it
abbrev pub is_random : Lookup → Item → Bool
is_random l item = l.random && nat_eq (value_of l item) 255

-- the minimal standard generator, whose products HarfBuzz cuts to 32 bits
abbrev pub next_random : ℕ → ℕ
next_random state = state * 48271 % 4294967296 % 2147483647

-- the alternate depends on all that was shaped before: the whole list is unsafe to break
abbrev pub random_put : Lookup → Spot → Buffer → ℕ → Applied
random_put l spot b set = let count = listed_count l.table.now set in
    let state = next_random spot.random in
    (if nat_eq count 0 then unapplied b
    else put_one l (record spot { random = state }) (broken 0 (length b.items) b) (listed_at l.table.now set (state % count)))

abbrev pub random_applied : Lookup → ℕ → Spot → Buffer → Applied
random_applied l start spot b = option_map_or (random_put l spot b) (set_of l.table.now start (item_at b spot.at).glyph_id) (unapplied b)

abbrev pub alternate_applied : Lookup → ℕ → Spot → Buffer → Applied
alternate_applied l start spot b = let item = item_at b spot.at in
    (if is_random l item then random_applied l start spot b
    else option_map_or (put_one l spot b) (alternate_of l.table.now start item.glyph_id (value_of l item)) (unapplied b))

-- ---- several for one

-- as many items are after the place as before
abbrev pub with_as_many_after : ℕ → Spot → Buffer → Spot
with_as_many_after after spot b = record spot { at = length b.items - after }

abbrev pub cluster_at : Buffer → ℕ → ℕ
cluster_at b i = (item_at b i).cluster

abbrev pub is_left_in : Buffer → ℕ → Bool
is_left_in b i = is_inside (i + 1) b && nat_eq (cluster_at b (i + 1)) (cluster_at b i)

-- the items before a place that stand in one cluster, the nearest first, take the cluster and the defined flags of the
-- item at the place
pub record Handing : Type 0 where
  pub buffer : Buffer
  pub at : ℕ

abbrev pub is_handed : ℕ → Handing → Bool
is_handed cluster s = nat_lt 0 s.at && nat_eq (cluster_at s.buffer (s.at - 1)) cluster

abbrev pub handed_step : ℕ → Handing → Handing
handed_step cluster s = if is_handed cluster s
    then record { buffer = put_at (s.at - 1) (hand_over (item_at s.buffer s.at) (item_at s.buffer (s.at - 1))) s.buffer; at = s.at - 1 }
    else s

abbrev pub all_handed : ℕ → Buffer → Handing
all_handed i b = times (handed_step (cluster_at b (i - 1))) i (record { buffer = b; at = i })

abbrev pub handed_back : ℕ → Buffer → Buffer
handed_back i b = (all_handed i b).buffer

-- the cluster of a glyph that goes, unless the glyph after it has it: a least cluster is handed to the glyphs before it; the
-- first glyph is merged with the one after it
abbrev pub left_to_neighbours : ℕ → Buffer → Buffer
left_to_neighbours i b = if not (is_inside i b) || is_left_in b i then b
    else (if nat_eq i 0 then merged 0 2 b
    else (if nat_lt (cluster_at b i) (cluster_at b (i - 1)) then handed_back i b else b))

abbrev pub gone : ℕ → Buffer → Buffer
gone i b = taken_out i (left_to_neighbours i b)

-- how many glyphs before it a cluster is handed to
abbrev pub handed_count : ℕ → Buffer → ℕ
handed_count i b = if not (is_inside i b) || is_left_in b i then 0
    else (if nat_eq i 0 then 0
    else (if nat_lt (cluster_at b i) (cluster_at b (i - 1)) then i - (all_handed i b).at else 0))

-- one for each of these, since it is written anew; if what is left doesn't suffice, nothing is left
abbrev pub handing_charged : ℕ → Spot → Spot
handing_charged count spot = record spot { left = spot.left - count }

abbrev pub taken_away : ℕ → Spot → Buffer → Applied
taken_away after spot b = let made = gone spot.at b in
    record { buffer = made; next = Some (handing_charged (handed_count spot.at b) (with_as_many_after after spot made)) }

-- once nothing is left, no glyph is deleted
abbrev pub deleted : Spot → Buffer → Applied
deleted spot b = if nat_eq spot.left 0 then unapplied b else taken_away (length b.items - (spot.at + 1)) spot b

-- glyph number `k` of the list put in after a place, then those before it
pub record Copying : Type 0 where
  pub buffer : Buffer
  pub k : ℕ

abbrev pub copy_like : Lookup → ℕ → Item → Item → ℕ → Item
copy_like l list first item k =
    record (taken_apart l (listed_at l.table.now list k) k item) { cluster = first.cluster; mask = first.mask }

abbrev pub copy_put : Lookup → ℕ → ℕ → Item → Copying → Copying
copy_put l list at item s = record {
  buffer = put_after at (copy_like l list (item_at s.buffer at) item s.k) s.buffer;
  k = s.k - 1;
}

abbrev pub copies_put : Lookup → ℕ → ℕ → Item → ℕ → Buffer → Buffer
copies_put l list at item n b = (times (copy_put l list at item) n (record { buffer = b; k = n })).buffer

abbrev pub first_put : Lookup → ℕ → ℕ → Item → Buffer → Buffer
first_put l list at item b = put_at at (taken_apart l (listed_at l.table.now list 0) 0 item) b

abbrev pub several_put : Lookup → ℕ → ℕ → Buffer → Buffer
several_put l list at b = let item = item_at b at in
    copies_put l list at item (listed_count l.table.now list - 1) (first_put l list at item b)

-- the glyphs listed at a place: one replaces
abbrev pub list_put : Lookup → ℕ → ℕ → Buffer → Buffer
list_put l list at b = if nat_eq (listed_count l.table.now list) 1
    then put_at at (replaced l 0 (listed_at l.table.now list 0) (item_at b at)) b
    else several_put l list at b

abbrev pub glyphs_put : Lookup → Spot → Buffer → ℕ → Applied
glyphs_put l spot b list = let after = length b.items - (spot.at + 1) in
    let made = list_put l list spot.at b in
    record { buffer = made; next = Some (with_as_many_after after spot made) }

-- a list of none deletes
abbrev pub sequence_put : Lookup → Spot → Buffer → ℕ → Applied
sequence_put l spot b list = if nat_eq (listed_count l.table.now list) 0 then deleted spot b else glyphs_put l spot b list

abbrev pub multiple_applied : Lookup → ℕ → Spot → Buffer → Applied
multiple_applied l start spot b =
    option_map_or (sequence_put l spot b) (set_of l.table.now start (item_at b spot.at).glyph_id) (unapplied b)
