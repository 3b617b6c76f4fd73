-- The table kerx moves glyphs, and preserves the rest, whatever the bytes of the font are: a pair that is moved, each step of a walk by a
-- state table, a subtable over the list in either order, and the subtables, one after the other.
use Prim.Native.Nat.{zero}
use Rattle.std.proofs.Common.{◌≡◌, ℕ, suc, ℤ, ◌+◌, ◌-◌, ◌||◌, ◌&&◌, not, Bool, true, false, List, [], ◌∷◌, Option, Some, None, length, replicate}
use Rattle.std.proofs.Common.{nat_eq, nat_le, nat_lt, if◌then◌else◌}
use Rattle.std.specs.Option.{option_map_or}
use Rattle.std.specs.Prelude.{pos}
use Rattle.std.specs.Int.RustNames.{bit_and}
use Rattle.std.specs.Ordering.{int_eq}
use Rattle.shape_buffer.specs.Preservation.{IsClusterPreserving, IsFlagPreserving}
use Rattle.shape_buffer.specs.PositionWalks.{positions_mapped}
use Rattle.shape_common.specs.Direction.{is_forward, is_horizontal}
use Rattle.shape_common.specs.Wrapping.{◌-ʷ◌}
use Rattle.shape_common.specs.declared.positions.GlyphPosition.{GlyphPosition}
use Rattle.shape_font.specs.Metrics.{half_down}
use Rattle.shape_items.specs.Buffer.{Buffer}
use Rattle.shape_items.specs.BufferClusters.{unsafe_to_break, unsafe_to_concat}
use Rattle.shape_items.specs.Items.{Item}
use Rattle.apple_tables.specs.declared.states.Entry.{Entry}
use Rattle.kern_table.specs.Tables.{charged, reversed, subtable_work}
use Rattle.kern_table.specs.Walk.{is_skipped_by, item_at, moved, moved_on, position_at, position_put}
use Rattle.apple_positioning.specs.Attaching as attaching_rules
use Rattle.apple_positioning.specs.Chains.{subtables_of}
use Rattle.apple_positioning.specs.Deeds.{Deeds, Spot}
use Rattle.apple_positioning.specs.Driver.{Drive, STEP_WORK, advanced, driven, driven_on, first_drive, is_safe_to_break, looks_again, marked, met_at}
use Rattle.apple_positioning.specs.Driver.{most_steps, stepped}
use Rattle.apple_positioning.specs.Pairs.{glyph_shifted, kerned, kerned_at, kerned_to, kerned_with, pair_moved, pair_put, pair_spaced, run_kerned}
use Rattle.apple_positioning.specs.Pairs.{scaled, shifted}
use Rattle.apple_positioning.specs.Layouts.{attaches, has_pairs, list_by}
use Rattle.apple_positioning.specs.Runs.{HAS_ATTACHMENT, Source, action_for, header, is_on, kerning_for, with_attachment}
use Rattle.apple_positioning.specs.Stacking as stacking_rules
use Rattle.apple_positioning.specs.Stacking.{Popped, glyph_popped, glyph_raised, glyph_spaced, next_pop, place_in, popped, popped_one}
use Rattle.apple_positioning.specs.Stacks.{value_at}
use Rattle.apple_positioning.specs.Subtables.{acted, acted_in_order, attached, is_for, is_reversed, stacked, subtable_run}
use Rattle.apple_positioning.specs.Tables.{Font, all_chained, chained, chains, finished, loose, one_run, runs_from, source, table_run}
use Rattle.apple_positioning.specs.declared.driver.Met.{Met}
use Rattle.apple_positioning.specs.declared.driver.Walk.{Walk}
use Rattle.apple_positioning.specs.declared.stacking.Stack.{Stack}
use Rattle.apple_positioning.proofs.PreservedLemmas.{Preserves, Preserves-broken, Preserves-charged, Preserves-concat, Preserves-count, Preserves-if}
use Rattle.apple_positioning.proofs.PreservedLemmas.{Preserves-mapped, Preserves-noted, Preserves-order, Preserves-paid, Preserves-put, Preserves-same}
use Rattle.apple_positioning.proofs.PreservedLemmas.{Preserves-then, Preserves-turned}

-- ---- what holds of both cases

of_option : {T A : Type 0} (P : T → Type 0) (f : A → T) (o : Option A) (d : T) → ((a : A) → P (f a)) → P d → P (option_map_or f o d)
of_option P f None d x y = y
of_option P f (Some a) d x y = x a

of_if : {T : Type 0} (P : T → Type 0) (t : Bool) (x y : T) → P x → P y → P (if t then x else y)
of_if P true x y p q = p
of_if P false x y p q = q

-- ---- a pair

shifted-preserves : (j : ℕ) (by : ℤ) (b : Buffer) → Preserves b (glyph_shifted j by b)
shifted-preserves j by b =
    let put : Buffer = position_put j (shifted (is_horizontal b.direction) by (position_at b j)) b in
    Preserves-then b put (with_attachment put) (Preserves-put j (shifted (is_horizontal b.direction) by (position_at b j)) b)
    (Preserves-noted put)

spaced-preserves : (i j : ℕ) (by : ℤ) (b : Buffer) → Preserves b (pair_spaced i j by b)
spaced-preserves i j by b =
    let along = is_horizontal b.direction in
    let rest = by -ʷ half_down by in
    let p = moved_on along (half_down by) (position_at b i) in
    let first : Buffer = position_put i p b in
    let q = moved along rest (moved_on along rest (position_at first j)) in
    Preserves-then b first (position_put j q first) (Preserves-put i p b) (Preserves-put j q first)

put-preserves : (across : Bool) (i j : ℕ) (by : ℤ) (b : Buffer) → Preserves b (pair_put across i j by b)
put-preserves across i j by b =
    Preserves-if across b (glyph_shifted j by b) (pair_spaced i j by b) (shifted-preserves j by b) (spaced-preserves i j by b)

moved-preserves : (s : Source) (i j : ℕ) (value : ℤ) (b : Buffer) → Preserves b (pair_moved s i j value b)
moved-preserves s i j value b =
    let across = (header s).is_cross_stream in
    let by = scaled s (is_horizontal b.direction) value in
    let put : Buffer = pair_put across i j by b in
    Preserves-if (int_eq value (pos 0)) b b (unsafe_to_break i (j + 1) put) (Preserves-same b)
    (Preserves-then b put (unsafe_to_break i (j + 1) put) (put-preserves across i j by b) (Preserves-broken i (j + 1) put))

-- ---- a run by pairs

with-preserves : (s : Source) (j : ℕ) (left : Option ℕ) (b : Buffer) → Preserves b (kerned_with s j left b)
with-preserves s j None b = Preserves-same b
with-preserves s j (Some i) b =
    moved-preserves s i j (kerning_for s (item_at b.items i).glyph_id (item_at b.items j).glyph_id) b

at-preserves : (s : Source) (j : ℕ) (left : Option ℕ) (b : Buffer) → Preserves b (kerned_at s j left b)
at-preserves s j left b =
    let on : Buffer = if is_on s (item_at b.items j) then kerned_with s j left b else b in
    Preserves-if (is_skipped_by left (item_at b.items j)) b b on (Preserves-same b)
    (Preserves-if (is_on s (item_at b.items j)) b (kerned_with s j left b) b (with-preserves s j left b) (Preserves-same b))

to-preserves : (s : Source) (j : ℕ) (b : Buffer) → Preserves b (kerned_to s j b).buffer
to-preserves s zero b = Preserves-same b
to-preserves s (suc j) b =
    let before = kerned_to s j b in
    Preserves-then b before.buffer (kerned_at s j before.left before.buffer) (to-preserves s j b)
    (at-preserves s j before.left before.buffer)

kerned-preserves : (s : Source) (b : Buffer) → Preserves b (kerned s b)
unfolding kerned
kerned-preserves s b =
    let there : Buffer = unsafe_to_concat 0 (length b.items) b in
    Preserves-then b there (kerned_to s (length b.items) there).buffer (Preserves-concat (length b.items) b)
    (to-preserves s (length b.items) there)

run-preserves : (s : Source) (b : Buffer) → Preserves b (run_kerned s b)
run-preserves s b =
    Preserves-if (nat_eq s.mask 0 || (header s).is_backward) b b (kerned s b) (Preserves-same b) (kerned-preserves s b)

-- ---- a walk of which each transition preserves

abbrev EachPreserves : {T : Type 0} → Deeds T → Type 0
EachPreserves {T} deeds = (e : Entry) (at : ℕ) (p : Spot T) → Preserves p.buffer (deeds.transition e at p).buffer

marked-preserves : (s : Source) (at : ℕ) (met : Met) (b : Buffer) → Preserves b (marked s at met b)
unfolding marked
marked-preserves s at met b =
    Preserves-if (nat_eq at 0 || (met.ends || is_safe_to_break s met)) b b (unsafe_to_break (at - 1) (at + 1) b) (Preserves-same b)
    (Preserves-broken (at - 1) (at + 1) b)

advanced-preserves : {T : Type 0} (e : Entry) (walk : Walk) (p : Spot T) → Preserves p.buffer (advanced e walk p).buffer
advanced-preserves e walk p =
    let b : Buffer = p.buffer in
    Preserves-if (looks_again e walk.at b) b (record b { max_ops = b.max_ops - STEP_WORK }) b (Preserves-paid STEP_WORK b) (Preserves-same b)

stepped-preserves : {T : Type 0} (s : Source) (deeds : Deeds T) → EachPreserves deeds → (d : Drive T)
    → Preserves d.buffer (stepped s deeds d).buffer
unfolding stepped
stepped-preserves {T} s deeds each d =
    let met : Met = met_at s d.walk d.buffer in
    let there : Buffer = marked s d.walk.at met d.buffer in
    let spot : Spot T = record { buffer = there; memory = d.memory } in
    let made : Spot T = deeds.transition met.entry d.walk.at spot in
    Preserves-then d.buffer there (advanced met.entry d.walk made).buffer (marked-preserves s d.walk.at met d.buffer)
    (Preserves-then there made.buffer (advanced met.entry d.walk made).buffer (each met.entry d.walk.at spot)
    (advanced-preserves met.entry d.walk made))

drive-preserves : {T : Type 0} (s : Source) (deeds : Deeds T) → EachPreserves deeds → (n : ℕ) (d : Drive T)
    → Preserves d.buffer (driven_on s deeds n d).buffer
drive-preserves s deeds each zero d = Preserves-same d.buffer
drive-preserves {T} s deeds each (suc n) d =
    let next : Drive T = if d.walk.has_ended then d else stepped s deeds d in
    Preserves-then d.buffer next.buffer (driven_on s deeds n next).buffer
    (of_if (λ (x : Drive T). Preserves d.buffer x.buffer) d.walk.has_ended d (stepped s deeds d) (Preserves-same d.buffer)
    (stepped-preserves s deeds each d))
    (drive-preserves s deeds each n next)

driven-preserves : {T : Type 0} (s : Source) (deeds : Deeds T) (memory : T) → EachPreserves deeds → (b : Buffer)
    → Preserves b (driven s deeds memory b)
driven-preserves s deeds memory each b = drive-preserves s deeds each (most_steps b) (first_drive s memory b)

-- ---- a stack

glyph_spaced-preserves : (s : Source) (i : ℕ) (v : ℤ) (b : Buffer) → Preserves b (glyph_spaced s i v b)
glyph_spaced-preserves s i v b =
    let p = stacking_rules.widened s (is_horizontal b.direction) v (position_at b i) in
    Preserves-if (is_on s (item_at b.items i)) b (position_put i p b) b (Preserves-put i p b) (Preserves-same b)

glyph_raised-preserves : (s : Source) (i : ℕ) (v : ℤ) (b : Buffer) → Preserves b (glyph_raised s i v b)
glyph_raised-preserves s i v b =
    let along = is_horizontal b.direction in
    let p = position_at b i in
    let back = stacking_rules.put_back along p in
    let up = stacking_rules.raised s along v p in
    let put : Buffer = position_put i up b in
    Preserves-if (stacking_rules.puts_back v) b (position_put i back b) (if nat_eq p.attach_type 0 then b else with_attachment put)
    (Preserves-put i back b)
    (Preserves-if (nat_eq p.attach_type 0) b b (with_attachment put) (Preserves-same b)
    (Preserves-then b put (with_attachment put) (Preserves-put i up b) (Preserves-noted put)))

glyph_popped-preserves : (s : Source) (i : ℕ) (v : ℤ) (b : Buffer) → Preserves b (glyph_popped s i v b)
glyph_popped-preserves s i v b =
    Preserves-if (header s).is_cross_stream b (glyph_raised s i v b) (glyph_spaced s i v b) (glyph_raised-preserves s i v b)
    (glyph_spaced-preserves s i v b)

popped_one-preserves : (s : Source) (places : List ℕ) (d : Popped) → Preserves d.buffer (popped_one s places d).buffer
unfolding popped_one
popped_one-preserves s places d =
    let place = place_in places (d.popping.depth - 1) in
    let value = value_at s.bytes d.popping.at in
    of_if (λ (x : Popped). Preserves d.buffer x.buffer) (nat_le (length d.buffer.items) place) (record d { popping = next_pop s d.popping })
    (record { buffer = glyph_popped s place value.by d.buffer; popping = record (next_pop s d.popping) { has_ended = value.is_last } })
    (Preserves-same d.buffer) (glyph_popped-preserves s place value.by d.buffer)

popped-preserves : (s : Source) (places : List ℕ) (n : ℕ) (d : Popped) → Preserves d.buffer (popped s places n d).buffer
popped-preserves s places zero d = Preserves-same d.buffer
popped-preserves s places (suc n) d =
    let next : Popped = if d.popping.has_ended then d else popped_one s places d in
    Preserves-then d.buffer next.buffer (popped s places n next).buffer
    (of_if (λ (x : Popped). Preserves d.buffer x.buffer) d.popping.has_ended d (popped_one s places d) (Preserves-same d.buffer)
    (popped_one-preserves s places d))
    (popped-preserves s places n next)

performed-preserves : (s : Source) (k : Stack) (index : ℕ) (b : Buffer) → Preserves b (stacking_rules.performed s k index b).buffer
performed-preserves s k index b =
    of_option (λ (x : Spot Stack). Preserves b x.buffer) (λ at. stacking_rules.spot_popped s k at b) (list_by s.layout s.bytes index k.depth)
    (record { buffer = b; memory = record k { depth = 0 } })
    (λ at. popped-preserves s k.places k.depth
    (record { buffer = b; popping = record { depth = k.depth; at = at; has_ended = false } }))
    (Preserves-same b)

stacking-preserves : (s : Source) → EachPreserves (stacking_rules.deeds s)
stacking-preserves s e at p =
    let k : Stack = stacking_rules.stack_after s e at p.memory in
    of_option (λ (x : Spot Stack). Preserves p.buffer x.buffer) (λ index. stacking_rules.performed s k index p.buffer)
    (action_for s e) (record { buffer = p.buffer; memory = k }) (λ index. performed-preserves s k index p.buffer)
    (Preserves-same p.buffer)

-- ---- glyphs that are attached

hung-preserves : (at mark : ℕ) (p : GlyphPosition) (b : Buffer) → Preserves b (attaching_rules.glyph_hung at mark p b)
hung-preserves at mark p b =
    let q = attaching_rules.hung (attaching_rules.chain_to at mark) p in
    Preserves-then b (position_put at q b) (with_attachment (position_put at q b)) (Preserves-put at q b)
    (Preserves-noted (position_put at q b))

acted-attaching : (s : Source) (index at mark : ℕ) (b : Buffer) → Preserves b (attaching_rules.acted s index at mark b).buffer
acted-attaching s index at mark b =
    of_option (λ (x : attaching_rules.Acted). Preserves b x.buffer)
    (λ p. record { buffer = attaching_rules.glyph_hung at mark p b; is_done = true }) (attaching_rules.found s index at mark b)
    (record { buffer = b; is_done = false }) (λ p. hung-preserves at mark p b) (Preserves-same b)

acted_by-preserves : (s : Source) (e : Entry) (at mark : ℕ) (b : Buffer) → Preserves b (attaching_rules.acted_by s e at mark b).buffer
acted_by-preserves s e at mark b =
    let P : attaching_rules.Acted → Type 0 = λ x. Preserves b x.buffer in
    let nothing : attaching_rules.Acted = record { buffer = b; is_done = true } in
    let act : ℕ → attaching_rules.Acted = λ index. attaching_rules.acted s index at mark b in
    of_if P (nat_lt at (length b.items)) (option_map_or act (action_for s e) nothing) nothing
    (of_option P act (action_for s e) nothing (λ index. acted-attaching s index at mark b) (Preserves-same b)) (Preserves-same b)

attaching-preserves : (s : Source) → EachPreserves (attaching_rules.deeds s)
attaching-preserves s e at p =
    of_option (λ (x : attaching_rules.Acted). Preserves p.buffer x.buffer) (λ m. attaching_rules.acted_by s e at m p.buffer) p.memory
    (record { buffer = p.buffer; is_done = true }) (λ m. acted_by-preserves s e at m p.buffer) (Preserves-same p.buffer)

-- ---- a subtable

stacked-preserves : (s : Source) (b : Buffer) → Preserves b (stacked s b)
stacked-preserves s b =
    let empty : Stack = record { depth = 0; places = replicate 8 0 } in
    Preserves-if (nat_eq s.mask 0 && not (header s).is_cross_stream) b b (driven s (stacking_rules.deeds s) empty b)
    (Preserves-same b) (driven-preserves s (stacking_rules.deeds s) empty (stacking-preserves s) b)

attached-preserves : (s : Source) (b : Buffer) → Preserves b (attached s b)
attached-preserves s b = driven-preserves s (attaching_rules.deeds s) None (attaching-preserves s) b

acted-preserves : (s : Source) (b : Buffer) → Preserves b (acted s b)
unfolding acted
acted-preserves s b =
    let h = header s in
    Preserves-if (has_pairs s.layout h.format) b (run_kerned s b) _ (run-preserves s b)
    (Preserves-if (nat_eq h.format 1) b (stacked s b) _ (stacked-preserves s b)
    (Preserves-if (attaches s.layout h.format) b (attached s b) b (attached-preserves s b) (Preserves-same b)))

in_order-preserves : (s : Source) (b : Buffer) → Preserves b (acted_in_order s b)
unfolding acted_in_order
in_order-preserves s b =
    Preserves-if (is_reversed (header s) b.direction) b (reversed (acted s (reversed b))) (acted s b)
    (Preserves-turned (acted s) (acted-preserves s) b) (acted-preserves s b)

subtable-preserves : (s : Source) (b : Buffer) → Preserves b (subtable_run s b)
subtable-preserves s b =
    Preserves-if (is_for (header s) (is_horizontal b.direction)) b (acted_in_order s b) b (in_order-preserves s b)
    (Preserves-same b)

-- ---- the table

pub one-preserves : (s : Source) (is_chained : Bool) (b : Buffer) → Preserves b (one_run s is_chained b)
one-preserves s is_chained b =
    let ready : Buffer = if chains s is_chained b then all_chained b else b in
    Preserves-then b ready (subtable_run s ready)
    (Preserves-if (chains s is_chained b) b (all_chained b) b (Preserves-mapped (λ (item : Item). chained (is_forward b.direction)) b)
    (Preserves-same b))
    (subtable-preserves s ready)

from-preserves : (f : Font) (subtables : List (List ℕ)) (is_chained : Bool) (b : Buffer) → Preserves b (runs_from f subtables is_chained b)
from-preserves f [] is_chained b = Preserves-same b
from-preserves f (bytes ∷ rest) is_chained b =
    let s : Source = source f bytes in
    let paid : Buffer = charged b in
    let there : Buffer = one_run s is_chained paid in
    let after : Bool = is_chained || chains s is_chained paid in
    Preserves-if (nat_lt b.max_ops (subtable_work (length b.items))) b paid (runs_from f rest after there) (Preserves-charged b)
    (Preserves-then b paid (runs_from f rest after there) (Preserves-charged b)
    (Preserves-then paid there (runs_from f rest after there) (one-preserves s is_chained paid) (from-preserves f rest after there)))

pub finished-preserves : (b : Buffer) → Preserves b (finished b)
unfolding finished
finished-preserves b =
    Preserves-if (nat_eq (bit_and b.scratch_flags.0 HAS_ATTACHMENT) 0) b (positions_mapped (λ (item : Item). loose) b) b
    (Preserves-mapped (λ (item : Item). loose) b) (Preserves-same b)

pub kerx-preserves : (f : Font) (b : Buffer) → Preserves b (table_run f b)
unfolding table_run
kerx-preserves f b =
    let marked : Buffer = unsafe_to_concat 0 (length b.items) b in
    let run : Buffer = runs_from f (subtables_of f.kerx) false marked in
    Preserves-then b marked (finished run) (Preserves-concat (length b.items) b)
    (Preserves-then marked run (finished run) (from-preserves f (subtables_of f.kerx) false marked) (finished-preserves run))

-- ---- what that is of a step of a run

pub kerx-order : (f : Font) → IsClusterPreserving (table_run f)
kerx-order f b monotone = Preserves-order b (table_run f b) (kerx-preserves f b)

pub kerx-flags : (f : Font) → IsFlagPreserving (table_run f)
kerx-flags f b = (kerx-preserves f b).flags

pub kerx-count : (f : Font) (b : Buffer) → length (table_run f b).items ≡ length b.items
kerx-count f b = Preserves-count b (table_run f b) (kerx-preserves f b)
