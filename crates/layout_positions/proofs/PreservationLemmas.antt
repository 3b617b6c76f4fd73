-- lookups and attachment preserve clusters, flags and settings
use Rattle.std.proofs.Common.{◌≡◌, ℕ, ◌≤◌, ◌==◌, Bool, true, false, List, min, length, nat_le, nat_lt, fold, refl, sym, ap, ◌∙◌, inl, inr, slice_set, arith, if◌then◌else◌}
use Rattle.std.proofs.lemmas.Bool.Decides.{nat_tests}
use Rattle.std.proofs.lemmas.List.{length-map}
use Rattle.std.specs.Int.RustNames.{bit_and}
use Rattle.shape_common.specs.FlagNames.{PRODUCE_UNSAFE_TO_CONCAT}
use Rattle.shape_common.specs.declared.positions.GlyphPosition.{GlyphPosition}
use Rattle.shape_items.specs.Buffer.{Buffer}
use Rattle.shape_items.specs.BufferClusters.{unsafe_to_break, unsafe_to_concat, with_glyph_flags}
use Rattle.shape_items.specs.Clusters.{clusters, map_range, mark_concat}
use Rattle.shape_items.specs.Items.{Item}
use Rattle.shape_items.proofs.Flags.FlagLemmas.{glyph_flags_set, PreservesFlags-same, PreservesFlags-then, unsafe_to_break_preserves}
use Rattle.shape_items.proofs.Merging.KeyLemmas.{keys-map_range, keys-unsafe_to_break, without_items-unsafe_to_break}
use Rattle.shape_buffer.specs.Preservation.{PreservesOrder, IsClusterPreserving, IsFlagPreserving}
use Rattle.shape_buffer.specs.PositionWalks.{positions_mapped}
use Rattle.shape_buffer.proofs.Steps.PreservationLemmas.{PreservesClusters-equal}
use Rattle.layout_matching.specs.declared.lookup.Lookup.{Lookup}
use Rattle.layout_positions.specs.Attachment.{offsets_finished}
use Rattle.layout_positions.specs.Edits.{position_put, broken, concat_marked}
use Rattle.layout_positions.specs.Preserves.{Kept}
use Rattle.layout_positions.specs.Walk.{started, Budgeted, budgeted, lookup_applied, positioned}
use Rattle.layout_positions.proofs.NestedSteps.{step-lookups}
use Rattle.layout_positions.proofs.StepLemmas.{step-tried, step-finished}

Kept-same : (b : Buffer) → Kept b b
Kept-same b = record { clusters = refl; count = refl; flags = PreservesFlags-same b; direction = refl; level = refl; limit = refl }

Kept-then : (a b c : Buffer) → Kept a b → Kept b c → Kept a c
Kept-then a b c first later = record {
  clusters = later.clusters ∙ first.clusters;
  count = later.count ∙ first.count;
  flags = PreservesFlags-then a b c first.flags later.flags;
  direction = later.direction ∙ first.direction;
  level = later.level ∙ first.level;
  limit = later.limit ∙ first.limit;
}

kept-if : (t : Bool) (b c d : Buffer) → (t ≡ true → Kept b c) → Kept b d → Kept b (if t then c else d)
kept-if true b c d x y = x refl
kept-if false b c d x y = y

-- as many clusters are as many items
count-equal : (xs ys : List Item) → clusters ys ≡ clusters xs → length ys ≡ length xs
count-equal xs ys e = sym (length-map ys (λ (x : Item). x.cluster)) ∙ ap length e ∙ length-map xs (λ (x : Item). x.cluster)

break-kept : (start end : ℕ) (b : Buffer) → Kept b (unsafe_to_break start end b)
break-kept start end b =
    let rest = without_items-unsafe_to_break start end b in
    let same : clusters (unsafe_to_break start end b).items ≡ clusters b.items =
    keys-unsafe_to_break (λ (x : Item). x.cluster) (λ x. refl) start end b in
    record {
      clusters = same;
      count = count-equal b.items (unsafe_to_break start end b).items same;
      flags = unsafe_to_break_preserves start end b;
      direction = ap (λ (c : Buffer). c.direction) rest;
      level = ap (λ (c : Buffer). c.cluster_level) rest;
      limit = ap (λ (c : Buffer). c.length_limit) rest;
    }

Kept-broken : (start end : ℕ) (b : Buffer) → Kept b (broken start end b)
Kept-broken start end b =
    let last = min end (length b.items) in
    kept-if (nat_le start last) b (unsafe_to_break start last b) b (λ t. break-kept start last b) (Kept-same b)

concat-kept : (start end : ℕ) (b : Buffer) → start ≤ end → Kept b (unsafe_to_concat start end b)
concat-kept start end b ordered =
    let marked = map_range mark_concat start end b.items in
    let same : clusters marked ≡ clusters b.items =
    keys-map_range (λ (x : Item). x.cluster) mark_concat (λ x. refl) start end b.items ordered in
    kept-if (bit_and b.flags.0 PRODUCE_UNSAFE_TO_CONCAT == PRODUCE_UNSAFE_TO_CONCAT) b
    (record (with_glyph_flags b) { items = marked }) b
    (λ t. record {
      clusters = same;
      count = count-equal b.items marked same;
      flags = record { flags = refl; stays_set = λ e. glyph_flags_set b; none_new = λ flag d some. inr (glyph_flags_set b) };
      direction = refl;
      level = refl;
      limit = refl;
    })
    (Kept-same b)

Kept-concat_marked : (start end : ℕ) (b : Buffer) → Kept b (concat_marked start end b)
Kept-concat_marked start end b =
    let last = min end (length b.items) in
    kept-if (nat_le start last) b (unsafe_to_concat start last b) b
    (λ t. concat-kept start last b (grind (arith, nat_tests, t))) (Kept-same b)

Kept-put : (i : ℕ) (p : GlyphPosition) (b : Buffer) → Kept b (position_put i p b)
Kept-put i p b =
    kept-if (nat_lt i (length b.items)) b (record b { positions = slice_set b.positions i p }) b
    (λ t. record {
      clusters = refl;
      count = refl;
      flags = record { flags = refl; stays_set = λ e. e; none_new = λ flag d some. inl some };
      direction = refl;
      level = refl;
      limit = refl;
    })
    (Kept-same b)

-- ---- the start, lookups, and attachment

pub started-kept : (b : Buffer) → Kept b (started b)
unfolding positions_mapped
started-kept b = record {
  clusters = refl;
  count = refl;
  flags = record { flags = refl; stays_set = λ e. e; none_new = λ flag d some. inl some };
  direction = refl;
  level = refl;
  limit = refl;
}

counted-kept : (n : ℕ) (b c : Buffer) → Kept b c → Kept b (record c { max_ops = n })
counted-kept n b c kept = record {
  clusters = kept.clusters;
  count = kept.count;
  flags = record { flags = kept.flags.flags; stays_set = kept.flags.stays_set; none_new = kept.flags.none_new };
  direction = kept.direction;
  level = kept.level;
  limit = kept.limit;
}

lookups-kept : (lookups : List Lookup) (s : Budgeted) → Kept s.buffer (fold lookup_applied s lookups).buffer
lookups-kept = step-lookups Kept Kept-same Kept-then Kept-broken Kept-concat_marked
    (λ l i left seen b. step-tried Kept Kept-same Kept-then Kept-broken Kept-concat_marked Kept-put l i left seen b)

pub positioned-kept : (lookups : List Lookup) (b : Buffer) → Kept b (positioned lookups b)
positioned-kept lookups b = let end = fold lookup_applied (budgeted b) lookups in
    counted-kept end.left b end.buffer (lookups-kept lookups (budgeted b))

pub finished-kept : (b : Buffer) → Kept b (offsets_finished b)
finished-kept = step-finished Kept Kept-same Kept-then Kept-broken Kept-concat_marked Kept-put

order : (b c : Buffer) → Kept b c → PreservesOrder b c
order b c kept = record {
  clusters = PreservesClusters-equal _ _ kept.clusters;
  direction = kept.direction;
  flags = kept.flags.flags;
  level = kept.level;
}

pub started-clusters : IsClusterPreserving started
started-clusters b monotone = order b (started b) (started-kept b)

pub started-flags : IsFlagPreserving started
started-flags b = (started-kept b).flags

pub positioned-clusters : (lookups : List Lookup) → IsClusterPreserving (positioned lookups)
positioned-clusters lookups b monotone = order b (positioned lookups b) (positioned-kept lookups b)

pub positioned-flags : (lookups : List Lookup) → IsFlagPreserving (positioned lookups)
positioned-flags lookups b = (positioned-kept lookups b).flags

pub finished-clusters : IsClusterPreserving offsets_finished
finished-clusters b monotone = order b (offsets_finished b) (finished-kept b)

pub finished-flags : IsFlagPreserving offsets_finished
finished-flags b = (finished-kept b).flags
