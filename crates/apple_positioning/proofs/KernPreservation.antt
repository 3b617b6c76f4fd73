-- The older table kern moves glyphs, and preserves the rest, whatever the bytes of the font are.
use Prim.Native.Nat.{zero}
use Rattle.std.proofs.Common.{◌≡◌, ℕ, suc, ◌+◌, ◌&&◌, Bool, false, List, Option, length, nat_eq, nat_lt, if◌then◌else◌}
use Rattle.font_sizes.specs.declared.scales.Scale.{Scale}
use Rattle.shape_buffer.specs.Preservation.{IsClusterPreserving, IsFlagPreserving}
use Rattle.shape_common.specs.Direction.{is_backward, is_horizontal}
use Rattle.shape_items.specs.Buffer.{Buffer}
use Rattle.shape_items.specs.BufferClusters.{unsafe_to_concat}
use Rattle.kern_table.specs.Headers.{ends_table, first_start, length_of}
use Rattle.kern_table.specs.StepLaws.{step-kerned}
use Rattle.kern_table.specs.Tables.{charged, is_read, reversed, subtable_count_of, subtable_kerned, subtable_work}
use Rattle.kern_table.specs.Walk.{kerned}
use Rattle.apple_positioning.specs.OldTables.{Font, begun, chained_after, ended, is_plain, kern_run, one_more, runs_more, runs_on, source}
use Rattle.apple_positioning.specs.Tables.{finished, one_run}
use Rattle.apple_positioning.proofs.KerxPreservation.{finished-preserves, one-preserves}
use Rattle.apple_positioning.proofs.PreservedLemmas.{Preserves, Preserves-broken, Preserves-charged, Preserves-concat, Preserves-count, Preserves-if}
use Rattle.apple_positioning.proofs.PreservedLemmas.{Preserves-order, Preserves-put, Preserves-same, Preserves-then, Preserves-turned}

-- ---- a subtable

kerned-preserves : (scale : Option Scale) (t : List ℕ) (start mask : ℕ) (b : Buffer) → Preserves b (kerned scale t start mask b)
kerned-preserves = step-kerned Preserves Preserves-same Preserves-then Preserves-broken Preserves-concat Preserves-put

pairs-preserve : (scale : Option Scale) (t : List ℕ) (start mask : ℕ) (b : Buffer) → Preserves b (subtable_kerned scale t start mask b)
pairs-preserve scale t start mask b =
    let back : Buffer = reversed (kerned scale t start mask (reversed b)) in
    let on : Buffer = kerned scale t start mask b in
    Preserves-if (is_read t start (is_horizontal b.direction)) b (if is_backward b.direction then back else on) b
    (Preserves-if (is_backward b.direction) b back on (Preserves-turned (kerned scale t start mask) (kerned-preserves scale t start mask) b)
    (kerned-preserves scale t start mask b))
    (Preserves-same b)

any-preserves : (f : Font) (start : ℕ) (is_last is_chained : Bool) (b : Buffer) → Preserves b (one_more f start is_last is_chained b)
any-preserves f start is_last is_chained b =
    Preserves-if (runs_more f.kern start) b (one_run (source f start is_last) is_chained b) (subtable_kerned f.scale f.kern start f.mask b)
    (one-preserves (source f start is_last) is_chained b) (pairs-preserve f.scale f.kern start f.mask b)

ended-preserves : (is_chained : Bool) (b : Buffer) → Preserves b (ended is_chained b)
ended-preserves is_chained b = Preserves-if is_chained b (finished b) b (finished-preserves b) (Preserves-same b)

-- ---- the table

runs-preserve : (f : Font) (n start : ℕ) (is_chained : Bool) (b : Buffer) → Preserves b (runs_on f n start is_chained b)
runs-preserve f zero start is_chained b = ended-preserves is_chained b
runs-preserve f (suc n) start is_chained b =
    let paid : Buffer = charged b in
    let there : Buffer = one_more f start (nat_eq n 0) is_chained paid in
    let next : ℕ = start + length_of f.kern start in
    let after : Bool = chained_after f start (nat_eq n 0) is_chained paid in
    let rest : Buffer = runs_on f n next after there in
    Preserves-if (ends_table f.kern start) b (ended is_chained b)
    (if nat_lt b.max_ops (subtable_work (length b.items)) then ended is_chained paid else rest) (ended-preserves is_chained b)
    (Preserves-if (nat_lt b.max_ops (subtable_work (length b.items))) b (ended is_chained paid) rest
    (Preserves-then b paid (ended is_chained paid) (Preserves-charged b) (ended-preserves is_chained paid))
    (Preserves-then b paid rest (Preserves-charged b)
    (Preserves-then paid there rest (any-preserves f start (nat_eq n 0) is_chained paid) (runs-preserve f n next after there))))

pub kern-preserves : (f : Font) (b : Buffer) → Preserves b (kern_run f b)
unfolding kern_run
kern-preserves f b =
    let marked : Buffer = unsafe_to_concat 0 (length b.items) b in
    let run : Buffer = runs_on f (subtable_count_of f.kern) (first_start f.kern) false (begun f b) in
    Preserves-if (nat_eq f.mask 0 && is_plain f.kern) b b run (Preserves-same b)
    (Preserves-then b (begun f b) run
    (Preserves-if (is_plain f.kern) b b marked (Preserves-same b) (Preserves-concat (length b.items) b))
    (runs-preserve f (subtable_count_of f.kern) (first_start f.kern) false (begun f b)))

-- ---- what that is of a step of a run

pub kern-order : (f : Font) → IsClusterPreserving (kern_run f)
kern-order f b monotone = Preserves-order b (kern_run f b) (kern-preserves f b)

pub kern-flags : (f : Font) → IsFlagPreserving (kern_run f)
kern-flags f b = (kern-preserves f b).flags

pub kern-count : (f : Font) (b : Buffer) → length (kern_run f b).items ≡ length b.items
kern-count f b = Preserves-count b (kern_run f b) (kern-preserves f b)
