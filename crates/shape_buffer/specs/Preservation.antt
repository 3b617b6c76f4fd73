-- What preserves the clusters and the flags of a buffer: steps of a run, and what is asked of lookups.
use Rattle.std.specs.Prelude.{◌≡◌, ℕ, List, [], ◌∷◌}
use Rattle.shape_items.specs.Buffer.{Buffer}
use Rattle.shape_items.specs.ClusterOrder.{IsMonotoneLevel, PreservesClusters}
use Rattle.shape_items.specs.Clusters.{clusters}
use Rattle.shape_items.specs.PreservesFlags.{PreservesFlags}
use Rattle.shape_buffer.specs.Layout.{LookupMeaning}
use Rattle.shape_buffer.specs.Outcome.{Step}
use Rattle.shape_common.specs.declared.text_types.Feature.{Feature}

-- the clusters keep their order and none is new, and direction, flags and level stay
pub record PreservesOrder (before after : Buffer) : Type 0 where
  pub clusters : PreservesClusters (clusters before.items) (clusters after.items)
  pub direction : after.direction ≡ before.direction
  pub flags : after.flags ≡ before.flags
  pub level : after.cluster_level ≡ before.cluster_level

-- a step that preserves clusters, at the monotone levels
abbrev pub IsClusterPreserving : (Buffer → Buffer) → Type 0
IsClusterPreserving f = (b : Buffer) → IsMonotoneLevel b.cluster_level → PreservesOrder b (f b)

-- a step that preserves flags, at every level
abbrev pub IsFlagPreserving : (Buffer → Buffer) → Type 0
IsFlagPreserving f = (b : Buffer) → PreservesFlags b (f b)

-- a property of each step of a list
abbrev pub EachStep : ((Buffer → Buffer) → Type 0) → List Step → Type 0
EachStep Preserves [] = Unit {0}
EachStep Preserves (step ∷ steps) = Preserves step.makes × EachStep Preserves steps

-- a property of each call of the lookups
pub record EachLookup (Preserves : (Buffer → Buffer) → Type 0) (lookups : LookupMeaning) : Type 0 where
  pub substitute_start : Preserves lookups.substitute_start
  pub stage : (i : ℕ) → Preserves (lookups.stage i)
  pub aat_substitute : (features : List Feature) → Preserves (lookups.aat_substitute features)
  pub aat_remove_deleted : Preserves lookups.aat_remove_deleted
  pub aat_zero_width_deleted : Preserves lookups.aat_zero_width_deleted
  pub position_start : Preserves lookups.position_start
  pub position : Preserves lookups.position
  pub position_finish_advances : Preserves lookups.position_finish_advances
  pub position_finish_offsets : Preserves lookups.position_finish_offsets
  pub aat_position : (mask : ℕ) → Preserves (lookups.aat_position mask)
  pub kern : (mask : ℕ) → Preserves (lookups.kern mask)
  pub aat_track : (mask : ℕ) → Preserves (lookups.aat_track mask)

-- the premises on lookups: each of them preserves clusters, and each preserves flags
abbrev pub LookupsPreserveClusters : LookupMeaning → Type 0
LookupsPreserveClusters lookups = EachLookup IsClusterPreserving lookups

abbrev pub LookupsPreserveFlags : LookupMeaning → Type 0
LookupsPreserveFlags lookups = EachLookup IsFlagPreserving lookups
