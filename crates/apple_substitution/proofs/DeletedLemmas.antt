-- The end of a run, which removes the glyphs that ligatures left as deleted, preserves clusters and flags, and settings stay. So does
-- the end of one where they stay, without advances and offsets.
use Rattle.std.proofs.Common.{◌≡◌, ◌≤◌, ℕ, length, refl, ap, ◌∙◌, inl, arith}
use Rattle.shape_items.specs.Buffer.{Buffer}
use Rattle.shape_items.specs.BufferClusters.{merge_clusters}
use Rattle.shape_items.specs.Clusters.{clusters}
use Rattle.shape_items.specs.Delete.{give_to_kept}
use Rattle.shape_items.proofs.Deletion.DeleteLemmas.{hand_on-cases, IsPreservedByLoss, preserved_by_deletion}
use Rattle.shape_items.proofs.Deletion.DeletePreserves.{deleted_preserves_clusters, deleted_preserves_flags}
use Rattle.shape_items.proofs.Merging.KeyLemmas.{without_items-merge_clusters}
use Rattle.shape_buffer.specs.PositionWalks.{positions_mapped}
use Rattle.shape_buffer.specs.Preservation.{IsClusterPreserving, IsFlagPreserving}
use Rattle.shape_buffer.proofs.Steps.PreservationLemmas.{PreservesClusters-same}
use Rattle.apple_substitution.specs.Chains.{deleted_narrowed, is_deleted, without_deleted}
use Rattle.apple_substitution.proofs.PreservedLemmas.{Preserves, Preserves-order}

record SameSettings (before after : Buffer) : Type 0 where
  direction : after.direction ≡ before.direction
  level : after.cluster_level ≡ before.cluster_level
  limit : after.length_limit ≡ before.length_limit
  left : after.max_ops ≡ before.max_ops

settings-merged : (start end : ℕ) (b c : Buffer) → SameSettings b c → SameSettings b (merge_clusters start end c)
settings-merged start end b c so_far =
    let rest = without_items-merge_clusters start end c in
    record {
      direction = ap (λ (d : Buffer). d.direction) rest ∙ so_far.direction;
      level = ap (λ (d : Buffer). d.cluster_level) rest ∙ so_far.level;
      limit = ap (λ (d : Buffer). d.length_limit) rest ∙ so_far.limit;
      left = ap (λ (d : Buffer). d.max_ops) rest ∙ so_far.left;
    }

settings-lost : (b : Buffer) → IsPreservedByLoss (SameSettings b)
settings-lost b k x rest c e so_far =
    let given : SameSettings b (record c { items = give_to_kept k x c.items }) =
    record { direction = so_far.direction; level = so_far.level; limit = so_far.limit; left = so_far.left } in
    let handed = hand_on-cases (SameSettings b) k x rest c so_far given (λ more. settings-merged 0 2 b c so_far) in
    record { direction = handed.direction; level = handed.level; limit = handed.limit; left = handed.left }

without_deleted-preserves : (b : Buffer) → Preserves b (without_deleted b)
without_deleted-preserves b =
    let same : SameSettings b (without_deleted b) =
    preserved_by_deletion (SameSettings b) (settings-lost b) is_deleted (length b.items) 0 b
    (record { direction = refl; level = refl; limit = refl; left = refl }) in
    record {
      order = λ monotone. deleted_preserves_clusters is_deleted b;
      flags = deleted_preserves_flags is_deleted b;
      direction = same.direction;
      level = same.level;
      limit = same.limit;
      left = omega (arith, same.left);
    }

pub without_deleted-order : IsClusterPreserving without_deleted
without_deleted-order b monotone = Preserves-order b (without_deleted b) (without_deleted-preserves b) monotone

pub without_deleted-flags : IsFlagPreserving without_deleted
without_deleted-flags b = (without_deleted-preserves b).flags

pub without_deleted-left : (b : Buffer) → (without_deleted b).max_ops ≤ b.max_ops
without_deleted-left b = (without_deleted-preserves b).left

-- ---- without advances and offsets they stay

pub deleted_narrowed-order : IsClusterPreserving deleted_narrowed
unfolding positions_mapped
deleted_narrowed-order b monotone = record { clusters = PreservesClusters-same (clusters b.items); direction = refl; flags = refl; level = refl }

pub deleted_narrowed-flags : IsFlagPreserving deleted_narrowed
unfolding positions_mapped
deleted_narrowed-flags b = record { flags = refl; stays_set = λ set. set; none_new = λ flag defined some. inl some }
