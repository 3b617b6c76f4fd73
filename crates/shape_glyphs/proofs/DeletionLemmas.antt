-- What deletion leaves of the settings of a buffer.
use Rattle.std.proofs.Common.{◌≡◌, ℕ, Bool, length, refl, ap, ◌∙◌}
use Rattle.shape_items.specs.Buffer.{Buffer}
use Rattle.shape_items.specs.BufferClusters.{merge_clusters}
use Rattle.shape_items.specs.Delete.{give_to_kept, deleted}
use Rattle.shape_items.specs.Items.{Item}
use Rattle.shape_items.proofs.Deletion.DeleteLemmas.{hand_on-cases, IsPreservedByLoss, preserved_by_deletion}
use Rattle.shape_items.proofs.Merging.KeyLemmas.{without_items-merge_clusters}

-- direction and level are the same
pub record SameSettings (before after : Buffer) : Type 0 where
  pub direction : after.direction ≡ before.direction
  pub level : after.cluster_level ≡ before.cluster_level

settings-merged : (start end : ℕ) (b c : Buffer) → SameSettings b c → SameSettings b (merge_clusters start end c)
settings-merged start end b c so_far =
    let rest = without_items-merge_clusters start end c in
    record {
      direction = ap (λ (d : Buffer). d.direction) rest ∙ so_far.direction;
      level = ap (λ (d : Buffer). d.cluster_level) rest ∙ so_far.level;
    }

settings-lost : (b : Buffer) → IsPreservedByLoss (SameSettings b)
settings-lost b k x rest c e so_far =
    let given : SameSettings b (record c { items = give_to_kept k x c.items }) =
    record { direction = so_far.direction; level = so_far.level } in
    let handed = hand_on-cases (SameSettings b) k x rest c so_far given (λ more. settings-merged 0 2 b c so_far) in
    record { direction = handed.direction; level = handed.level }

pub settings-deleted : (p : Item → Bool) (b : Buffer) → SameSettings b (deleted p b)
settings-deleted p b =
    preserved_by_deletion (SameSettings b) (settings-lost b) p (length b.items) 0 b (record { direction = refl; level = refl })
