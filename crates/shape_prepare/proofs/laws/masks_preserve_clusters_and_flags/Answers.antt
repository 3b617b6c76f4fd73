use Rattle.shape_prepare.proofs.Masking.MaskPreservation.{masks-preserve_clusters, masks-preserve_flags}
use Rattle.shape_prepare.proofs.laws.masks_preserve_clusters_and_flags.Goals as goal

pub returns : goal.returns
returns c = record { clusters = masks-preserve_clusters; flags = masks-preserve_flags }
