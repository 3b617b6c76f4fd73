-- What authors of shapers and engines need of their own calls, in one place.

-- steps one after the other, and what preserves the order of clusters
pub use Rattle.shape_buffer.proofs.Steps.PreservationLemmas.{PreservesOrder-same, PreservesOrder-then, PreservesClusters-same, PreservesClusters-equal, PreservesClusters-then, clusters-map, order-items_mapped, order-unsafe_to_break, order-safe_to_insert_tatweel}
-- what preserves flags
pub use Rattle.shape_items.proofs.Flags.FlagLemmas.{PreservesFlags-same, PreservesFlags-then, PreservesFlags-items, unsafe_to_break_preserves, safe_to_insert_tatweel_preserves, merge_clusters_preserves, merge_out_clusters_preserves}
pub use Rattle.shape_buffer.proofs.Steps.PreservationLemmas.{flags-none_brought, flags-items_mapped, flags-same_masks, flags-unsafe_to_concat}
-- what merges or deletes preserves both
pub use Rattle.shape_items.proofs.Deletion.DeletePreserves.{merged_preserves, merged_out_preserves, deleted_preserves}
-- what merges or marks a span preserves both, and the number of items
pub use Rattle.shape_plan.proofs.KeptLemmas.{PreservesAll, PreservesAll-same, PreservesAll-then, all-unsafe_to_break, all-safe_to_insert_tatweel, all-unsafe_to_concat, all-merge_clusters}
-- clusters drawn in order from others
pub use Rattle.shape_items.proofs.Order.DrawsInOrder.{DrawsInOrder, DrawsInOrder-same, DrawsInOrder-then, DrawsInOrder-after, DrawsInOrder-again, PreservesClusters-from_draws}
-- features bring no flag
pub use Rattle.shape_buffer.proofs.Flags.FeatureBitLemmas.{feature_flagless, feature-or, added_brings_none}
-- masks alone
pub use Rattle.shape_plan.proofs.MaskLemmas.{MasksAlone, MasksAlone-same, MasksAlone-then, length-masks, Made-masks, alone-items_mapped, alone-unsafe_to_break, alone-unsafe_to_concat, changing_masks, masks_changed, ChangesMasksAlone-same, ChangesMasksAlone-then, order-masks_alone, order-masks, preserving-masks_alone}
-- a list put in the place of a buffer's, and an engine of one stage
pub use Rattle.shape_buffer.proofs.Steps.ReplaceLemmas.{with_items, Outcome-replaced, Outcome-refused}
pub use Rattle.shape_buffer.proofs.Steps.PreservationLemmas.{EachLookup-one_stage}
