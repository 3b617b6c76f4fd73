-- What is asked of an engine, of which all shapers make runs.
use Rattle.shape_buffer.specs.Layout.{LookupMeaning}
use Rattle.shape_buffer.specs.Preservation.{LookupsPreserveClusters, LookupsPreserveFlags}

-- its lookups preserve clusters and flags, whatever was compiled and whatever the face is
pub record EnginePreserves {Map F : Type 0} (lookups : Map → F → LookupMeaning) : Type 0 where
  pub clusters : (map : Map) (face : F) → LookupsPreserveClusters (lookups map face)
  pub flags : (map : Map) (face : F) → LookupsPreserveFlags (lookups map face)
