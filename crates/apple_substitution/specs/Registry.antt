-- OpenType's features in Apple's registry of features ("Font Feature Registry" of the TrueType Reference Manual), as in HarfBuzz's
-- hb-aat-layout.cc.
use Rattle.std.specs.Prelude.{ℕ, Bool, Option, nat_eq}
use Rattle.std.specs.List.{find}
use Rattle.std.specs.Option.{option_map}
use Rattle.apple_substitution.specs.declared.registry.Mapping.{Mapping}
use Rattle.apple_substitution.specs.declared.registry.TheConstants.{FEATURES}

-- a row has a tag, a type, and the settings of the type for on and for off
abbrev pub Row : Type 0
Row = ℕ × ℕ × ℕ × ℕ

abbrev pub has_tag : ℕ → Row → Bool
has_tag tag row = nat_eq row.0 tag

abbrev pub mapping_in : Row → Mapping
mapping_in row = record { kind = row.1; on = row.2; off = row.3 }

abbrev pub mapping_of : ℕ → Option Mapping
mapping_of tag = option_map mapping_in (find (has_tag tag) FEATURES)
