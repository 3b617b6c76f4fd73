-- What holds of all maps.
use Rattle.std.specs.Prelude.{◌≡◌, ◌<◌, ℕ, List, map}
use Rattle.std.specs.Int.RustNames.{bit_and}
use Rattle.layout_map.specs.Features.{GLOBAL_PLACE, mask_of}
use Rattle.layout_map.specs.declared.features.FeatureMap.{FeatureMap}
use Rattle.layout_map.specs.declared.lookups.LookupMap.{LookupMap}

-- a feature with bits of its own
abbrev pub HasOwnBits : FeatureMap → Type 0
HasOwnBits f = f.place < GLOBAL_PLACE

-- two features share no bit of a mask if both have bits of their own
abbrev pub AreApart : FeatureMap → FeatureMap → Type 0
AreApart f g = HasOwnBits f → HasOwnBits g → bit_and (mask_of f.bits) (mask_of g.bits) ≡ 0

-- the indexes of lookups
abbrev pub indexes : List LookupMap → List ℕ
indexes lookups = map (λ l. l.index) lookups
