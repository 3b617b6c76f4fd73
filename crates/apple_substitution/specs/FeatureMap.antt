-- Which settings of Apple's registry the features that are asked for choose, and in which ranges of a text.
use Prim.Native.Nat.{zero}
use Rattle.std.specs.Prelude.{ℕ, suc, List, [], ◌∷◌, ◌++◌, Bool, true, Option, None, ◌+◌, ◌-◌, ◌*◌, ◌/◌, ◌&&◌, ◌||◌, not}
use Rattle.std.specs.Prelude.{fold, length, nat_eq, nat_le, nat_lt, if◌then◌else◌}
use Rattle.std.specs.List.{filter_map, list_any}
use Rattle.std.specs.Option.{option_map, option_and_then, option_or}
use Rattle.shape_common.specs.declared.text_types.Feature as text_types
use Rattle.apple_substitution.specs.Feat.{exclusive}
use Rattle.apple_substitution.specs.FeatureRanges.{Request}
use Rattle.apple_substitution.specs.Registry.{mapping_of}
use Rattle.apple_substitution.specs.declared.chains.Feature.{Feature}
use Rattle.apple_substitution.specs.declared.feature_map.Choice.{Choice}
use Rattle.apple_substitution.specs.declared.registry.Mapping.{Mapping}

-- ---- the settings that are chosen

abbrev pub chosen : text_types.Feature → ℕ → ℕ → Bool → Choice
chosen f kind setting is_exclusive = record {
  feature = record { kind = kind; setting = setting };
  is_exclusive = is_exclusive;
  start = f.start;
  end = f.end;
}

-- small capitals, setting 1 of type 37, were a setting of type 3, and a font that has that type alone has them there
abbrev pub are_capitals : Mapping → Bool
are_capitals m = nat_eq m.kind 37 && nat_eq m.on 1

abbrev pub exclusive_for : List ℕ → Mapping → Option Bool
exclusive_for feat m = option_or (exclusive feat m.kind) (if are_capitals m then exclusive feat 3 else None)

abbrev pub mapped : List ℕ → text_types.Feature → Mapping → Option Choice
mapped feat f m = option_map (chosen f m.kind (if nat_eq f.value 0 then m.off else m.on)) (exclusive_for feat m)

-- aalt chooses the setting of type 17 that has its value as a number
abbrev pub AALT : ℕ
AALT = 0x61616C74

abbrev pub alternative : List ℕ → text_types.Feature → Option Choice
alternative feat f = option_map (λ is. chosen f 17 f.value true) (exclusive feat 17)

-- a feature over no cluster chooses nothing, and neither does one whose type the font doesn't have
abbrev pub choice_of : List ℕ → text_types.Feature → Option Choice
choice_of feat f = if nat_le f.end f.start then None
    else (if nat_eq f.tag.0 AALT then alternative feat f else option_and_then (mapped feat f) (mapping_of f.tag.0))

abbrev pub choices_of : List ℕ → List text_types.Feature → List Choice
choices_of feat fs = filter_map (choice_of feat) fs

-- ---- the settings in a cluster

abbrev pub is_in : ℕ → Choice → Bool
is_in cluster c = nat_le c.start cluster && nat_lt cluster c.end

-- one setting of a type counts if the settings exclude each other; else an even number turns on what the next one turns off
abbrev pub is_against : Choice → Feature → Bool
is_against c f = nat_eq f.kind c.feature.kind && (c.is_exclusive || nat_eq (f.setting / 2) (c.feature.setting / 2))

-- of settings against each other the one that was asked for first counts
abbrev pub added : ℕ → List Feature → Choice → List Feature
added cluster fs c = if is_in cluster c && not (list_any (is_against c) fs) then fs ++ (c.feature ∷ []) else fs

abbrev pub features_in : ℕ → List Choice → List Feature
features_in cluster cs = fold (added cluster) [] cs

-- ---- ranges: one ends before the next cluster where a choice begins or ends, and the last one with the greatest cluster

abbrev pub LAST : ℕ
LAST = 0xFFFFFFFF

abbrev pub nearer : ℕ → ℕ → ℕ → ℕ
nearer cluster nearest edge = if nat_lt cluster edge && nat_lt edge nearest then edge else nearest

abbrev pub nearer_of : ℕ → ℕ → Choice → ℕ
nearer_of cluster nearest c = nearer cluster (nearer cluster nearest c.start) c.end

abbrev pub edge_after : ℕ → List Choice → ℕ
edge_after cluster cs = fold (nearer_of cluster) LAST cs

abbrev pub range_at : List Choice → ℕ → ℕ → Request
range_at cs cluster next = record {
  last = if nat_eq next LAST then LAST else next - 1;
  features = features_in cluster cs;
}

-- n ranges at most, from a cluster on
abbrev pub ranges_from : List Choice → ℕ → ℕ → List Request
ranges_from cs zero cluster = []
ranges_from cs (suc n) cluster = let next = edge_after cluster cs in
    range_at cs cluster next ∷ (if nat_eq next LAST then [] else ranges_from cs n next)

-- a choice has two ends
abbrev pub ranges_of : List Choice → List Request
ranges_of cs = ranges_from cs (2 * length cs + 1) 0

unfoldable pub requests_of : List ℕ → List text_types.Feature → List Request
requests_of feat fs = ranges_of (choices_of feat fs)
