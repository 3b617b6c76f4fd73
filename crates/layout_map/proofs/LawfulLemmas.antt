-- What a map returns is lawful.
use Rattle.std.proofs.Common.{◌<◌, Option, Some, None, refl, arith}
use Rattle.std.specs.Option.{option_map_or}
use Rattle.shape_buffer.specs.Layout.{HasNoDefinedFlag, LawfulMasks}
use Rattle.layout_map.specs.Features.{mask_of, one_bit_of}
use Rattle.layout_map.specs.Map.{OtMap, feature_of, mask_and_shift, map_meaning}
use Rattle.layout_map.specs.declared.features.FeatureMap.{FeatureMap}
use Rattle.layout_map.proofs.BitLemmas.{mask_is_free}

one_is_free : (o : Option FeatureMap) → HasNoDefinedFlag (option_map_or (λ f. mask_of (one_bit_of f)) o 0)
one_is_free None = refl
one_is_free (Some f) = mask_is_free (one_bit_of f)

all_are_free : (o : Option FeatureMap) → HasNoDefinedFlag (option_map_or mask_and_shift o (0, 0)).0
all_are_free None = refl
all_are_free (Some f) = mask_is_free f.bits

shift_is_small : (o : Option FeatureMap) → (option_map_or mask_and_shift o (0, 0)).1 < 32
shift_is_small None = omega arith
shift_is_small (Some f) = omega arith

pub map_meaning-lawful : (m : OtMap) → LawfulMasks (map_meaning m)
map_meaning-lawful m = record {
  global_mask = mask_is_free m.global;
  one_mask = λ tag. one_is_free (feature_of m tag.0);
  mask = λ tag. all_are_free (feature_of m tag.0);
  shift = λ tag. shift_is_small (feature_of m tag.0);
}
