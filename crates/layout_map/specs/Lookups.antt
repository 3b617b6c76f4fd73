-- The lookups of a stage, each once, in order of the table (HarfBuzz, hb-ot-map.cc, "Collect lookup indices for features").
use Prim.Native.Nat.{zero}
use Rattle.std.specs.Prelude.{ℕ, suc, ◌+◌, ◌&&◌, List, [], ◌∷◌, Bool, Option, None, true, false, fold, length, nat_eq, nat_lt, replicate, slice_set}
use Rattle.std.specs.Prelude.{slice_index_or, if◌then◌else◌}
use Rattle.std.specs.Option.{option_map_or}
use Rattle.std.specs.Int.RustNames.{bit_or}
use Rattle.layout_tables.specs.Features.{feature_lookup_count_of, feature_lookup_of}
use Rattle.layout_tables.specs.Lookups.{lookup_count_of}
use Rattle.layout_map.specs.Chosen.{Chosen, required_of, feature_place}
use Rattle.layout_map.specs.Features.{GLOBAL_BIT, mask_of}
use Rattle.layout_map.specs.declared.features.FeatureMap.{FeatureMap}
use Rattle.layout_map.specs.declared.lookups.LookupUse.{LookupUse}
use Rattle.layout_map.specs.declared.lookups.LookupMap.{LookupMap}

-- a lookup that no feature asks for has an empty mask
abbrev pub unused : LookupUse
unused = record { mask = 0; auto_zwnj = true; auto_zwj = true; random = false; per_syllable = false }

-- a lookup that several features ask for: it is on where one of them is, and skips joiners if all of them do; the rest is as
-- the first one says
abbrev pub use_joined : LookupUse → LookupUse → LookupUse
use_joined old new = if nat_eq old.mask 0 then new
    else record old { mask = bit_or old.mask new.mask; auto_zwnj = old.auto_zwnj && new.auto_zwnj; auto_zwj = old.auto_zwj && new.auto_zwj }

abbrev pub use_of : FeatureMap → LookupUse
use_of f = record {
  mask = mask_of f.bits;
  auto_zwnj = f.auto_zwnj;
  auto_zwj = f.auto_zwj;
  random = f.random;
  per_syllable = f.per_syllable;
}

-- the required feature is on everywhere
abbrev pub required_use : LookupUse
required_use = record { mask = mask_of GLOBAL_BIT; auto_zwnj = true; auto_zwj = true; random = false; per_syllable = false }

-- the uses of the lookups of a table, by index, once one more is asked for; one that the table lacks is left out
abbrev pub with_use : LookupUse → List LookupUse → ℕ → List LookupUse
with_use new uses index = if nat_lt index (length uses)
    then slice_set uses index (use_joined (slice_index_or uses index unused) new) else uses

-- `n` lookups of the Feature table at `feature`, from number `j` on
abbrev pub each_used : List ℕ → LookupUse → ℕ → ℕ → ℕ → List LookupUse → List LookupUse
each_used t new feature zero j uses = uses
each_used t new feature (suc n) j uses = each_used t new feature n (suc j) (with_use new uses (feature_lookup_of t feature j))

abbrev pub place_used : List ℕ → LookupUse → List LookupUse → ℕ → List LookupUse
place_used t new uses feature = each_used t new feature (feature_lookup_count_of t feature) 0 uses

-- all lookups of a feature, if the table has it
abbrev pub index_used : Chosen → LookupUse → List LookupUse → Option ℕ → List LookupUse
index_used t new uses index = option_map_or (place_used t.bytes new uses) (feature_place t index) uses

-- the lookups of GSUB in a stage: of the required feature, if this is its stage, and of the features of the stage
abbrev pub gsub_index : ℕ → FeatureMap → Option ℕ
gsub_index stage f = if nat_eq f.stage stage then f.gsub else None

abbrev pub required_index : Chosen → Bool → Option ℕ
required_index t here = if here then required_of t else None

abbrev pub required_used : Chosen → Bool → List LookupUse
required_used t here = index_used t required_use (replicate (lookup_count_of t.bytes) unused) (required_index t here)

abbrev pub gsub_uses : Chosen → List FeatureMap → ℕ → ℕ → List LookupUse
gsub_uses t features required_stage stage =
    fold (λ uses f. index_used t (use_of f) uses (gsub_index stage f)) (required_used t (nat_eq required_stage stage)) features

-- those of GPOS, which has one stage
abbrev pub gpos_uses : Chosen → List FeatureMap → List LookupUse
gpos_uses t features = fold (λ uses f. index_used t (use_of f) uses f.gpos) (required_used t true) features

-- the lookups that are asked for, with their indexes from `i` on
abbrev pub lookup_with : ℕ → LookupUse → LookupMap
lookup_with index u = record {
  index = index;
  mask = u.mask;
  auto_zwnj = u.auto_zwnj;
  auto_zwj = u.auto_zwj;
  random = u.random;
  per_syllable = u.per_syllable;
}

abbrev pub used_from : ℕ → List LookupUse → List LookupMap
used_from i [] = []
used_from i (u ∷ uses) = if nat_eq u.mask 0 then used_from (i + 1) uses else lookup_with i u ∷ used_from (i + 1) uses

abbrev pub gsub_lookups : Chosen → List FeatureMap → ℕ → ℕ → List LookupMap
gsub_lookups t features required_stage stage = used_from 0 (gsub_uses t features required_stage stage)

abbrev pub gpos_lookups : Chosen → List FeatureMap → List LookupMap
gpos_lookups t features = used_from 0 (gpos_uses t features)
