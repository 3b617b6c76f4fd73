-- Types of features that a font has, and OpenType's features in the registry, read by hand.
use Rattle.std.specs.Prelude.{◌≡◌, ℕ, List, [], ◌∷◌, Some, None, true, false, refl}
use Rattle.shape_font.specs.Worked.Glyphs.{words}
use Rattle.apple_substitution.specs.Feat.{exclusive, exclusive_at, record_at, record_count, record_of}
use Rattle.apple_substitution.specs.Registry.{has_tag, mapping_in, mapping_of}

-- a table of some version that says how many records it has, and has three: type 3 with two settings that exclude each other, type 11
-- with three settings, and type 17 with none
abbrev feat_of : ℕ → ℕ → List ℕ
feat_of version count = words (version ∷ 0 ∷ count ∷ 0 ∷ 0 ∷ 0 ∷
    3 ∷ 2 ∷ 0 ∷ 48 ∷ 0xC000 ∷ 256 ∷ 11 ∷ 3 ∷ 0 ∷ 56 ∷ 0x7FFF ∷ 257 ∷ 17 ∷ 0 ∷ 0 ∷ 68 ∷ 0x8000 ∷ 258 ∷ [])

pub record WorkedFeat : Type 0 where
  pub count : record_count (feat_of 1 2) ≡ 2
  pub count_that_fits : record_count (feat_of 1 9) ≡ 3
  pub other_version : record_count (feat_of 2 3) ≡ 0
  pub place : record_at 2 ≡ 36
  pub found : record_of (feat_of 1 3) 11 ≡ Some 24
  pub not_found : record_of (feat_of 1 3) 12 ≡ None
  pub exclude_each_other : exclusive (feat_of 1 3) 3 ≡ Some true
  pub do_not : exclusive (feat_of 1 3) 11 ≡ Some false
  pub no_settings : exclusive (feat_of 1 3) 17 ≡ None
  pub no_settings_there : exclusive_at (feat_of 1 3) 36 ≡ None
  pub no_type : exclusive (feat_of 1 3) 4 ≡ None

pub worked_feat : WorkedFeat
worked_feat = record {
  count = refl;
  count_that_fits = refl;
  other_version = refl;
  place = refl;
  found = refl;
  not_found = refl;
  exclude_each_other = refl;
  do_not = refl;
  no_settings = refl;
  no_settings_there = refl;
  no_type = refl;
}

pub record WorkedRegistry : Type 0 where
  -- afrc, smcp, zero, and kern
  pub first : mapping_of 0x61667263 ≡ Some (record { kind = 11; on = 1; off = 0 })
  pub small_capitals : mapping_of 0x736D6370 ≡ Some (record { kind = 37; on = 1; off = 0 })
  pub last : mapping_of 0x7A65726F ≡ Some (record { kind = 14; on = 4; off = 5 })
  pub none : mapping_of 0x6B65726E ≡ None
  pub tag : has_tag 5 (5, 6, 7, 8) ≡ true
  pub other_tag : has_tag 6 (5, 6, 7, 8) ≡ false
  pub row : mapping_in (5, 6, 7, 8) ≡ record { kind = 6; on = 7; off = 8 }

pub worked_registry : WorkedRegistry
worked_registry = record {
  first = refl;
  small_capitals = refl;
  last = refl;
  none = refl;
  tag = refl;
  other_tag = refl;
  row = refl;
}
