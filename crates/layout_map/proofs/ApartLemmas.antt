-- Features that have bits of their own share none.
use Rattle.std.proofs.Common.{◌≡◌, ℕ, ◌+◌, ◌^◌, ◌<◌, List, [], ◌∷◌, ◌++◌, get_or, true, false, refl, arith, fold}
use Rattle.std.specs.Prelude.{All, nat_eq, if◌then◌else◌, ◌||◌}
use Rattle.std.specs.List.{AllPairs}
use Rattle.std.proofs.lemmas.List.Elements.{All-get_or, All-push, All-weaker, All-nil}
use Rattle.std.proofs.lemmas.List.Quantifiers.{all_pairs_push}
use Rattle.layout_map.specs.Chosen.{Chosen, required_tag_of}
use Rattle.layout_map.specs.Features.{Allotment, GLOBAL_PLACE, GLOBAL_BIT, is_plain, bits_needed, bits_from, has_room, is_found, indexes_of}
use Rattle.layout_map.specs.Features.{feature_with, with_plain, with_own, with_feature, with_indexes, with_required, with_setting, no_features}
use Rattle.layout_map.specs.Features.{allotted}
use Rattle.layout_map.specs.Laws.{HasOwnBits, AreApart}
use Rattle.layout_map.specs.declared.features.FeatureMap.{FeatureMap}
use Rattle.layout_map.specs.declared.features.Indexes.{Indexes}
use Rattle.layout_map.specs.declared.settings.Setting.{Setting}
use Rattle.layout_map.proofs.BitLemmas.{powers_grow, bits_below, apart_from, masks_apart}

-- a feature's own bits stand below a place
abbrev IsBelow : ℕ → FeatureMap → Type 0
IsBelow p f = HasOwnBits f → f.bits < 2 ^ p

record IsLawful (a : Allotment) : Type 0 where
  apart : AllPairs AreApart a.features
  below : All (IsBelow a.place) a.features

-- a feature without bits of its own, or with the bits from the first free place on
plain_added : (a : Allotment) (f : FeatureMap) → f.place ≡ GLOBAL_PLACE → IsLawful a
    → IsLawful (record a { features = a.features ++ f ∷ [] })
plain_added a f plain lawful = record {
  apart = all_pairs_push AreApart a.features f lawful.apart (λ k d inside own mine. absurd (omega (arith, plain, mine)));
  below = All-push (IsBelow a.place) a.features f lawful.below (λ mine. absurd (omega (arith, plain, mine)));
}

grown : (p n : ℕ) (f : FeatureMap) → IsBelow p f → IsBelow (p + n) f
grown p n f below = λ own. omega (arith, below own, powers_grow p n)

own_added : (a : Allotment) (f : FeatureMap) (n global : ℕ) → f.bits ≡ bits_from a.place n → IsLawful a
    → IsLawful (record a { features = a.features ++ f ∷ []; place = a.place + n; global = global })
own_added a f n global bits lawful = record {
  apart = all_pairs_push AreApart a.features f lawful.apart (λ k d inside own mine.
      let g : FeatureMap = get_or a.features k d in
      let low : g.bits < 2 ^ a.place = All-get_or (IsBelow a.place) a.features k d inside lawful.below own in
      masks_apart g.bits f.bits (rw bits (apart_from g.bits a.place n low)));
  below = All-push (IsBelow (a.place + n)) a.features f
      (All-weaker (IsBelow a.place) (IsBelow (a.place + n)) (grown a.place n) a.features lawful.below)
      (λ mine. rw bits (bits_below a.place n));
}

feature_added : (a : Allotment) (s : Setting) (i : Indexes) → IsLawful a → IsLawful (with_feature a s i)
feature_added a s i lawful = elim (is_plain s) as (λ b. IsLawful (if b then with_plain a s i else with_own a s i)) [
  | true ↦ plain_added a (feature_with s i GLOBAL_PLACE GLOBAL_BIT) refl lawful
  | false ↦ own_added a (feature_with s i a.place (bits_from a.place (bits_needed s))) (bits_needed s) _ refl lawful
]

indexes_added : (a : Allotment) (s : Setting) (i : Indexes) → IsLawful a → IsLawful (with_indexes a s i)
indexes_added a s i lawful = elim (is_found i || s.has_fallback) as (λ b. IsLawful (if b then with_feature a s i else a)) [
  | true ↦ feature_added a s i lawful
  | false ↦ lawful
]

-- the stage of the required feature is none of these matters
required_kept : (gsub : Chosen) (a : Allotment) (s : Setting) → IsLawful a → IsLawful (with_required gsub a s)
required_kept gsub a s lawful = elim (nat_eq (required_tag_of gsub) s.tag)
    as (λ b. IsLawful (if b then record a { required_stage = s.stage } else a)) [
      | true ↦ record { apart = lawful.apart; below = lawful.below }
      | false ↦ lawful
    ]

setting_added : (gsub gpos : Chosen) (a : Allotment) (s : Setting) → IsLawful a → IsLawful (with_setting gsub gpos a s)
setting_added gsub gpos a s lawful = elim (has_room a.place s)
    as (λ b. IsLawful (if b then with_indexes (with_required gsub a s) s (indexes_of gsub gpos s) else a)) [
      | true ↦ indexes_added (with_required gsub a s) s (indexes_of gsub gpos s) (required_kept gsub a s lawful)
      | false ↦ lawful
    ]

settings_added : (gsub gpos : Chosen) (settings : List Setting) (a : Allotment) → IsLawful a
    → IsLawful (fold (with_setting gsub gpos) a settings)
settings_added gsub gpos [] a lawful = lawful
settings_added gsub gpos (s ∷ settings) a lawful =
    settings_added gsub gpos settings (with_setting gsub gpos a s) (setting_added gsub gpos a s lawful)

pub features_apart : (gsub gpos : Chosen) (settings : List Setting) → AllPairs AreApart (allotted gsub gpos settings).features
features_apart gsub gpos settings = (settings_added gsub gpos settings no_features none).apart
  where
    none : IsLawful no_features
    none = record { apart = λ i j d before inside. absurd (omega (arith, inside)); below = All-nil (IsBelow 0) }
