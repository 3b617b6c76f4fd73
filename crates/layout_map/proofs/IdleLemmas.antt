-- A stage whose features ask for no lookups.
use Rattle.std.proofs.Common.{◌≡◌, ℕ, zero, suc, ◌+◌, ◌++◌, ◌||◌, List, [], ◌∷◌, Bool, true, false, Option, Some, None, fold, is_some, refl, ap, sym, ◌∙◌}
use Rattle.std.specs.Prelude.{nat_eq, replicate, if◌then◌else◌}
use Rattle.std.specs.List.{list_any}
use Rattle.std.proofs.lemmas.List.{append-nil}
use Rattle.layout_tables.specs.Lookups.{lookup_count_of}
use Rattle.layout_map.specs.Chosen.{Chosen}
use Rattle.layout_map.specs.Lookups.{unused, use_of, index_used, gsub_index, required_used, gsub_uses, used_from, gsub_lookups}
use Rattle.layout_map.specs.declared.features.FeatureMap.{FeatureMap}
use Rattle.layout_map.specs.declared.lookups.LookupUse.{LookupUse}
use Rattle.layout_map.specs.declared.lookups.LookupMap.{LookupMap}

none_asks : (t : Chosen) (stage : ℕ) (features : List FeatureMap) (uses : List LookupUse)
    → list_any (λ f. is_some (gsub_index stage f)) features ≡ false
    → fold (λ uses f. index_used t (use_of f) uses (gsub_index stage f)) uses features ≡ uses
none_asks t stage [] uses none = refl
none_asks t stage (f ∷ features) uses none = by_index (none_asks t stage features uses) (gsub_index stage f) none
  where
    rest : List LookupUse → List LookupUse
    rest uses = fold (λ uses f. index_used t (use_of f) uses (gsub_index stage f)) uses features

    by_index : (list_any (λ f. is_some (gsub_index stage f)) features ≡ false → rest uses ≡ uses) → (i : Option ℕ)
        → (is_some i || list_any (λ f. is_some (gsub_index stage f)) features) ≡ false → rest (index_used t (use_of f) uses i) ≡ uses
    by_index later None none = later none
    by_index later (Some i) none = cc

none_used : (n i : ℕ) → used_from i (replicate n unused) ≡ []
none_used zero i = refl
none_used (suc n) i = none_used n (i + 1)

pub idle : (t : Chosen) (features : List FeatureMap) (required_stage stage : ℕ) (lookups : List LookupMap)
    → nat_eq required_stage stage ≡ false → list_any (λ f. is_some (gsub_index stage f)) features ≡ false
    → lookups ≡ lookups ++ gsub_lookups t features required_stage stage
idle t features required_stage stage lookups other none =
    let slots : List LookupUse = replicate (lookup_count_of t.bytes) unused in
    let first : required_used t (nat_eq required_stage stage) ≡ slots = ap (required_used t) other in
    let uses : gsub_uses t features required_stage stage ≡ slots =
    ap (λ u. fold (λ uses f. index_used t (use_of f) uses (gsub_index stage f)) u features) first ∙ none_asks t stage features slots none in
    let empty : gsub_lookups t features required_stage stage ≡ [] = ap (used_from 0) uses ∙ none_used (lookup_count_of t.bytes) 0 in
    sym (ap (λ l. lookups ++ l) empty ∙ append-nil lookups)
