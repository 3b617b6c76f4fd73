-- Each item of the expanded list has what is promised of the item of the text that it came from.
use Rattle.std.proofs.Common.{◌≡◌, ℕ, zero, suc, Bool, true, false, if◌then◌else◌, List, [], ◌∷◌, ◌++◌, map, flat_map, Option, None, Some, refl, sym, ap, subst, ◌∙◌, inl, inr}
use Rattle.std.specs.List.{AllByRecursion, AllZip}
use Rattle.std.specs.Option.{option_map_or}
use Rattle.std.proofs.lemmas.Bool.{cases_Bool}
use Rattle.std.proofs.lemmas.List.{map-id}
use Rattle.canonical_form.specs.Divided.{put_first, divided}
use Rattle.shape_items.specs.Buffer.{Buffer}
use Rattle.shape_items.specs.Items.{Item, is_mark_item}
use Rattle.shape_common.specs.declared.text_types.GlyphId.{GlyphId}
use Rattle.shape_plan.specs.Rules.{Rules}
use Rattle.shape_normalize.specs.Normalized.{features_of, hidden_char}
use Rattle.shape_normalize.specs.Origins.{item_at, all_places, Origin, origin_at, variant_origins, sequence_origins, origins, HasOfOrigin}
use Rattle.shape_normalize.specs.Recast.{recast_to}
use Rattle.shape_normalize.specs.RoundOne.{item_glyph, skipped_item, whole_item, emitted_for, expansion_of, is_selector_item, is_selector_sequence}
use Rattle.shape_normalize.specs.RoundOne.{is_with_marks, marked_selector, variant_items, variants, sequences, sequence_items}
use Rattle.shape_normalize.specs.RoundOne.{variation_sequences_merged, round_one}
use Rattle.shape_normalize.proofs.Normalized.FeatureLemmas.{IsKey-features}
use Rattle.shape_normalize.proofs.Normalized.HiddenLemmas.{IsKey-hidden_char}
use Rattle.shape_normalize.proofs.Normalized.ItemGlyphLemmas.{item_has_glyphs}
use Rattle.shape_normalize.proofs.Places.PlaceLemmas.{by_places}
use Rattle.shape_normalize.proofs.RoundOne.RoundOneLemmas.{keys-variation_sequences_merged, whole_item_is}

-- ---- a list by its places

-- of lists with the same keys, items at a place have the same
same_at : {B : Type 0} (key : Item → B) (xs ys : List Item) → map key xs ≡ map key ys → (place : ℕ)
    → key (item_at xs place) ≡ key (item_at ys place)
same_at key [] [] same place = refl
same_at key [] (y ∷ ys) same place = absurd (cc)
same_at key (x ∷ xs) [] same place = absurd (cc)
same_at key (x ∷ xs) (y ∷ ys) same zero = cc
same_at key (x ∷ xs) (y ∷ ys) same (suc place) = let tail : map key xs ≡ map key ys = cc in same_at key xs ys tail place

-- the parts of a list are those of its places
module _ {A B : Type 0} (f : A → B) (belongs : B → Bool) where
  put_first-map : (x : A) (parts : List (List A)) → put_first (f x) (map (map f) parts) ≡ map (map f) (put_first x parts)
  put_first-map x [] = refl
  put_first-map x (part ∷ parts) = refl

  divided-map : (xs : List A) → divided belongs (map f xs) ≡ map (map f) (divided (λ x. belongs (f x)) xs)
  divided-map [] = refl
  divided-map (x ∷ []) = refl
  divided-map (x ∷ y ∷ rest) =
      let later = divided-map (y ∷ rest) in
      elim (cases_Bool (belongs (f y))) [
        | inl joins ↦ rw joins (ap (put_first (f x)) later ∙ put_first-map x (divided (λ z. belongs (f z)) (y ∷ rest)))
        | inr parts ↦ rw parts (ap (λ l. (f x ∷ []) ∷ l) later)
      ]

-- ---- what holds of the items of two lists, place by place

module _ {A B : Type 0} (R : A → B → Type 0) where
  pub zip_append : (xs us : List A) (ys vs : List B) → AllZip R xs ys → AllZip R us vs → AllZip R (xs ++ us) (ys ++ vs)
  zip_append [] us [] vs first second = second
  zip_append [] us (y ∷ ys) vs first second = absurd first
  zip_append (x ∷ xs) us [] vs first second = absurd first
  zip_append (x ∷ xs) us (y ∷ ys) vs first second = (first.0, zip_append xs us ys vs first.1 second)

  zip_one : (x : A) (ys : List B) → AllByRecursion (R x) ys → AllZip R (map (λ y. x) ys) ys
  zip_one x [] each = tt
  zip_one x (y ∷ ys) each = (each.0, zip_one x ys each.1)

  -- what the values of each become
  zip_values : {C D : Type 0} (f : C → D) (become : D → List B) (from : C → List A) → ((x : C) → AllZip R (from x) (become (f x)))
      → (xs : List C) → AllZip R (flat_map from xs) (flat_map become (map f xs))
  zip_values f become from each [] = tt
  zip_values f become from each (x ∷ xs) =
      zip_append (from x) (flat_map from xs) (become (f x)) (flat_map become (map f xs)) (each x) (zip_values f become from each xs)

  -- and what those of each part do
  zip_parts : {C D : Type 0} (f : C → D) (belongs : D → Bool) (become : List D → List B) (from : List C → List A)
      → ((part : List C) → AllZip R (from part) (become (map f part))) → (xs : List C)
      → AllZip R (flat_map from (divided (λ x. belongs (f x)) xs)) (flat_map become (divided belongs (map f xs)))
  zip_parts f belongs become from each xs =
      subst (λ parts. AllZip R (flat_map from (divided (λ x. belongs (f x)) xs)) (flat_map become parts)) (sym (divided-map f belongs xs))
      (zip_values (map f) become from each (divided (λ x. belongs (f x)) xs))

-- ---- what each item becomes

module _ (rules : Rules) (text : Buffer) where
  abbrev merged : List Item
  merged = (variation_sequences_merged rules text).items

  abbrev at : ℕ → Item
  at place = item_at merged place

  abbrev Has : Origin → Item → Type 0
  Has origin item = HasOfOrigin rules text false origin item

  same_features : (place : ℕ) → features_of (at place) ≡ features_of (item_at text.items place)
  same_features = same_at features_of merged text.items (keys-variation_sequences_merged rules features_of IsKey-features text)

  same_hidden : (place : ℕ) → hidden_char (at place) ≡ hidden_char (item_at text.items place)
  same_hidden = same_at hidden_char merged text.items (keys-variation_sequences_merged rules hidden_char IsKey-hidden_char text)

  -- in a sequence with a selector an item keeps its character, its hidden bit and its mask
  kept_there : (place : ℕ) (new : Item) → features_of new ≡ features_of (at place) → hidden_char new ≡ hidden_char (at place)
      → Has (origin_at true place) new
  kept_there place new features hidden = record {
    features = features ∙ same_features place;
    glyph = λ no. absurd (cc);
    hidden = inl (hidden ∙ same_hidden place);
  }

  -- the origin of an item that has its place for a cluster
  abbrev origin_of : Item → Origin
  origin_of item = origin_at true item.cluster

  abbrev numbered : ℕ → Item
  numbered place = record (at place) { cluster = place }

  skipped_zip : (places : List ℕ) → AllZip Has (map origin_of (map (skipped_item rules.face.nominal_glyph) (map numbered places)))
      (map (skipped_item rules.face.nominal_glyph) (map at places))
  skipped_zip [] = tt
  skipped_zip (place ∷ places) =
      (kept_there place (skipped_item rules.face.nominal_glyph (at place)) refl refl, skipped_zip places)

  module _ (not_found : Option GlyphId) where
    variant_zip : (places : List ℕ)
        → AllZip Has (variant_origins rules.face at places) (variant_items rules.face not_found (map at places))
    variant_zip [] = tt
    variant_zip (place ∷ []) = skipped_zip (place ∷ [])
    variant_zip (place ∷ next ∷ rest) =
        let skipped = skipped_item rules.face.nominal_glyph in
        let become : Option GlyphId → (ℕ → Item) → Option GlyphId → List Item =
        λ not_found item found. elim found [
          | Some g ↦ record (item place) { glyph_index = g.0 } ∷ map skipped (map item rest)
          | None ↦ skipped (item place) ∷ marked_selector not_found (skipped (item next)) ∷ map skipped (map item rest)
        ] in
        elim (rules.face.variation_glyph (at place).codepoint (at next).codepoint) as
        (λ found. AllZip Has (map origin_of (become None numbered found)) (become not_found at found)) [
          | Some g ↦ (kept_there place (record (at place) { glyph_index = g.0 }) refl refl, skipped_zip rest)
          | None ↦ (
            kept_there place (skipped (at place)) refl refl,
            (kept_there next (marked_selector not_found (skipped (at next))) refl refl, skipped_zip rest),
          )
        ]

    abbrev HasGlyph : Item → Type 0
    HasGlyph item = item.glyph_index ≡ item_glyph rules text.invisible_glyph item

    parts_have : (place : ℕ) (cs : List ℕ)
        → AllByRecursion HasGlyph (map (recast_to rules.unicode rules.face.nominal_glyph (at place)) cs)
        → AllByRecursion (Has (origin_at false place)) (map (recast_to rules.unicode rules.face.nominal_glyph (at place)) cs)
    parts_have place [] each = tt
    parts_have place (c ∷ cs) each =
        (record { features = same_features place; glyph = λ outside. each.0; hidden = inr (inl refl) }, parts_have place cs each.1)

    found_have : (place : ℕ) (found : Option (List ℕ)) →
        let become = option_map_or (map (recast_to rules.unicode rules.face.nominal_glyph (at place))) found
        (whole_item rules text.invisible_glyph (at place) ∷ []) in
        AllByRecursion HasGlyph become → AllByRecursion (Has (origin_at false place)) become
    found_have place None each =
        let item = at place in
        let whole = whole_item_is rules text.invisible_glyph in (
          record {
            features = whole (λ whole. features_of whole ≡ features_of item) item (λ glyph. refl) (λ glyph space. refl) ∙ same_features place;
            glyph = λ outside. each.0;
            hidden = inl (whole (λ whole. hidden_char whole ≡ hidden_char item) item (λ glyph. refl) (λ glyph space. refl) ∙ same_hidden place);
          },
          tt,
        )
    found_have place (Some cs) each = parts_have place cs each

    item_zip : (short : Bool) (place : ℕ) →
        let become = emitted_for rules text.invisible_glyph short (at place) in
        AllZip Has (map (λ item. origin_at false place) become) become
    item_zip short place =
        zip_one Has (origin_at false place) (emitted_for rules text.invisible_glyph short (at place))
        (found_have place (expansion_of rules short (at place)) (item_has_glyphs rules text.invisible_glyph not_found short (at place)))

    sequence_zip : (places : List ℕ) → AllZip Has (sequence_origins rules text.invisible_glyph at places)
        (sequence_items rules text.invisible_glyph not_found (map at places))
    sequence_zip places =
        let sequence = map at places in
        let become = emitted_for rules text.invisible_glyph (rules.short (is_with_marks sequence)) in
        let one : ℕ → List Origin = λ place. map (λ item. origin_at false place) (become (at place)) in
        elim (is_selector_sequence rules.unicode sequence) as (λ t. AllZip Has
        (if t then flat_map (variant_origins rules.face at)
        (divided (λ place. is_selector_item rules.unicode (at place)) places) else flat_map one places)
        (if t then flat_map (variant_items rules.face not_found) (variants rules.unicode sequence) else flat_map become sequence)) [
          | true ↦
              zip_parts Has at (is_selector_item rules.unicode) (variant_items rules.face not_found)
              (variant_origins rules.face at) variant_zip places
          | false ↦ zip_values Has at become one (item_zip (rules.short (is_with_marks sequence))) places
        ]

  -- each item of the expanded list has what is promised of the item at its origin's place
  pub expanded_by_place : AllZip Has (origins rules text) (round_one rules text).items
  expanded_by_place =
      let not_found = text.not_found_variation_selector_glyph in
      let become = sequence_items rules text.invisible_glyph not_found in
      subst (λ items. AllZip Has (origins rules text) (flat_map become (sequences items)))
      (sym (sym (map-id merged) ∙ by_places (λ item. item) merged))
      (zip_parts Has at is_mark_item become (sequence_origins rules text.invisible_glyph at)
      (sequence_zip not_found) (all_places merged))
