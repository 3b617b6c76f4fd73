-- The small tables agree with the database: tests computed over the tables, and over the database's rows.
use Rattle.std.proofs.Common.{◌≡◌, ◌≢◌, ℕ, zero, suc, ◌+◌, ◌<◌, Bool, true, false, not, ◌&&◌, ◌||◌, ◌==◌, List, [], ◌∷◌, Option, Some, None, length}
use Rattle.std.proofs.Common.{slice_index_or, unwrap_or, option_map, refl, sym, ap, ap₂, subst, ◌∙◌, inl, inr, eqb-true, eq-eqb, arith}
use Rattle.std.proofs.lemmas.Bool.{and_parts, or_cases, cond-true}
use Rattle.std.specs.List.{find, list_all, list_any}
use Rattle.std.specs.Option.{option_map_or}
use Rattle.ucd_table.proofs.RangedFacts.{Stepped-at_points}
use Rattle.ucd_table.proofs.Computing.{tables}
use Rattle.ucd_bidi.specs.Binary.{is_bidi_mirrored}
use Rattle.ucd_bidi.specs.BidiMirroredRanges.{bidi_mirrored_ranges}
use Rattle.ucd_category.specs.GeneralCategory.{general_category}
use Rattle.ucd_category.proofs.GeneralCategoryLemmas.{general_category_stepped}
use Rattle.ucd_normal.specs.Decomposition.{decomposition, any_mapping}
use Rattle.ucd_normal.specs.DecompositionRows.{Tag}
use Rattle.ucd_normal.specs.DecompositionRows.Tag.{vertical}
use Rattle.ucd_normal.proofs.DecompositionLemmas.{decomposition_stepped}
use Rattle.shape_common.specs.Category.{is_space_category}
use Rattle.shape_common.specs.CategoryNumber.{category_number, category_of as numbered}
use Rattle.shape_common.specs.declared.general_category.hb_unicode_general_category_t.{hb_unicode_general_category_t}
use Rattle.shape_common.specs.declared.general_category.hb_unicode_general_category_t.TheVariants.{UppercaseLetter}
use Rattle.shape_common.proofs.CategoryLemmas.{category_of-number}
use Rattle.shape_unicode.specs.Category.{category_from, category_of}
use Rattle.shape_unicode.specs.Mirror.{other_of_pair}
use Rattle.shape_unicode.specs.Space.{space_of}
use Rattle.shape_unicode.specs.Vertical.{vertical_of}
use Rattle.shape_unicode.specs.Tables.{Tables, by_rows, by_trees, same_tables}
use Rattle.shape_unicode.specs.SplitLaws.{true_is_false}
use Rattle.shape_unicode.specs.FormLaws.{look_up, found_pair, mirrored_cases}
use Rattle.shape_unicode.specs.OfDatabase.{MirrorsAreMutual, VerticalsAreMapped, VerticalsAreAll, SpacesAreSeparators}
use Rattle.shape_unicode.specs.declared.early_categories.TheConstants.{EARLY_CATEGORIES}
use Rattle.shape_unicode.specs.declared.mirror_pairs.TheConstants.{MIRROR_PAIRS}
use Rattle.shape_unicode.specs.declared.vertical.TheConstants.{VERTICAL_FORMS}
use Rattle.shape_unicode.specs.declared.space.TheConstants.{SPACES}

-- the answer is d
abbrev answers : Option ℕ → ℕ → Bool
answers o d = option_map_or (λ x. x == d) o false

answers-true : (o : Option ℕ) (d : ℕ) → answers o d ≡ true → o ≡ Some d
answers-true None d h = cc
answers-true (Some x) d h = ap Some (eqb-true x d h)

-- ---- mirror images

-- both are mirrored, and each is the image of the other
abbrev is_mutual : ℕ × ℕ → Bool
is_mutual pair =
    (is_bidi_mirrored pair.0 && is_bidi_mirrored pair.1)
    && (answers (other_of_pair pair.0) pair.1 && answers (other_of_pair pair.1) pair.0)

mutual_ok : list_all is_mutual MIRROR_PAIRS ≡ true
unfolding tables is_bidi_mirrored bidi_mirrored_ranges
mutual_ok = refl

-- the image of c is mirrored, and c is its image
mirrored_back : (c d : ℕ) → other_of_pair c ≡ Some d → (is_bidi_mirrored d ≡ true) × (other_of_pair d ≡ Some c)
mirrored_back c d found =
    let at = found_pair is_mutual mutual_ok c d found in
    let parts = and_parts _ _ at.passes in
    let has = and_parts _ _ parts.0 in
    let image = and_parts _ _ parts.1 in
    elim at.sides [
      | inl e ↦ (subst (λ x. is_bidi_mirrored x ≡ true) e.1 has.1, sym (ap other_of_pair e.1) ∙ answers-true _ _ image.1 ∙ ap Some e.0)
      | inr e ↦ (subst (λ x. is_bidi_mirrored x ≡ true) e.1 has.0, sym (ap other_of_pair e.1) ∙ answers-true _ _ image.0 ∙ ap Some e.0)
    ]

pub mirrors_are_mutual : MirrorsAreMutual
mirrors_are_mutual = record {
  mirrored = λ c d found. (mirrored_back c d (mirrored_cases c d found).1).0;
  back = λ c d found.
      let image = mirrored_back c d (mirrored_cases c d found).1 in
      cond-true (is_bidi_mirrored d) (other_of_pair d) None image.0 ∙ image.1;
}

-- ---- vertical forms

abbrev is_vertical : Tag → Bool
is_vertical vertical = true
is_vertical _ = false

is_vertical-true : (t : Tag) → is_vertical t ≡ true → t ≡ vertical
is_vertical-true t h = elim t as (λ v. is_vertical v ≡ true → v ≡ vertical) [ vertical ↦ λ e. refl | _ ↦ λ e. cc ] h

abbrev same_list : List ℕ → List ℕ → Bool
same_list [] [] = true
same_list (x ∷ xs) (y ∷ ys) = x == y && same_list xs ys
same_list _ _ = false

same_list-true : (xs ys : List ℕ) → same_list xs ys ≡ true → xs ≡ ys
same_list-true [] [] h = refl
same_list-true [] (y ∷ ys) h = cc
same_list-true (x ∷ xs) [] h = cc
same_list-true (x ∷ xs) (y ∷ ys) h =
    let both = and_parts (x == y) (same_list xs ys) h in
    ap₂ (λ z zs. z ∷ zs) (eqb-true x y both.0) (same_list-true xs ys both.1)

-- the form's mapping names the other one, or what that one is mapped to
abbrev mapped : Tables → ℕ × ℕ → Bool
mapped t form =
    is_vertical (t.entry form.1).0
    && (same_list (t.entry form.1).1 (form.0 ∷ []) || same_list (t.entry form.1).1 (t.entry form.0).1)

mapped_ok : list_all (mapped by_rows) VERTICAL_FORMS ≡ true
unfolding by_trees
mapped_ok = ap (λ t. list_all (mapped t) VERTICAL_FORMS) same_tables

entry_of : (d : ℕ) (xs : List ℕ) → is_vertical (decomposition d).0 ≡ true → same_list (decomposition d).1 xs ≡ true
    → decomposition d ≡ (vertical, xs)
entry_of d xs tag same = ap₂ (λ t ys. (t, ys)) (is_vertical-true _ tag) (same_list-true _ _ same)

pub verticals_are_mapped : VerticalsAreMapped
verticals_are_mapped c d found =
    let at = look_up (λ entry. entry.0 == c) (mapped by_rows) VERTICAL_FORMS (λ entry. entry.1) d mapped_ok found in
    let both = and_parts _ _ at.passes in
    let key : at.entry.0 ≡ c = eqb-true _ _ at.is_key in
    let tag : is_vertical (decomposition d).0 ≡ true = subst (λ x. is_vertical (decomposition x).0 ≡ true) at.into both.0 in
    elim (or_cases _ _ both.1) [
      | inl itself ↦ inl (entry_of d (c
          ∷ []) tag (subst (λ x. same_list (decomposition x).1 (c ∷ []) ≡ true) at.into
          (subst (λ x. same_list (decomposition at.entry.1).1 (x ∷ []) ≡ true) key itself)))
      | inr through ↦ inr (entry_of d (any_mapping c) tag (subst (λ x. same_list (decomposition x).1 (any_mapping c) ≡ true) at.into
          (subst (λ x. same_list (decomposition at.entry.1).1 (any_mapping x) ≡ true) key through)))
    ]

abbrev is_single : List ℕ → Bool
is_single (x ∷ []) = true
is_single _ = false

-- an entry of the table has d
abbrev is_form : ℕ → Bool
is_form d = list_any (λ form. answers (vertical_of form.0) d) VERTICAL_FORMS

forms_ok : (d : ℕ) → not (is_vertical (decomposition d).0 && is_single (decomposition d).1) ≡ false → is_form d ≡ true
unfolding by_trees
forms_ok = Stepped-at_points decomposition decomposition_stepped (λ e. not (is_vertical e.0 && is_single e.1)) (λ d e. is_form d) refl

some_passes : {X : Type 0} (p : X → Bool) (xs : List X) → list_any p xs ≡ true → (x : X) × (p x ≡ true)
some_passes p [] h = cc
some_passes p (x ∷ xs) h = elim (or_cases (p x) (list_any p xs) h) [ inl here ↦ (x, here) | inr later ↦ some_passes p xs later ]

pub verticals_are_all : VerticalsAreAll
verticals_are_all d x mapping =
    let form = some_passes (λ form. answers (vertical_of form.0) d) VERTICAL_FORMS
    (forms_ok d (ap (λ e. not (is_vertical e.0 && is_single e.1)) mapping)) in
    (form.0.0, answers-true _ _ form.1)

-- ---- categories from Basic Latin to Arabic

-- the numbers tell two categories apart; each entry is the category of its character, the first one that of c
unfoldable categories_agree : Tables → ℕ → List hb_unicode_general_category_t → Bool
categories_agree t c [] = true
categories_agree t c (k ∷ ks) = (category_number k == category_number (category_from (t.category c))) && categories_agree t (suc c) ks

agreed_at : (t : Tables) (c : ℕ) (ks : List hb_unicode_general_category_t) (i : ℕ) → categories_agree t c ks ≡ true → i < length ks
    → slice_index_or ks i UppercaseLetter ≡ category_from (t.category (c + i))
unfolding categories_agree
agreed_at t c [] i agreed within = absurd (omega (arith, within))
agreed_at t c (k ∷ ks) zero agreed within =
    let both = and_parts (category_number k == category_number (category_from (t.category c))) (categories_agree t (suc c) ks) agreed in
    let here : c ≡ c + zero = omega arith in
    sym (category_of-number k) ∙ ap numbered (eqb-true _ _ both.0) ∙ category_of-number (category_from (t.category c))
    ∙ ap (λ d. category_from (t.category d)) here
agreed_at t c (k ∷ ks) (suc i) agreed within =
    let both = and_parts (category_number k == category_number (category_from (t.category c))) (categories_agree t (suc c) ks) agreed in
    let next : suc c + i ≡ c + suc i = omega arith in
    agreed_at t (suc c) ks i both.1 (omega (arith, within)) ∙ ap (λ d. category_from (t.category d)) next

categories_ok : categories_agree by_rows 0 EARLY_CATEGORIES ≡ true
unfolding by_trees categories_agree
categories_ok = ap (λ t. categories_agree t 0 EARLY_CATEGORIES) same_tables

pub early_category : (c : ℕ) → c < 1792 → slice_index_or EARLY_CATEGORIES c UppercaseLetter ≡ category_of c
early_category c early =
    let same : 0 + c ≡ c = omega arith in
    agreed_at by_rows 0 EARLY_CATEGORIES c categories_ok early ∙ ap category_of same

-- ---- spaces

abbrev is_separator : ℕ × ℕ → Bool
is_separator entry = is_space_category (category_of entry.0)

separators_ok : list_all (λ entry. is_space_category (category_from (by_rows.category entry.0))) SPACES ≡ true
unfolding by_trees
separators_ok = ap (λ t. list_all (λ entry. is_space_category (category_from (t.category entry.0))) SPACES) same_tables

widths_ok : (c : ℕ) → not (is_space_category (category_of c)) ≡ false → (c == 0x1680 || not (space_of c == 0)) ≡ true
unfolding by_trees
widths_ok =
    Stepped-at_points general_category general_category_stepped (λ k. not (is_space_category (category_from k)))
    (λ c k. c == 0x1680 || not (space_of c == 0)) refl

in_table : (c : ℕ) → space_of c ≢ 0 → is_space_category (category_of c) ≡ true
in_table c some =
    let P : Option (ℕ × ℕ) → Type 0 = λ v. find (λ entry. entry.0 == c) SPACES ≡ v → is_space_category (category_of c) ≡ true in
    let cases : P (find (λ entry. entry.0 == c) SPACES) = elim (find (λ entry. entry.0 == c) SPACES) as P [
      | None ↦ λ e. absurd (some (ap (λ o. unwrap_or (option_map (λ entry. entry.1) o) 0) e))
      | Some entry ↦ λ e.
          let at = look_up (λ x. x.0 == c) is_separator SPACES (λ x. x.0) entry.0 separators_ok (ap (option_map (λ x. x.0)) e) in
          subst (λ x. is_space_category (category_of x) ≡ true) (eqb-true _ _ at.is_key) at.passes
    ] in
    cases refl

pub spaces_are_separators : SpacesAreSeparators
spaces_are_separators = record {
  separators = λ c separator. elim (or_cases _ _ (widths_ok c (ap not separator))) [
    | inl ogham ↦ inl (eqb-true _ _ ogham)
    | inr wide ↦ inr (λ none. true_is_false (sym wide ∙ ap not (eq-eqb (space_of c) 0 none)))
  ];
  nothing_else = in_table;
}
