-- Brackets are mirrored: computed over the rows of the database.
use Rattle.std.proofs.Common.{◌≡◌, ℕ, Bool, true, false, not, ◌||◌, Option, Some, None, refl, sym, ap, ◌∙◌, inl, inr}
use Rattle.std.proofs.lemmas.Bool.{or_cases, cond-true}
use Rattle.std.specs.Option.{option_map_or}
use Rattle.ucd_table.proofs.RangedFacts.{Stepped-at_points}
use Rattle.ucd_table.proofs.Computing.{tables}
use Rattle.ucd_bidi.specs.Binary.{is_bidi_mirrored}
use Rattle.ucd_bidi.specs.BidiMirroredRanges.{bidi_mirrored_ranges}
use Rattle.ucd_category.specs.GeneralCategory.{general_category}
use Rattle.ucd_category.specs.declared.GeneralCategory.{GeneralCategory}
use Rattle.ucd_category.proofs.GeneralCategoryLemmas.{general_category_stepped}
use Rattle.shape_unicode.specs.Brackets.{is_bracket_category, is_counterpart, is_new_bracket, BracketsMirror}
use Rattle.shape_unicode.specs.Category.{category_from, category_of}
use Rattle.shape_unicode.specs.Mirror.{other_of_pair}
use Rattle.shape_unicode.specs.SplitLaws.{not_true, true_is_false}
use Rattle.shape_unicode.specs.Tables.{Tables, by_rows, by_trees, same_tables}

-- the image is one that category k is mirrored to
abbrev mirrors_to_counterpart : Tables → GeneralCategory → Option ℕ → Bool
mirrors_to_counterpart t k image = option_map_or (λ d. is_counterpart (category_from k) (category_from (t.category d))) image false

-- c, whose category is k, is new, or is not mirrored, or has such an image
abbrev bracket_ok : Tables → ℕ → GeneralCategory → Bool
bracket_ok t c k = is_new_bracket c || (not (is_bidi_mirrored c) || mirrors_to_counterpart t k (other_of_pair c))

brackets_ok : (c : ℕ) → not (is_bracket_category (category_of c)) ≡ false → bracket_ok by_rows c (general_category c) ≡ true
unfolding by_trees tables is_bidi_mirrored bidi_mirrored_ranges
brackets_ok c some =
    ap (λ t. bracket_ok t c (general_category c)) same_tables
    ∙ Stepped-at_points general_category general_category_stepped (λ k. not (is_bracket_category (category_from k)))
    (bracket_ok by_trees) refl c some

mirrored_image : (c : ℕ) (image : Option ℕ) → mirrors_to_counterpart by_rows (general_category c) image ≡ true
    → (d : ℕ) × ((image ≡ Some d) × (is_counterpart (category_of c) (category_of d) ≡ true))
mirrored_image c None h = cc
mirrored_image c (Some d) h = (d, (refl, h))

pub brackets_mirror : BracketsMirror
brackets_mirror c known mirrored bracket =
    elim (or_cases _ _ (brackets_ok c (ap not bracket))) [
      | inl new ↦ true_is_false (sym new ∙ known)
      | inr either ↦ elim (or_cases _ _ either) [
        | inl lacks ↦ true_is_false (sym mirrored ∙ not_true _ lacks)
        | inr mirrored_back ↦
            let image = mirrored_image c (other_of_pair c) mirrored_back in
            (image.0, (cond-true (is_bidi_mirrored c) (other_of_pair c) None mirrored ∙ image.1.0, image.1.1))
      ]
    ]
