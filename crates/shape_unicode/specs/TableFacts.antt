-- What the laws rest on: tests computed over the rows of the database.
--
-- The laws take those of the short tables as premises, and the type that has the laws names the proofs. So a wrong row
-- of such a table leaves one thing false, and the check names it.
use Rattle.std.proofs.Common.{◌≡◌, ℕ, ◌<◌, Bool, true, false, not, ◌&&◌, ◌||◌, ◌==◌, nat_lt, List, [], ◌∷◌, Option, Some, None, refl, ap, ◌∙◌}
use Rattle.std.specs.List.{list_all}
use Rattle.ucd_table.proofs.Facts.{Stepped-below}
use Rattle.ucd_table.proofs.RangedFacts.{Stepped-at_points}
use Rattle.ucd_category.specs.GeneralCategory.{general_category}
use Rattle.ucd_category.proofs.GeneralCategoryLemmas.{general_category_stepped}
use Rattle.ucd_normal.specs.CanonicalCombiningClass.{canonical_combining_class as ccc}
use Rattle.ucd_normal.specs.Decomposition.{decomposition, if_canonical}
use Rattle.ucd_normal.proofs.CanonicalCombiningClassLemmas.{canonical_combining_class_stepped}
use Rattle.ucd_normal.proofs.CompositionLemmas.{is_empty}
use Rattle.ucd_normal.proofs.DecompositionLemmas.{decomposition_stepped}
use Rattle.unicode_normalization.specs.Hangul.{is_among, is_syllable}
use Rattle.shape_common.specs.Category.{is_mark_category, is_space_category}
use Rattle.shape_unicode.specs.Category.{category_from}
use Rattle.shape_unicode.specs.Ccc.{modified_ccc_from}
use Rattle.shape_unicode.specs.Split.{parts_of, depth_within}
use Rattle.shape_unicode.specs.Tables.{Entry, Tables, by_rows, by_trees, same_tables, mapping}
use Rattle.shape_unicode.specs.declared.mirror_pairs.TheConstants.{MIRROR_PAIRS}
use Rattle.shape_unicode.specs.declared.vertical.TheConstants.{VERTICAL_FORMS}

abbrev is_mark_by : Tables → ℕ → Bool
is_mark_by t c = is_mark_category (category_from (t.category c))

-- ---- characters with a combining class

-- the parts of a split have the ccc n, U+0000 aside
abbrev pub parts_preserve : (ℕ → ℕ) → ℕ → Option (ℕ × ℕ) → Bool
parts_preserve ccc n None = true
parts_preserve ccc n (Some parts) = ccc parts.0 == n && (parts.1 == 0 || ccc parts.1 == n)

-- c, whose combining class is n, is a mark and no syllable, and its parts have its ccc
abbrev pub ccc_ok : Tables → ℕ → ℕ → Bool
ccc_ok t c n =
    (is_mark_by t c && not (is_syllable c))
    && parts_preserve (λ x. modified_ccc_from (t.ccc x) x) (modified_ccc_from n c) (parts_of (mapping t c))

-- so it is with each character that has a combining class
abbrev pub CccPass : Type 0
CccPass = (c : ℕ) → (ccc c == 0) ≡ false → ccc_ok by_rows c (ccc c) ≡ true

pub cccs_ok : CccPass
unfolding by_trees
cccs_ok c nonzero =
    ap (λ t. ccc_ok t c (ccc c)) same_tables
    ∙ Stepped-at_points ccc canonical_combining_class_stepped (λ n. n == 0) (ccc_ok by_trees) refl c nonzero

-- ---- characters with a canonical mapping

-- the first part is less deep and no syllable; the second one is U+0000, or has no mapping and is no syllable
abbrev pub parts_fall : Tables → ℕ → Option (ℕ × ℕ) → Bool
parts_fall t c None = true
parts_fall t c (Some parts) =
    (nat_lt (depth_within (mapping t) 4 parts.0) (depth_within (mapping t) 4 c) && not (is_syllable parts.0))
    && (parts.1 == 0 || (is_empty (mapping t parts.1) && not (is_syllable parts.1)))

-- the second one of a pair isn't U+0000
abbrev pub pair_has_second : List ℕ → Bool
pair_has_second (a ∷ b ∷ []) = not (b == 0)
pair_has_second _ = true

-- c, which has this mapping, is no syllable and no jamo, and its parts fall
abbrev pub mapping_ok : Tables → ℕ → Entry → Bool
mapping_ok t c entry =
    (not (is_syllable c) && not (is_among 0x1100 0x100 c))
    && (pair_has_second (if_canonical entry) && parts_fall t c (parts_of (if_canonical entry)))

pub mappings_ok : (c : ℕ) → is_empty (if_canonical (decomposition c)) ≡ false → mapping_ok by_rows c (decomposition c) ≡ true
unfolding by_trees
mappings_ok c some =
    ap (λ t. mapping_ok t c (decomposition c)) same_tables
    ∙ Stepped-at_points decomposition decomposition_stepped (λ e. is_empty (if_canonical e)) (mapping_ok by_trees) refl c some

-- ---- ASCII

pub ascii_ok : (c : ℕ) → c < 128 → not (is_mark_category (category_from (general_category c))) ≡ true
unfolding by_trees
ascii_ok = Stepped-below general_category general_category_stepped (λ _ v. not (is_mark_category (category_from v))) 128 refl

-- ---- the tables of mirror images and vertical forms

abbrev is_plain_by : Tables → ℕ → Bool
is_plain_by t c = not (is_mark_by t c) && not (is_space_category (category_from (t.category c)))

-- neither of the two is a mark or a space separator
abbrev pub plain_pair : Tables → ℕ × ℕ → Bool
plain_pair t entry = is_plain_by t entry.0 && is_plain_by t entry.1

-- so it is with each mirror pair
abbrev pub MirrorsPass : Type 0
MirrorsPass = list_all (plain_pair by_rows) MIRROR_PAIRS ≡ true

pub mirrors_ok : MirrorsPass
unfolding by_trees
mirrors_ok = ap (λ t. list_all (plain_pair t) MIRROR_PAIRS) same_tables

-- so it is with each vertical form and what it is a form of
abbrev pub VerticalsPass : Type 0
VerticalsPass = list_all (plain_pair by_rows) VERTICAL_FORMS ≡ true

pub verticals_ok : VerticalsPass
unfolding by_trees
verticals_ok = ap (λ t. list_all (plain_pair t) VERTICAL_FORMS) same_tables
