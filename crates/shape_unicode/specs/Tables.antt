-- The rows of the database as functions that a computation may read by trees, so that a test of all characters ends
-- soon.
use Rattle.std.proofs.Common.{◌≡◌, ℕ, List}
use Rattle.ucd_table.proofs.Stepped.{Stepped}
use Rattle.ucd_table.proofs.Facts.{tree_value, tree_of, tree_value-tree_of}
use Rattle.ucd_table.proofs.RangedFacts.{points_ok, values_ok}
use Rattle.ucd_table.proofs.Computing.{tables}
use Rattle.ucd_category.specs.GeneralCategory.{general_category}
use Rattle.ucd_category.specs.declared.GeneralCategory.{GeneralCategory}
use Rattle.ucd_category.proofs.GeneralCategoryLemmas.{general_category_stepped}
use Rattle.ucd_normal.specs.CanonicalCombiningClass.{canonical_combining_class as ccc}
use Rattle.ucd_normal.specs.DecompositionRows.{Tag}
use Rattle.ucd_normal.specs.Composition.{paired_with}
use Rattle.ucd_normal.specs.Compositions.{compositions}
use Rattle.ucd_normal.specs.Decomposition.{decomposition, if_canonical, expand}
use Rattle.ucd_normal.proofs.CanonicalCombiningClassLemmas.{canonical_combining_class_stepped}
use Rattle.ucd_normal.proofs.CompositionsLemmas.{compositions_stepped}
use Rattle.ucd_normal.proofs.DecompositionLemmas.{decomposition_stepped}

-- a mapping and its tag
abbrev pub Entry : Type 0
Entry = Tag × List ℕ

-- the properties that the tests ask for
pub record Tables : Type 0 where
  pub ccc : ℕ → ℕ
  pub entry : ℕ → Entry
  pub category : ℕ → GeneralCategory
  pub pairs : ℕ → List ℕ

-- as the database has them
abbrev pub by_rows : Tables
by_rows = record { ccc = ccc; entry = decomposition; category = general_category; pairs = compositions }

abbrev by_tree : {V : Type 0} (f : ℕ → V) → Stepped f → ℕ → V
by_tree f s = tree_value s.default (tree_of f s)

-- the same by trees; opening it opens the readers of trees too
unfoldable pub by_trees : Tables
unfolding tables points_ok values_ok paired_with expand
    canonical_combining_class_stepped decomposition_stepped general_category_stepped compositions_stepped
by_trees =
    record {
      ccc = by_tree ccc canonical_combining_class_stepped;
      entry = by_tree decomposition decomposition_stepped;
      category = by_tree general_category general_category_stepped;
      pairs = by_tree compositions compositions_stepped;
    }

pub same_tables : by_rows ≡ by_trees
unfolding by_trees
same_tables =
    λ i. record {
      ccc = tree_value-tree_of ccc canonical_combining_class_stepped i;
      entry = tree_value-tree_of decomposition decomposition_stepped i;
      category = tree_value-tree_of general_category general_category_stepped i;
      pairs = tree_value-tree_of compositions compositions_stepped i;
    }

-- the canonical mapping, empty if there is none
abbrev pub mapping : Tables → ℕ → List ℕ
mapping t c = if_canonical (t.entry c)
