-- One step is found for every character: computed over the rows of the database.
use Rattle.std.proofs.Common.{◌≡◌, ℕ, Bool, true, false, ◌&&◌, not, ◌==◌, [], Option, Some, None, refl, sym, ap, ap₂, ◌∙◌, inl, inr, eqb-true, flat_map}
use Rattle.std.proofs.lemmas.Bool.{cases_Bool, and_parts, both_ways}
use Rattle.ucd_table.proofs.RangedFacts.{Stepped-at_points}
use Rattle.ucd_normal.specs.Composition.{composite, paired_with}
use Rattle.ucd_normal.specs.Decomposition.{decomposition, if_canonical, canonical_mapping, canonical_decomposition, expand, or_itself}
use Rattle.ucd_normal.proofs.CompositionLemmas.{is_empty, composite-paired_with}
use Rattle.ucd_normal.proofs.DecompositionLemmas.{decomposition_stepped}
use Rattle.shape_unicode.specs.Split.{parts_of, is_whole_early}
use Rattle.shape_unicode.specs.LastStep.{split_by}
use Rattle.shape_unicode.specs.SplitLaws.{nil_of_empty}
use Rattle.shape_unicode.specs.Tables.{Entry, Tables, by_rows, by_trees, same_tables, mapping}

abbrev same_parts : Option (ℕ × ℕ) → Option (ℕ × ℕ) → Bool
same_parts None None = true
same_parts (Some p) (Some q) = p.0 == q.0 && p.1 == q.1
same_parts _ _ = false

abbrev compose_by : Tables → ℕ → ℕ → Option ℕ
compose_by t a b = paired_with b (t.pairs a)

-- the step that is found for c is its mapping
abbrev found_ok : Tables → ℕ → Entry → Bool
found_ok t c entry = same_parts (split_by (compose_by t) c (expand (mapping t) 3 c)) (parts_of (if_canonical entry))

found_by_rows : (c : ℕ) → is_empty (if_canonical (decomposition c)) ≡ false → found_ok by_rows c (decomposition c) ≡ true
unfolding by_trees
found_by_rows c some =
    ap (λ t. found_ok t c (decomposition c)) same_tables
    ∙ Stepped-at_points decomposition decomposition_stepped (λ e. is_empty (if_canonical e)) (found_ok by_trees) refl c some

same_parts-true : (p q : Option (ℕ × ℕ)) → same_parts p q ≡ true → p ≡ q
same_parts-true None None h = refl
same_parts-true None (Some q) h = cc
same_parts-true (Some p) None h = cc
same_parts-true (Some p) (Some q) h =
    let both = and_parts (p.0 == q.0) (p.1 == q.1) h in
    ap Some (ap₂ (λ x y. (x, y)) (eqb-true p.0 q.0 both.0) (eqb-true p.1 q.1 both.1))

canonical_decomposition-nil : (c : ℕ) → canonical_mapping c ≡ [] → canonical_decomposition c ≡ []
unfolding canonical_decomposition expand
canonical_decomposition-nil c h = ap (flat_map (λ x. or_itself x (expand canonical_mapping 2 x))) h

-- the step that is found is the canonical mapping of the database, for every character
pub split_by-split : (c : ℕ) → split_by composite c (canonical_decomposition c) ≡ parts_of (canonical_mapping c)
unfolding canonical_decomposition
split_by-split c =
    elim (cases_Bool (is_empty (canonical_mapping c))) [
      | inl none ↦
          let nil = nil_of_empty (canonical_mapping c) none in
          ap (split_by composite c) (canonical_decomposition-nil c nil) ∙ ap parts_of (sym nil)
      | inr some ↦
          ap (λ compose. split_by compose c (canonical_decomposition c)) (λ i a b. composite-paired_with a b i)
          ∙ same_parts-true _ _ (found_by_rows c some)
    ]

-- the characters that are whole early have no mapping
pub whole_early : (c : ℕ) → is_whole_early c ≡ true → canonical_mapping c ≡ []
unfolding by_trees
whole_early c early =
    elim (cases_Bool (is_empty (canonical_mapping c))) [
      | inl none ↦ nil_of_empty (canonical_mapping c) none
      | inr some ↦
          let elsewhere : not (is_whole_early c) ≡ true =
          Stepped-at_points decomposition decomposition_stepped (λ e. is_empty (if_canonical e)) (λ d e. not (is_whole_early d)) refl c some in
          let never : not (is_whole_early c) ≡ false = ap not early in
          absurd (both_ways (not (is_whole_early c)) never elsewhere)
    ]
