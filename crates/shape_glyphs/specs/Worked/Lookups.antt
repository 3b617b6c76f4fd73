-- Stages of single, ligature and multiple substitutions, run on small texts whose answers are worked out by hand.
use Rattle.std.specs.Prelude.{◌≡◌, ℕ, zero, suc, ◌+◌, ◌==◌, ◌&&◌, Bool, true, false, List, [], ◌∷◌, length, map, drop, None, refl, if◌then◌else◌}
use Rattle.std.specs.List.{flat_map}
use Rattle.shape_items.specs.Buffer.{Buffer, new_buffer}
use Rattle.shape_items.specs.BufferClusters.{merge_clusters}
use Rattle.shape_items.specs.Clusters.{clusters, map_range, merge}
use Rattle.shape_items.specs.Delete.{lose}
use Rattle.shape_items.specs.Items.{Item, new_item}
use Rattle.shape_buffer.specs.Layout.{LookupMeaning}
use Rattle.shape_buffer.specs.NoLookups.{no_lookups}
use Rattle.shape_buffer.specs.Outcome.{run_steps}
use Rattle.shape_common.specs.declared.text_types.BufferClusterLevel.{BufferClusterLevel}
use Rattle.shape_common.specs.declared.text_types.BufferClusterLevel.TheVariants.{MonotoneGraphemes, MonotoneCharacters, Characters}
use Rattle.shape_plan.specs.Run.{Run}
use Rattle.shape_glyphs.specs.Substitution.{stage_steps, substitute_steps}
use Rattle.shape_glyphs.specs.Worked.Substitution.{with_stages, constants, by_tables, glyphs}

abbrev with_glyph : ℕ → Item → Item
with_glyph g item = record item { glyph_id = g }

-- one glyph in place of another
abbrev single : ℕ → ℕ → Item → Item
single from to item = if item.glyph_id == from then with_glyph to item else item

-- two glyphs in place of one, copies of its item
abbrev multiple : ℕ → ℕ → ℕ → Item → List Item
multiple from first second item = if item.glyph_id == from then with_glyph first item ∷ with_glyph second item ∷ [] else item ∷ []

-- the list begins with these two glyphs
abbrev begins_with : ℕ → ℕ → List Item → Bool
begins_with first second [] = false
begins_with first second (x ∷ []) = false
begins_with first second (x ∷ y ∷ items) = x.glyph_id == first && y.glyph_id == second

-- two glyphs become one, once their clusters are merged
abbrev joined : ℕ → ℕ → Buffer → Buffer
joined into i b =
    let merged = merge_clusters i (i + 2) b in
    lose (i + 1) (record merged { items = map_range (with_glyph into) i (i + 1) merged.items })

-- one glyph in place of two; n places are left to visit, from place i on
abbrev ligated : ℕ → ℕ → ℕ → ℕ → ℕ → Buffer → Buffer
ligated first second into zero i b = b
ligated first second into (suc n) i b =
    ligated first second into n (i + 1) (if begins_with first second (drop i b.items) then joined into i b else b)

-- stage 0 makes 10 of 5 and 6, stage 1 makes 11 and 12 of 10, stage 2 makes 9 of 12, each later one makes 10 of 11 and
-- 9
abbrev substituting : LookupMeaning
substituting = record no_lookups {
  stage = λ i b.
      if i == 0 then ligated 5 6 10 (length b.items) 0 b
      else if i == 1 then record b { items = flat_map (multiple 10 11 12) b.items }
      else if i == 2 then record b { items = map (single 12 9) b.items }
      else ligated 11 9 10 (length b.items) 0 b;
}

-- the engine with so many stages, in a plan without a shaper
abbrev with_engine : ℕ → Run → Run
with_engine n run =
    record run {
      lookups = substituting;
      map = with_stages n;
      hooks = None;
      constants = constants true;
      decisions = by_tables false false;
    }

abbrev glyph_at : ℕ → ℕ → Item
glyph_at g cluster = with_glyph g (new_item 0x61 cluster)

abbrev at_level : BufferClusterLevel → List Item → Buffer
at_level level items = record new_buffer { items = items; cluster_level = level }

abbrev after_stages : Run → ℕ → Buffer → Buffer
after_stages run n b = run_steps (substitute_steps (with_engine n run)) b

-- glyphs 1 5 6 7 of clusters 0 1 2 3
abbrev plain : List Item
plain = glyph_at 1 0 ∷ glyph_at 5 1 ∷ glyph_at 6 2 ∷ glyph_at 7 3 ∷ []

-- the last two in one cluster
abbrev shared : List Item
shared = glyph_at 1 0 ∷ glyph_at 5 1 ∷ glyph_at 6 2 ∷ glyph_at 7 2 ∷ []

pub record SubstitutedTexts (run : Run) : Type 0 where
  pub ligature : glyphs (after_stages run 1 (at_level MonotoneCharacters plain)) ≡ 1 ∷ 10 ∷ 7 ∷ []
  pub ligature_merges : clusters (after_stages run 1 (at_level MonotoneCharacters plain)).items ≡ 0 ∷ 1 ∷ 3 ∷ []
  pub merge_grows : clusters (after_stages run 1 (at_level MonotoneGraphemes shared)).items ≡ 0 ∷ 1 ∷ 1 ∷ []
  pub not_merged : clusters (after_stages run 1 (at_level Characters shared)).items ≡ 0 ∷ 1 ∷ 2 ∷ []
  pub two_of_one : glyphs (after_stages run 2 (at_level MonotoneCharacters plain)) ≡ 1 ∷ 11 ∷ 12 ∷ 7 ∷ []
  pub both_in_its_cluster : clusters (after_stages run 2 (at_level MonotoneCharacters plain)).items ≡ 0 ∷ 1 ∷ 1 ∷ 3 ∷ []
  pub single_last : glyphs (after_stages run 3 (at_level MonotoneCharacters plain)) ≡ 1 ∷ 11 ∷ 9 ∷ 7 ∷ []
  pub one_again : glyphs (after_stages run 4 (at_level MonotoneCharacters plain)) ≡ 1 ∷ 10 ∷ 7 ∷ []
  pub ligature_of_none : glyphs (after_stages run 4 (at_level MonotoneCharacters (glyph_at 6 0 ∷ glyph_at 5 1 ∷ []))) ≡ 6 ∷ 5 ∷ []

-- two glyphs become four in stage 1, and two again in stage 3: the list is longest on the way
pub record LongestOnTheWay (run : Run) : Type 0 where
  pub before : length (run_steps (stage_steps (with_engine 4 run) 1)
      (at_level MonotoneCharacters (glyph_at 10 0 ∷ glyph_at 10 1 ∷ []))).items
      ≡ 2
  pub longest : length (run_steps (stage_steps (with_engine 4 run) 2)
      (at_level MonotoneCharacters (glyph_at 10 0 ∷ glyph_at 10 1 ∷ []))).items
      ≡ 4
  pub after : glyphs (after_stages run 4 (at_level MonotoneCharacters (glyph_at 10 0 ∷ glyph_at 10 1 ∷ []))) ≡ 10 ∷ 10 ∷ []

pub record WorkedLookups : Type 0 where
  pub texts : (run : Run) → SubstitutedTexts run
  pub longest : (run : Run) → LongestOnTheWay run

substituted_texts : (run : Run) → SubstitutedTexts run
unfolding merge
substituted_texts run = record {
  ligature = refl;
  ligature_merges = refl;
  merge_grows = refl;
  not_merged = refl;
  two_of_one = refl;
  both_in_its_cluster = refl;
  single_last = refl;
  one_again = refl;
  ligature_of_none = refl;
}

longest_on_the_way : (run : Run) → LongestOnTheWay run
unfolding merge
longest_on_the_way run = record { before = refl; longest = refl; after = refl }

pub worked_lookups : WorkedLookups
worked_lookups = record { texts = substituted_texts; longest = longest_on_the_way }
