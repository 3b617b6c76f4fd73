-- Each item of the recomposed list is what became of the starter that stood at its place.
use Rattle.std.proofs.Common.{◌≡◌, ℕ, ◌+◌, zero, suc, true, List, [], ◌∷◌, ◌++◌, map, get_or, Some, refl, sym, ap, subst, ◌∙◌, arith}
use Rattle.std.specs.List.{AllByRecursion, AllZip}
use Rattle.shape_items.specs.Buffer.{Buffer}
use Rattle.shape_items.specs.Items.{Item}
use Rattle.canonical_form.specs.Recompose.{is_blocked}
use Rattle.canonical_form.proofs.Recomposing.RecomposeLemmas.{recomposed-all}
use Rattle.shape_plan.specs.Rules.{Rules, has_glyph}
use Rattle.shape_normalize.specs.Normalized.{features_of}
use Rattle.shape_normalize.specs.Origins.{item_at, last_char, IsOnceComposed, IsFromStarter}
use Rattle.shape_normalize.specs.Reordered.{unmerged}
use Rattle.shape_normalize.specs.Recast.{recast_to}
use Rattle.shape_items.specs.Spans.{spans_merged_out}
use Rattle.shape_normalize.specs.RoundThree.{Absorbed, Placed, placed, ccc_of_placed, is_mark_placed, compose_placed, recomposed_items, absorbed_spans, with_cluster_at, round_three}
use Rattle.shape_normalize.proofs.Normalized.FeatureLemmas.{features-spans_merged_out}
use Rattle.shape_normalize.proofs.RoundThree.RecomposedItemLemmas.{glyph_of_composed}
use Rattle.shape_normalize.proofs.RoundThree.RoundThreePlaceLemmas.{absorbed_is}

-- what holds of each item and what is made of it holds along both lists
zip_map : {A B : Type 0} (R : A → B → Type 0) (f : A → B) (xs : List A) → AllByRecursion (λ x. R x (f x)) xs → AllZip R xs (map f xs)
zip_map R f [] each = tt
zip_map R f (x ∷ xs) each = (each.0, zip_map R f xs each.1)

-- if two lists have the same feature bits, what stands at a place of one has those at that place of the other
features_at : (xs ys : List Item) → map features_of xs ≡ map features_of ys → (place : ℕ) (other : Item)
    → features_of (item_at ys place) ≡ features_of other → features_of (get_or xs place other) ≡ features_of other
features_at [] ys same place other is = refl
features_at (x ∷ xs) [] same place other is = absurd (cc)
features_at (x ∷ xs) (y ∷ ys) same zero other is = let head : features_of x ≡ features_of y = cc in head ∙ is
features_at (x ∷ xs) (y ∷ ys) same (suc place) other is = let tail : map features_of xs ≡ map features_of ys = cc in
    features_at xs ys tail place other is

last_char-push : (c : ℕ) (marks : List Absorbed) (mark : Absorbed) → last_char c (marks ++ mark ∷ []) ≡ mark.char
last_char-push c [] mark = refl
last_char-push c (m ∷ marks) mark = last_char-push m.char marks mark

module _ (rules : Rules) where
  -- an item, once marks were composed with it, by the character that it has then
  abbrev once_composed : Item → List Absorbed → ℕ → Item
  once_composed from [] c = from
  once_composed from (mark ∷ marks) c = recast_to rules.unicode rules.face.nominal_glyph from c

  -- which is that of the last composition, and has a glyph
  abbrev HasGlyphOnceComposed : List Absorbed → ℕ → Type 0
  HasGlyphOnceComposed [] c = Unit {0}
  HasGlyphOnceComposed (mark ∷ marks) c = (c ≡ last_char mark.char marks) × (has_glyph rules.face.nominal_glyph c ≡ true)

  -- an item that is composed with one more mark has that character alone
  composed_once : (from item : Item) (absorbed : List Absorbed) (mark : Absorbed) (c : ℕ) → item ≡ once_composed from absorbed item.codepoint
      → recast_to rules.unicode rules.face.nominal_glyph item c ≡ once_composed from (absorbed ++ mark ∷ []) c
  composed_once from item [] mark c is = ap (λ (one : Item). recast_to rules.unicode rules.face.nominal_glyph one c) is
  composed_once from item (m ∷ ms) mark c is = ap (λ (one : Item). recast_to rules.unicode rules.face.nominal_glyph one c) is

  has_glyph_once : (absorbed : List Absorbed) (mark : Absorbed) → has_glyph rules.face.nominal_glyph mark.char ≡ true
      → HasGlyphOnceComposed (absorbed ++ mark ∷ []) mark.char
  has_glyph_once [] mark has = (refl, has)
  has_glyph_once (m ∷ ms) mark has = (sym (last_char-push m.char ms mark), has)

  features_once : (from : Item) (absorbed : List Absorbed) (c : ℕ) → features_of (once_composed from absorbed c) ≡ features_of from
  features_once from [] c = refl
  features_once from (mark ∷ marks) c = refl

  -- whatever its cluster and its flags
  settled_once : (from item new : Item) (absorbed : List Absorbed) → item ≡ once_composed from absorbed item.codepoint
      → HasGlyphOnceComposed absorbed item.codepoint → unmerged new ≡ unmerged item → IsOnceComposed rules from absorbed new
  settled_once from item new [] is has same = same ∙ ap unmerged is
  settled_once from item new (mark ∷ marks) is has same =
      let char : new.codepoint ≡ item.codepoint = ap (λ (one : Item). one.codepoint) same in (
        char ∙ has.0,
        ap (has_glyph rules.face.nominal_glyph) char ∙ has.1,
        same ∙ ap unmerged is ∙ ap (λ c. unmerged (recast_to rules.unicode rules.face.nominal_glyph from c)) (sym char),
      )

  module _ (items : List Item) where
    -- an item that was emitted, before it takes the cluster and the mask at its place
    abbrev IsPutOut : Placed → Type 0
    IsPutOut p = (p.item ≡ once_composed (item_at items p.place) p.absorbed p.item.codepoint) × HasGlyphOnceComposed p.absorbed p.item.codepoint

    -- before anything is composed, each item is the one at its place
    placed_once : (place : ℕ) (rest : List Item) → ((k n : ℕ) → n ≡ place + k → item_at rest k ≡ item_at items n)
        → AllByRecursion IsPutOut (placed place rest)
    placed_once place [] same = tt
    placed_once place (item ∷ rest) same =
        ((same 0 place (omega arith), tt), placed_once (suc place) rest (λ k n is. same (suc k) n (omega (arith, is))))

    composes_once : (s mark d : Placed) → IsPutOut s → IsPutOut mark → compose_placed rules s mark ≡ Some d → IsPutOut d
    composes_once s mark d of_s of_mark is =
        let made = absorbed_is rules s mark d is in
        let last : Absorbed = record { place = mark.place; char = made.0 } in
        let has = glyph_of_composed (has_glyph rules.face.nominal_glyph) (rules.compose s.item.codepoint mark.item.codepoint) made.0 made.1 in
        subst IsPutOut (sym made.2)
        (composed_once (item_at items s.place) s.item s.absorbed last made.0 of_s.0, has_glyph_once s.absorbed last has)

    each_once : AllByRecursion IsPutOut (recomposed_items rules items)
    each_once =
        recomposed-all ccc_of_placed (is_blocked ccc_of_placed) is_mark_placed (compose_placed rules) IsPutOut composes_once
        (placed 0 items)
        (placed_once 0 items (λ k n is. let same : k ≡ n = omega (arith, is) in ap (item_at items) same))

    settled_from : (merged : List Item) → map features_of merged ≡ map features_of items → (out : List Placed)
        → AllByRecursion IsPutOut out → AllByRecursion (λ p. IsFromStarter rules items p (with_cluster_at merged p)) out
    settled_from merged same [] each = tt
    settled_from merged same (p ∷ out) each =
        let from = item_at items p.place in
        let own : features_of from ≡ features_of p.item = sym (ap features_of each.0.0 ∙ features_once from p.absorbed p.item.codepoint) in
        let item : Item = p.item in (
          settled_once from item (with_cluster_at merged p) p.absorbed each.0.0 each.0.1
              (ap (λ mask. record item { cluster = 0; mask = mask }) (features_at merged items same p.place p.item own)),
          settled_from merged same out each.1,
        )

  -- each item of the recomposed list is what became of its starter
  pub recomposed_by_place : (b : Buffer)
      → AllZip (IsFromStarter rules b.items) (recomposed_items rules b.items) (round_three rules b).items
  recomposed_by_place b =
      let out = recomposed_items rules b.items in
      let merged = (spans_merged_out (absorbed_spans out) b).items in
      zip_map (IsFromStarter rules b.items) (with_cluster_at merged) out
      (settled_from b.items merged (features-spans_merged_out (absorbed_spans out) b) out (each_once b.items))
