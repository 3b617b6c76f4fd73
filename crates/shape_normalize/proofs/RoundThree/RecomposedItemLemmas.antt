-- The items of a recomposed list: each is one of the list or the starter of a composition, and there are no more of
-- them.
use Rattle.std.proofs.Common.{◌≡◌, ℕ, suc, ◌≤◌, Bool, true, if◌then◌else◌, List, [], ◌∷◌, map, length, Option, Some, None, sym, subst, ◌∙◌, arith, inl, inr}
use Rattle.std.specs.List.{AllByRecursion}
use Rattle.std.specs.Option.{option_and_then}
use Rattle.std.proofs.lemmas.Bool.{cases_Bool, cond-true, cond-false}
use Rattle.std.proofs.lemmas.List.{length-map}
use Rattle.shape_items.specs.Buffer.{Buffer}
use Rattle.shape_items.specs.Items.{Item}
use Rattle.canonical_form.specs.Recompose.{is_blocked}
use Rattle.canonical_form.proofs.Recomposing.RecomposeLemmas.{recomposed-all}
use Rattle.shape_plan.specs.Rules.{Rules, has_glyph}
use Rattle.shape_normalize.specs.Recast.{recast_to}
use Rattle.shape_normalize.proofs.RoundThree.RoundThreePlaceLemmas.{absorbed_is, length-recomposed}
use Rattle.shape_items.specs.Spans.{spans_merged_out}
use Rattle.shape_normalize.specs.RoundThree.{Placed, placed, ccc_of_placed, is_mark_placed, compose_placed, recomposed_items, absorbed_spans, with_cluster_at, round_three}

pub glyph_of_composed : (has : ℕ → Bool) (o : Option ℕ) (c : ℕ) → option_and_then (λ c. if has c then Some c else None) o ≡ Some c
    → has c ≡ true
glyph_of_composed has None c is = absurd (cc)
glyph_of_composed has (Some d) c is =
    elim (cases_Bool (has d)) [
      | inl has_one ↦ let same : Some d ≡ Some c = sym (cond-true _ (Some d) None has_one)
          ∙ is in let d_is : d ≡ c = cc in rw (← d_is) has_one
      | inr has_none ↦ let none : None ≡ Some c = sym (cond-false _ (Some d) None has_none) ∙ is in absurd (cc)
    ]

-- what holds of each item, and with a starter also of what that becomes, holds of each item that is emitted, before it
-- takes the cluster and the mask at its place
module _ (rules : Rules) (P : Item → Type 0) (composes : (item : Item) (c : ℕ) → has_glyph rules.face.nominal_glyph c ≡ true → P item
    → P (recast_to rules.unicode rules.face.nominal_glyph item c)) where
  each_placed : (place : ℕ) (items : List Item) → AllByRecursion P items → AllByRecursion (λ (p : Placed). P p.item) (placed place items)
  each_placed place [] each = tt
  each_placed place (item ∷ items) each = (each.0, each_placed (suc place) items each.1)

  each_composed : (starter mark made : Placed) → P starter.item → P mark.item → compose_placed rules starter mark ≡ Some made → P made.item
  each_composed starter mark made of_starter of_mark is =
      let at = absorbed_is rules starter mark made is in
      subst (λ (p : Placed). P p.item) (sym at.2)
      (composes starter.item at.0 (glyph_of_composed (has_glyph rules.face.nominal_glyph)
      (rules.compose starter.item.codepoint mark.item.codepoint) at.0 at.1) of_starter)

  pub each_recomposed : (items : List Item) → AllByRecursion P items
      → AllByRecursion (λ (p : Placed). P p.item) (recomposed_items rules items)
  each_recomposed items each =
      recomposed-all ccc_of_placed (is_blocked ccc_of_placed) is_mark_placed (compose_placed rules)
      (λ (p : Placed). P p.item) each_composed (placed 0 items) (each_placed 0 items each)

-- what holds of an item whatever its cluster and its mask, and with a starter also of what that becomes, holds of each
-- item that is emitted
module _ (rules : Rules) (P : Item → Type 0)
    (anywhere : (item : Item) (cluster mask : ℕ) → P item → P (record item { cluster = cluster; mask = mask }))
    (composes : (item : Item) (c : ℕ) → has_glyph rules.face.nominal_glyph c ≡ true → P item
    → P (recast_to rules.unicode rules.face.nominal_glyph item c)) where
  each_put_out : (items : List Item) (out : List Placed) → AllByRecursion (λ (p : Placed). P p.item) out
      → AllByRecursion P (map (with_cluster_at items) out)
  each_put_out items [] each = tt
  each_put_out items (p ∷ out) each = (anywhere p.item _ _ each.0, each_put_out items out each.1)

  pub round_three_all : (b : Buffer) → AllByRecursion P b.items → AllByRecursion P (round_three rules b).items
  round_three_all b each =
      let out = recomposed_items rules b.items in
      each_put_out (spans_merged_out (absorbed_spans out) b).items out (each_recomposed rules P composes b.items each)

-- there are no more of them than there were
pub length-round_three : (rules : Rules) (b : Buffer) → length (round_three rules b).items ≤ length b.items
length-round_three rules b =
    let out = recomposed_items rules b.items in
    omega (arith, length-map out (with_cluster_at (spans_merged_out (absorbed_spans out) b).items), length-recomposed rules b.items)
