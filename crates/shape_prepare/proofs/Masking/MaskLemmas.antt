-- Steps of fractions change masks and scratch flags alone.
use Rattle.std.proofs.Common.{◌≡◌, ℕ, ◌+◌, ◌≤◌, true, false, nat_lt, List, [], ◌∷◌, get_or, refl, ap, sym, ◌∙◌, arith, inl, inr}
use Rattle.std.proofs.lemmas.Bool.{cases_Bool}
use Rattle.std.proofs.Math.ListN.{get_or-map}
use Rattle.shape_items.specs.Buffer.{Buffer}
use Rattle.shape_items.specs.BufferClusters.{unsafe_to_break, unsafe_to_concat}
use Rattle.shape_items.specs.Items.{Item}
use Rattle.shape_plan.specs.Shaper.{without_mask}
use Rattle.shape_plan.proofs.MaskLemmas.{MasksAlone, MasksAlone-same, MasksAlone-then, alone-unsafe_to_break, alone-unsafe_to_concat}
use Rattle.shape_prepare.specs.Fractions.{features_added, with_features, is_slash, slash_masked, has_whole, whole_start, whole_end, next_place, slashes_masked, slash_places, fraction_masks, may_have_fractions, fractions_masked}
use Rattle.shape_plan.specs.declared.decisions.Decisions.{Decisions}
use Rattle.shape_prepare.specs.declared.fractions.FractionMasks.{FractionMasks}
use Rattle.shape_items.proofs.Merging.KeyLemmas.{keys-map_range}

pub alone-features_added : (mask start end : ℕ) (b : Buffer) → start ≤ end → MasksAlone b (features_added mask start end b)
unfolding features_added
alone-features_added mask start end b le =
    record { items = keys-map_range without_mask (with_features mask) (λ item. refl) start end b.items le; rest = refl }

-- the two cases of a slash
pub slash_masked-alone : (masks : FractionMasks) (slash : ℕ) (b : Buffer) → has_whole b.items slash ≡ false
    → slash_masked masks slash b ≡ unsafe_to_concat slash (slash + 1) b
unfolding slash_masked
slash_masked-alone masks slash b none = rw none refl

pub slash_masked-whole : (masks : FractionMasks) (slash : ℕ) (b : Buffer) → has_whole b.items slash ≡ true
    → slash_masked masks slash b ≡ features_added masks.after (slash + 1) (whole_end b.items slash)
    (features_added masks.slash slash (slash + 1)
    (features_added masks.before (whole_start b.items slash) slash
    (unsafe_to_break (whole_start b.items slash) (whole_end b.items slash) b)))
unfolding slash_masked
slash_masked-whole masks slash b some = rw some refl

pub alone-slash_masked : (masks : FractionMasks) (slash : ℕ) (b : Buffer) → MasksAlone b (slash_masked masks slash b)
alone-slash_masked masks slash b = elim (cases_Bool (has_whole b.items slash)) [
  | inl some ↦
      let start = whole_start b.items slash in
      let end = whole_end b.items slash in
      rw (slash_masked-whole masks slash b some)
      (MasksAlone-then (alone-unsafe_to_break start end b)
      (MasksAlone-then (alone-features_added masks.before start slash _ (omega arith))
      (MasksAlone-then (alone-features_added masks.slash slash (slash + 1) _ (omega arith))
      (alone-features_added masks.after (slash + 1) end _ (omega arith)))))
  | inr none ↦ rw (slash_masked-alone masks slash b none) (alone-unsafe_to_concat slash (slash + 1) b (omega arith))
]

-- what doesn't depend on the mask stays
pub same_slash : {old new : Buffer} → MasksAlone old new → (i : ℕ) (d : Item)
    → is_slash (get_or new.items i d) ≡ is_slash (get_or old.items i d)
same_slash {old} {new} alone i d =
    ap is_slash (sym (get_or-map without_mask new.items i d) ∙ ap (λ (xs : List Item). get_or xs i (without_mask d)) alone.items
    ∙ get_or-map without_mask old.items i d)

pub alone-slashes_masked : (masks : FractionMasks) (next : ℕ) (slashes : List ℕ) (b : Buffer)
    → MasksAlone b (slashes_masked masks next slashes b)
alone-slashes_masked masks next [] b = MasksAlone-same b
alone-slashes_masked masks next (slash ∷ slashes) b = elim (cases_Bool (nat_lt slash next)) [
  | inl passed ↦ rw passed (alone-slashes_masked masks next slashes b)
  | inr reached ↦ rw reached (MasksAlone-then (alone-slash_masked masks slash b)
      (alone-slashes_masked masks (next_place b.items slash) slashes (slash_masked masks slash b)))
]

pub alone-fractions_masked : (decisions : Decisions) (b : Buffer) → MasksAlone b (fractions_masked decisions b)
unfolding fractions_masked
alone-fractions_masked decisions b = elim (cases_Bool (may_have_fractions decisions b)) [
  | inl due ↦ rw due (alone-slashes_masked (fraction_masks decisions b.direction) 0 (slash_places 0 b.items) b)
  | inr not_due ↦ rw not_due (MasksAlone-same b)
]
