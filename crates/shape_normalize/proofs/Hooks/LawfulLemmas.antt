-- What callers of normalising need not prove: hooks that aren't given are lawful, and the run's own preparing prepares.
use Rattle.std.proofs.Common.{◌≡◌, false, List, Option, Some, None, map, get_or, refl}
use Rattle.std.proofs.lemmas.List.Elements.{All-map}
use Rattle.canonical_form.specs.Equivalent.{ComposesSoundly}
use Rattle.shape_common.specs.Face.{FaceMeaning}
use Rattle.shape_items.specs.Items.{Item}
use Rattle.shape_common.specs.Unicode.{UnicodeMeaning, LawfulUnicode}
use Rattle.canonical_form.specs.SplitsFall.{SplitsFall}
use Rattle.shape_items.specs.UnicodeProps.{with_unicode_props}
use Rattle.shape_normalize.specs.CanonicalForm.{HasLawfulHooks}
use Rattle.shape_plan.specs.Plan.{Plan, hooks_of}
use Rattle.shape_items.specs.Prepared.{IsPrepared, IsPreparedItem}
use Rattle.shape_plan.specs.Rules.{used_decompositions, used_compose, used_reorder, rules_of}
use Rattle.shape_plan.specs.Shaper.{ShaperConstants, HookMeaning}
use Rattle.shape_normalize.proofs.Form.PreparedLemmas.{prepared-with_props}

-- without the hooks that split and compose, both are Unicode's, which is lawful
splits-unasked : (unicode : UnicodeMeaning) → LawfulUnicode unicode → (hooks : Option HookMeaning)
    → SplitsFall (used_decompositions unicode false hooks)
splits-unasked unicode lawful None = lawful.splits_fall
splits-unasked unicode lawful (Some hooks) = lawful.splits_fall

composes-unasked : (unicode : UnicodeMeaning) → LawfulUnicode unicode → (hooks : Option HookMeaning)
    → ComposesSoundly (used_decompositions unicode false hooks) (used_compose unicode false hooks)
composes-unasked unicode lawful None = lawful.composes_soundly
composes-unasked unicode lawful (Some hooks) = lawful.composes_soundly

module _ {S P D F : Type 0} (unicode : UnicodeMeaning) (constants : ShaperConstants) (hooks : S → Plan S P D → F → HookMeaning)
    (faces : F → FaceMeaning) (plan : Plan S P D) (face : F) where
  pub lawful-unasked : LawfulUnicode unicode → constants.has_decompose ≡ false → constants.has_compose ≡ false
      → HasLawfulHooks (rules_of unicode constants hooks faces plan face)
  lawful-unasked lawful no_split no_compose = record {
    splits = rw no_split (splits-unasked unicode lawful (hooks_of hooks plan face));
    composes = λ recomposes. rw (no_split, no_compose) (composes-unasked unicode lawful (hooks_of hooks plan face));
  }

  pub reorder-unasked : constants.has_reorder_marks ≡ false
      → used_reorder constants.has_reorder_marks (hooks_of hooks plan face) ≡ None
  reorder-unasked no_reorder = rw no_reorder refl

pub IsPrepared-with_props : (unicode : UnicodeMeaning) → LawfulUnicode unicode → (items : List Item)
    → IsPrepared unicode (map (with_unicode_props unicode) items)
IsPrepared-with_props unicode lawful items =
    All-map (IsPreparedItem unicode) (with_unicode_props unicode) items
    (λ k d within. prepared-with_props unicode lawful (get_or items k d))
