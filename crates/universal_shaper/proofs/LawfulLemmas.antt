-- What the shaper composes is sound, as what Unicode composes is.
use Rattle.std.proofs.Common.{◌≡◌, ℕ, Bool, true, false, Option, Some, None, [], ◌∷◌, refl, ap, sym, ◌∙◌, if◌then◌else◌}
use Rattle.std.specs.Option.{option_map}
use Rattle.canonical_form.specs.Decompositions.{Decompositions}
use Rattle.canonical_form.specs.Equivalent.{IsEquivalent, ComposesSoundly}
use Rattle.canonical_form.specs.SplitsFall.{SplitsFall}
use Rattle.shape_common.specs.Category.{is_mark_category}
use Rattle.shape_common.specs.Unicode.{UnicodeMeaning, LawfulUnicode}
use Rattle.shape_plan.specs.Rules.{used_decompositions, used_compose}
use Rattle.shape_plan.specs.Shaper.{HookMeaning}
use Rattle.universal_shaper.specs.Composing.{compose_letters}

abbrev by_unicode : UnicodeMeaning → Decompositions
by_unicode unicode = record { split = unicode.split; height = unicode.height; ccc = unicode.ccc }

sound : (unicode : UnicodeMeaning) → LawfulUnicode unicode → (mark : Bool) (a b c : ℕ)
    → (if mark then None else unicode.compose a b) ≡ Some c → IsEquivalent (by_unicode unicode) (c ∷ []) (a ∷ b ∷ [])
sound unicode lawful true a b c e = cc
sound unicode lawful false a b c e = lawful.composes_soundly.equivalent a b c e

module _ (unicode : UnicodeMeaning) (lawful : LawfulUnicode unicode) where
  pub splits : (hooks : Option HookMeaning) → SplitsFall (used_decompositions unicode false hooks)
  splits None = lawful.splits_fall
  splits (Some hooks) = lawful.splits_fall

  pub composes : {S : Type 0} (hooks : S → HookMeaning) → ((s : S) → (hooks s).compose ≡ compose_letters unicode) → (shaper : Option S)
      → ComposesSoundly (used_decompositions unicode false (option_map hooks shaper)) (used_compose unicode true (option_map hooks shaper))
  composes hooks own None = lawful.composes_soundly
  composes hooks own (Some s) = record {
    equivalent = λ a b c e. sound unicode lawful (is_mark_category (unicode.category a)) a b c (sym (ap (λ f. f a b) (own s)) ∙ e);
  }
