-- What the shaper of Hebrew composes is sound where its table is.
use Rattle.std.proofs.Common.{◌≡◌, ◌==◌, ◌&&◌, ℕ, Bool, true, false, Option, Some, None, List, [], ◌∷◌, refl, ap, sym, ◌∙◌, subst, arith, if◌then◌else◌}
use Rattle.std.proofs.lemmas.Bool.Decides.{nat_tests}
use Rattle.std.proofs.lemmas.List.Elements.{All-head, All-tail}
use Rattle.std.specs.List.{All, find}
use Rattle.std.specs.Option.{option_map, option_or}
use Rattle.canonical_form.specs.Decompositions.{Decompositions}
use Rattle.canonical_form.specs.Equivalent.{IsEquivalent, ComposesSoundly}
use Rattle.canonical_form.specs.SplitsFall.{SplitsFall}
use Rattle.shape_common.specs.Unicode.{UnicodeMeaning, LawfulUnicode}
use Rattle.shape_plan.specs.Rules.{used_decompositions, used_compose}
use Rattle.shape_plan.specs.Shaper.{HookMeaning}
use Rattle.script_shapers.specs.HebrewForms.{form_unless, FormsAreSound}
use Rattle.script_shapers.specs.declared.hebrew.forms.TheConstants.{FORMS}

abbrev Entry : Type 0
Entry = ℕ × ℕ × ℕ

module _ (D : Decompositions) where
  abbrev Sound : Entry → Type 0
  Sound entry = IsEquivalent D (entry.2 ∷ []) (entry.0 ∷ entry.1 ∷ [])

  listed-sound : (a b c : ℕ) (xs : List Entry) → All Sound xs
      → option_map (λ (entry : Entry). entry.2) (find (λ (entry : Entry). entry.0 == a && entry.1 == b) xs) ≡ Some c
      → IsEquivalent D (c ∷ []) (a ∷ b ∷ [])
  listed-sound a b c [] all e = cc
  listed-sound a b c (x ∷ xs) all e =
      let P : Bool → Type 0 = λ t. (x.0 == a && x.1 == b) ≡ t
      → option_map (λ (entry : Entry). entry.2) (if t then Some x else find (λ (entry : Entry). entry.0 == a && entry.1 == b) xs) ≡ Some c
      → IsEquivalent D (c ∷ []) (a ∷ b ∷ []) in
      let cases : P (x.0 == a && x.1 == b) = elim (x.0 == a && x.1 == b) as P [
        | true ↦ λ is here.
            let first : x.0 ≡ a = grind (arith, nat_tests, is) in
            let second : x.1 ≡ b = grind (arith, nat_tests, is) in
            let third : x.2 ≡ c = cc in
            subst (λ z. IsEquivalent D (z ∷ []) (a ∷ b ∷ [])) third
            (subst (λ y. IsEquivalent D (x.2 ∷ []) (a ∷ y ∷ [])) second
            (subst (λ w. IsEquivalent D (x.2 ∷ []) (w ∷ x.1 ∷ [])) first (All-head Sound x xs all)))
        | false ↦ λ is later. listed-sound a b c xs (All-tail Sound x xs all) later
      ] in
      cases refl e

abbrev by_unicode : UnicodeMeaning → Decompositions
by_unicode unicode = record { split = unicode.split; height = unicode.height; ccc = unicode.ccc }

abbrev pub composed : UnicodeMeaning → Bool → ℕ → ℕ → Option ℕ
composed unicode attaches a b = option_or (unicode.compose a b) (form_unless attaches a b)

composed-sound : (unicode : UnicodeMeaning) → LawfulUnicode unicode → FormsAreSound unicode → (attaches : Bool) (a b c : ℕ)
    → composed unicode attaches a b ≡ Some c → IsEquivalent (by_unicode unicode) (c ∷ []) (a ∷ b ∷ [])
composed-sound unicode lawful sound attaches a b c e = by_first (unicode.compose a b) refl e
  where
    by_table : (attaches : Bool) → form_unless attaches a b ≡ Some c → IsEquivalent (by_unicode unicode) (c ∷ []) (a ∷ b ∷ [])
    by_table true e = cc
    by_table false e = listed-sound (by_unicode unicode) a b c FORMS sound e

    by_first : (o : Option ℕ) → unicode.compose a b ≡ o → option_or o (form_unless attaches a b) ≡ Some c
        → IsEquivalent (by_unicode unicode) (c ∷ []) (a ∷ b ∷ [])
    by_first None is e = by_table attaches e
    by_first (Some d) is e =
        let same : d ≡ c = cc in
        subst (λ z. IsEquivalent (by_unicode unicode) (z ∷ []) (a ∷ b ∷ [])) same (lawful.composes_soundly.equivalent a b d is)

module _ (unicode : UnicodeMeaning) (lawful : LawfulUnicode unicode) (sound : FormsAreSound unicode) (attaches : Bool) where
  pub splits : (hooks : Option HookMeaning) → SplitsFall (used_decompositions unicode false hooks)
  splits None = lawful.splits_fall
  splits (Some hooks) = lawful.splits_fall

  pub composes : (hooks : Option HookMeaning) → ((h : HookMeaning) → hooks ≡ Some h → h.compose ≡ composed unicode attaches)
      → ComposesSoundly (used_decompositions unicode false hooks) (used_compose unicode true hooks)
  composes None is = lawful.composes_soundly
  composes (Some h) is =
      record { equivalent = λ a b c e. composed-sound unicode lawful sound attaches a b c (sym (ap (λ f. f a b) (is h refl)) ∙ e) }

-- what holds of each shaper's hook holds of the one in use
pub by_shaper : {S : Type 0} (hooks : S → HookMeaning) (own : ℕ → ℕ → Option ℕ) → ((s : S) → (hooks s).compose ≡ own) → (shaper : Option S)
    → (h : HookMeaning) → option_map hooks shaper ≡ Some h → h.compose ≡ own
by_shaper hooks own each None h e = cc
by_shaper hooks own each (Some s) h e = let same : hooks s ≡ h = cc in sym (ap (λ (x : HookMeaning). x.compose) same) ∙ each s
