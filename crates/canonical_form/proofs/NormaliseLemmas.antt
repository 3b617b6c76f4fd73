-- Expanding, ordering and recomposing a text: each keeps it equivalent, and the longest expansions lead to canonical
-- form.
use Rattle.std.proofs.Common.{◌≡◌, ℕ, ◌<◌, Bool, true, false, if◌then◌else◌, List, [], ◌∷◌, ◌++◌, Option, None, Some, refl, sym, ap, subst, ◌∙◌, append-nil, ◌↔◌}
use Rattle.std.proofs.lemmas.List.Elements.{All-nil, All-from_recursion}
use Rattle.std.proofs.lemmas.Option.{none-some, cond_some}
use Rattle.std.specs.List.{AllByRecursion}
use Rattle.std.specs.Option.{option_and_then}
use Rattle.canonical_form.specs.Chain.{full, full_text}
use Rattle.canonical_form.specs.Decompositions.{Decompositions}
use Rattle.canonical_form.specs.Laws.{IsWhollySupported, IsDecomposed}
use Rattle.canonical_form.specs.Equivalent.{IsEquivalent, IsCanonical, ComposesSoundly}
use Rattle.canonical_form.specs.Order.{Swaps}
use Rattle.canonical_form.specs.Recompose.{is_blocked, compose_with_glyph, recomposed}
use Rattle.canonical_form.specs.Runs.{AreRunsSettled}
use Rattle.canonical_form.specs.SplitsFall.{SplitsFall}
use Rattle.canonical_form.proofs.Expanding.ChainLemmas.{full-ccc, full-whole}
use Rattle.canonical_form.proofs.Expanding.ChoiceLemmas.{full_text-expanded, expanded-full}
use Rattle.canonical_form.proofs.Lists.EveryLemmas.{append_all}
use Rattle.canonical_form.proofs.EquivalentLemmas.{parts-swaps, canonical_equal}
use Rattle.canonical_form.proofs.Recomposing.RecomposeLemmas.{ComposesLawfully, swaps_composed, recomposed-preserves}
use Rattle.canonical_form.proofs.Ordering.RunLemmas.{AreRunsSettled-swaps, AreRunsSettled-ordered}
use Rattle.canonical_form.proofs.Ordering.SwapLemmas.{◌⟫◌, no_swap, Swaps-sym, all-swaps}

-- every number is a character here
abbrev IsAny : ℕ → Type 0
IsAny c = Unit {0}

all_any : (cs : List ℕ) → AllByRecursion IsAny cs
all_any [] = tt
all_any (c ∷ cs) = (tt, all_any cs)

-- what composes soundly does so if the composed character has a glyph
pub sound_with_glyph : (D : Decompositions) (compose : ℕ → ℕ → Option ℕ) (has_glyph : ℕ → Bool) → ComposesSoundly D compose
    → ComposesSoundly D (compose_with_glyph compose has_glyph)
sound_with_glyph D compose has_glyph sound = record { equivalent = λ a b c e. go a b c (compose a b) refl e }
  where
    go : (a b c : ℕ) → (o : Option ℕ) → compose a b ≡ o → option_and_then (λ c. if has_glyph c then Some c else None) o ≡ Some c
        → IsEquivalent D (c ∷ []) (a ∷ b ∷ [])
    go a b c None found e = absurd (none-some c e)
    go a b c (Some d) found e = sound.equivalent a b c (found ∙ ap Some (cond_some (has_glyph d) d c e).1)

module _ (D : Decompositions) (lawful : SplitsFall D) where
  -- swaps of characters keep a text equivalent
  pub equivalent_from_swaps : (xs ys : List ℕ) → Swaps D.ccc xs ys → IsEquivalent D xs ys
  unfolding full_text
  equivalent_from_swaps xs ys swaps =
      parts-swaps IsAny D.ccc D.ccc (full D) (λ c any mark. full-ccc D lawful c mark) swaps (all_any xs)

  composes_lawfully : (compose : ℕ → ℕ → Option ℕ) → ComposesSoundly D compose → ComposesLawfully IsAny D.ccc D.ccc (full D) compose
  unfolding full_text
  composes_lawfully compose sound = record {
    marks = λ c any mark. full-ccc D lawful c mark;
    items = λ s c d any_s any_c composes. tt;
    composes = λ s c d any_s any_c composes.
        no_swap (sym (append-nil (full D d))) ⟫ sound.equivalent s c d composes
        ⟫ no_swap (ap (λ l. full D s ++ l) (append-nil (full D c)));
  }

  -- so does recomposing, if what composes is equivalent to its parts
  pub equivalent_recomposed : (is_mark : ℕ → Bool) (compose : ℕ → ℕ → Option ℕ) → ComposesSoundly D compose → (xs : List ℕ)
      → IsEquivalent D xs (recomposed D.ccc (is_blocked D.ccc) is_mark compose xs)
  unfolding full_text
  equivalent_recomposed is_mark compose sound xs =
      recomposed-preserves IsAny D.ccc D.ccc (full D) is_mark compose (composes_lawfully compose sound) xs (all_any xs)

  -- a starter and a mark past others that don't block it, and what the two compose to
  pub equivalent_composed : (compose : ℕ → ℕ → Option ℕ) → ComposesSoundly D compose → (s c d : ℕ) (ms rest : List ℕ)
      → is_blocked D.ccc ms c ≡ false → compose s c ≡ Some d → IsEquivalent D (s ∷ ms ++ c ∷ rest) (d ∷ ms ++ rest)
  unfolding full_text
  equivalent_composed compose sound s c d ms rest free composes =
      swaps_composed IsAny D.ccc D.ccc (full D) (λ c. true) compose (composes_lawfully compose sound) s c d ms rest tt tt (all_any ms) free composes

  -- settling the runs of a list with the same Full keeps a text equivalent
  pub equivalent_settled : (limit : ℕ) (text ready new : List ℕ) → full_text D ready ≡ full_text D text
      → AreRunsSettled D.ccc limit [] ready new → IsEquivalent D text new
  equivalent_settled limit text ready new same settled =
      no_swap (sym same) ⟫ equivalent_from_swaps ready new (AreRunsSettled-swaps D.ccc limit [] ready new settled)

  -- and recomposing the result
  pub equivalent_normalised : (is_mark : ℕ → Bool) (compose : ℕ → ℕ → Option ℕ) → ComposesSoundly D compose
      → (limit : ℕ) (text ready new : List ℕ) → full_text D ready ≡ full_text D text → AreRunsSettled D.ccc limit [] ready new
      → IsEquivalent D text (recomposed D.ccc (is_blocked D.ccc) is_mark compose new)
  equivalent_normalised is_mark compose sound limit text ready new same settled =
      equivalent_settled limit text ready new same settled ⟫ equivalent_recomposed is_mark compose sound new

  full_text-splits_nowhere : (text : List ℕ) → AllByRecursion (λ d. D.split d ≡ None) (full_text D text)
  unfolding full_text
  full_text-splits_nowhere [] = tt
  full_text-splits_nowhere (c ∷ text) =
      append_all (λ d. D.split d ≡ None) _ _ (full-whole D lawful c) (full_text-splits_nowhere text)

  module _ (has_glyph is_mark : ℕ → Bool) (limit : ℕ) where
    abbrev Supported : List ℕ → Type 0
    Supported text = IsWhollySupported D has_glyph limit text

    abbrev Settles : List ℕ → List ℕ → Type 0
    Settles text new = IsDecomposed D has_glyph is_mark limit text new

    settled_equivalent : (text new : List ℕ) → Settles text new → IsEquivalent D text new
    settled_equivalent text new settled =
        equivalent_settled limit text _ new (full_text-expanded D lawful has_glyph is_mark (λ with_marks. false) text) settled

    -- then the settled list is canonical
    pub canonical_settled : (text new : List ℕ) → Supported text → Settles text new → IsCanonical D new
    canonical_settled text new supports settled =
        let at = subst (λ l. AreRunsSettled D.ccc limit [] l new)
        (expanded-full D lawful.height_falls has_glyph is_mark text supports.glyphs) settled in
        let swaps = AreRunsSettled-swaps D.ccc limit [] (full_text D text) new at in
        record {
          whole = All-from_recursion (λ d. D.split d ≡ None) new
              (all-swaps (λ d. D.split d ≡ None) swaps (full_text-splits_nowhere text));
          ordered = AreRunsSettled-ordered D.ccc limit [] (full_text D text) new (All-nil (λ x. 0 < D.ccc x)) supports.fits at;
        }

    -- two texts are equivalent exactly when their settled lists are equal
    pub settled_equal_iff : (s new t new' : List ℕ) → Supported s → Supported t → Settles s new → Settles t new'
        → (new ≡ new') ↔ IsEquivalent D s t
    settled_equal_iff s new t new' of_s of_t settled_s settled_t =
        let left = settled_equivalent s new settled_s in
        let right = settled_equivalent t new' settled_t in (
          λ e. left ⟫ no_swap (ap (full_text D) e) ⟫ Swaps-sym right,
          λ swaps.
              canonical_equal D lawful.height_falls new new'
              (canonical_settled s new of_s settled_s) (canonical_settled t new' of_t settled_t)
              (Swaps-sym left ⟫ swaps ⟫ right),
        )

    -- and exactly when what is recomposed of them is equal
    pub recomposed_equal_iff : (compose : ℕ → ℕ → Option ℕ) → ComposesSoundly D compose → (s new t new' : List ℕ) → Supported s
        → Supported t → Settles s new → Settles t new'
        → (recomposed D.ccc (is_blocked D.ccc) is_mark compose new ≡ recomposed D.ccc (is_blocked D.ccc) is_mark compose new')
        ↔ IsEquivalent D s t
    recomposed_equal_iff compose sound s new t new' of_s of_t settled_s settled_t =
        let left = settled_equivalent s new settled_s ⟫ equivalent_recomposed is_mark compose sound new in
        let right = settled_equivalent t new' settled_t ⟫ equivalent_recomposed is_mark compose sound new' in
        let canonical = settled_equal_iff s new t new' of_s of_t settled_s settled_t in (
          λ e. left ⟫ no_swap (ap (full_text D) e) ⟫ Swaps-sym right,
          λ swaps. ap (recomposed D.ccc (is_blocked D.ccc) is_mark compose) (canonical.1 swaps),
        )
