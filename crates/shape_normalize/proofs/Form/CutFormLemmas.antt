-- A text may be cut before an item that is no mark, and its parts normalised each by itself.
use Rattle.std.proofs.Common.{◌≡◌, ℕ, true, false, List, [], ◌∷◌, ◌++◌, map, drop, refl, sym, ◌∙◌, ap, ap₂, subst, inl, inr, append-nil, eq-eqb}
use Rattle.std.proofs.lemmas.Bool.{cases_Bool, or_left}
use Rattle.std.proofs.lemmas.List.Folds.{list_any-append}
use Rattle.std.specs.List.{list_any}
use Rattle.canonical_form.proofs.CutLemmas.{cut}
use Rattle.canonical_form.proofs.Expanding.ExpandedLemmas.{expanded-cut}
use Rattle.canonical_form.proofs.Ordering.RunLemmas.{AreRunsSettled-unique, Swaps-nil, IsSettled-swaps}
use Rattle.shape_items.specs.Buffer.{Buffer}
use Rattle.canonical_form.specs.Expanded.{begins_with_mark}
use Rattle.canonical_form.specs.Expansion.{choice}
use Rattle.shape_items.specs.Items.{Item, char_of, is_mark_item}
use Rattle.canonical_form.specs.Recompose.{is_blocked, compose_with_glyph}
use Rattle.canonical_form.specs.Runs.{AreRunsSettled}
use Rattle.shape_common.specs.Unicode.{UnicodeMeaning, LawfulUnicode, is_mark}
use Rattle.shape_normalize.specs.CanonicalForm.{text_of, CutPremises, recomposed_text}
use Rattle.shape_normalize.specs.Normalized.{ordered, normalized}
use Rattle.shape_normalize.specs.RoundTwo.{max_run, has_mark_past_first}
use Rattle.shape_plan.specs.Rules.{Rules, decompositions, has_glyph}
use Rattle.shape_normalize.proofs.Form.NormalFormLemmas.{IsPlain, IsPlain-premises, mark_past_first_char, choices, normalized_is_ordered, ordered_settles, normalized_is_recomposed}
use Rattle.shape_normalize.proofs.Form.PreparedLemmas.{ArePrepared, unmarked_ccc}
use Rattle.shape_normalize.proofs.RoundOne.RoundOneLemmas.{chars-round_one}

unmarked_text : (unicode : UnicodeMeaning) (items : List Item) → ArePrepared unicode items → begins_with_mark is_mark_item items ≡ false
    → begins_with_mark (is_mark unicode) (map char_of items) ≡ false
unmarked_text unicode [] prepared unmarked = refl
unmarked_text unicode (item ∷ items) prepared unmarked = sym prepared.0.mark ∙ unmarked

-- a mark past the first character of the front is one past the first of the whole
marked_whole : (unicode : UnicodeMeaning) (front back : List ℕ) → list_any (is_mark unicode) (drop 1 front) ≡ true
    → list_any (is_mark unicode) (drop 1 (front ++ back)) ≡ true
marked_whole unicode [] back marked = cc
marked_whole unicode (c ∷ front) back marked =
    list_any-append (is_mark unicode) front back ∙ or_left (list_any (is_mark unicode) front) (list_any (is_mark unicode) back) marked

module _ (rules : Rules) where
  abbrev Settles : List ℕ → List ℕ → Type 0
  Settles old new = AreRunsSettled rules.unicode.ccc max_run [] old new

  module _ (lawful : LawfulUnicode rules.unicode) where
    -- settling and recomposing go part by part, if the second part begins with no mark or is empty
    cut_text : (front back new other : List ℕ) → begins_with_mark (is_mark rules.unicode) back ≡ false → Settles front new
        → Settles back other
        → Settles (front ++ back) (new ++ other)
        × (recomposed_text rules (new ++ other) ≡ recomposed_text rules new ++ recomposed_text rules other)
    cut_text front [] new other unmarked settled_front settled_back =
        let none : other ≡ [] = Swaps-nil rules.unicode.ccc max_run (IsSettled-swaps rules.unicode.ccc max_run [] other settled_back) in (
          rw (none, append-nil front, append-nil new) settled_front,
          rw (none, append-nil new) (sym (append-nil (recomposed_text rules new))),
        )
    cut_text front (c ∷ rest) new other unmarked settled_front settled_back =
        cut rules.unicode.ccc max_run (is_blocked rules.unicode.ccc) (is_mark rules.unicode)
        (compose_with_glyph rules.compose (has_glyph rules.face.nominal_glyph))
        front (c ∷ rest) c rest new other refl unmarked
        (eq-eqb (rules.unicode.ccc c) 0 (unmarked_ccc rules.unicode lawful c unmarked)) settled_front settled_back

    module _ (old front back : Buffer) (premises : CutPremises rules old front back) where
      whole : IsPlain rules old
      whole = IsPlain-premises rules old premises.plain

      of_front : IsPlain rules front
      of_front = IsPlain-premises rules front premises.plain_front

      of_back : IsPlain rules back
      of_back = IsPlain-premises rules back premises.plain_back

      marked : has_mark_past_first old.items ≡ true
      marked =
          mark_past_first_char rules.unicode old.items whole.prepared ∙ ap (λ l. list_any (is_mark rules.unicode) (drop 1 l)) premises.parts
          ∙ marked_whole rules.unicode (text_of front) (text_of back)
          (sym (mark_past_first_char rules.unicode front.items of_front.prepared) ∙ premises.front_marked)

      choices_cut : choices rules (text_of old) ≡ choices rules (text_of front) ++ choices rules (text_of back)
      choices_cut =
          ap (choices rules) premises.parts
          ∙ expanded-cut (is_mark rules.unicode) (λ with_marks.
          choice (decompositions rules) (has_glyph rules.face.nominal_glyph) (rules.short with_marks)) (text_of front)
          (text_of back)
          (unmarked_text rules.unicode back.items of_back.prepared premises.unmarked)

      unmarked_choices : begins_with_mark (is_mark rules.unicode) (choices rules (text_of back)) ≡ false
      unmarked_choices =
          ap (begins_with_mark (is_mark rules.unicode)) (sym (chars-round_one rules back of_back.prepared of_back.no_selector))
          ∙ premises.unmarked_choice

      both : Settles (choices rules (text_of front) ++ choices rules (text_of back))
          (text_of (ordered rules front) ++ text_of (ordered rules back))
          × (recomposed_text rules (text_of (ordered rules front) ++ text_of (ordered rules back))
          ≡ recomposed_text rules (text_of (ordered rules front))
          ++ recomposed_text rules (text_of (ordered rules back)))
      both =
          cut_text (choices rules (text_of front)) (choices rules (text_of back)) (text_of (ordered rules front))
          (text_of (ordered rules back)) unmarked_choices
          (ordered_settles rules lawful front of_front premises.front_marked)
          (ordered_settles rules lawful back of_back premises.back_marked)

      ordered_cuts : text_of (ordered rules old) ≡ text_of (ordered rules front) ++ text_of (ordered rules back)
      ordered_cuts =
          AreRunsSettled-unique rules.unicode.ccc max_run [] (choices rules (text_of old)) (text_of (ordered rules old))
          (text_of (ordered rules front) ++ text_of (ordered rules back))
          (ordered_settles rules lawful old whole marked)
          (subst (λ l. Settles l (text_of (ordered rules front) ++ text_of (ordered rules back))) (sym choices_cut) both.0)

      pub normalized_cuts : text_of (normalized rules old) ≡ text_of (normalized rules front) ++ text_of (normalized rules back)
      normalized_cuts =
          elim (cases_Bool rules.recomposes) [
            | inr leaves ↦ normalized_is_ordered rules old leaves ∙ ordered_cuts
                ∙ sym (ap₂ ◌++◌ (normalized_is_ordered rules front leaves) (normalized_is_ordered rules back leaves))
            | inl composes ↦
                normalized_is_recomposed rules lawful old whole marked composes ∙ ap (recomposed_text rules) ordered_cuts ∙ both.1
                ∙ sym (ap₂ ◌++◌ (normalized_is_recomposed rules lawful front of_front premises.front_marked composes)
                (normalized_is_recomposed rules lawful back of_back premises.back_marked composes))
          ]
