-- The normalised list is equivalent to its text, canonical or recomposed of a canonical one if glyphs and runs allow
-- it, and equal exactly for equivalent texts.
use Rattle.std.proofs.Common.{◌≡◌, ◌↔◌, ℕ, Bool, true, false, List, [], drop, refl, sym, ◌∙◌, ap, subst, inl, inr}
use Rattle.std.proofs.lemmas.Bool.{cases_Bool, both_ways}
use Rattle.std.specs.List.{list_any}
use Rattle.canonical_form.proofs.Expanding.ChoiceLemmas.{full_text-expanded, expanded-full}
use Rattle.canonical_form.proofs.Expanding.ExpandedLemmas.{expanded-plain}
use Rattle.canonical_form.proofs.LawLemmas.{choices_are_equivalent, ordered_is_equivalent, decomposed_is_canonical, decomposed_decides}
use Rattle.canonical_form.proofs.NormaliseLemmas.{sound_with_glyph, equivalent_normalised, recomposed_equal_iff}
use Rattle.shape_items.specs.Buffer.{Buffer}
use Rattle.canonical_form.specs.Chain.{full_text}
use Rattle.canonical_form.specs.Expanded.{expanded_text}
use Rattle.canonical_form.specs.Expansion.{choice}
use Rattle.canonical_form.specs.Laws.{IsDecomposed}
use Rattle.canonical_form.specs.Order.{IsOrdered}
use Rattle.canonical_form.specs.Recompose.{compose_with_glyph}
use Rattle.canonical_form.specs.Runs.{AreRunsSettled}
use Rattle.shape_common.specs.Unicode.{LawfulUnicode, is_mark}
use Rattle.shape_normalize.specs.CanonicalForm.{text_of, AreEquivalent, HasCanonicalForm, IsRecomposedForm, EquivalencePremises, CanonicalFormPremises, NormalizesCanonically, recomposed_text}
use Rattle.shape_normalize.specs.Normalized.{ordered, normalized}
use Rattle.shape_normalize.specs.RoundTwo.{max_run, has_mark_past_first}
use Rattle.shape_plan.specs.Rules.{Rules, decompositions, has_glyph}
use Rattle.shape_normalize.proofs.Form.CutFormLemmas.{normalized_cuts}
use Rattle.shape_normalize.proofs.Form.OrderedFormLemmas.{settled_where_in_order}
use Rattle.shape_normalize.proofs.Form.NormalFormLemmas.{IsPlain, IsPlain-from, choices, mark_past_first_char, normalized_is_ordered}
use Rattle.shape_normalize.proofs.Form.NormalFormLemmas.{ordered_is_choices, normalized_is_choices, normalized_by_characters, IsPlain-premises}
use Rattle.shape_normalize.proofs.Form.NormalFormLemmas.{ordered_settles, normalized_is_recomposed}

module _ (rules : Rules) where
  -- if the mode goes short nowhere, each character is asked for its longest expansion
  choices_are_longest : ((with_marks : Bool) → rules.short with_marks ≡ false) → (text : List ℕ)
      → choices rules text ≡ expanded_text (decompositions rules) (has_glyph rules.face.nominal_glyph) (is_mark rules.unicode)
      (λ with_marks. false) text
  choices_are_longest never text =
      let of : Bool → ℕ → List ℕ = λ short c. choice (decompositions rules) (has_glyph rules.face.nominal_glyph) short c in
      expanded-plain (is_mark rules.unicode) (λ with_marks. of (rules.short with_marks)) (of false)
      (λ with_marks c. ap (λ short. of short c) (never with_marks)) text
      ∙ sym (expanded-plain (is_mark rules.unicode) (λ with_marks. of false) (of false) (λ with_marks c. refl) text)

  plain_of : (b : Buffer) → EquivalencePremises rules b → IsPlain rules b
  plain_of b premises = IsPlain-from rules b premises.prepared premises.text.no_selector premises.text.no_reordering

  module _ (lawful : LawfulUnicode rules.unicode) where
    -- ---- equivalence

    unmarked_is_equivalent : (b : Buffer) → EquivalencePremises rules b → has_mark_past_first b.items ≡ false
        → AreEquivalent rules (text_of b) (text_of (normalized rules b))
    unmarked_is_equivalent b premises unmarked =
        subst (AreEquivalent rules (text_of b)) (sym (normalized_is_choices rules b (plain_of b premises) unmarked))
        (choices_are_equivalent (decompositions rules) premises.text.lawful_hooks.splits (has_glyph rules.face.nominal_glyph)
        (is_mark rules.unicode) rules.short (text_of b))

    ordered_is_equivalent_to_text : (b : Buffer) → EquivalencePremises rules b → has_mark_past_first b.items ≡ true
        → AreEquivalent rules (text_of b) (text_of (ordered rules b))
    ordered_is_equivalent_to_text b premises marked =
        ordered_is_equivalent (decompositions rules) premises.text.lawful_hooks.splits (has_glyph rules.face.nominal_glyph)
        (is_mark rules.unicode) rules.short max_run
        (text_of b) (text_of (ordered rules b)) (ordered_settles rules lawful b (plain_of b premises) marked)

    recomposed_is_equivalent_to_text : (b : Buffer) → EquivalencePremises rules b → has_mark_past_first b.items ≡ true
        → rules.recomposes ≡ true → AreEquivalent rules (text_of b) (text_of (normalized rules b))
    recomposed_is_equivalent_to_text b premises marked composes =
        let plain = plain_of b premises in
        let hooks = premises.text.lawful_hooks in
        subst (AreEquivalent rules (text_of b)) (sym (normalized_is_recomposed rules lawful b plain marked composes))
        (equivalent_normalised (decompositions rules) hooks.splits (is_mark rules.unicode)
        (compose_with_glyph rules.compose (has_glyph rules.face.nominal_glyph))
        (sound_with_glyph (decompositions rules) rules.compose (has_glyph rules.face.nominal_glyph) (hooks.composes composes)) max_run
        (text_of b) (choices rules (text_of b)) (text_of (ordered rules b))
        (full_text-expanded (decompositions rules) hooks.splits (has_glyph rules.face.nominal_glyph)
        (is_mark rules.unicode) rules.short (text_of b))
        (ordered_settles rules lawful b plain marked))

    pub normalized_is_equivalent : (b : Buffer) → EquivalencePremises rules b
        → AreEquivalent rules (text_of b) (text_of (normalized rules b))
    normalized_is_equivalent b premises =
        elim (cases_Bool (has_mark_past_first b.items)) [
          | inr unmarked ↦ unmarked_is_equivalent b premises unmarked
          | inl marked ↦
              elim (cases_Bool rules.recomposes) [
                | inl composes ↦ recomposed_is_equivalent_to_text b premises marked composes
                | inr leaves ↦
                    subst (AreEquivalent rules (text_of b)) (sym (normalized_is_ordered rules b leaves))
                    (ordered_is_equivalent_to_text b premises marked)
              ]
        ]

    -- ---- canonical form

    abbrev IsDecomposedTo : List ℕ → List ℕ → Type 0
    IsDecomposedTo text new =
        IsDecomposed (decompositions rules) (has_glyph rules.face.nominal_glyph) (is_mark rules.unicode) max_run text new

    marked_is_decomposed : (b : Buffer) → CanonicalFormPremises rules b → has_mark_past_first b.items ≡ true
        → IsDecomposedTo (text_of b) (text_of (ordered rules b))
    marked_is_decomposed b premises marked =
        subst (λ l. AreRunsSettled rules.unicode.ccc max_run [] l (text_of (ordered rules b)))
        (choices_are_longest premises.canonical.decomposes_fully (text_of b))
        (ordered_settles rules lawful b (plain_of b premises.equivalence) marked)

    -- without a mark past the first the ordered list is Full, which is in order
    unmarked_is_decomposed : (b : Buffer) → CanonicalFormPremises rules b → has_mark_past_first b.items ≡ false
        → IsOrdered rules.unicode.ccc (full_text (decompositions rules) (text_of b))
        → IsDecomposedTo (text_of b) (text_of (ordered rules b))
    unmarked_is_decomposed b premises unmarked in_order =
        let glyph = has_glyph rules.face.nominal_glyph in
        let longest = expanded_text (decompositions rules) glyph (is_mark rules.unicode) (λ with_marks. false) (text_of b) in
        let whole : longest ≡ full_text (decompositions rules) (text_of b) =
        expanded-full (decompositions rules) premises.equivalence.text.lawful_hooks.splits.height_falls glyph
        (is_mark rules.unicode) (text_of b) premises.canonical.supported.glyphs in
        let is : text_of (ordered rules b) ≡ longest =
        ordered_is_choices rules b (plain_of b premises.equivalence) unmarked
        ∙ choices_are_longest premises.canonical.decomposes_fully (text_of b) in
        subst (IsDecomposedTo (text_of b)) (sym is)
        (settled_where_in_order rules.unicode.ccc max_run longest (subst (IsOrdered rules.unicode.ccc) (sym whole) in_order))

    -- the premise on marks, of the items
    marked_items : (b : Buffer) → CanonicalFormPremises rules b → list_any (is_mark rules.unicode) (drop 1 (text_of b)) ≡ true
        → has_mark_past_first b.items ≡ true
    marked_items b premises marked = mark_past_first_char rules.unicode b.items (plain_of b premises.equivalence).prepared ∙ marked

    -- in a mode that composes, a mark stands past the first
    marked_where_composing : (b : Buffer) → CanonicalFormPremises rules b → rules.recomposes ≡ true
        → has_mark_past_first b.items ≡ true
    marked_where_composing b premises composes =
        elim premises.canonical.in_order [
          | inl marked ↦ marked_items b premises marked
          | inr (leaves, in_order) ↦ absurd (both_ways _ leaves composes)
        ]

    ordered_is_decomposed : (b : Buffer) → CanonicalFormPremises rules b → IsDecomposedTo (text_of b) (text_of (ordered rules b))
    ordered_is_decomposed b premises =
        elim (cases_Bool (has_mark_past_first b.items)) [
          | inl marked ↦ marked_is_decomposed b premises marked
          | inr unmarked ↦
              elim premises.canonical.in_order [
                | inl marked ↦ absurd (both_ways _ unmarked (marked_items b premises marked))
                | inr (leaves, in_order) ↦ unmarked_is_decomposed b premises unmarked in_order
              ]
        ]

    ordered_is_canonical : (b : Buffer) → CanonicalFormPremises rules b → HasCanonicalForm rules (text_of (ordered rules b))
    ordered_is_canonical b premises =
        decomposed_is_canonical (decompositions rules) premises.equivalence.text.lawful_hooks.splits
        (has_glyph rules.face.nominal_glyph) (is_mark rules.unicode) max_run
        (text_of b) (text_of (ordered rules b)) premises.canonical.supported (ordered_is_decomposed b premises)

    text_of-composed : (b : Buffer) → CanonicalFormPremises rules b → rules.recomposes ≡ true
        → text_of (normalized rules b) ≡ recomposed_text rules (text_of (ordered rules b))
    text_of-composed b premises composes =
        normalized_is_recomposed rules lawful b (plain_of b premises.equivalence) (marked_where_composing b premises composes) composes

    pub normalized_is_canonical : (b : Buffer) → rules.recomposes ≡ false → CanonicalFormPremises rules b
        → HasCanonicalForm rules (text_of (normalized rules b))
    normalized_is_canonical b leaves premises =
        subst (HasCanonicalForm rules) (sym (normalized_is_ordered rules b leaves)) (ordered_is_canonical b premises)

    pub normalized_is_recomposed_form : (b : Buffer) → rules.recomposes ≡ true → CanonicalFormPremises rules b
        → IsRecomposedForm rules (text_of b) (text_of (normalized rules b))
    normalized_is_recomposed_form b composes premises =
        let canonical = ordered_is_canonical b premises in
        record {
          canonical = text_of (ordered rules b);
          is_canonical = canonical;
          equivalent = ordered_is_equivalent_to_text b premises.equivalence (marked_where_composing b premises composes);
          is = text_of-composed b premises composes;
        }

    -- ---- comparing texts

    pub normalized_decides : (b c : Buffer) → CanonicalFormPremises rules b → CanonicalFormPremises rules c
        → (text_of (normalized rules b) ≡ text_of (normalized rules c)) ↔ AreEquivalent rules (text_of b) (text_of c)
    normalized_decides b c of_b of_c =
        let hooks = of_b.equivalence.text.lawful_hooks in
        elim (cases_Bool rules.recomposes) [
          | inr leaves ↦
              rw (normalized_is_ordered rules b leaves, normalized_is_ordered rules c leaves)
              (decomposed_decides (decompositions rules) hooks.splits (has_glyph rules.face.nominal_glyph)
              (is_mark rules.unicode) max_run
              (text_of b) (text_of (ordered rules b)) (text_of c) (text_of (ordered rules c))
              of_b.canonical.supported of_c.canonical.supported (ordered_is_decomposed b of_b) (ordered_is_decomposed c of_c))
          | inl composes ↦
              rw (text_of-composed b of_b composes, text_of-composed c of_c composes)
              (recomposed_equal_iff (decompositions rules) hooks.splits (has_glyph rules.face.nominal_glyph)
              (is_mark rules.unicode) max_run
              (compose_with_glyph rules.compose (has_glyph rules.face.nominal_glyph))
              (sound_with_glyph (decompositions rules) rules.compose (has_glyph rules.face.nominal_glyph) (hooks.composes composes))
              (text_of b) (text_of (ordered rules b)) (text_of c) (text_of (ordered rules c))
              of_b.canonical.supported of_c.canonical.supported (ordered_is_decomposed b of_b) (ordered_is_decomposed c of_c))
        ]

    -- what a normalised buffer has of the one that it was made of
    pub NormalizesCanonically-normalized : (old new : Buffer) → new ≡ normalized rules old → NormalizesCanonically rules old new
    NormalizesCanonically-normalized old new is =
        rw is (record {
          equivalent = normalized_is_equivalent old;
          canonical = normalized_is_canonical old;
          recomposed = normalized_is_recomposed_form old;
          decides = λ other. normalized_decides old other;
          by_characters = λ other of_old of_other same.
              normalized_by_characters rules lawful old other (IsPlain-premises rules old of_old)
              (IsPlain-premises rules other of_other) same;
          cuts = λ front back. normalized_cuts rules lawful old front back;
        })
