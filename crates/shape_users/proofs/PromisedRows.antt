-- The rows of what a caller knows of the glyphs of a text.
use Rattle.std.proofs.Common.{◌≡◌, ◌∙◌, ◌≤◌, ℕ, zero, suc, true, false, List, [], ◌∷◌, inl, inr, refl, sym, subst, arith}
use Rattle.std.specs.Prelude.{Contains}
use Rattle.std.specs.List.Sorted.{IsNonDecreasing}
use Rattle.shape_items.specs.Buffer.{Buffer}
use Rattle.shape_items.specs.ClusterOrder.{IsNonIncreasing}
use Rattle.shape_common.specs.declared.text_types.BufferClusterLevel.TheVariants.{MonotoneGraphemes, Characters}
use Rattle.shape_common.specs.declared.text_types.Direction.TheVariants.{Invalid, LeftToRight, RightToLeft}
use Rattle.shape_pipeline.specs.Canonical.{prepared_characters, normalised_characters}
use Rattle.shape_plan.specs.Run.{Run}
use Rattle.shape_users.specs.PlainGlyphs.{HaveGlyphs}
use Rattle.shape_users.specs.Worked.Promised.{GlyphsOfLetters, OrderOfGlyphs, FormOfTexts, WorkedPromises}
use Rattle.shape_users.proofs.PlainRows.{between_two}

glyphs_of_letters : GlyphsOfLetters
glyphs_of_letters = record {
  two_glyphs = record {
    direction = λ told. refl;
    one_set = ((λ same. refl), tt);
    concat = λ unasked. refl;
    few = λ few. omega arith;
    many = λ many. omega arith;
  };
  other_direction = λ are. let e : RightToLeft ≡ LeftToRight = are.direction (λ is. let no : LeftToRight ≡ Invalid = is in cc) in absurd cc;
  any_direction = record {
    direction = λ told. absurd (told refl);
    one_set = tt;
    concat = λ unasked. refl;
    few = λ few. omega arith;
    many = λ many. omega arith;
  };
  half_unsafe = λ are. let e : 1 ≡ 0 = are.one_set.0 refl in omega (arith, e);
  unasked = λ are. let e : true ≡ false = are.concat refl in absurd cc;
  asked = record {
    direction = λ told. refl;
    one_set = tt;
    concat = λ unasked. absurd (let e : true ≡ false = unasked in cc);
    few = λ few. omega arith;
    many = λ many. omega arith;
  };
  of_256 = λ text glyphs is are. are.few (omega (arith, is));
  of_257 = λ text glyphs is are. let le = are.many (omega (arith, is)) in omega (arith, is, le);
  as_many_as_that = λ text glyphs is count same one_set none. record {
    direction = λ told. same;
    one_set = one_set;
    concat = λ unasked. none;
    few = λ few. absurd (omega (arith, is, few));
    many = λ many. omega (arith, is, count);
  };
}

two_rise : IsNonDecreasing (0 ∷ 2 ∷ [])
two_rise zero zero d le lt = omega arith
two_rise zero (suc zero) d le lt = omega arith
two_rise (suc zero) (suc zero) d le lt = omega arith
two_rise (suc i) zero d le lt = absurd (omega arith)
two_rise (suc (suc i)) (suc zero) d le lt = absurd (omega arith)
two_rise i (suc (suc j)) d le lt = absurd (omega arith)

two_fall : IsNonIncreasing (2 ∷ 0 ∷ [])
two_fall zero zero d le lt = omega arith
two_fall zero (suc zero) d le lt = omega arith
two_fall (suc zero) (suc zero) d le lt = omega arith
two_fall (suc i) zero d le lt = absurd (omega arith)
two_fall (suc (suc i)) (suc zero) d le lt = absurd (omega arith)
two_fall i (suc (suc j)) d le lt = absurd (omega arith)

swapped : (k : ℕ) → Contains (2 ∷ 0 ∷ []) k → Contains (0 ∷ 2 ∷ []) k
swapped k (zero, lt, e) = (1, omega arith, e)
swapped k (suc zero, lt, e) = (0, omega arith, e)
swapped k (suc (suc i), lt, e) = absurd (omega arith)

order_of_glyphs : (run : Run) → OrderOfGlyphs run
order_of_glyphs run = record {
  to_the_right = record {
    of_text = λ k there. there;
    of_firsts = λ level. let e : Characters ≡ MonotoneGraphemes = level in absurd cc;
    ordered = two_rise;
  };
  to_the_left = record {
    of_text = swapped;
    of_firsts = λ level. let e : Characters ≡ MonotoneGraphemes = level in absurd cc;
    ordered = two_fall;
  };
  falling = λ stand. let le : 2 ≤ 0 = stand.ordered 0 1 0 (omega arith) (omega arith) in omega (arith, le);
  rising = λ stand. let le : 2 ≤ 0 = stand.ordered 0 1 0 (omega arith) (omega arith) in omega (arith, le);
  between = λ stand. between_two stand.of_text;
  of_firsts = λ text glyphs k level stand there. stand.of_firsts level k there;
}

form_of_texts : (run : Run) (text : Buffer) → FormOfTexts run text
form_of_texts run text = record {
  without_glyph = λ c form is none.
      let Have : List ℕ → Type 0 = λ cs. HaveGlyphs run.rules.face (prepared_characters run text) cs in
      elim (subst Have is form.brought_in 0 0 (omega arith)) [
        | inl has ↦ absurd (let e : true ≡ false = sym has ∙ none in cc)
        | inr there ↦ there
      ];
  equivalent = λ form plain. form.equivalent plain;
  other_text = λ other form asked asked_too apart same. apart ((form.decided other asked asked_too).0 same);
  other_spelling = λ other form asked asked_too alike. (form.decided other asked asked_too).1 alike;
}

pub worked_promises : WorkedPromises
worked_promises = record { letters = glyphs_of_letters; order = order_of_glyphs; form = form_of_texts }
