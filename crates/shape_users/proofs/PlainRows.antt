-- The rows of what a caller knows of glyphs and of a string's text.
use Rattle.std.proofs.Common.{◌≡◌, ◌∙◌, ◌⊎◌, ℕ, zero, suc, ◌+◌, ◌<◌, ◌≤◌, List, [], ◌∷◌, ◌++◌, length, get_or, Some, None, Option, is_some, true, false, inl, inr, refl, sym, ap, subst, arith}
use Rattle.std.specs.Prelude.{Contains}
use Rattle.std.specs.List.Sorted.{IsNonDecreasing}
use Rattle.std.specs.Str.{chars}
use Rattle.shape_items.specs.Buffer.{Buffer, limit_of}
use Rattle.shape_items.specs.Clusters.{clusters}
use Rattle.shape_items.specs.Items.{Item, new_item}
use Rattle.shape_buffer.specs.Outcome.{Step, run_steps}
use Rattle.shape_common.specs.Unicode.{UnicodeMeaning}
use Rattle.shape_common.specs.declared.text_types.Direction.TheVariants.{Invalid, LeftToRight}
use Rattle.shape_common.specs.Face.{FaceMeaning}
use Rattle.shape_common.specs.declared.flags.BufferFlags.{BufferFlags}
use Rattle.shape_common.specs.declared.text_types.GlyphId.{GlyphId}
use Rattle.shape_lines.specs.Worked.CanCut.{in_clusters}
use Rattle.shape_plan.specs.Rules.{has_glyph}
use Rattle.shape_plan.specs.Run.{Run}
use Rattle.shape_users.specs.PlainGlyphs.{AreOfText, HaveGlyphs, OneStep, SomeStepPasses}
use Rattle.shape_pipeline.specs.Strings.{IsPlaceIn, IsTextOf, string_text}
use Rattle.shape_users.specs.Worked.Plain.{ClustersOfTexts, HasOneOfTwo, CharactersWithGlyphs, begun_text, HasSteps, FirstPasses, SecondPasses}
use Rattle.shape_users.specs.Worked.Plain.{FirstKeeps, SecondKeeps, StepsOfRuns, WhatIsLeft, euro_string, euro_text, PlacesOfStrings, TextsOfStrings}
use Rattle.shape_users.specs.Worked.Plain.{RunsOfStrings, GlyphsOfStrings, WorkedPlain}

-- ---- clusters and characters

-- what holds of three numbers holds of each in their list
each_of_three : (P : ℕ → Type 0) (a b c : ℕ) → P a → P b → P c → (k : ℕ) → Contains (a ∷ b ∷ c ∷ []) k → P k
each_of_three P a b c first second third k (zero, lt, e) = subst P e first
each_of_three P a b c first second third k (suc zero, lt, e) = subst P e second
each_of_three P a b c first second third k (suc (suc zero), lt, e) = subst P e third
each_of_three P a b c first second third k (suc (suc (suc i)), lt, e) = absurd (omega arith)

no_other_of_two : (k : ℕ) → Contains (0 ∷ 2 ∷ []) k → (k ≡ 0) ⊎ (k ≡ 2)
no_other_of_two k (zero, lt, e) = inl (sym e)
no_other_of_two k (suc zero, lt, e) = inr (sym e)
no_other_of_two k (suc (suc i), lt, e) = absurd (omega arith)

of_two : (glyphs : List ℕ) (k : ℕ) → AreOfText (in_clusters (0 ∷ 2 ∷ [])) (in_clusters glyphs) → Contains (clusters (in_clusters glyphs)) k
    → (k ≡ 0) ⊎ (k ≡ 2)
of_two glyphs k are there = no_other_of_two k (are k there)

pub between_two : AreOfText (in_clusters (0 ∷ 2 ∷ [])) (in_clusters (0 ∷ 1 ∷ [])) → ⊥
between_two are = elim (of_two (0 ∷ 1 ∷ []) 1 are (1, omega arith, refl)) [
  | inl e ↦ omega (arith, e)
  | inr e ↦ omega (arith, e)
]

past_all : AreOfText (in_clusters (0 ∷ 2 ∷ [])) (in_clusters (2 ∷ 3 ∷ [])) → ⊥
past_all are = elim (of_two (2 ∷ 3 ∷ []) 3 are (1, omega arith, refl)) [
  | inl e ↦ omega (arith, e)
  | inr e ↦ omega (arith, e)
]

of_no_text : AreOfText [] (in_clusters (0 ∷ [])) → ⊥
of_no_text are = let there = are 0 (0, omega arith, refl) in absurd (omega (arith, there.1))

clusters_of_texts : ClustersOfTexts
clusters_of_texts = record {
  some_of_them = each_of_three (Contains (0 ∷ 2 ∷ 5 ∷ [])) 5 0 5 (2, omega arith, refl) (0, omega arith, refl) (2, omega arith, refl);
  no_glyphs = λ k there. absurd (omega (arith, there.1));
  between_two = between_two;
  past_all = past_all;
  of_no_text = of_no_text;
}

module _ (face : FaceMeaning) (has : HasOneOfTwo face) where
  first_has : has_glyph face.nominal_glyph 0x61 ≡ true
  first_has = ap is_some has.first

  second_has : has_glyph face.nominal_glyph 0x62 ≡ false
  second_has = ap is_some has.second

  brought_in : HaveGlyphs face [] (0x61 ∷ 0x61 ∷ [])
  brought_in zero d lt = inl first_has
  brought_in (suc zero) d lt = inl first_has
  brought_in (suc (suc i)) d lt = absurd (omega arith)

  in_the_text : HaveGlyphs face (0x63 ∷ 0x62 ∷ []) (0x61 ∷ 0x62 ∷ [])
  in_the_text zero d lt = inl first_has
  in_the_text (suc zero) d lt = inr (1, omega arith, refl)
  in_the_text (suc (suc i)) d lt = absurd (omega arith)

  no_second : {A : Type 0} → has_glyph face.nominal_glyph 0x62 ≡ true → A
  no_second is = absurd (let e : false ≡ true = sym second_has ∙ is in cc)

  without_glyph : HaveGlyphs face [] (0x61 ∷ 0x62 ∷ []) → ⊥
  without_glyph have = elim (have 1 0 (omega arith)) [
    | inl is ↦ no_second is
    | inr there ↦ absurd (omega (arith, there.1))
  ]

  not_there : Contains {X = ℕ} (0x61 ∷ 0x63 ∷ []) 0x62 → ⊥
  not_there (zero, lt, e) = let no : 0x61 ≡ 0x62 = e in omega (arith, no)
  not_there (suc zero, lt, e) = let no : 0x63 ≡ 0x62 = e in omega (arith, no)
  not_there (suc (suc i), lt, e) = absurd (omega arith)

  beside_the_text : HaveGlyphs face (0x61 ∷ 0x63 ∷ []) (0x62 ∷ []) → ⊥
  beside_the_text have = elim (have 0 0 (omega arith)) [
    | inl is ↦ no_second is
    | inr there ↦ not_there there
  ]

  pub characters_with_glyphs : CharactersWithGlyphs face
  characters_with_glyphs = record {
    brought_in = brought_in;
    in_the_text = in_the_text;
    no_characters = λ k d lt. absurd (omega arith);
    without_glyph = without_glyph;
    beside_the_text = beside_the_text;
  }

-- ---- steps

module _ (run : Run) (text : Buffer) where
  abbrev first_of : (one two : Step) → HasSteps run text (one ∷ two ∷ []) → OneStep run text
  first_of one two has = record { before = []; one = one; behind = two ∷ []; of_run = has }

  abbrev second_of : (one two : Step) → HasSteps run text (one ∷ two ∷ []) → OneStep run text
  second_of one two has = record { before = one ∷ []; one = two; behind = []; of_run = has }

  -- a step of two is the one or the other
  which : (one two : Step) (before : List Step) (at : Step) (behind : List Step)
      → (before ++ (at ∷ behind)) ≡ (one ∷ two ∷ [])
      → limit_of (run_steps before (begun_text run text)) < at.counts (run_steps before (begun_text run text))
      → FirstPasses run text one ⊎ SecondPasses run text one two
  which one two [] at behind is past =
      let same : at ≡ one = ap (λ (steps : List Step). get_or steps 0 at) is in
      inl (subst (λ (step : Step). limit_of (begun_text run text) < step.counts (begun_text run text)) same past)
  which one two (first ∷ []) at behind is past =
      let same : first ≡ one = ap (λ (steps : List Step). get_or steps 0 first) is in
      let next : at ≡ two = ap (λ (steps : List Step). get_or steps 1 at) is in
      inr (subst (λ (step : Step). limit_of (one.makes (begun_text run text)) < step.counts (one.makes (begun_text run text))) next
      (subst (λ (step : Step). limit_of (step.makes (begun_text run text)) < at.counts (step.makes (begun_text run text))) same past))
  which one two (first ∷ second ∷ []) at behind is past =
      let e : suc (suc (suc (length behind))) ≡ 2 = ap length is in absurd (omega (arith, e))
  which one two (first ∷ second ∷ third ∷ before) at behind is past =
      let e : suc (suc (suc (length (before ++ (at ∷ behind))))) ≡ 2 = ap length is in absurd (omega (arith, e))

  -- a step of two that keep the limit keeps it
  keeps : (one two : Step) → FirstKeeps run text one → SecondKeeps run text one two → (before : List Step) (at : Step) (behind : List Step)
      → (before ++ (at ∷ behind)) ≡ (one ∷ two ∷ [])
      → at.counts (run_steps before (begun_text run text)) ≤ limit_of (run_steps before (begun_text run text))
  keeps one two first_keeps second_keeps [] at behind is =
      let same : one ≡ at = sym (ap (λ (steps : List Step). get_or steps 0 at) is) in
      subst (λ (step : Step). step.counts (begun_text run text) ≤ limit_of (begun_text run text)) same first_keeps
  keeps one two first_keeps second_keeps (first ∷ []) at behind is =
      let same : one ≡ first = sym (ap (λ (steps : List Step). get_or steps 0 first) is) in
      let next : two ≡ at = sym (ap (λ (steps : List Step). get_or steps 1 at) is) in
      subst (λ (step : Step). at.counts (step.makes (begun_text run text)) ≤ limit_of (step.makes (begun_text run text))) same
      (subst (λ (step : Step). step.counts (one.makes (begun_text run text)) ≤ limit_of (one.makes (begun_text run text))) next second_keeps)
  keeps one two first_keeps second_keeps (first ∷ second ∷ []) at behind is =
      let e : suc (suc (suc (length behind))) ≡ 2 = ap length is in absurd (omega (arith, e))
  keeps one two first_keeps second_keeps (first ∷ second ∷ third ∷ before) at behind is =
      let e : suc (suc (suc (length (before ++ (at ∷ behind))))) ≡ 2 = ap length is in absurd (omega (arith, e))

  both_within : (one two : Step) → HasSteps run text (one ∷ two ∷ []) → SomeStepPasses run text
      → FirstPasses run text one ⊎ SecondPasses run text one two
  both_within one two has some = which one two some.at.before some.at.one some.at.behind (sym some.at.of_run ∙ has) some.past

  nothing : (before : List Step) (at : Step) (behind : List Step) → (before ++ (at ∷ behind)) ≡ [] → ⊥
  nothing [] at behind is = let e : suc (length behind) ≡ 0 = ap length is in omega (arith, e)
  nothing (first ∷ before) at behind is = let e : suc (length (before ++ (at ∷ behind))) ≡ 0 = ap length is in omega (arith, e)

  steps_of_runs : StepsOfRuns run text
  steps_of_runs = record {
    first_within = λ one two has none past. let within = none (first_of one two has) in omega (arith, within, past);
    second_within = λ one two has none past. let within = none (second_of one two has) in omega (arith, within, past);
    both_within = both_within;
    first_passes = λ one two has past. record { at = first_of one two has; past = past };
    second_passes = λ one two has past. record { at = second_of one two has; past = past };
    no_steps = λ has some. nothing some.at.before some.at.one some.at.behind (sym some.at.of_run ∙ has);
    up_to_the_limit = λ one two has first second at. keeps one two first second at.before at.one at.behind (sym at.of_run ∙ has);
    not_both = λ none some. let within = none some.at in let past = some.past in omega (arith, within, past);
  }

-- ---- what is left of a text

abbrev number_of : Option GlyphId → ℕ
number_of None = 0
number_of (Some glyph) = glyph.0

what_is_left : WhatIsLeft
what_is_left = record {
  settings = record { items = refl; positions = refl; flags = refl; level = refl; invisible = refl; not_found = refl };
  an_item = λ is. let e : 1 ≡ 0 = ap length is.items in omega (arith, e);
  a_position = λ is. let e : 1 ≡ 0 = ap length is.positions in omega (arith, e);
  other_flags = λ is. let e : 2 ≡ 66 = ap (λ (f : BufferFlags). f.0) is.flags in omega (arith, e);
  other_level = λ is. let e = is.level in absurd cc;
  no_invisible_glyph = λ is. let e : false ≡ true = ap is_some is.invisible in absurd cc;
  other_glyph_of_selectors = λ is. let e : 3 ≡ 4 = ap number_of is.not_found in omega (arith, e);
}

-- ---- strings

place : (bytes : List ℕ) (k : ℕ) → k < length bytes → get_or bytes k 0 < 128 → IsPlaceIn bytes k
place bytes k within plain = record { within = within; boundary = (omega arith, λ _ lead. omega (arith, lead, plain)) }

places_of_strings : PlacesOfStrings
places_of_strings = record {
  first = place euro_string 0 (omega arith) (omega arith);
  of_three_bytes = record { within = omega arith; boundary = (omega arith, λ _ _. omega arith) };
  last = place euro_string 4 (omega arith) (omega arith);
  second_byte = λ is. let lead : 192 ≤ 0x82 = is.boundary.1 (omega arith) (omega arith) in omega (arith, lead);
  third_byte = λ is. let lead : 192 ≤ 0xAC = is.boundary.1 (omega arith) (omega arith) in omega (arith, lead);
  at_the_end = λ is. let below : 5 < 5 = is.within in omega (arith, below);
  in_nothing = λ is. let below : 0 < 0 = is.within in omega (arith, below);
}

rises : (k : ℕ) → IsNonDecreasing (0 ∷ 1 ∷ 4 ∷ [])
rises k zero zero d le lt = omega arith
rises k zero (suc zero) d le lt = omega arith
rises k zero (suc (suc zero)) d le lt = omega arith
rises k (suc zero) (suc zero) d le lt = omega arith
rises k (suc zero) (suc (suc zero)) d le lt = omega arith
rises k (suc (suc zero)) (suc (suc zero)) d le lt = omega arith
rises k i (suc (suc (suc j))) d le lt = absurd (omega arith)
rises k (suc i) zero d le lt = absurd (omega arith)
rises k (suc (suc i)) (suc zero) d le lt = absurd (omega arith)
rises k (suc (suc (suc i))) (suc (suc zero)) d le lt = absurd (omega arith)

whole : IsTextOf euro_string euro_text
unfolding chars
whole = record {
  items = refl;
  rest = refl;
  rising = rises 0;
  places = each_of_three (IsPlaceIn euro_string) 0 1 4 places_of_strings.first places_of_strings.of_three_bytes places_of_strings.last;
}

by_number : IsTextOf (0xC3 ∷ 0xA9 ∷ 0x62 ∷ []) (record euro_text { items = new_item 0xE9 0 ∷ new_item 0x62 1 ∷ [] }) → ⊥
unfolding chars
by_number is =
    let e : 1 ≡ 2 = ap (λ (items : List Item). get_or (clusters items) 1 0) is.items in
    omega (arith, e)

one_less : IsTextOf euro_string (record euro_text { items = new_item 0x61 0 ∷ new_item 0x20AC 1 ∷ [] }) → ⊥
unfolding chars
one_less is = let e : 2 ≡ 3 = ap length is.items in omega (arith, e)

texts_of_strings : TextsOfStrings
unfolding chars
texts_of_strings = record {
  whole = whole;
  none = record {
    items = refl;
    rest = refl;
    rising = λ i j d le lt. absurd (omega arith);
    places = λ k there. absurd (omega (arith, there.1));
  };
  clusters_rise = λ bytes text is. is.rising;
  clusters_are_places = λ bytes text k is. is.places k;
  one_less = one_less;
  by_number = by_number;
  with_direction = λ is. let e = ap (λ (b : Buffer). b.direction) is.rest in absurd cc;
  with_level = λ is. let e = ap (λ (b : Buffer). b.cluster_level) is.rest in absurd cc;
  with_flags = λ is. let e : 64 ≡ 0 = ap (λ (b : Buffer). b.flags.0) is.rest in omega (arith, e);
  with_limit = λ is. let e : true ≡ false = ap (λ (b : Buffer). is_some b.length_limit) is.rest in absurd cc;
  with_script = λ is. let e : true ≡ false = ap (λ (b : Buffer). is_some b.script) is.rest in absurd cc;
  with_language = λ is. let e : true ≡ false = ap (λ (b : Buffer). is_some b.language) is.rest in absurd cc;
  with_text_before = λ is. let e : 1 ≡ 0 = ap (λ (b : Buffer). length b.pre_context) is.rest in omega (arith, e);
  with_text_after = λ is. let e : 1 ≡ 0 = ap (λ (b : Buffer). length b.post_context) is.rest in omega (arith, e);
}

runs_of_strings : (run : Run) → RunsOfStrings run
unfolding chars string_text
runs_of_strings run = record {
  text = refl;
  shaped = λ glyphs are. are.counted;
  one_list = λ first second are too. are.glyphs ∙ sym too.glyphs;
  other_direction = λ glyphs other are. other are.direction;
  passes = λ passes. passes;
  passes_alone = λ passes. passes;
}

glyphs_of_strings : (unicode : UnicodeMeaning) → GlyphsOfStrings unicode
unfolding chars
glyphs_of_strings unicode = record {
  none = record {
    direction = refl;
    places = λ k there. absurd (omega (arith, there.1));
    ordered = λ i j d le lt. absurd (omega arith);
    one_set = tt;
    concat = refl;
    few = λ few. omega arith;
    many = λ many. omega arith;
  };
  other_direction = λ are. let e : Invalid ≡ LeftToRight = are.direction in absurd cc;
  second_byte = λ glyphs items are. places_of_strings.second_byte
      (are.places 2 (subst (λ (items : List Item). Contains (clusters items) 2) (sym items) (0, omega arith, refl)));
}

pub worked_plain : WorkedPlain
worked_plain = record {
  clusters = clusters_of_texts;
  characters = characters_with_glyphs;
  steps = steps_of_runs;
  left = what_is_left;
  places = places_of_strings;
  texts = texts_of_strings;
  runs = runs_of_strings;
  glyphs = glyphs_of_strings;
}
