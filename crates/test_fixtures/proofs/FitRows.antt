-- The rows of decisions, and of texts that a plan fits.
use Rattle.std.proofs.Common.{◌≡◌, ℕ, true, false, refl, ap, arith}
use Rattle.shape_common.specs.declared.text_types.Script.{Script}
use Rattle.test_fixtures.specs.Worked.Fits.{MasksOfPlans, TablesOfPlans, TextsOfPlans, WorkedFits}

masks_of_plans : MasksOfPlans
masks_of_plans = record {
  free = record { frac = refl; numr = refl; dnom = refl; rtlm = refl; kern = refl; trak = refl };
  frac = λ are. let e : 1 ≡ 0 = are.frac in omega (arith, e);
  numr = λ are. let e : 2 ≡ 0 = are.numr in omega (arith, e);
  dnom = λ are. let e : 4 ≡ 0 = are.dnom in omega (arith, e);
  rtlm = λ are. let e : 1 ≡ 0 = are.rtlm in omega (arith, e);
  kern = λ are. let e : 2 ≡ 0 = are.kern in omega (arith, e);
  trak = λ are. let e : 4 ≡ 0 = are.trak in omega (arith, e);
}

no : {A : Type 0} → true ≡ false → A
no e = absurd (cc)

no_back : {A : Type 0} → false ≡ true → A
no_back e = absurd (cc)

tables_of_plans : TablesOfPlans
tables_of_plans = record {
  gpos = record { fallback = (λ falls. no_back falls, λ none. no none.0); one_kerning = refl; one_table = refl };
  kerx = record { fallback = (λ falls. no_back falls, λ none. no none.1); one_kerning = refl; one_table = refl };
  kern = record { fallback = (λ falls. no_back falls, λ none. no none.2); one_kerning = refl; one_table = refl };
  none = record { fallback = (λ falls. (refl, refl, refl), λ none. refl); one_kerning = refl; one_table = refl };
  gpos_with_kern = record { fallback = (λ falls. no_back falls, λ none. no none.0); one_kerning = refl; one_table = refl };
  gpos_with_kerx = record { fallback = (λ falls. no_back falls, λ none. no none.0); one_kerning = refl; one_table = refl };
  nothing_at_all = λ is. no_back (is.fallback.1 (refl, refl, refl));
  beside_gpos = λ is. no (is.fallback.0 refl).0;
  beside_kerx = λ is. no (is.fallback.0 refl).1;
  beside_kern = λ is. no (is.fallback.0 refl).2;
  two_kernings = λ is. no is.one_kerning;
}

tag_of : Script → ℕ
tag_of script = script.0.0

texts_of_plans : TextsOfPlans
unfolding tag_of
texts_of_plans = record {
  same = record { direction = refl; script = refl };
  guessed = record { direction = refl; script = refl };
  guessed_without_script = record { direction = refl; script = refl };
  unknown_is_none = record { direction = refl; script = refl };
  none_is_unknown = record { direction = refl; script = refl };
  other_direction = λ fits. let e = fits.direction in absurd cc;
  not_the_guessed_one = λ fits. let e = fits.direction in absurd cc;
  other_script = λ fits. let e : 0x48656272 ≡ 0x4C61746E = ap tag_of fits.script in omega (arith, e);
  without_script = λ fits. let e : 0x5A7A7A7A ≡ 0x4C61746E = ap tag_of fits.script in omega (arith, e);
}

pub worked_fits : WorkedFits
worked_fits = record {
  masks = masks_of_plans;
  tables = tables_of_plans;
  both = λ d masks tables. record { masks = masks; tables = tables };
  has_masks = λ d is. is.masks;
  has_tables = λ d is. is.tables;
  texts = texts_of_plans;
}
