use Rattle.std.proofs.Common.{◌≡◌, false, true, Some, ap, sym, ◌∙◌, arith}
use Rattle.std.proofs.lemmas.Bool.{cond-false}
use Rattle.std.proofs.lemmas.Bool.Decides.{nat_tests}
use Rattle.ucd_normal.specs.Composition.{composite}
use Rattle.unicode_normalization.specs.Hangul.{is_syllable}
use Rattle.shape_unicode.specs.LastStep.{split_by}
use Rattle.shape_unicode.specs.Split.{parts_of, split_syllable, is_whole_early}
use Rattle.shape_unicode.proofs.LastStepLemmas.{split_by-split, whole_early}
use Rattle.shape_unicode.proofs.split.split.Goals as goal

-- the step that is found by the full decomposition is the mapping of the database
pub returns-else-is_syllable : goal.returns-else-is_syllable
returns-else-is_syllable c =
    c.split_by.ensures ∙ ap (split_by composite c.args.c) c.canonical_decomposition.ensures
    ∙ split_by-split c.args.c ∙ sym (cond-false (is_syllable c.args.c) _ _ (sym c.is_syllable.ensures ∙ c.if-is_syllable.false))

pub returns-then-is_whole_early : goal.returns-then-is_whole_early
returns-then-is_whole_early c =
    let early : is_whole_early c.args.c ≡ true = sym c.if-is_whole_early.ensures in
    let no_syllable : is_syllable c.args.c ≡ false = grind (arith, nat_tests, early) in
    sym (cond-false (is_syllable c.args.c) (Some (split_syllable c.args.c)) _ no_syllable ∙ ap parts_of (whole_early c.args.c early))
