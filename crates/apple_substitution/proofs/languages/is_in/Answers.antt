use Rattle.std.proofs.Common.{refl, ◌∙◌}
use Rattle.apple_substitution.specs.Languages.{MOST_LETTERS, is_in}
use Rattle.apple_substitution.proofs.LanguageLemmas.{in_all, in_ended, in_next, in_other}
use Rattle.apple_substitution.proofs.languages.is_in.Goals as goal

pub loop-at-init : goal.loop-at-init
unfolding is_in
loop-at-init c = refl

pub returns-then-letter-eq0 : goal.returns-then-letter-eq0
returns-then-letter-eq0 c =
    c.ends_at.ensures
    ∙ in_ended c.args.language.now c.args.text.now MOST_LETTERS c.loop-at.at c.letter_at-letter.result _ c.loop-at-test.true
    c.loop-at.invariant c.letter_at-letter.ensures c.if-letter-eq0.true

pub returns-then-letter-letter_at : goal.returns-then-letter-letter_at
returns-then-letter-letter_at c =
    in_other c.args.language.now c.args.text.now MOST_LETTERS c.loop-at.at c.letter_at-letter.result c.letter_at.result _ c.loop-at-test.true
    c.loop-at.invariant c.letter_at-letter.ensures c.letter_at.ensures c.if-letter-eq0.false c.if-letter-letter_at.true

pub loop-at-preserved : goal.loop-at-preserved
loop-at-preserved c =
    in_next c.args.language.now c.args.text.now MOST_LETTERS c.loop-at.at c.letter_at-letter.result c.letter_at.result _ c.loop-at-test.true
    c.loop-at.invariant c.letter_at-letter.ensures c.letter_at.ensures c.if-letter-eq0.false c.if-letter-letter_at.false

pub returns : goal.returns
returns c =
    c.ends_at-2.ensures
    ∙ in_all c.args.language.now c.args.text.now MOST_LETTERS c.loop-at.at _ c.loop-at.invariant c.loop-at-test.false c.loop-at.auto.at-end
