use Rattle.std.proofs.Common.{◌∙◌, length, subst, sym}
use Rattle.bidi.specs.Sequences.{AreWithin}
use Rattle.bidi.proofs.PlainLemmas.{plain_sequences}
use Rattle.bidi.proofs.WithinLemmas.{members_within}
use Rattle.bidi.proofs.text.plain_sequence.Goals as goal

pub one_sequence-requires : goal.one_sequence-requires
one_sequence-requires c =
    subst AreWithin (sym (c.deref.ensures.value ∙ c.in_ok-members.ensures))
    (members_within c.args.base c.args.text.now c.args.classes.now c.requires.base)

pub returns-clause-levels : goal.returns-clause-levels
returns-clause-levels c =
    c.in_ok-levels.ensures.levels
    ∙ plain_sequences c.args.base c.args.text.now c.args.classes.now c.deref.result.now (length c.args.text.now) c.requires.plain c.requires.same
    (c.deref.ensures.value ∙ c.in_ok-members.ensures)
