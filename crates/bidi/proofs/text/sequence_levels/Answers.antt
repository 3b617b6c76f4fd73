use Rattle.std.proofs.Common.{◌∙◌, length, ap, subst, sym}
use Rattle.std.proofs.lemmas.List.{length-map}
use Rattle.bidi.specs.Explicit.{stack_of}
use Rattle.bidi.specs.Members.{members}
use Rattle.bidi.specs.Sequences.{AreWithin}
use Rattle.bidi.specs.Text.{level_of}
use Rattle.bidi.proofs.KeptLemmas.{length_sequences}
use Rattle.bidi.proofs.WithinLemmas.{length_explicit, members_within}
use Rattle.bidi.proofs.text.sequence_levels.Goals as goal

pub members-requires-clause-placed : goal.members-requires-clause-placed
members-requires-clause-placed c =
    ap length (c.deref.ensures.value ∙ c.in_ok-placed.ensures.placed) ∙ length_explicit c.args.base (stack_of c.args.base) c.args.classes.now ∙ c.requires.same

pub resolve_sequences-requires : goal.resolve_sequences-requires
resolve_sequences-requires c =
    subst AreWithin (sym (c.deref-3.ensures.value ∙ c.in_ok-members.ensures
    ∙ ap (members c.args.base c.args.text.now c.args.classes.now) (c.deref.ensures.value ∙ c.in_ok-placed.ensures.placed)))
    (members_within c.args.base c.args.text.now c.args.classes.now c.requires.base)

pub fill_removed-requires : goal.fill_removed-requires
fill_removed-requires c =
    ap length (c.deref_mut.ensures.value ∙ c.in_ok-levels-2.ensures)
    ∙ length_sequences c.args.base c.deref-3.result.now c.in_ok-levels.levels.items (subst AreWithin (sym (c.deref-3.ensures.value ∙ c.in_ok-members.ensures
    ∙ ap (members c.args.base c.args.text.now c.args.classes.now) (c.deref.ensures.value ∙ c.in_ok-placed.ensures.placed)))
    (members_within c.args.base c.args.text.now c.args.classes.now c.requires.base))
    ∙ ap length c.in_ok-levels.ensures ∙ length-map c.deref-2.result.now level_of
    ∙ ap length (c.deref-2.ensures.value ∙ c.in_ok-placed.ensures.placed) ∙ length_explicit c.args.base (stack_of c.args.base) c.args.classes.now
