use Rattle.bidi.proofs.SequenceLemmas.{some_members, with_classes_is}
use Rattle.bidi.proofs.sequences.resolve_with.Goals as goal

pub returns : goal.returns
returns c =
    with_classes_is c.args.base c.args.members.now c.args.classes.now c.resolve_classes.new.classes c.args.levels.now c.write_levels.new.levels
    (some_members c.args.members.now c.is_empty.result c.is_empty.ensures c.if-is_empty.false)
    c.in_ok-resolve_classes.ensures c.write_levels.ensures
