use Rattle.bidi.proofs.SequenceLemmas.{resolved_is}
use Rattle.bidi.proofs.sequences.resolve_classes.Goals as goal

pub returns : goal.returns
returns c =
    resolved_is c.args.base c.args.members.now c.args.first c.args.last c.of_level-embedding.result c.sos_of-sos.result c.eos_of-eos.result
    c.args.classes.now c.weak.new.classes c.brackets.new.classes c.neutral.new.classes c.of_level-embedding.ensures c.sos_of-sos.ensures
    c.eos_of-eos.ensures c.weak.ensures c.in_ok-brackets.ensures c.neutral.ensures
