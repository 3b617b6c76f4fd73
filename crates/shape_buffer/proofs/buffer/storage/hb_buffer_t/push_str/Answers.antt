use Rattle.std.specs.Str.{chars}
use Rattle.shape_buffer.proofs.TextLemmas.{clusters-rise, text_items-first, text_items-below}
use Rattle.shape_buffer.proofs.buffer.storage.hb_buffer_t.push_str.Goals as goal

pub returns-in_err-reserve-clause-clusters : goal.returns-in_err-reserve-clause-clusters
returns-in_err-reserve-clause-clusters c = (clusters-rise 0 (chars c.args.text.now), text_items-below c.args.text.now c.utf8.text)

pub returns-in_err-reserve-clause-first : goal.returns-in_err-reserve-clause-first
returns-in_err-reserve-clause-first c = text_items-first c.args.text.now c.utf8.text
