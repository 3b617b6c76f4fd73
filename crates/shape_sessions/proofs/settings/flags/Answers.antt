use Rattle.shape_sessions.proofs.FlagLemmas.{flags_read}
use Rattle.shape_sessions.specs.Settings.{number}
use Rattle.shape_sessions.specs.Words.{words}
use Rattle.shape_sessions.proofs.settings.flags.Goals as goal

pub returns : goal.returns
returns c =
    flags_read c.from_bits.result c.in_ok-number.field-0 (number (words c.args.words.rest.now)) c.in_ok-number.ensures.0 c.in_ok-number.ensures.1
    (c.from_bits.ensures.value tt) (c.from_bits.ensures.known tt)
