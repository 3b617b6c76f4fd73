use Rattle.std.proofs.Common.{rules}
use Rattle.arabic_stretching.specs.Stretching.{stretched}
use Rattle.arabic_stretching.proofs.OutcomeLemmas.{outcome_laid, outcome_memory}
use Rattle.arabic_stretching.proofs.stretching.stretch_tiles.Goals as goal

pub returns-clause-outcome : goal.returns-clause-outcome
returns-clause-outcome g c =
    outcome_laid (g.F.hb_font_t.face c.args.face.now) c.args.buffer.now c.turn.new.buffer c.lay_out.new.buffer c.turn-2.new.buffer
    c.is_leftward-right_to_left.result (search rules) (search rules) c.turn.ensures.made c.turn.ensures.same_limit (search rules) (search rules)
    (search rules) c.turn-2.ensures.made c.turn-2.ensures.same_limit

pub returns-in_err-lay_out-clause-outcome : goal.returns-in_err-lay_out-clause-outcome
returns-in_err-lay_out-clause-outcome g c =
    outcome_memory (stretched (g.F.hb_font_t.face c.args.face.now)) c.args.buffer.now c.lay_out.new.buffer c.in_err-lay_out.field-0.0
    c.from_residual.result (search rules) (search rules)
