use Rattle.std.proofs.Common.{inr}
use Rattle.std.proofs.lemmas.Result.{on_ok_weaker}
use Rattle.shape_normalize.proofs.ot_shape_normalize.compare.normalize_both.Goals as goal

pub returns-clause-first : goal.returns-clause-first
returns-clause-first g c =
    on_ok_weaker c._hb_ot_shape_normalize-2.result
    (λ second. c.in_ok-_hb_ot_shape_normalize.ensures.ok) c._hb_ot_shape_normalize-2.ensures.ok

pub returns-clause-length : goal.returns-clause-length
returns-clause-length g c = λ is_length. inr (c._hb_ot_shape_normalize-2.ensures.length is_length)
