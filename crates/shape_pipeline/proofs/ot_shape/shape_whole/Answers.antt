use Rattle.std.proofs.Common.{◌≡◌, ◌∙◌, ap, arith, None}
use Rattle.shape_items.specs.Buffer.{Buffer, most_countable}
use Rattle.shape_buffer.specs.declared.buffer.error.ShapeError.TheVariants.{Length}
use Rattle.shape_pipeline.proofs.RunLemmas.{refused-length, Shapes-none, Shapes-some}
use Rattle.shape_pipeline.proofs.ot_shape.shape_whole.Goals as goal

pub returns-then-len-eq0-clause-ok : goal.returns-then-len-eq0-clause-ok
returns-then-len-eq0-clause-ok g c = Shapes-none _ _ c.args.buffer.now (omega arith)

pub returns-in-Ok-clause-ok : goal.returns-in-Ok-clause-ok
returns-in-Ok-clause-ok g c =
    Shapes-some _ c.args.target c.args.buffer.now _ _ (omega arith) c.in-Ok.ensures
    (c.leave.ensures ∙ ap (λ (b : Buffer). record b { length_limit = None; max_ops = most_countable }) c.set_direction.ensures)

pub returns-in-Err-clause-length : goal.returns-in-Err-clause-length
returns-in-Err-clause-length g c = λ is. record { past = refused-length c.in-Err.ensures (let e : c.in-Err.cause ≡ Length = cc in e) }
