use Rattle.std.proofs.Common.{◌≡◌}
use Rattle.shape_buffer.specs.declared.buffer.error.ShapeError.TheVariants.{Length}
use Rattle.word_cache.proofs.key.word_key.Goals as goal

pub returns-in-Err-clause-length : goal.returns-in-Err-clause-length
returns-in-Err-clause-length g c = λ is. let cause : c.in-Err.fault.cause ≡ Length = cc in c.in-Err.ensures.length cause
