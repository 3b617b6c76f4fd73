use Rattle.bit_fields.proofs.MaskLemmas.{masked}
use Rattle.bit_fields.proofs.laws.a_mask_puts_a_field.Goals as goal

pub returns : goal.returns
returns c = masked
