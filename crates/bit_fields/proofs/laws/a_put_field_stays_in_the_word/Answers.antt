use Rattle.bit_fields.proofs.FieldLemmas.{with_field-below}
use Rattle.bit_fields.proofs.laws.a_put_field_stays_in_the_word.Goals as goal

pub returns : goal.returns
returns c = with_field-below
