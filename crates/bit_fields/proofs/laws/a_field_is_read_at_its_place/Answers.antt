use Rattle.bit_fields.proofs.FieldLemmas.{fields-at}
use Rattle.bit_fields.proofs.laws.a_field_is_read_at_its_place.Goals as goal

pub returns : goal.returns
returns c = fields-at
