use Rattle.bit_fields.proofs.FieldLemmas.{fields-with_field}
use Rattle.bit_fields.proofs.laws.a_put_field_changes_alone.Goals as goal

pub returns : goal.returns
returns c = fields-with_field
