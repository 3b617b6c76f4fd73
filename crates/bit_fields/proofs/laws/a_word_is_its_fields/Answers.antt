use Rattle.bit_fields.proofs.FieldLemmas.{word_of-fields, fields-word_of, equal_fields}
use Rattle.bit_fields.proofs.laws.a_word_is_its_fields.Goals as goal

pub returns-clause-made : goal.returns-clause-made
returns-clause-made c = word_of-fields

pub returns-clause-read : goal.returns-clause-read
returns-clause-read c = fields-word_of

pub returns-clause-equal : goal.returns-clause-equal
returns-clause-equal c = equal_fields
