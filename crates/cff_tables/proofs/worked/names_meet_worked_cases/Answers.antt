use Rattle.cff_tables.specs.Worked.Names.{worked_charsets, worked_strings, worked_codes, worked_names}
use Rattle.cff_tables.proofs.worked.names_meet_worked_cases.Goals as goal

pub returns-clause-charsets : goal.returns-clause-charsets
returns-clause-charsets c = worked_charsets

pub returns-clause-strings : goal.returns-clause-strings
returns-clause-strings c = worked_strings

pub returns-clause-codes : goal.returns-clause-codes
returns-clause-codes c = worked_codes

pub returns-clause-names : goal.returns-clause-names
returns-clause-names c = worked_names
