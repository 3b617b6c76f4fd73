use Rattle.std.proofs.Common.{ap, arith, subst, sym, ◌∙◌}
use Rattle.ucd_table.specs.Groups.{group_at, HasGroup}
use Rattle.text_items.specs.declared.extension_table.TheConstants.{OFFSETS, SCRIPTS}
use Rattle.text_items.proofs.ExtensionLemmas.{has_list, list_is, none_listed, runs_part}
use Rattle.text_items.proofs.extensions.list_number.Goals as goal

pub returns-then-c-lt-FIRST-clause-list : goal.returns-then-c-lt-FIRST-clause-list
returns-then-c-lt-FIRST-clause-list c = none_listed c.args.c c.if-c-lt-FIRST.true

pub search-requires : goal.search-requires
search-requires c = runs_part

pub returns-clause-has : goal.returns-clause-has
returns-clause-has c = subst (HasGroup OFFSETS SCRIPTS) (sym c.search.ensures) (has_list c.args.c (omega arith))

pub returns-clause-list : goal.returns-clause-list
returns-clause-list c = ap (group_at OFFSETS SCRIPTS) c.search.ensures ∙ list_is c.args.c (omega arith)
