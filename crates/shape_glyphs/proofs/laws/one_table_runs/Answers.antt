use Rattle.shape_glyphs.proofs.OneTableLemmas.{each_runs_one_table}
use Rattle.shape_glyphs.proofs.laws.one_table_runs.Goals as goal

pub returns : goal.returns
returns c = each_runs_one_table
