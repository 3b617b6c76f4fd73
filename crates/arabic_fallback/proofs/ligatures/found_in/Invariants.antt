use Rattle.std.proofs.Common.{◌≡◌, drop}
use Rattle.arabic_fallback.specs.Ligatures.{found_in}
use Rattle.arabic_fallback.proofs.ligatures.found_in.Given as goal

abbrev pub invariant-loop-row : goal.invariant-loop-row
invariant-loop-row l = record { rest : found_in l.rule (drop l.row-index l.rows) l.infos l.at ≡ found_in l.rule l.rows l.infos l.at }
