use Rattle.std.proofs.Common.{◌≡◌, drop, fold}
use Rattle.arabic_fallback.specs.Ligating.{with_kept, kept}
use Rattle.arabic_fallback.proofs.ligating.kept.Given as goal

abbrev pub invariant-loop-info : goal.invariant-loop-info
invariant-loop-info l = record { made : fold with_kept l.items.items (drop l.info-index l.infos) ≡ kept l.infos }
