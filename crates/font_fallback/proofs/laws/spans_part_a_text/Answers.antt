use Rattle.font_fallback.proofs.SpanLemmas.{AreSpans-unique, IsInOne-from_spans}
use Rattle.font_fallback.proofs.laws.spans_part_a_text.Goals as goal

pub returns-clause-unique : goal.returns-clause-unique
returns-clause-unique c = λ font_at start end. AreSpans-unique font_at end start

pub returns-clause-each : goal.returns-clause-each
returns-clause-each c = λ font_at start end. IsInOne-from_spans font_at end start
