use Rattle.std.proofs.lemmas.Result.{IfOk-weaker}
use Rattle.shape_pipeline.proofs.StringLemmas.{text_of-appended}
use Rattle.shape_pipeline.proofs.strings.append.Goals as goal

pub returns-clause-ok : goal.returns-clause-ok
returns-clause-ok c =
    IfOk-weaker c.push_str.result _ _
    (λ done is. text_of-appended c.args.string.now c.args.buffer.now c.push_str.new.self _ c.requires is c.push_str.ensures.clusters.0
    c.push_str.ensures.first) c.push_str.ensures.ok
