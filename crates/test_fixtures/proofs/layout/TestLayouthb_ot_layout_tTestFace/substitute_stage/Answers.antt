use Rattle.std.proofs.lemmas.List.{drop_more}
use Rattle.test_fixtures.specs.declared.rules.Stage.TheVariants.{Add}
use Rattle.test_fixtures.proofs.layout.TestLayouthb_ot_layout_tTestFace.substitute_stage.Goals as goal

pub returns-then-i-face : goal.returns-then-i-face
returns-then-i-face c = rw (drop_more c.args.face.now.stages.now c.args.i (Add 0) c.if-i-face.true) c.run_stage.ensures
