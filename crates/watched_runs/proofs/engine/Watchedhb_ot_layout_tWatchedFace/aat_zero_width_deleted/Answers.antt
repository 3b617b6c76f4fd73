use Rattle.watched_runs.proofs.engine.Watchedhb_ot_layout_tWatchedFace.aat_zero_width_deleted.Goals as goal

pub returns : goal.returns
returns g c = λ map watched. c.aat_zero_width_deleted.ensures map watched.face.now
