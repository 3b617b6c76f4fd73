-- the call over the face below, which the opened face is seen as
use Rattle.std.proofs.Common.{sym}
use Rattle.opened_face.proofs.engine.OverOpenedByhb_ot_layout_tOpenedFace.aat_track.Goals as goal

pub returns : goal.returns
returns g c = λ map. rw (sym c.face.ensures) (c.aat_track.ensures map)
