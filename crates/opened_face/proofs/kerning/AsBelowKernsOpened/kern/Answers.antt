-- the call over the face below, which the opened face is seen as
use Rattle.std.proofs.Common.{sym}
use Rattle.opened_face.proofs.kerning.AsBelowKernsOpened.kern.Goals as goal

pub returns : goal.returns
returns g c = λ map. rw (sym c.face.ensures) (c.kern.ensures map)
