-- what a pen draws of the points of contours (OpenType, "glyf"): lines between points that the outline goes through, curves of
-- the second degree round those that it doesn't. Between two of these it goes through the point in the middle
use Rattle.std.specs.Prelude.{List, [], ◌∷◌, ◌++◌, Option, Some, None, length, if◌then◌else◌, slice_range}
use Rattle.glyph_outlines.specs.Frames.{middle}
use Rattle.glyph_outlines.specs.declared.frame.Point.{Point}
use Rattle.glyph_outlines.specs.declared.frame.OutlinePoint.{OutlinePoint}
use Rattle.glyph_outlines.specs.declared.segments.Segment.{Segment}
use Rattle.glyph_outlines.specs.declared.segments.Segment.TheVariants.{Move, Line, Curve, Close}

-- the point round which the curve goes to the next one
abbrev pub control_after : Point → Option Point
control_after p = if p.on then None else Some p

-- what leads to a point
abbrev pub lead : Option Point → Point → List Segment
lead None p = if p.on then Line p ∷ [] else []
lead (Some round) p = Curve round (if p.on then p else middle round p) ∷ []

-- what leads back to the start; a line there is drawn by closing the contour
abbrev pub closing : Point → Option Point → List Segment
closing start None = []
closing start (Some round) = Curve round start ∷ []

-- what leads through points and back to the start
abbrev pub led : Point → Option Point → List Point → List Segment
led start control [] = closing start control
led start control (p ∷ ps) = lead control p ++ led start (control_after p) ps

-- a contour begins at its first point, its last one, or between them, whichever the outline goes through
abbrev pub begin : Point → Point → Point
begin first last = if first.on then first else (if last.on then last else middle first last)

-- the last of a point and those behind it
abbrev pub last_of : Point → List Point → Point
last_of p [] = p
last_of p (q ∷ qs) = last_of q qs

-- nothing leads to the first point of a contour that begins there
abbrev pub targets : Point → List Point → List Point
targets first points = if first.on then slice_range points 1 (length points) else points

abbrev pub contour_from : Point → List Point → List Segment
contour_from first points = let start = begin first (last_of first points) in
    Move start ∷ (led start None (targets first points) ++ Close ∷ [])

abbrev pub contour : List Point → List Segment
contour [] = []
contour (first ∷ rest) = contour_from first (first ∷ rest)

-- the contours of points, of which the first is begun
abbrev pub outline : List Point → List OutlinePoint → List Segment
outline begun [] = []
outline begun (p ∷ ps) = if p.ends then contour (begun ++ p.point ∷ []) ++ outline [] ps else outline (begun ++ p.point ∷ []) ps
